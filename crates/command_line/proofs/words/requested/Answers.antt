use Rattle.clap.specs.Words.{first_value, found_of}
use Rattle.command_line.proofs.Spelled.{none_requested}
use Rattle.command_line.proofs.words.requested.Goals as goal

pub returns-in_err-spelled-clause-none : goal.returns-in_err-spelled-clause-none
returns-in_err-spelled-clause-none c =
    none_requested _ c.args.name.now (first_value (found_of c.args.inner.now)) (λ request h. c.in_err-spelled.ensures.none request.settings h.settings)

pub returns-in_err-seconds-clause-none : goal.returns-in_err-seconds-clause-none
returns-in_err-seconds-clause-none c =
    none_requested _ c.args.name.now (first_value (found_of c.args.inner.now)) (λ request h. c.in_err-seconds.ensures.none request.seconds h.seconds_given request.some_seconds request.most_seconds)

pub returns-in_err-megabytes-clause-none : goal.returns-in_err-megabytes-clause-none
returns-in_err-megabytes-clause-none c =
    none_requested _ c.args.name.now (first_value (found_of c.args.inner.now)) (λ request h. c.in_err-megabytes.ensures.none request.megabytes h.megabytes_given request.some_megabytes request.most_megabytes)

pub returns-in_err-threads-clause-none : goal.returns-in_err-threads-clause-none
returns-in_err-threads-clause-none c =
    none_requested _ c.args.name.now (first_value (found_of c.args.inner.now)) (λ request h. c.in_err-threads.ensures.none request.threads h.threads_given request.some_threads request.most_threads)

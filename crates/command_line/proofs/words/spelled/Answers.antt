use Rattle.clap.specs.Words.{first_value, found_of}
use Rattle.command_line.proofs.Spelled.{none_spelled}
use Rattle.command_line.proofs.words.spelled.Goals as goal

pub returns-in_err-fuel-clause-none : goal.returns-in_err-fuel-clause-none
returns-in_err-fuel-clause-none c =
    none_spelled _ c.args.name.now (first_value (found_of c.args.inner.now)) (λ settings h. c.in_err-fuel.ensures.none settings.fuel h.fuel_given settings.some_fuel h.fuel_fits)

pub returns-in_err-nodes-clause-none : goal.returns-in_err-nodes-clause-none
returns-in_err-nodes-clause-none c =
    none_spelled _ c.args.name.now (first_value (found_of c.args.inner.now)) (λ settings h. c.in_err-nodes.ensures.none settings.nodes h.nodes_given settings.some_nodes settings.most_nodes)

pub returns-in_err-number_or-clause-none : goal.returns-in_err-number_or-clause-none
returns-in_err-number_or-clause-none c =
    none_spelled _ c.args.name.now (first_value (found_of c.args.inner.now)) (λ settings h. c.in_err-number_or.ensures.none settings.seed h.seed_given h.seed_fits)

pub returns-in_err-workers-clause-none : goal.returns-in_err-workers-clause-none
returns-in_err-workers-clause-none c =
    none_spelled _ c.args.name.now (first_value (found_of c.args.inner.now)) (λ settings h. c.in_err-workers.ensures.none settings.workers h.workers_given settings.some_workers settings.most_workers)

pub returns-in_err-turns-clause-none : goal.returns-in_err-turns-clause-none
returns-in_err-turns-clause-none c =
    none_spelled _ c.args.name.now (first_value (found_of c.args.inner.now)) (λ settings h. c.in_err-turns.ensures.none settings.turns h.turns_given settings.most_turns)

pub returns-in_err-entries-clause-none : goal.returns-in_err-entries-clause-none
returns-in_err-entries-clause-none c =
    none_spelled _ c.args.name.now (first_value (found_of c.args.inner.now)) (λ settings h. c.in_err-entries.ensures.none settings.entries h.entries_given settings.some_entries settings.most_entries)

pub returns-in_err-restarts-clause-none : goal.returns-in_err-restarts-clause-none
returns-in_err-restarts-clause-none c =
    none_spelled _ c.args.name.now (first_value (found_of c.args.inner.now)) (λ settings h. c.in_err-restarts.ensures.none settings.restarts h.restarts_given settings.most_restarts)

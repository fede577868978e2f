use Rattle.std.proofs.Common.{◌≡◌, ◌∙◌}
use Rattle.dlx_reader.specs.Left.{line_of, worded_left}
use Rattle.dlx_reader.specs.Lines.{words_of}
use Rattle.dlx_reader.specs.OptionIndex.{key_named}
use Rattle.dlx_reader.proofs.Further.{further_on, further_unknown}
use Rattle.dlx_reader.proofs.KeyNames.{lowest_from_unmeant, none_from_unmeant}
use Rattle.dlx_reader.proofs.answer.options_of.Goals as goal

pub returns-in_default-2-clause-fault : goal.returns-in_default-2-clause-fault
returns-in_default-2-clause-fault c =
    let p = c.args.problem.now in
    let words = words_of c.in-Some.line.text.now in
    let used = c.loop-line.index.options in
    let key : c.name_key.new.key.items ≡ key_named p.names p.colour_names words = rw (c.in_ok-names.ensures.names, c.in_ok-colour_names.ensures.names) at c.in_ok-name_key.ensures in
    let none = rw (c.in_default-2.is, c.deref-in-Some.ensures.value, c.loop-line.invariant.same) at c.in_ok-_option.ensures.none in
    further_unknown p (line_of c.in-Some.line) (worded_left c.take_worded.new.self) (worded_left c.args.lines) used (rw c.in-Some.ensures.some.lines at c.loop-line.invariant.further)
    (none_from_unmeant p used words c.name_key.new.key.items c.in_ok-names.ensures.problem key none)

pub loop-line-preserved : goal.loop-line-preserved
loop-line-preserved c =
    let p = c.args.problem.now in
    let words = words_of c.in-Some.line.text.now in
    let used = c.loop-line.index.options in
    let key : c.name_key.new.key.items ≡ key_named p.names p.colour_names words = rw (c.in_ok-names.ensures.names, c.in_ok-colour_names.ensures.names) at c.in_ok-name_key.ensures in
    let lowest = rw (c.in-Some-2.is, c.deref-in-Some.ensures.value, c.loop-line.invariant.same) at c.in_ok-_option.ensures.some in
    let more = rw c.in-Some-2.is at c.in_ok-_option.ensures.more in
    record {
      same = c.in_ok-_option.ensures.problem ∙ c.loop-line.invariant.same;
      further = further_on p (line_of c.in-Some.line) (worded_left c.take_worded.new.self) (worded_left c.args.lines) used c.take.new.self.options c.in-Some-2._option (rw c.in-Some.ensures.some.lines at c.loop-line.invariant.further) more
          (lowest_from_unmeant p used words c.name_key.new.key.items c.in-Some-2._option c.in_ok-names.ensures.problem key lowest);
    }

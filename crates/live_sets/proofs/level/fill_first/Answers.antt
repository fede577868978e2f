use Rattle.std.proofs.Common.{◌≡◌, ℕ, List, [], length, arith, subst, sym}
use Rattle.option_sets.specs.Sets.{words_of}
use Rattle.live_sets.specs.Counting.{IsLive}
use Rattle.live_sets.proofs.Layered.{level_first}
use Rattle.live_sets.proofs.Marked.{live_none}
use Rattle.live_sets.proofs.level.fill_first.Goals as goal

pub returns-clause-all : goal.returns-clause-all
returns-clause-all c =
    let long : length c.fill.new.set ≡ words_of c.args.sets.now = omega (arith, c.fill.auto.set, c.split_at_mut-first.ensures.front_len, c.words.ensures) in
    let P : List ℕ → Type 0 = λ ws. IsLive c.args.sets.now [] ws in
    subst P (sym (level_first (words_of c.args.sets.now) c.fill.new.set c.split_at_mut-first.result.1.now long)) (live_none c.args.sets.now c.fill.new.set long c.fill.ensures)

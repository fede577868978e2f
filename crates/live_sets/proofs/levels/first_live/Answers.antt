use Rattle.std.proofs.Common.{ℕ, List, [], arith, subst, sym}
use Rattle.std.proofs.lemmas.List.{with_items_is}
use Rattle.option_sets.specs.Sets.{words_of}
use Rattle.live_sets.specs.Counting.{IsLive}
use Rattle.live_sets.specs.Levels.{level_at}
use Rattle.live_sets.proofs.levels.first_live.Goals as goal

pub returns-clause-all : goal.returns-clause-all
returns-clause-all c =
    let P : List ℕ → Type 0 = λ ws. IsLive c.args.sets.now [] (level_at (words_of c.args.sets.now) 0 ws) in
    subst P (sym (with_items_is c.in_ok-live.live c.fill_first.new.live (omega (arith, c.fill_first.auto.live, c.deref_mut.ensures.len)))) c.fill_first.ensures.all

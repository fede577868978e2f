use Rattle.std.proofs.Common.{◌≡◌, ◌++◌, take}
use Rattle.std.specs.List.{flat_map}
use Rattle.reason_engine.specs.ReasonText.{clique_text}
use Rattle.reason_engine.proofs.text.push_cliques.Given as goal

abbrev pub invariant-loop-clique : goal.invariant-loop-clique
invariant-loop-clique l = l.text.items ≡ l.fn.text.items ++ flat_map clique_text (take l.clique-index l.cliques)

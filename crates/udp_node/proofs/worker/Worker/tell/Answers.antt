use Rattle.std.proofs.Common.{◌≡◌, ℕ, ◌-◌, true, List, take, drop, refl, ap, ◌∙◌}
use Rattle.std.proofs.Math.ListN.{take-append-drop}
use Rattle.cover_problem.specs.Prefix.{is_prefix}
use Rattle.cover_problem.specs.Problem.{Problem}
use Rattle.cover_problem.proofs.Fronts.{prefix_front}
use Rattle.udp_node.proofs.worker.Worker.tell.Goals as goal

-- the front of a prefix is a prefix, in an equal problem
front : (p q : Problem) (xs : List ℕ) (n : ℕ) → p ≡ q → is_prefix q xs ≡ true → is_prefix p (take n xs) ≡ true
front p q xs n same prefix = prefix_front p (take n xs) (drop n xs) (ap (is_prefix p) (take-append-drop n xs) ∙ (ap (λ r. is_prefix r xs) same ∙ prefix))

pub barren_visits-requires : goal.barren_visits-requires
barren_visits-requires g c = front c.loop-length.self.searcher.problem g.J.Run.run.problem c.args.prefix.now (c.loop-length.length - 1) c.loop-length.self.same c.requires

pub tell-requires-clause-prefix : goal.tell-requires-clause-prefix
tell-requires-clause-prefix g c = front g.J.Run.run.problem g.J.Run.run.problem c.args.prefix.now (c.loop-length.length - 1) refl c.requires

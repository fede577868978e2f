-- The words of the live options as a key.
use Rattle.std.proofs.Common.{◌≡◌, ℕ, ◌&&◌, List, length, Some, ap, ◌∙◌}
use Rattle.std.proofs.lemmas.Bool.{lt-ltb}
use Rattle.cover_problem.specs.Branching.{branch_item}
use Rattle.cover_problem.specs.Prefix.{is_live}
use Rattle.cover_problem.specs.Problem.{Problem}
use Rattle.cover_problem.proofs.Alike.{branch_alive}
use Rattle.choices.specs.Choices.{IsChild}
use Rattle.choices.specs.Keys.{TellLive}
use Rattle.live_sets.specs.Counting.{IsLive}

pub key_of_live : (p : Problem) (os live : List ℕ) (i o : ℕ) → IsLive p os live → branch_item p os ≡ Some i → IsChild p os i o → TellLive p os live
key_of_live p os live i o is branch child = record {
  live = λ x inside. is.exact x ∙ ap (λ b. b && is_live p os x) (lt-ltb x (length p.options) inside);
  alive = branch_alive p os i o branch child.inside child.live child.named;
}

-- The options of the first lines of an answer, line by line.
use Rattle.std.proofs.Common.{◌≡◌, ℕ, List, [], ◌∷◌, ◌++◌, append_assoc, append-nil, refl, sym, ◌∙◌, subst}
use Rattle.cover_problem.specs.Problem.{Problem}
use Rattle.dlx_reader.specs.Answers.{IsFree, IsLowestFree, AreOptionsOf, IsFirstUnknown}
use Rattle.dlx_reader.proofs.AnswerOptions.{AreOptionsOf-none, AreOptionsOf-push}

-- of all lines, those that have these options, and those that are left
pub record Further (p : Problem) (left whole : List (ℕ × List (List ℕ))) (options : List ℕ) : Type 0 where
  pub done : List (ℕ × List (List ℕ))
  pub parts : whole ≡ done ++ left
  pub are : AreOptionsOf p done options

pub further_start : (p : Problem) (whole : List (ℕ × List (List ℕ))) → Further p whole whole []
further_start p whole = record { done = []; parts = refl; are = AreOptionsOf-none p }

pub further_on : (p : Problem) (line : ℕ × List (List ℕ)) (left whole : List (ℕ × List (List ℕ))) (options more : List ℕ) (o : ℕ) → Further p (line ∷ left) whole options → more ≡ options ++ o ∷ [] → IsLowestFree p options line.1 o → Further p left whole more
further_on p line left whole options more o f is free =
    let P : List ℕ → Type 0 = λ os. AreOptionsOf p (f.done ++ line ∷ []) os in
    record { done = f.done ++ line ∷ []; parts = f.parts ∙ sym (append_assoc f.done (line ∷ []) left); are = subst P (sym is) (AreOptionsOf-push p f.done options line o f.are free) }

pub further_end : (p : Problem) (whole : List (ℕ × List (List ℕ))) (options : List ℕ) → Further p [] whole options → AreOptionsOf p whole options
further_end p whole options f = let P : List (ℕ × List (List ℕ)) → Type 0 = λ lines. AreOptionsOf p lines options in subst P (sym (f.parts ∙ append-nil f.done)) f.are

-- a line for which no option is free
pub further_unknown : (p : Problem) (line : ℕ × List (List ℕ)) (left whole : List (ℕ × List (List ℕ))) (used : List ℕ) → Further p (line ∷ left) whole used → ((o : ℕ) → IsFree p used line.1 o → ⊥) → IsFirstUnknown p whole line.0
further_unknown p line left whole used f missing = record {
  words = line.1;
  before = f.done;
  after = left;
  place = f.parts;
  used = used;
  options = f.are;
  missing = missing;
}

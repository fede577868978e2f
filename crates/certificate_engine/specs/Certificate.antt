-- What is said of a certificate.
use Rattle.std.specs.Prelude.{◌≡◌, ℕ, List, [], ◌∷◌, ◌++◌, Bool, codes}
use Rattle.std.specs.Fmt.{decimal}
use Rattle.cover_problem.specs.ExactCover.{IsExactCover}
use Rattle.cover_problem.specs.Problem.{Problem}
use Rattle.cover_certificates.specs.declared.checked.Checked.{Checked}
use Rattle.cover_certificates.specs.declared.checked.Checked.TheVariants as results
use Rattle.cover_certificates.specs.declared.expected.Expected.{Expected}
use Rattle.cover_certificates.specs.declared.expected.Expected.TheVariants as expectations
use Rattle.search_engines.specs.Check.{right}
use Rattle.search_engines.specs.Output.{Said, said}

-- what was expected, in words
abbrev pub expected_text : Expected → List ℕ
expected_text expectations.None = codes "'none'"
expected_text expectations.Counts = codes "'cases' or 'clauses' and the numbers of items and options of the file"
expected_text expectations.Refutation = codes "the number of an item, or = or * and a number"
expected_text expectations.OpenItem = codes "an item that is still to be covered"
expected_text expectations.KeptCase = codes "the number of a case that is kept"
expected_text expectations.WiderCase = codes "a kept case whose items are all to be covered here, by no other options than there"
expected_text expectations.IdleChoice = codes "a line that goes back over a choice that plays no part"
expected_text expectations.Amounts = codes "'weights' or 'room' with numbers of items and their amounts"
expected_text expectations.Reason = codes "the number of a reason"
expected_text expectations.ReasonHere = codes "a reason that holds here"
expected_text expectations.Clause = codes "'d' and a number, or literals and hints"
expected_text expectations.Following = codes "a clause that follows along its hints"
expected_text expectations.KnownClause = codes "the number of a clause that there is"
expected_text expectations.End = codes "the end"

-- which line is wrong, and what was expected there
abbrev pub wrong_text : ℕ → Expected → List ℕ
wrong_text line expected = codes "wrong: line " ++ decimal line ++ codes ": expected " ++ expected_text expected ++ 10 ∷ []

-- that the certificate is right, with status 0, or what is wrong with it, with status 1
abbrev pub checked_said : Checked → Said
checked_said results.Right = right
checked_said (results.Wrong line expected) = said (wrong_text line expected) 1

-- It says what a test came to. The test is passed only where no set of options is an exact cover.
pub record CertificateSays (problem : Problem) (what : Said) : Type 0 where
  pub checked : Checked
  pub holds : checked ≡ results.Right → (chosen : ℕ → Bool) → IsExactCover problem chosen → ⊥
  pub is : what ≡ checked_said checked

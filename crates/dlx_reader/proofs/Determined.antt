-- A text has one problem, or a first fault.
use Rattle.std.proofs.Common.{◌≡◌, ℕ, List, Some, None, Result, Ok, Err, IfOk, IfErr, sym, ap, ◌∙◌, refl}
use Rattle.cover_problem.specs.Problem.{Problem}
use Rattle.dlx_reader.specs.Content.{content_of}
use Rattle.dlx_reader.specs.Faults.{first_fault}
use Rattle.dlx_reader.specs.ProblemOf.{IsProblemOf, HasNoProblem}
use Rattle.dlx_reader.specs.Reading.{GivesPlain, Reading, reading_of, read_by}
use Rattle.dlx_reader.specs.declared.fault.ReadFault.{ReadFault}
use Rattle.dlx_reader.specs.declared.fault.ReadFault.TheVariants.{Memory}
use Rattle.dlx_reader.specs.declared.reading.Read.{Read}
use Rattle.dlx_reader.specs.declared.text_fault.TextFault.{TextFault}
use Rattle.dlx_reader.specs.Unknown.{plain}
use Rattle.dlx_reader.proofs.FirstFaults.{text_fault}
use Rattle.dlx_reader.proofs.Placed.{fault_of}
use Rattle.dlx_reader.proofs.Relation.{problem_read, text_related}
use Rattle.dlx_reader.proofs.Whole.{text_whole}

-- ---- laws

same_read : (p q : Problem) (n m : ℕ) → read_by p n ≡ read_by q m → (p ≡ q) × (n ≡ m)
same_read p q n m e = (ap (λ (r : Reading). problem_read r.names r.primary r.kept) e, ap (λ (r : Reading). r.kept.ignored) e)

-- a text has at most one problem
pub one_problem : (text : List ℕ) (p q : Problem) (n m : ℕ) → IsProblemOf text p n → IsProblemOf text q m → (p ≡ q) × (n ≡ m)
one_problem text p q n m h g =
    same_read p q n m (same_value (reading_of (content_of text)) (read_by p n) (read_by q m) (text_whole text p n h) (text_whole text q m g))
  where
    same_value : (r : Result Reading ReadFault) (a b : Reading) → r ≡ Ok a → r ≡ Ok b → a ≡ b
    same_value r a b d e = cc

-- a text with a problem has no first fault
pub no_fault : (text : List ℕ) (problem : Problem) (ignored : ℕ) → IsProblemOf text problem ignored → first_fault text ≡ None
no_fault text problem ignored h = sym (text_fault text) ∙ ap fault_of (text_whole text problem ignored h)

-- and one without a first fault has a problem
pub some_problem : (text : List ℕ) → first_fault text ≡ None → (problem : Problem) × ((ignored : ℕ) × IsProblemOf text problem ignored)
some_problem text h =
    (elim (reading_of (content_of text)) as (λ r. reading_of (content_of text) ≡ r → fault_of r ≡ None → (problem : Problem) × ((ignored : ℕ) × IsProblemOf text problem ignored)) [
      | Ok read ↦ λ e none. (problem_read read.names read.primary read.kept, (read.kept.ignored, text_related text (problem_read read.names read.primary read.kept) read.kept.ignored e))
      | Err fault ↦ λ e none. absurd (cc)
    ]) refl (text_fault text ∙ h)

-- ---- what reading returns

pub has_problem : (text : List ℕ) (result : Result Read TextFault) → GivesPlain (λ read. read_by read.problem read.ignored) result (reading_of (content_of text)) → IfOk result (λ read. IsProblemOf text read.problem read.ignored)
has_problem text (Ok read) h = text_related text read.problem read.ignored h
has_problem text (Err e) h = tt

pub has_first_fault : (text : List ℕ) (result : Result Read TextFault) → GivesPlain (λ read. read_by read.problem read.ignored) result (reading_of (content_of text)) → IfErr result (λ e. (plain e ≡ Memory → ⊥) → first_fault text ≡ Some (plain e))
has_first_fault text (Ok read) h = tt
has_first_fault text (Err e) h = λ other. sym (text_fault text) ∙ ap fault_of (h other)

pub has_no_problem : (text : List ℕ) (result : Result Read TextFault) → GivesPlain (λ read. read_by read.problem read.ignored) result (reading_of (content_of text)) → IfErr result (λ e. (plain e ≡ Memory → ⊥) → HasNoProblem text)
has_no_problem text (Ok read) h = tt
has_no_problem text (Err e) h = λ other problem ignored is.
    let both : Ok (read_by problem ignored) ≡ Err (plain e) = sym (text_whole text problem ignored is) ∙ h other in
    absurd (cc)

-- A clean audit of the books of a run makes the run's answer right.
use Rattle.std.proofs.Common.{◌≡◌, ◌≢◌, ℕ, suc, Bool, true, false, List, [], ◌∷◌, Option, Some, Result, Ok, Err, IfErr, OnOk, ◌==◌, if◌then◌else◌, slice_get, refl, sym, ap, ◌∙◌, subst, inl, inr}
use Rattle.std.proofs.lemmas.Bool.{and_parts, both_ways, cases_Bool, eqb-true, or_cases}
use Rattle.std.proofs.lemmas.List.Elements.{All-get_or}
use Rattle.std.proofs.lemmas.Option.{get_or_from_slice_get, slice_get_within}
use Rattle.cover_problem.specs.declared.answer.Answer.{Answer}
use Rattle.node_core.specs.Requests.{registry}
use Rattle.node_core.specs.SiteView.{View}
use Rattle.root_registry.specs.Published.{published_by}
use Rattle.run_book.specs.Answers.{book_answer}
use Rattle.run_book.specs.Books.{Book, EndsIn, has_site, IsBook}
use Rattle.run_book.specs.Runs.{IsPublished, IsRunEnd, registry_book}
use Rattle.run_book.specs.Sites.{RunName}
use Rattle.spawn_frame.specs.Names.{same_site}
use Rattle.audit.specs.Audits.{AllHaveBooks, IsCause}
use Rattle.audit.specs.Checked.{AreSafe, IsRight}
use Rattle.audit.specs.declared.auditing.Clean.{Clean}
use Rattle.audit.specs.declared.auditing.Unclean.{Unclean}
use Rattle.audit.specs.declared.auditing.Unclean.TheVariants.{Memory}
use Rattle.cover_engines.specs.Audit.{IsChecked, IsFound}

-- the registry's book, and where it stands
pub record HasRegistry (books : List Book) : Type 0 where
  pub place : ℕ
  pub book : Book
  pub at : slice_get books place ≡ Some book
  pub of_registry : book.site.node ≡ 0
  pub is : registry_book books ≡ Some book

has_registry : (books : List Book) → has_site registry books ≡ true → HasRegistry books
has_registry [] here = absurd (both_ways false refl here)
has_registry (book ∷ books) here =
    let choose : Bool → Option Book = λ c. if c then Some book else registry_book books in
    elim (cases_Bool (book.site.node == 0)) [
      | inl zero ↦ record { place = 0; book = book; at = refl; of_registry = eqb-true book.site.node 0 zero; is = ap choose zero }
      | inr other ↦ elim (or_cases (same_site book.site registry) (has_site registry books) here) [
        | inl same ↦ absurd (both_ways (book.site.node == 0) other (and_parts (book.site.node == 0) (book.site.incarnation == 1) same).0)
        | inr later ↦ let found = has_registry books later in record { place = suc found.place; book = found.book; at = found.at; of_registry = found.of_registry; is = ap choose other ∙ found.is }
      ]
    ]

registered : (books : List Book) → AllHaveBooks books → has_site registry books ≡ true
registered books all =
    elim (cases_Bool (has_site registry books)) [
      | inl here ↦ here
      | inr absent ↦ absurd (all registry (inl refl, absent))
    ]

-- what the registry's book answers is what its last view publishes
abbrev pub BooksTell : Type 0
BooksTell = (run : RunName) (book : Book) (limit : ℕ) (last : View) → book.site.node ≡ 0 → EndsIn run book limit last
    → book_answer run.problem book.entries ≡ published_by run.problem last

checked : BooksTell → (run : RunName) (answer : Option Answer) (books : List Book) → IsRunEnd run answer books → AreSafe run books → AllHaveBooks books → IsChecked run answer books
checked tell run answer books end safe all =
    let found = has_registry books (registered books all) in
    let book = found.book in
    let is_book : IsBook run book =
    subst (IsBook run) (get_or_from_slice_get books found.place book book found.at) (All-get_or (IsBook run) books found.place book (slice_get_within books found.place book found.at) end.books_of_run) in
    let shown : IsPublished run answer (Some book) = subst (IsPublished run answer) found.is end.published in
    let same : answer ≡ book_answer run.problem book.entries = shown is_book.0 is_book.1 is_book.2 ∙ sym (tell run book is_book.0 is_book.1 found.of_registry is_book.2) in
    record {
      complete = all;
      safe = safe;
      publishes = same ∙ safe.publishes found.place book found.at found.of_registry;
      right = subst (IsRight run.problem) (sym same) (safe.right found.place book found.at found.of_registry);
    }

pub found_of : BooksTell → (run : RunName) (answer : Option Answer) (books : List Book) (found : Result Clean Unclean) → IsRunEnd run answer books
    → OnOk found (AreSafe run books) → OnOk found (AllHaveBooks books) → IfErr found (λ cause. IsCause books cause) → found ≢ Err Memory → IsFound run answer books found
found_of tell run answer books (Ok clean) end safe all cause ended = checked tell run answer books end safe all
found_of tell run answer books (Err why) end safe all cause ended = (λ memory. ended (ap Err memory), cause)

-- What the books of a run tell together.
use Rattle.std.specs.Prelude.{◌≡◌, ℕ, ◌==◌, true, if◌then◌else◌, List, [], ◌∷◌, Option, None, Some, IfSome, ⊤}
use Rattle.std.specs.List.{All}
use Rattle.cover_problem.specs.ExactCover.{IsExactCover}
use Rattle.cover_problem.specs.Numbers.{is_in}
use Rattle.cover_problem.specs.Prefix.{InFileOrder}
use Rattle.cover_problem.specs.Problem.{Problem}
use Rattle.cover_problem.specs.declared.answer.Answer.{Answer}
use Rattle.cover_problem.specs.declared.answer.Answer.TheVariants.{Cover, NoCover}
use Rattle.node_core.specs.SiteView.{View}
use Rattle.root_registry.specs.Published.{published_by}
use Rattle.run_book.specs.Books.{are_distinct, Book, EndsIn, IsBook}
use Rattle.run_book.specs.Sites.{RunName}

-- a cover is exact, and in the order of the file
abbrev pub CountsRight : Problem → Answer → Type 0
CountsRight problem (Cover options) = IsExactCover problem (is_in options) × InFileOrder problem options
CountsRight problem NoCover = ⊤

-- the registry's book, where it is among these
abbrev pub registry_book : List Book → Option Book
registry_book [] = None
registry_book (book ∷ books) = if book.site.node == 0 then Some book else registry_book books

-- what the registry published, in whatever view its book ends; nothing without that book
abbrev pub IsPublished : RunName → Option Answer → Option Book → Type 0
IsPublished run answer None = answer ≡ None
IsPublished run answer (Some book) = (limit : ℕ) (last : View) → EndsIn run book limit last → answer ≡ published_by run.problem last

-- Books of a run, of different sites, and what the registry published by its book among them.
pub record IsRunEnd (run : RunName) (answer : Option Answer) (books : List Book) : Type 0 where
  pub books_of_run : All (IsBook run) books
  pub distinct : are_distinct books ≡ true
  pub published : IsPublished run answer (registry_book books)
  pub counts_right : IfSome answer (CountsRight run.problem)

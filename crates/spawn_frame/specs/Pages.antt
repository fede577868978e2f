-- The pages of a site's own children, and which kinds of children stand in each.
use Rattle.std.specs.Prelude.{◌≡◌, ℕ, ◌+◌, ◌*◌, ◌<◌, ◌^◌, Bool, List, [], ◌∷◌, ◌++◌, length, min, take, drop, Option}
use Rattle.std.specs.Int.{div_ceil}
use Rattle.std.specs.List.{list_any, position_from}
use Rattle.spawn_frame.specs.Works.{is_wanted}
use Rattle.spawn_frame.specs.declared.child.Child.{Child}
use Rattle.spawn_frame.specs.declared.kinds.Kinds.{Kinds}
use Rattle.spawn_frame.specs.declared.wanted.Wanted.{Wanted}
use Rattle.spawn_frame.specs.declared.wanted.Wanted.TheVariants as wants

-- how many children a page has, the last one excepted
abbrev pub page_size : ℕ
page_size = 256

-- how many pages so many children fill, the last one maybe in part
abbrev pub pages_for : ℕ → ℕ
pages_for count = div_ceil count page_size

-- the children of a page
abbrev pub page_of : List Child → ℕ → List Child
page_of own page = take page_size (drop (page * page_size) own)

-- whether one of the children is wanted
abbrev pub has_wanted : Wanted → List Child → Bool
has_wanted wanted own = list_any (λ c. is_wanted wanted c.work) own

-- the kinds that stand among the children
abbrev pub kinds_of : List Child → Kinds
kinds_of own = record {
  ready = has_wanted wants.Ready own;
  ripe = has_wanted wants.Ripe own;
  here = has_wanted wants.Here own;
  out = has_wanted wants.Out own;
}

-- whether a kind stands there
abbrev pub tells : Wanted → Kinds → Bool
tells wants.Ready kinds = kinds.ready
tells wants.Ripe kinds = kinds.ripe
tells wants.Here kinds = kinds.here
tells wants.Out kinds = kinds.out

-- the children of all pages, one page behind the other
abbrev pub in_pages : List (List Child) → List Child
in_pages [] = []
in_pages (page ∷ pages) = page ++ in_pages pages

-- each page has as many children as fit into it, of those in it and behind it
abbrev pub AreFilled : List (List Child) → Type 0
AreFilled [] = Unit {0}
AreFilled (page ∷ pages) = (length page ≡ min page_size (length page + length (in_pages pages))) × AreFilled pages

-- The pages of a site's children, which are so many: each is filled before the next one is begun, and serials have 32 bits.
pub record IsPaged (pages : List (List Child)) (number : ℕ) : Type 0 where
  pub filled : AreFilled pages
  pub count : number ≡ length (in_pages pages)
  pub small : number < 2 ^ 32

-- the child of least serial that is wanted, of those that begin at serial k
abbrev pub next_wanted : Wanted → ℕ → List Child → Option ℕ
next_wanted wanted k own = position_from (λ c. is_wanted wanted c.work) k own

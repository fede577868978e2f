-- Books that are gathered in the order of their nodes and incarnations are of different sites.
use Rattle.std.proofs.Common.{◌≡◌, ℕ, suc, ◌+◌, ◌<◌, ◌≤◌, ◌⊎◌, true, false, not, ◌&&◌, ◌==◌, leb, List, [], ◌∷◌, ◌++◌, length, get_or, append-nil, arith, refl, sym, ap, subst, inl, inr, ◌∙◌}
use Rattle.std.proofs.lemmas.Bool.{and_from, and_parts, cases_lt, eq-eqb, eqb-true, false_from_ne_true, le-leb, leb-true, not-true, or_from, or_parts}
use Rattle.std.proofs.lemmas.List.{append_assoc, get_or_push, length_push}
use Rattle.std.proofs.Math.ListN.{get_or-append}
use Rattle.run_book.specs.Books.{are_distinct, has_site, Book}
use Rattle.spawn_frame.specs.Names.{same_site}
use Rattle.spawn_frame.specs.declared.site.Site.{Site}
use Rattle.udp_node.specs.Numbers.{AreNumbered}
use Rattle.udp_node.specs.Incarnations.{are_incarnations}

-- ---- numbers

-- one more, which has the next number
pub numbered_more : {X : Type 0} (number : X → ℕ) (xs : List X) (x : X) → AreNumbered number xs → number x ≡ length xs → AreNumbered number (xs ++ x ∷ [])
numbered_more number xs x each at k d h =
    elim (cases_lt k (length xs)) [
      | inl before ↦ ap number (get_or-append xs (x ∷ []) d k before) ∙ each k d before
      | inr after ↦ let last : length xs ≡ k = omega (arith, h, after, length_push xs x) in ap number (get_or_push xs x d k last) ∙ at ∙ last
    ]

-- the things have the numbers from this one on
abbrev pub NumberedFrom : {X : Type 0} → (X → ℕ) → ℕ → List X → Type 0
NumberedFrom number first [] = Unit {0}
NumberedFrom number first (x ∷ xs) = (number x ≡ first) × NumberedFrom number (suc first) xs

from_places : {X : Type 0} (number : X → ℕ) (first : ℕ) (xs : List X) → ((k : ℕ) (d : X) → k < length xs → number (get_or xs k d) ≡ first + k) → NumberedFrom number first xs
from_places number first [] each = tt
from_places number first (x ∷ xs) each =
    (omega (arith, each 0 x (omega arith)), from_places number (suc first) xs (λ k d h. omega (arith, each (suc k) d (omega arith))))

pub numbered_from : {X : Type 0} (number : X → ℕ) (xs : List X) → AreNumbered number xs → NumberedFrom number 0 xs
numbered_from number xs each = from_places number 0 xs (λ k d h. omega (arith, each k d h))

-- ---- one incarnation

incarnation_parts : (node first next : ℕ) (book : Book) (books : List Book) → are_incarnations node first next (book ∷ books) ≡ true
    → (book.site.node ≡ node) × (first ≤ book.site.incarnation) × (are_incarnations node (suc book.site.incarnation) next books ≡ true)
incarnation_parts node first next book books incarnations =
    let rest = are_incarnations node (suc book.site.incarnation) next books in
    let outer = and_parts ((book.site.node == node) && leb first book.site.incarnation) rest incarnations in
    let inner = and_parts (book.site.node == node) (leb first book.site.incarnation) outer.0 in
    (eqb-true book.site.node node inner.0, leb-true first book.site.incarnation inner.1, outer.1)

incarnation_from : (node first next : ℕ) (book : Book) (books : List Book) → book.site.node ≡ node → first ≤ book.site.incarnation
    → are_incarnations node (suc book.site.incarnation) next books ≡ true → are_incarnations node first next (book ∷ books) ≡ true
incarnation_from node first next book books here at rest =
    and_from ((book.site.node == node) && leb first book.site.incarnation) (are_incarnations node (suc book.site.incarnation) next books)
    (and_from (book.site.node == node) (leb first book.site.incarnation) (eq-eqb book.site.node node here) (le-leb first book.site.incarnation at))
    rest

-- ---- incarnations

-- there is room above the incarnations for one more
pub incarnations_later : (node first next : ℕ) (books : List Book) → are_incarnations node first next books ≡ true → are_incarnations node first (suc next) books ≡ true
incarnations_later node first next [] incarnations = le-leb first (suc next) (omega (arith, leb-true first next incarnations))
incarnations_later node first next (book ∷ books) incarnations =
    let parts = incarnation_parts node first next book books incarnations in
    incarnation_from node first (suc next) book books parts.0 parts.1 (incarnations_later node (suc book.site.incarnation) next books parts.2)

-- the book of the next incarnation
pub incarnations_more : (node first next : ℕ) (books : List Book) (book : Book) → are_incarnations node first next books ≡ true → book.site.node ≡ node → book.site.incarnation ≡ next
    → are_incarnations node first (suc next) (books ++ book ∷ []) ≡ true
incarnations_more node first next [] book incarnations here at =
    incarnation_from node first (suc next) book [] here (omega (arith, at, leb-true first next incarnations)) (le-leb (suc book.site.incarnation) (suc next) (omega (arith, at)))
incarnations_more node first next (b ∷ books) book incarnations here at =
    let parts = incarnation_parts node first next b books incarnations in
    incarnation_from node first (suc next) b (books ++ book ∷ []) parts.0 parts.1 (incarnations_more node (suc b.site.incarnation) next books book parts.2 here at)

-- ---- sites in turn

-- the site comes before this incarnation of this node, where books are gathered
abbrev pub IsBefore : ℕ → ℕ → Site → Type 0
IsBefore node next site = (site.node < node) ⊎ ((site.node ≡ node) × (site.incarnation < next))

-- the books are of such sites
abbrev pub AreBefore : ℕ → ℕ → List Book → Type 0
AreBefore node next [] = Unit {0}
AreBefore node next (book ∷ books) = IsBefore node next book.site × AreBefore node next books

is_before_later : (node next later : ℕ) (site : Site) → next ≤ later → IsBefore node next site → IsBefore node later site
is_before_later node next later site h (inl below) = inl below
is_before_later node next later site h (inr same) = inr (same.0, omega (arith, h, same.1))

before_later : (node next later : ℕ) (books : List Book) → next ≤ later → AreBefore node next books → AreBefore node later books
before_later node next later [] h before = tt
before_later node next later (book ∷ books) h before = (is_before_later node next later book.site h before.0, before_later node next later books h before.1)

is_before_next : (node next first : ℕ) (site : Site) → IsBefore node next site → IsBefore (suc node) first site
is_before_next node next first site (inl below) = inl (omega (arith, below))
is_before_next node next first site (inr same) = inl (omega (arith, same.0))

-- all of a node come before the next node
pub before_next_node : (node next first : ℕ) (books : List Book) → AreBefore node next books → AreBefore (suc node) first books
before_next_node node next first [] before = tt
before_next_node node next first (book ∷ books) before = (is_before_next node next first book.site before.0, before_next_node node next first books before.1)

before_more : (node next : ℕ) (books : List Book) (book : Book) → AreBefore node next books → IsBefore node next book.site → AreBefore node next (books ++ book ∷ [])
before_more node next [] book before is = (is, tt)
before_more node next (b ∷ books) book before is = (before.0, before_more node next books book before.1 is)

-- a site that comes before another is another one
apart : (s t : Site) → IsBefore s.node s.incarnation t → same_site s t ≡ false
apart s t before =
    false_from_ne_true (same_site s t) (λ same.
    let parts = and_parts (s.node == t.node) (s.incarnation == t.incarnation) same in
    let node = eqb-true s.node t.node parts.0 in
    let incarnation = eqb-true s.incarnation t.incarnation parts.1 in
    elim before [
      | inl below ↦ omega (arith, below, node)
      | inr later ↦ omega (arith, later.1, incarnation)
    ])

-- a site that none of the books has, but for one more at the end
none_more : (site : Site) (books : List Book) (book : Book) → has_site site books ≡ false → same_site book.site site ≡ false → has_site site (books ++ book ∷ []) ≡ false
none_more site [] book none other = or_from (same_site book.site site) false other refl
none_more site (b ∷ books) book none other =
    let parts = or_parts (same_site b.site site) (has_site site books) none in
    or_from (same_site b.site site) (has_site site (books ++ book ∷ [])) parts.0 (none_more site books book parts.1 other)

distinct_more : (books : List Book) (book : Book) → AreBefore book.site.node book.site.incarnation books → are_distinct books ≡ true
    → are_distinct (books ++ book ∷ []) ≡ true
distinct_more [] book before distinct = refl
distinct_more (b ∷ books) book before distinct =
    let parts = and_parts (not (has_site b.site books)) (are_distinct books) distinct in
    let none : has_site b.site books ≡ false = not-true (has_site b.site books) parts.0 in
    let other : same_site book.site b.site ≡ false = apart book.site b.site before.0 in
    and_from (not (has_site b.site (books ++ book ∷ []))) (are_distinct (books ++ book ∷ []))
    (ap not (none_more b.site books book none other))
    (distinct_more books book before.1 parts.1)

-- ---- the books of a node's incarnations after those before them

-- What is known of the books that were gathered so far: they are of different sites, all before this one.
pub record AreGathered (node next : ℕ) (books : List Book) : Type 0 where
  pub before : AreBefore node next books
  pub distinct : are_distinct books ≡ true

pub gathered_all : (node first next : ℕ) (books own : List Book) → AreGathered node first books → are_incarnations node first next own ≡ true → AreGathered node next (books ++ own)
gathered_all node first next books [] gathered incarnations =
    subst (AreGathered node next) (sym (append-nil books)) (record {
      before = before_later node first next books (leb-true first next incarnations) gathered.before;
      distinct = gathered.distinct;
    })
gathered_all node first next books (book ∷ own) gathered incarnations =
    let parts = incarnation_parts node first next book own incarnations in
    let later = suc book.site.incarnation in
    let here : AreBefore node book.site.incarnation books = before_later node first book.site.incarnation books parts.1 gathered.before in
    let more : AreGathered node later (books ++ book ∷ []) = record {
      before = before_more node later books book (before_later node book.site.incarnation later books (omega arith) here) (inr (parts.0, omega arith));
      distinct = distinct_more books book (subst (λ n. AreBefore n book.site.incarnation books) (sym parts.0) here) gathered.distinct;
    } in
    subst (AreGathered node next) (append_assoc books (book ∷ []) own) (gathered_all node later next (books ++ book ∷ []) own more parts.2)

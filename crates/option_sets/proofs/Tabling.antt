-- The tables of a problem, by the rows of its items and of its tints.
use Rattle.std.proofs.Common.{◌≡◌, ℕ, suc, ◌+◌, ◌*◌, ◌<◌, ◌≤◌, Bool, true, false, ◌&&◌, ◌==◌, List, [], ◌∷◌, length, get_or, refl, sym, ap, ◌∙◌, inl, inr, arith, subst, if◌then◌else◌}
use Rattle.std.proofs.lemmas.Bool.{both_ways, cases_eq, cases_lt, eq-eqb, eqb-true, ne_eqb, lt-ltb, le-ltb, and_parts, and_from, or_cases}
use Rattle.std.proofs.lemmas.List.{get_or_past, get_or_default}
use Rattle.std.proofs.lemmas.List.Elements.{All-weaker}
use Rattle.cover_problem.specs.Numbers.{is_in}
use Rattle.cover_problem.specs.Problem.{Problem, IsProblem, items_of, names_item, colour_of}
use Rattle.cover_problem.proofs.Basics.{same_truth}
use Rattle.cover_problem.proofs.Colours.{get_in, colour_at, colours_long, colour_named}
use Rattle.option_sets.specs.Rows.{IsRowBy, AreRowsOf, stands_below}
use Rattle.option_sets.specs.Sets.{AreWords, IsRow, words_of}
use Rattle.option_sets.specs.ClashTables.{AreClashTables, HasTint}
use Rattle.option_sets.specs.Tints.{key_of, key_at, IsNumberOf, AreTints}
use Rattle.option_sets.specs.declared.word.Word.{Word}

-- ---- rows of all options

stands_all : (lists : List (List ℕ)) (t x : ℕ) → stands_below lists (length lists) t x ≡ is_in (get_or lists x []) t
stands_all lists t x = elim (cases_lt x (length lists)) [
  | inl low ↦ rw (lt-ltb x (length lists) low) refl
  | inr high ↦ rw (le-ltb x (length lists) high, get_or_past lists x [] high) refl
]

words_by : (p : Problem) (n : ℕ) (member : ℕ → Bool) (row : List Word) → n ≡ length p.options → IsRowBy n member row → AreWords p row
words_by p n member row all by = record {
  rising = by.rising;
  inside = All-weaker (λ (v : Word). v.place * 64 < n) (λ (v : Word). v.place < words_of p) (λ v h. omega (arith, h, all)) row by.below;
  some = by.some;
  held = λ place h. let x = by.held place h in (x.0, x.1, by.exact x.0 ∙ x.2);
}

pub row_of : (p : Problem) (rows : List (List Word)) → AreRowsOf p.options (length p.names) rows → (item : ℕ) → item < length p.names → IsRow p item (get_or rows item [])
row_of p rows by item inside =
    let own = by.each item (omega (arith, inside, by.long)) in
    record {
      words = words_by p (length p.options) (stands_below p.options (length p.options) item) (get_or rows item []) refl own;
      exact = λ x. own.exact x ∙ stands_all p.options item x;
    }

-- ---- keys

coloured_key : (i c : ℕ) → (c ≡ 0 → ⊥) → key_of i c ≡ i * 16384 + c
coloured_key i c some = ap (λ b. if b then 0 else i * 16384 + c) (ne_eqb c 0 some)

plain_key : (i c : ℕ) → c ≡ 0 → key_of i c ≡ 0
plain_key i c none = ap (λ b. if b then 0 else i * 16384 + c) (eq-eqb c 0 none)

one_key : (i c j d : ℕ) → 1 ≤ c → c < 16384 → d < 16384 → key_of j d ≡ key_of i c → (j ≡ i) × (d ≡ c)
one_key i c j d some low below same =
    let own = coloured_key i c (λ e. omega (arith, e, some)) in
    elim (cases_eq d 0) [
      | inl none ↦ let e : 0 ≡ i * 16384 + c = sym (plain_key j d none) ∙ same ∙ own in absurd (omega (arith, e, some))
      | inr other ↦ let e : j * 16384 + d ≡ i * 16384 + c = sym (coloured_key j d other) ∙ same ∙ own in (omega (arith, e, low, below), omega (arith, e, low, below))
    ]

-- a number that stands in a list has a place there
in_at : (xs : List ℕ) (n : ℕ) → is_in xs n ≡ true → (k : ℕ) × (k < length xs) × (get_or xs k 0 ≡ n)
in_at [] n h = absurd (both_ways false refl h)
in_at (x ∷ xs) n h = elim (or_cases (x == n) (is_in xs n) h) [
  | inl here ↦ (0, omega arith, eqb-true x n here)
  | inr there ↦ let k = in_at xs n there in (suc k.0, omega (arith, k.1), k.2)
]

-- ---- tints

-- the numbers in the lists are those of keys
pub numbers_below : (p : Problem) (keys : List ℕ) (lists : List (List ℕ)) → AreTints p keys lists → (k : ℕ) (d : List ℕ) → k < length lists → (j e : ℕ) → j < length (get_or lists k d) → get_or (get_or lists k d) j e < length keys
numbers_below p keys lists by k d inside j e within =
    let here : get_or lists k [] ≡ get_or lists k d = get_or_default lists k [] d inside in
    let own = by.each k (omega (arith, inside, by.long)) in
    let place : j < length (get_or lists k []) = omega (arith, within, ap length here) in
    let number = own.each j (omega (arith, place, own.long)) in
    omega (arith, number.0, get_or_default (get_or lists k []) j 0 e place, ap (λ (ts : List ℕ). get_or ts j e) here)

module _ (p : Problem) (keys : List ℕ) (lists : List (List ℕ)) (rows : List (List Word)) (lawful : IsProblem p) (by : AreTints p keys lists) (of : AreRowsOf lists (length keys) rows) where
  number_of : (o k : ℕ) → o < length p.options → k < length (items_of p o)
      → IsNumberOf keys (key_of (get_or (items_of p o) k 0) (colour_of p o (get_or (items_of p o) k 0))) (get_or (get_or lists o []) k 0)
  number_of o k low inside =
      let own = (by.each o low).each k inside in
      let colour = colour_at p o k lawful low (omega (arith, inside, colours_long p o lawful)) in
      (own.0, own.1 ∙ ap (key_of (get_or (items_of p o) k 0)) (sym colour))

  few : (o item : ℕ) → o < length p.options → colour_of p o item < 16384
  few o item low = omega (arith, colour_named p o item lawful low, lawful.colour_names)

  module _ (o k : ℕ) (low : o < length p.options) (inside : k < length (items_of p o)) where
    abbrev item : ℕ
    item = get_or (items_of p o) k 0

    abbrev number : ℕ
    number = get_or (get_or lists o []) k 0

    own : IsNumberOf keys (key_of item (colour_of p o item)) number
    own = number_of o k low inside

    plain : number ≡ 0 → colour_of p o item ≡ 0
    plain none = elim (cases_eq (colour_of p o item) 0) [
      | inl e ↦ e
      | inr some ↦
          let e : item * 16384 + colour_of p o item ≡ 0 = sym (coloured_key item (colour_of p o item) some) ∙ sym own.1 ∙ ap (key_at keys) none ∙ by.plain in
          absurd (omega (arith, e, some))
    ]

    coloured : 0 < number → 1 ≤ colour_of p o item
    coloured some = elim (cases_eq (colour_of p o item) 0) [
      | inl none ↦
          let e : number ≡ 0 = by.apart number 0 own.0 by.some (own.1 ∙ plain_key item (colour_of p o item) none ∙ sym by.plain) in
          absurd (omega (arith, e, some))
      | inr c ↦ omega (arith, c)
    ]

    has_colour : 0 < number → (x : ℕ) → is_in (get_or lists x []) number ≡ true → (names_item p x item && colour_of p x item == colour_of p o item) ≡ true
    has_colour some x h = elim (cases_lt x (length p.options)) [
      | inl within ↦
          let j = in_at (get_or lists x []) number h in
          let place : j.0 < length (items_of p x) = omega (arith, j.1, (by.each x within).long) in
          let i : ℕ = get_or (items_of p x) j.0 0 in
          let its = number_of x j.0 within place in
          let both = one_key item (colour_of p o item) i (colour_of p x i) (coloured some) (few o item low) (few x i within) (sym its.1 ∙ ap (key_at keys) j.2 ∙ own.1) in
          and_from (names_item p x item) (colour_of p x item == colour_of p o item)
          (subst (λ (m : ℕ). is_in (items_of p x) m ≡ true) both.0 (get_in (items_of p x) j.0 place))
          (eq-eqb (colour_of p x item) (colour_of p o item) (ap (colour_of p x) (sym both.0) ∙ both.1))
      | inr past ↦ absurd (both_ways false refl (ap (λ (ts : List ℕ). is_in ts number) (sym (get_or_past lists x [] (omega (arith, past, by.long)))) ∙ h))
    ]

    has_number : (x : ℕ) → (names_item p x item && colour_of p x item == colour_of p o item) ≡ true → is_in (get_or lists x []) number ≡ true
    has_number x h =
        let both = and_parts (names_item p x item) (colour_of p x item == colour_of p o item) h in
        elim (cases_lt x (length p.options)) [
          | inl within ↦
              let j = in_at (items_of p x) item both.0 in
              let its = number_of x j.0 within j.1 in
              let same : key_at keys (get_or (get_or lists x []) j.0 0) ≡ key_at keys number =
              its.1 ∙ ap (λ m. key_of m (colour_of p x m)) j.2 ∙ ap (key_of item) (eqb-true (colour_of p x item) (colour_of p o item) both.1) ∙ sym own.1 in
              subst (λ (m : ℕ). is_in (get_or lists x []) m ≡ true) (by.apart (get_or (get_or lists x []) j.0 0) number its.0 own.0 same)
              (get_in (get_or lists x []) j.0 (omega (arith, j.1, (by.each x within).long)))
          | inr past ↦ absurd (both_ways false refl (ap (λ (is : List ℕ). is_in is item) (sym (get_or_past p.options x [] past)) ∙ both.0))
        ]

    pub has_tint : HasTint p rows o item number
    has_tint = record {
      plain = plain;
      tinted = λ some.
          let within : number < length rows = omega (arith, own.0, of.long) in
          let row = of.each number within in
          record {
            inside = within;
            coloured = coloured some;
            tint = record {
              words = words_by p (length lists) (stands_below lists (length lists) number) (get_or rows number []) by.long row;
              exact = λ x. row.exact x ∙ stands_all lists number x ∙ same_truth _ _ (has_colour some x) (has_number x);
            };
          };
    }

  pub tables_are : (items : List (List Word)) → AreRowsOf p.options (length p.names) items → AreClashTables p items rows lists
  tables_are items named = record {
    lawful = lawful;
    items = named.long;
    row = row_of p items named;
    long = by.long;
    beside = λ o low. (by.each o low).long;
    each = λ o k low inside. has_tint o k low inside;
  }

-- What a list of options makes of an item, known by how many of them name it and by their colours.
use Rattle.std.proofs.Common.{◌≡◌, ℕ, ◌+◌, ◌<◌, ◌≤◌, Bool, true, false, not, ◌&&◌, ◌||◌, ◌==◌, ◌⊎◌, cond, nat_le, List, [], ◌∷◌, ◌++◌, length, take, get_or, set, find, count_by, Option, Some, None, refl, sym, ap, ◌∙◌, subst, arith, inl, inr, if◌then◌else◌}
use Rattle.std.proofs.lemmas.Bool.{cases_Bool, cases_eq, cases_lt, both_ways, or_left, or_right, or_cases, and_parts, and_right, and_from, not_from_true, not_from_false, false_from_ne_true, eqb-true, eq-eqb, leb-true, le-leb}
use Rattle.std.proofs.lemmas.List.{get_or-set_other, get_or-set_same, take_more, length-replicate, get_or-replicate}
use Rattle.std.proofs.Math.ListN.{replicate}
use Rattle.std.proofs.lemmas.List.Sums.{sum_by-cons}
use Rattle.std.specs.List.{range_with_len}
use Rattle.cover_problem.specs.ExactCover.{uses}
use Rattle.cover_problem.specs.Naming.{named_by, naming_by, naming_after, is_unnamed, is_split}
use Rattle.cover_problem.specs.Numbers.{is_in, is_distinct}
use Rattle.cover_problem.specs.Prefix.{AreOptions, are_options, is_covered}
use Rattle.cover_problem.specs.Problem.{Problem, IsProblem, names_item, colour_of}
use Rattle.cover_problem.specs.Verdict.{verdict_of, first_uncovered, first_twice, twice_or_exact, is_covered_twice, is_in_one_colour}
use Rattle.cover_problem.specs.declared.naming.Naming.{Naming}
use Rattle.cover_problem.specs.declared.naming.Naming.TheVariants.{Unnamed, United, Split}
use Rattle.cover_problem.specs.declared.verdict.Verdict.TheVariants as verdicts
use Rattle.cover_problem.proofs.Among.{range_high}
use Rattle.cover_problem.proofs.Checks.{uses_counted, named_at_most_once}
use Rattle.cover_problem.proofs.Counts.{none_counted}
use Rattle.cover_problem.proofs.Repeats.{push_same, push_other}
use Rattle.cover_problem.proofs.Sets.{count_some}
use Rattle.cover_problem.proofs.Shared.{in_one_colour, colour_in, all_given}

-- ---- while an option is added

-- the items of a list became what the option makes of them, the others stayed
abbrev pub AreAdded : Problem → ℕ → List ℕ → List Naming → List Naming → Type 0
AreAdded p o items old new = (item : ℕ) → item < length old → get_or new item Unnamed ≡ (if is_in items item then named_by (get_or old item Unnamed) (colour_of p o item) else get_or old item Unnamed)

-- one more item became so, which stands in the list once
pub add_more : (p : Problem) (o : ℕ) (old new : List Naming) (items : List ℕ) (place n : ℕ) (naming : Naming) → place < length items → get_or items place 0 ≡ n → n < length new → length new ≡ length old
    → is_in (take place items) n ≡ false → naming ≡ named_by (get_or new n Unnamed) (colour_of p o n)
    → AreAdded p o (take place items) old new → AreAdded p o (take (place + 1) items) old (set new n naming)
add_more p o old new items place n naming inside here within long fresh is are item low =
    let front : take (place + 1) items ≡ take place items ++ n ∷ [] = take_more items place 0 inside ∙ ap (λ m. take place items ++ m ∷ []) here in
    let P : List ℕ → Type 0 = λ list. get_or (set new n naming) item Unnamed ≡ (if is_in list item then named_by (get_or old item Unnamed) (colour_of p o item) else get_or old item Unnamed) in
    let pushed : P (take place items ++ n ∷ []) = elim (cases_eq item n) [
      | inl same ↦
          let Q : ℕ → Type 0 = λ i. get_or (set new n naming) i Unnamed ≡ (if is_in (take place items ++ n ∷ []) i then named_by (get_or old i Unnamed) (colour_of p o i) else get_or old i Unnamed) in
          let own : get_or new n Unnamed ≡ get_or old n Unnamed = are n (omega (arith, within, long)) ∙ ap (λ b. if b then named_by (get_or old n Unnamed) (colour_of p o n) else get_or old n Unnamed) fresh in
          subst Q (sym same)
          (get_or-set_same new n naming Unnamed within ∙ is ∙ ap (λ m. named_by m (colour_of p o n)) own
          ∙ sym (ap (λ b. if b then named_by (get_or old n Unnamed) (colour_of p o n) else get_or old n Unnamed) (push_same (take place items) n)))
      | inr other ↦
          get_or-set_other new n item naming Unnamed other ∙ are item low
          ∙ sym (ap (λ b. if b then named_by (get_or old item Unnamed) (colour_of p o item) else get_or old item Unnamed) (push_other (take place items) n item (λ e. other (sym e))))
    ] in
    subst P (sym front) pushed

-- ---- while a list is gone through

pub after_push : (p : Problem) (item : ℕ) (naming : Naming) (xs : List ℕ) (o : ℕ) → naming_after p item naming (xs ++ o ∷ []) ≡ naming_by p o item (naming_after p item naming xs)
after_push p item naming [] o = refl
after_push p item naming (x ∷ xs) o = after_push p item (naming_by p x item naming) xs o

-- each item is what the options of the list make of it
pub record AreNamed (p : Problem) (namings : List Naming) (done : List ℕ) : Type 0 where
  pub long : length p.names ≤ length namings
  pub each : (item : ℕ) → item < length namings → get_or namings item Unnamed ≡ naming_after p item Unnamed done

pub named_none : (p : Problem) (namings : List Naming) (count : ℕ) → length p.names ≤ count → namings ≡ replicate count Unnamed → AreNamed p namings []
named_none p namings count enough is =
    let long : length namings ≡ count = ap length is ∙ length-replicate count Unnamed in
    record {
      long = omega (arith, enough, long);
      each = λ item low. ap (λ ns. get_or ns item Unnamed) is ∙ get_or-replicate count item Unnamed Unnamed (omega (arith, low, long));
    }

pub named_more : (p : Problem) (old new : List Naming) (xs : List ℕ) (k o : ℕ) → k < length xs → get_or xs k 0 ≡ o → AreNamed p old (take k xs) → length new ≡ length old
    → ((item : ℕ) → item < length old → get_or new item Unnamed ≡ naming_by p o item (get_or old item Unnamed)) → AreNamed p new (take (k + 1) xs)
named_more p old new xs k o inside here named long each =
    let front : take (k + 1) xs ≡ take k xs ++ o ∷ [] = take_more xs k 0 inside ∙ ap (λ x. take k xs ++ x ∷ []) here in
    let enough = named.long in
    record {
      long = omega (arith, long, enough);
      each = λ item low.
          let within : item < length old = omega (arith, low, long) in
          each item within ∙ ap (naming_by p o item) (named.each item within) ∙ sym (after_push p item Unnamed (take k xs) o)
          ∙ ap (λ done. naming_after p item Unnamed done) (sym front);
    }

-- ---- what it says of the list

module _ (p : Problem) (item : ℕ) where
  abbrev on_it : ℕ → Bool
  on_it o = names_item p o item

  -- an option that doesn't name the item changes nothing
  after_other : (naming : Naming) (x : ℕ) (xs : List ℕ) → names_item p x item ≡ false → naming_after p item naming (x ∷ xs) ≡ naming_after p item naming xs
  after_other naming x xs off = ap (λ b. naming_after p item (if b then named_by naming (colour_of p x item) else naming) xs) off

  after_named : (naming : Naming) (x : ℕ) (xs : List ℕ) → names_item p x item ≡ true → naming_after p item naming (x ∷ xs) ≡ naming_after p item (named_by naming (colour_of p x item)) xs
  after_named naming x xs on = ap (λ b. naming_after p item (if b then named_by naming (colour_of p x item) else naming) xs) on

  stays_split : (xs : List ℕ) → naming_after p item Split xs ≡ Split
  stays_split [] = refl
  stays_split (x ∷ xs) = elim (cases_Bool (names_item p x item)) [
    | inl on ↦ after_named Split x xs on ∙ stays_split xs
    | inr off ↦ after_other Split x xs off ∙ stays_split xs
  ]

  stays_named : (c : ℕ) (xs : List ℕ) → is_unnamed (naming_after p item (United c) xs) ≡ false
  stays_named c [] = refl
  stays_named c (x ∷ xs) = elim (cases_Bool (names_item p x item)) [
    | inr off ↦ ap is_unnamed (after_other (United c) x xs off) ∙ stays_named c xs
    | inl on ↦ elim (cases_Bool (nat_le 1 (colour_of p x item) && c == colour_of p x item)) [
      | inl same ↦ ap is_unnamed (after_named (United c) x xs on ∙ ap (λ b. naming_after p item (if b then United c else Split) xs) same) ∙ stays_named c xs
      | inr other ↦ ap is_unnamed (after_named (United c) x xs on ∙ ap (λ b. naming_after p item (if b then United c else Split) xs) other ∙ stays_split xs)
    ]
  ]

  -- it is unnamed exactly if none of the options names it
  pub unnamed_uncovered : (xs : List ℕ) → is_unnamed (naming_after p item Unnamed xs) ≡ not (is_covered p xs item)
  unnamed_uncovered [] = refl
  unnamed_uncovered (x ∷ xs) = elim (cases_Bool (names_item p x item)) [
    | inl on ↦ ap is_unnamed (after_named Unnamed x xs on) ∙ stays_named (colour_of p x item) xs ∙ sym (ap (λ b. not (b || is_covered p xs item)) on)
    | inr off ↦ ap is_unnamed (after_other Unnamed x xs off) ∙ unnamed_uncovered xs ∙ sym (ap (λ b. not (b || is_covered p xs item)) off)
  ]

  -- the two colours are one
  abbrev IsOne : ℕ → ℕ → Type 0
  IsOne c d = (1 ≤ d) × (c ≡ d)

  -- where it stays united, each that names it gives it the colour of the first
  one_from : (c : ℕ) (xs : List ℕ) → is_split (naming_after p item (United c) xs) ≡ false → (q : ℕ) → is_in xs q ≡ true → names_item p q item ≡ true → IsOne c (colour_of p q item)
  one_from c [] whole q here on_q = absurd (both_ways false refl here)
  one_from c (x ∷ xs) whole q here on_q = elim (cases_Bool (names_item p x item)) [
    | inr off ↦
        let later : is_split (naming_after p item (United c) xs) ≡ false = sym (ap is_split (after_other (United c) x xs off)) ∙ whole in
        elim (or_cases (x == q) (is_in xs q) here) [
          | inl same ↦ absurd (both_ways (names_item p q item) (ap (λ y. names_item p y item) (sym (eqb-true x q same)) ∙ off) on_q)
          | inr there ↦ one_from c xs later q there on_q
        ]
    | inl on ↦ elim (cases_Bool (nat_le 1 (colour_of p x item) && c == colour_of p x item)) [
      | inr other ↦
          let split : is_split (naming_after p item (United c) (x ∷ xs)) ≡ true = ap is_split (after_named (United c) x xs on ∙ ap (λ b. naming_after p item (if b then United c else Split) xs) other ∙ stays_split xs) in
          absurd (both_ways (is_split (naming_after p item (United c) (x ∷ xs))) whole split)
      | inl same ↦
          let later : is_split (naming_after p item (United c) xs) ≡ false = sym (ap is_split (after_named (United c) x xs on ∙ ap (λ b. naming_after p item (if b then United c else Split) xs) same)) ∙ whole in
          elim (or_cases (x == q) (is_in xs q) here) [
            | inl is ↦
                let parts = and_parts (nat_le 1 (colour_of p x item)) (c == colour_of p x item) same in
                let one : IsOne c (colour_of p x item) = (leb-true 1 (colour_of p x item) parts.0, eqb-true c (colour_of p x item) parts.1) in
                subst (λ y. IsOne c (colour_of p y item)) (eqb-true x q is) one
            | inr there ↦ one_from c xs later q there on_q
          ]
    ]
  ]

  -- where it is split, one names it and gives it another colour than the first
  other_from : (c : ℕ) (xs : List ℕ) → is_split (naming_after p item (United c) xs) ≡ true → (q : ℕ) × (is_in xs q ≡ true) × (names_item p q item ≡ true) × (IsOne c (colour_of p q item) → ⊥)
  other_from c [] split = absurd (both_ways false refl split)
  other_from c (x ∷ xs) split = elim (cases_Bool (names_item p x item)) [
    | inr off ↦
        let w = other_from c xs (sym (ap is_split (after_other (United c) x xs off)) ∙ split) in
        (w.0, or_right (x == w.0) (is_in xs w.0) w.1, w.2, w.3)
    | inl on ↦ elim (cases_Bool (nat_le 1 (colour_of p x item) && c == colour_of p x item)) [
      | inr other ↦ (
        x,
        or_left (x == x) (is_in xs x) (eq-eqb x x refl),
        on,
        (λ one. both_ways (nat_le 1 (colour_of p x item) && c == colour_of p x item) other
            (and_from (nat_le 1 (colour_of p x item)) (c == colour_of p x item) (le-leb 1 (colour_of p x item) one.0) (eq-eqb c (colour_of p x item) one.1))),
      )
      | inl same ↦
          let w = other_from c xs (sym (ap is_split (after_named (United c) x xs on ∙ ap (λ b. naming_after p item (if b then United c else Split) xs) same)) ∙ split) in
          (w.0, or_right (x == w.0) (is_in xs w.0) w.1, w.2, w.3)
    ]
  ]

  -- two of the list name the item, and their colours are not one
  record Differ (xs : List ℕ) : Type 0 where
    a : ℕ
    b : ℕ
    has_a : is_in xs a ≡ true
    has_b : is_in xs b ≡ true
    on_a : names_item p a item ≡ true
    on_b : names_item p b item ≡ true
    other : IsOne (colour_of p a item) (colour_of p b item) → ⊥
    two : 2 ≤ count_by on_it xs

  count_on : (x : ℕ) (xs : List ℕ) → names_item p x item ≡ true → count_by on_it (x ∷ xs) ≡ count_by on_it xs + 1
  count_on x xs on =
      let here : ◌≡◌ {A = ℕ} (cond (names_item p x item) 1 0) 1 = ap (λ b. cond b 1 0) on in
      omega (arith, here, sum_by-cons (λ y. cond (names_item p y item) 1 0) x xs)

  count_off : (x : ℕ) (xs : List ℕ) → names_item p x item ≡ false → count_by on_it (x ∷ xs) ≡ count_by on_it xs
  count_off x xs off =
      let here : ◌≡◌ {A = ℕ} (cond (names_item p x item) 1 0) 0 = ap (λ b. cond b 1 0) off in
      omega (arith, here, sum_by-cons (λ y. cond (names_item p y item) 1 0) x xs)

  count_with : (xs : List ℕ) (q : ℕ) → is_in xs q ≡ true → names_item p q item ≡ true → 1 ≤ count_by on_it xs
  count_with [] q here on_q = absurd (both_ways false refl here)
  count_with (x ∷ xs) q here on_q = elim (cases_Bool (names_item p x item)) [
    | inl on ↦ let c = count_on x xs on in omega (arith, c)
    | inr off ↦ elim (or_cases (x == q) (is_in xs q) here) [
      | inl same ↦ absurd (both_ways (names_item p q item) (ap (λ y. names_item p y item) (sym (eqb-true x q same)) ∙ off) on_q)
      | inr there ↦ let c = count_off x xs off in let rest = count_with xs q there on_q in omega (arith, c, rest)
    ]
  ]

  split_differ : (xs : List ℕ) → is_split (naming_after p item Unnamed xs) ≡ true → Differ xs
  split_differ [] split = absurd (both_ways false refl split)
  split_differ (x ∷ xs) split = elim (cases_Bool (names_item p x item)) [
    | inr off ↦
        let w = split_differ xs (sym (ap is_split (after_other Unnamed x xs off)) ∙ split) in
        let c = count_off x xs off in
        let two = w.two in
        record {
          a = w.a;
          b = w.b;
          has_a = or_right (x == w.a) (is_in xs w.a) w.has_a;
          has_b = or_right (x == w.b) (is_in xs w.b) w.has_b;
          on_a = w.on_a;
          on_b = w.on_b;
          other = w.other;
          two = omega (arith, c, two);
        }
    | inl on ↦
        let w = other_from (colour_of p x item) xs (sym (ap is_split (after_named Unnamed x xs on)) ∙ split) in
        let c = count_on x xs on in
        let one = count_with xs w.0 w.1 w.2 in
        record {
          a = x;
          b = w.0;
          has_a = or_left (x == x) (is_in xs x) (eq-eqb x x refl);
          has_b = or_right (x == w.0) (is_in xs w.0) w.1;
          on_a = on;
          on_b = w.2;
          other = w.3;
          two = omega (arith, c, one);
        }
  ]

  -- all of the list that name the item give it one colour
  record Agree (xs : List ℕ) : Type 0 where
    colour : ℕ
    some : 1 ≤ colour
    each : (q : ℕ) → is_in xs q ≡ true → names_item p q item ≡ true → colour_of p q item ≡ colour

  whole_agree : (xs : List ℕ) → is_split (naming_after p item Unnamed xs) ≡ false → (count_by on_it xs ≤ 1) ⊎ Agree xs
  whole_agree [] whole = inl (omega arith)
  whole_agree (x ∷ xs) whole = elim (cases_Bool (names_item p x item)) [
    | inr off ↦
        let c = count_off x xs off in
        elim (whole_agree xs (sym (ap is_split (after_other Unnamed x xs off)) ∙ whole)) [
          | inl few ↦ inl (omega (arith, c, few))
          | inr agree ↦ inr (record {
            colour = agree.colour;
            some = agree.some;
            each = λ q here on_q. elim (or_cases (x == q) (is_in xs q) here) [
              | inl same ↦ absurd (both_ways (names_item p q item) (ap (λ y. names_item p y item) (sym (eqb-true x q same)) ∙ off) on_q)
              | inr there ↦ agree.each q there on_q
            ];
          })
        ]
    | inl on ↦
        let c = count_on x xs on in
        let one = one_from (colour_of p x item) xs (sym (ap is_split (after_named Unnamed x xs on)) ∙ whole) in
        elim (cases_lt 0 (count_by on_it xs)) [
          | inr none ↦ inl (omega (arith, c, none))
          | inl more ↦
              let w = count_some on_it xs (omega (arith, more)) in
              let seen = one w.0 w.1 w.2 in
              let low = seen.0 in
              let same = seen.1 in
              inr (record {
                colour = colour_of p x item;
                some = omega (arith, low, same);
                each = λ q here on_q. elim (or_cases (x == q) (is_in xs q) here) [
                  | inl is ↦ ap (λ y. colour_of p y item) (sym (eqb-true x q is))
                  | inr there ↦ sym (one q there on_q).1
                ];
              })
        ]
  ]

  module _ (problem : IsProblem p) (options : List ℕ) (within : AreOptions p options) (distinct : is_distinct options ≡ true) where
    -- it is unnamed exactly if no option uses it
    pub unnamed_unused : is_unnamed (naming_after p item Unnamed options) ≡ (uses p (is_in options) item == 0)
    unnamed_unused = unnamed_uncovered options ∙ none_counted on_it options ∙ ap (λ n. n == 0) (sym (uses_counted p options item within distinct))

    differ_twice : Differ options → is_covered_twice p options item ≡ true
    unfolding is_covered_twice
    differ_twice d =
        let counted = uses_counted p options item within distinct in
        let two = d.two in
        and_from (nat_le 2 (uses p (is_in options) item)) (not (is_in_one_colour p options item))
        (le-leb 2 (uses p (is_in options) item) (omega (arith, counted, two)))
        (not_from_false (is_in_one_colour p options item) (false_from_ne_true (is_in_one_colour p options item) (λ one.
        let shared = in_one_colour p options item one in
        let some = shared.some in
        let first = shared.each d.a d.has_a d.on_a in
        let second = shared.each d.b d.has_b d.on_b in
        d.other (omega (arith, some, second), omega (arith, first, second)))))

    agree_once : Agree options → 1 < uses p (is_in options) item → is_covered_twice p options item ≡ false
    unfolding is_covered_twice
    agree_once agree more =
        let w = count_some on_it options (let counted = uses_counted p options item within distinct in omega (arith, counted, more)) in
        let is = agree.each w.0 w.1 w.2 in
        let some = agree.some in
        elim (cases_lt item p.primary) [
          | inl low ↦ let plain = problem.plain_primary w.0 item low in absurd (omega (arith, plain, is, some))
          | inr high ↦
              and_right (nat_le 2 (uses p (is_in options) item)) (not (is_in_one_colour p options item))
              (not_from_true (is_in_one_colour p options item)
              (colour_in p options item w.0 high w.1 (omega (arith, is, some))
              (all_given p options item (colour_of p w.0 item) (λ q here on_q. agree.each q here on_q ∙ sym is))))
        ]

    -- it is split exactly if it is covered twice
    pub split_twice : is_split (naming_after p item Unnamed options) ≡ is_covered_twice p options item
    split_twice = elim (cases_Bool (is_split (naming_after p item Unnamed options))) [
      | inl split ↦ split ∙ sym (differ_twice (split_differ options split))
      | inr whole ↦ whole ∙ sym (elim (cases_lt 1 (uses p (is_in options) item)) [
        | inr few ↦ named_at_most_once p options item few
        | inl more ↦ elim (whole_agree options whole) [
          | inl few ↦ let counted = uses_counted p options item within distinct in absurd (omega (arith, counted, few, more))
          | inr agree ↦ agree_once agree more
        ]
      ])
    ]

-- ---- the first item of all

-- where two tests agree on all of a list, they find the same
pub find_alike : (first second : ℕ → Bool) (xs : List ℕ) → ((x : ℕ) → is_in xs x ≡ true → first x ≡ second x) → find first xs ≡ find second xs
find_alike first second [] each = refl
find_alike first second (x ∷ xs) each =
    let here : first x ≡ second x = each x (or_left (x == x) (is_in xs x) (eq-eqb x x refl)) in
    let rest = find_alike first second xs (λ y there. each y (or_right (x == y) (is_in xs y) there)) in
    elim (cases_Bool (second x)) [
      | inl passes ↦ let passes' : first x ≡ true = here ∙ passes in rw (passes, passes') refl
      | inr fails ↦ let fails' : first x ≡ false = here ∙ fails in rw (fails, fails') rest
    ]

pub verdict_by : (p : Problem) (options : List ℕ) (namings : List Naming) → IsProblem p → AreOptions p options → is_distinct options ≡ true → AreNamed p namings options
    → (first_uncovered p options ≡ find (λ item. is_unnamed (get_or namings item Unnamed)) (range_with_len 0 p.primary))
    × (first_twice p options ≡ find (λ item. is_split (get_or namings item Unnamed)) (range_with_len 0 (length p.names)))
verdict_by p options namings problem within distinct named =
    let enough = named.long in
    let few = problem.primary in (
      find_alike (λ item. uses p (is_in options) item == 0) (λ item. is_unnamed (get_or namings item Unnamed)) (range_with_len 0 p.primary) (λ item here.
          let high = range_high 0 p.primary item here in
          sym (ap is_unnamed (named.each item (omega (arith, high, few, enough))) ∙ unnamed_unused p item problem options within distinct)),
      find_alike (λ item. is_covered_twice p options item) (λ item. is_split (get_or namings item Unnamed)) (range_with_len 0 (length p.names)) (λ item here.
          let high = range_high 0 (length p.names) item here in
          sym (ap is_split (named.each item (omega (arith, high, enough))) ∙ split_twice p item problem options within distinct)),
    )

-- ---- the verdict

pub tells_uncovered : (p : Problem) (options : List ℕ) (item : ℕ) → are_options p options ≡ true → is_distinct options ≡ true → first_uncovered p options ≡ Some item → verdicts.Uncovered item ≡ verdict_of p options
tells_uncovered p options item within distinct first = rw (within, distinct, first) refl

pub tells_twice : (p : Problem) (options : List ℕ) (twice : Option ℕ) → are_options p options ≡ true → is_distinct options ≡ true → first_uncovered p options ≡ None → first_twice p options ≡ twice → twice_or_exact twice ≡ verdict_of p options
tells_twice p options twice within distinct none is = rw (within, distinct, none, is) refl

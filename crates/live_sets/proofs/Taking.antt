-- The first of the options that are left.
use Rattle.std.proofs.Common.{◌≡◌, ℕ, zero, suc, ◌+◌, ◌-◌, ◌<◌, ◌≤◌, List, [], length, Bool, true, false, nat_lt, nat_le, ◌&&◌, ◌||◌, Some, None, slice_get, refl, arith, sym, ap, ◌∙◌, inl, inr, subst}
use Rattle.std.proofs.lemmas.Bool.{cases_lt, and_parts, and_from, both_ways, lt-ltb, le-ltb, le-leb, lt-leb, ltb-true, leb-true, false_from_ne_true}
use Rattle.cover_problem.specs.Branching.{is_choice}
use Rattle.cover_problem.specs.Onward.{live_options_from}
use Rattle.cover_problem.specs.Prefix.{is_live}
use Rattle.cover_problem.specs.Problem.{Problem, names_item}
use Rattle.cover_problem.proofs.Remaining.{live_options_from_take, live_options_from_skip, live_options_from_end}
use Rattle.choices.specs.Choices.{IsChild}
use Rattle.option_sets.specs.declared.word.Word.{Word}
use Rattle.option_sets.specs.Sets.{has, row_has, word_has, words_of, IsRow}
use Rattle.live_sets.specs.declared.untried.Untried.{Untried}
use Rattle.live_sets.specs.Counting.{IsLive}
use Rattle.live_sets.specs.Rows.{IsUntried}
use Rattle.live_sets.proofs.Behind.{nothing}
use Rattle.live_sets.specs.Trying.{IsTrying, AreBehind, IsBehind, IsNextAt, is_left}

-- whether an option is a child by the item, from one on
abbrev is_later : Problem → List ℕ → ℕ → ℕ → ℕ → Bool
is_later p os i start x = nat_le start x && (nat_lt x (length p.options) && is_choice p os i x)

later_by : (p : Problem) (os : List ℕ) (i start x : ℕ) → start ≤ x → x < length p.options → is_choice p os i x ≡ true → is_later p os i start x ≡ true
later_by p os i start x low high is = and_from (nat_le start x) (nat_lt x (length p.options) && is_choice p os i x) (le-leb start x low) (and_from (nat_lt x (length p.options)) (is_choice p os i x) (lt-ltb x (length p.options) high) is)

-- options that are none of them are passed over
skip_to : (p : Problem) (os : List ℕ) (i n start to : ℕ) → to ≡ start + n → to ≤ length p.options → ((x : ℕ) → start ≤ x → x < to → is_choice p os i x ≡ false) → live_options_from p os i start ≡ live_options_from p os i to
skip_to p os i zero start to e inside none = ap (live_options_from p os i) (omega (arith, e))
skip_to p os i (suc n) start to e inside none =
    live_options_from_skip p os i start (omega (arith, e, inside)) (none start (omega arith) (omega (arith, e)))
    ∙ skip_to p os i n (start + 1) to (omega (arith, e)) inside (λ x low high. none x (omega (arith, low)) high)

no_choice : (p : Problem) (os : List ℕ) (i start x : ℕ) → start ≤ x → x < length p.options → is_later p os i start x ≡ false → is_choice p os i x ≡ false
no_choice p os i start x low high h = false_from_ne_true (is_choice p os i x) (λ is. both_ways (is_later p os i start x) h (later_by p os i start x low high is))

-- what is left is what comes later
pub left_is : (p : Problem) (os : List ℕ) (i start x : ℕ) (u : Untried) (live : List ℕ) → IsUntried p os i start u → IsLive p os live → is_left u live x ≡ is_later p os i start x
left_is p os i start x u live is set = ap (λ b. word_has u.place u.bits x || (row_has u.later.now x && b)) (set.exact x) ∙ is.left x

pub record IsNextChild (p : Problem) (os : List ℕ) (i start o : ℕ) (rest : Untried) : Type 0 where
  pub first : Some o ≡ slice_get (live_options_from p os i start) 0
  pub child : IsChild p os i o
  pub behind : IsUntried p os i (o + 1) rest

pub next_child : (p : Problem) (os : List ℕ) (i start o : ℕ) (u rest : Untried) (live : List ℕ) → IsUntried p os i start u → IsLive p os live → IsNextAt u live o rest → IsNextChild p os i start o rest
next_child p os i start o u rest live is set next =
    let here = sym (left_is p os i start o u live is set) ∙ next.here in
    let parts = and_parts (nat_le start o) (nat_lt o (length p.options) && is_choice p os i o) here in
    let more = and_parts (nat_lt o (length p.options)) (is_choice p os i o) parts.1 in
    let low : start ≤ o = leb-true start o parts.0 in
    let high : o < length p.options = ltb-true o (length p.options) more.0 in
    let choice = and_parts (is_live p os o) (names_item p o i) more.1 in
    let skip = skip_to p os i (o - start) start o (omega (arith, low)) (omega (arith, high)) (λ x above below. no_choice p os i start x above (omega (arith, below, high)) (sym (left_is p os i start x u live is set) ∙ next.before x below)) in
    record {
      first = sym (ap (λ (xs : List ℕ). slice_get xs 0) (skip ∙ live_options_from_take p os i o high more.1));
      child = record { inside = high; live = choice.0; named = choice.1 };
      behind = record {
        trying = let P : ℕ → Type 0 = λ n. IsTrying n rest in subst P set.words next.trying;
        left = λ x.
            ap (λ b. word_has rest.place rest.bits x || (row_has rest.later.now x && b)) (sym (set.exact x)) ∙ next.left x
            ∙ ap (λ b. nat_lt o x && b) (left_is p os i start x u live is set)
            ∙ elim (cases_lt o x) [
              | inl less ↦ rw (lt-ltb o x less, le-leb start x (omega (arith, low, less)), le-leb (o + 1) x (omega (arith, less))) refl
              | inr over ↦ rw (le-ltb o x over, lt-leb (o + 1) x (omega (arith, over))) refl
            ];
      };
    }

none_later : (p : Problem) (os : List ℕ) (i start : ℕ) → ((x : ℕ) → is_later p os i start x ≡ false) → None ≡ slice_get (live_options_from p os i start) 0
none_later p os i start none = elim (cases_lt start (length p.options)) [
  | inl less ↦
      let n : ℕ = length p.options in
      let skip = skip_to p os i (n - start) start n (omega (arith, less)) (omega arith) (λ x low high. no_choice p os i start x low high (none x)) in
      sym (ap (λ (xs : List ℕ). slice_get xs 0) (skip ∙ live_options_from_end p os i n (omega arith)))
  | inr past ↦ sym (ap (λ (xs : List ℕ). slice_get xs 0) (live_options_from_end p os i start past))
]

-- none is left
pub none_left : (p : Problem) (os : List ℕ) (i start : ℕ) (u : Untried) (live : List ℕ) → IsUntried p os i start u → IsLive p os live → ((x : ℕ) → is_left u live x ≡ false) → None ≡ slice_get (live_options_from p os i start) 0
none_left p os i start u live is set none = none_later p os i start (λ x. sym (left_is p os i start x u live is set) ∙ none x)

-- nor where there is neither an option of the word nor a word behind it
pub none_untried : (p : Problem) (os : List ℕ) (i start : ℕ) (u : Untried) → IsUntried p os i start u → u.bits ≡ 0 → u.later.now ≡ [] → None ≡ slice_get (live_options_from p os i start) 0
none_untried p os i start u is empty last =
    none_later p os i start
    (λ x.
    sym (is.left x) ∙ ap (λ n. word_has u.place n x || (row_has u.later.now x && (nat_lt x (length p.options) && is_live p os x))) empty
    ∙ ap (λ b. b || (row_has u.later.now x && (nat_lt x (length p.options) && is_live p os x))) (nothing u.place x)
    ∙ ap (λ (r : List Word). row_has r x && (nat_lt x (length p.options) && is_live p os x)) last)

turn : (a b c : Bool) → (a && (b && c)) ≡ (b && (c && a))
turn true true true = refl
turn true true false = refl
turn true false c = refl
turn false true true = refl
turn false true false = refl
turn false false c = refl

-- a row of an item, behind an option
pub row_behind : (p : Problem) (os : List ℕ) (i o : ℕ) (row : List Word) (live : List ℕ) (u : Untried) → IsRow p i row → IsLive p os live → IsBehind row live o u → IsUntried p os i (o + 1) u
row_behind p os i o row live u is set at = record {
  trying = let P : ℕ → Type 0 = λ n. IsTrying n u in subst P set.words at.trying;
  left = λ x.
      ap (λ b. word_has u.place u.bits x || (row_has u.later.now x && b)) (sym (set.exact x)) ∙ at.left x
      ∙ ap (λ b. nat_lt o x && (b && has live x)) (is.exact x) ∙ ap (λ b. nat_lt o x && (names_item p x i && b)) (set.exact x)
      ∙ ap (λ b. nat_lt o x && b) (turn (names_item p x i) (nat_lt x (length p.options)) (is_live p os x))
      ∙ elim (cases_lt o x) [
        | inl less ↦ rw (lt-ltb o x less, le-leb (o + 1) x (omega (arith, less))) refl
        | inr over ↦ rw (le-ltb o x over, lt-leb (o + 1) x (omega (arith, over))) refl
      ];
}

-- a row of an item, of which nothing is tried yet
pub row_untried : (p : Problem) (os : List ℕ) (i : ℕ) (row : List Word) (u : Untried) → IsRow p i row → u.bits ≡ 0 → u.later.now ≡ row → IsUntried p os i 0 u
row_untried p os i row u is empty later =
    let P : List Word → Type 0 = λ r. AreBehind (words_of p) r in
    record {
      trying = record {
        behind = subst P (sym later) (record { rising = is.words.rising; inside = is.words.inside });
        small = omega (arith, empty);
        inside = λ h. absurd (omega (arith, h, empty));
        apart = λ h. absurd (omega (arith, h, empty));
      };
      left = λ x.
          ap (λ n. word_has u.place n x || (row_has u.later.now x && (nat_lt x (length p.options) && is_live p os x))) empty
          ∙ ap (λ b. b || (row_has u.later.now x && (nat_lt x (length p.options) && is_live p os x))) (nothing u.place x)
          ∙ ap (λ (r : List Word). row_has r x && (nat_lt x (length p.options) && is_live p os x)) later
          ∙ ap (λ b. b && (nat_lt x (length p.options) && is_live p os x)) (is.exact x)
          ∙ turn (names_item p x i) (nat_lt x (length p.options)) (is_live p os x)
          ∙ sym (ap (λ b. b && (nat_lt x (length p.options) && is_choice p os i x)) (le-leb 0 x (omega arith)));
    }

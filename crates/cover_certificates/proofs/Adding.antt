-- Reasons exclude what covers the items by live options.
use Rattle.std.proofs.Common.{◌≡◌, ℕ, ◌*◌, ◌%◌, ◌<◌, ◌≤◌, Bool, true, false, not, ◌&&◌, ◌||◌, ◌==◌, List, [], ◌∷◌, length, refl, sym, ap, ◌∙◌, inl, inr, arith}
use Rattle.std.specs.List.{sum, sum_by}
use Rattle.std.proofs.lemmas.List.{get_or_past}
use Rattle.std.proofs.lemmas.List.Sums.{sum_by-cons}
use Rattle.std.proofs.lemmas.Bool.{and_parts, cases_Bool, cases_eq, cases_lt, leb-true, ne_eqb, not-false, or_cases, or_left, or_right, eqb-true, eq-eqb, true≢false}
use Rattle.cover_problem.specs.ExactCover.{uses}
use Rattle.cover_problem.specs.Numbers.{is_in}
use Rattle.cover_problem.specs.Problem.{Problem, IsProblem, items_of, names_item, colour_of}
use Rattle.cover_problem.proofs.Among.{all_at}
use Rattle.cover_problem.proofs.Clashes.{agreement, clash_agree}
use Rattle.cover_problem.proofs.Counts.{count_at_most}
use Rattle.cover_reasons.specs.Room.{Room, amount_of, fits, option_amount, is_plain}
use Rattle.cover_reasons.specs.Weights.{Weights, weight_of, option_weight, whole_weight, is_zero}
use Rattle.cover_reasons.specs.declared.reason.Reason.{Reason}
use Rattle.cover_reasons.specs.declared.reason.Reason.TheVariants as reasons
use Rattle.cover_reasons.proofs.Rooming.{none_fits}
use Rattle.cover_reasons.proofs.Weighing.{none_balanced}
use Rattle.option_sets.specs.Sets.{has}
use Rattle.cover_certificates.specs.Cases.{AreStuckIn, Case, has_item}
use Rattle.cover_certificates.specs.Reasons.{AreUnbalanced, HoldsOf, IsTooLittle}
use Rattle.cover_certificates.specs.Stuck.{IsCoverOf, AreStuck}

-- amounts of items that can't be in an option add up to nothing
none_summed : (f : ℕ → ℕ) (xs : List ℕ) → ((x : ℕ) → is_in xs x ≡ true → f x ≡ 0) → sum_by f xs ≡ 0
none_summed f [] h = refl
none_summed f (x ∷ xs) h = omega (arith, sum_by-cons f x xs, h x (or_left (x == x) _ (eq-eqb x x refl)), none_summed f xs (λ y e. h y (or_right (x == y) _ e)))

-- an item with an amount is named once, by the set of options
once_amount : (p : Problem) (items live chosen : ℕ → Bool) (amount : ℕ → ℕ) → IsCoverOf p items live chosen → ((i : ℕ) → items i ≡ false → amount i ≡ 0) → (i : ℕ) → uses p chosen i * amount i ≡ amount i
once_amount p items live chosen amount at inside i = elim (cases_Bool (items i)) [
  | inl on ↦ ap (λ n. n * amount i) (at.once i on) ∙ omega arith
  | inr off ↦ let nothing : amount i ≡ 0 = inside i off in omega (arith, nothing, ap (λ n. uses p chosen i * n) nothing)
]

-- an option of the set that isn't live names none of the items
dead_off : (p : Problem) (items live chosen : ℕ → Bool) (o : ℕ) → IsCoverOf p items live chosen → chosen o ≡ true → live o ≡ false → (i : ℕ) → is_in (items_of p o) i ≡ true → items i ≡ false
dead_off p items live chosen o at taken dead i named = elim (cases_Bool (items i)) [
  | inl on ↦ absurd (true≢false (sym (at.live_ones i o on taken named) ∙ dead))
  | inr off ↦ off
]

dead_nothing : (p : Problem) (items live chosen : ℕ → Bool) (amount : ℕ → ℕ) (o : ℕ) → IsCoverOf p items live chosen → ((i : ℕ) → items i ≡ false → amount i ≡ 0) → chosen o ≡ true → live o ≡ false
    → sum_by amount (items_of p o) ≡ 0
dead_nothing p items live chosen amount o at inside taken dead = none_summed amount (items_of p o) (λ i named. inside i (dead_off p items live chosen o at taken dead i named))

-- ---- weights

pub unbalanced_stuck : (p : Problem) (items live : ℕ → Bool) (w : Weights) → IsProblem p → AreUnbalanced p items live w → AreStuck p items live
unbalanced_stuck p items live w lawful is = λ chosen at.
    none_balanced p w chosen lawful is.few is.whole at.in_range (λ o taken. weightless chosen at o taken (live o) refl) (once_amount p items live chosen (weight_of w) at is.inside)
  where
    weightless : (chosen : ℕ → Bool) → IsCoverOf p items live chosen → (o : ℕ) → chosen o ≡ true → (b : Bool) → live o ≡ b → is_zero w (option_weight p w o) ≡ true
    weightless chosen at o taken true lives = is.light o (at.in_range o taken) lives
    weightless chosen at o taken false dead =
        let nothing : option_weight p w o ≡ 0 = dead_nothing p items live chosen (weight_of w) o at is.inside taken dead in
        eq-eqb (option_weight p w o % w.modulus) 0 (ap (λ n. n % w.modulus) nothing ∙ omega arith)

-- ---- room

-- an item to which no option gives a colour is named once at most
plain_once : (p : Problem) (items live chosen : ℕ → Bool) (rooms : List ℕ) → IsCoverOf p items live chosen → ((o : ℕ) → o < length p.options → is_plain p rooms o ≡ true)
    → (i : ℕ) → (amount_of rooms i ≡ 0 → ⊥) → uses p chosen i ≤ 1
plain_once p items live chosen rooms at plain i some = count_at_most (λ o. chosen o && names_item p o i) 0 (length p.options) same
  where
    same : (a b : ℕ) → (chosen a && names_item p a i) ≡ true → (chosen b && names_item p b i) ≡ true → a ≡ b
    same a b here there =
        let first = and_parts (chosen a) (names_item p a i) here in
        let second = and_parts (chosen b) (names_item p b i) there in
        elim (cases_eq a b) [
          | inl e ↦ e
          | inr apart ↦
              let agreed = agreement p a b i (clash_agree p a b i (at.apart a b first.0 second.0 apart) first.1 second.1) in
              let bare = all_at (λ j. (amount_of rooms j == 0) || (colour_of p a j == 0)) (items_of p a) i (plain a (at.in_range a first.0)) first.1 in
              absurd (elim (or_cases (amount_of rooms i == 0) (colour_of p a i == 0) bare) [
                | inl none ↦ some (eqb-true (amount_of rooms i) 0 none)
                | inr none ↦ let zero_colour = eqb-true (colour_of p a i) 0 none in let least = agreed.some in omega (arith, zero_colour, least)
              ])
        ]

pub too_little_stuck : (p : Problem) (items live : ℕ → Bool) (r : Room) → IsProblem p → IsTooLittle p items live r → AreStuck p items live
too_little_stuck p items live r lawful is = λ chosen at.
    none_fits p r chosen lawful is.few_needs is.few_rooms is.more at.in_range (λ o taken. enough chosen at o taken (live o) refl) (once_amount p items live chosen (amount_of r.needs) at is.inside)
    (plain_once p items live chosen r.rooms at is.plain)
  where
    enough : (chosen : ℕ → Bool) → IsCoverOf p items live chosen → (o : ℕ) → chosen o ≡ true → (b : Bool) → live o ≡ b → option_amount p r.needs o ≤ option_amount p r.rooms o
    enough chosen at o taken true lives = is.fitting o (at.in_range o taken) lives
    enough chosen at o taken false dead =
        let nothing : option_amount p r.needs o ≡ 0 = dead_nothing p items live chosen (amount_of r.needs) o at is.inside taken dead in
        omega (arith, nothing)

pub reason_stuck : (p : Problem) (items live : ℕ → Bool) (reason : Reason) → IsProblem p → HoldsOf p items live reason → AreStuck p items live
reason_stuck p items live (reasons.Weighed w) lawful holds = unbalanced_stuck p items live w lawful holds
reason_stuck p items live (reasons.TooLittleRoom r) lawful holds = too_little_stuck p items live r lawful holds

-- ---- by the words of the code

unmarked_nothing : (items : List Bool) (amounts : List ℕ) (count : ℕ) → length amounts ≤ count → ((i : ℕ) → i < count → has_item items i ≡ not (amount_of amounts i == 0)) → (i : ℕ) → has_item items i ≡ false → amount_of amounts i ≡ 0
unmarked_nothing items amounts count few marked i off = elim (cases_lt i count) [
  | inl low ↦ eqb-true (amount_of amounts i) 0 (not-false (amount_of amounts i == 0) (sym (marked i low) ∙ off))
  | inr high ↦ get_or_past amounts i 0 (omega (arith, few, high))
]

pub weights_stuck : (p : Problem) (case : Case) (items all : List Bool) (w : Weights) (count whole : ℕ) → IsProblem p → count ≡ p.primary → all ≡ case.items → length items ≡ count
    → ((i : ℕ) → i < count → has_item items i ≡ not (amount_of w.list i == 0)) → length w.list ≤ p.primary → whole ≡ whole_weight w % w.modulus → (whole ≡ 0 → ⊥)
    → ((i : ℕ) → has_item items i ≡ true → has_item all i ≡ true)
    → ((o : ℕ) → o < length p.options → has case.live o ≡ true → is_zero w (option_weight p w o) ≡ true) → AreStuckIn p case items
weights_stuck p case items all w count whole lawful primary same long marked few sum_is some inside light = record {
  long = long ∙ primary;
  within = λ i on. ap (λ l. has_item l i) (sym same) ∙ inside i on;
  stuck = unbalanced_stuck p (has_item items) (has case.live) w lawful (record {
    few = few;
    inside = unmarked_nothing items w.list count (omega (arith, few, primary)) marked;
    light = light;
    whole = ne_eqb (whole_weight w % w.modulus) 0 (λ e. some (sum_is ∙ e));
  });
}

pub room_stuck : (p : Problem) (case : Case) (items all : List Bool) (r : Room) (count : ℕ) → IsProblem p → count ≡ p.primary → all ≡ case.items → length items ≡ count
    → ((i : ℕ) → i < count → has_item items i ≡ not (amount_of r.needs i == 0)) → length r.needs ≤ p.primary → length r.rooms ≤ length p.names → sum r.rooms < sum r.needs
    → ((i : ℕ) → has_item items i ≡ true → has_item all i ≡ true) → ((o : ℕ) → o < length p.options → is_plain p r.rooms o ≡ true)
    → ((o : ℕ) → o < length p.options → has case.live o ≡ true → fits p r o ≡ true) → AreStuckIn p case items
room_stuck p case items all r count lawful primary same long marked few_needs few_rooms more inside plain fit = record {
  long = long ∙ primary;
  within = λ i on. ap (λ l. has_item l i) (sym same) ∙ inside i on;
  stuck = too_little_stuck p (has_item items) (has case.live) r lawful (record {
    few_needs = few_needs;
    few_rooms = few_rooms;
    inside = unmarked_nothing items r.needs count (omega (arith, few_needs, primary)) marked;
    plain = plain;
    fitting = λ o low lives. leb-true (option_amount p r.needs o) (option_amount p r.rooms o) (and_parts _ _ (fit o low lives)).0;
    more = more;
  });
}

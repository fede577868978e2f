-- Prefixes that leave the same are searched alike.
use Rattle.std.proofs.Common.{◌≡◌, ℕ, zero, suc, ◌+◌, ◌<◌, ◌≤◌, Bool, true, false, not, ◌&&◌, ◌||◌, ◌==◌, nat_lt, cond, List, [], ◌∷◌, ◌++◌, length, filter, Option, Some, None, is_some, refl, sym, ap, ◌∙◌, arith, inl, inr}
use Rattle.std.specs.List.{range_with_len}
use Rattle.std.proofs.lemmas.Bool.{and_from, and_parts, both_ways, cases_Bool, eq-eqb, ltb-true, or_left, or_right}
use Rattle.std.proofs.lemmas.List.{append_assoc, append-nil}
use Rattle.std.proofs.lemmas.List.Folds.{list_all-append}
use Rattle.cover_problem.specs.Alike.{AreAlike, AreAsLive, IsAlive, followed_by}
use Rattle.cover_problem.specs.Branching.{is_choice, live_options, open_items, fewer_of, fewest_of, branch_item}
use Rattle.cover_problem.specs.Numbers.{is_in}
use Rattle.cover_problem.specs.Prefix.{clash, is_covered, is_live}
use Rattle.cover_problem.specs.Problem.{Problem, IsProblem, option_numbers, items_of, names_item}
use Rattle.cover_problem.specs.Search.{or_else, first_some, visits_until, first_within, visits_within, first}
use Rattle.cover_problem.proofs.Among.{all_at, any_at, range_high, range_in}
use Rattle.cover_problem.proofs.Basics.{same_truth}
use Rattle.cover_problem.proofs.Fewest.{branch_fewest}
use Rattle.cover_problem.proofs.Prefixes.{agree_live, covered_more, live_at}
use Rattle.cover_problem.proofs.Sets.{in_filtered}
use Rattle.cover_problem.proofs.Steps.{within_none}
use Rattle.cover_problem.proofs.Unbounded.{choice_at, within_suc}

-- ---- the branch item and the options of prefixes that leave the same

filter_same : (f g : ℕ → Bool) (xs : List ℕ) → ((x : ℕ) → is_in xs x ≡ true → f x ≡ g x) → filter f xs ≡ filter g xs
filter_same f g [] h = refl
filter_same f g (x ∷ xs) h =
    let here = h x (or_left (x == x) (is_in xs x) (eq-eqb x x refl)) in
    let rest = filter_same f g xs (λ y e. h y (or_right (x == y) (is_in xs y) e)) in
    (λ i. cond (here i) (x ∷ rest i) (rest i))

alike_more : (p : Problem) (xs ys : List ℕ) (o : ℕ) → AreAlike p xs ys → AreAlike p (xs ++ o ∷ []) (ys ++ o ∷ [])
alike_more p xs ys o same = record {
  live = λ x inside. list_all-append (λ q. not (clash p q x)) xs (o ∷ []) ∙ ap (λ b. b && (not (clash p o x) && true)) (same.live x inside) ∙ sym (list_all-append (λ q. not (clash p q x)) ys (o ∷ []));
  covered = λ i inside. covered_more p xs o i ∙ ap (λ b. b || (names_item p o i || false)) (same.covered i inside) ∙ sym (covered_more p ys o i);
}

live_options_same : (p : Problem) (xs ys : List ℕ) (i : ℕ) → AreAlike p xs ys → live_options p xs i ≡ live_options p ys i
unfolding live_options
live_options_same p xs ys i same =
    filter_same (is_choice p xs i) (is_choice p ys i) (option_numbers p)
    (λ o here. let high = range_high 0 (length p.options) o here in ap (λ b. b && names_item p o i) (same.live o (omega (arith, high))))

open_items_same : (p : Problem) (xs ys : List ℕ) → AreAlike p xs ys → open_items p xs ≡ open_items p ys
unfolding open_items
open_items_same p xs ys same =
    filter_same (λ i. not (is_covered p xs i)) (λ i. not (is_covered p ys i)) (range_with_len 0 p.primary)
    (λ i here. let high = range_high 0 p.primary i here in ap not (same.covered i (omega (arith, high))))

fewer_same : (p : Problem) (xs ys : List ℕ) (best : Option ℕ) (i : ℕ) → AreAlike p xs ys → fewer_of p xs best i ≡ fewer_of p ys best i
fewer_same p xs ys None i same = refl
fewer_same p xs ys (Some best) i same =
    let own = live_options_same p xs ys i same in
    let others = live_options_same p xs ys best same in
    (λ k. Some (cond (nat_lt (length (own k)) (length (others k))) i best))

fewest_same : (p : Problem) (xs ys : List ℕ) (best : Option ℕ) (is : List ℕ) → AreAlike p xs ys → fewest_of p xs best is ≡ fewest_of p ys best is
fewest_same p xs ys best [] same = refl
fewest_same p xs ys best (i ∷ is) same =
    ap (λ b. fewest_of p xs b is) (fewer_same p xs ys best i same) ∙ fewest_same p xs ys (fewer_of p ys best i) is same

branch_same : (p : Problem) (xs ys : List ℕ) → AreAlike p xs ys → branch_item p xs ≡ branch_item p ys
unfolding branch_item
branch_same p xs ys same = ap (fewest_of p xs None) (open_items_same p xs ys same) ∙ fewest_same p xs ys None (open_items p ys) same

-- ---- their searches

-- both come to the same options behind them, if any, by as many visits
pub record AreSearched (p : Problem) (depth : ℕ) (xs ys : List ℕ) : Type 0 where
  pub rest : Option (List ℕ)
  pub one : first_within p depth xs ≡ followed_by xs rest
  pub other : first_within p depth ys ≡ followed_by ys rest
  pub visits : visits_within p depth xs ≡ visits_within p depth ys

-- the same of some options, each put to both in turn
record AreTried (p : Problem) (depth : ℕ) (xs ys os : List ℕ) : Type 0 where
  rest : Option (List ℕ)
  one : first_some (λ o. first_within p depth (xs ++ o ∷ [])) os ≡ followed_by xs rest
  other : first_some (λ o. first_within p depth (ys ++ o ∷ [])) os ≡ followed_by ys rest
  visits : visits_until (λ o. first_within p depth (xs ++ o ∷ [])) (λ o. visits_within p depth (xs ++ o ∷ [])) os ≡ visits_until (λ o. first_within p depth (ys ++ o ∷ [])) (λ o. visits_within p depth (ys ++ o ∷ [])) os

one_more : (p : Problem) (depth : ℕ) (xs ys os : List ℕ) (o : ℕ) (rest : Option (List ℕ)) → first_within p depth (xs ++ o ∷ []) ≡ followed_by (xs ++ o ∷ []) rest → first_within p depth (ys ++ o ∷ []) ≡ followed_by (ys ++ o ∷ []) rest
    → visits_within p depth (xs ++ o ∷ []) ≡ visits_within p depth (ys ++ o ∷ []) → AreTried p depth xs ys os → AreTried p depth xs ys (o ∷ os)
one_more p depth xs ys os o None one other count later = record {
  rest = later.rest;
  one = ap (λ f. or_else f (first_some (λ q. first_within p depth (xs ++ q ∷ [])) os)) one ∙ later.one;
  other = ap (λ f. or_else f (first_some (λ q. first_within p depth (ys ++ q ∷ [])) os)) other ∙ later.other;
  visits = let same = later.visits in
      let same_found : first_within p depth (xs ++ o ∷ []) ≡ first_within p depth (ys ++ o ∷ []) = one ∙ sym other in
      (λ i. count i + cond (is_some (same_found i)) 0 (same i));
}
one_more p depth xs ys os o (Some options) one other count later = record {
  rest = Some (o ∷ options);
  one = ap (λ f. or_else f (first_some (λ q. first_within p depth (xs ++ q ∷ [])) os)) one ∙ ap Some (append_assoc xs (o ∷ []) options);
  other = ap (λ f. or_else f (first_some (λ q. first_within p depth (ys ++ q ∷ [])) os)) other ∙ ap Some (append_assoc ys (o ∷ []) options);
  visits =
      rw (one, other) (omega (arith, count));
}

each_tried : (p : Problem) (depth : ℕ) (xs ys os : List ℕ) → ((o : ℕ) → AreSearched p depth (xs ++ o ∷ []) (ys ++ o ∷ [])) → AreTried p depth xs ys os
each_tried p depth xs ys [] each = record { rest = None; one = refl; other = refl; visits = refl }
each_tried p depth xs ys (o ∷ os) each =
    let here = each o in
    one_more p depth xs ys os o here.rest here.one here.other here.visits (each_tried p depth xs ys os each)

complete_alike : (p : Problem) (depth : ℕ) (xs ys : List ℕ) → branch_item p xs ≡ None → branch_item p ys ≡ None → AreSearched p depth xs ys
complete_alike p depth xs ys e f =
    let one = within_none p depth xs e in
    let other = within_none p depth ys f in
    record {
      rest = Some [];
      one = one.found ∙ ap Some (sym (append-nil xs));
      other = other.found ∙ ap Some (sym (append-nil ys));
      visits = one.visits ∙ sym other.visits;
    }

searched_alike : (p : Problem) (depth : ℕ) (xs ys : List ℕ) → AreAlike p xs ys → AreSearched p depth xs ys
unfolding first_within visits_within
searched_alike p zero xs ys same = record { rest = Some []; one = ap Some (sym (append-nil xs)); other = ap Some (sym (append-nil ys)); visits = refl }
searched_alike p (suc depth) xs ys same = go (branch_item p xs) refl (λ o. searched_alike p depth (xs ++ o ∷ []) (ys ++ o ∷ []) (alike_more p xs ys o same))
  where
    go : (b : Option ℕ) → branch_item p xs ≡ b → ((o : ℕ) → AreSearched p depth (xs ++ o ∷ []) (ys ++ o ∷ [])) → AreSearched p (suc depth) xs ys
    go None e below = complete_alike p (suc depth) xs ys e (sym (branch_same p xs ys same) ∙ e)
    go (Some i) e below =
        let one = within_suc p depth xs i e in
        let other = within_suc p depth ys i (sym (branch_same p xs ys same) ∙ e) in
        let options = live_options_same p xs ys i same in
        let tried = each_tried p depth xs ys (live_options p xs i) below in
        record {
          rest = tried.rest;
          one = one.found ∙ tried.one;
          other = other.found ∙ ap (first_some (λ o. first_within p depth (ys ++ o ∷ []))) (sym options) ∙ tried.other;
          visits = one.visits ∙ ap (λ n. 1 + n) (tried.visits ∙ ap (visits_until (λ o. first_within p depth (ys ++ o ∷ [])) (λ o. visits_within p depth (ys ++ o ∷ []))) options) ∙ sym other.visits;
        }

pub alike : (p : Problem) (xs ys : List ℕ) → AreAlike p xs ys → AreSearched p p.primary xs ys
alike p xs ys same = searched_alike p p.primary xs ys same

pub alike_barren : (p : Problem) (xs ys : List ℕ) → AreAlike p xs ys → first p xs ≡ None → first p ys ≡ None
alike_barren p xs ys same none = let both = alike p xs ys same in both_none both.rest (sym both.one ∙ none) both.other
  where
    both_none : (rest : Option (List ℕ)) → followed_by xs rest ≡ None → first p ys ≡ followed_by ys rest → first p ys ≡ None
    both_none None e other = other
    both_none (Some options) e other = absurd (cc)

-- ---- which items are uncovered, by the options that are live

some_in : (os : List ℕ) → 1 ≤ length os → (o : ℕ) × (is_in os o ≡ true)
some_in [] some = absurd (omega (arith, some))
some_in (o ∷ os) some = (o, or_left (o == o) (is_in os o) (eq-eqb o o refl))

in_some : (os : List ℕ) (o : ℕ) → is_in os o ≡ true → 1 ≤ length os
in_some [] o here = absurd (both_ways false refl here)
in_some (q ∷ os) o here = omega arith

-- an item that is covered at one is covered at the other
covered_as : (p : Problem) (xs ys : List ℕ) → AreAsLive p xs ys → IsAlive p ys → (i : ℕ) → i < p.primary → is_covered p xs i ≡ true → is_covered p ys i ≡ true
covered_as p xs ys same alive i inside covered = elim (cases_Bool (is_covered p ys i)) [
  | inl as_well ↦ as_well
  | inr missing ↦
      let some = some_in (live_options p ys i) (alive i (record { primary = inside; uncovered = missing })) in
      let choice = choice_at p ys i some.0 some.1 in
      let parts = and_parts (is_live p ys some.0) (names_item p some.0 i) choice.choice in
      absurd (both_ways (is_covered p xs i) (live_at p xs some.0 i inside (same some.0 choice.within ∙ parts.0) parts.1) covered)
]

pub alive_alike : (p : Problem) (xs ys : List ℕ) → AreAsLive p xs ys → IsAlive p xs → IsAlive p ys → AreAlike p xs ys
alive_alike p xs ys same one other = record {
  live = same;
  covered = λ i inside. same_truth (is_covered p xs i) (is_covered p ys i) (covered_as p xs ys same other i inside) (covered_as p ys xs (λ o within. sym (same o within)) one i inside);
}

-- where the branch item has a live option, each uncovered item has one
pub branch_alive : (p : Problem) (xs : List ℕ) (i o : ℕ) → branch_item p xs ≡ Some i → o < length p.options → is_live p xs o ≡ true → names_item p o i ≡ true → IsAlive p xs
unfolding live_options
branch_alive p xs i o e within live named = λ j open_j.
    let here : is_in (live_options p xs i) o ≡ true = in_filtered (is_choice p xs i) (option_numbers p) o ∙ and_from (is_choice p xs i o) (is_in (option_numbers p) o) (and_from (is_live p xs o) (names_item p o i) live named) (range_in 0 (length p.options) o (omega arith) (omega (arith, within))) in
    let few = (branch_fewest p xs i e).fewest j open_j in
    omega (arith, few, in_some (live_options p xs i) o here)

-- ---- which options are live, by the items that are uncovered, where all items are primary

item_below : (p : Problem) (o item : ℕ) → IsProblem p → o < length p.options → p.primary ≡ length p.names → names_item p o item ≡ true → item < p.primary
item_below p o item lawful within all named =
    let below = ltb-true item (length p.names) (all_at (λ i. nat_lt i (length p.names)) (items_of p o) item (lawful.each_named o [] within) named) in
    omega (arith, below, all)

live_as : (p : Problem) (xs ys : List ℕ) (o : ℕ) → IsProblem p → p.primary ≡ length p.names → o < length p.options → ((i : ℕ) → i < p.primary → is_covered p xs i ≡ is_covered p ys i) → is_live p xs o ≡ true → is_live p ys o ≡ true
live_as p xs ys o lawful all within same live = agree_live p ys o (λ q item here on_q on_o.
    let below = item_below p o item lawful within all on_o in
    absurd (both_ways (is_covered p ys item) (sym (same item below) ∙ live_at p xs o item below live on_o) (any_at (λ r. names_item p r item) ys q here on_q)))

pub uncovered_alike : (p : Problem) (xs ys : List ℕ) → IsProblem p → p.primary ≡ length p.names → ((i : ℕ) → i < p.primary → is_covered p xs i ≡ is_covered p ys i) → AreAlike p xs ys
uncovered_alike p xs ys lawful all same = record {
  live = λ o within. same_truth (is_live p xs o) (is_live p ys o) (live_as p xs ys o lawful all within same) (live_as p ys xs o lawful all within (λ i inside. sym (same i inside)));
  covered = same;
}

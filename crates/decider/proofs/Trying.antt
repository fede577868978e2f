-- The children of a prefix, tried one after the other.
use Rattle.std.proofs.Common.{◌≡◌, ℕ, ◌+◌, ◌<◌, List, [], ◌∷◌, length, Bool, true, false, Option, Some, None, is_some, IfSome, slice_get, refl, arith, sym, ap, ◌∙◌, subst, inl, inr}
use Rattle.std.proofs.lemmas.Bool.{and_from, both_ways}
use Rattle.std.proofs.lemmas.List.{length-append}
use Rattle.cover_problem.specs.Branching.{branch_item, is_choice}
use Rattle.cover_problem.specs.Onward.{live_options_from, first_among}
use Rattle.cover_problem.specs.Prefix.{is_live}
use Rattle.cover_problem.specs.Problem.{Problem, IsProblem, names_item}
use Rattle.cover_problem.specs.Search.{first}
use Rattle.cover_problem.proofs.Alike.{alike_barren}
use Rattle.cover_problem.proofs.Remaining.{live_options_from_take}
use Rattle.cover_problem.proofs.Steps.{left_barren, left_found}
use Rattle.choices.specs.Choices.{Choices, IsChild, IsNextChoice, with_child, with_child_if}
use Rattle.choices.specs.Keys.{IsKey}
use Rattle.barren_states.specs.States.{States}
use Rattle.brancher.specs.Keeping.{IsKeptOf, IsKnown}
use Rattle.brancher.proofs.Entering.{key_alike}
use Rattle.brancher.proofs.Lefts.{options_left, options_next}
use Rattle.brancher.proofs.Visits.{so_far_start}
use Rattle.decider.specs.declared.decision.Decision.{Decision}
use Rattle.decider.specs.declared.decision.Decision.TheVariants.{Found, Barren, Stopped}
use Rattle.decider.specs.Deciding.{HaveNoCover, IsDecided}

-- ---- the states that are kept

pub no_cover_kept : (p : Problem) (old new : States) (xs : List ℕ) (count : ℕ) → IsProblem p → HaveNoCover p old → IsKeptOf p xs count old new → first p xs ≡ None → HaveNoCover p new
no_cover_kept p old new xs count lawful have kept none = elim kept.is [
  | inl same ↦ let P : States → Type 0 = λ s. HaveNoCover p s in subst P (sym same) have
  | inr more ↦ (λ other n ys holds of. elim (more.1.held other n holds) [
    | inl before ↦ have other n ys before of
    | inr is ↦
        let P : List ℕ → Type 0 = λ k. IsKey p ys k in
        alike_barren p xs ys (key_alike p kept.key xs ys lawful more.0 (subst P is.0 of)) none
  ])
]

pub known_none : (p : Problem) (states : States) (xs : List ℕ) (count : ℕ) → HaveNoCover p states → IsKnown p xs states count → first p xs ≡ None
known_none p states xs count have known = have known.key count xs known.held known.is_key

-- ---- child by child

-- a child is chosen, and the children from it on have the first cover; or none is left, and there is no cover
abbrev pub IsTrying : Choices → ℕ → Choices → Option ℕ → Type 0
IsTrying before item now None = (now ≡ before) × (first before.problem before.chosen ≡ None)
IsTrying before item now (Some option) = (now ≡ with_child before item option) × IsChild before.problem before.chosen item option
    × (first_among before.problem before.problem.primary before.chosen (live_options_from before.problem before.chosen item option) ≡ first before.problem before.chosen)

none_left : (p : Problem) (depth : ℕ) (xs : List ℕ) → first_among p depth xs [] ≡ None
unfolding first_among
none_left p depth xs = refl

-- the next child is chosen
tried_next : (before now : Choices) (item start : ℕ) (next : Option ℕ) → first_among before.problem before.problem.primary before.chosen (live_options_from before.problem before.chosen item start) ≡ first before.problem before.chosen
    → next ≡ slice_get (live_options_from before.problem before.chosen item start) 0 → IfSome next (IsChild before.problem before.chosen item) → now ≡ with_child_if before item next → IsTrying before item now next
tried_next before now item start None far e child same =
    let left = options_next before.problem before.chosen item start None e in
    (same, sym far ∙ ap (first_among before.problem before.problem.primary before.chosen) (sym left) ∙ none_left before.problem before.problem.primary before.chosen)
tried_next before now item start (Some option) far e child same =
    let left = options_next before.problem before.chosen item start (Some option) e in
    (same, child, ap (first_among before.problem before.problem.primary before.chosen) left ∙ far)

-- the first one
pub tried_first : (before now : Choices) (item : ℕ) (next : Option ℕ) → branch_item before.problem before.chosen ≡ Some item
    → next ≡ slice_get (live_options_from before.problem before.chosen item 0) 0 → IfSome next (IsChild before.problem before.chosen item) → now ≡ with_child_if before item next → IsTrying before item now next
tried_first before now item next branch e child same = tried_next before now item 0 next (so_far_start before.problem before.chosen item 1 (omega arith) branch).found e child same

choice_of : (p : Problem) (xs : List ℕ) (item option : ℕ) → IsChild p xs item option → is_choice p xs item option ≡ true
choice_of p xs item option is = and_from (is_live p xs option) (names_item p option item) is.live is.named

-- one that has no cover is changed for the next
pub tried_other : (before now new : Choices) (item : ℕ) (last next : Option ℕ) → is_some last ≡ true → IsTrying before item now last → first now.problem now.chosen ≡ None
    → ((b : Choices) (i o : ℕ) → now ≡ with_child b i o → IsNextChoice b i o next new) → IsTrying before item new next
tried_other before now new item None next e trying none change = absurd (both_ways false refl e)
tried_other before now new item (Some option) next e trying none change =
    let step = change before item option trying.0 in
    let below = sym (ap (λ (v : Choices). first v.problem v.chosen) trying.0) ∙ none in
    let rest = left_barren before.problem before.problem.primary before.chosen item option trying.1.inside (choice_of before.problem before.chosen item option trying.1) below in
    tried_next before new item (option + 1) next (sym rest.found ∙ trying.2) step.next_is step.child step.chosen

-- then one option less is left
pub tried_less : (before now new : Choices) (item : ℕ) (last next : Option ℕ) → is_some last ≡ true → IsTrying before item now last → ((b : Choices) (i o : ℕ) → now ≡ with_child b i o → IsNextChoice b i o next new)
    → length (options_left before.problem before.chosen item next) < length (options_left before.problem before.chosen item last)
tried_less before now new item None next e trying change = absurd (both_ways false refl e)
tried_less before now new item (Some option) next e trying change =
    let step = change before item option trying.0 in
    let left = ap length (options_next before.problem before.chosen item (option + 1) next step.next_is) in
    let one = ap length (live_options_from_take before.problem before.chosen item option trying.1.inside (choice_of before.problem before.chosen item option trying.1)) in
    omega (arith, left, one)

-- a cover below the child is the first one below the prefix
pub tried_found : (before now : Choices) (item : ℕ) (last : Option ℕ) (cover : List ℕ) → is_some last ≡ true → IsTrying before item now last → first now.problem now.chosen ≡ Some cover → first before.problem before.chosen ≡ Some cover
tried_found before now item None cover e trying some = absurd (both_ways false refl e)
tried_found before now item (Some option) cover e trying some =
    let below = sym (ap (λ (v : Choices). first v.problem v.chosen) trying.0) ∙ some in
    sym trying.2 ∙ (left_found before.problem before.problem.primary before.chosen item option cover trying.1.inside (choice_of before.problem before.chosen item option trying.1) below).found

-- a child is of the same problem, and longer
pub tried_child : (before now : Choices) (item : ℕ) (last : Option ℕ) → is_some last ≡ true → IsTrying before item now last → (now.problem ≡ before.problem) × (length now.chosen ≡ length before.chosen + 1)
tried_child before now item None e trying = absurd (both_ways false refl e)
tried_child before now item (Some option) e trying =
    (ap (λ (v : Choices). v.problem) trying.0, ap (λ (v : Choices). length v.chosen) trying.0 ∙ omega (arith, length-append before.chosen (option ∷ [])))

pub tried_all : (before now : Choices) (item : ℕ) (last : Option ℕ) → is_some last ≡ false → IsTrying before item now last → (now ≡ before) × (first before.problem before.chosen ≡ None)
tried_all before now item None e trying = trying
tried_all before now item (Some option) e trying = absurd (both_ways true e refl)

-- where the search of a child ends the search: at a cover or a stop
pub tried_end : (may_stop : Bool) (before now new : Choices) (item : ℕ) (last : Option ℕ) (result ended : Decision) → result ≡ ended → ((visits : ℕ) → result ≡ Barren visits → ⊥) → is_some last ≡ true → IsTrying before item now last
    → IsDecided may_stop now new result → IsDecided may_stop before new ended
tried_end may_stop before now new item last Found ended is more e trying decided =
    let P : Decision → Type 0 = λ d. IsDecided may_stop before new d in
    subst P is (tried_found before now item last new.chosen e trying decided)
tried_end may_stop before now new item last (Barren visits) ended is more e trying decided = absurd (more visits refl)
tried_end may_stop before now new item last Stopped ended is more e trying decided =
    let P : Decision → Type 0 = λ d. IsDecided may_stop before new d in
    subst P is decided

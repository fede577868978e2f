-- The steps of a visit that keeps states, from one prefix to the next.
use Rattle.std.proofs.Common.{◌≡◌, ℕ, ◌+◌, ◌-◌, ◌<◌, ◌≤◌, List, length, set, get_or, slice_index, Bool, true, false, None, arith, sym, ap, ◌∙◌, subst, refl}
use Rattle.std.proofs.lemmas.Bool.{both_ways}
use Rattle.std.proofs.lemmas.List.{get_or-set_same}
use Rattle.cover_problem.specs.Search.{first, visits}
use Rattle.cover_problem.proofs.Steps.{some_visits}
use Rattle.choices.specs.Choices.{Choices}
use Rattle.brancher.specs.declared.visit.Visit.{Visit}
use Rattle.brancher.specs.declared.visit.Visit.TheVariants.{Found, Barren, Spent, Stopped}
use Rattle.brancher.specs.Keeping.{IsBarrenIn, IsEntered, IsNoteOf, IsTurned}
use Rattle.brancher.specs.Reach.{IsReached}
use Rattle.brancher.specs.Stepping.{IsEnding}
use Rattle.brancher.specs.Visit.{IsVisit}
use Rattle.brancher.proofs.Entering.{entered_noted, entered_on, entered_problem, entered_reached, entered_same}
use Rattle.brancher.proofs.Reaches.{reached_found, reached_spent, reached_stopped}

-- ---- what is left is noted

pub noted_here : (root : Choices) (fuel : ℕ) (old new : List ℕ) (now : Choices) (left place : ℕ) → new ≡ set old place left → place ≡ length now.chosen → IsEntered root fuel old now left → IsEntered root fuel new now left
noted_here root fuel old new now left place is at reached =
    let P : List ℕ → Type 0 = λ notes. IsEntered root fuel notes now left in
    subst P (sym is) (entered_noted root fuel old now left place left (omega (arith, at)) reached)

pub note_here : (old new : List ℕ) (left place other : ℕ) → new ≡ set old place left → place ≡ other → place < length old → IsNoteOf new other left
note_here old new left place other is at inside = λ some.
    ap (λ (notes : List ℕ). get_or notes other 0) is ∙ ap (λ n. get_or (set old place left) n 0) (sym at) ∙ get_or-set_same old place left 0 inside

-- ---- where choices are taken back

pub turned_on : (root : Choices) (fuel : ℕ) (old new : List ℕ) (now : Choices) (left : ℕ) (result : Bool) → new ≡ old → result ≡ true → IsTurned root fuel old left now result → IsEntered root fuel new now left
turned_on root fuel old new now left true is e turned = let P : List ℕ → Type 0 = λ notes. IsEntered root fuel notes now left in subst P (sym is) turned
turned_on root fuel old new now left false is e turned = absurd (both_ways false refl e)

pub turned_end : (root : Choices) (fuel : ℕ) (old : List ℕ) (now : Choices) (left : ℕ) (result may_stop : Bool) → result ≡ false → IsTurned root fuel old left now result → IsEnding may_stop root fuel now (Barren left)
turned_end root fuel old now left true may_stop e turned = absurd (both_ways true e refl)
turned_end root fuel old now left false may_stop e ended = record {
  problem = ap (λ (v : Choices). v.problem) ended.back;
  visit_is = (ended.visits, ended.none, ap (λ (v : Choices). v.chosen) ended.back);
  stopped = λ rest is. absurd (cc);
}

-- ---- after a visit of what is chosen

pub barren_here : (root : Choices) (fuel : ℕ) (entered : List ℕ) (before after : Choices) (left rest : ℕ) → after ≡ before → visits before.problem before.chosen + rest ≡ left → first before.problem before.chosen ≡ None
    → IsEntered root fuel entered before left → (rest < left) × IsBarrenIn root fuel entered after rest
barren_here root fuel entered before after left rest back visited none reached =
    let P : Choices → Type 0 = λ v. IsBarrenIn root fuel entered v rest in
    (omega (arith, visited, some_visits before.problem before.problem.primary before.chosen), subst P (sym back) (record { earlier = left; reached = reached; visits = visited; none = none }))

pub paused_here : (root : Choices) (fuel : ℕ) (old new : List ℕ) (before after : Choices) (left rest depth : ℕ) → depth ≡ length before.chosen → ((k : ℕ) → k < depth → slice_index new k ≡ slice_index old k) → ((k : ℕ) → depth ≤ k → slice_index new k ≡ 0)
    → IsEntered root fuel old before left → IsReached before left after rest → IsEntered root fuel new after rest
paused_here root fuel old new before after left rest depth at same none reached below =
    entered_on root fuel new before left after rest (λ k behind. none k (omega (arith, at, behind)))
    (entered_same root fuel old new before left (λ k less. same k (omega (arith, at, less))) reached) below

pub ended_here : (may_stop : Bool) (root : Choices) (fuel : ℕ) (entered : List ℕ) (before after : Choices) (left : ℕ) (visit : Visit) → ((rest : ℕ) → visit ≡ Barren rest → ⊥) → ((rest : ℕ) → visit ≡ Stopped rest → may_stop ≡ true)
    → after.problem ≡ before.problem → IsVisit (first before.problem before.chosen) (visits before.problem before.chosen) left before.chosen after.chosen visit → IsEntered root fuel entered before left → IsEnding may_stop root fuel after visit
ended_here may_stop root fuel entered before after left Found more may same is reached = record {
  problem = same ∙ entered_problem root fuel entered before left reached;
  visit_is = reached_found root fuel before left after.chosen (entered_reached root fuel entered before left reached) is.0 is.1;
  stopped = may;
}
ended_here may_stop root fuel entered before after left (Barren rest) more may same is reached = absurd (more rest refl)
ended_here may_stop root fuel entered before after left Spent more may same is reached = record {
  problem = same ∙ entered_problem root fuel entered before left reached;
  visit_is = reached_spent root fuel before left (entered_reached root fuel entered before left reached) is;
  stopped = may;
}
ended_here may_stop root fuel entered before after left (Stopped rest) more may same is reached = record {
  problem = same ∙ entered_problem root fuel entered before left reached;
  visit_is = omega (arith, is, some_visits before.problem before.problem.primary before.chosen, reached_stopped root fuel before left (left - rest) (entered_reached root fuel entered before left reached) (omega (arith, is, some_visits before.problem before.problem.primary before.chosen)));
  stopped = may;
}

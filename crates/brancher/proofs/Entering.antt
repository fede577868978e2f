-- A visit that notes how much was left at each prefix, and keeps what it found barren.
use Rattle.std.proofs.Common.{◌≡◌, ℕ, ◌+◌, ◌-◌, ◌<◌, ◌≤◌, List, [], ◌∷◌, length, set, slice_index, not, Bool, true, false, Option, Some, None, is_some, IfSome, slice_get, refl, arith, sym, ◌∙◌, subst, inl, inr}
use Rattle.std.proofs.lemmas.Bool.{both_ways, cases_eq}
use Rattle.std.proofs.lemmas.List.{length-append, get_or-set_other}
use Rattle.cover_problem.specs.Alike.{AreAlike}
use Rattle.cover_problem.specs.Branching.{branch_item}
use Rattle.cover_problem.specs.Onward.{live_options_from}
use Rattle.cover_problem.specs.Prefix.{is_covered, is_prefix}
use Rattle.cover_problem.specs.Problem.{Problem, IsProblem}
use Rattle.cover_problem.specs.Search.{first, visits}
use Rattle.cover_problem.proofs.Alike.{alike, alike_barren, alive_alike, uncovered_alike}
use Rattle.cover_problem.proofs.Prefixes.{prefix_short}
use Rattle.cover_problem.proofs.Steps.{some_visits}
use Rattle.choices.specs.Choices.{Choices, IsChild, with_child_if}
use Rattle.choices.specs.Keys.{IsKey}
use Rattle.barren_states.specs.States.{States, IsKept}
use Rattle.brancher.specs.Keeping.{AreBarren, IsBarrenIn, IsEntered, IsKeptOf, IsKnown, IsNoteOf, IsPast, in_root, in_child}
use Rattle.brancher.specs.Reach.{IsSoFar, IsReached, at_root, at_child, IsBarrenAt, IsEnded}
use Rattle.brancher.proofs.Reaches.{IsChange, ended, reached_long, reached_problem, reached_spent}
use Rattle.brancher.proofs.Visits.{so_far_start, so_far_barren, so_far_next, so_far_end}

-- ---- the states that are kept

not_same : (a b : Bool) → not a ≡ not b → a ≡ b
not_same true true e = refl
not_same false false e = refl
not_same true false e = sym e
not_same false true e = sym e

pub key_alike : (p : Problem) (key xs ys : List ℕ) → IsProblem p → IsKey p xs key → IsKey p ys key → AreAlike p xs ys
key_alike p key xs ys lawful one other = elim (cases_eq p.primary (length p.names)) [
  | inl all ↦
      let same : (i : ℕ) → i < p.primary → is_covered p xs i ≡ is_covered p ys i = λ i inside. not_same (is_covered p xs i) (is_covered p ys i) (sym (one.uncovered all i inside) ∙ other.uncovered all i inside) in
      uncovered_alike p xs ys lawful all same
  | inr some ↦
      let few = lawful.primary in
      let less : p.primary < length p.names = omega (arith, some, few) in
      alive_alike p xs ys (λ o inside. sym ((one.live less).live o inside) ∙ (other.live less).live o inside) (one.live less).alive (other.live less).alive
]

barren_more : (p : Problem) (old new : States) (key xs : List ℕ) (count : ℕ) → IsProblem p → AreBarren p old → IsKept old key count new → IsKey p xs key → first p xs ≡ None → visits p xs ≡ count → AreBarren p new
barren_more p old new key xs count lawful are kept is none visited = λ other n ys holds of.
    elim (kept.held other n holds) [
      | inl before ↦ are other n ys before of
      | inr same ↦
          let P : List ℕ → Type 0 = λ k. IsKey p ys k in
          let both = key_alike p key xs ys lawful is (subst P same.0 of) in
          (alike_barren p xs ys both none, sym (alike p xs ys both).visits ∙ visited ∙ sym same.1)
    ]

-- the same of a prefix, where it is kept
pub barren_kept : (p : Problem) (old new : States) (xs : List ℕ) (count : ℕ) → IsProblem p → AreBarren p old → IsKeptOf p xs count old new → first p xs ≡ None → visits p xs ≡ count → AreBarren p new
barren_kept p old new xs count lawful are kept none visited = elim kept.is [
  | inl same ↦ let P : States → Type 0 = λ s. AreBarren p s in subst P (sym same) are
  | inr more ↦ barren_more p old new kept.key xs count lawful are more.1 more.0 none visited
]

pub known_barren : (p : Problem) (states : States) (xs : List ℕ) (count : ℕ) → AreBarren p states → IsKnown p xs states count → (first p xs ≡ None) × (visits p xs ≡ count)
known_barren p states xs count are known = are known.key count xs known.held known.is_key

-- ---- how far it has come

pub entered_reached : (root : Choices) (fuel : ℕ) (entered : List ℕ) (now : Choices) (left : ℕ) → IsEntered root fuel entered now left → IsReached root fuel now left
entered_reached root fuel entered now left in_root = at_root
entered_reached root fuel entered now left (in_child before item option earlier left' reached noted is far) =
    at_child before item option earlier left' (entered_reached root fuel entered before earlier reached) is far

pub barren_reached : (root : Choices) (fuel : ℕ) (entered : List ℕ) (now : Choices) (left : ℕ) → IsBarrenIn root fuel entered now left → IsBarrenAt root fuel now left
barren_reached root fuel entered now left barren = record { earlier = barren.earlier; reached = entered_reached root fuel entered now barren.earlier barren.reached; visits = barren.visits; none = barren.none }

-- what it has come to doesn't depend on the notes of prefixes behind it
pub entered_same : (root : Choices) (fuel : ℕ) (old new : List ℕ) (now : Choices) (left : ℕ) → ((k : ℕ) → k < length now.chosen → slice_index new k ≡ slice_index old k) → IsEntered root fuel old now left → IsEntered root fuel new now left
entered_same root fuel old new now left same in_root = in_root
entered_same root fuel old new now left same (in_child before item option earlier left' reached noted is far) =
    let less = length-append before.chosen (option ∷ []) in
    let here = same (length before.chosen) (omega (arith, less)) in
    in_child before item option earlier left' (entered_same root fuel old new before earlier (λ k below. same k (omega (arith, below, less))) reached)
    (λ some. here ∙ noted (omega (arith, some, here))) is far

-- a note of the prefix that it has come to
pub entered_noted : (root : Choices) (fuel : ℕ) (entered : List ℕ) (now : Choices) (left place note : ℕ) → length now.chosen ≤ place → IsEntered root fuel entered now left → IsEntered root fuel (set entered place note) now left
entered_noted root fuel entered now left place note behind reached =
    entered_same root fuel entered (set entered place note) now left (λ k below. get_or-set_other entered place k note 0 (λ h. omega (arith, h, below, behind))) reached

-- a visit of what it has come to, of which nothing is noted
pub entered_on : (root : Choices) (fuel : ℕ) (entered : List ℕ) (before : Choices) (earlier : ℕ) (now : Choices) (left : ℕ) → ((k : ℕ) → length before.chosen ≤ k → slice_index entered k ≡ 0)
    → IsEntered root fuel entered before earlier → IsReached before earlier now left → IsEntered root fuel entered now left
entered_on root fuel entered before earlier now left none reached at_root = reached
entered_on root fuel entered before earlier now left none reached (at_child mid item option between left' below is far) =
    in_child mid item option between left' (entered_on root fuel entered before earlier mid between none reached below)
    (λ some. absurd (omega (arith, some, none (length mid.chosen) (reached_long before earlier mid between below)))) is far

-- ---- what comes next

-- no cover is below, and its visits are what was noted without what is left
pub record IsNoted (root : Choices) (fuel : ℕ) (entered : List ℕ) (now : Choices) (left : ℕ) : Type 0 where
  pub barren : IsBarrenIn root fuel entered now left
  pub noted : IsNoteOf entered (length now.chosen) (visits now.problem now.chosen + left)

abbrev pub IsNextIn : Choices → ℕ → List ℕ → ℕ → Choices → Option ℕ → Type 0
IsNextIn root fuel entered left now None = IsNoted root fuel entered now left
IsNextIn root fuel entered left now (Some option) = IsEntered root fuel entered now left

next_in : (root : Choices) (fuel : ℕ) (entered : List ℕ) (before now : Choices) (item start earlier left : ℕ) (next : Option ℕ) → IsEntered root fuel entered before earlier → IsNoteOf entered (length before.chosen) earlier
    → next ≡ slice_get (live_options_from before.problem before.chosen item start) 0 → IfSome next (IsChild before.problem before.chosen item) → now ≡ with_child_if before item next
    → IsSoFar before.problem before.chosen earlier left (live_options_from before.problem before.chosen item start) → IsNextIn root fuel entered left now next
next_in root fuel entered before now item start earlier left None reached noted e child same far =
    let over = so_far_end before.problem before.chosen item earlier left (so_far_next before.problem before.chosen item start earlier left None e far) in
    let P : Choices → Type 0 = λ v. IsNoted root fuel entered v left in
    subst P (sym same) (record { barren = record { earlier = earlier; reached = reached; visits = over.0; none = over.1 }; noted = λ some. noted some ∙ sym over.0 })
next_in root fuel entered before now item start earlier left (Some option) reached noted e child same far =
    let P : Choices → Type 0 = λ v. IsEntered root fuel entered v left in
    subst P (sym same) (in_child before item option earlier left reached noted child (so_far_next before.problem before.chosen item start earlier left (Some option) e far))

-- once the first child of a prefix is chosen, if it has one
pub first_in : (root : Choices) (fuel : ℕ) (entered : List ℕ) (before now : Choices) (item earlier : ℕ) (next : Option ℕ) → 0 < earlier → IsEntered root fuel entered before earlier → IsNoteOf entered (length before.chosen) earlier
    → branch_item before.problem before.chosen ≡ Some item
    → next ≡ slice_get (live_options_from before.problem before.chosen item 0) 0 → IfSome next (IsChild before.problem before.chosen item) → now ≡ with_child_if before item next
    → IsNextIn root fuel entered (earlier - 1) now next
first_in root fuel entered before now item earlier next fueled reached noted branch e child same =
    next_in root fuel entered before now item 0 earlier (earlier - 1) next reached noted e child same (so_far_start before.problem before.chosen item earlier fueled branch)

-- once the last choice of a barren prefix is changed for the next
reached_changed : (root : Choices) (fuel left : ℕ) (entered : List ℕ) (old new : Choices) (next : Option ℕ) (earlier : ℕ) → length root.chosen < length old.chosen → IsEntered root fuel entered old earlier
    → visits old.problem old.chosen + left ≡ earlier → first old.problem old.chosen ≡ None → IsChange old next new → IsNextIn root fuel entered left new next
reached_changed root fuel left entered old new next earlier more in_root visits none change = absurd (omega (arith, more))
reached_changed root fuel left entered old new next earlier more (in_child before item option before_that earlier' reached noted is far) visits none change =
    let step = change before item option refl in
    next_in root fuel entered before new item (option + 1) before_that left next reached noted step.next_is step.child step.chosen
    (so_far_barren before.problem before.chosen item option before_that earlier left is visits none far)

pub changed_in : (root : Choices) (fuel left : ℕ) (entered : List ℕ) (old new : Choices) (next : Option ℕ) → length root.chosen < length old.chosen → IsBarrenIn root fuel entered old left → IsChange old next new
    → IsNextIn root fuel entered left new next
changed_in root fuel left entered old new next more barren change = reached_changed root fuel left entered old new next barren.earlier more barren.reached barren.visits barren.none change

pub past_next : (root : Choices) (fuel : ℕ) (entered : List ℕ) (left : ℕ) (now : Choices) (next : Option ℕ) (b : Bool) → b ≡ is_some next → IsNextIn root fuel entered left now next → IsPast root fuel entered now left b
past_next root fuel entered left now None b e is = let P : Bool → Type 0 = λ v. IsPast root fuel entered now left v in subst P (sym e) is.barren
past_next root fuel entered left now (Some option) b e is = let P : Bool → Type 0 = λ v. IsPast root fuel entered now left v in subst P (sym e) is

-- where all choices below the root are taken back
pub ended_in : (root : Choices) (fuel : ℕ) (entered : List ℕ) (now : Choices) (left : ℕ) → length now.chosen ≤ length root.chosen → IsBarrenIn root fuel entered now left → IsEnded root fuel now left
ended_in root fuel entered now left few barren = ended root fuel now left few (barren_reached root fuel entered now left barren)

-- past a prefix whose visits are known
pub known_past : (root : Choices) (fuel : ℕ) (entered : List ℕ) (now : Choices) (left count : ℕ) → first now.problem now.chosen ≡ None → visits now.problem now.chosen ≡ count → count ≤ left → IsEntered root fuel entered now left
    → (left - count < left) × IsBarrenIn root fuel entered now (left - count)
known_past root fuel entered now left count none visited few reached = (
  omega (arith, visited, few, some_visits now.problem now.problem.primary now.chosen),
  record { earlier = left; reached = reached; visits = omega (arith, visited, few); none = none },
)

pub known_spent : (root : Choices) (fuel : ℕ) (entered : List ℕ) (now : Choices) (left count : ℕ) → visits now.problem now.chosen ≡ count → left < count → IsEntered root fuel entered now left → fuel < visits root.problem root.chosen
known_spent root fuel entered now left count visited many reached = reached_spent root fuel now left (entered_reached root fuel entered now left reached) (omega (arith, visited, many))

pub noted_in : (root : Choices) (fuel : ℕ) (entered : List ℕ) (left : ℕ) (now : Choices) (next : Option ℕ) → is_some next ≡ false → IsNextIn root fuel entered left now next → IsNoted root fuel entered now left
noted_in root fuel entered left now None e is = is
noted_in root fuel entered left now (Some option) e is = absurd (both_ways true e refl)

pub goes_in : (root : Choices) (fuel : ℕ) (entered : List ℕ) (left : ℕ) (now : Choices) (next : Option ℕ) → is_some next ≡ true → IsNextIn root fuel entered left now next → IsEntered root fuel entered now left
goes_in root fuel entered left now None e is = absurd (both_ways false refl e)
goes_in root fuel entered left now (Some option) e is = is

pub entered_problem : (root : Choices) (fuel : ℕ) (entered : List ℕ) (now : Choices) (left : ℕ) → IsEntered root fuel entered now left → now.problem ≡ root.problem
entered_problem root fuel entered now left reached = reached_problem root fuel now left (entered_reached root fuel entered now left reached)

-- there is room for a note of each prefix
pub room_for : (p q : Problem) (xs : List ℕ) (n m : ℕ) → IsProblem p → q ≡ p → is_prefix q xs ≡ true → p.primary < n → m ≡ n → length xs < m
room_for p q xs n m lawful same prefix room long =
    let P : Problem → Type 0 = λ r. is_prefix r xs ≡ true in
    omega (arith, prefix_short p xs lawful (subst P same prefix), room, long)

-- How far a visit has come: what it says of the root, and what comes next.
use Rattle.std.proofs.Common.{◌≡◌, ℕ, ◌+◌, ◌-◌, ◌<◌, ◌≤◌, List, [], ◌∷◌, ◌++◌, length, true, false, Option, Some, None, refl, arith, sym, ap, ◌∙◌, slice_get, subst, is_some, IfSome}
use Rattle.std.proofs.lemmas.Bool.{both_ways}
use Rattle.std.proofs.lemmas.List.{length-append}
use Rattle.cover_problem.specs.Branching.{branch_item}
use Rattle.cover_problem.specs.Onward.{live_options_from}
use Rattle.cover_problem.specs.Search.{first, visits}
use Rattle.choices.specs.Choices.{Choices, IsChild, IsNextChoice, with_child, with_child_if}
use Rattle.brancher.specs.Reach.{IsSoFar, IsReached, at_root, at_child, IsBarrenAt, IsEnded}
use Rattle.brancher.proofs.Visits.{so_far_start, so_far_found, so_far_spent, so_far_stopped, so_far_barren, so_far_next, so_far_end}

-- ---- what it says of the root

pub reached_problem : (root : Choices) (fuel : ℕ) (now : Choices) (left : ℕ) → IsReached root fuel now left → now.problem ≡ root.problem
reached_problem root fuel now left at_root = refl
reached_problem root fuel now left (at_child before item option earlier left' reached is far) = reached_problem root fuel before earlier reached

-- each choice below the root has its item
pub reached_items : (root : Choices) (fuel : ℕ) (now : Choices) (left : ℕ) → IsReached root fuel now left → length now.chosen ≤ length root.chosen + length now.branches
reached_items root fuel now left at_root = omega arith
reached_items root fuel now left (at_child before item option earlier left' reached is far) =
    omega (arith, reached_items root fuel before earlier reached, length-append before.chosen (option ∷ []), length-append before.branches (item ∷ []))

pub reached_long : (root : Choices) (fuel : ℕ) (now : Choices) (left : ℕ) → IsReached root fuel now left → length root.chosen ≤ length now.chosen
reached_long root fuel now left at_root = omega arith
reached_long root fuel now left (at_child before item option earlier left' reached is far) =
    omega (arith, reached_long root fuel before earlier reached, length-append before.chosen (option ∷ []))

pub reached_found : (root : Choices) (fuel : ℕ) (now : Choices) (left : ℕ) (cover : List ℕ) → IsReached root fuel now left
    → visits now.problem now.chosen ≤ left → first now.problem now.chosen ≡ Some cover → (visits root.problem root.chosen ≤ fuel) × (first root.problem root.chosen ≡ Some cover)
reached_found root fuel now left cover at_root few some = (few, some)
reached_found root fuel now left cover (at_child before item option earlier left' reached is far) few some =
    let up = so_far_found before.problem before.chosen cover item option earlier left is few some far in
    reached_found root fuel before earlier cover reached up.0 up.1

pub reached_spent : (root : Choices) (fuel : ℕ) (now : Choices) (left : ℕ) → IsReached root fuel now left → left < visits now.problem now.chosen → fuel < visits root.problem root.chosen
reached_spent root fuel now left at_root many = many
reached_spent root fuel now left (at_child before item option earlier left' reached is far) many =
    reached_spent root fuel before earlier reached (so_far_spent before.problem before.chosen item option earlier left is many far)

-- a visit that stops has made fewer than there are
pub reached_stopped : (root : Choices) (fuel : ℕ) (now : Choices) (left made : ℕ) → IsReached root fuel now left → made < visits now.problem now.chosen → fuel + made < visits root.problem root.chosen + left
reached_stopped root fuel now left made at_root many = omega (arith, many)
reached_stopped root fuel now left made (at_child before item option earlier left' reached is far) many =
    omega (arith, far.less, reached_stopped root fuel before earlier (made + (earlier - left')) reached (so_far_stopped before.problem before.chosen item option earlier left' made is many far))

-- ---- what comes next

-- where an option comes next, the visit goes on at it; where none does, there is no cover below what it would be a child of
abbrev pub IsNext : Choices → ℕ → ℕ → Choices → Option ℕ → Type 0
IsNext root fuel left now None = IsBarrenAt root fuel now left
IsNext root fuel left now (Some option) = IsReached root fuel now left

pub no_next : (next : Option ℕ) → is_some next ≡ false → next ≡ None
no_next None e = refl
no_next (Some option) e = absurd (both_ways true e refl)

pub goes_on : (root : Choices) (fuel left : ℕ) (now : Choices) (next : Option ℕ) → is_some next ≡ true → IsNext root fuel left now next → IsReached root fuel now left
goes_on root fuel left now None e is = absurd (both_ways false refl e)
goes_on root fuel left now (Some option) e is = is

pub is_barren : (root : Choices) (fuel left : ℕ) (now : Choices) (next : Option ℕ) → is_some next ≡ false → IsNext root fuel left now next → IsBarrenAt root fuel now left
is_barren root fuel left now None e is = is
is_barren root fuel left now (Some option) e is = absurd (both_ways true e refl)

next_child : (root : Choices) (fuel : ℕ) (before now : Choices) (item start earlier left : ℕ) (next : Option ℕ) → IsReached root fuel before earlier
    → next ≡ slice_get (live_options_from before.problem before.chosen item start) 0 → IfSome next (IsChild before.problem before.chosen item) → now ≡ with_child_if before item next
    → IsSoFar before.problem before.chosen earlier left (live_options_from before.problem before.chosen item start) → IsNext root fuel left now next
next_child root fuel before now item start earlier left None reached e child same far =
    let ended = so_far_end before.problem before.chosen item earlier left (so_far_next before.problem before.chosen item start earlier left None e far) in
    let barren : IsBarrenAt root fuel before left = record { earlier = earlier; reached = reached; visits = ended.0; none = ended.1 } in
    let P : Choices → Type 0 = λ v. IsBarrenAt root fuel v left in
    subst P (sym same) barren
next_child root fuel before now item start earlier left (Some option) reached e child same far =
    let P : Choices → Type 0 = λ v. IsReached root fuel v left in
    subst P (sym same) (at_child before item option earlier left reached child (so_far_next before.problem before.chosen item start earlier left (Some option) e far))

-- once the first child of a prefix is chosen, if it has one
pub first_child : (root : Choices) (fuel : ℕ) (before now : Choices) (item earlier : ℕ) (next : Option ℕ) → 0 < earlier → IsReached root fuel before earlier
    → branch_item before.problem before.chosen ≡ Some item
    → next ≡ slice_get (live_options_from before.problem before.chosen item 0) 0 → IfSome next (IsChild before.problem before.chosen item) → now ≡ with_child_if before item next
    → IsNext root fuel (earlier - 1) now next
first_child root fuel before now item earlier next fueled reached branch e child same =
    next_child root fuel before now item 0 earlier (earlier - 1) next reached e child same (so_far_start before.problem before.chosen item earlier fueled branch)

-- what comes in place of the last choice
abbrev pub IsChange : Choices → Option ℕ → Choices → Type 0
IsChange old next new = (before : Choices) (item option : ℕ) → old ≡ with_child before item option → IsNextChoice before item option next new

-- once the last choice of a barren prefix is changed for the next
reached_changed : (root : Choices) (fuel left : ℕ) (old new : Choices) (next : Option ℕ) (earlier : ℕ) → length root.chosen < length old.chosen → IsReached root fuel old earlier
    → visits old.problem old.chosen + left ≡ earlier → first old.problem old.chosen ≡ None → IsChange old next new → IsNext root fuel left new next
reached_changed root fuel left old new next earlier more at_root visits none change = absurd (omega (arith, more))
reached_changed root fuel left old new next earlier more (at_child before item option before_that earlier' reached is far) visits none change =
    let step = change before item option refl in
    next_child root fuel before new item (option + 1) before_that left next reached step.next_is step.child step.chosen
    (so_far_barren before.problem before.chosen item option before_that earlier left is visits none far)

pub changed : (root : Choices) (fuel left : ℕ) (old new : Choices) (next : Option ℕ) → length root.chosen < length old.chosen → IsBarrenAt root fuel old left → IsChange old next new
    → IsNext root fuel left new next
changed root fuel left old new next more barren change = reached_changed root fuel left old new next barren.earlier more barren.reached barren.visits barren.none change

is_root : (root : Choices) (fuel : ℕ) (now : Choices) (left : ℕ) → length now.chosen ≤ length root.chosen → IsReached root fuel now left → (now ≡ root) × (left ≡ fuel)
is_root root fuel now left few at_root = (refl, refl)
is_root root fuel now left few (at_child before item option earlier left' reached is far) =
    absurd (omega (arith, few, reached_long root fuel before earlier reached, length-append before.chosen (option ∷ [])))

-- where all choices below the root are taken back
pub ended : (root : Choices) (fuel : ℕ) (now : Choices) (left : ℕ) → length now.chosen ≤ length root.chosen → IsBarrenAt root fuel now left → IsEnded root fuel now left
ended root fuel now left few barren =
    let at = is_root root fuel now barren.earlier few barren.reached in
    record {
      visits = omega (arith, barren.visits, at.1, ap (λ (v : Choices). visits v.problem v.chosen) at.0);
      none = sym (ap (λ (v : Choices). first v.problem v.chosen) at.0) ∙ barren.none;
      back = at.0;
    }

-- ---- the choices, as a list that was appended to

record IsSplit (xs : List ℕ) : Type 0 where
  front : List ℕ
  last : ℕ
  whole : xs ≡ front ++ last ∷ []

split : (xs : List ℕ) → 0 < length xs → IsSplit xs
split [] some = absurd (omega (arith, some))
split (x ∷ []) some = record { front = []; last = x; whole = refl }
split (x ∷ y ∷ ys) some =
    let rest = split (y ∷ ys) (omega arith) in
    record { front = x ∷ rest.front; last = rest.last; whole = ap (λ zs. x ∷ zs) rest.whole }

-- the last choice has its item, so taking it back leaves one less of each
pub taken_back : (base : ℕ) (old new : Choices) (next : Option ℕ) → base < length old.chosen → length old.chosen ≤ base + length old.branches → IsChange old next new → next ≡ None
    → (length new.chosen < length old.chosen) × (length new.chosen ≤ base + length new.branches)
taken_back base old new next more items change e =
    let one = split old.chosen (omega arith) in
    let two = split old.branches (omega arith) in
    let before : Choices = record { problem = old.problem; chosen = one.front; branches = two.front } in
    let same : old ≡ with_child before two.last one.last = (λ i. record { problem = old.problem; chosen = one.whole i; branches = two.whole i }) in
    let back : new ≡ before = (change before two.last one.last same).chosen ∙ ap (with_child_if before two.last) e in
    let fewer : length old.chosen ≡ length one.front + 1 = ap length one.whole ∙ length-append one.front (one.last ∷ []) in
    let fewer_items : length old.branches ≡ length two.front + 1 = ap length two.whole ∙ length-append two.front (two.last ∷ []) in
    (omega (arith, fewer, ap (λ (v : Choices). length v.chosen) back), omega (arith, items, fewer, fewer_items, ap (λ (v : Choices). length v.chosen) back, ap (λ (v : Choices). length v.branches) back))

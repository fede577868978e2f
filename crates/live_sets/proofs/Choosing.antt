-- Chosen options and one more.
use Rattle.std.proofs.Common.{◌≡◌, ℕ, suc, ◌+◌, ◌-◌, ◌*◌, ◌<◌, ◌≤◌, List, [], ◌∷◌, ◌++◌, length, map, take, get_or, slice_get, Option, Some, None, IfSome, true, refl, arith, sym, ap, ◌∙◌, inl, inr, subst, length-append}
use Rattle.std.proofs.lemmas.Bool.{cases_lt}
use Rattle.std.proofs.lemmas.List.{take-append-le, get_or_append_left, take_all, map-append}
use Rattle.std.proofs.lemmas.Option.{slice_get_within, slice_get-get_or, get_or_from_slice_get}
use Rattle.std.proofs.Math.Seq.{take-append_seam, get_or-append_seam, take-suc}
use Rattle.cover_problem.proofs.Basics.{get_front}
use Rattle.cover_problem.specs.Problem.{Problem, IsProblem}
use Rattle.cover_problem.specs.Prefix.{is_live}
use Rattle.choices.specs.Choices.{Choices, with_child, IsNextChoice}
use Rattle.cover_problem.proofs.Fronts.{prefix_push, prefix_front, room_left}
use Rattle.option_sets.specs.Sets.{words_of}
use Rattle.live_sets.specs.declared.levels.Levels.{Levels}
use Rattle.live_sets.specs.declared.made_choice.MadeChoice.{MadeChoice}
use Rattle.live_sets.specs.declared.untried.Untried.{Untried}
use Rattle.cover_problem.specs.Branching.{branch_item, IsOpen}
use Rattle.live_sets.specs.Counting.{IsLive, item_of}
use Rattle.live_sets.proofs.Layered.{level_end, level_low}
use Rattle.live_sets.proofs.Leveled.{counts_front}
use Rattle.cover_problem.proofs.Prefixes.{prefix_short, branch_is_open}
use Rattle.live_sets.specs.Levels.{AreLevels, IsLevel, level_at}
use Rattle.live_sets.specs.Rows.{AreMarks, AreRows, IsPopped, IsTaken, IsUntried, untried_of}

-- the first options of a list with one more
front_take : (os : List ℕ) (o e : ℕ) → e ≤ length os → take e (os ++ o ∷ []) ≡ take e os
front_take os o e le = take-append-le e os (o ∷ []) le

last_get : (ms : List MadeChoice) (m : MadeChoice) → slice_get (ms ++ m ∷ []) (length ms) ≡ Some m
last_get ms m = slice_get-get_or (ms ++ m ∷ []) (length ms) m (omega (arith, length-append ms (m ∷ []))) ∙ ap Some (get_or-append_seam ms m [] m)

-- the levels of fewer options
pub levels_front : (p : Problem) (os : List ℕ) (o : ℕ) (levels : Levels) → AreLevels p (os ++ o ∷ []) levels → AreLevels p os levels
levels_front p os o levels are = record {
  words = are.words;
  leasts = are.leasts;
  each = λ e le.
      let P : List ℕ → Type 0 = λ xs. IsLevel p xs (level_at (words_of p) e levels.live.items) (get_or levels.leasts.items e 0) in
      subst P (front_take os o e le) (are.each e (omega (arith, le, length-append os (o ∷ []))));
  are_counts = counts_front p os o levels.counts are.are_counts;
}

marks_front : (p : Problem) (os : List ℕ) (o : ℕ) (ms : List MadeChoice) (m : MadeChoice) → length ms ≡ length os → AreMarks p (os ++ o ∷ []) (ms ++ m ∷ []) → AreMarks p os ms
marks_front p os o ms m long are = record {
  count = long;
  each = λ e mark at.
      let inside : e < length os = omega (arith, slice_get_within ms e mark at, long) in
      let P : List ℕ → Type 0 = λ xs. IsUntried p xs mark.item (get_or (os ++ o ∷ []) e 0 + 1) (untried_of mark) in
      let Q : ℕ → Type 0 = λ n. IsUntried p (take e os) mark.item (n + 1) (untried_of mark) in
      subst Q (get_or_append_left os (o ∷ []) 0 e inside) (subst P (front_take os o e (omega (arith, inside))) (are.each e mark (get_front ms (m ∷ []) e mark at)));
}

-- without the last option
pub rows_front : (p : Problem) (os : List ℕ) (o : ℕ) (ms : List MadeChoice) (m : MadeChoice) (levels : Levels) → AreRows p (os ++ o ∷ []) (ms ++ m ∷ []) levels → AreRows p os ms levels × IsUntried p os m.item (o + 1) (untried_of m)
rows_front p os o ms m levels are =
    let long : length ms ≡ length os = omega (arith, are.are_marks.count, length-append ms (m ∷ []), length-append os (o ∷ [])) in
    let last = are.are_marks.each (length ms) m (last_get ms m) in
    let P : List ℕ → Type 0 = λ xs. IsUntried p xs m.item (get_or (os ++ o ∷ []) (length ms) 0 + 1) (untried_of m) in
    let Q : ℕ → Type 0 = λ n. IsUntried p os m.item (n + 1) (untried_of m) in
    let front : take (length ms) (os ++ o ∷ []) ≡ os = ap (λ n. take n (os ++ o ∷ [])) long ∙ take-append_seam os (o ∷ []) in
    let option : get_or (os ++ o ∷ []) (length ms) 0 ≡ o = ap (λ n. get_or (os ++ o ∷ []) n 0) long ∙ get_or-append_seam os o [] 0 in (
      record {
        is_problem = are.is_problem;
        prefix = prefix_front p os (o ∷ []) are.prefix;
        are_marks = marks_front p os o ms m long are.are_marks;
        are_levels = levels_front p os o levels are.are_levels;
      },
      subst Q option (subst P front last),
    )

marks_push : (p : Problem) (os : List ℕ) (o : ℕ) (ms : List MadeChoice) (m : MadeChoice) → AreMarks p os ms → IsUntried p os m.item (o + 1) (untried_of m) → AreMarks p (os ++ o ∷ []) (ms ++ m ∷ [])
marks_push p os o ms m are last = record {
  count = omega (arith, are.count, length-append ms (m ∷ []), length-append os (o ∷ []));
  each = λ e mark at.
      let P : List ℕ → ℕ → Type 0 = λ xs n. IsUntried p xs mark.item (n + 1) (untried_of mark) in
      elim (cases_lt e (length ms)) [
        | inl less ↦
            let inside : e < length os = omega (arith, less, are.count) in
            let own : slice_get ms e ≡ Some mark = slice_get-get_or ms e mark less ∙ ap Some (sym (get_or_append_left ms (m ∷ []) mark e less) ∙ get_or_from_slice_get (ms ++ m ∷ []) e mark mark at) in
            let F : List ℕ → Type 0 = λ xs. IsUntried p xs mark.item (get_or (os ++ o ∷ []) e 0 + 1) (untried_of mark) in
            let G : ℕ → Type 0 = λ n. IsUntried p (take e os) mark.item (n + 1) (untried_of mark) in
            subst F (sym (front_take os o e (omega (arith, inside)))) (subst G (sym (get_or_append_left os (o ∷ []) 0 e inside)) (are.each e mark own))
        | inr more ↦
            let whole = slice_get_within (ms ++ m ∷ []) e mark at in
            let here : e ≡ length ms = omega (arith, whole, more, length-append ms (m ∷ [])) in
            let same : m ≡ mark = sym (get_or-append_seam ms m [] mark) ∙ ap (λ n. get_or (ms ++ m ∷ []) n mark) (sym here) ∙ get_or_from_slice_get (ms ++ m ∷ []) e mark mark at in
            let place : e ≡ length os = omega (arith, here, are.count) in
            let front : take e (os ++ o ∷ []) ≡ os = ap (λ n. take n (os ++ o ∷ [])) place ∙ take-append_seam os (o ∷ []) in
            let option : get_or (os ++ o ∷ []) e 0 ≡ o = ap (λ n. get_or (os ++ o ∷ []) n 0) place ∙ get_or-append_seam os o [] 0 in
            let M : MadeChoice → Type 0 = λ v. IsUntried p os v.item (o + 1) (untried_of v) in
            let F : List ℕ → Type 0 = λ xs. IsUntried p xs mark.item (get_or (os ++ o ∷ []) e 0 + 1) (untried_of mark) in
            let G : ℕ → Type 0 = λ n. IsUntried p os mark.item (n + 1) (untried_of mark) in
            subst F (sym front) (subst G (sym option) (subst M same last))
      ];
}

-- with one more
pub rows_push : (p : Problem) (os : List ℕ) (o : ℕ) (ms : List MadeChoice) (m : MadeChoice) (old new : Levels) → AreRows p os ms old → o < length p.options → is_live p os o ≡ true → IsUntried p os m.item (o + 1) (untried_of m) → AreLevels p (os ++ o ∷ []) new → AreRows p (os ++ o ∷ []) (ms ++ m ∷ []) new
rows_push p os o ms m old new are inside live last levels = record {
  is_problem = are.is_problem;
  prefix = prefix_push p os o are.is_problem are.prefix inside live;
  are_marks = marks_push p os o ms m are.are_marks last;
  are_levels = levels;
}

-- a list without its last element
without_last : {X : Type 0} (xs front : List X) (x : X) (n l : ℕ) → 0 < length xs → n ≡ length xs → l ≡ length xs → front ≡ take (l - 1) xs → x ≡ get_or xs (n - 1) x → xs ≡ front ++ x ∷ []
without_last xs front x n l some long whole rest last =
    let before : ℕ = length xs - 1 in
    let inside : before < length xs = omega (arith, some) in
    let up : suc before ≡ length xs = omega (arith, some) in
    let all : take (suc before) xs ≡ xs = take_all (suc before) xs (omega (arith, up)) in
    let short : front ≡ take before xs = rest ∙ ap (λ k. take k xs) (omega (arith, whole)) in
    let end : x ≡ get_or xs before x = last ∙ ap (λ k. get_or xs k x) (omega (arith, long)) in
    sym all ∙ take-suc xs before x inside ∙ ap (λ y. take before xs ++ y ∷ []) (sym end) ∙ ap (λ ys. ys ++ x ∷ []) (sym short)

-- what rows are seen as
abbrev pub seen : Problem → List ℕ → List MadeChoice → Choices
seen p os ms = record { problem = p; chosen = os; branches = map (λ m. m.item) ms }

-- the last choice is taken back
pub popped : (p : Problem) (os fos : List ℕ) (o : ℕ) (ms fms : List MadeChoice) (m : MadeChoice) (levels : Levels) (n l k : ℕ) (v : Choices) → seen p os ms ≡ v → 0 < length v.chosen → AreRows p os ms levels → n ≡ l → l ≡ length os → k ≡ length ms → o ≡ get_or os (n - 1) o → m ≡ get_or ms (n - 1) m → fos ≡ take (l - 1) os → fms ≡ take (k - 1) ms → AreRows p fos fms levels × IsPopped v o m (seen p fos fms)
popped p os fos o ms fms m levels n l k v view some are same long whole option mark front left =
    let has : 0 < length os = omega (arith, some, ap (λ (c : Choices). length c.chosen) view) in
    let e : os ≡ fos ++ o ∷ [] = without_last os fos o n l has (omega (arith, same, long)) long front option in
    let f : ms ≡ fms ++ m ∷ [] = without_last ms fms m n k (omega (arith, has, are.are_marks.count)) (omega (arith, same, long, are.are_marks.count)) whole left mark in
    let P : List ℕ → Type 0 = λ xs. AreRows p xs ms levels in
    let Q : List MadeChoice → Type 0 = λ ys. AreRows p (fos ++ o ∷ []) ys levels in
    let both = rows_front p fos o fms m levels (subst Q f (subst P e are)) in (
      both.0,
      record {
        choice =
            let item : MadeChoice → ℕ = λ x. x.item in
            sym view ∙ ap (λ (xs : List ℕ). seen p xs ms) e ∙ ap (λ (ys : List MadeChoice). seen p (fos ++ o ∷ []) ys) f
            ∙ ap (λ (is : List ℕ). record { problem = p; chosen = fos ++ o ∷ []; branches = is }) (map-append item fms (m ∷ []));
        untried = both.1;
      },
    )

-- with one more choice
pub seen_push : (p : Problem) (os more : List ℕ) (o : ℕ) (ms marks : List MadeChoice) (m : MadeChoice) (v : Choices) → seen p os ms ≡ v → more ≡ os ++ o ∷ [] → marks ≡ ms ++ m ∷ [] → seen p more marks ≡ with_child v m.item o
seen_push p os more o ms marks m v view e f =
    let item : MadeChoice → ℕ = λ x. x.item in
    ap (λ (xs : List ℕ). seen p xs marks) e ∙ ap (λ (ys : List MadeChoice). seen p (os ++ o ∷ []) ys) f
    ∙ ap (λ (is : List ℕ). record { problem = p; chosen = os ++ o ∷ []; branches = is }) (map-append item ms (m ∷ []))
    ∙ ap (λ (c : Choices). with_child c m.item o) view

-- the same for the state
pub pushed : (p : Problem) (os more : List ℕ) (o : ℕ) (ms marks : List MadeChoice) (m : MadeChoice) (old new : Levels) (v : Choices) → seen p os ms ≡ v → AreRows p os ms old → o < length v.problem.options → is_live v.problem v.chosen o ≡ true → IsUntried v.problem v.chosen m.item (o + 1) (untried_of m) → AreLevels p (os ++ o ∷ []) new → more ≡ os ++ o ∷ [] → marks ≡ ms ++ m ∷ [] → AreRows p more marks new
pushed p os more o ms marks m old new v view are inside live last levels e f =
    let back = sym view in
    let A : Choices → Type 0 = λ c. o < length c.problem.options in
    let B : Choices → Type 0 = λ c. is_live c.problem c.chosen o ≡ true in
    let C : Choices → Type 0 = λ c. IsUntried c.problem c.chosen m.item (o + 1) (untried_of m) in
    let rows = rows_push p os o ms m old new are (subst A back inside) (subst B back live) (subst C back last) levels in
    let P : List ℕ → Type 0 = λ xs. AreRows p xs (ms ++ m ∷ []) new in
    let Q : List MadeChoice → Type 0 = λ ys. AreRows p more ys new in
    subst Q (sym f) (subst P (sym e) rows)

-- there is room for one more
pub room_for : (p : Problem) (os : List ℕ) (o : ℕ) (ms : List MadeChoice) (levels : Levels) (v : Choices) → seen p os ms ≡ v → AreRows p os ms levels → o < length v.problem.options → is_live v.problem v.chosen o ≡ true → (length os < p.primary) × (length ms < p.primary) × (o < length p.options)
room_for p os o ms levels v view are inside live =
    let back = sym view in
    let A : Choices → Type 0 = λ c. o < length c.problem.options in
    let B : Choices → Type 0 = λ c. is_live c.problem c.chosen o ≡ true in
    let room = room_left p os o are.is_problem are.prefix (subst A back inside) (subst B back live) in
    (room, omega (arith, room, are.are_marks.count), subst A back inside)

-- the live options once all are chosen
pub live_here : (p : Problem) (os : List ℕ) (ms : List MadeChoice) (levels : Levels) (v : Choices) (n : ℕ) (live : List ℕ) → seen p os ms ≡ v → AreRows p os ms levels → n ≡ length os → live ≡ level_at (words_of p) n levels.live.items → IsLive v.problem v.chosen live
live_here p os ms levels v n live view are long e =
    let at = (are.are_levels.each n (omega (arith, long))).is_live in
    let P : List ℕ → Type 0 = λ xs. IsLive p xs (level_at (words_of p) n levels.live.items) in
    let Q : List ℕ → Type 0 = λ s. IsLive p os s in
    let R : Choices → Type 0 = λ c. IsLive c.problem c.chosen live in
    subst R view (subst Q (sym e) (subst P (take_all n os (omega (arith, long))) at))

-- and their words
pub words_inside : (p : Problem) (os : List ℕ) (ms : List MadeChoice) (levels : Levels) (n : ℕ) → AreRows p os ms levels → n ≡ length os → n * words_of p + words_of p ≤ length levels.live.items
words_inside p os ms levels n are long =
    let short = prefix_short p os are.is_problem are.prefix in
    omega (arith, are.are_levels.words, level_end (words_of p) n, level_low (words_of p) (n + 1) (p.primary + 1) (omega (arith, long, short)))

-- the branch item, once all are chosen
pub branch_here : (p : Problem) (os : List ℕ) (ms : List MadeChoice) (levels : Levels) (n : ℕ) → AreRows p os ms levels → n ≡ length os → item_of (get_or levels.leasts.items n 0) ≡ branch_item p os
branch_here p os ms levels n are long =
    sym (are.are_levels.each n (omega (arith, long))).branch ∙ ap (branch_item p) (take_all n os (omega (arith, long)))

-- which is open
pub branch_open : (p : Problem) (os : List ℕ) (r : Option ℕ) → r ≡ branch_item p os → IfSome r (IsOpen p os)
branch_open p os None e = tt
branch_open p os (Some i) e = branch_is_open p os i (sym e)

-- its key is there
pub least_inside : (p : Problem) (os : List ℕ) (ms : List MadeChoice) (levels : Levels) (n : ℕ) → AreRows p os ms levels → n ≡ length os → n < length levels.leasts.items
least_inside p os ms levels n are long = omega (arith, long, prefix_short p os are.is_problem are.prefix, are.are_levels.leasts)

-- before anything is chosen
pub rows_none : (p : Problem) (levels : Levels) → IsProblem p → AreLevels p [] levels → AreRows p [] [] levels
rows_none p levels is are = record {
  is_problem = is;
  prefix = refl;
  are_marks = record { count = refl; each = λ e mark at. absurd (omega (arith, slice_get_within [] e mark at)) };
  are_levels = are;
}

-- lists with one more element that are equal
ends_same : (xs ys : List ℕ) (x y : ℕ) → xs ++ x ∷ [] ≡ ys ++ y ∷ [] → (xs ≡ ys) × (x ≡ y)
ends_same xs ys x y e =
    let long : length xs ≡ length ys = omega (arith, ap length e, length-append xs (x ∷ []), length-append ys (y ∷ [])) in
    let front : xs ≡ ys = sym (take-append_seam xs (x ∷ [])) ∙ ap (λ (zs : List ℕ). take (length xs) zs) e ∙ ap (λ n. take n (ys ++ y ∷ [])) long ∙ take-append_seam ys (y ∷ []) in
    let last : x ≡ y = sym (get_or-append_seam xs x [] 0) ∙ ap (λ (zs : List ℕ). get_or zs (length xs) 0) e ∙ ap (λ n. get_or (ys ++ y ∷ []) n 0) long ∙ get_or-append_seam ys y [] 0 in
    (front, last)

-- what comes in place of the last choice
pub next_choice : (whole half before : Choices) (o : ℕ) (m : MadeChoice) (item option : ℕ) (next : Option ℕ) (after : Choices) → whole ≡ with_child before item option → IsPopped whole o m half → IsTaken half m.item (o + 1) next after → IsNextChoice before item option next after
next_choice whole half before o m item option next after e pop taken =
    let same : with_child half m.item o ≡ with_child before item option = sym pop.choice ∙ e in
    let os = ends_same half.chosen before.chosen o option (ap (λ (c : Choices). c.chosen) same) in
    let is = ends_same half.branches before.branches m.item item (ap (λ (c : Choices). c.branches) same) in
    let base : half ≡ before = ap (λ (p : Problem). record { problem = p; chosen = half.chosen; branches = half.branches }) (ap (λ (c : Choices). c.problem) same)
    ∙ ap (λ (xs : List ℕ). record { problem = before.problem; chosen = xs; branches = half.branches }) os.0 ∙ ap (λ (xs : List ℕ). record { problem = before.problem; chosen = before.chosen; branches = xs }) is.0 in
    let P : Choices → Type 0 = λ c. IsTaken c m.item (o + 1) next after in
    let Q : ℕ → Type 0 = λ i. IsTaken before i (o + 1) next after in
    let R : ℕ → Type 0 = λ n. IsTaken before item (n + 1) next after in
    let all = subst R os.1 (subst Q is.1 (subst P base taken)) in
    record { next_is = all.first; child = all.child; chosen = all.chosen }

-- a choice by an item, of which it leaves some options
pub mark_leaves : (p : Problem) (os : List ℕ) (item start : ℕ) (m : MadeChoice) (u : Untried) → m.item ≡ item → untried_of m ≡ u → IsUntried p os item start u → IsUntried p os m.item start (untried_of m)
mark_leaves p os item start m u by rest is =
    let P : ℕ → Type 0 = λ i. IsUntried p os i start (untried_of m) in
    let Q : Untried → Type 0 = λ v. IsUntried p os item start v in
    subst P (sym by) (subst Q (sym rest) is)

-- and what such a choice does
pub mark_takes : (before : Choices) (item start : ℕ) (option : Option ℕ) (after : Choices) (m : MadeChoice) → m.item ≡ item → IsTaken before m.item start option after → IsTaken before item start option after
mark_takes before item start option after m by taken =
    let P : ℕ → Type 0 = λ i. IsTaken before i start option after in
    subst P by taken

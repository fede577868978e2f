-- The steps of a walk.
use Rattle.std.proofs.Common.{◌≡◌, ℕ, zero, suc, ◌+◌, ◌≤◌, List, [], ◌∷◌, ◌++◌, length, map, true, false, ◌&&◌, Option, Some, None, is_some, IfSome, MatchOption, slice_get, refl, sym, ◌∙◌, ap, subst, arith, append_assoc, inl, inr}
use Rattle.std.proofs.lemmas.Bool.{and_from, both_ways, cases_Bool, cases_lt}
use Rattle.std.proofs.lemmas.List.{length-append}
use Rattle.std.proofs.lemmas.List.Folds.{list_all-append}
use Rattle.std.specs.List.{list_all}
use Rattle.cover_problem.specs.Branching.{branch_item, children, children_at, is_choice}
use Rattle.cover_problem.specs.Numbers.{is_in}
use Rattle.cover_problem.specs.Onward.{live_options_from}
use Rattle.cover_problem.specs.Prefix.{IsBarren, IsCoverOver, is_live, is_prefix}
use Rattle.cover_problem.specs.Problem.{Problem, names_item}
use Rattle.cover_problem.specs.Search.{first}
use Rattle.cover_problem.proofs.Prefixes.{prefix_more}
use Rattle.cover_problem.proofs.Remaining.{live_options_from_end, live_options_from_skip, live_options_from_take, live_options_start}
use Rattle.choices.specs.Choices.{Choices, IsChild, IsNextChoice, with_child, with_child_if}
use Rattle.cover_problem.proofs.Unbounded.{first_complete}
use Rattle.question_walk.specs.declared.walk_end.Step.{Step}
use Rattle.question_walk.specs.declared.walk_end.Step.TheVariants.{On, End}
use Rattle.question_walk.specs.declared.walk_end.WalkEnd.TheVariants.{NoCover}
use Rattle.question_walk.specs.Ends.{IsStepOf}
use Rattle.question_walk.specs.Walks.{AreBarren, IsInQuestion, IsOnTheWay, IsReached, Walk, children_from}
use Rattle.question_walk.proofs.Children.{first_child, none_child, none_of_barren}

-- ---- the children that are left

-- the live options of an item from the next one on
abbrev pub options_left : Problem → List ℕ → ℕ → Option ℕ → List ℕ
options_left p xs i None = []
options_left p xs i (Some o) = live_options_from p xs i o

options_from_next : (p : Problem) (xs : List ℕ) (i n start : ℕ) (next : Option ℕ) → length p.options ≤ start + n → next ≡ slice_get (live_options_from p xs i start) 0 → options_left p xs i next ≡ live_options_from p xs i start
options_from_next p xs i zero start next enough e =
    let none = live_options_from_end p xs i start (omega (arith, enough)) in
    ap (options_left p xs i) (e ∙ ap (λ (is : List ℕ). slice_get is 0) none) ∙ sym none
options_from_next p xs i (suc n) start next enough e = elim (cases_lt start (length p.options)) [
  | inr past ↦
      let none = live_options_from_end p xs i start past in
      ap (options_left p xs i) (e ∙ ap (λ (is : List ℕ). slice_get is 0) none) ∙ sym none
  | inl inside ↦ elim (cases_Bool (is_choice p xs i start)) [
    | inr no_choice ↦
        let skip = live_options_from_skip p xs i start inside no_choice in
        options_from_next p xs i n (start + 1) next (omega (arith, enough)) (e ∙ ap (λ (is : List ℕ). slice_get is 0) skip) ∙ sym skip
    | inl choice ↦
        let take = live_options_from_take p xs i start inside choice in
        ap (options_left p xs i) (e ∙ ap (λ (is : List ℕ). slice_get is 0) take)
  ]
]

options_next : (p : Problem) (xs : List ℕ) (i start : ℕ) (next : Option ℕ) → next ≡ slice_get (live_options_from p xs i start) 0 → options_left p xs i next ≡ live_options_from p xs i start
options_next p xs i start next e = options_from_next p xs i (length p.options) start next (omega arith) e

-- the prefix with each of these options behind it
abbrev pub with_each : List ℕ → List ℕ → List (List ℕ)
with_each xs options = map (λ o. xs ++ o ∷ []) options

all_children : (p : Problem) (xs : List ℕ) (i : ℕ) → branch_item p xs ≡ Some i → children p xs ≡ children_from p xs i 0
all_children p xs i e = ap (children_at p xs) e ∙ ap (with_each xs) (sym (live_options_start p xs i))

-- the first of those that are left is the child in question
head_child : (p : Problem) (xs : List ℕ) (i o : ℕ) → IsChild p xs i o → children_from p xs i o ≡ (xs ++ o ∷ []) ∷ children_from p xs i (o + 1)
head_child p xs i o is = ap (with_each xs) (live_options_from_take p xs i o is.inside (and_from (is_live p xs o) (names_item p o i) is.live is.named))

barren_more : (p : Problem) (front : List (List ℕ)) (xs : List ℕ) → AreBarren p front → IsBarren p xs → AreBarren p (front ++ xs ∷ [])
barren_more p [] xs all one = (one, tt)
barren_more p (ys ∷ front) xs all one = (all.0, barren_more p front xs all.1 one)

-- ---- a child is chosen

pub descended : (now new : Choices) (item : ℕ) (next : Option ℕ) (cover : Option (List ℕ)) → IsReached now.problem now.chosen cover → branch_item now.problem now.chosen ≡ Some item
    → next ≡ slice_get (live_options_from now.problem now.chosen item 0) 0 → IfSome next (IsChild now.problem now.chosen item) → new ≡ with_child_if now item next → IsOnTheWay new next cover
descended now new item None cover reached branch e child same =
    let P : Choices → Type 0 = λ c. IsReached c.problem c.chosen cover in subst P (sym same) reached
descended now new item (Some option) cover reached branch e child same =
    record {
      before = now;
      item = item;
      earlier = [];
      chosen = same;
      reached = reached;
      branch = branch;
      child = child;
      split = all_children now.problem now.chosen item branch ∙ ap (with_each now.chosen) (sym (options_next now.problem now.chosen item 0 (Some option) e));
      barren = tt;
    }

-- where there is none, there is no cover
pub descended_none : (now : Choices) (item : ℕ) (cover : Option (List ℕ)) → IsReached now.problem now.chosen cover → branch_item now.problem now.chosen ≡ Some item
    → None ≡ slice_get (live_options_from now.problem now.chosen item 0) 0 → first now.problem [] ≡ None
descended_none now item cover reached branch e =
    let none : [] ≡ children now.problem now.chosen = ap (with_each now.chosen) (options_next now.problem now.chosen item 0 None e) ∙ sym (all_children now.problem now.chosen item branch) in
    let all : AreBarren now.problem (children now.problem now.chosen) = subst (AreBarren now.problem) none tt in
    reached.first ∙ none_child now.problem now.chosen item reached.lawful branch all

-- ---- it is known that no cover begins with the chosen options

child_barren : (now : Choices) (option : ℕ) (cover : Option (List ℕ)) (asked : IsInQuestion now option cover) → IsBarren now.problem now.chosen → IsBarren asked.before.problem (asked.before.chosen ++ option ∷ [])
child_barren now option cover asked barren = let P : Choices → Type 0 = λ c. IsBarren c.problem c.chosen in subst P asked.chosen barren

pub denied : (now new : Choices) (option : ℕ) (next : Option ℕ) (cover : Option (List ℕ)) → IsInQuestion now option cover → IsBarren now.problem now.chosen
    → ((b : Choices) (i o : ℕ) → now ≡ with_child b i o → IsNextChoice b i o next new) → IsOnTheWay new next cover
denied now new option None cover asked barren change =
    let step = change asked.before asked.item option asked.chosen in
    let P : Choices → Type 0 = λ c. IsReached c.problem c.chosen cover in
    subst P (sym step.chosen) asked.reached
denied now new option (Some next) cover asked barren change =
    let b = asked.before in
    let step = change b asked.item option asked.chosen in
    let child = b.chosen ++ option ∷ [] in
    let left = ap (with_each b.chosen) (sym (options_next b.problem b.chosen asked.item (option + 1) (Some next) step.next_is)) in
    record {
      before = b;
      item = asked.item;
      earlier = asked.earlier ++ child ∷ [];
      chosen = step.chosen;
      reached = asked.reached;
      branch = asked.branch;
      child = step.child;
      split = asked.split ∙ ap (λ cs. asked.earlier ++ cs) (head_child b.problem b.chosen asked.item option asked.child ∙ ap (λ cs. child ∷ cs) left)
          ∙ sym (append_assoc asked.earlier (child ∷ []) (children_from b.problem b.chosen asked.item next));
      barren = barren_more b.problem asked.earlier child asked.barren (child_barren now option cover asked barren);
    }

-- where no child is left, there is no cover
pub denied_none : (now new : Choices) (option : ℕ) (cover : Option (List ℕ)) → IsInQuestion now option cover → IsBarren now.problem now.chosen
    → ((b : Choices) (i o : ℕ) → now ≡ with_child b i o → IsNextChoice b i o None new) → first now.problem [] ≡ None
denied_none now new option cover asked barren change =
    let b = asked.before in
    let step = change b asked.item option asked.chosen in
    let child = b.chosen ++ option ∷ [] in
    let left = ap (with_each b.chosen) (sym (options_next b.problem b.chosen asked.item (option + 1) None step.next_is)) in
    let all = asked.split ∙ ap (λ cs. asked.earlier ++ cs) (head_child b.problem b.chosen asked.item option asked.child ∙ ap (λ cs. child ∷ cs) left) in
    let none = subst (AreBarren b.problem) (sym all) (barren_more b.problem asked.earlier child asked.barren (child_barren now option cover asked barren)) in
    ap (λ (c : Choices). first c.problem []) asked.chosen ∙ asked.reached.first ∙ none_child b.problem b.chosen asked.item asked.reached.lawful asked.branch none

-- nor where the options before it are all that are chosen
pub denied_reached : (p : Problem) (xs : List ℕ) (cover : Option (List ℕ)) → IsReached p xs cover → IsBarren p xs → first p [] ≡ None
denied_reached p xs cover reached barren = reached.first ∙ none_of_barren p xs reached.lawful barren

-- an option that is in question was chosen
pub asked_some : (now : Choices) (option : ℕ) (cover : Option (List ℕ)) → IsInQuestion now option cover → 1 ≤ length now.chosen
asked_some now option cover asked = omega (arith, ap (λ (c : Choices). length c.chosen) asked.chosen, length-append asked.before.chosen (option ∷ []))

-- ---- it is known that a cover begins with the chosen options

-- the child is a prefix
child_prefix : (now : Choices) (option : ℕ) (cover : Option (List ℕ)) → IsInQuestion now option cover → is_prefix now.problem now.chosen ≡ true
child_prefix now option cover asked =
    let b = asked.before in
    let child : is_prefix b.problem (b.chosen ++ option ∷ []) ≡ true = prefix_more b.problem b.chosen asked.item option asked.reached.lawful asked.child.inside
    (and_from (is_live b.problem b.chosen option) (names_item b.problem option asked.item) asked.child.live asked.child.named) in
    ap (λ (c : Choices). is_prefix c.problem c.chosen) asked.chosen ∙ child

accepted_child : (now : Choices) (option : ℕ) (cover : Option (List ℕ)) (found : List ℕ) → IsInQuestion now option cover → IsCoverOver now.problem now.chosen found → first now.problem [] ≡ first now.problem now.chosen
accepted_child now option cover found asked over =
    let b = asked.before in
    let child = b.chosen ++ option ∷ [] in
    let P : Choices → Type 0 = λ c. IsCoverOver c.problem c.chosen found in
    let split = asked.split ∙ ap (λ cs. asked.earlier ++ cs) (head_child b.problem b.chosen asked.item option asked.child) in
    let same = first_child b.problem b.chosen child found asked.earlier (children_from b.problem b.chosen asked.item (option + 1)) asked.reached.lawful split asked.barren (subst P asked.chosen over) in
    ap (λ (c : Choices). first c.problem []) asked.chosen ∙ asked.reached.first ∙ same ∙ sym (ap (λ (c : Choices). first c.problem c.chosen) asked.chosen)

pub accepted : (now : Choices) (asked : Option ℕ) (cover : Option (List ℕ)) (found : List ℕ) → IsOnTheWay now asked cover → IsCoverOver now.problem now.chosen found → IsReached now.problem now.chosen (Some found)
accepted now None cover found way over = record { first = way.first; lawful = way.lawful; at_hand = over }
accepted now (Some option) cover found way over = record { first = accepted_child now option cover found way over; lawful = child_prefix now option cover way; at_hand = over }

-- the cover at hand has the option in question
pub known : (now : Choices) (option : ℕ) (cover : List ℕ) → IsInQuestion now option (Some cover) → is_in cover option ≡ true → IsReached now.problem now.chosen (Some cover)
known now option cover asked has =
    let b = asked.before in
    let P : Choices → Type 0 = λ c. IsCoverOver c.problem c.chosen cover in
    let here : IsCoverOver b.problem b.chosen cover = asked.reached.at_hand in
    let over = list_all-append (is_in cover) b.chosen (option ∷ []) ∙ and_from (list_all (is_in cover) b.chosen) (is_in cover option && true) here.over (and_from (is_in cover option) true has refl) in
    let child : IsCoverOver b.problem (b.chosen ++ option ∷ []) cover = record { cover = here.cover; over = over } in
    let more = subst P (sym asked.chosen) child in
    record { first = accepted_child now option (Some cover) cover asked more; lawful = child_prefix now option (Some cover) asked; at_hand = more }

-- ---- the same by what a call of the code gives

-- no child is left, where an option is in question or else there is no cover
pub onward_step : (cover : Option (List ℕ)) (chosen : List ℕ) (asked : Option ℕ) (step : Step) → MatchOption asked (step ≡ End NoCover) (λ _. step ≡ On) → (asked ≡ None → cover ≡ None) → IsStepOf cover chosen step
onward_step cover chosen None step is none = let P : Step → Type 0 = λ s. IsStepOf cover chosen s in subst P (sym is) (none refl)
onward_step cover chosen (Some option) step is none = let P : Step → Type 0 = λ s. IsStepOf cover chosen s in subst P (sym is) tt

-- a prefix that is complete is the first cover
pub complete_step : (p : Problem) (xs : List ℕ) (cover : Option (List ℕ)) → IsReached p xs cover → branch_item p xs ≡ None → first p [] ≡ Some xs
complete_step p xs cover reached e = reached.first ∙ first_complete p xs e

pub descended_step : (now : Choices) (item : ℕ) (next : Option ℕ) (cover : Option (List ℕ)) → IsReached now.problem now.chosen cover → branch_item now.problem now.chosen ≡ Some item
    → next ≡ slice_get (live_options_from now.problem now.chosen item 0) 0 → next ≡ None → first now.problem [] ≡ None
descended_step now item next cover reached branch e none = descended_none now item cover reached branch (sym none ∙ e)

pub denied_any : (now new : Choices) (asked next : Option ℕ) (cover : Option (List ℕ)) → is_some asked ≡ true → IsOnTheWay now asked cover → IsBarren now.problem now.chosen
    → ((b : Choices) (i o : ℕ) → now ≡ with_child b i o → IsNextChoice b i o next new) → IsOnTheWay new next cover
denied_any now new None next cover is way barren change = absurd (both_ways false refl is)
denied_any now new (Some option) next cover is way barren change = denied now new option next cover way barren change

pub denied_step : (now new : Choices) (asked next : Option ℕ) (cover : Option (List ℕ)) → is_some asked ≡ true → IsOnTheWay now asked cover → IsBarren now.problem now.chosen
    → ((b : Choices) (i o : ℕ) → now ≡ with_child b i o → IsNextChoice b i o next new) → next ≡ None → first now.problem [] ≡ None
denied_step now new None next cover is way barren change none = absurd (both_ways false refl is)
denied_step now new (Some option) next cover is way barren change none =
    let P : Option ℕ → Type 0 = λ n. (b : Choices) (i o : ℕ) → now ≡ with_child b i o → IsNextChoice b i o n new in
    denied_none now new option cover way barren (subst P none change)

pub denied_last : (now : Choices) (asked : Option ℕ) (cover : Option (List ℕ)) → is_some asked ≡ false → IsOnTheWay now asked cover → IsBarren now.problem now.chosen → first now.problem [] ≡ None
denied_last now None cover is way barren = denied_reached now.problem now.chosen cover way barren
denied_last now (Some option) cover is way barren = absurd (both_ways true is refl)

pub asked_any : (now : Choices) (asked : Option ℕ) (cover : Option (List ℕ)) → is_some asked ≡ true → IsOnTheWay now asked cover → 1 ≤ length now.chosen
asked_any now None cover is way = absurd (both_ways false refl is)
asked_any now (Some option) cover is way = asked_some now option cover way

-- what is said of a value that its type shows is said of what is inside
pub seen_end : (s t : Walk) (next : List ℕ) (step : Step) → s ≡ t → IsStepOf (first s.problem []) next step → IsStepOf (first t.problem []) next step
seen_end s t next step same is = let P : Walk → Type 0 = λ w. IsStepOf (first w.problem []) next step in subst P same is

pub seen_reached : (s t : Walk) → s ≡ t → IsReached s.problem s.chosen s.cover → IsReached t.problem t.chosen t.cover
seen_reached s t same is = let P : Walk → Type 0 = λ w. IsReached w.problem w.chosen w.cover in subst P same is

pub seen_none : (s t : Walk) → s ≡ t → first s.problem [] ≡ None → first t.problem [] ≡ None
seen_none s t same is = ap (λ (w : Walk). first w.problem []) (sym same) ∙ is

pub seen_some : (s t : Walk) → s ≡ t → first s.problem [] ≡ Some s.chosen → first t.problem [] ≡ Some t.chosen
seen_some s t same is = let P : Walk → Type 0 = λ w. first w.problem [] ≡ Some w.chosen in subst P same is

pub inside_barren : (s t : Walk) → s ≡ t → IsBarren t.problem t.chosen → IsBarren s.problem s.chosen
inside_barren s t same is = let P : Walk → Type 0 = λ w. IsBarren w.problem w.chosen in subst P (sym same) is

pub inside_over : (s t : Walk) (cover : List ℕ) → s ≡ t → IsCoverOver t.problem t.chosen cover → IsCoverOver s.problem s.chosen cover
inside_over s t cover same is = let P : Walk → Type 0 = λ w. IsCoverOver w.problem w.chosen cover in subst P (sym same) is

-- a walk in which nothing is in question
pub inside_reached : (s t : Walk) (now : Choices) → s ≡ t → t.asked ≡ None → IsOnTheWay now s.asked s.cover → IsReached now.problem now.chosen s.cover
inside_reached s t now same none way = let P : Option ℕ → Type 0 = λ a. IsOnTheWay now a s.cover in subst P (ap (λ (w : Walk). w.asked) same ∙ none) way

pub known_seen : (now : Choices) (asked : Option ℕ) (at_hand : Option (List ℕ)) (s t : Walk) (option : ℕ) (cover : List ℕ) → s ≡ t → IsOnTheWay now asked at_hand → s ≡ record { problem = now.problem; chosen = now.chosen; asked = asked; cover = at_hand }
    → asked ≡ Some option → at_hand ≡ Some cover → is_in cover option ≡ true → IsReached t.problem t.chosen t.cover
known_seen now asked at_hand s t option cover same way is is_asked is_at has =
    let A : Option ℕ → Type 0 = λ a. IsOnTheWay now a at_hand in
    let H : Option (List ℕ) → Type 0 = λ h. IsOnTheWay now (Some option) h in
    let R : Option (List ℕ) → Type 0 = λ h. IsReached now.problem now.chosen h in
    let W : Walk → Type 0 = λ w. IsReached w.problem w.chosen w.cover in
    let reached = known now option cover (subst H is_at (subst A is_asked way)) has in
    seen_reached s t same (subst W (sym is) (subst R (sym is_at) reached))

-- a choice changes no problem
with_problem : (before : Choices) (item : ℕ) (next : Option ℕ) → (with_child_if before item next).problem ≡ before.problem
with_problem before item None = refl
with_problem before item (Some option) = refl

pub denied_problem : (now new : Choices) (asked next : Option ℕ) (cover : Option (List ℕ)) → is_some asked ≡ true → IsOnTheWay now asked cover
    → ((b : Choices) (i o : ℕ) → now ≡ with_child b i o → IsNextChoice b i o next new) → new.problem ≡ now.problem
denied_problem now new None next cover is way change = absurd (both_ways false refl is)
denied_problem now new (Some option) next cover is way change =
    let step = change way.before way.item option way.chosen in
    ap (λ (c : Choices). c.problem) step.chosen ∙ with_problem way.before way.item next ∙ sym (ap (λ (c : Choices). c.problem) way.chosen)

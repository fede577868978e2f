-- The live options that name an item, tried one after the other; cases within others; choices that play no part.
use Rattle.std.proofs.Common.{◌≡◌, ℕ, ◌+◌, ◌<◌, ◌≤◌, Bool, true, false, not, ◌&&◌, ◌||◌, ◌==◌, nat_lt, ◌⊎◌, List, [], ◌∷◌, ◌++◌, length, get_or, take, refl, sym, ap, ◌∙◌, subst, inl, inr, ⊎_elim, arith, Option, Some, None}
use Rattle.std.proofs.lemmas.Bool.{eqb-true, eq-eqb, and_parts, and_from, or_cases, or_left, or_right, true≢false, not-true, lt-ltb, ltb-true}
use Rattle.std.proofs.lemmas.List.{take_more, take_all}
use Rattle.cover_problem.specs.ExactCover.{IsExactCover}
use Rattle.cover_problem.specs.Numbers.{is_in}
use Rattle.cover_problem.specs.Prefix.{clash}
use Rattle.cover_problem.specs.Problem.{Problem, names_item, option_numbers}
use Rattle.cover_problem.specs.Search.{first}
use Rattle.cover_problem.proofs.Among.{range_in}
use Rattle.cover_problem.proofs.Covering.{first_covers}
use Rattle.cover_problem.proofs.Sets.{in_filtered}
use Rattle.option_sets.specs.Sets.{has}
use Rattle.cover_certificates.specs.Cases.{Case, has_item, AreStuckIn, IsCase, IsStuckCase}
use Rattle.cover_certificates.specs.Refutations.{live_behind}
use Rattle.cover_certificates.specs.Tables.{options_naming}
use Rattle.cover_certificates.proofs.Sticking.{AreStuckBehind, stuck_by_cases, stuck_within, stuck_no_cover}

-- ---- option by option

-- the items so far can't be covered behind any of the options so far
pub record IsTried (p : Problem) (case : Case) (item : ℕ) (done : List ℕ) (used : List Bool) : Type 0 where
  pub long : length used ≡ p.primary
  pub inside : (i : ℕ) → has_item used i ≡ true → has_item case.items i ≡ true
  pub own : has_item used item ≡ true
  pub each : (o : ℕ) → is_in done o ≡ true → has case.live o ≡ true → AreStuckBehind p (has_item used) (has case.live) o

in_last : (xs : List ℕ) (o q : ℕ) → is_in (xs ++ o ∷ []) q ≡ true → (is_in xs q ≡ true) ⊎ (o ≡ q)
in_last [] o q h = ⊎_elim (λ (e : (o == q) ≡ true). inr (eqb-true o q e)) (λ (f : false ≡ true). absurd (true≢false (sym f))) (or_cases (o == q) false h)
in_last (x ∷ xs) o q h =
    ⊎_elim
    (λ (e : (x == q) ≡ true). inl (or_left (x == q) (is_in xs q) e))
    (λ (r : is_in (xs ++ o ∷ []) q ≡ true). ⊎_elim (λ (a : is_in xs q ≡ true). inl (or_right (x == q) (is_in xs q) a)) (λ (b : o ≡ q). inr b) (in_last xs o q r))
    (or_cases (x == q) (is_in (xs ++ o ∷ []) q) h)

pub tried_none : (p : Problem) (case : Case) (item : ℕ) (used : List Bool) → has_item case.items item ≡ true → length used ≡ p.primary → ((i : ℕ) → has_item used i ≡ (item == i)) → IsTried p case item [] used
tried_none p case item used open_one long one = record {
  long = long;
  inside = λ i on. subst (λ j. has_item case.items j ≡ true) (eqb-true item i (sym (one i) ∙ on)) open_one;
  own = one item ∙ eq-eqb item item refl;
  each = λ o h. absurd (true≢false (sym h));
}

tried_dead : (p : Problem) (case : Case) (item : ℕ) (done : List ℕ) (o : ℕ) (used : List Bool) → has case.live o ≡ false → IsTried p case item done used → IsTried p case item (done ++ o ∷ []) used
tried_dead p case item done o used dead tried = record {
  long = tried.long;
  inside = tried.inside;
  own = tried.own;
  each = λ q h lives. ⊎_elim (λ (before : is_in done q ≡ true). tried.each q before lives) (λ (e : o ≡ q). absurd (true≢false (sym lives ∙ ap (has case.live) (sym e) ∙ dead))) (in_last done o q h);
}

-- what is left behind an option
pub record IsBehind (p : Problem) (case : Case) (o : ℕ) (child : Case) : Type 0 where
  pub items : (i : ℕ) → has_item child.items i ≡ (has_item case.items i && not (names_item p o i))
  pub live_ones : (x : ℕ) → has child.live x ≡ (has case.live x && not (clash p o x))

-- by the words of the code
pub behind_by : (q p : Problem) (case child : Case) (xs options : List ℕ) (k d : ℕ) → q ≡ p → xs ≡ options
    → ((i : ℕ) → has_item child.items i ≡ (has_item case.items i && not (names_item q (get_or xs k d) i)))
    → ((x : ℕ) → has child.live x ≡ (has case.live x && not (clash q (get_or xs k d) x))) → IsBehind p case (get_or options k d) child
behind_by q p case child xs options k d same listed items lives =
    subst (λ (z : Problem). IsBehind z case (get_or options k d) child) same
    (subst (λ (ys : List ℕ). IsBehind q case (get_or ys k d) child) listed (record { items = items; live_ones = lives }))

stuck_behind : (p : Problem) (case child : Case) (o : ℕ) (below used : List Bool) → IsBehind p case o child → AreStuckIn p child below → ((i : ℕ) → has_item below i ≡ true → has_item used i ≡ true)
    → AreStuckBehind p (has_item used) (has case.live) o
stuck_behind p case child o below used child_is stuck joined = record {
  below = has_item below;
  inside = joined;
  off = λ i on. not-true (names_item p o i) ((and_parts (has_item case.items i) (not (names_item p o i)) (sym (child_is.items i) ∙ stuck.within i on)).1);
  stuck = stuck_within p (has_item below) (live_behind p (has case.live) o) (has_item below) (has child.live) (λ i on. on) (λ i x on named lives. child_is.live_ones x ∙ lives) stuck.stuck;
}

pub within_parent : (p : Problem) (case child : Case) (o : ℕ) → IsBehind p case o child → (i : ℕ) → has_item child.items i ≡ true → has_item case.items i ≡ true
within_parent p case child o child_is i on = (and_parts (has_item case.items i) (not (names_item p o i)) (sym (child_is.items i) ∙ on)).0

tried_live : (p : Problem) (case child : Case) (item : ℕ) (done : List ℕ) (o : ℕ) (below used new : List Bool) → IsBehind p case o child → AreStuckIn p child below → length new ≡ length used
    → ((i : ℕ) → has_item new i ≡ (has_item used i || has_item below i)) → IsTried p case item done used → IsTried p case item (done ++ o ∷ []) new
tried_live p case child item done o below used new child_is stuck long joined tried =
    let more : (i : ℕ) → has_item used i ≡ true → has_item new i ≡ true = λ i on. joined i ∙ or_left (has_item used i) (has_item below i) on in
    record {
      long = long ∙ tried.long;
      inside = λ i on. ⊎_elim (λ (a : has_item used i ≡ true). tried.inside i a) (λ (b : has_item below i ≡ true). within_parent p case child o child_is i (stuck.within i b)) (or_cases (has_item used i) (has_item below i) (sym (joined i) ∙ on));
      own = more item tried.own;
      each = λ q h lives. ⊎_elim (λ (before : is_in done q ≡ true).
          let old = tried.each q before lives in
          record { below = old.below; inside = λ i on. more i (old.inside i on); off = old.off; stuck = old.stuck })
          (λ (e : o ≡ q). subst (AreStuckBehind p (has_item new) (has case.live)) e (stuck_behind p case child o below new child_is stuck (λ i on. joined i ∙ or_right (has_item used i) (has_item below i) on)))
          (in_last done o q h);
    }

-- the same, by places of the list of options
pub place_dead : (p : Problem) (case : Case) (item : ℕ) (options : List ℕ) (k d : ℕ) (used : List Bool) → k < length options → has case.live (get_or options k d) ≡ false
    → IsTried p case item (take k options) used → IsTried p case item (take (k + 1) options) used
place_dead p case item options k d used more dead tried =
    subst (λ done. IsTried p case item done used) (sym (take_more options k d more)) (tried_dead p case item (take k options) (get_or options k d) used dead tried)

pub place_live : (p : Problem) (case child : Case) (item : ℕ) (options : List ℕ) (k d : ℕ) (below used new : List Bool) → k < length options → IsBehind p case (get_or options k d) child → AreStuckIn p child below
    → length new ≡ length used → ((i : ℕ) → has_item new i ≡ (has_item used i || has_item below i)) → IsTried p case item (take k options) used → IsTried p case item (take (k + 1) options) new
place_live p case child item options k d below used new more child_is stuck long joined tried =
    subst (λ done. IsTried p case item done new) (sym (take_more options k d more)) (tried_live p case child item (take k options) (get_or options k d) below used new child_is stuck long joined tried)

pub tried_all : (p : Problem) (case : Case) (item : ℕ) (options : List ℕ) (k : ℕ) (used : List Bool) → options ≡ options_naming p item → length options ≤ k → IsTried p case item (take k options) used → AreStuckIn p case used
tried_all p case item options k used is end tried = record {
  long = tried.long;
  within = tried.inside;
  stuck = stuck_by_cases p (has_item used) (has case.live) item tried.own (λ o inside lives named. tried.each o (stands o inside named) lives);
}
  where
    stands : (o : ℕ) → o < length p.options → names_item p o item ≡ true → is_in (take k options) o ≡ true
    stands o inside named =
        ap (λ xs. is_in xs o) (take_all k options end ∙ is)
        ∙ in_filtered (λ q. names_item p q item) (option_numbers p) o
        ∙ and_from _ _ named (range_in 0 (length p.options) o (omega arith) (omega (arith, inside)))

-- ---- other steps

pub idle_choice : (q p : Problem) (case child : Case) (items : List Bool) (live other : List ℕ) → q ≡ p → live ≡ case.live → other ≡ child.live
    → AreStuckIn p child items → ((i : ℕ) → has_item child.items i ≡ true → has_item case.items i ≡ true)
    → ((i x : ℕ) → has_item items i ≡ true → names_item q x i ≡ true → has live x ≡ true → has other x ≡ true) → AreStuckIn p case items
idle_choice q p case child items live other same here there stuck inside spared = record {
  long = stuck.long;
  within = λ i on. inside i (stuck.within i on);
  stuck = stuck_within p (has_item items) (has case.live) (has_item items) (has child.live) (λ i on. on)
      (λ i x on named lives. ap (λ l. has l x) (sym there) ∙ spared i x on (ap (λ z. names_item z x i) same ∙ named) (ap (λ l. has l x) here ∙ lives)) stuck.stuck;
}

pub stuck_as_kept : (p : Problem) (kept case : Case) (items all : List Bool) (live other : List ℕ) → IsStuckCase p kept → items ≡ kept.items → all ≡ case.items → live ≡ case.live → other ≡ kept.live
    → ((i : ℕ) → has_item items i ≡ true → has_item all i ≡ true)
    → ((i x : ℕ) → has_item items i ≡ true → names_item p x i ≡ true → has live x ≡ true → has other x ≡ true) → AreStuckIn p case kept.items
stuck_as_kept p kept case items all live other is same whole here there inside spared =
    let on_items : (i : ℕ) → has_item kept.items i ≡ true → has_item items i ≡ true = λ i on. ap (λ l. has_item l i) same ∙ on in
    record {
      long = is.is_case.items;
      within = λ i on. ap (λ l. has_item l i) (sym whole) ∙ inside i (on_items i on);
      stuck = stuck_within p (has_item kept.items) (has case.live) (has_item kept.items) (has kept.live) (λ i on. on)
          (λ i x on named lives. ap (λ l. has l x) (sym there) ∙ spared i x (on_items i on) named (ap (λ l. has l x) here ∙ lives)) is.stuck;
    }

pub kept_stuck : (p : Problem) (case : Case) (items : List Bool) → IsCase p case → AreStuckIn p case items → IsStuckCase p (record { items = items; live = case.live })
kept_stuck p case items is stuck = record { is_case = record { items = stuck.long; live = is.live }; stuck = stuck.stuck }

-- ---- the whole problem

pub no_cover : (p : Problem) (whole : Case) (items : List Bool) → ((i : ℕ) → has_item whole.items i ≡ nat_lt i p.primary) → ((x : ℕ) → has whole.live x ≡ nat_lt x (length p.options)) → AreStuckIn p whole items
    → (chosen : ℕ → Bool) → IsExactCover p chosen → ⊥
no_cover p whole items all lives stuck chosen cover =
    stuck_no_cover p (has_item items) (has whole.live) chosen (λ i on. ltb-true i p.primary (sym (all i) ∙ stuck.within i on)) (λ o inside. lives o ∙ lt-ltb o (length p.options) inside) stuck.stuck cover

pub none_first : (p : Problem) → ((chosen : ℕ → Bool) → IsExactCover p chosen → ⊥) → first p [] ≡ None
none_first p none = go (first p []) refl
  where
    go : (r : Option (List ℕ)) → first p [] ≡ r → first p [] ≡ None
    go None e = e
    go (Some cover) e = absurd (none (is_in cover) (first_covers p [] cover refl e).cover)

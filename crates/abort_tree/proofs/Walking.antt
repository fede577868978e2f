-- What is below some units is found level by level, where each parent has the lower serial.
use Rattle.std.proofs.Common.{◌≡◌, ◌||◌, take, ◌-◌, ◌⊎◌, ℕ, suc, ◌+◌, ◌<◌, ◌≤◌, Bool, true, List, [], ◌++◌, length, Option, Some, None, get_or, slice_get, refl, sym, ap, subst, ◌∙◌, inl, inr, ⊎_elim, arith}
use Rattle.std.specs.List.{Contains}
use Rattle.std.proofs.lemmas.Bool.{cases_lt, or_cases, or_right}
use Rattle.std.proofs.lemmas.List.{append-nil, append_assoc, get_or_append_left, get_or-append_right, get_or_default, length-append}
use Rattle.std.proofs.lemmas.List.Elements.{Contains-append_cases, Contains-append_left, Contains-append_right, Contains-get_or}
use Rattle.std.proofs.lemmas.List.Folds.{list_any_kept, list_any_more}
use Rattle.std.proofs.lemmas.Option.{none-some}
use Rattle.spawn_frame.specs.Aborts.{IsBelow, child, deeper}
use Rattle.spawn_frame.proofs.Sames.{same_unit_self, unit_path}
use Rattle.spawn_frame.specs.Names.{same_unit}
use Rattle.spawn_frame.specs.Tables.{parent_in}
use Rattle.spawn_frame.specs.Units.{Entry}
use Rattle.spawn_frame.specs.declared.unit.Unit.{Unit as WorkUnit}
use Rattle.spawn_frame.specs.declared.unit.Unit.TheVariants.{Own}
use Rattle.abort_tree.specs.Below.{Adds, AreBelow, IsListed, is_among}
use Rattle.abort_tree.proofs.Lists.{below_within}

-- ---- serials that are added

pub adds_none : (P : WorkUnit → Type 0) (own : List Entry) (old : List ℕ) → ((unit : WorkUnit) → P unit → ⊥) → Adds P own old old
adds_none P own old none = record {
  more = [];
  is = sym (append-nil old);
  all = λ k unit p at. absurd (none unit p);
  only = λ k here. absurd (omega (arith, here.1));
}

-- the children of these units, and then those of others
pub adds_both : (P Q R : WorkUnit → Type 0) (own : List Entry) (old middle new : List ℕ) → ((unit : WorkUnit) → P unit → R unit) → ((unit : WorkUnit) → Q unit → R unit)
    → ((unit : WorkUnit) → R unit → P unit ⊎ Q unit) → Adds P own old middle → Adds Q own middle new → Adds R own old new
adds_both P Q R own old middle new left right either a b = record {
  more = a.more ++ b.more;
  is = b.is ∙ ap (λ l. l ++ b.more) a.is ∙ append_assoc old a.more b.more;
  all = λ k unit r at. ⊎_elim
      (λ (p : P unit). Contains-append_left a.more b.more k (a.all k unit p at))
      (λ (q : Q unit). Contains-append_right a.more b.more k (b.all k unit q at))
      (either unit r);
  only = λ k here. ⊎_elim
      (λ (h : Contains a.more k). let of = a.only k h in (of.0, left of.0 of.1, of.2))
      (λ (h : Contains b.more k). let of = b.only k h in (of.0, right of.0 of.1, of.2))
      (Contains-append_cases a.more b.more k here);
}

-- the children of one more of those in the list
pub listed_next : (own : List Entry) (old middle new : List ℕ) (first place serial : ℕ) → first ≤ place → place < length old → serial ≡ get_or middle place serial → Adds (IsListed first place old) own old middle
    → Adds (λ parent. parent ≡ Own serial) own middle new → Adds (IsListed first (place + 1) old) own old new
listed_next own old middle new first place serial le lt at a b = adds_both (IsListed first place old) (λ parent. parent ≡ Own serial) (IsListed first (place + 1) old) own old middle new
    (λ unit p. let r = p.2 in (p.0, p.1, omega (arith, r), p.3))
    (λ unit e. (place, le, omega arith, e ∙ ap Own is))
    (λ unit p. ⊎_elim
    (λ (m : p.0 < place). inl (p.0, p.1, m, p.3))
    (λ (m : place ≤ p.0). let r = p.2 in let same : p.0 ≡ place = omega (arith, m, r) in inr (p.3 ∙ ap (λ j. Own (get_or old j 0)) same ∙ ap Own (sym is)))
    (cases_lt p.0 place)) a b
  where
    is : serial ≡ get_or old place 0
    is = at ∙ ap (λ l. get_or l place serial) a.is ∙ get_or_append_left old a.more serial place lt ∙ get_or_default old place serial 0 lt

-- the children of the same units
pub adds_same : (P Q : WorkUnit → Type 0) (own : List Entry) (old new : List ℕ) → ((unit : WorkUnit) → P unit → Q unit) → ((unit : WorkUnit) → Q unit → P unit) → Adds P own old new → Adds Q own old new
adds_same P Q own old new left right a = record {
  more = a.more;
  is = a.is;
  all = λ k unit q at. a.all k unit (right unit q) at;
  only = λ k here. let of = a.only k here in (of.0, left of.0 of.1, of.2);
}

-- the children of one more of some units
pub among_next : (own : List Entry) (units : List WorkUnit) (old new : List ℕ) (i : ℕ) (unit : WorkUnit) → i < length units → unit ≡ get_or units i unit → Adds (λ u. is_among (take i units) u ≡ true) own [] old
    → Adds (λ parent. parent ≡ unit) own old new → Adds (λ u. is_among (take (i + 1) units) u ≡ true) own [] new
among_next own units old new i unit lt at a b = adds_both (λ u. is_among (take i units) u ≡ true) (λ parent. parent ≡ unit) (λ u. is_among (take (i + 1) units) u ≡ true) own [] old new
    (λ u p. list_any_kept (λ other. same_unit other u) units i p)
    (λ u e. more u ∙ or_right (is_among (take i units) u) (same_unit unit u) (ap (same_unit unit) e ∙ same_unit_self unit))
    (λ u r. ⊎_elim
    (λ (p : is_among (take i units) u ≡ true). inl p)
    (λ (q : same_unit unit u ≡ true). inr (sym (unit_path unit u q)))
    (or_cases (is_among (take i units) u) (same_unit unit u) (sym (more u) ∙ r))) a b
  where
    more : (u : WorkUnit) → is_among (take (i + 1) units) u ≡ (is_among (take i units) u || same_unit unit u)
    more u = list_any_more (λ other. same_unit other u) units i unit lt ∙ ap (λ v. is_among (take i units) u || same_unit v u) (sym at)

-- ---- levels

parent_entry : (own : List Entry) (k : ℕ) (unit : WorkUnit) → parent_in (slice_get own k) ≡ Some unit → (c : Entry) × (slice_get own k ≡ Some c) × (c.parent ≡ Some unit)
parent_entry own k unit h = go (slice_get own k) refl h
  where
    go : (o : Option Entry) → slice_get own k ≡ o → parent_in o ≡ Some unit → (c : Entry) × (slice_get own k ≡ Some c) × (c.parent ≡ Some unit)
    go None at p = absurd (none-some unit p)
    go (Some c) at p = (c, at, p)

-- What was found so far: all is below, the children of those before the place are there, and those from it on are of this
-- level or deeper.
pub record Walked (top : WorkUnit → Bool) (own : List Entry) (place level : ℕ) (serials : List ℕ) : Type 0 where
  pub only : (k : ℕ) → Contains serials k → IsBelow top own k
  pub tops : (k : ℕ) (unit : WorkUnit) → top unit ≡ true → parent_in (slice_get own k) ≡ Some unit → Contains serials k
  pub next : (i k : ℕ) → i < place → parent_in (slice_get own k) ≡ Some (Own (get_or serials i 0)) → Contains serials k
  pub deep : (i : ℕ) → place ≤ i → i < length serials → level ≤ get_or serials i 0

module _ (top : WorkUnit → Bool) (own : List Entry) where
  pub walk_start : (serials : List ℕ) → Adds (λ unit. top unit ≡ true) own [] serials → Walked top own 0 0 serials
  walk_start serials a = record {
    only = λ k here.
        let of = a.only k (subst (λ l. Contains l k) a.is here) in
        let c = parent_entry own k of.0 of.2 in
        child c.1 c.2 of.1;
    tops = λ k unit t p. subst (λ l. Contains l k) (sym a.is) (a.all k unit t p);
    next = λ i k l p. absurd (omega (arith, l));
    deep = λ i l r. omega arith;
  }

  module _ (lower : (k j : ℕ) (c : Entry) → slice_get own k ≡ Some c → c.parent ≡ Some (Own j) → j < k) (place level : ℕ) (serials : List ℕ) (w : Walked top own place level serials) where
    step : (after : List ℕ) → Adds (IsListed place (length serials) serials) own serials after → Walked top own (length serials) (suc level) after
    step after a = record {
      only = λ k here. ⊎_elim
          (λ (h : Contains serials k). w.only k h)
          (λ (h : Contains a.more k).
          let of = a.only k h in
          let c = parent_entry own k of.0 of.2 in
          let listed = of.1 in
          deeper c.1 (c.2 ∙ ap Some listed.3) (w.only (get_or serials listed.0 0) (Contains-get_or serials listed.0 0 listed.2)))
          (Contains-append_cases serials a.more k (subst (λ l. Contains l k) a.is here));
      tops = λ k unit t p. behind k (w.tops k unit t p);
      next = λ i k l p.
          let same : get_or after i 0 ≡ get_or serials i 0 = ap (λ l. get_or l i 0) a.is ∙ get_or_append_left serials a.more 0 i l in
          let parent : parent_in (slice_get own k) ≡ Some (Own (get_or serials i 0)) = p ∙ ap (λ j. Some (Own j)) same in
          ⊎_elim
          (λ (m : i < place). behind k (w.next i k m parent))
          (λ (m : place ≤ i). subst (λ l. Contains l k) (sym a.is) (Contains-append_right serials a.more k (a.all k (Own (get_or serials i 0)) (i, m, l, refl) parent)))
          (cases_lt i place);
      deep = λ i l r.
          let count = ap length a.is ∙ length-append serials a.more in
          let at : get_or after i 0 ≡ get_or a.more (i - length serials) 0 = ap (λ l. get_or l i 0) a.is ∙ get_or-append_right serials a.more (length serials) i 0 refl l in
          let of = a.only (get_or a.more (i - length serials) 0) (Contains-get_or a.more (i - length serials) 0 (omega (arith, l, r, count))) in
          let c = parent_entry own (get_or a.more (i - length serials) 0) of.0 of.2 in
          let listed = of.1 in
          let less : get_or serials listed.0 0 < get_or a.more (i - length serials) 0 = lower (get_or a.more (i - length serials) 0) (get_or serials listed.0 0) c.0 c.1 (c.2 ∙ ap Some listed.3) in
          let before : level ≤ get_or serials listed.0 0 = w.deep listed.0 listed.1 listed.2 in
          omega (arith, at, less, before);
    }
      where
        behind : (k : ℕ) → Contains serials k → Contains after k
        behind k h = subst (λ l. Contains l k) (sym a.is) (Contains-append_left serials a.more k h)

    pub walk_step : (after : List ℕ) (end below : ℕ) → end ≡ length serials → below ≡ suc level → Adds (IsListed place (length serials) serials) own serials after → Walked top own end below after
    walk_step after end below e d a = subst (λ (p : ℕ × ℕ). Walked top own p.0 p.1 after) (λ i. (sym e i, sym d i)) (step after a)

  -- once none is left at the place or behind, all is found
  walk_done : (place level : ℕ) (serials : List ℕ) → Walked top own place level serials → ((i : ℕ) → place ≤ i → i < length serials → ⊥) → AreBelow top own serials
  walk_done place level serials w none = record { all = all; only = w.only }
    where
      all : (k : ℕ) → IsBelow top own k → Contains serials k
      all k (child {unit = u} at p t) = w.tops k u t (ap parent_in at ∙ p)
      all k (deeper {parent = j} at p below) =
          let here = all j below in
          let is : get_or serials here.0 0 ≡ j = get_or_default serials here.0 0 j here.1 ∙ here.2 in
          ⊎_elim
          (λ (l : here.0 < place). w.next here.0 k l (ap parent_in at ∙ p ∙ ap (λ i. Some (Own i)) (sym is)))
          (λ (l : place ≤ here.0). absurd (none here.0 l here.1))
          (cases_lt here.0 place)

  pub walk_whole : (place level : ℕ) (serials : List ℕ) → Walked top own place level serials → length serials ≤ place → AreBelow top own serials
  walk_whole place level serials w end = walk_done place level serials w (λ i l r. omega (arith, l, r, end))

  -- there are no more levels than own children
  pub walk_deepest : (place level : ℕ) (serials : List ℕ) → Walked top own place level serials → length own ≤ level → AreBelow top own serials
  walk_deepest place level serials w end = walk_done place level serials w (λ i l r.
      let within = below_within top own (get_or serials i 0) (w.only (get_or serials i 0) (Contains-get_or serials i 0 r)) in
      let deep = w.deep i l r in
      omega (arith, within, deep, end))

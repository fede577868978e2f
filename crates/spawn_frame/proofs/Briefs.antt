-- What frames see of own children: whose they are, whether they are done, and whether with a cover.
use Rattle.std.proofs.Common.{◌≡◌, ℕ, zero, suc, Bool, true, false, cond, not, ◌&&◌, ◌||◌, List, [], ◌∷◌, map, length, Option, Some, None, is_some, slice_get, refl, sym, ap, ◌∙◌}
use Rattle.std.specs.List.{filter, list_any}
use Rattle.std.proofs.lemmas.Option.{same_Some}
use Rattle.spawn_frame.specs.Frames.{cover_of, is_unit}
use Rattle.spawn_frame.specs.Inlets.{children_left, frame_hearing, frame_winner, is_done, winner_from}
use Rattle.spawn_frame.specs.Tables.{parent_in}
use Rattle.spawn_frame.specs.Units.{Entry, change_at}
use Rattle.spawn_frame.specs.Works.{IsUnit, has_child}
use Rattle.spawn_frame.specs.declared.unit.Unit.{Unit as WorkUnit}
use Rattle.spawn_frame.specs.declared.work.Work.{Work}
use Rattle.spawn_frame.proofs.Parents.{children_stay}

pub record Brief : Type 0 where
  pub parent : Option WorkUnit
  pub done : Bool
  pub covered : Bool

abbrev pub brief : Entry → Brief
brief c = record { parent = c.parent; done = is_done c.status; covered = is_some (cover_of c.status) }

abbrev pub briefs : List Entry → List Brief
briefs own = map (λ c. brief c) own

abbrev left_by : WorkUnit → List Brief → ℕ
left_by unit bs = length (filter (λ b. is_unit b.parent unit && not b.done) bs)

abbrev winner_by : WorkUnit → ℕ → List Brief → Option ℕ
winner_by unit k [] = None
winner_by unit k (b ∷ bs) = cond (is_unit b.parent unit && b.covered) (Some k) (winner_by unit (suc k) bs)

abbrev child_by : WorkUnit → List Brief → Bool
child_by unit bs = list_any (λ b. is_unit b.parent unit) bs

left_is : (unit : WorkUnit) (own : List Entry) → children_left unit own ≡ left_by unit (briefs own)
left_is unit [] = refl
left_is unit (c ∷ cs) = go (is_unit c.parent unit && not (is_done c.status)) (left_is unit cs)
  where
    go : (b : Bool) → children_left unit cs ≡ left_by unit (briefs cs)
        → length (cond b (c ∷ filter (λ d. is_unit d.parent unit && not (is_done d.status)) cs) (filter (λ d. is_unit d.parent unit && not (is_done d.status)) cs))
        ≡ length (cond b (brief c ∷ filter (λ d. is_unit d.parent unit && not d.done) (briefs cs)) (filter (λ d. is_unit d.parent unit && not d.done) (briefs cs)))
    go true e = ap suc e
    go false e = e

winner_is : (unit : WorkUnit) (k : ℕ) (own : List Entry) → winner_from unit k own ≡ winner_by unit k (briefs own)
winner_is unit k [] = refl
winner_is unit k (c ∷ cs) = ap (cond (is_unit c.parent unit && is_some (cover_of c.status)) (Some k)) (winner_is unit (suc k) cs)

child_is : (unit : WorkUnit) (own : List Entry) → has_child unit own ≡ child_by unit (briefs own)
child_is unit [] = refl
child_is unit (c ∷ cs) = ap (λ b. is_unit c.parent unit || b) (child_is unit cs)

-- frames that see the same hear the same
pub same_hearing : (unit : WorkUnit) (old new : List Entry) → briefs new ≡ briefs old → frame_hearing unit new ≡ frame_hearing unit old
same_hearing unit old new e =
    let l : children_left unit new ≡ children_left unit old = left_is unit new ∙ ap (left_by unit) e ∙ sym (left_is unit old) in
    let w : frame_winner unit new ≡ frame_winner unit old = winner_is unit 0 new ∙ ap (winner_by unit 0) e ∙ sym (winner_is unit 0 old) in
    λ i. record { left = l i; winner = w i }

pub same_child : (unit : WorkUnit) (old new : List Entry) → briefs new ≡ briefs old → has_child unit new ≡ has_child unit old
same_child unit old new e = child_is unit new ∙ ap (child_by unit) e ∙ sym (child_is unit old)

parents_by : (old new : List Entry) → briefs new ≡ briefs old → (k : ℕ) → parent_in (slice_get new k) ≡ parent_in (slice_get old k)
parents_by [] [] e k = refl
parents_by [] (y ∷ ys) e k = absurd (cc)
parents_by (x ∷ xs) [] e k = absurd (cc)
parents_by (x ∷ xs) (y ∷ ys) e zero = let same : brief y ≡ brief x = cc in ap (λ b. b.parent) same
parents_by (x ∷ xs) (y ∷ ys) e (suc k) = let rest : briefs ys ≡ briefs xs = cc in parents_by xs ys rest k

-- a frame stays in step where it sees the same
pub same_frame : (unit : WorkUnit) (w : Work) (old new : List Entry) → briefs new ≡ briefs old → IsUnit unit w old → IsUnit unit w new
same_frame unit w old new e h = record {
  attempt = h.attempt;
  status = h.status;
  whole = λ t. same_child unit old new e ∙ h.whole t;
  split = λ s. h.split s ∙ ap Some (sym (same_hearing unit old new e));
  children = children_stay unit old new w.children.first w.children.end (parents_by old new e) h.children;
}

-- a change of which frames see nothing
pub changed_briefs : (f : Entry → Entry) (own : List Entry) (k : ℕ) (c : Entry) → slice_get own k ≡ Some c → brief (f c) ≡ brief c → briefs (change_at f own k) ≡ briefs own
changed_briefs f [] k c at e = refl
changed_briefs f (d ∷ ds) zero c at e =
    let same : d ≡ c = same_Some d c at in
    ap (λ b. b ∷ briefs ds) (ap (λ x. brief (f x)) same ∙ e ∙ ap brief (sym same))
changed_briefs f (d ∷ ds) (suc k) c at e = ap (λ l. brief d ∷ l) (changed_briefs f ds k c at e)

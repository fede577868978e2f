use Rattle.std.proofs.Common.{◌≡◌, [], append-nil, suc, ◌-◌, ◌<◌, ◌≤◌, length, sym, ap, subst, ◌∙◌, arith}
use Rattle.abort_tree.specs.Below.{MarksBelow, is_among, outs_from}
use Rattle.spawn_frame.specs.Units.{table_guests, table_own}
use Rattle.steal_return.proofs.Dropping.{lost_may_drop}
use Rattle.steal_return.proofs.Fewer.{appended_few, learnt_few}
use Rattle.steal_return.proofs.Finishes.{appended}
use Rattle.steal_return.proofs.Learning.{known_length}
use Rattle.steal_return.proofs.Learns.{learns_members, learns_nothing, moves, parents_same, redone_no_more}
use Rattle.steal_return.proofs.Marking.{no_more_reached, parents}
use Rattle.steal_return.proofs.Outrun.{learns}
use Rattle.steal_return.proofs.ledger.Ledger.learn_members.Goals as goal
use Rattle.steal_return.proofs.ledger.Ledger.learn_members.Goals.{After-drop-lost-2}
use Rattle.steal_return.specs.Ledger.{Ledger}
use Rattle.steal_return.specs.Members.{Differs, IsAlike, IsRedoable, LearnsMembers, MayDrop, dropped, lost_units, now_known, redo_lost}
use Rattle.steal_return.specs.Steals.{is_older}

pub drop_guests-requires : goal.drop_guests-requires
drop_guests-requires c =
    let guests = c.self.inside.table.guests in
    subst (λ us. MayDrop us c.redo_lost.new.table.guests) (sym (c.deref-3.ensures.value ∙ c.in_ok-lost.ensures.lost))
    (subst (λ gs. MayDrop (lost_units c.in_ok-known.known guests) gs) (sym (ap (λ t. t.guests) c.redo_lost.ensures))
    (lost_may_drop c.in_ok-known.known guests c.in_ok-lost.ensures.ascending))

pub abort-requires-clause-room : goal.abort-requires-clause-room
abort-requires-clause-room c =
    let fewer : length (outs_from 0 c.in_ok-reach.reach c.drop_guests.new.table.own) ≤ length (outs_from 0 c.in_ok-reach.reach c.self.inside.table.own) =
    no_more_reached 0 c.in_ok-reach.reach _ _
    (redone_no_more (is_older c.in_ok-known.known) c.self.inside.table c.redo_lost.new.table c.drop_guests.new.table _ c.redo_lost.ensures c.drop_guests.ensures) in
    omega (arith, fewer, c.in_ok-reserve.ensures.ok, c.outs.ensures)

-- ---- the facts of the calls, in one spelling

known_is : (c : After-drop-lost-2) → c.in_ok-known.known ≡ now_known c.self.inside.table.site.node c.self.inside.known c.args.incarnations.now
known_is c = c.in_ok-known.ensures ∙ ap (λ s. now_known s.node c.self.inside.known c.args.incarnations.now) c.site-own.ensures

as_many : (c : After-drop-lost-2) → length c.in_ok-known.known ≡ length c.self.inside.known
as_many c =
    let some : 0 < length c.self.inside.known = omega (arith, c.self.invariant.each) in
    ap length (known_is c) ∙ known_length c.self.inside.table.site.node c.self.inside.known c.args.incarnations.now some

kept : (c : After-drop-lost-2) → length c.in_ok-known.known - 1 ≡ length c.self.inside.known - 1
kept c = ap (λ n. n - 1) (as_many c)

redoable : (c : After-drop-lost-2) → IsRedoable (is_older c.in_ok-known.known) c.self.inside.table.own
redoable c = subst (λ k. IsRedoable (is_older k) c.self.inside.table.own) (sym c.in_ok-known.ensures) c.if-not-is_redoable.ensures.able

lost_is : (c : After-drop-lost-2) → c.in_ok-lost.lost.items ≡ lost_units c.in_ok-known.known c.self.inside.table.guests
lost_is c = c.in_ok-lost.ensures.lost

below : (c : After-drop-lost-2) → MarksBelow (is_among c.in_ok-lost.lost.items) c.self.inside.table.own c.in_ok-reach.reach
below c = subst (λ us. MarksBelow (is_among us) c.self.inside.table.own c.in_ok-reach.reach) c.deref-2.ensures.value c.in_ok-reach.ensures

redoes : (c : After-drop-lost-2) → c.redo_lost.new.table ≡ table_own c.self.inside.table (redo_lost (is_older c.in_ok-known.known) c.self.inside.table.own)
redoes c = c.redo_lost.ensures

drops : (c : After-drop-lost-2) → c.drop_guests.new.table ≡ table_guests c.redo_lost.new.table (dropped c.in_ok-lost.lost.items c.redo_lost.new.table.guests)
drops c =
    c.drop_guests.ensures ∙ ap (λ us. table_guests c.redo_lost.new.table (dropped us c.redo_lost.new.table.guests)) c.deref-3.ensures.value

same_parents : (c : After-drop-lost-2) → parents c.self.inside.table.own ≡ parents c.drop_guests.new.table.own
same_parents c =
    parents_same _ c.args.self.now c.self.view_is c.in_ok-known.known c.args.incarnations.now c.in_ok-lost.lost.items c.in_ok-reach.reach
    c.redo_lost.new.table c.drop_guests.new.table c.abort.new.table (redoes c) (drops c) c.abort.ensures.table c.in_ok-lost.ensures.ascending (lost_is c) (kept c)

-- ---- the goals

pub invariant_of-self : goal.invariant_of-self
invariant_of-self c =
    let site : c.abort.new.table.site ≡ c.self.inside.table.site =
    ap (λ t. t.site) c.abort.ensures.table ∙ ap (λ t. t.site) (drops c) ∙ ap (λ t. t.site) (redoes c) in
    record {
      each = as_many c ∙ c.self.invariant.each ∙ ap suc (sym (kept c));
      within = subst (λ n. c.abort.new.table.site.node ≤ n) (sym (kept c)) (subst (λ s. s.node ≤ length c.self.inside.known - 1) (sym site) c.self.invariant.within);
      none_outrun = learns c.in_ok-known.known c.self.inside.table c.redo_lost.new.table c.drop_guests.new.table c.abort.new.table _ c.in_ok-reach.reach
          (redoes c) (drops c) c.abort.ensures.table;
    }

pub returns-clause-learns : goal.returns-clause-learns
returns-clause-learns c = (
  _,
  appended c.args.list.now.items c.reserve.new.self.items c.abort.new.list.items _ c.abort.ensures.list c.reserve.ensures.items,
  learns_members _ c.args.self.now c.self.view_is c.in_ok-known.known c.args.incarnations.now c.in_ok-lost.lost.items c.in_ok-reach.reach
      c.redo_lost.new.table c.drop_guests.new.table c.abort.new.table (redoes c) (drops c) c.abort.ensures.table c.in_ok-lost.ensures.ascending (lost_is c) (kept c)
      (known_is c) (redoable c) (c.abort.ensures.below _ (c.parents_decide.ensures _ c.self.inside.table.own _ _ (same_parents c) (below c))),
)

pub returns-clause-moved : goal.returns-clause-moved
returns-clause-moved c =
    moves _ c.args.self.now c.self.view_is c.in_ok-known.known c.args.incarnations.now c.in_ok-lost.lost.items c.in_ok-reach.reach
    c.redo_lost.new.table c.drop_guests.new.table c.abort.new.table (redoes c) (drops c) c.abort.ensures.table c.in_ok-lost.ensures.ascending (lost_is c) (kept c)
    (subst (λ us. Differs c.args.self.now c.in_ok-known.known us) c.deref.ensures.value c.if-not-differs.ensures.differs)

pub returns-then-not-differs-clause-learns : goal.returns-then-not-differs-clause-learns
returns-then-not-differs-clause-learns c =
    let was : Ledger = record { table = c.self.inside.table; nodes = length c.self.inside.known - 1; known = c.self.inside.known } in
    let known = c.in_ok-known.known in
    let lost = c.in_ok-lost.lost.items in
    let known_is = c.in_ok-known.ensures ∙ ap (λ s. now_known s.node c.self.inside.known c.args.incarnations.now) c.site-own.ensures in
    let redoable = subst (λ k. IsRedoable (is_older k) c.self.inside.table.own) (sym c.in_ok-known.ensures) c.if-not-is_redoable.ensures.able in
    let alike = subst (λ us. IsAlike c.args.self.now known us) c.deref.ensures.value c.if-not-differs.ensures.alike in (
      [],
      sym (append-nil c.args.list.now.items),
      subst (λ l. LearnsMembers l c.args.incarnations.now [] l) c.self.view_is
          (learns_nothing was known c.args.incarnations.now lost c.in_ok-lost.ensures.ascending c.in_ok-lost.ensures.lost known_is redoable
          c.self.invariant.none_outrun (subst (λ l. IsAlike l known lost) (sym c.self.view_is) alike)),
    )

pub returns-clause-few : goal.returns-clause-few
returns-clause-few c = appended_few _ _ _ _ (learnt_few c.args.self.now _ c.args.incarnations.now) (returns-clause-learns c)

-- How a run of two nodes goes on from stage to stage, and what an abort makes of short lists.
use Rattle.std.proofs.Common.{◌≡◌, ◌⊎◌, ℕ, zero, suc, Bool, true, false, List, [], ◌∷◌, ◌++◌, Some, slice_get, slice_set, refl, sym, subst, ap, ◌∙◌, inl, inr, true≢false, arith}
use Rattle.std.proofs.lemmas.Option.{same_Some, none-some}
use Rattle.cover_problem.specs.Problem.{Problem}
use Rattle.cover_world.specs.Plays.{limits}
use Rattle.cover_world.specs.Worlds.{Acts, Run, SiteStep, WasSent, World, go, opening_world, stay}
use Rattle.node_core.specs.Arrivals.{Gives, answer_packet}
use Rattle.node_core.specs.SiteView.{View, with_own}
use Rattle.node_core.specs.declared.event.Event.{Event}
use Rattle.node_core.specs.declared.reply.Reply.{Reply}
use Rattle.packet_wire.specs.declared.packet.Body.TheVariants.{Give}
use Rattle.packet_wire.specs.declared.packet.Packet.{Packet}
use Rattle.spawn_frame.specs.Aborts.{AbortsBelow, IsBelow, child, deeper, is_open}
use Rattle.spawn_frame.specs.Names.{same_unit}
use Rattle.spawn_frame.specs.Units.{Entry, change_at, with_status}
use Rattle.spawn_frame.specs.declared.site.Site.{Site}
use Rattle.spawn_frame.specs.declared.status.Status.TheVariants.{Aborted, Out, Ready}
use Rattle.spawn_frame.specs.declared.unit.Unit.{Unit as WorkUnit}
use Rattle.steal_return.specs.Ledger.{ledger_own}
use Rattle.steal_return.specs.Steals.{is_older}

-- a run of two nodes so far
pub record Stage (problem : Problem) : Type 0 where
  pub end : World
  pub run : Run problem (opening_world 2 limits) end

abbrev pub opening : (problem : Problem) → Stage problem
opening problem = record { end = opening_world 2 limits; run = stay }

-- the run and one event of a site
abbrev pub acts : {problem : Problem} (stage : Stage problem) (node : ℕ) (event : Event) (reply : Reply) (before : View) (out : List Packet) (new : View)
    → slice_get stage.end.sites node ≡ Some before → WasSent stage.end.sent event → SiteStep node problem before event reply out new → Stage problem
acts stage node event reply before out new is was_sent step = record {
  end = record { sites = slice_set stage.end.sites node new; sent = stage.end.sent ++ out };
  run = go stage.run (Acts node event) (record {
    before = before;
    reply = reply;
    out = out;
    after = new;
    is = is;
    was_sent = was_sent;
    step = step;
    world = refl;
  });
}

-- the first own child is given by itself
abbrev pub gives_first : {old : View} {from : Site} (entry : Entry)
    → is_older old.known from ≡ false → slice_get old.own 0 ≡ Some entry → entry.status ≡ Ready
    → Gives old from (answer_packet old from (Give 0 entry.attempt entry.prefix)) (with_own old (change_at (with_status (Out from)) old.own 0))
gives_first {old} {from} entry not_older is ready = record {
  body = Give 0 entry.attempt entry.prefix;
  spelled = refl;
  ledger = ledger_own old.ledger (change_at (with_status (Out from)) old.own 0);
  gives = record {
    parent = entry.parent;
    some = omega arith;
    most = omega arith;
    alone = λ e. refl;
    rising = refl;
    each = (
      ledger_own old.ledger (change_at (with_status (Out from)) old.own 0),
      record { entry = entry; not_older = not_older; is = is; ready = ready; attempt = refl; prefix = refl; after = refl },
      refl,
      refl,
    );
  };
  after = refl;
  sends = refl;
}

pub aborts_nothing : (top : WorkUnit → Bool) → AbortsBelow top [] []
aborts_nothing top = record { each = λ k entry e. absurd (none-some entry e); ends = refl }

-- of two children the first is open and the second is not
pub aborts_first : (unit : WorkUnit) (first second : Entry) → first.parent ≡ Some unit → same_unit unit unit ≡ true → is_open first.status ≡ true → is_open second.status ≡ false
    → AbortsBelow (same_unit unit) (first ∷ second ∷ []) (with_status Aborted first ∷ second ∷ [])
aborts_first unit first second parent same opened closed = record { each = each; ends = refl }
  where
    each : (k : ℕ) (entry : Entry) → slice_get (first ∷ second ∷ []) k ≡ Some entry
        → (IsBelow (same_unit unit) (first ∷ second ∷ []) k × (is_open entry.status ≡ true) × (slice_get (with_status Aborted first ∷ second ∷ []) k ≡ Some (with_status Aborted entry)))
        ⊎ ((IsBelow (same_unit unit) (first ∷ second ∷ []) k → is_open entry.status ≡ true → ⊥) × (slice_get (with_status Aborted first ∷ second ∷ []) k ≡ Some entry))
    each zero entry e = inl (child refl parent same, subst (λ c. is_open c.status ≡ true) (same_Some _ entry e) opened, ap (λ c. Some (with_status Aborted c)) (same_Some _ entry e))
    each (suc zero) entry e = inr ((λ b o. true≢false (sym o ∙ subst (λ c. is_open c.status ≡ false) (same_Some _ entry e) closed)), e)
    each (suc (suc k)) entry e = absurd (none-some entry e)

-- nothing is below units of which no child has one as its parent
pub below_none : (top : WorkUnit → Bool) (own : List Entry) (unit : WorkUnit) → top unit ≡ false
    → ((k : ℕ) (entry : Entry) → slice_get own k ≡ Some entry → entry.parent ≡ Some unit) → (k : ℕ) → IsBelow top own k → ⊥
below_none top own unit no_top all k (child {entry = entry} {unit = other} is parent passes) =
    true≢false (sym passes ∙ subst (λ u. top u ≡ false) (same_Some unit other (sym (all k entry is) ∙ parent)) no_top)
below_none top own unit no_top all k (deeper {parent = parent} is up below) = below_none top own unit no_top all parent below

pub aborts_none : (top : WorkUnit → Bool) (own : List Entry) (unit : WorkUnit) → top unit ≡ false
    → ((k : ℕ) (entry : Entry) → slice_get own k ≡ Some entry → entry.parent ≡ Some unit) → AbortsBelow top own own
aborts_none top own unit no_top all = record { each = λ k entry e. inr ((λ below o. below_none top own unit no_top all k below), e); ends = refl }

-- what holds of each of two children
pub each_of_two : (P : Entry → Type 0) (first second : Entry) → P first → P second → (k : ℕ) (entry : Entry) → slice_get (first ∷ second ∷ []) k ≡ Some entry → P entry
each_of_two P first second p q zero entry e = subst P (same_Some first entry e) p
each_of_two P first second p q (suc zero) entry e = subst P (same_Some second entry e) q
each_of_two P first second p q (suc (suc k)) entry e = absurd (none-some entry e)

pub each_of_one : (P : Entry → Type 0) (first : Entry) → P first → (k : ℕ) (entry : Entry) → slice_get (first ∷ []) k ≡ Some entry → P entry
each_of_one P first p zero entry e = subst P (same_Some first entry e) p
each_of_one P first p (suc k) entry e = absurd (none-some entry e)

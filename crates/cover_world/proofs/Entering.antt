-- No result enters late: where a child becomes done, the event speaks of the child's attempt.
use Rattle.std.proofs.Common.{◌≡◌, ◌≢◌, ℕ, zero, suc, List, ◌++◌, map, Some, slice_get, slice_set, refl, sym, ap, ◌∙◌, subst, ⊎_elim, arith}
use Rattle.std.proofs.lemmas.Option.{same_Some}
use Rattle.cover_problem.specs.Problem.{Problem}
use Rattle.cover_problem.specs.Search.{Outcome, Covers, Barren, Spent}
use Rattle.cover_problem.specs.Branching.{children}
use Rattle.spawn_frame.specs.declared.site.Site.{Site}
use Rattle.spawn_frame.specs.declared.site.ChildName.{ChildName}
use Rattle.spawn_frame.specs.declared.unit.Unit.{Unit as WorkUnit}
use Rattle.spawn_frame.specs.declared.unit.Unit.TheVariants.{Own, Guest}
use Rattle.spawn_frame.specs.declared.child_result.ChildResult.{ChildResult}
use Rattle.spawn_frame.specs.declared.status.Status.{Status}
use Rattle.spawn_frame.specs.declared.status.Status.TheVariants.{Split, Done, Aborted}
use Rattle.spawn_frame.specs.Units.{Entry, with_status, change_at}
use Rattle.node_core.specs.SiteView.{View, unit_in, unit_gets}
use Rattle.packet_wire.specs.declared.packet.Body.{Body}
use Rattle.packet_wire.specs.declared.packet.Body.TheVariants.{Hello, Return}
use Rattle.packet_wire.specs.declared.packet.Packet.{Packet}
use Rattle.node_core.specs.declared.event.Event.{Event}
use Rattle.node_core.specs.declared.event.Event.TheVariants.{Post, Deliver}
use Rattle.node_core.specs.declared.reply.Reply.{Reply}
use Rattle.node_core.specs.Results.{Leaves}
use Rattle.spawn_frame.specs.Splits.{new_child}
use Rattle.node_core.specs.Arrivals.{Answers}
use Rattle.root_registry.specs.RegistryStep.{RootAnswers, RootHears}
use Rattle.node_core.specs.NodeStep.{HearStep}
use Rattle.cover_world.specs.Worlds.{World, WorldMove, Acts, Restarts, SiteStep, WorldStep, Run, stay, go, EachStep}
use Rattle.cover_world.specs.Safety.{HasChild, NoneLate, attempt_in, attempt_of, attempt_at}
use Rattle.cover_problem.proofs.Basics.{get_front}
use Rattle.cover_world.proofs.Grows.{Grows, get_changed}
use Rattle.cover_world.proofs.Steps.{judged_enters}
use Rattle.cover_world.proofs.Later.{get_set, Later, Gone, same_child, not_gone, step_keeps, run_keeps}
use Rattle.steal_return.specs.Returns.{Enters, Holds, Judgement, Refuses, judged}

-- a child that was not done, and is
pub record BecomesDone (old new : List Entry) (k : ℕ) (c : Entry) : Type 0 where
  pub was : slice_get old k ≡ Some c
  pub not_done : (r : ChildResult) → c.status ≢ Done r
  pub now : Entry
  pub is : slice_get new k ≡ Some now
  pub result : ChildResult
  pub done : now.status ≡ Done result

not_same : (xs : List Entry) (k : ℕ) (c : Entry) → BecomesDone xs xs k c → ⊥
not_same xs k c b = b.not_done b.result (ap (λ e. e.status) (same_Some c b.now (sym b.was ∙ b.is)) ∙ b.done)

-- only the child whose status changes can become done
pub changed_one : (s : Status) (xs : List Entry) (k j : ℕ) (c entry : Entry) → slice_get xs k ≡ Some entry → BecomesDone xs (change_at (with_status s) xs k) j c → c ≡ entry
changed_one s xs k j c entry is b =
    ⊎_elim
    (λ (h : (j ≡ k) × (slice_get (change_at (with_status s) xs k) j ≡ Some (with_status s c))). same_Some c entry (sym b.was ∙ ap (slice_get xs) h.0 ∙ is))
    (λ (h : (j ≢ k) × (slice_get (change_at (with_status s) xs k) j ≡ Some c)).
    absurd (b.not_done b.result (ap (λ e. e.status) (same_Some c b.now (sym h.1 ∙ b.is)) ∙ b.done)))
    (get_changed (with_status s) xs k j c b.was)

unit_one : (old : View) (unit : WorkUnit) (s : Status) (entry : Entry) (j : ℕ) (c : Entry) → unit_in old unit ≡ Some entry → BecomesDone old.own (unit_gets old unit s).own j c → c ≡ entry
unit_one old (Own serial) s entry j c is b = changed_one s old.own serial j c entry is b
unit_one old (Guest name attempt) s entry j c is b = absurd (not_same old.own j c b)

-- new children at the end change nothing
before_end : (old now more : List Entry) (j : ℕ) (c d : Entry) → slice_get now j ≡ Some d → BecomesDone old (now ++ more) j c → BecomesDone old now j c
before_end old now more j c d e b = record {
  was = b.was;
  not_done = b.not_done;
  now = b.now;
  is = e ∙ sym (get_front now more j d e) ∙ b.is;
  result = b.result;
  done = b.done;
}

-- what stands at a place of the changed list
still_there : (old : View) (unit : WorkUnit) (s : Status) (j : ℕ) (c : Entry) → slice_get old.own j ≡ Some c → (d : Entry) × (slice_get (unit_gets old unit s).own j ≡ Some d)
still_there old (Own serial) s j c e =
    ⊎_elim
    (λ (h : (j ≡ serial) × (slice_get (change_at (with_status s) old.own serial) j ≡ Some (with_status s c))). (with_status s c, h.1))
    (λ (h : (j ≢ serial) × (slice_get (change_at (with_status s) old.own serial) j ≡ Some c)). (c, h.1))
    (get_changed (with_status s) old.own serial j c e)
still_there old (Guest name attempt) s j c e = (c, e)

same_own : (old new : List Entry) (view : List Entry) (j : ℕ) (c : Entry) → new ≡ view → BecomesDone old new j c → BecomesDone old view j c
same_own old new view j c e b = subst (λ x. BecomesDone old x j c) e b

leaves_one : (problem : Problem) (old : View) (unit : WorkUnit) (prefix : List ℕ) (outcome : Outcome) (out : List Packet) (new : View) (entry : Entry) (j : ℕ) (c : Entry)
    → unit_in old unit ≡ Some entry → Leaves problem old unit prefix outcome out new → BecomesDone old.own new.own j c → c ≡ entry
leaves_one problem old unit prefix (Covers options) out new entry j c is l b = unit_one old unit _ entry j c is (same_own _ _ _ j c (ap (λ v. v.own) l.0) b)
leaves_one problem old unit prefix Barren out new entry j c is l b = unit_one old unit _ entry j c is (same_own _ _ _ j c (ap (λ v. v.own) l.0) b)
leaves_one problem old unit prefix Spent out new entry j c is l b =
    let d = still_there old unit Split j c b.was in
    unit_one old unit Split entry j c is
    (before_end old.own (unit_gets old unit Split).own (map (λ p. new_child unit p) (children problem prefix)) j c d.0 d.1
    (same_own _ _ _ j c (ap (λ v. v.own) l.0) b))

answers_one : (old : View) (from : Site) (serial attempt : ℕ) (result : ChildResult) (judgement : Judgement) (out : List Packet) (new : View) (j : ℕ) (c : Entry)
    → judged (slice_get old.own serial) from attempt ≡ judgement → Answers old from serial attempt result judgement out new → BecomesDone old.own new.own j c → attempt ≡ c.attempt
answers_one old from serial attempt result Enters out new j c e a b =
    let at = judged_enters (slice_get old.own serial) from attempt e in
    let same = changed_one (Done result) old.own serial j c at.entry at.is (same_own _ _ _ j c (ap (λ v. v.own) a.0) b) in
    sym at.attempt_is ∙ ap (λ x. x.attempt) (sym same)
answers_one old from serial attempt result (Holds held) out new j c e a b = absurd (not_same old.own j c (same_own _ _ _ j c (ap (λ v. v.own) a.0) b))
answers_one old from serial attempt result (Refuses cause) out new j c e a b = absurd (not_same old.own j c (same_own _ _ _ j c (ap (λ v. v.own) a.0) b))

root_answers_one : (problem : Problem) (old : View) (from : Site) (serial attempt : ℕ) (result : ChildResult) (judgement : Judgement) (out : List Packet) (new : View) (j : ℕ) (c : Entry)
    → judged (slice_get old.own serial) from attempt ≡ judgement → RootAnswers problem old from serial attempt result judgement out new → BecomesDone old.own new.own j c → attempt ≡ c.attempt
root_answers_one problem old from serial attempt result Enters out new j c e a b = answers_one old from serial attempt result Enters _ new j c e (a.1, refl) b
root_answers_one problem old from serial attempt result (Holds held) out new j c e a b = answers_one old from serial attempt result (Holds held) out new j c e a b
root_answers_one problem old from serial attempt result (Refuses cause) out new j c e a b = answers_one old from serial attempt result (Refuses cause) out new j c e a b

hear_attempt : (problem : Problem) (old : View) (from : Site) (body : Body) (reply : Reply) (out : List Packet) (new : View) (j : ℕ) (c : Entry)
    → HearStep problem old from body reply out new → BecomesDone old.own new.own j c → attempt_of body c.attempt ≡ c.attempt
hear_attempt problem old from (Return serial attempt result) reply out new j c h b = answers_one old from serial attempt result h.1.0 out new j c h.1.1 h.1.2 b
hear_attempt problem old from Hello reply out new j c h b = refl
hear_attempt problem old from _ reply out new j c h b = refl

root_attempt : (problem : Problem) (old : View) (from : Site) (body : Body) (reply : Reply) (out : List Packet) (new : View) (j : ℕ) (c : Entry)
    → RootHears problem old from body reply out new → BecomesDone old.own new.own j c → attempt_of body c.attempt ≡ c.attempt
root_attempt problem old from (Return serial attempt result) reply out new j c h b = root_answers_one problem old from serial attempt result h.1.0 out new j c h.1.1 h.1.2 b
root_attempt problem old from Hello reply out new j c h b = refl
root_attempt problem old from _ reply out new j c h b = refl

pub site_attempt : (node : ℕ) (problem : Problem) (old : View) (event : Event) (reply : Reply) (out : List Packet) (new : View) (j : ℕ) (c : Entry)
    → SiteStep node problem old event reply out new → BecomesDone old.own new.own j c → attempt_in event c.attempt ≡ c.attempt
site_attempt zero problem old (Deliver packet) reply out new j c h b = root_attempt problem old packet.from packet.body reply out new j c h.2 b
site_attempt zero problem old (Post job finding) reply out new j c h b = absurd h
site_attempt zero problem old _ reply out new j c h b = refl
site_attempt (suc node) problem old (Deliver packet) reply out new j c h b = hear_attempt problem old packet.from packet.body reply out new j c h.1.2 b
site_attempt (suc node) problem old (Post job finding) reply out new j c h b =
    sym h.1.1.attempt ∙ ap (λ x. x.attempt) (sym (leaves_one problem old job.unit finding.prefix finding.outcome out new h.1.1.entry j c h.1.1.is h.1.1.leaves b))
site_attempt (suc node) problem old _ reply out new j c h b = refl

-- at a step of the world
pub enters_attempt : (problem : Problem) (old : World) (event : WorldMove) (new : World) → WorldStep problem old event new
    → (name : ChildName) (c d : Entry) (r : ChildResult) → HasChild old name c → ((q : ChildResult) → c.status ≢ Done q) → HasChild new name d → d.status ≡ Done r → attempt_at event c.attempt ≡ c.attempt
enters_attempt problem old (Restarts node incarnation limit) new s name c d r h n i done = refl
enters_attempt problem old (Acts node event) new s name c d r h n i done =
    let after_is : slice_get (slice_set old.sites node s.after) name.site.node ≡ Some i.view = ap (λ w. slice_get w.sites name.site.node) (sym s.world) ∙ i.is in
    ⊎_elim
    (λ (e : (name.site.node ≡ node) × (slice_get (slice_set old.sites node s.after) name.site.node ≡ Some s.after)).
    let v : h.view ≡ s.before = same_Some h.view s.before (sym h.is ∙ ap (slice_get old.sites) e.0 ∙ s.is) in
    let w : i.view ≡ s.after = same_Some i.view s.after (sym after_is ∙ e.1) in
    site_attempt node problem s.before event s.reply s.out s.after name.serial c s.step
    (record {
      was = ap (λ x. slice_get x.own name.serial) (sym v) ∙ h.child;
      not_done = n;
      now = d;
      is = ap (λ x. slice_get x.own name.serial) (sym w) ∙ i.child;
      result = r;
      done = done;
    }))
    (λ (e : (name.site.node ≢ node) × (slice_get (slice_set old.sites node s.after) name.site.node ≡ Some h.view)).
    let w : i.view ≡ h.view = same_Some i.view h.view (sym after_is ∙ e.1) in
    let same : c ≡ d = same_Some c d (sym h.child ∙ ap (λ x. slice_get x.own name.serial) (sym w) ∙ i.child) in
    absurd (n r (ap (λ x. x.status) same ∙ done)))
    (get_set old.sites node s.after name.site.node h.view h.is)

late_step : {problem : Problem} {now old : World} (run : Run problem now old) (event : WorldMove) (new : World) → WorldStep problem old event new → NoneLate now old event new
late_step {problem} {now} {old} run event new step name entry attempt has enters =
    let before = enters.before in
    let done = enters.done in
    ⊎_elim
    (λ (l : Later old name entry).
    let same : l.now ≡ before = same_child old name l.now before l.has enters.has in
    let grows : Grows entry before = subst (λ x. Grows entry x) same l.grows in
    let at : attempt_at event before.attempt ≡ before.attempt = enters_attempt problem old event new step name before done.entry enters.result enters.has enters.not_done done.has done.done in (
      (λ aborted. ⊎_elim
          (λ (m : Later new name before).
          let d : m.now ≡ done.entry = same_child new name m.now done.entry m.has done.has in
          let a : m.now.status ≡ Aborted = m.grows.aborted (grows.aborted aborted) in
          let b : Aborted ≡ Done enters.result = sym a ∙ ap (λ x. x.status) d ∙ done.done in
          cc)
          (λ (g : Gone new name). not_gone new name done.entry done.has g)
          (step_keeps problem old event new step name before enters.has)),
      omega (arith, at, enters.attempt_is, grows.attempt),
    ))
    (λ (g : Gone old name). absurd (not_gone old name before enters.has g))
    (run_keeps run name entry has)

pub none_late : {problem : Problem} {now end : World} (run : Run problem now end) → EachStep (NoneLate now) run
none_late stay = tt
none_late (go {old = old} {new = new} run event step) = (none_late run, late_step run event new step)

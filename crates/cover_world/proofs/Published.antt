-- What is published stays, and a cover that is published was counted.
use Rattle.std.proofs.Common.{◌≡◌, ◌≢◌, ◌⊎◌, ℕ, zero, suc, Bool, true, false, cond, List, [], ◌∷◌, map, Option, Some, None, option_map, slice_get, slice_set, refl, sym, ap, ◌∙◌, subst, inl, inr, ⊎_elim, arith}
use Rattle.std.proofs.lemmas.Option.{same_Some, none-some}
use Rattle.cover_problem.specs.Problem.{Problem}
use Rattle.cover_problem.specs.ExactCover.{IsExactCover, in_order}
use Rattle.cover_problem.specs.Numbers.{is_in}
use Rattle.cover_problem.specs.declared.answer.Answer.{Answer}
use Rattle.cover_problem.specs.declared.answer.Answer.TheVariants as answers
use Rattle.spawn_frame.specs.declared.site.Site.{Site}
use Rattle.spawn_frame.specs.declared.child_result.ChildResult.{ChildResult}
use Rattle.spawn_frame.specs.declared.child_result.ChildResult.TheVariants.{Cover, Empty}
use Rattle.spawn_frame.specs.declared.status.Status.{Status}
use Rattle.spawn_frame.specs.declared.status.Status.TheVariants.{Ready, Out, Done}
use Rattle.spawn_frame.specs.Units.{Entry, with_status, redone, change_at}
use Rattle.cover_world.proofs.Changes.{after_redo, kept_by_gives}
use Rattle.node_core.specs.SiteView.{View}
use Rattle.packet_wire.specs.declared.packet.Body.{Body}
use Rattle.packet_wire.specs.declared.packet.Body.TheVariants.{Hello, Steal, Return}
use Rattle.packet_wire.specs.declared.packet.Packet.{Packet}
use Rattle.node_core.specs.declared.event.Event.{Event}
use Rattle.node_core.specs.declared.event.Event.TheVariants.{Redo, Deliver, Again}
use Rattle.node_core.specs.declared.reply.Reply.{Reply}
use Rattle.node_core.specs.Arrivals.{Denies, Gives}
use Rattle.root_registry.specs.RegistryStep.{RootAnswers, RootSteal, RootHears, RegistryStep, IsAcceptable, root_result, entry_result, status_result}
use Rattle.cover_world.specs.Worlds.{World, WorldMove, Acts, Restarts, WorldStep, Run, stay, go, opening_world, opening_registry}
use Rattle.cover_world.specs.Safety.{published, published_at}
use Rattle.root_registry.specs.Published.{answer_of}
use Rattle.cover_world.proofs.Steps.{registry_grows}
use Rattle.cover_world.proofs.Later.{get_set, set_get}
use Rattle.cover_problem.proofs.Sets.{in_order_same}
use Rattle.spawn_frame.specs.Tables.{root_entry}
use Rattle.steal_return.specs.Members.{redo_if}
use Rattle.steal_return.specs.Returns.{Enters, Holds, Judgement, Refuses}

-- ---- a result that the root has

pub record RootHas (view : View) (result : ChildResult) : Type 0 where
  pub entry : Entry
  pub is : slice_get view.own 0 ≡ Some entry
  pub done : entry.status ≡ Done result

status_has : (s : Status) (r : ChildResult) → status_result s ≡ Some r → s ≡ Done r
status_has (Done q) r e = ap Done (same_Some q r e)
status_has Ready r e = absurd (none-some r e)
status_has _ r e = absurd (none-some r e)

root_has : (view : View) (r : ChildResult) (o : Option Entry) → slice_get view.own 0 ≡ o → entry_result o ≡ Some r → RootHas view r
root_has view r None at e = absurd (none-some r e)
root_has view r (Some c) at e = record { entry = c; is = at; done = status_has c.status r e }

pub root_has_from : (view : View) (r : ChildResult) → root_result view ≡ Some r → RootHas view r
root_has_from view r e = root_has view r (slice_get view.own 0) refl e

pub root_has_to : (view : View) (r : ChildResult) → RootHas view r → root_result view ≡ Some r
root_has_to view r h = ap entry_result h.is ∙ ap status_result h.done

-- ---- the registry stays in its place

pub record Registered (world : World) (result : ChildResult) : Type 0 where
  pub view : View
  pub is : slice_get world.sites 0 ≡ Some view
  pub has : RootHas view result

step_root : (problem : Problem) (old : World) (event : WorldMove) (new : World) → WorldStep problem old event new → (r : ChildResult) → Registered old r → Registered new r
step_root problem old (Acts zero event) new s r h =
    let v : h.view ≡ s.before = same_Some h.view s.before (sym h.is ∙ s.is) in
    let g = registry_grows problem s.before event s.reply s.out s.after s.step in
    let d = g.own.each 0 h.has.entry (ap (λ w. slice_get w.own 0) (sym v) ∙ h.has.is) in
    subst (λ w. Registered w r) (sym s.world)
    (record {
      view = s.after;
      is = ⊎_elim (λ (e : (0 ≡ 0) × (slice_get (slice_set old.sites 0 s.after) 0 ≡ Some s.after)). e.1) (λ (e : (0 ≢ 0) × (slice_get (slice_set old.sites 0 s.after) 0 ≡ Some s.before)). absurd (e.0 refl)) (get_set old.sites 0 s.after 0 s.before s.is);
      has = record { entry = d.now; is = d.is; done = d.grows.done r h.has.done };
    })
step_root problem old (Acts (suc node) event) new s r h =
    subst (λ w. Registered w r) (sym s.world)
    (record {
      view = h.view;
      is = ⊎_elim (λ (e : (0 ≡ suc node) × (slice_get (slice_set old.sites (suc node) s.after) 0 ≡ Some s.after)). absurd (omega (arith, e.0))) (λ (e : (0 ≢ suc node) × (slice_get (slice_set old.sites (suc node) s.after) 0 ≡ Some h.view)). e.1) (get_set old.sites (suc node) s.after 0 h.view h.is);
      has = h.has;
    })
step_root problem old (Restarts node incarnation limit) new s r h =
    subst (λ w. Registered w r) (sym s.world)
    (record {
      view = h.view;
      is = ⊎_elim (λ (e : (0 ≡ node) × (slice_get (slice_set old.sites node _) 0 ≡ Some _)). absurd (omega (arith, e.0, s.not_registry))) (λ (e : (0 ≢ node) × (slice_get (slice_set old.sites node _) 0 ≡ Some h.view)). e.1) (get_set old.sites node _ 0 h.view h.is);
      has = h.has;
    })

pub run_root : {problem : Problem} {start end : World} → Run problem start end → (r : ChildResult) → Registered start r → Registered end r
run_root stay r h = h
run_root {problem} (go {old = old} {new = new} run event step) r h = step_root problem old event new step r (run_root run r h)

-- ---- what is published

pub record PublishedAs (problem : Problem) (world : World) (answer : Answer) : Type 0 where
  pub result : ChildResult
  pub registered : Registered world result
  pub shown : answer_of problem result ≡ answer

mapped_some : (problem : Problem) (o : Option ChildResult) (answer : Answer) → option_map (answer_of problem) o ≡ Some answer → (r : ChildResult) × (o ≡ Some r) × (answer_of problem r ≡ answer)
mapped_some problem None answer e = absurd (none-some answer e)
mapped_some problem (Some r) answer e = (r, refl, same_Some _ answer e)

published_view : (problem : Problem) (world : World) (answer : Answer) (o : Option View) → slice_get world.sites 0 ≡ o → published_at problem o ≡ Some answer → PublishedAs problem world answer
published_view problem world answer None at e = absurd (none-some answer e)
published_view problem world answer (Some v) at e =
    let m = mapped_some problem (root_result v) answer e in
    record { result = m.0; registered = record { view = v; is = at; has = root_has_from v m.0 m.1 }; shown = m.2 }

pub published_from : (problem : Problem) (world : World) (answer : Answer) → published problem world ≡ Some answer → PublishedAs problem world answer
published_from problem world answer e = published_view problem world answer (slice_get world.sites 0) refl e

pub published_to : (problem : Problem) (world : World) (answer : Answer) → PublishedAs problem world answer → published problem world ≡ Some answer
published_to problem world answer p =
    ap (published_at problem) p.registered.is ∙ ap (option_map (answer_of problem)) (root_has_to p.registered.view p.result p.registered.has) ∙ ap Some p.shown

-- what is published is published ever after, unchanged
pub published_stays : {problem : Problem} {now end : World} → Run problem now end → (answer : Answer) → published problem now ≡ Some answer → published problem end ≡ Some answer
published_stays {problem} {now} {end} run answer e =
    let p = published_from problem now answer e in
    published_to problem end answer (record { result = p.result; registered = run_root run p.result p.registered; shown = p.shown })

-- ---- a cover was counted

abbrev pub IsCounted : Problem → ChildResult → Type 0
IsCounted problem (Cover options) = IsExactCover problem (is_in options)
IsCounted problem Empty = Unit {0}

-- what stands at a place of a changed list comes from that place
pub changed_back : (f : Entry → Entry) (xs : List Entry) (k j : ℕ) (d : Entry) → slice_get (change_at f xs k) j ≡ Some d
    → ((c : Entry) × (slice_get xs j ≡ Some c) × (d ≡ f c) × (j ≡ k)) ⊎ ((j ≢ k) × (slice_get xs j ≡ Some d))
changed_back f [] k j d e = absurd (none-some d e)
changed_back f (x ∷ xs) zero zero d e = inl (x, refl, sym (same_Some (f x) d e), refl)
changed_back f (x ∷ xs) zero (suc j) d e = inr (omega arith, e)
changed_back f (x ∷ xs) (suc k) zero d e = inr (omega arith, e)
changed_back f (x ∷ xs) (suc k) (suc j) d e =
    ⊎_elim
    (λ (h : (c : Entry) × (slice_get xs j ≡ Some c) × (d ≡ f c) × (j ≡ k)). inl (h.0, h.1, h.2, ap suc h.3))
    (λ (h : (j ≢ k) × (slice_get xs j ≡ Some d)). inr (omega (arith, h.0), h.1))
    (changed_back f xs k j d e)

pub mapped_back : (f : Entry → Entry) (xs : List Entry) (k : ℕ) (d : Entry) → slice_get (map f xs) k ≡ Some d → (c : Entry) × (slice_get xs k ≡ Some c) × (d ≡ f c)
mapped_back f [] k d e = absurd (none-some d e)
mapped_back f (x ∷ xs) zero d e = (x, refl, sym (same_Some (f x) d e))
mapped_back f (x ∷ xs) (suc k) d e = mapped_back f xs k d e

redone_or_same : (b : Bool) (c : Entry) (r : ChildResult) → (cond b (redone c) c).status ≡ Done r → c.status ≡ Done r
redone_or_same true c r e = absurd (cc)
redone_or_same false c r e = e

-- a redo makes nothing done
pub redo_if_done : (lost : Site → Bool) (c : Entry) (s : Status) (r : ChildResult) → (redo_if lost c s).status ≡ Done r → c.status ≡ Done r
redo_if_done lost c (Out thief) r e = redone_or_same (lost thief) c r e
redo_if_done lost c Ready r e = e
redo_if_done lost c _ r e = e

module _ (problem : Problem) where
  counted_same : (old new : View) → new ≡ old → ((r : ChildResult) → RootHas old r → IsCounted problem r) → (r : ChildResult) → RootHas new r → IsCounted problem r
  counted_same old new e h r has = h r (subst (λ v. RootHas v r) e has)

  -- a status that is not done counts for nothing
  counted_change : (old : View) (f : Entry → Entry) (k : ℕ) (own : List Entry) → ((r : ChildResult) → RootHas old r → IsCounted problem r) → ((c : Entry) (r : ChildResult) → (f c).status ≡ Done r → IsCounted problem r)
      → own ≡ change_at f old.own k → (r : ChildResult) (d : Entry) → slice_get own 0 ≡ Some d → d.status ≡ Done r → IsCounted problem r
  counted_change old f k own h new e r d at done =
      ⊎_elim
      (λ (b : (c : Entry) × (slice_get old.own 0 ≡ Some c) × (d ≡ f c) × (0 ≡ k)). new b.0 r (ap (λ x. x.status) (sym b.2) ∙ done))
      (λ (b : (0 ≢ k) × (slice_get old.own 0 ≡ Some d)). h r (record { entry = d; is = b.1; done = done }))
      (changed_back f old.own k 0 d (ap (λ l. slice_get l 0) (sym e) ∙ at))

  counted_steal : (old : View) (from : Site) (out : List Packet) (new : View) → Denies old from out new ⊎ Gives old from out new
      → ((r : ChildResult) → RootHas old r → IsCounted problem r) → (r : ChildResult) → RootHas new r → IsCounted problem r
  counted_steal old from out new s h r has =
      ⊎_elim
      (λ (d : Denies old from out new). counted_same old new d.after h r has)
      (λ (g : Gives old from out new).
      kept_by_gives (λ v. (q : ChildResult) → RootHas v q → IsCounted problem q) from
      (λ view serial entry is ready t q had. counted_change view (with_status (Out from)) serial (change_at (with_status (Out from)) view.own serial) t (λ c x e. absurd (cc)) refl q had.entry had.is had.done)
      old out new g h r has)
      s

  counted_root_steal : (o : Option ChildResult) (old : View) (from : Site) (out : List Packet) (new : View) → RootSteal o old from out new
      → ((r : ChildResult) → RootHas old r → IsCounted problem r) → (r : ChildResult) → RootHas new r → IsCounted problem r
  counted_root_steal (Some result) old from out new s h r has = counted_same old new s.0 h r has
  counted_root_steal None old from out new s h r has = counted_steal old from out new s h r has

  acceptable_counts : (r : ChildResult) → IsAcceptable problem r → IsCounted problem r
  acceptable_counts (Cover options) h = h.1
  acceptable_counts Empty h = tt

  counted_answer : (old : View) (from : Site) (serial attempt : ℕ) (result : ChildResult) (j : Judgement) (out : List Packet) (new : View) → RootAnswers problem old from serial attempt result j out new
      → ((r : ChildResult) → RootHas old r → IsCounted problem r) → (r : ChildResult) → RootHas new r → IsCounted problem r
  counted_answer old from serial attempt result Enters out new a h r has =
      counted_change old (with_status (Done result)) serial new.own h
      (λ c q e. let same : result ≡ q = cc in subst (IsCounted problem) same (acceptable_counts result a.0))
      (ap (λ v. v.own) a.1) r has.entry has.is has.done
  counted_answer old from serial attempt result (Holds held) out new a h r has = counted_same old new a.0 h r has
  counted_answer old from serial attempt result (Refuses cause) out new a h r has = counted_same old new a.0 h r has

  counted_hears : (old : View) (from : Site) (body : Body) (reply : Reply) (out : List Packet) (new : View) → RootHears problem old from body reply out new
      → ((r : ChildResult) → RootHas old r → IsCounted problem r) → (r : ChildResult) → RootHas new r → IsCounted problem r
  counted_hears old from Hello reply out new s h r has =
      let m = mapped_back _ old.own 0 has.entry (ap (λ v. slice_get v.own 0) (sym s.1.after) ∙ has.is) in
      h r (record { entry = m.0; is = m.1; done = redo_if_done _ m.0 m.0.status r (ap (λ x. x.status) (sym m.2) ∙ has.done) })
  counted_hears old from Steal reply out new s h r has = counted_root_steal (root_result old) old from out new s.1 h r has
  counted_hears old from (Return serial attempt result) reply out new s h r has = counted_answer old from serial attempt result s.1.0 out new s.1.2 h r has
  counted_hears old from _ reply out new s h r has = absurd s

  pub registry_counted : (old : View) (event : Event) (reply : Reply) (out : List Packet) (new : View) → RegistryStep problem old event reply out new
      → ((r : ChildResult) → RootHas old r → IsCounted problem r) → (r : ChildResult) → RootHas new r → IsCounted problem r
  registry_counted old (Redo serial) reply out new s h r has =
      counted_change old redone serial new.own h (λ c q e. absurd (cc)) (ap (λ v. v.own) (after_redo old serial out new s.1)) r has.entry has.is has.done
  registry_counted old (Deliver packet) reply out new s h r has = counted_hears old packet.from packet.body reply out new s.2 h r has
  registry_counted old Again reply out new s h r has = counted_same old new s.1 h r has
  registry_counted old _ reply out new s h r has = absurd s

-- in a world, whatever result the registry's root has
abbrev pub AllCounted' : Problem → World → Type 0
AllCounted' problem world = (r : ChildResult) → Registered world r → IsCounted problem r

step_counted : (problem : Problem) (old : World) (event : WorldMove) (new : World) → WorldStep problem old event new → AllCounted' problem old → AllCounted' problem new
step_counted problem old (Acts zero event) new s h r reg =
    ⊎_elim
    (λ (e : (0 ≡ 0) × (s.after ≡ reg.view)).
    registry_counted problem s.before event s.reply s.out s.after s.step
    (λ q has. h q (record { view = s.before; is = s.is; has = has })) r (subst (λ v. RootHas v r) (sym e.1) reg.has))
    (λ (e : (0 ≢ 0) × (slice_get old.sites 0 ≡ Some reg.view)). absurd (e.0 refl))
    (set_get old.sites 0 s.after 0 reg.view (ap (λ w. slice_get w.sites 0) (sym s.world) ∙ reg.is))
step_counted problem old (Acts (suc node) event) new s h r reg =
    ⊎_elim
    (λ (e : (0 ≡ suc node) × (s.after ≡ reg.view)). absurd (omega (arith, e.0)))
    (λ (e : (0 ≢ suc node) × (slice_get old.sites 0 ≡ Some reg.view)). h r (record { view = reg.view; is = e.1; has = reg.has }))
    (set_get old.sites (suc node) s.after 0 reg.view (ap (λ w. slice_get w.sites 0) (sym s.world) ∙ reg.is))
step_counted problem old (Restarts node incarnation limit) new s h r reg =
    ⊎_elim
    (λ (e : (0 ≡ node) × (_ ≡ reg.view)). absurd (omega (arith, e.0, s.not_registry)))
    (λ (e : (0 ≢ node) × (slice_get old.sites 0 ≡ Some reg.view)). h r (record { view = reg.view; is = e.1; has = reg.has }))
    (set_get old.sites node _ 0 reg.view (ap (λ w. slice_get w.sites 0) (sym s.world) ∙ reg.is))

pub run_counted : {problem : Problem} {start end : World} → Run problem start end → AllCounted' problem start → AllCounted' problem end
run_counted stay h = h
run_counted {problem} (go {old = old} {new = new} run event step) h = step_counted problem old event new step (run_counted run h)

-- ---- the same options in file order are the same set

-- a cover in file order is the same set
pub in_order_counts : (problem : Problem) (options : List ℕ) → IsExactCover problem (is_in options) → IsExactCover problem (is_in (in_order problem options))
in_order_counts problem options h = subst (IsExactCover problem) (λ i o. sym (same o) i) h
  where
    same : (o : ℕ) → is_in (in_order problem options) o ≡ is_in options o
    same o = in_order_same problem options o (h.in_range o)

shown_counts : (problem : Problem) (r : ChildResult) (options : List ℕ) → answer_of problem r ≡ answers.Cover options → IsCounted problem r → IsExactCover problem (is_in options)
shown_counts problem (Cover chosen) options e h =
    let same : in_order problem chosen ≡ options = cc in
    subst (λ l. IsExactCover problem (is_in l)) same (in_order_counts problem chosen h)
shown_counts problem Empty options e h = absurd (cc)

opening_counted : (problem : Problem) (nodes : ℕ) (limits : List ℕ) → AllCounted' problem (opening_world nodes limits)
opening_counted problem nodes limits r reg =
    let v : opening_registry nodes ≡ reg.view = same_Some _ _ reg.is in
    let c : root_entry ≡ reg.has.entry = same_Some _ _ (ap (λ w. slice_get w.own 0) v ∙ reg.has.is) in
    let e : Ready ≡ Done r = ap (λ x. x.status) c ∙ reg.has.done in
    cc

-- every cover that is published is an exact cover
pub published_counts : {problem : Problem} (nodes : ℕ) (limits : List ℕ) {end : World} → Run problem (opening_world nodes limits) end
    → (options : List ℕ) → published problem end ≡ Some (answers.Cover options) → IsExactCover problem (is_in options)
published_counts {problem} nodes limits {end} run options e =
    let p = published_from problem end (answers.Cover options) e in
    shown_counts problem p.result options p.shown (run_counted run (opening_counted problem nodes limits) p.result p.registered)

-- Over every run: an empty hand is a barren prefix, at each site and in each packet, so no cover is lost.
use Rattle.std.proofs.Common.{◌≡◌, ◌≢◌, ℕ, zero, suc, Bool, List, [], ◌∷◌, count_by, Some, slice_get, slice_set, refl, sym, ap, ◌∙◌, subst, inl, ⊎_elim, arith}
use Rattle.std.proofs.lemmas.Option.{same_Some, none-some}
use Rattle.cover_problem.specs.Problem.{Problem}
use Rattle.cover_problem.specs.ExactCover.{IsExactCover}
use Rattle.cover_problem.specs.Prefix.{IsBarren, extends}
use Rattle.spawn_frame.specs.declared.site.Site.{Site}
use Rattle.spawn_frame.specs.declared.site.ChildName.{ChildName}
use Rattle.spawn_frame.specs.declared.unit.Unit.{Unit as WorkUnit}
use Rattle.spawn_frame.specs.declared.unit.Unit.TheVariants.{Own, Guest}
use Rattle.spawn_frame.specs.declared.child_result.ChildResult.{ChildResult}
use Rattle.spawn_frame.specs.declared.child_result.ChildResult.TheVariants.{Cover, Empty}
use Rattle.spawn_frame.specs.declared.status.Status.TheVariants.{Ready, Split, Done, Finished}
use Rattle.spawn_frame.specs.Units.{Entry, GuestEntry}
use Rattle.node_core.specs.SiteView.{View, unit_in}
use Rattle.spawn_frame.specs.Frames.{frame}
use Rattle.packet_wire.specs.declared.packet.Body.{Body}
use Rattle.packet_wire.specs.declared.packet.Body.TheVariants.{Hello, Return}
use Rattle.packet_wire.specs.declared.packet.Packet.{Packet}
use Rattle.node_core.specs.declared.event.Event.{Event}
use Rattle.node_core.specs.declared.event.Event.TheVariants.{Take, Deliver}
use Rattle.node_core.specs.declared.reply.Reply.{Reply}
use Rattle.cover_world.specs.Worlds.{World, WorldMove, Acts, Restarts, SiteStep, WorldStep, WasSent, Run, stay, go, opening_world, opening_nodes, opening_node, opening_registry}
use Rattle.cover_world.specs.Safety.{HasChild, published}
use Rattle.cover_world.specs.Coverage.{IsCovered, AllCovered}
use Rattle.cover_world.proofs.Guests.{Every, every_append, every_at, every_map}
use Rattle.cover_world.proofs.Honest.{Honest, IsSo, Returns, here, there, site_honest}
use Rattle.cover_world.proofs.Later.{get_set, set_get, site_grows}
use Rattle.cover_world.proofs.Published.{published_from}
use Rattle.cover_problem.proofs.Extending.{split_count}
use Rattle.cover_problem.proofs.Sets.{count_map}
use Rattle.cover_problem.specs.declared.answer.Answer.TheVariants.{NoCover}
use Rattle.cover_world.proofs.Sound.{Sound, IsSplitUp, FrameOf, Hopes}
use Rattle.cover_world.proofs.Told.{had_now, had_both, same_prefix, HadBy, GuestTrue, Told, told}
use Rattle.cover_world.proofs.Walk.{ResultHopes, BodyHopes, EventHopes, site_sound}
use Rattle.spawn_frame.specs.Tables.{root_entry}
use Rattle.root_registry.specs.Published.{answer_of}

-- what a returned result says of the child that it names
abbrev pub ReturnTrue : {problem : Problem} {start end : World} → Run problem start end → ChildName → ChildResult → Type 0
ReturnTrue {problem = problem} run name Empty = HadBy run name (λ c. IsBarren problem c.prefix)
ReturnTrue run name (Cover options) = Unit {0}

abbrev pub ReturnsTrue : {problem : Problem} {start end : World} → Run problem start end → Site → Body → Type 0
ReturnsTrue run to (Return serial attempt result) = ReturnTrue run (record { site = to; serial = serial }) result
ReturnsTrue run to _ = Unit {0}

pub record Hopeful {problem : Problem} {start end : World} (run : Run problem start end) : Type 0 where
  pub sites : (node : ℕ) (view : View) → slice_get end.sites node ≡ Some view → Sound problem view
  pub packets : Every (λ p. ReturnsTrue run p.to p.body) end.sent

-- a guest that returns a result
record ReturningGuest (P : GuestEntry → Type 0) (name : ChildName) (result : ChildResult) : Type 0 where
  guest : GuestEntry
  so : P guest
  named : guest.name ≡ name
  finished : guest.entry.status ≡ Finished result

returning : (P : GuestEntry → Type 0) (name : ChildName) (result : ChildResult) (gs : List GuestEntry) → Returns name result gs → Every P gs → ReturningGuest P name result
returning P name result gs (here {g = g} n s) h = record { guest = g; so = h.0; named = n; finished = s }
returning P name result gs (there {gs = rest} r) h = returning P name result rest r h.1

both_every : (P Q : GuestEntry → Type 0) (gs : List GuestEntry) → Every P gs → Every Q gs → Every (λ g. P g × Q g) gs
both_every P Q [] h k = tt
both_every P Q (g ∷ gs) h k = ((h.0, k.0), both_every P Q gs h.1 k.1)

-- ---- one step

module _ (problem : Problem) (start old new : World) (run : Run problem start old) (event : WorldMove) (step : WorldStep problem old event new) where
  result_more : (name : ChildName) (r : ChildResult) → ReturnTrue run name r → ReturnTrue (go run event step) name r
  result_more name Empty h = record { entry = h.entry; had = inl h.had; so = h.so }
  result_more name (Cover options) h = tt

  body_more : (to : Site) (body : Body) → ReturnsTrue run to body → ReturnsTrue (go run event step) to body
  body_more to (Return serial attempt result) h = result_more (record { site = to; serial = serial }) result h
  body_more to Hello h = tt
  body_more to _ h = tt

  result_true : (view : View) (name : ChildName) (r : ChildResult) → Every (GuestTrue (go run event step)) view.guests → Sound problem view → Returns name r view.guests → ReturnTrue (go run event step) name r
  result_true view name (Cover options) t s r = tt
  result_true view name Empty t s r =
      let g = returning (λ g. GuestTrue (go run event step) g × Hopes problem g) name Empty view.guests r (both_every (GuestTrue (go run event step)) (Hopes problem) view.guests t s.guests) in
      let h = g.so.0.prefix in
      subst (λ n. HadBy (go run event step) n (λ c. IsBarren problem c.prefix)) g.named
      (record { entry = h.entry; had = h.had; so = subst (IsBarren problem) (sym h.so) (g.so.1 g.finished) })

  body_true : (view : View) (to : Site) (body : Body) → Every (GuestTrue (go run event step)) view.guests → Sound problem view → IsSo view to body → ReturnsTrue (go run event step) to body
  body_true view to (Return serial attempt result) t s h = result_true view (record { site = to; serial = serial }) result t s h
  body_true view to Hello t s h = tt
  body_true view to _ t s h = tt

-- a result that arrives is one of a child that the site has
result_hopes : {problem : Problem} {start old : World} (run : Run problem start old) (view : View) (node serial : ℕ) (r : ChildResult) → slice_get old.sites node ≡ Some view → view.site.node ≡ node
    → ReturnTrue run (record { site = view.site; serial = serial }) r → ResultHopes problem view.own serial r
result_hopes run view node serial (Cover options) at seat h = tt
result_hopes {problem} {start} {old} run view node serial Empty at seat h = λ c is.
    let name : ChildName = record { site = view.site; serial = serial } in
    let has : HasChild old name c = record { view = view; is = ap (slice_get old.sites) seat ∙ at; site = refl; child = is } in
    subst (IsBarren problem) (same_prefix h.entry c (had_both run name h.entry c h.had (had_now run name c has))) h.so

body_hopes : {problem : Problem} {start old : World} (run : Run problem start old) (view : View) (node : ℕ) (to : Site) (body : Body) → slice_get old.sites node ≡ Some view → view.site.node ≡ node
    → to ≡ view.site → ReturnsTrue run to body → BodyHopes problem view.own body
body_hopes {problem} run view node to (Return serial attempt result) at seat e h =
    result_hopes run view node serial result at seat (subst (λ s. ReturnTrue run (record { site = s; serial = serial }) result) e h)
body_hopes run view node to Hello at seat e h = tt
body_hopes run view node to _ at seat e h = tt

delivered_here : (node : ℕ) (problem : Problem) (old : View) (packet : Packet) (reply : Reply) (out : List Packet) (new : View) → SiteStep node problem old (Deliver packet) reply out new → packet.to ≡ old.site
delivered_here zero problem old packet reply out new h = h.0
delivered_here (suc node) problem old packet reply out new h = h.1.0

event_hopes : {problem : Problem} {start old : World} (run : Run problem start old) (view : View) (node : ℕ) (event : Event) (reply : Reply) (out : List Packet) (new : View)
    → slice_get old.sites node ≡ Some view → view.site.node ≡ node → SiteStep node problem view event reply out new → WasSent old.sent event → Every (λ p. ReturnsTrue run p.to p.body) old.sent → EventHopes problem view.own event
event_hopes {problem} {start} {old} run view node (Deliver packet) reply out new at seat step sent all =
    body_hopes run view node packet.to packet.body at seat (delivered_here node problem view packet reply out new step) (every_at (λ p. ReturnsTrue run p.to p.body) old.sent sent.0 packet all sent.1)
event_hopes run view node Take reply out new at seat step sent all = tt
event_hopes run view node _ reply out new at seat step sent all = tt

set_here : (xs : List View) (i : ℕ) (v x : View) → slice_get xs i ≡ Some x → slice_get (slice_set xs i v) i ≡ Some v
set_here xs i v x e = ⊎_elim (λ (h : (i ≡ i) × (slice_get (slice_set xs i v) i ≡ Some v)). h.1) (λ (h : (i ≢ i) × (slice_get (slice_set xs i v) i ≡ Some x)). absurd (h.0 refl)) (get_set xs i v i x e)

-- a site that knows nothing yet
pub fresh_sound : (problem : Problem) (nodes node incarnation limit : ℕ) → Sound problem (opening_node nodes node incarnation limit)
fresh_sound problem nodes node incarnation limit = record {
  unmade = λ u at. refl;
  frames = λ u e at. none u e at;
  hopeless = λ k c at done. absurd (none-some c at);
  guests = tt;
}
  where
    none : (u : WorkUnit) (e : Entry) → unit_in (opening_node nodes node incarnation limit) u ≡ Some e → FrameOf problem [] u e.prefix e.status
    none (Own k) e at = absurd (none-some e at)
    none (Guest m b) e at = absurd (none-some e at)

hopeful_step : {problem : Problem} {start old new : World} (run : Run problem start old) (event : WorldMove) (step : WorldStep problem old event new) → Told run → Told (go run event step) → Hopeful run → Hopeful (go run event step)
hopeful_step {problem} {start} {old} {new} run (Acts node event) step was is hopeful =
    let moved = go run (Acts node event) step in
    let sites : slice_get new.sites ≡ slice_get (slice_set old.sites node step.after) = ap (λ w. slice_get w.sites) step.world in
    let at_node : slice_get new.sites node ≡ Some step.after = ap (λ f. f node) sites ∙ set_here old.sites node step.after step.before step.is in
    let hopes = event_hopes run step.before node event step.reply step.out step.after step.is (was.seats node step.before step.is) step.step step.was_sent hopeful.packets in
    let sound : Sound problem step.after = site_sound problem node step.before event step.reply step.out step.after hopes step.step (hopeful.sites node step.before step.is) in
    record {
      sites = λ n view at. ⊎_elim
          (λ (e : (n ≡ node) × (step.after ≡ view)). subst (Sound problem) e.1 sound)
          (λ (e : (n ≢ node) × (slice_get old.sites n ≡ Some view)). hopeful.sites n view e.1)
          (set_get old.sites node step.after n view (sym (ap (λ f. f n) sites) ∙ at));
      packets =
          subst (λ w. Every (λ p. ReturnsTrue moved p.to p.body) w.sent) (sym step.world)
          (every_append (λ p. ReturnsTrue moved p.to p.body) old.sent step.out
          (every_map (λ p. ReturnsTrue run p.to p.body) (λ p. ReturnsTrue moved p.to p.body) old.sent (λ p h. body_more problem start old new run (Acts node event) step p.to p.body h) hopeful.packets)
          (every_map (Honest step.after) (λ p. ReturnsTrue moved p.to p.body) step.out
          (λ p h. body_true problem start old new run (Acts node event) step step.after p.to p.body (is.guests node step.after at_node) sound h.1)
          (site_honest node problem step.before event step.reply step.out step.after step.step)));
    }
hopeful_step {problem} {start} {old} {new} run (Restarts node incarnation limit) step was is hopeful =
    let moved = go run (Restarts node incarnation limit) step in
    let fresh = opening_node step.before.nodes node incarnation limit in
    let sites : slice_get new.sites ≡ slice_get (slice_set old.sites node fresh) = ap (λ w. slice_get w.sites) step.world in
    record {
      sites = λ n view at. ⊎_elim
          (λ (e : (n ≡ node) × (fresh ≡ view)). subst (Sound problem) e.1 (fresh_sound problem step.before.nodes node incarnation limit))
          (λ (e : (n ≢ node) × (slice_get old.sites n ≡ Some view)). hopeful.sites n view e.1)
          (set_get old.sites node fresh n view (sym (ap (λ f. f n) sites) ∙ at));
      packets =
          subst (λ w. Every (λ p. ReturnsTrue moved p.to p.body) w.sent) (sym step.world)
          (every_map (λ p. ReturnsTrue run p.to p.body) (λ p. ReturnsTrue moved p.to p.body) old.sent (λ p h. body_more problem start old new run (Restarts node incarnation limit) step p.to p.body h) hopeful.packets);
    }

-- ---- the opening world

registry_start : (problem : Problem) (nodes : ℕ) → Sound problem (opening_registry nodes)
registry_start problem nodes = record {
  unmade = λ u at. refl;
  frames = frames;
  hopeless = hopeless;
  guests = tt;
}
  where
    frames : (u : WorkUnit) (e : Entry) → unit_in (opening_registry nodes) u ≡ Some e → FrameOf problem (opening_registry nodes).own u e.prefix e.status
    frames (Own zero) e at = subst (λ x. FrameOf problem (opening_registry nodes).own (Own 0) x.prefix x.status) (same_Some root_entry e at) refl
    frames (Own (suc k)) e at = absurd (none-some e at)
    frames (Guest m b) e at = absurd (none-some e at)

    hopeless : (k : ℕ) (c : Entry) → slice_get (opening_registry nodes).own k ≡ Some c → c.status ≡ Done Empty → IsBarren problem c.prefix
    hopeless zero c at done = absurd (let e : Ready ≡ Done Empty = ap (λ x. x.status) (same_Some root_entry c at) ∙ done in cc)
    hopeless (suc k) c at done = absurd (none-some c at)

nodes_sound : (problem : Problem) (nodes node : ℕ) (limits : List ℕ) (k : ℕ) (view : View) → slice_get (opening_nodes nodes node limits) k ≡ Some view → Sound problem view
nodes_sound problem nodes node [] k view at = absurd (none-some view at)
nodes_sound problem nodes node (limit ∷ limits) zero view at = subst (Sound problem) (same_Some _ view at) (fresh_sound problem nodes node 1 limit)
nodes_sound problem nodes node (limit ∷ limits) (suc k) view at = nodes_sound problem nodes (suc node) limits k view at

world_sound : (problem : Problem) (nodes : ℕ) (limits : List ℕ) (k : ℕ) (view : View) → slice_get (opening_world nodes limits).sites k ≡ Some view → Sound problem view
world_sound problem nodes limits zero view at = subst (Sound problem) (same_Some _ view at) (registry_start problem nodes)
world_sound problem nodes limits (suc k) view at = nodes_sound problem nodes 1 limits k view at

pub hopeful : {problem : Problem} (nodes : ℕ) (limits : List ℕ) {end : World} (run : Run problem (opening_world nodes limits) end) → Hopeful run
hopeful {problem} nodes limits stay = record { sites = world_sound problem nodes limits; packets = tt }
hopeful nodes limits (go run event step) = hopeful_step run event step (told nodes limits run) (told nodes limits (go run event step)) (hopeful nodes limits run)

-- ---- the root keeps the empty prefix

record RootThere (view : View) : Type 0 where
  entry : Entry
  is : slice_get view.own 0 ≡ Some entry
  all : entry.prefix ≡ []

root_step : (problem : Problem) (old : World) (event : WorldMove) (new : World) → WorldStep problem old event new
    → ((view : View) → slice_get old.sites 0 ≡ Some view → RootThere view) → (view : View) → slice_get new.sites 0 ≡ Some view → RootThere view
root_step problem old (Acts zero event) new s h view at =
    ⊎_elim
    (λ (e : (0 ≡ 0) × (s.after ≡ view)).
    let was = h s.before s.is in
    let d = (site_grows 0 problem s.before event s.reply s.out s.after s.step).own.each 0 was.entry was.is in
    subst RootThere e.1 (record { entry = d.now; is = d.is; all = d.grows.prefix ∙ was.all }))
    (λ (e : (0 ≢ 0) × (slice_get old.sites 0 ≡ Some view)). absurd (e.0 refl))
    (set_get old.sites 0 s.after 0 view (ap (λ w. slice_get w.sites 0) (sym s.world) ∙ at))
root_step problem old (Acts (suc node) event) new s h view at =
    ⊎_elim
    (λ (e : (0 ≡ suc node) × (s.after ≡ view)). absurd (omega (arith, e.0)))
    (λ (e : (0 ≢ suc node) × (slice_get old.sites 0 ≡ Some view)). h view e.1)
    (set_get old.sites (suc node) s.after 0 view (ap (λ w. slice_get w.sites 0) (sym s.world) ∙ at))
root_step problem old (Restarts node incarnation limit) new s h view at =
    ⊎_elim
    (λ (e : (0 ≡ node) × (_ ≡ view)). absurd (omega (arith, e.0, s.not_registry)))
    (λ (e : (0 ≢ node) × (slice_get old.sites 0 ≡ Some view)). h view e.1)
    (set_get old.sites node _ 0 view (ap (λ w. slice_get w.sites 0) (sym s.world) ∙ at))

root_there : {problem : Problem} (nodes : ℕ) (limits : List ℕ) {end : World} → Run problem (opening_world nodes limits) end → (view : View) → slice_get end.sites 0 ≡ Some view → RootThere view
root_there nodes limits stay view at =
    let v : opening_registry nodes ≡ view = same_Some (opening_registry nodes) view at in
    record { entry = root_entry; is = ap (λ w. slice_get w.own 0) (sym v); all = refl }
root_there {problem} nodes limits (go {old = old} {new = new} run event step) view at = root_step problem old event new step (root_there nodes limits run) view at

-- ---- none is published only where there is none

shown_empty : (problem : Problem) (r : ChildResult) → answer_of problem r ≡ NoCover → r ≡ Empty
shown_empty problem Empty e = refl
shown_empty problem (Cover options) e = absurd (cc)

pub none_published : {problem : Problem} (nodes : ℕ) (limits : List ℕ) {end : World} → Run problem (opening_world nodes limits) end
    → published problem end ≡ Some NoCover → (chosen : ℕ → Bool) → IsExactCover problem chosen → ⊥
none_published {problem} nodes limits {end} run e chosen cover =
    let p = published_from problem end NoCover e in
    let view = p.registered.view in
    let c = p.registered.has.entry in
    let done : c.status ≡ Done Empty = p.registered.has.done ∙ ap Done (shown_empty problem p.result p.shown) in
    let there = root_there nodes limits run view p.registered.is in
    let same : there.entry ≡ c = same_Some there.entry c (sym there.is ∙ p.registered.has.is) in
    let barren : IsBarren problem c.prefix = ((hopeful nodes limits run).sites 0 view p.registered.is).hopeless 0 c p.registered.has.is done in
    let all : c.prefix ≡ [] = ap (λ x. x.prefix) (sym same) ∙ there.all in
    barren chosen cover (ap (extends chosen) all)

-- ---- coverage

sound_covers : (problem : Problem) (view : View) → Sound problem view → (unit : WorkUnit) (entry : Entry) → unit_in view unit ≡ Some entry → entry.status ≡ Split → IsCovered problem view unit entry
sound_covers problem view sound unit entry is split =
    let up : IsSplitUp problem view.own unit entry.prefix = subst (λ t. FrameOf problem view.own unit entry.prefix t) split (sound.frames unit entry is) in
    record {
      one = λ chosen cover ext.
          sym (count_map (extends chosen) (λ c. c.prefix) (frame unit view.own))
          ∙ ap (count_by (extends chosen)) up.children_are
          ∙ split_count problem chosen cover entry.prefix up.item up.branch ext;
      going = λ chosen c cover child ext.
          ((λ done. sound.hopeless child.serial c child.is done chosen cover ext), (λ aborted. up.going child.serial c child.is child.parent aborted));
    }

pub all_covered : {problem : Problem} (nodes : ℕ) (limits : List ℕ) {end : World} → Run problem (opening_world nodes limits) end → AllCovered problem end
all_covered {problem} nodes limits {end} run node view unit entry at is split = sound_covers problem view ((hopeful nodes limits run).sites node view at) unit entry is split

-- One result for each name: every answer and every settlement is what the owner held.
use Rattle.std.proofs.Common.{◌≡◌, ◌≢◌, ◌⊎◌, ℕ, zero, suc, ◌+◌, List, [], ◌∷◌, Some, slice_get, slice_set, refl, sym, ap, ◌∙◌, subst, inl, inr, ⊎_elim, arith}
use Rattle.std.proofs.lemmas.Option.{same_Some, none-some}
use Rattle.cover_problem.specs.Problem.{Problem}
use Rattle.spawn_frame.specs.declared.site.Site.{Site}
use Rattle.spawn_frame.specs.declared.site.ChildName.{ChildName}
use Rattle.spawn_frame.specs.declared.child_result.ChildResult.{ChildResult}
use Rattle.spawn_frame.specs.declared.status.Status.TheVariants.{Done, Settled}
use Rattle.spawn_frame.specs.Gifts.{name_of}
use Rattle.spawn_frame.specs.Units.{Entry, GuestEntry}
use Rattle.node_core.specs.SiteView.{View}
use Rattle.packet_wire.specs.Gifts.{gifts_in}
use Rattle.packet_wire.specs.declared.packet.Body.{Body}
use Rattle.packet_wire.specs.declared.packet.Body.TheVariants.{Hello, Give, GiveMany, Accept}
use Rattle.packet_wire.specs.declared.packet.Packet.{Packet}
use Rattle.node_core.specs.declared.event.Event.{Event}
use Rattle.node_core.specs.declared.event.Event.TheVariants.{Take, Deliver}
use Rattle.cover_world.specs.Worlds.{World, WorldMove, Acts, Restarts, WorldStep, WasSent, Run, stay, go, SomeTime, opening_world, opening_nodes, opening_node}
use Rattle.cover_world.specs.Safety.{HasChild, OwnerAccepts, ThiefAccepts, Accepts, OneResult}
use Rattle.cover_world.proofs.Grows.{Grows, grows_same, grows_then}
use Rattle.cover_world.proofs.Guests.{Every, every_append, every_at, every_map, every_guest}
use Rattle.cover_world.proofs.Honest.{GiftSo, Honest, IsSo, site_honest}
use Rattle.cover_world.proofs.Kept.{AnyStatus, BodyShows, EventShows, GiftShows, site_kept}
use Rattle.cover_world.proofs.Later.{get_set, set_get, Later, Gone, same_child, not_gone, step_keeps, gone_stays, site_grows}
use Rattle.spawn_frame.specs.declared.gift.Gift.{Gift}

-- at some time the site of this name had this child
abbrev pub Had : {problem : Problem} {start end : World} → Run problem start end → ChildName → Entry → Type 0
Had run name c = SomeTime (λ world. HasChild world name c) run

pub had_now : {problem : Problem} {start end : World} (run : Run problem start end) (name : ChildName) (c : Entry) → HasChild end name c → Had run name c
had_now stay name c h = h
had_now (go run event step) name c h = inr h

pub later_step : (problem : Problem) (old new : World) (event : WorldMove) → WorldStep problem old event new → (name : ChildName) (c : Entry) → Later old name c ⊎ Gone old name → Later new name c ⊎ Gone new name
later_step problem old new event step name c l =
    ⊎_elim
    (λ (l : Later old name c).
    ⊎_elim
    (λ (m : Later new name l.now). inl (record { now = m.now; has = m.has; grows = grows_then c l.now m.now l.grows m.grows }))
    (λ (g : Gone new name). inr g)
    (step_keeps problem old event new step name l.now l.has))
    (λ (g : Gone old name). inr (gone_stays problem old event new step name g))
    l

pub had_later : {problem : Problem} {start end : World} (run : Run problem start end) (name : ChildName) (c : Entry) → Had run name c → Later end name c ⊎ Gone end name
had_later stay name c h = inl (record { now = c; has = h; grows = grows_same c })
had_later {problem} (go {old = old} {new = new} run event step) name c h =
    ⊎_elim
    (λ (was : Had run name c). later_step problem old new event step name c (had_later run name c was))
    (λ (is : HasChild new name c). inl (record { now = c; has = is; grows = grows_same c }))
    h

-- what a child was it has grown to be
had_before : (world : World) (name : ChildName) (c d : Entry) → Later world name c ⊎ Gone world name → HasChild world name d → Grows c d
had_before world name c d l h =
    ⊎_elim
    (λ (l : Later world name c). subst (λ x. Grows c x) (same_child world name l.now d l.has h) l.grows)
    (λ (g : Gone world name). absurd (not_gone world name d h g))
    l

pub had_both : {problem : Problem} {start end : World} (run : Run problem start end) (name : ChildName) (c d : Entry) → Had run name c → Had run name d → Grows c d ⊎ Grows d c
had_both {start = start} stay name c d g h = inl (subst (λ x. Grows c x) (same_child start name c d g h) (grows_same c))
had_both {problem} (go {old = old} {new = new} run event step) name c d g h =
    ⊎_elim
    (λ (gw : Had run name c). ⊎_elim
    (λ (hw : Had run name d). had_both run name c d gw hw)
    (λ (hn : HasChild new name d). inl (had_before new name c d (later_step problem old new event step name c (had_later run name c gw)) hn))
    h)
    (λ (gn : HasChild new name c). ⊎_elim
    (λ (hw : Had run name d). inr (had_before new name d c (later_step problem old new event step name d (had_later run name d hw)) gn))
    (λ (hn : HasChild new name d). inl (subst (λ x. Grows c x) (same_child new name c d gn hn) (grows_same c)))
    h)
    g

pub same_result : (c d : Entry) (r q : ChildResult) → Grows c d ⊎ Grows d c → c.status ≡ Done r → d.status ≡ Done q → r ≡ q
same_result c d r q g e f =
    ⊎_elim
    (λ (g : Grows c d). let h : Done r ≡ Done q = sym (g.done r e) ∙ f in cc)
    (λ (g : Grows d c). let h : Done r ≡ Done q = sym e ∙ g.done q f in cc)
    g

pub same_prefix : (c d : Entry) → Grows c d ⊎ Grows d c → c.prefix ≡ d.prefix
same_prefix c d g = ⊎_elim (λ (g : Grows c d). sym g.prefix) (λ (g : Grows d c). g.prefix) g

-- ---- what all guests and all packets say

pub record HadBy {problem : Problem} {start end : World} (run : Run problem start end) (name : ChildName) (P : Entry → Type 0) : Type 0 where
  pub entry : Entry
  pub had : Had run name entry
  pub so : P entry

pub record GuestTrue {problem : Problem} {start end : World} (run : Run problem start end) (g : GuestEntry) : Type 0 where
  pub prefix : HadBy run g.name (λ c. c.prefix ≡ g.entry.prefix)
  pub settled : (r : ChildResult) → g.entry.status ≡ Settled r → HadBy run g.name (λ c. c.status ≡ Done r)

-- a child that was given had this prefix
abbrev pub GiftTrue : {problem : Problem} {start end : World} → Run problem start end → Site → Gift → Type 0
GiftTrue run from gift = HadBy run (name_of from gift) (λ c. c.prefix ≡ gift.prefix)

abbrev pub BodyTrue : {problem : Problem} {start end : World} → Run problem start end → Site → Body → Type 0
BodyTrue run from (Give serial attempt prefix) = Every (GiftTrue run from) (gifts_in (Give serial attempt prefix))
BodyTrue run from (GiveMany prefix siblings) = Every (GiftTrue run from) (gifts_in (GiveMany prefix siblings))
BodyTrue run from (Accept serial attempt result) = HadBy run (record { site = from; serial = serial }) (λ c. c.status ≡ Done result)
BodyTrue run from _ = Unit {0}

abbrev pub PacketTrue : {problem : Problem} {start end : World} → Run problem start end → Packet → Type 0
PacketTrue run p = BodyTrue run p.from p.body

pub record Told {problem : Problem} {start end : World} (run : Run problem start end) : Type 0 where
  pub packets : Every (PacketTrue run) end.sent
  pub guests : (node : ℕ) (view : View) → slice_get end.sites node ≡ Some view → Every (GuestTrue run) view.guests
  pub seats : (node : ℕ) (view : View) → slice_get end.sites node ≡ Some view → view.site.node ≡ node

-- ---- one step

module _ (problem : Problem) (start old new : World) (run : Run problem start old) (event : WorldMove) (step : WorldStep problem old event new) where
  had_more : (name : ChildName) (P : Entry → Type 0) → HadBy run name P → HadBy (go run event step) name P
  had_more name P h = record { entry = h.entry; had = inl h.had; so = h.so }

  guest_more : (g : GuestEntry) → GuestTrue run g → GuestTrue (go run event step) g
  guest_more g h = record { prefix = had_more g.name _ h.prefix; settled = λ r e. had_more g.name _ (h.settled r e) }

  gifts_more : (from : Site) (gifts : List Gift) → Every (GiftTrue run from) gifts → Every (GiftTrue (go run event step) from) gifts
  gifts_more from gifts h = every_map (GiftTrue run from) (GiftTrue (go run event step) from) gifts (λ g t. had_more (name_of from g) _ t) h

  body_more : (from : Site) (body : Body) → BodyTrue run from body → BodyTrue (go run event step) from body
  body_more from (Give serial attempt prefix) h = gifts_more from (gifts_in (Give serial attempt prefix)) h
  body_more from (GiveMany prefix siblings) h = gifts_more from (gifts_in (GiveMany prefix siblings)) h
  body_more from (Accept serial attempt result) h = had_more _ _ h
  body_more from Hello h = tt
  body_more from _ h = tt

  any_status : AnyStatus (GuestTrue (go run event step))
  any_status name entry s u h = record { prefix = h.prefix; settled = λ r e. absurd (u r e) }

  gifts_show : (from : Site) (gifts : List Gift) → Every (GiftTrue run from) gifts → Every (GiftShows (GuestTrue (go run event step)) from) gifts
  gifts_show from gifts h =
      every_map (GiftTrue run from) (GiftShows (GuestTrue (go run event step)) from) gifts (λ g t. record { prefix = had_more (name_of from g) _ t; settled = λ r e. absurd (cc) }) h

  body_shows : (from : Site) (body : Body) → BodyTrue run from body → BodyShows (GuestTrue (go run event step)) from body
  body_shows from (Accept serial attempt result) h = λ entry g. record {
    prefix = g.prefix;
    settled = λ r e. let same : result ≡ r = cc in subst (λ q. HadBy (go run event step) (record { site = from; serial = serial }) (λ c. c.status ≡ Done q)) same (had_more _ _ h);
  }
  body_shows from (Give serial attempt prefix) h = gifts_show from (gifts_in (Give serial attempt prefix)) h
  body_shows from (GiveMany prefix siblings) h = gifts_show from (gifts_in (GiveMany prefix siblings)) h
  body_shows from Hello h = tt
  body_shows from _ h = tt

  event_shows : (e : Event) → Every (PacketTrue run) old.sent → WasSent old.sent e → EventShows (GuestTrue (go run event step)) e
  event_shows (Deliver packet) all sent = body_shows packet.from packet.body (every_at (PacketTrue run) old.sent sent.0 packet all sent.1)
  event_shows Take all sent = tt
  event_shows _ all sent = tt

  gifts_true : (view : View) (node : ℕ) (from : Site) (gifts : List Gift) → slice_get new.sites node ≡ Some view → view.site.node ≡ node → from ≡ view.site → Every (GiftSo view) gifts
      → Every (GiftTrue (go run event step) from) gifts
  gifts_true view node from gifts at seat e h =
      every_map (GiftSo view) (GiftTrue (go run event step) from) gifts
      (λ g s. record {
        entry = s.entry;
        had = inr (record { view = view; is = ap (slice_get new.sites) (ap (λ s. s.node) e ∙ seat) ∙ at; site = sym e; child = s.is });
        so = s.so;
      }) h

  -- what is put out is so
  body_true : (view : View) (node : ℕ) (from to : Site) (body : Body) → slice_get new.sites node ≡ Some view → view.site.node ≡ node → from ≡ view.site → IsSo view to body → BodyTrue (go run event step) from body
  body_true view node from to (Give serial attempt prefix) at seat e h = gifts_true view node from (gifts_in (Give serial attempt prefix)) at seat e h
  body_true view node from to (GiveMany prefix siblings) at seat e h = gifts_true view node from (gifts_in (GiveMany prefix siblings)) at seat e h
  body_true view node from to (Accept serial attempt result) at seat e h = record {
    entry = h.entry;
    had = inr (record { view = view; is = ap (slice_get new.sites) (ap (λ s. s.node) e ∙ seat) ∙ at; site = sym e; child = h.is });
    so = h.so;
  }
  body_true view node from to Hello at seat e h = tt
  body_true view node from to _ at seat e h = tt

told_step : {problem : Problem} {start old new : World} (run : Run problem start old) (event : WorldMove) (step : WorldStep problem old event new) → Told run → Told (go run event step)
told_step {problem} {start} {old} {new} run (Acts node event) step told =
    let moved = go run (Acts node event) step in
    let sites : slice_get new.sites ≡ slice_get (slice_set old.sites node step.after) = ap (λ w. slice_get w.sites) step.world in
    let g = site_grows node problem step.before event step.reply step.out step.after step.step in
    let seat : step.after.site.node ≡ node = ap (λ s. s.node) g.site ∙ told.seats node step.before step.is in
    let here : slice_get new.sites node ≡ Some step.after = ap (λ f. f node) sites ∙ set_here old.sites node step.after step.before step.is in
    record {
      packets =
          subst (λ w. Every (PacketTrue moved) w.sent) (sym step.world)
          (every_append (PacketTrue moved) old.sent step.out
          (every_map (PacketTrue run) (PacketTrue moved) old.sent (λ p h. body_more problem start old new run (Acts node event) step p.from p.body h) told.packets)
          (every_map (Honest step.after) (PacketTrue moved) step.out (λ p h. body_true problem start old new run (Acts node event) step step.after node p.from p.to p.body here seat h.0 h.1)
          (site_honest node problem step.before event step.reply step.out step.after step.step)));
      guests = λ n view at. ⊎_elim
          (λ (e : (n ≡ node) × (step.after ≡ view)).
          subst (λ v. Every (GuestTrue moved) v.guests) e.1
          (site_kept (GuestTrue moved) (any_status problem start old new run (Acts node event) step) node problem step.before event step.reply step.out step.after
          (event_shows problem start old new run (Acts node event) step event told.packets step.was_sent) step.step
          (every_map (GuestTrue run) (GuestTrue moved) step.before.guests (λ g h. guest_more problem start old new run (Acts node event) step g h) (told.guests node step.before step.is))))
          (λ (e : (n ≢ node) × (slice_get old.sites n ≡ Some view)).
          every_map (GuestTrue run) (GuestTrue moved) view.guests (λ g h. guest_more problem start old new run (Acts node event) step g h) (told.guests n view e.1))
          (set_get old.sites node step.after n view (sym (ap (λ f. f n) sites) ∙ at));
      seats = λ n view at. ⊎_elim
          (λ (e : (n ≡ node) × (step.after ≡ view)). ap (λ v. v.site.node) (sym e.1) ∙ seat ∙ sym e.0)
          (λ (e : (n ≢ node) × (slice_get old.sites n ≡ Some view)). told.seats n view e.1)
          (set_get old.sites node step.after n view (sym (ap (λ f. f n) sites) ∙ at));
    }
  where
    set_here : (xs : List View) (i : ℕ) (v x : View) → slice_get xs i ≡ Some x → slice_get (slice_set xs i v) i ≡ Some v
    set_here xs i v x e = ⊎_elim (λ (h : (i ≡ i) × (slice_get (slice_set xs i v) i ≡ Some v)). h.1) (λ (h : (i ≢ i) × (slice_get (slice_set xs i v) i ≡ Some x)). absurd (h.0 refl)) (get_set xs i v i x e)
told_step {problem} {start} {old} {new} run (Restarts node incarnation limit) step told =
    let moved = go run (Restarts node incarnation limit) step in
    let fresh = opening_node step.before.nodes node incarnation limit in
    let sites : slice_get new.sites ≡ slice_get (slice_set old.sites node fresh) = ap (λ w. slice_get w.sites) step.world in
    record {
      packets =
          subst (λ w. Every (PacketTrue moved) w.sent) (sym step.world)
          (every_map (PacketTrue run) (PacketTrue moved) old.sent (λ p h. body_more problem start old new run (Restarts node incarnation limit) step p.from p.body h) told.packets);
      guests = λ n view at. ⊎_elim
          (λ (e : (n ≡ node) × (fresh ≡ view)). subst (λ v. Every (GuestTrue moved) v.guests) e.1 tt)
          (λ (e : (n ≢ node) × (slice_get old.sites n ≡ Some view)).
          every_map (GuestTrue run) (GuestTrue moved) view.guests (λ g h. guest_more problem start old new run (Restarts node incarnation limit) step g h) (told.guests n view e.1))
          (set_get old.sites node fresh n view (sym (ap (λ f. f n) sites) ∙ at));
      seats = λ n view at. ⊎_elim
          (λ (e : (n ≡ node) × (fresh ≡ view)). ap (λ v. v.site.node) (sym e.1) ∙ sym e.0)
          (λ (e : (n ≢ node) × (slice_get old.sites n ≡ Some view)). told.seats n view e.1)
          (set_get old.sites node fresh n view (sym (ap (λ f. f n) sites) ∙ at));
    }

-- ---- the opening world

nodes_seat : (nodes node : ℕ) (limits : List ℕ) (k : ℕ) (view : View) → slice_get (opening_nodes nodes node limits) k ≡ Some view → (view.guests ≡ []) × (view.site.node ≡ node + k)
nodes_seat nodes node [] k view e = absurd (none-some view e)
nodes_seat nodes node (limit ∷ limits) zero view e =
    let v = same_Some _ view e in
    (ap (λ x. x.guests) (sym v), ap (λ x. x.site.node) (sym v) ∙ omega arith)
nodes_seat nodes node (limit ∷ limits) (suc k) view e =
    let h = nodes_seat nodes (suc node) limits k view e in
    (h.0, omega (arith, h.1))

world_seat : (nodes : ℕ) (limits : List ℕ) (k : ℕ) (view : View) → slice_get (opening_world nodes limits).sites k ≡ Some view → (view.guests ≡ []) × (view.site.node ≡ k)
world_seat nodes limits zero view e = let v = same_Some _ view e in (ap (λ x. x.guests) (sym v), ap (λ x. x.site.node) (sym v))
world_seat nodes limits (suc k) view e = let h = nodes_seat nodes 1 limits k view e in (h.0, omega (arith, h.1))

pub told : {problem : Problem} (nodes : ℕ) (limits : List ℕ) {end : World} (run : Run problem (opening_world nodes limits) end) → Told run
told {problem} nodes limits stay = record {
  packets = tt;
  guests = λ n view at. subst (λ gs. Every (GuestTrue {problem = problem} {start = opening_world nodes limits} {end = opening_world nodes limits} stay) gs) (sym (world_seat nodes limits n view at).0) tt;
  seats = λ n view at. (world_seat nodes limits n view at).1;
}
told nodes limits (go run event step) = told_step run event step (told nodes limits run)

-- ---- accepted results

accepts_now : {problem : Problem} {start end : World} (run : Run problem start end) → Told run → (name : ChildName) (r : ChildResult) → Accepts name r end → HadBy run name (λ c. c.status ≡ Done r)
accepts_now {end = end} run told name r =
    ⊎_elim
    (λ (o : OwnerAccepts end name r). record { entry = o.entry; had = had_now run name o.entry o.has; so = o.done })
    (λ (t : ThiefAccepts end name r).
    let f = every_guest (GuestTrue run) t.has.view.guests name t.has.attempt t.entry (told.guests t.has.node t.has.view t.has.is) t.has.guest in
    f.holds.settled r t.settled)

pub accepted_was_held : {problem : Problem} (nodes : ℕ) (limits : List ℕ) {end : World} (run : Run problem (opening_world nodes limits) end) → (name : ChildName) (r : ChildResult) → SomeTime (Accepts name r) run → HadBy run name (λ c. c.status ≡ Done r)
accepted_was_held nodes limits stay name r a = accepts_now stay (told nodes limits stay) name r a
accepted_was_held nodes limits (go {new = new} run event step) name r a =
    ⊎_elim
    (λ (was : SomeTime (Accepts name r) run). had_more _ _ _ _ run event step name _ (accepted_was_held nodes limits run name r was))
    (λ (is : Accepts name r new). accepts_now (go run event step) (told nodes limits (go run event step)) name r is)
    a

pub one_result : {problem : Problem} (nodes : ℕ) (limits : List ℕ) {end : World} (run : Run problem (opening_world nodes limits) end) → OneResult run
one_result nodes limits run name r s a b =
    let c = accepted_was_held nodes limits run name r a in
    let d = accepted_was_held nodes limits run name s b in
    same_result c.entry d.entry r s (had_both run name c.entry d.entry c.had d.had) c.so d.so

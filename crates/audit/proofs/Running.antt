-- A merge of books is a run: node by node the world holds what the books have come to.
use Rattle.std.proofs.Common.{◌≡◌, ◌≢◌, ◌⊎◌, ℕ, zero, suc, ◌<◌, List, [], ◌∷◌, ◌++◌, Some, slice_get, slice_set, refl, sym, ap, ◌∙◌, subst, ⊎_elim, arith}
use Rattle.std.proofs.lemmas.Bool.{cases_eq, cases_order}
use Rattle.std.proofs.lemmas.Option.{same_Some}
use Rattle.cover_problem.specs.Problem.{Problem}
use Rattle.cover_world.specs.Worlds.{Acts, Restarts, Run, SiteActs, SiteRestarts, SiteStep, WasSent, World, go, stay}
use Rattle.node_core.specs.SiteView.{View, opening_view}
use Rattle.node_core.specs.declared.event.Event.{Event}
use Rattle.node_core.specs.declared.reply.Reply.{Reply}
use Rattle.packet_wire.specs.declared.packet.Packet.{Packet}
use Rattle.audit.proofs.Merging.{all_at, apart_set, AreApart, put_out, put_out_more, was_sent}
use Rattle.audit.proofs.Setting.{get_set, set_get, set_here}
use Rattle.run_book.specs.Books.{Book, LeadsTo}
use Rattle.audit.specs.Checked.{Plays, acts, begins, entry_of, nothing}
use Rattle.run_book.specs.Entries.{Entry}
use Rattle.run_book.specs.Merges.{follows, IsUsedUp, MergesTo, none_yet, SiteEntry}
use Rattle.run_book.specs.Sites.{StepAt}
use Rattle.spawn_frame.specs.declared.site.Site.{Site}
use Rattle.steal_return.specs.Ledger.{opening_ledger}

-- how a book's rest stands to the view that its node holds: it goes on from there, it is used up, or its site is yet to begin
pub data Stands (problem : Problem) (nodes : ℕ) (view : View) (site : Site) (entries : List Entry) (limit : ℕ) (last : View) : Type 0 where
  current : view.site ≡ site → LeadsTo site.node problem view entries last → Stands problem nodes view site entries limit last
  past : 0 < site.node → entries ≡ [] → Stands problem nodes view site entries limit last
  future : 0 < site.node → view.site.incarnation < site.incarnation
      → LeadsTo site.node problem (opening_view (opening_ledger site nodes limit)) entries last → Stands problem nodes view site entries limit last

pub record Seated (problem : Problem) (nodes : ℕ) (limit : ℕ) (last : View) (world : World) (site : Site) (entries : List Entry) : Type 0 where
  pub view : View
  pub is : slice_get world.sites site.node ≡ Some view
  pub stands : Stands problem nodes view site entries limit last

pub record Keeps (problem : Problem) (nodes : ℕ) (limits : ℕ → ℕ) (lasts : ℕ → View) (world : World) (left : List Book) (merged : List SiteEntry) : Type 0 where
  pub sent : world.sent ≡ put_out merged
  pub seats : (n : ℕ) (view : View) → slice_get world.sites n ≡ Some view → (view.site.node ≡ n) × (view.nodes ≡ nodes)
  pub apart : AreApart left
  pub each : (k : ℕ) (book : Book) → slice_get left k ≡ Some book → Seated problem nodes (limits k) (lasts k) world book.site book.entries

pub record Reaches (problem : Problem) (nodes : ℕ) (limits : ℕ → ℕ) (lasts : ℕ → View) (start : World) (left : List Book) (merged : List SiteEntry) : Type 0 where
  pub world : World
  pub run : Run problem start world
  pub plays : Plays problem start world run merged
  pub keeps : Keeps problem nodes limits lasts world left merged

-- the site's node holds its view, from which the rest of its book leads on, once it has restarted if it must
pub record Ready (problem : Problem) (nodes : ℕ) (limits : ℕ → ℕ) (lasts : ℕ → View) (start : World) (left : List Book) (merged : List SiteEntry) (k : ℕ) (site : Site) (entries : List Entry) : Type 0 where
  pub world : World
  pub run : Run problem start world
  pub plays : (event : Event) (new : World) (step : SiteActs problem world site.node event new)
      → Plays problem start new (go run (Acts site.node event) step) (merged ++ entry_of site.node event step ∷ [])
  pub keeps : Keeps problem nodes limits lasts world left merged
  pub view : View
  pub is : slice_get world.sites site.node ≡ Some view
  pub site_is : view.site ≡ site
  pub leads : LeadsTo site.node problem view entries (lasts k)

site_by : (s t : Site) → s.node ≡ t.node → s.incarnation ≡ t.incarnation → s ≡ t
site_by s t n i = λ j. record { node = n j; incarnation = i j }

world_step : (n : ℕ) (problem : Problem) (old : View) (event : Event) (reply : Reply) (out : List Packet) (new : View)
    → StepAt n problem old event reply out new → SiteStep n problem old event reply out new
world_step zero problem old event reply out new s = s
world_step (suc n) problem old event reply out new s = s

-- a step of a site keeps which site it is and how many nodes it knows of
pub record SitesStay : Type 0 where
  pub site : (node : ℕ) (problem : Problem) (old new : View) (event : Event) (reply : Reply) (out : List Packet) → SiteStep node problem old event reply out new
      → new.site ≡ old.site
  pub nodes : (node : ℕ) (problem : Problem) (old new : View) (event : Event) (reply : Reply) (out : List Packet) → SiteStep node problem old event reply out new
      → new.nodes ≡ old.nodes

module _ (stay_so : SitesStay) (problem : Problem) (nodes : ℕ) (limits : ℕ → ℕ) (lasts : ℕ → View) (start : World) where
  -- ---- a site restarts

  -- another book of the node whose next incarnation begins
  left_behind : (names : ℕ) (view : View) (site other : Site) (entries : List Entry) (limit : ℕ) (last : View) → other.node ≡ site.node → view.site.incarnation < site.incarnation
      → (other.incarnation < site.incarnation → entries ≡ []) → other ≢ site → 0 < site.node
      → Stands problem nodes view other entries limit last
      → Stands problem nodes (opening_view (opening_ledger site nodes names)) other entries limit last
  left_behind names view site other entries limit last n l turn o p (current e r) = past (omega (arith, n, p)) (turn (subst (λ s. s.incarnation < site.incarnation) e l))
  left_behind names view site other entries limit last n l turn o p (past q e) = past q e
  left_behind names view site other entries limit last n l turn o p (future q m r) =
      ⊎_elim
      (λ (e : other.incarnation ≡ site.incarnation). absurd (o (site_by other site n e)))
      (λ (h : (other.incarnation < site.incarnation) ⊎ (site.incarnation < other.incarnation)).
      ⊎_elim
      (λ (h : other.incarnation < site.incarnation). past q (turn h))
      (λ (h : site.incarnation < other.incarnation). future q h r)
      h)
      (cases_order other.incarnation site.incarnation)

  begins_anew : (left : List Book) (merged : List SiteEntry) → (r : Reaches problem nodes limits lasts start left merged)
      → (k : ℕ) (site : Site) (entries : List Entry) → slice_get left k ≡ Some (record { site = site; entries = entries })
      → ((j : ℕ) (b : Book) → slice_get left j ≡ Some b → IsUsedUp site b)
      → (view : View) → slice_get r.world.sites site.node ≡ Some view → 0 < site.node → view.site.incarnation < site.incarnation
      → LeadsTo site.node problem (opening_view (opening_ledger site nodes (limits k))) entries (lasts k)
      → Ready problem nodes limits lasts start left merged k site entries
  begins_anew left merged r k site entries at turn view is p less leads =
      let fresh : View = opening_view (opening_ledger site nodes (limits k)) in
      let new : World = record { sites = slice_set r.world.sites site.node fresh; sent = r.world.sent } in
      let nodes_is : view.nodes ≡ nodes = (r.keeps.seats site.node view is).1 in
      let here : slice_get (slice_set r.world.sites site.node fresh) site.node ≡ Some fresh = set_here r.world.sites site.node fresh view is in
      let restart : SiteRestarts r.world site.node site.incarnation (limits k) new = record {
        before = view;
        is = is;
        not_registry = p;
        greater = less;
        world = λ i. record { sites = slice_set r.world.sites site.node (opening_view (opening_ledger site (sym nodes_is i) (limits k))); sent = r.world.sent };
      } in
      record {
        world = new;
        run = go r.run (Restarts site.node site.incarnation (limits k)) restart;
        plays = λ event later step. begins new later r.run merged r.plays site.node site.incarnation (limits k) restart event step;
        keeps = record {
          sent = r.keeps.sent;
          seats = λ n v e. ⊎_elim
              (λ (h : (n ≡ site.node) × (fresh ≡ v)). (ap (λ x. x.site.node) (sym h.1) ∙ sym h.0, ap (λ x. x.nodes) (sym h.1)))
              (λ (h : (n ≢ site.node) × (slice_get r.world.sites n ≡ Some v)). r.keeps.seats n v h.1)
              (set_get r.world.sites site.node fresh n v e);
          apart = r.keeps.apart;
          each = λ j b e. ⊎_elim
              (λ (same : j ≡ k).
              let b_is : b ≡ record { site = site; entries = entries } = same_Some b _ (sym e ∙ ap (slice_get left) same ∙ at) in
              subst (λ i. Seated problem nodes (limits i) (lasts i) new b.site b.entries) (sym same)
              (subst (λ x. Seated problem nodes (limits k) (lasts k) new x.site x.entries) (sym b_is)
              (record { view = fresh; is = here; stands = current refl leads })))
              (λ (other : j ≡ k → ⊥).
              let s = r.keeps.each j b e in
              let apart : b.site ≢ site = λ q. other (r.keeps.apart j k b (record { site = site; entries = entries }) e at q) in
              ⊎_elim
              (λ (h : (b.site.node ≡ site.node) × (slice_get (slice_set r.world.sites site.node fresh) b.site.node ≡ Some fresh)).
              let v : s.view ≡ view = same_Some s.view view (sym s.is ∙ ap (slice_get r.world.sites) h.0 ∙ is) in
              record {
                view = fresh;
                is = h.1;
                stands =
                    left_behind (limits k) view site b.site b.entries (limits j) (lasts j) h.0 less (turn j b e h.0) apart p
                    (subst (λ x. Stands problem nodes x b.site b.entries (limits j) (lasts j)) v s.stands);
              })
              (λ (h : (b.site.node ≢ site.node) × (slice_get (slice_set r.world.sites site.node fresh) b.site.node ≡ Some s.view)).
              record { view = s.view; is = h.1; stands = s.stands })
              (get_set r.world.sites site.node fresh b.site.node s.view s.is))
              (cases_eq j k);
        };
        view = fresh;
        is = here;
        site_is = refl;
        leads = leads;
      }

  ready_by : (left : List Book) (merged : List SiteEntry) → (r : Reaches problem nodes limits lasts start left merged)
      → (k : ℕ) (site : Site) (entry : Entry) (later : List Entry) → slice_get left k ≡ Some (record { site = site; entries = entry ∷ later })
      → ((j : ℕ) (b : Book) → slice_get left j ≡ Some b → IsUsedUp site b)
      → (view : View) → slice_get r.world.sites site.node ≡ Some view → Stands problem nodes view site (entry ∷ later) (limits k) (lasts k)
      → Ready problem nodes limits lasts start left merged k site (entry ∷ later)
  ready_by left merged r k site entry later at turn view is (current e leads) =
      record {
        world = r.world;
        run = r.run;
        plays = λ event new step. acts new r.run merged r.plays site.node event step;
        keeps = r.keeps;
        view = view;
        is = is;
        site_is = e;
        leads = leads;
      }
  ready_by left merged r k site entry later at turn view is (past q e) = absurd (cc)
  ready_by left merged r k site entry later at turn view is (future p l leads) = begins_anew left merged r k site (entry ∷ later) at turn view is p l leads

  -- ---- a site acts

  goes_on : (view next : View) (other : Site) (entries : List Entry) (limit : ℕ) (last : View) → next.site ≡ view.site → view.site ≢ other
      → Stands problem nodes view other entries limit last → Stands problem nodes next other entries limit last
  goes_on view next other entries limit last s o (current e r) = absurd (o e)
  goes_on view next other entries limit last s o (past q e) = past q e
  goes_on view next other entries limit last s o (future q m r) = future q (subst (λ t. t.incarnation < other.incarnation) (sym s) m) r

  acts_on : (left : List Book) (merged : List SiteEntry) (k : ℕ) (site : Site) (entry : Entry) (later : List Entry)
      → slice_get left k ≡ Some (record { site = site; entries = entry ∷ later })
      → WasSent (put_out merged) entry.event → Ready problem nodes limits lasts start left merged k site (entry ∷ later)
      → Reaches problem nodes limits lasts start (slice_set left k (record { site = site; entries = later })) (merged ++ record { site = site; entry = entry } ∷ [])
  acts_on left merged k site entry later at sent r =
      let next : View = r.leads.0 in
      let new : World = record { sites = slice_set r.world.sites site.node next; sent = r.world.sent ++ entry.packets } in
      let step = world_step site.node problem r.view entry.event entry.reply entry.packets next r.leads.1.acts.steps in
      let same_site = stay_so.site site.node problem r.view next entry.event entry.reply entry.packets step in
      let same_nodes = stay_so.nodes site.node problem r.view next entry.event entry.reply entry.packets step in
      let before : Book = record { site = site; entries = entry ∷ later } in
      let after : Book = record { site = site; entries = later } in
      let moves : SiteActs problem r.world site.node entry.event new = record {
        before = r.view;
        reply = entry.reply;
        out = entry.packets;
        after = next;
        is = r.is;
        was_sent = subst (λ ps. WasSent ps entry.event) (sym r.keeps.sent) sent;
        step = step;
        world = refl;
      } in
      record {
        world = new;
        run = go r.run (Acts site.node entry.event) moves;
        plays =
            subst (λ s. Plays problem start new (go r.run (Acts site.node entry.event) moves) (merged ++ record { site = s; entry = entry } ∷ [])) r.site_is
            (r.plays entry.event new moves);
        keeps = record {
          sent = ap (λ ps. ps ++ entry.packets) r.keeps.sent ∙ sym (put_out_more merged (record { site = site; entry = entry }));
          seats = λ n v e. ⊎_elim
              (λ (h : (n ≡ site.node) × (next ≡ v)).
              let was = r.keeps.seats site.node r.view r.is in
              (ap (λ x. x.site.node) (sym h.1) ∙ ap (λ s. s.node) same_site ∙ was.0 ∙ sym h.0, ap (λ x. x.nodes) (sym h.1) ∙ same_nodes ∙ was.1))
              (λ (h : (n ≢ site.node) × (slice_get r.world.sites n ≡ Some v)). r.keeps.seats n v h.1)
              (set_get r.world.sites site.node next n v e);
          apart = apart_set left r.keeps.apart k site (entry ∷ later) later at;
          each = λ j b e. ⊎_elim
              (λ (h : (j ≡ k) × (after ≡ b)).
              subst (λ i. Seated problem nodes (limits i) (lasts i) new b.site b.entries) (sym h.0)
              (subst (λ x. Seated problem nodes (limits k) (lasts k) new x.site x.entries) h.1
              (record {
                view = next;
                is = set_here r.world.sites site.node next r.view r.is;
                stands = current (same_site ∙ r.site_is) r.leads.2;
              })))
              (λ (h : (j ≢ k) × (slice_get left j ≡ Some b)).
              let s = r.keeps.each j b h.1 in
              ⊎_elim
              (λ (g : (b.site.node ≡ site.node) × (slice_get (slice_set r.world.sites site.node next) b.site.node ≡ Some next)).
              let v : s.view ≡ r.view = same_Some s.view r.view (sym s.is ∙ ap (slice_get r.world.sites) g.0 ∙ r.is) in
              record {
                view = next;
                is = g.1;
                stands = goes_on r.view next b.site b.entries (limits j) (lasts j) same_site
                    (λ q. h.0 (r.keeps.apart j k b before h.1 at (sym q ∙ r.site_is)))
                    (subst (λ x. Stands problem nodes x b.site b.entries (limits j) (lasts j)) v s.stands);
              })
              (λ (g : (b.site.node ≢ site.node) × (slice_get (slice_set r.world.sites site.node next) b.site.node ≡ Some s.view)).
              record { view = s.view; is = g.1; stands = s.stands })
              (get_set r.world.sites site.node next b.site.node s.view s.is))
              (set_get left k after j b e);
        };
      }

  pub merge_runs : (books : List Book) (merged : List SiteEntry) (left : List Book) → Keeps problem nodes limits lasts start books [] → MergesTo books merged left
      → Reaches problem nodes limits lasts start left merged
  merge_runs books merged left keeps none_yet = record { world = start; run = stay; plays = nothing; keeps = keeps }
  merge_runs books merged left keeps (follows {merged = front} {left = old} m k next later f) =
      let r = merge_runs books front old keeps m in
      let s = r.keeps.each k (record { site = next.site; entries = next.entry ∷ later }) f.is in
      acts_on old front k next.site next.entry later f.is (was_sent front next.entry.event f.delivers)
      (ready_by old front r k next.site next.entry later f.is (λ j b e. all_at (IsUsedUp next.site) old f.earlier j b e) s.view s.is s.stands)

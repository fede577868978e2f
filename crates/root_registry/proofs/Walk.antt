-- Each step of the formed registry leaves it formed, and what is put out has a spelling.
use Rattle.std.proofs.Common.{◌≡◌, ◌⊎◌, ℕ, zero, suc, ◌+◌, ◌≤◌, Bool, true, false, ◌&&◌, cond, not, ◌==◌, List, [], ◌∷◌, ◌++◌, length, map, drop, option_map, Option, Some, None, slice_get, refl, sym, ap, subst, ◌∙◌, inl, inr, arith}
use Rattle.std.specs.List.{list_all}
use Rattle.std.proofs.lemmas.Bool.{and_from, and_parts, eq-eqb, eqb-false, ne_eqb, not-true, not_from_false}
use Rattle.std.proofs.lemmas.Option.{none-some, same_Some, slice_get-map}
use Rattle.cover_problem.specs.Problem.{Problem}
use Rattle.node_core.proofs.Each.{each_append, kept_changed, kept_mapped}
use Rattle.node_core.proofs.Knowing.{node_site}
use Rattle.node_core.proofs.Packets.{gives_told}
use Rattle.node_core.proofs.Telling.{IsWell, from_thief, packet_told, well_told}
use Rattle.node_core.proofs.Units.{redo_formed}
use Rattle.node_core.proofs.Walk.{Follows, answers_follow, few_names, follows, redo_follows, steal_follows}
use Rattle.node_core.specs.Arrivals.{Denies, Gives}
use Rattle.node_core.specs.Formed.{AllFormed, IsFormed, IsKnown, is_another, is_thief}
use Rattle.node_core.specs.Refusal.{IsFit}
use Rattle.node_core.specs.Requests.{gives_again}
use Rattle.node_core.specs.SiteView.{View, with_ledger}
use Rattle.node_core.specs.declared.event.Event.{Event}
use Rattle.node_core.specs.declared.event.Event.TheVariants.{Again, Ask, Deliver, Finish, Greet, Post, Redo, Take}
use Rattle.node_core.specs.declared.reply.Reply.{Reply}
use Rattle.packet_wire.specs.Kinds.{is_directed, kind_of}
use Rattle.packet_wire.specs.WellFormed.{is_body, is_child, is_counted, is_incarnation_of, is_node, is_result, is_site, is_well_formed}
use Rattle.packet_wire.specs.Gifts.{gifts_in}
use Rattle.packet_wire.specs.declared.packet.Body.{Body}
use Rattle.packet_wire.specs.declared.packet.Body.TheVariants as bodies
use Rattle.packet_wire.specs.declared.packet.Packet.{Packet}
use Rattle.root_registry.proofs.Raising.{OfNodes, members_told, of_nodes, raised_known}
use Rattle.root_registry.specs.Formed.{FormedRegistryStep, IsFormedRegistry, origin}
use Rattle.root_registry.specs.RegistryStep.{HelloStep, RegistryStep, RootAnswers, RootHears, RootSteal, if_done, is_earlier_incarnation, over_packets, root_result, to_each}
use Rattle.spawn_frame.specs.Units.{Entry, Table, change_at, redone, table_own, with_status}
use Rattle.spawn_frame.specs.declared.child_result.ChildResult.{ChildResult}
use Rattle.spawn_frame.specs.declared.site.Site.{Site}
use Rattle.spawn_frame.specs.declared.status.Status.{Status}
use Rattle.spawn_frame.specs.declared.status.Status.TheVariants.{Done, Out, Ready}
use Rattle.spawn_frame.specs.declared.unit.Unit.{Unit as WorkUnit}
use Rattle.steal_return.proofs.Gifts.{gives_keep}
use Rattle.steal_return.specs.Members.{redo_if, redo_lost}
use Rattle.steal_return.specs.Returns.{Enters, Holds, Judgement, Refuses, judged}

-- ---- packets to each node

module _ (from : Site) (body : Body) (is : is_site from ≡ true) (registry : from.node ≡ 0) (told : is_body body ≡ true)
    (directed : (to : ℕ) → is_directed (kind_of body) from.node to ≡ (from.node == 0)) where
  node_another : (node : ℕ) → 1 ≤ node → not (from.node == node) ≡ true
  node_another node some = not_from_false (from.node == node) (ne_eqb from.node node (omega (arith, some, registry)))

  one_each : (node incarnation : ℕ) → 1 ≤ node → node ≤ 16 → is_counted incarnation ≡ true
      → is_well_formed (record { from = from; to = record { node = node; incarnation = incarnation }; body = body }) ≡ true
  one_each node incarnation some most h =
      packet_told from (record { node = node; incarnation = incarnation }) body is
      (and_from (is_site (record { node = node; incarnation = incarnation })) (not (from.node == node)) (node_site node incarnation some most h) (node_another node some))
      (directed node ∙ eq-eqb from.node 0 registry) told

  each_told : (node : ℕ) (known : List ℕ) → 1 ≤ node → node + length known ≤ 17 → list_all is_counted known ≡ true → AllFormed (to_each from body node known)
  each_told node [] some most h = tt
  each_told node (k ∷ ks) some most h =
      let p = and_parts (is_counted k) (list_all is_counted ks) h in
      (one_each node k some (omega (arith, most)) p.0, each_told (suc node) ks (omega arith) (omega (arith, most)) p.1)

pub nodes_told : (from : Site) (body : Body) (nodes : ℕ) (incarnations : List ℕ) → is_site from ≡ true → from.node ≡ 0 → is_body body ≡ true → ((to : ℕ) → is_directed (kind_of body) from.node to ≡ (from.node == 0))
    → nodes ≤ 16 → OfNodes nodes incarnations → AllFormed (to_each from body 1 incarnations)
nodes_told from body nodes incarnations is registry told directed most h =
    let each = h.each in
    each_told from body is registry told directed 1 incarnations (omega arith) (omega (arith, each, most)) h.counted

-- ---- what stays of the root

redo_origin : (lost : Site → Bool) (c : Entry) (s : Status) → origin (redo_if lost c s) ≡ origin c
redo_origin lost c (Out thief) = by (lost thief)
  where
    by : (b : Bool) → origin (cond b (redone c) c) ≡ origin c
    by true = refl
    by false = refl
redo_origin lost c Ready = refl
redo_origin lost c _ = refl

-- What else a step of the registry leaves: the same root, and no guests.
pub record Remains (old new : View) : Type 0 where
  pub root : map origin new.own ≡ map origin old.own
  pub guests : new.guests ≡ old.guests

remains_as : (old mid new : View) → new ≡ mid → Remains old mid → Remains old new
remains_as old mid new e r = subst (Remains old) (sym e) r

itself : (old new : View) → new ≡ old → Remains old new
itself old new e = remains_as old old new e (record { root = refl; guests = refl })

gets_remains : (old : View) (serial : ℕ) (s : Status) → map origin (change_at (with_status s) old.own serial) ≡ map origin old.own
gets_remains old serial s = kept_changed origin (with_status s) (λ c. refl) old.own serial

-- the root is the one child
abbrev pub IsRoot : View → Type 0
IsRoot view = map origin view.own ≡ (None, []) ∷ []

-- so no child has a parent
parentless : (own : List Entry) → map origin own ≡ (None, []) ∷ [] → (k : ℕ) (c : Entry) → slice_get own k ≡ Some c → c.parent ≡ None
parentless own root k c at = by k (sym (ap (λ l. slice_get l k) root) ∙ slice_get-map origin own k ∙ ap (option_map origin) at)
  where
    alone : List (Option WorkUnit × List ℕ)
    alone = (None, []) ∷ []

    by : (j : ℕ) → slice_get alone j ≡ Some (origin c) → c.parent ≡ None
    by zero e = sym (ap (λ o. o.0) (same_Some (None, []) (origin c) e))
    by (suc j) e = absurd (none-some (origin c) e)

-- ---- steps

-- What a step of the registry leaves.
pub record Continues (problem : Problem) (old : View) (out : List Packet) (new : View) : Type 0 where
  pub follows_on : Follows problem old out new
  pub remains : Remains old new

module _ (problem : Problem) where
  hello_sends : (old : View) (known : List ℕ) → old.site.node ≡ 0 → IsFormed problem old → IsKnown old.nodes known → AllFormed (to_each old.site (bodies.Members (drop 1 known)) 1 (drop 1 known))
  hello_sends old known registry f k =
      let h = of_nodes old.nodes known k in
      nodes_told old.site (bodies.Members (drop 1 known)) old.nodes (drop 1 known) f.units.site registry (members_told old.nodes (drop 1 known) f.some f.most h) (λ to. refl) f.most h

  over_sends : (old : View) → old.site.node ≡ 0 → IsFormed problem old → AllFormed (over_packets old)
  over_sends old registry f = nodes_told old.site bodies.Over old.nodes (drop 1 old.known) f.units.site registry refl (λ to. refl) f.most (of_nodes old.nodes old.known f.known)

  hello_continues : (old : View) (from : Site) (out : List Packet) (new : View) → old.site.node ≡ 0 → 1 ≤ from.node → is_counted from.incarnation ≡ true → HelloStep old from out new → IsFormed problem old → Continues problem old out new
  hello_continues old from out new registry some counted h f =
      let known : IsKnown old.nodes h.known = subst (IsKnown old.nodes) (sym h.known_is) (raised_known old.nodes from.node from.incarnation old.known some counted f.known) in
      let table : Table = table_own old.table (redo_lost (is_earlier_incarnation from.node h.known) old.own) in
      let mid : View = with_ledger old (record { table = table; nodes = old.nodes; known = h.known }) in
      record {
        follows_on =
            follows problem old mid new (to_each old.site (bodies.Members (drop 1 h.known)) 1 (drop 1 h.known)) out h.after h.sends
            (record {
              lawful = f.lawful;
              some = f.some;
              most = f.most;
              within = f.within;
              known = known;
              units = redo_formed problem old.table (is_earlier_incarnation from.node h.known) h.redoable f.units;
            }) refl
            (hello_sends old h.known registry f known);
        remains = remains_as old mid new h.after (record {
          root = kept_mapped origin (λ c. redo_if (is_earlier_incarnation from.node h.known) c c.status) (λ c. redo_origin (is_earlier_incarnation from.node h.known) c c.status) old.own;
          guests = refl;
        });
      }

  steal_continues : (result : Option ChildResult) (old : View) (from : Site) (out : List Packet) (new : View) → old.site.node ≡ 0 → IsRoot old → is_thief old.site from ≡ true → RootSteal result old from out new → IsFormed problem old → Continues problem old out new
  steal_continues (Some result) old from out new registry root thief h f = record {
    follows_on =
        follows problem old old new (record { from = old.site; to = from; body = bodies.Over } ∷ []) out h.0 h.1 f refl
        (packet_told old.site from bodies.Over f.units.site (and_parts (is_another old.site from) (not (from.node == 0)) thief).0 (eq-eqb old.site.node 0 registry) refl, tt);
    remains = itself old new h.0;
  }
  steal_continues None old from out new registry root thief h f = record {
    follows_on = steal_follows problem old from out new thief (inr (parentless old.own root)) h f;
    remains = stolen h;
  }
    where
      stolen : Denies old from out new ⊎ Gives old from out new → Remains old new
      stolen (inl d) = itself old new d.after
      stolen (inr g) =
          remains_as old (with_ledger old g.ledger) new g.after
          (gives_keep (λ l. Remains old (with_ledger old l)) from (λ l serial entry is ready r. record { root = gets_remains (with_ledger old l) serial (Out from) ∙ r.root; guests = r.guests })
          g.parent (gifts_in g.body) old.ledger g.ledger g.each (record { root = refl; guests = refl }))

  answers_continue : (old : View) (from : Site) (serial attempt : ℕ) (result : ChildResult) (j : Judgement) (out : List Packet) (new : View) → old.site.node ≡ 0 → is_thief old.site from ≡ true
      → is_child serial attempt ≡ true → is_result result ≡ true → judged (slice_get old.own serial) from attempt ≡ j → RootAnswers problem old from serial attempt result j out new → IsFormed problem old → Continues problem old out new
  answers_continue old from serial attempt result Enters out new registry thief named told e a f =
      let first = answers_follow problem old from serial attempt result Enters (record { from = old.site; to = from; body = bodies.Accept serial attempt result } ∷ []) new thief named told e (a.1, refl) f in
      record {
        follows_on = record {
          formed = first.formed;
          site = first.site;
          packets =
              subst AllFormed (sym a.2)
              (each_append (λ p. is_well_formed p ≡ true) (record { from = old.site; to = from; body = bodies.Accept serial attempt result } ∷ []) (over_packets old) first.packets (over_sends old registry f));
        };
        remains = remains_as old _ new a.1 (record { root = gets_remains old serial (Done result); guests = refl });
      }
  answers_continue old from serial attempt result (Holds held) out new registry thief named told e a f = record {
    follows_on = answers_follow problem old from serial attempt result (Holds held) out new thief named told e a f;
    remains = itself old new a.0;
  }
  answers_continue old from serial attempt result (Refuses cause) out new registry thief named told e a f = record {
    follows_on = answers_follow problem old from serial attempt result (Refuses cause) out new thief named told e a f;
    remains = itself old new a.0;
  }

  -- a sender that greets is a node, in an incarnation that counts
  greeter_node : (from to : Site) → to.node ≡ 0 → (not (from.node == to.node) && (to.node == 0)) ≡ true → 1 ≤ from.node
  greeter_node from to registry routed =
      let other = eqb-false from.node to.node (not-true (from.node == to.node) (and_parts (not (from.node == to.node)) (to.node == 0) routed).0) in
      omega (arith, other, registry)

  greeter_counted : (from : Site) → is_site from ≡ true → is_counted from.incarnation ≡ true
  greeter_counted from is = (and_parts (is_counted from.incarnation) _ (and_parts (is_node from.node) (is_incarnation_of from.node from.incarnation) is).1).0

  hears_continue : (old : View) (from : Site) (body : Body) (reply : Reply) (out : List Packet) (new : View) → old.site.node ≡ 0 → IsRoot old → IsWell from old.site body → RootHears problem old from body reply out new → IsFormed problem old → Continues problem old out new
  hears_continue old from bodies.Hello reply out new registry root w h f =
      hello_continues old from out new registry (greeter_node from old.site registry w.routed) (greeter_counted from w.sender) h.1 f
  hears_continue old from bodies.Steal reply out new registry root w h f = steal_continues (root_result old) old from out new registry root (from_thief from old.site w.sender w.routed) h.1 f
  hears_continue old from (bodies.Return serial attempt result) reply out new registry root w h f =
      let told = and_parts (is_child serial attempt) (is_result result) w.told in
      answers_continue old from serial attempt result h.1.0 out new registry (from_thief from old.site w.sender w.routed) told.0 told.1 h.1.1 h.1.2 f
  hears_continue old from (bodies.Members incarnations) reply out new registry root w h f = absurd h
  hears_continue old from (bodies.Give serial attempt prefix) reply out new registry root w h f = absurd h
  hears_continue old from (bodies.GiveMany prefix siblings) reply out new registry root w h f = absurd h
  hears_continue old from bodies.NoWork reply out new registry root w h f = absurd h
  hears_continue old from (bodies.Accept serial attempt result) reply out new registry root w h f = absurd h
  hears_continue old from (bodies.Refuse serial attempt cause) reply out new registry root w h f = absurd h
  hears_continue old from (bodies.Abort serial attempt) reply out new registry root w h f = absurd h
  hears_continue old from bodies.Over reply out new registry root w h f = absurd h

  again_sends : (old : View) → old.site.node ≡ 0 → IsFormed problem old → AllFormed (gives_again old.site 0 old.own ++ if_done (root_result old) (over_packets old))
  again_sends old registry f =
      each_append (λ p. is_well_formed p ≡ true) (gives_again old.site 0 old.own) (if_done (root_result old) (over_packets old))
      (gives_told problem old.site f.lawful f.units.site 0 old.own (few_names problem old.table f.units) f.units.own) (overs (root_result old))
    where
      overs : (r : Option ChildResult) → AllFormed (if_done r (over_packets old))
      overs None = tt
      overs (Some result) = over_sends old registry f

  event_continues : (old : View) (event : Event) (reply : Reply) (out : List Packet) (new : View) → old.site.node ≡ 0 → IsRoot old → IsFit problem event → RegistryStep problem old event reply out new → IsFormed problem old → Continues problem old out new
  event_continues old (Redo serial) reply out new registry root fit h f = record {
    follows_on = redo_follows problem old serial out new h.1 f;
    remains = remains_as old _ new (h.1.after ∙ ap (with_ledger old) h.1.redoes.after) (record { root = kept_changed origin redone (λ c. refl) old.own serial; guests = refl });
  }
  event_continues old (Deliver packet) reply out new registry root fit h f = hears_continue old packet.from packet.body reply out new registry root (well_told packet old.site h.0 fit) h.2 f
  event_continues old Again reply out new registry root fit h f = record {
    follows_on = follows problem old old new (gives_again old.site 0 old.own ++ if_done (root_result old) (over_packets old)) out h.1 h.0 f refl (again_sends old registry f);
    remains = itself old new h.1;
  }
  event_continues old Take reply out new registry root fit h f = absurd h
  event_continues old (Post job finding) reply out new registry root fit h f = absurd h
  event_continues old (Finish unit) reply out new registry root fit h f = absurd h
  event_continues old (Ask victim) reply out new registry root fit h f = absurd h
  event_continues old Greet reply out new registry root fit h f = absurd h

  step_continues : (old new : View) (event : Event) (reply : Reply) (out : List Packet) → FormedRegistryStep problem old event reply out new → Continues problem old out new
  step_continues old new event reply out s = event_continues old event reply out new s.before.registry s.before.root s.fit s.step s.before.formed

  pub registry_kept : (old new : View) (event : Event) (reply : Reply) (out : List Packet) → FormedRegistryStep problem old event reply out new → IsFormedRegistry problem new
  registry_kept old new event reply out s =
      let after = step_continues old new event reply out s in
      record {
        formed = after.follows_on.formed;
        registry = ap (λ (x : Site). x.node) after.follows_on.site ∙ s.before.registry;
        root = after.remains.root ∙ s.before.root;
        no_guests = after.remains.guests ∙ s.before.no_guests;
      }

  pub registry_sends : (old new : View) (event : Event) (reply : Reply) (out : List Packet) → FormedRegistryStep problem old event reply out new → AllFormed out
  registry_sends old new event reply out s = (step_continues old new event reply out s).follows_on.packets

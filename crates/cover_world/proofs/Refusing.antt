-- An event of a world has a step exactly where nothing refuses it, since it is so of each of its sites.
use Rattle.std.proofs.Common.{◌≡◌, ℕ, zero, suc, ◌≤◌, Bool, true, false, ◌||◌, if◌then◌else◌, Option, Some, None, option_map, slice_get, slice_set, ◌++◌, refl, sym, ap, ◌∙◌, arith}
use Rattle.std.proofs.lemmas.Bool.{eqb-false, eqb-true, leb-false, leb-true}
use Rattle.std.proofs.lemmas.Option.{none-some}
use Rattle.std.specs.Option.{option_map_or}
use Rattle.cover_problem.specs.Problem.{IsProblem, Problem}
use Rattle.cover_world.specs.Moves.{IsWorldView, WorldActs, acting_refusal, delivery, meaning, move_refusal, names_limit, restart_refusal, searched, site_refusal, world_refusal}
use Rattle.cover_world.specs.Worlds.{Acts, Restarts, WasSent, World, WorldMove, WorldStep, opening_node}
use Rattle.cover_world.specs.declared.world_event.WorldEvent.{WorldEvent}
use Rattle.cover_world.specs.declared.world_event.WorldEvent.TheVariants as calls
use Rattle.cover_world.specs.declared.world_fault.WorldFault.{WorldFault}
use Rattle.cover_world.specs.declared.world_fault.WorldFault.TheVariants as faults
use Rattle.node_core.proofs.Each.{each_at}
use Rattle.node_core.specs.Refusal.{IsFit, IsNodeView, NodeActs, node_refusal}
use Rattle.node_core.specs.SiteView.{View}
use Rattle.node_core.specs.declared.act_fault.ActFault.{ActFault}
use Rattle.node_core.specs.declared.event.Event.{Event}
use Rattle.node_core.specs.declared.event.Event.TheVariants as events
use Rattle.packet_wire.specs.WellFormed.{is_well_formed}
use Rattle.packet_wire.specs.declared.packet.Packet.{Packet}
use Rattle.root_registry.specs.Refusal.{IsRegistryView, RegistryActs, registry_refusal}

-- where one of two tests would refuse, and none does, neither holds
neither : (a b : Bool) (fault : WorldFault) → (if a || b then Some fault else None) ≡ None → (a ≡ false) × (b ≡ false)
neither true b fault h = absurd (none-some fault (sym h))
neither false true fault h = absurd (none-some fault (sym h))
neither false false fault h = (refl, refl)

-- where neither holds, none is refused
unrefused_by : (a b : Bool) (fault : WorldFault) → (a ≡ true → ⊥) → (b ≡ true → ⊥) → (if a || b then Some fault else None) ≡ None
unrefused_by true b fault p q = absurd (p refl)
unrefused_by false true fault p q = absurd (q refl)
unrefused_by false false fault p q = refl

-- a site that would refuse makes the world refuse
site_none : (refusal : Option ActFault) → option_map faults.Core refusal ≡ None → refusal ≡ None
site_none None h = refl
site_none (Some fault) h = absurd (none-some (faults.Core fault) (sym h))

module _ (registry_unrefused : (problem : Problem) (view : View) (event : Event) → RegistryActs problem view event → registry_refusal problem view event ≡ None)
    (node_unrefused : (problem : Problem) (view : View) (event : Event) → NodeActs problem view event → node_refusal problem view event ≡ None) where
  site_unrefused : (problem : Problem) (old new : World) (node : ℕ) (event : Event) (step : WorldStep problem old (Acts node event) new)
      → site_refusal node problem step.before event ≡ None
  site_unrefused problem old new zero event step =
      registry_unrefused problem step.before event (record { reply = step.reply; out = step.out; new = step.after; step = step.step })
  site_unrefused problem old new (suc node) event step =
      node_unrefused problem step.before event (record { reply = step.reply; out = step.out; new = step.after; step = step.step })

  move_unrefused : (problem : Problem) (old new : World) (move : WorldMove) → WorldStep problem old move new → move_refusal problem old move ≡ None
  move_unrefused problem old new (Acts node event) step =
      ap (λ o. acting_refusal problem o node event) step.is ∙ ap (option_map faults.Core) (site_unrefused problem old new node event step)
  move_unrefused problem old new (Restarts node incarnation limit) step =
      ap (λ o. restart_refusal o node incarnation) step.is
      ∙ unrefused_by _ _ faults.OldIncarnation
      (λ e. let same : node ≡ 0 = eqb-true node 0 e in omega (arith, same, step.not_registry))
      (λ e. let below : incarnation ≤ step.before.site.incarnation = leb-true incarnation step.before.site.incarnation e in omega (arith, below, step.greater))

  pub unrefused : (problem : Problem) (old new : World) (event : WorldEvent) (move : WorldMove) → meaning problem old event ≡ Some move
      → WorldStep problem old move new → world_refusal problem old event ≡ None
  unrefused problem old new event move is step =
      ap (λ m. option_map_or (move_refusal problem old) m (Some faults.NoSuchPacket)) is ∙ move_unrefused problem old new move step

-- what the world has of a move
abbrev pub MoveActs : Problem → World → WorldMove → Type 0
MoveActs problem old move = (new : World) × WorldStep problem old move new

module _ (registry_acts : (problem : Problem) (view : View) (event : Event) → IsProblem problem → IsRegistryView view → IsFit problem event
    → registry_refusal problem view event ≡ None → RegistryActs problem view event)
    (node_acts : (problem : Problem) (view : View) (event : Event) → IsNodeView view → IsFit problem event → node_refusal problem view event ≡ None
    → NodeActs problem view event)
    (problem : Problem) (old : World) (lawful : IsProblem problem) (is : IsWorldView old) where
  site_acts : (node : ℕ) (event : Event) (view : View) → slice_get old.sites node ≡ Some view → IsFit problem event → WasSent old.sent event
      → site_refusal node problem view event ≡ None → MoveActs problem old (Acts node event)
  site_acts zero event view at fit sent none =
      let acts = registry_acts problem view event lawful (is.sites 0 view at) fit none in (
        record { sites = slice_set old.sites 0 acts.new; sent = old.sent ++ acts.out },
        record { before = view; reply = acts.reply; out = acts.out; after = acts.new; is = at; was_sent = sent; step = acts.step; world = refl },
      )
  site_acts (suc node) event view at fit sent none =
      let acts = node_acts problem view event (is.sites (suc node) view at) fit none in (
        record { sites = slice_set old.sites (suc node) acts.new; sent = old.sent ++ acts.out },
        record { before = view; reply = acts.reply; out = acts.out; after = acts.new; is = at; was_sent = sent; step = acts.step; world = refl },
      )

  acting : (node : ℕ) (event : Event) → IsFit problem event → WasSent old.sent event → move_refusal problem old (Acts node event) ≡ None
      → MoveActs problem old (Acts node event)
  acting node event fit sent none = go (slice_get old.sites node) refl none
    where
      go : (seen : Option View) → slice_get old.sites node ≡ seen → acting_refusal problem seen node event ≡ None → MoveActs problem old (Acts node event)
      go None at h = absurd (none-some faults.NoSuchNode (sym h))
      go (Some view) at h = site_acts node event view at fit sent (site_none (site_refusal node problem view event) h)

  restarting : (node incarnation limit : ℕ) → move_refusal problem old (Restarts node incarnation limit) ≡ None
      → MoveActs problem old (Restarts node incarnation limit)
  restarting node incarnation limit none = go (slice_get old.sites node) refl none
    where
      go : (seen : Option View) → slice_get old.sites node ≡ seen → restart_refusal seen node incarnation ≡ None
          → MoveActs problem old (Restarts node incarnation limit)
      go None at h = absurd (none-some faults.NoSuchNode (sym h))
      go (Some view) at h =
          let both = neither _ _ faults.OldIncarnation h in (
            record { sites = slice_set old.sites node (opening_node view.nodes node incarnation limit); sent = old.sent },
            record {
              before = view;
              is = at;
              not_registry = omega (arith, eqb-false node 0 both.0);
              greater = omega (arith, leb-false incarnation view.site.incarnation both.1);
              world = refl;
            },
          )

  by_move : (event : WorldEvent) (move : WorldMove) → meaning problem old event ≡ Some move → MoveActs problem old move → WorldActs problem old event
  by_move event move is acts = record { move = move; new = acts.0; is = is; step = acts.1 }

  delivering : (place : ℕ) (found : Option Packet) → slice_get old.sent place ≡ found
      → option_map_or (move_refusal problem old) (option_map delivery found) (Some faults.NoSuchPacket) ≡ None → WorldActs problem old (calls.Deliver place)
  delivering place None at none = absurd (none-some faults.NoSuchPacket (sym none))
  delivering place (Some packet) at none =
      by_move (calls.Deliver place) (delivery packet) (ap (option_map delivery) at)
      (acting packet.to.node (events.Deliver packet) (each_at (λ p. is_well_formed p ≡ true) old.sent place packet is.formed at) (place, at) none)

  pub acts_unrefused : (event : WorldEvent) → world_refusal problem old event ≡ None → WorldActs problem old event
  acts_unrefused (calls.Take node) none = by_move (calls.Take node) (Acts node events.Take) refl (acting node events.Take tt tt none)
  acts_unrefused (calls.Post node job fuel) none =
      let event = events.Post job (searched problem old node job fuel) in
      by_move (calls.Post node job fuel) (Acts node event) refl (acting node event (record { fuel = omega arith; outcome = refl }) tt none)
  acts_unrefused (calls.Finish node unit) none = by_move (calls.Finish node unit) (Acts node (events.Finish unit)) refl (acting node (events.Finish unit) tt tt none)
  acts_unrefused (calls.Ask node victim) none = by_move (calls.Ask node victim) (Acts node (events.Ask victim)) refl (acting node (events.Ask victim) tt tt none)
  acts_unrefused (calls.Redo node serial) none = by_move (calls.Redo node serial) (Acts node (events.Redo serial)) refl (acting node (events.Redo serial) tt tt none)
  acts_unrefused (calls.Again node) none = by_move (calls.Again node) (Acts node events.Again) refl (acting node events.Again tt tt none)
  acts_unrefused (calls.Greet node) none = by_move (calls.Greet node) (Acts node events.Greet) refl (acting node events.Greet tt tt none)
  acts_unrefused (calls.Deliver place) none = delivering place (slice_get old.sent place) refl none
  acts_unrefused (calls.Restart node incarnation) none =
      by_move (calls.Restart node incarnation) (Restarts node incarnation names_limit) refl (restarting node incarnation names_limit none)

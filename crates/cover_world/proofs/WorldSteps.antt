-- Steps of a world, by what its sites do.
use Rattle.std.proofs.Common.{◌≡◌, ℕ, true, nat_lt, List, length, get_or, slice_get, Option, Some, Result, Ok, Err, refl, sym, ap, ◌∙◌, subst}
use Rattle.std.proofs.lemmas.Bool.{ltb-true}
use Rattle.std.proofs.lemmas.Option.{slice_get_read}
use Rattle.std.specs.Option.{option_map_or}
use Rattle.std.specs.Prelude.{IfOk, OnErr}
use Rattle.cover_problem.specs.Problem.{Problem}
use Rattle.cover_world.specs.Cores.{ActsAt, Appends, BeginsAnew}
use Rattle.cover_world.specs.Courses.{Makes, Stepped, WorldCore}
use Rattle.cover_world.specs.Moves.{AnswerMayTell, AnswerTells, EventTells, FaultMayTell, FaultTells, meaning, move_refusal, world_refusal}
use Rattle.cover_world.specs.Worlds.{Acts, Restarts, WasSent, World, WorldMove}
use Rattle.cover_world.specs.declared.world_event.WorldEvent.{WorldEvent}
use Rattle.cover_world.specs.declared.world_event.WorldEvent.TheVariants as calls
use Rattle.cover_world.specs.declared.world_fault.WorldFault.{WorldFault}
use Rattle.cover_world.specs.declared.world_fault.WorldFault.TheVariants.{NoSuchPacket}
use Rattle.cover_world.specs.declared.world_fault.WorldFault.TheVariants as faults
use Rattle.node_core.proofs.Each.{each_append}
use Rattle.node_core.specs.Formed.{AllFormed}
use Rattle.node_core.specs.declared.event.Event.{Event}
use Rattle.node_core.specs.declared.reply.Reply.{Reply}
use Rattle.node_core.specs.declared.reply.Reply.TheVariants.{Moved}
use Rattle.packet_wire.specs.WellFormed.{is_well_formed}
use Rattle.packet_wire.specs.declared.packet.Packet.{Packet}

module _ (problem : Problem) (old new : World) where
  -- a site has an event
  pub makes : (result : Result Reply WorldFault) (node : ℕ) (event : Event) → WasSent old.sent event
      → IfOk result (λ reply. Appends old.sent new.sent (λ sent. ActsAt problem old.sites node event reply sent new.sites))
      → IfOk result (λ reply. Makes problem old (Acts node event) reply new)
  makes (Ok reply) node event was_sent h =
      let at = h.2 in
      record {
        step = record {
          before = at.before;
          reply = reply;
          out = h.0;
          after = at.after;
          is = at.is;
          was_sent = was_sent;
          step = at.acts.steps;
          world = λ i. record { sites = at.sites i; sent = h.1 i };
        };
        reply_is = refl;
        least = at.acts.least;
      }
  makes (Err fault) node event was_sent h = tt

  -- a node restarts
  pub makes_anew : (node incarnation limit : ℕ) → BeginsAnew old.sites node incarnation limit new.sites → new.sent ≡ old.sent
      → Makes problem old (Restarts node incarnation limit) Moved new
  makes_anew node incarnation limit h kept = record {
    step = record {
      before = h.before;
      is = h.is;
      not_registry = h.not_registry;
      greater = h.greater;
      world = λ i. record { sites = h.sites i; sent = kept i };
    };
    reply_is = refl;
    least = tt;
  }

  -- the packets stay so that each has a spelling
  pub stay_formed : (result : Result Reply WorldFault) (node : ℕ) (event : Event) → AllFormed old.sent → OnErr result (new.sent ≡ old.sent)
      → IfOk result (λ reply. Appends old.sent new.sent (λ sent. ActsAt problem old.sites node event reply sent new.sites)) → AllFormed new.sent
  stay_formed (Ok reply) node event formed kept h =
      subst AllFormed (sym h.1) (each_append (λ (p : Packet). is_well_formed p ≡ true) old.sent h.0 formed h.2.acts.formed)
  stay_formed (Err fault) node event formed kept h = subst AllFormed (sym kept) formed

-- what an event of the caller means is made
pub stepped : (problem : Problem) (old new : World) (event : WorldEvent) (move : WorldMove) (result : Result Reply WorldFault)
    → meaning problem old event ≡ Some move → IfOk result (λ reply. Makes problem old move reply new)
    → IfOk result (λ reply. Stepped problem old event reply new)
stepped problem old new event move (Ok reply) is h = record { move = move; is = is; makes = h }
stepped problem old new event move (Err fault) is h = tt

-- and what refuses it is what refuses its move
pub told : {A : Type 0} (problem : Problem) (old : World) (event : WorldEvent) (move : WorldMove) (result : Result A WorldFault)
    → meaning problem old event ≡ Some move → AnswerTells result (move_refusal problem old move) → AnswerTells result (world_refusal problem old event)
told problem old event move result is h = subst (λ m. AnswerTells result (refusal_of problem old m)) (sym is) h
  where
    refusal_of : Problem → World → Option WorldMove → Option WorldFault
    refusal_of problem old m = option_map_or (move_refusal problem old) m (Some NoSuchPacket)

-- the copy of a packet that was looked up is one that was sent
pub read_packet : (core now : WorldCore) (list : List Packet) (place : ℕ) (packet copied : Packet) → core ≡ now → list ≡ core.world.sent
    → true ≡ nat_lt place (length list) → packet ≡ get_or list place packet → copied ≡ packet → slice_get now.world.sent place ≡ Some copied
read_packet core now list place packet copied now_is list_is there read copied_is =
    ap (λ (s : WorldCore). slice_get s.world.sent place) (sym now_is) ∙ ap (λ ps. slice_get ps place) (sym list_is)
    ∙ slice_get_read list (length list) place packet refl (ltb-true _ _ (sym there)) read ∙ ap Some (sym copied_is)

-- ---- what is said of a refusal may be said of it

fault_may_tell : (fault : WorldFault) (refusal : Option WorldFault) → FaultTells fault refusal → FaultMayTell fault refusal
fault_may_tell faults.NoSuchPacket refusal h = h
fault_may_tell faults.NoSuchNode refusal h = h
fault_may_tell faults.OldIncarnation refusal h = h
fault_may_tell (faults.Core fault) refusal h = h
fault_may_tell faults.Memory refusal h = tt

pub may_tell : {A : Type 0} (result : Result A WorldFault) (refusal : Option WorldFault) → AnswerTells result refusal → AnswerMayTell result refusal
may_tell (Ok answer) refusal h = h
may_tell (Err fault) refusal h = fault_may_tell fault refusal h

pub event_may_tell : {A : Type 0} (event : WorldEvent) (result : Result A WorldFault) (refusal : Option WorldFault) → EventTells event result refusal → AnswerMayTell result refusal
event_may_tell (calls.Take node) result refusal h = may_tell result refusal h
event_may_tell (calls.Post node job fuel) result refusal h = h
event_may_tell (calls.Finish node unit) result refusal h = may_tell result refusal h
event_may_tell (calls.Ask node victim) result refusal h = may_tell result refusal h
event_may_tell (calls.Redo node serial) result refusal h = may_tell result refusal h
event_may_tell (calls.Again node) result refusal h = may_tell result refusal h
event_may_tell (calls.Greet node) result refusal h = may_tell result refusal h
event_may_tell (calls.Deliver place) result refusal h = h
event_may_tell (calls.Restart node incarnation) result refusal h = may_tell result refusal h

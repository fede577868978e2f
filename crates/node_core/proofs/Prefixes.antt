-- Each unit of a formed node is of a prefix, and each event of its own is refused once it is over.
use Rattle.std.proofs.Common.{◌≡◌, ℕ, Bool, true, false, List, [], ◌∷◌, Some, if◌then◌else◌, refl, ap, ◌∙◌, subst}
use Rattle.std.specs.List.{AllByRecursion}
use Rattle.std.proofs.lemmas.Option.{none-some, same_Some}
use Rattle.cover_problem.specs.Prefix.{is_prefix}
use Rattle.cover_problem.specs.Problem.{Problem}
use Rattle.node_core.proofs.Each.{each_at}
use Rattle.node_core.specs.Acting.{HasPrefixes, is_delivery}
use Rattle.node_core.specs.Formed.{IsFormedChild, IsFormedGuest, IsFormedNode}
use Rattle.node_core.specs.Refusal.{event_refusal, node_refusal}
use Rattle.node_core.specs.SiteView.{View}
use Rattle.node_core.specs.declared.act_fault.ActFault.TheVariants as faults
use Rattle.node_core.specs.declared.event.Event.{Event}
use Rattle.node_core.specs.declared.event.Event.TheVariants.{Again, Ask, Deliver, Finish, Greet, Post, Redo, Take}
use Rattle.packet_wire.specs.declared.packet.Packet.{Packet}
use Rattle.spawn_frame.specs.Units.{Entry, GuestEntry, guest_in, is_guest}
use Rattle.spawn_frame.specs.declared.site.ChildName.{ChildName}
use Rattle.spawn_frame.specs.declared.site.Site.{Site}
use Rattle.spawn_frame.specs.declared.unit.Unit.TheVariants.{Guest, Own}

guest_prefix : (problem : Problem) (site : Site) (guests : List GuestEntry) (name : ChildName) (attempt : ℕ) (entry : Entry)
    → AllByRecursion (IsFormedGuest problem site) guests → guest_in guests name attempt ≡ Some entry → is_prefix problem entry.prefix ≡ true
guest_prefix problem site [] name attempt entry h e = absurd (none-some entry e)
guest_prefix problem site (g ∷ gs) name attempt entry h e =
    by (is_guest name attempt g) e (λ e'. guest_prefix problem site gs name attempt entry h.1 e')
  where
    by : (b : Bool) → (if b then Some g.entry else guest_in gs name attempt) ≡ Some entry
        → (guest_in gs name attempt ≡ Some entry → is_prefix problem entry.prefix ≡ true) → is_prefix problem entry.prefix ≡ true
    by true e rest = subst (λ (c : Entry). is_prefix problem c.prefix ≡ true) (same_Some g.entry entry e) h.0.told.prefix
    by false e rest = rest e

pub formed_prefixes : (problem : Problem) (view : View) → IsFormedNode problem view → HasPrefixes problem view
formed_prefixes problem view is (Own serial) entry e =
    (each_at (IsFormedChild problem view.site) view.own serial entry is.formed.units.own e).told.prefix
formed_prefixes problem view is (Guest name attempt) entry e =
    guest_prefix problem view.site view.guests name attempt entry is.formed.units.guests e

pub not_delivery : (event : Event) → ((packet : Packet) → event ≡ Deliver packet → ⊥) → is_delivery event ≡ false
not_delivery (Deliver packet) other = absurd (other packet refl)
not_delivery Take other = refl
not_delivery (Post job finding) other = refl
not_delivery (Finish unit) other = refl
not_delivery (Ask victim) other = refl
not_delivery (Redo serial) other = refl
not_delivery Again other = refl
not_delivery Greet other = refl

-- what refuses an event of its own
pub own_refusal : (problem : Problem) (view : View) (event : Event) → is_delivery event ≡ false
    → node_refusal problem view event ≡ (if view.over then Some faults.Over else event_refusal problem view event)
own_refusal problem view (Deliver packet) e = absurd (cc)
own_refusal problem view Take e = refl
own_refusal problem view (Post job finding) e = refl
own_refusal problem view (Finish unit) e = refl
own_refusal problem view (Ask victim) e = refl
own_refusal problem view (Redo serial) e = refl
own_refusal problem view Again e = refl
own_refusal problem view Greet e = refl

-- one that is over refuses it
pub over_refuses : (problem : Problem) (view : View) (event : Event) → is_delivery event ≡ false → view.over ≡ true
    → node_refusal problem view event ≡ Some faults.Over
over_refuses problem view event own over =
    own_refusal problem view event own ∙ ap (λ b. if b then Some faults.Over else event_refusal problem view event) over

-- one that takes part may refuse it
pub part_refuses : (problem : Problem) (view : View) (event : Event) → is_delivery event ≡ false → view.over ≡ false
    → node_refusal problem view event ≡ event_refusal problem view event
part_refuses problem view event own part =
    own_refusal problem view event own ∙ ap (λ b. if b then Some faults.Over else event_refusal problem view event) part

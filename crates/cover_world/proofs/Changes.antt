-- What a step makes of the view, by what it makes of the ledger.
use Rattle.std.proofs.Common.{◌≡◌, ℕ, List, Some, slice_get, sym, ap, subst, ◌∙◌}
use Rattle.cover_problem.specs.Problem.{Problem}
use Rattle.node_core.specs.Arrivals.{Admits, Drops, Gives, Settles}
use Rattle.node_core.specs.Membership.{MembersStep}
use Rattle.node_core.specs.Requests.{RedoStep}
use Rattle.node_core.specs.Results.{FinishStep}
use Rattle.node_core.specs.SiteView.{View, unit_gets, with_guests, with_ledger, with_own}
use Rattle.packet_wire.specs.Gifts.{gifts_in}
use Rattle.packet_wire.specs.declared.packet.Packet.{Packet}
use Rattle.spawn_frame.specs.Gifts.{admit_each}
use Rattle.spawn_frame.specs.Splits.{with_result}
use Rattle.spawn_frame.specs.Units.{Entry, change_at, redone, table_guests, table_own, with_status}
use Rattle.spawn_frame.specs.declared.child_result.ChildResult.{ChildResult}
use Rattle.spawn_frame.specs.declared.gift.Gift.{Gift}
use Rattle.spawn_frame.specs.declared.site.ChildName.{ChildName}
use Rattle.spawn_frame.specs.declared.site.Site.{Site}
use Rattle.spawn_frame.specs.declared.status.Status.TheVariants.{Dropped, Out, Ready, Settled}
use Rattle.spawn_frame.specs.declared.unit.Unit.{Unit as WorkUnit}
use Rattle.spawn_frame.specs.declared.unit.Unit.TheVariants.{Guest}
use Rattle.steal_return.proofs.Gifts.{gives_keep}
use Rattle.steal_return.specs.Members.{drop_lost}

-- what stays where one ready child is given stays where a Steal gets several
pub kept_by_gives : (P : View → Type 0) (from : Site)
    → ((view : View) (serial : ℕ) (entry : Entry) → slice_get view.own serial ≡ Some entry → entry.status ≡ Ready → P view → P (with_own view (change_at (with_status (Out from)) view.own serial)))
    → (old : View) (out : List Packet) (new : View) → Gives old from out new → P old → P new
kept_by_gives P from one old out new g p =
    subst P (sym g.after)
    (gives_keep (λ l. P (with_ledger old l)) from (λ l serial entry is ready q. one (with_ledger old l) serial entry is ready q) g.parent (gifts_in g.body) old.ledger g.ledger g.each p)

pub after_admits : (problem : Problem) (old : View) (from : Site) (gifts : List Gift) (out : List Packet) (new : View)
    → Admits problem old from gifts out new → new ≡ with_guests old (admit_each from gifts old.guests)
after_admits problem old from gifts out new h = h.after ∙ ap (with_ledger old) h.admits.after

pub after_settles : (old : View) (name : ChildName) (attempt : ℕ) (result : ChildResult) (out : List Packet) (new : View)
    → Settles old name attempt result out new → new ≡ unit_gets old (Guest name attempt) (Settled result)
after_settles old name attempt result out new h = h.after ∙ ap (with_ledger old) h.settles.after

pub after_drops : (old : View) (name : ChildName) (attempt : ℕ) (out : List Packet) (new : View) (h : Drops old name attempt out new)
    → new ≡ with_own (unit_gets old (Guest name attempt) Dropped) h.own
after_drops old name attempt out new h = h.after ∙ ap (with_ledger old) h.drops.after

pub after_finish : (old : View) (unit : WorkUnit) (out : List Packet) (new : View) (h : FinishStep old unit out new)
    → new ≡ with_own (unit_gets old unit (with_result unit h.result)) h.own
after_finish old unit out new h = h.after ∙ ap (with_ledger old) h.finishes.after

pub after_redo : (old : View) (serial : ℕ) (out : List Packet) (new : View) → RedoStep old serial out new
    → new ≡ with_own old (change_at redone old.own serial)
after_redo old serial out new h = h.after ∙ ap (with_ledger old) h.redoes.after

-- the view with other units, and other incarnations known
abbrev pub with_known : View → List ℕ → List Entry → View
with_known old known own = with_ledger old (record {
  table = table_guests (table_own old.table own) (drop_lost known old.guests);
  nodes = old.nodes;
  known = known;
})

pub after_members : (old : View) (incarnations : List ℕ) (out : List Packet) (new : View) (h : MembersStep old incarnations out new)
    → new ≡ with_known old h.known h.own
after_members old incarnations out new h = h.after ∙ ap (with_ledger old) h.learns.after

-- Thieves that are told of aborts.
use Rattle.std.proofs.Common.{◌≡◌, ℕ, Bool, true, false, List, [], ◌++◌, Some, refl, sym, ap, ◌∙◌, subst}
use Rattle.std.specs.Bool.{OnTrue}
use Rattle.node_core.proofs.Sending.{sends_more}
use Rattle.node_core.specs.Arrivals.{Drops}
use Rattle.node_core.specs.Membership.{MembersStep}
use Rattle.node_core.specs.Outgoing.{Outgoing, Sends}
use Rattle.node_core.specs.Results.{FinishStep, return_packets}
use Rattle.node_core.specs.SiteView.{View, abort_packets, with_ledger}
use Rattle.packet_wire.specs.declared.packet.Packet.{Packet}
use Rattle.spawn_frame.specs.Aborts.{Reached}
use Rattle.spawn_frame.specs.Frames.{frame, frame_result}
use Rattle.spawn_frame.specs.declared.child_result.ChildResult.{ChildResult}
use Rattle.spawn_frame.specs.declared.site.ChildName.{ChildName}
use Rattle.spawn_frame.specs.declared.site.Site.{Site}
use Rattle.spawn_frame.specs.declared.unit.Unit.{Unit as WorkUnit}
use Rattle.steal_return.specs.Finishing.{Appends, FinishesFrame}
use Rattle.steal_return.specs.Guests.{DropsGuest}
use Rattle.steal_return.specs.Ledger.{Ledger}
use Rattle.steal_return.specs.Members.{LearnsMembers}

-- what holds where a test is true
pub on_true : (b : Bool) (P : Type 0) → b ≡ true → OnTrue b P → P
on_true true P e p = p
on_true false P e p = absurd (cc)

-- what was appended to an empty list is the list
pub appended_whole : (P : List Reached → Type 0) (old new : List Reached) → old ≡ [] → Appends old new P → P new
appended_whole P old new none a = subst P (sym (a.1 ∙ ap (λ l. l ++ a.0) none)) a.2

-- room is made, and then packets are sent
pub sends_after : (old mid new : Outgoing) (ps : List Packet) → Sends old [] mid → Sends mid ps new → Sends old ps new
sends_after old mid new ps room sends = sends_more old mid new [] ps room sends

-- a guest is dropped
pub drops_step : (old seen : View) (name : ChildName) (attempt : ℕ) (site : Site) (outs : List Reached) (ledger : Ledger)
    → seen ≡ old → site ≡ old.site → DropsGuest seen.ledger name attempt outs ledger
    → Drops old name attempt (abort_packets site outs) (with_ledger seen ledger)
drops_step old seen name attempt site outs ledger same is drops =
    let P : View → Type 0 = λ v. Drops v name attempt (abort_packets site outs) (with_ledger seen ledger) in
    subst P same (record {
      outs = outs;
      ledger = ledger;
      drops = drops;
      after = refl;
      sends = ap (λ s. abort_packets s outs) (is ∙ sym (ap (λ (v : View). v.site) same));
    })

-- incarnations are learnt
pub members_step : (old seen : View) (incarnations : List ℕ) (site : Site) (outs : List Reached) (ledger : Ledger)
    → seen ≡ old → site ≡ old.site → LearnsMembers seen.ledger incarnations outs ledger
    → MembersStep old incarnations (abort_packets site outs) (with_ledger seen ledger)
members_step old seen incarnations site outs ledger same is learns =
    let P : View → Type 0 = λ v. MembersStep v incarnations (abort_packets site outs) (with_ledger seen ledger) in
    subst P same (record {
      outs = outs;
      ledger = ledger;
      learns = learns;
      after = refl;
      sends = ap (λ s. abort_packets s outs) (is ∙ sym (ap (λ (v : View). v.site) same));
    })

-- a frame is finished
pub finish_step : (old seen : View) (unit : WorkUnit) (site : Site) (outs : List Reached) (ledger : Ledger) (back : List Packet)
    → seen ≡ old → site ≡ old.site → FinishesFrame seen.ledger unit outs ledger
    → ((result : ChildResult) → frame_result (frame unit old.own) ≡ Some result → return_packets old.site unit result ≡ back)
    → FinishStep old unit (abort_packets site outs ++ back) (with_ledger seen ledger)
finish_step old seen unit site outs ledger back same is finishes returns =
    let P : View → Type 0 = λ v. FinishStep v unit (abort_packets site outs ++ back) (with_ledger seen ledger) in
    let at : site ≡ seen.site = is ∙ sym (ap (λ (v : View). v.site) same) in
    let came : frame_result (frame unit old.own) ≡ Some finishes.result = ap (λ (v : View). frame_result (frame unit v.own)) (sym same) ∙ finishes.settled in
    subst P same (record {
      outs = outs;
      ledger = ledger;
      finishes = finishes;
      after = refl;
      sends =
          ap (λ s. abort_packets s outs ++ back) at
          ∙ ap (λ ps. abort_packets seen.site outs ++ ps) (sym (returns finishes.result came) ∙ ap (λ s. return_packets s unit finishes.result) (sym (ap (λ (v : View). v.site) same)));
    })

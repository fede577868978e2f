-- What Members comes to.
use Rattle.std.proofs.Common.{◌≡◌, ◌≢◌, ℕ, suc, Bool, true, false, List, [], ◌∷◌, ◌++◌, Some, None, refl, sym, ap, ◌∙◌, subst, if◌then◌else◌}
use Rattle.std.specs.Bool.{OnFalse, OnTrue}
use Rattle.node_core.proofs.Spending.{any_is_spent, none_spent, spent_any}
use Rattle.node_core.specs.NodeStep.{Tells}
use Rattle.node_core.specs.Refusal.{any_spent, members_refusal}
use Rattle.node_core.specs.SiteView.{View, abort_packets, with_ledger}
use Rattle.node_core.specs.Taking.{Stays}
use Rattle.node_core.specs.declared.act_fault.ActFault.TheVariants.{NamesSpent}
use Rattle.node_core.specs.declared.reply.Reply.TheVariants.{Ignored, Moved}
use Rattle.spawn_frame.specs.Aborts.{Reached, reached, reached_one}
use Rattle.spawn_frame.specs.Units.{Entry}
use Rattle.spawn_frame.specs.declared.site.Site.{Site}
use Rattle.spawn_frame.specs.declared.status.Status.{Status}
use Rattle.spawn_frame.specs.declared.status.Status.TheVariants.{Aborted, Out, Ready}
use Rattle.steal_return.specs.Ledger.{Ledger}
use Rattle.steal_return.specs.Members.{IsRedoable, IsSpent, LearnsMembers, now_known, redo_if, redo_lost}
use Rattle.steal_return.specs.Steals.{is_older}

-- a child that is not aborted in the end was not reached
reached_none : (serial attempt : ℕ) (s : Status) (t : Status) → (t ≡ Aborted → s ≡ Aborted) → reached_one serial attempt s t ≡ []
reached_none serial attempt (Out thief) Aborted keeps = absurd (let e = keeps refl in cc)
reached_none serial attempt (Out thief) Ready keeps = refl
reached_none serial attempt (Out thief) _ keeps = refl
reached_none serial attempt Ready t keeps = refl
reached_none serial attempt _ t keeps = refl

-- a child that is aborted is not redone
still_aborted : (lost : Site → Bool) (c : Entry) (s : Status) → c.status ≡ s → s ≡ Aborted → (redo_if lost c s).status ≡ Aborted
still_aborted lost c (Out thief) is e = absurd (cc)
still_aborted lost c Ready is e = is ∙ e
still_aborted lost c _ is e = is ∙ e

-- where the children are the same in the end, none was reached
none_reached : (lost : Site → Bool) (serial : ℕ) (own : List Entry) → reached serial (redo_lost lost own) own ≡ []
none_reached lost serial [] = refl
none_reached lost serial (c ∷ cs) =
    ap (λ l. l ++ reached (suc serial) (redo_lost lost cs) cs)
    (reached_none serial (redo_if lost c c.status).attempt (redo_if lost c c.status).status c.status (λ e. still_aborted lost c c.status refl e))
    ∙ none_reached lost (suc serial) cs

-- the reply says whether anything changed or was sent
pub members_tell : (old seen : View) (incarnations : List ℕ) (site : Site) (outs : List Reached) (ledger : Ledger) (moved : Bool)
    → seen ≡ old → LearnsMembers seen.ledger incarnations outs ledger
    → OnTrue moved (ledger ≢ seen.ledger) → OnFalse moved (ledger ≡ seen.ledger)
    → Tells old (abort_packets site outs) (with_ledger seen ledger) (if moved then Moved else Ignored)
members_tell old seen incarnations site outs ledger true same learns differs alike =
    λ (stays : Stays old (abort_packets site outs) (with_ledger seen ledger)). differs (ap (λ (v : View). v.ledger) (stays.0 ∙ sym same))
members_tell old seen incarnations site outs ledger false same learns differs alike =
    let own_is : learns.own ≡ seen.own = ap (λ (l : Ledger). l.own) (sym learns.after ∙ alike) in (
      ap (λ l. with_ledger seen l) alike ∙ same,
      ap (abort_packets site)
          (learns.reaches ∙ ap (λ o. reached 0 (redo_lost (is_older learns.known) seen.own) o) own_is ∙ none_reached (is_older learns.known) 0 seen.own),
    )

-- what is told can be learnt where no child is spent
pub members_unrefused : (view : View) (incarnations : List ℕ) → IsRedoable (is_older (now_known view.site.node view.known incarnations)) view.own
    → members_refusal view incarnations ≡ None
members_unrefused view incarnations able =
    ap (λ b. if b then Some NamesSpent else None) (none_spent (is_older (now_known view.site.node view.known incarnations)) view.own able)

-- and not where one is
pub members_refused : (view : View) (incarnations : List ℕ) → IsSpent (is_older (now_known view.site.node view.known incarnations)) view.own
    → members_refusal view incarnations ≡ Some NamesSpent
members_refused view incarnations spent =
    ap (λ b. if b then Some NamesSpent else None) (spent_any (is_older (now_known view.site.node view.known incarnations)) view.own spent.serial spent.spent)

-- what was learnt was not refused
pub members_learnt : (view : View) (incarnations : List ℕ) (outs : List Reached) (ledger : Ledger) → LearnsMembers view.ledger incarnations outs ledger
    → members_refusal view incarnations ≡ None
members_learnt view incarnations outs ledger learns =
    members_unrefused view incarnations (subst (λ k. IsRedoable (is_older k) view.own) learns.known_is learns.redoable)

-- where none is spent, nothing is refused
pub members_able : (view : View) (incarnations : List ℕ) → (IsSpent (is_older (now_known view.site.node view.known incarnations)) view.own → ⊥)
    → members_refusal view incarnations ≡ None
members_able view incarnations unspent = by (any_spent (is_older (now_known view.site.node view.known incarnations)) view.own) refl
  where
    by : (b : Bool) → any_spent (is_older (now_known view.site.node view.known incarnations)) view.own ≡ b
        → (if b then Some NamesSpent else None) ≡ None
    by true e = absurd (unspent (any_is_spent (is_older (now_known view.site.node view.known incarnations)) view.own e))
    by false e = refl

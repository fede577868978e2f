-- Results that come back to the owner of a child (the inlet of the Cilk 5.4 manual).
use Rattle.std.specs.Prelude.{ℕ, Bool, true, false, ◌&&◌, if◌then◌else◌, Option, Some, None, nat_lt, ◌==◌}
use Rattle.spawn_frame.specs.Names.{same_site}
use Rattle.spawn_frame.specs.Units.{Entry, change_at, with_status}
use Rattle.spawn_frame.specs.declared.cause.Cause.{Cause}
use Rattle.spawn_frame.specs.declared.cause.Cause.TheVariants as causes
use Rattle.spawn_frame.specs.declared.child_result.ChildResult.{ChildResult}
use Rattle.spawn_frame.specs.declared.site.Site.{Site}
use Rattle.spawn_frame.specs.declared.status.Status.{Status}
use Rattle.spawn_frame.specs.declared.status.Status.TheVariants.{Aborted, Done, Out}
use Rattle.steal_return.specs.Ledger.{Ledger, ledger_own}
use Rattle.steal_return.specs.declared.judged.Judged.{Judged}
use Rattle.steal_return.specs.declared.judged.Judged.TheVariants as judges
use Rattle.steal_return.specs.declared.return_reply.ReturnReply.{ReturnReply}
use Rattle.steal_return.specs.declared.return_reply.ReturnReply.TheVariants.{Accept, Refuse}

-- what the owner finds of a result that is returned
pub data Judgement : Type 0 where
  Enters : Judgement
  Holds : (result : ChildResult) → Judgement
  Refuses : (cause : Cause) → Judgement

-- what is found, as a judgement
abbrev pub judgement_of : Judged → Judgement
judgement_of judges.Enters = Enters
judgement_of (judges.Holds held) = Holds held.now
judgement_of (judges.Refuses cause) = Refuses cause

-- out to the sender at that attempt, or not
abbrev pub if_out : Bool → Judgement
if_out true = Enters
if_out false = Refuses causes.Superseded

-- what a child of this status answers to a sender, at its attempt or at an earlier one
abbrev pub judged_by : Status → Site → Bool → Judgement
judged_by Aborted from at_attempt = Refuses causes.Aborted
judged_by (Done result) from at_attempt = Holds result
judged_by (Out thief) from at_attempt = if_out (same_site thief from && at_attempt)
judged_by _ from at_attempt = Refuses causes.Superseded

-- a child that there is not, or never was at that attempt, is unknown
abbrev pub judged : Option Entry → Site → ℕ → Judgement
judged None from attempt = Refuses causes.Unknown
judged (Some entry) from attempt = if nat_lt entry.attempt attempt then Refuses causes.Unknown else judged_by entry.status from (entry.attempt == attempt)

-- a result that enters is accepted, of a child that is done the held result is told, else it is refused
abbrev pub reply_to : ChildResult → Judgement → ReturnReply
reply_to result Enters = Accept result
reply_to result (Holds held) = Accept held
reply_to result (Refuses cause) = Refuse cause

-- the ledger after a result was judged so: the child is done where it enters
abbrev pub returned : Ledger → ℕ → ChildResult → Judgement → Ledger
returned old serial result Enters = ledger_own old (change_at (with_status (Done result)) old.own serial)
returned old serial result (Holds held) = old
returned old serial result (Refuses cause) = old

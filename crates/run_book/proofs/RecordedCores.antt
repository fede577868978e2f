-- A recorded core stays one as its core acts, and closes.
use Rattle.std.proofs.Common.{◌≡◌, ℕ, suc, ◌+◌, ◌<◌, ◌≤◌, List, [], ◌∷◌, ◌++◌, length, sym, ap, ◌∙◌, subst, arith, length-append}
use Rattle.cover_problem.specs.Problem.{Problem}
use Rattle.node_core.specs.Acting.{Acts, StepOf}
use Rattle.node_core.specs.Refusal.{IsFit}
use Rattle.node_core.specs.SiteView.{View}
use Rattle.node_core.specs.declared.event.Event.{Event}
use Rattle.node_core.specs.declared.reply.Reply.{Reply}
use Rattle.packet_wire.specs.declared.packet.Packet.{Packet}
use Rattle.run_book.proofs.Counting.{are_below}
use Rattle.run_book.proofs.Leading.{ends_on}
use Rattle.run_book.proofs.Sites.{formed_next, reply_fits, reply_prefix}
use Rattle.run_book.specs.Books.{EndsIn, Enters}
use Rattle.run_book.specs.RecordedCores.{RecordedCore, IsRecordedCore, IsLawful, prefix_in, room_for}
use Rattle.run_book.specs.Entries.{Entry, Placed}
use Rattle.run_book.specs.Places.{AreBelow, places}
use Rattle.run_book.specs.Sites.{RunName}
use Rattle.run_book.specs.Tickets.{AreApart, Register}
use Rattle.spawn_frame.specs.declared.site.Site.{Site}

module _ (run : RunName) (site : Site) (names : ℕ) (Step : StepOf) (problem : Problem) (view : View) (recorded_core : RecordedCore) (register : Register) (total : ℕ)
    (is : IsRecordedCore run site names Step problem view recorded_core register total) where
  -- what the core does at an event that is fit is an entry of the site
  enters : (event : Event) (reply : Reply) (out : List Packet) (new : View) → IsFit run.problem event → Acts Step problem view event reply out new
      → Enters site.node run.problem view (record { event = event; reply = reply; packets = out }) new
  enters event reply out new fit acts =
      let mine : Acts Step run.problem view event reply out new = subst (λ (p : Problem). Acts Step p view event reply out new) is.same acts in
      record {
        fit = fit;
        acts = record { steps = is.steps run.problem view event reply out new mine.steps; least = mine.least; formed = mine.formed };
      }

  -- the reply fits into the room that is made for it
  pub recorded_core_reply_fits : (event : Event) (reply : Reply) (out : List Packet) (new : View) → IsFit run.problem event
      → Acts Step problem view event reply out new → length (prefix_in reply) ≤ room_for event
  recorded_core_reply_fits event reply out new fit acts =
      reply_fits site.node run.problem view new event reply out is.formed (enters event reply out new fit acts).acts.steps

  -- it is lawful
  pub recorded_core_lawful : (entry : Entry) (event : Event) (reply : Reply) (out : List Packet) (new : View) → IsFit run.problem event
      → Acts Step problem view event reply out new → entry ≡ record { event = event; reply = reply; packets = out } → IsLawful run.problem entry
  recorded_core_lawful entry event reply out new fit acts entry_is =
      let acted = (enters event reply out new fit acts).acts in
      subst (λ (e : Entry). IsLawful run.problem e) (sym entry_is)
      (record { formed = acted.formed; prefix = reply_prefix site.node run.problem view new event reply out is.formed acted.steps })

  -- the recorded core with one entry more
  pub recorded_core_next : (entry : Entry) (event : Event) (reply : Reply) (out : List Packet) (problem' : Problem) (new : View) (entries : List Entry)
      (given : ℕ) (register' : Register) (total' : ℕ)
      → IsFit run.problem event → Acts Step problem view event reply out new
      → entry ≡ record { event = event; reply = reply; packets = out }
      → problem' ≡ problem → length recorded_core.entries < recorded_core.limit
      → entries ≡ recorded_core.entries ++ entry ∷ [] → register'.log ≡ register.log ++ entry ∷ [] → register'.back ≡ register.back → total' ≡ total + 1
      → IsRecordedCore run site names Step problem' new (record { entries = entries; limit = recorded_core.limit; given = given }) register' total'
  recorded_core_next entry event reply out problem' new entries given register' total' fit acts entry_is problem_is room entries_are log_is back_is total_is =
      let next : Enters site.node run.problem view entry new =
      subst (λ (e : Entry). Enters site.node run.problem view e new) (sym entry_is) (enters event reply out new fit acts) in
      let many : length entries ≡ suc (length recorded_core.entries) =
      ap length entries_are ∙ length-append recorded_core.entries (entry ∷ []) ∙ omega arith in
      record {
        same = problem_is ∙ is.same;
        steps = is.steps;
        formed = formed_next site.node run.problem view new entry is.formed next;
        book = subst (λ (l : List Entry). EndsIn run (record { site = site; entries = l }) names new) (sym entries_are)
            (ends_on run site names recorded_core.entries view entry new is.book next);
        log = log_is ∙ ap (λ l. l ++ entry ∷ []) is.log ∙ sym entries_are;
        none_back = back_is ∙ is.none_back;
        counted = (let c = is.counted in omega (arith, total_is, c, many));
        within = omega (arith, many, room);
      }

-- as many receipts as there are entries have the places of the entries
pub all_places : (log entries : List Entry) (back receipts : List Placed) → AreApart log back → log ≡ entries → back ≡ receipts
    → length entries ≤ length receipts → AreBelow (length entries) (places receipts)
all_places log entries back receipts apart log_is back_is enough =
    let all : AreApart entries receipts =
    subst (λ (l : List Entry). AreApart l receipts) log_is (subst (λ (b : List Placed). AreApart log b) back_is apart) in
    are_below entries receipts all.once all.stand enough

-- What stands under the lock of a cell.
use Rattle.std.specs.Prelude.{◌≡◌, ℕ, ◌<◌, ◌≤◌, true, List, [], length, Option, None, Some}
use Rattle.cover_problem.specs.Prefix.{is_prefix}
use Rattle.cover_problem.specs.Problem.{Problem}
use Rattle.cover_problem.specs.declared.limits.TheConstants.{MOST_ITEMS}
use Rattle.node_core.specs.Acting.{StepOf}
use Rattle.node_core.specs.Formed.{AllFormed}
use Rattle.node_core.specs.SiteView.{View}
use Rattle.node_core.specs.declared.act_fault.ActFault.{ActFault}
use Rattle.node_core.specs.declared.event.Event.{Event}
use Rattle.node_core.specs.declared.event.Event.TheVariants.{Take}
use Rattle.node_core.specs.declared.reply.Reply.{Reply}
use Rattle.node_core.specs.declared.reply.Reply.TheVariants.{Taken}
use Rattle.run_book.specs.Books.{EndsIn}
use Rattle.run_book.specs.Entries.{Entry}
use Rattle.run_book.specs.Sites.{FormedAt, RunName, StepsAt}
use Rattle.run_book.specs.Tickets.{Register}
use Rattle.run_book.specs.declared.fault.BookFault.{BookFault}
use Rattle.run_book.specs.declared.fault.BookFault.TheVariants.{BookFull, Core}
use Rattle.spawn_frame.specs.declared.site.Site.{Site}

-- a core's history: its entries, how many it may have, and how many seats were given out
pub record RecordedCore : Type 0 where
  pub entries : List Entry
  pub limit : ℕ
  pub given : ℕ

-- The core is of the run and the site, and the entries, which the register has too, led it to its view.
pub record IsRecordedCore (run : RunName) (site : Site) (names : ℕ) (Step : StepOf) (problem : Problem) (view : View) (recorded_core : RecordedCore)
    (register : Register) (total : ℕ) : Type 0 where
  pub same : problem ≡ run.problem
  pub steps : StepsAt site.node Step
  pub formed : FormedAt site.node run.problem view
  pub book : EndsIn run (record { site = site; entries = recorded_core.entries }) names view
  pub log : register.log ≡ recorded_core.entries
  pub none_back : register.back ≡ []
  pub counted : total ≡ length recorded_core.entries
  pub within : length recorded_core.entries ≤ recorded_core.limit

-- a book of so many entries, of at most so many, is told to be full exactly where no more fit
abbrev pub IsTold : BookFault → ℕ → ℕ → Type 0
IsTold (BookFull told) many limit = (told ≡ many) × (many ≡ limit)
IsTold _ many limit = many < limit

-- The site refuses the event with the fault: so the rules of its core say, at the view to which the entries of its book lead. They are
-- at least as many as a seat counts that acts there.
pub record Refuses (run : RunName) (site : Site) (names : ℕ) (rules : Problem → View → Event → Option ActFault) (seat : ℕ)
    (event : Event) (fault : ActFault) : Type 0 where
  pub entries : List Entry
  pub view : View
  pub leads : EndsIn run (record { site = site; entries = entries }) names view
  pub counted : seat ≤ length entries
  pub refusal : rules run.problem view event ≡ Some fault

-- the fault of a core in a book's fault
abbrev pub fault_told : BookFault → Option ActFault
fault_told (Core fault) = Some fault
fault_told _ = None

-- the most numbers that the reply to an event may hold: only a Take is told a prefix
abbrev pub room_for : Event → ℕ
room_for Take = MOST_ITEMS
room_for _ = 0

-- the prefix that a reply holds
abbrev pub prefix_in : Reply → List ℕ
prefix_in (Taken job prefix) = prefix
prefix_in _ = []

-- What a core does with an event: each packet that it puts out has a spelling, and a prefix in it is one.
pub record IsLawful (problem : Problem) (entry : Entry) : Type 0 where
  pub formed : AllFormed entry.packets
  pub prefix : is_prefix problem (prefix_in entry.reply) ≡ true

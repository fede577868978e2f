-- The command line of the program, as the shape of a clap command, and what its words spell.
use Rattle.std.specs.Prelude.{◌≡◌, ◌≢◌, ◌<◌, ◌^◌, ◌↔◌, ℕ, Bool, List, [], ◌∷◌, Option, Some, None, codes, is_some, option_map, true, false}
use Rattle.std.specs.Str.Parse.{IsNumeral, digits_value}
use Rattle.clap.specs.declared.builder.action.ArgAction.TheVariants.{SetTrue}
use Rattle.clap.specs.declared.error.kind.ErrorKind.{ErrorKind}
use Rattle.clap.specs.declared.error.kind.ErrorKind.TheVariants.{DisplayHelp, DisplayVersion}
use Rattle.clap.specs.Words.{App, Row, Rule, Text, new_app, new_rule, with_rule, with_subcommand, first_of}
use Rattle.run_settings.specs.declared.settings.Mode.{Mode}
use Rattle.run_settings.specs.declared.settings.Mode.TheVariants as modes
use Rattle.run_settings.specs.declared.request.Request.{Request}
use Rattle.run_settings.specs.declared.settings.Settings.{Settings}

-- a positional that has to be given
abbrev pub file_rule : Text → Rule
file_rule id = record (new_rule id) { required = true }

-- an option with a value and its default
abbrev pub number_rule : Text → Text → Rule
number_rule id default = record (new_rule id) { long = Some id; defaults = default ∷ [] }

-- an option with a value and no default
abbrev pub limit_rule : Text → Rule
limit_rule id = record (new_rule id) { long = Some id }

-- an option without a value
abbrev pub flag_rule : Text → Rule
flag_rule id = record (new_rule id) { long = Some id; action = Some SetTrue }

-- the fuel where it is not given or there is no such option: the greatest that it may be
abbrev pub greatest_fuel : ℕ
greatest_fuel = 18446744073709551615

-- the option for it, with that default
abbrev pub greatest_fuel_rule : Rule
greatest_fuel_rule = number_rule (codes "fuel") (codes "18446744073709551615")

-- a command that has a version
abbrev pub versioned : App → App
versioned app = record app { top = record app.top { has_version = true } }

-- how long one thread may search, which has no limit where it is not given
abbrev pub timed : App → App
timed app = with_rule app (limit_rule (codes "seconds"))

-- which file gets a certificate that there is no cover, if any does
abbrev pub certified : App → App
certified app = with_rule app (limit_rule (codes "certificate"))

-- what one thread searches, whether it writes how far it has come, whether it has no limit of visits, when it ends, and where a certificate
-- goes
abbrev pub alone_app : App
alone_app =
    certified (timed (with_rule (with_rule (with_rule (with_rule (versioned (new_app (codes "alone"))) (file_rule (codes "file"))) greatest_fuel_rule) (flag_rule (codes "progress"))) (flag_rule (codes "unlimited"))))

-- which answer is tested against which file, whether without a limit of visits, and when that ends
abbrev pub check_app : App
check_app =
    timed (with_rule (with_rule (with_rule (with_rule (versioned (new_app (codes "check"))) (file_rule (codes "file"))) (file_rule (codes "answer"))) greatest_fuel_rule) (flag_rule (codes "unlimited")))

-- whether what an answer rests on is written behind it
abbrev pub reasoned : App → App
reasoned app = with_rule app (flag_rule (codes "reason"))

-- to which file an answer is looked for, whether it writes how far that has come, by how many threads, when it ends, whether it says what the
-- answer rests on, and where a certificate goes
abbrev pub answer_app : App
answer_app =
    certified (reasoned (timed (with_rule (with_rule (with_rule (versioned (new_app (codes "answer"))) (file_rule (codes "file"))) (flag_rule (codes "progress"))) (limit_rule (codes "threads")))))

-- of which file a reason is looked for, and where a certificate goes
abbrev pub why_app : App
why_app = certified (with_rule (versioned (new_app (codes "why"))) (file_rule (codes "file")))

-- in which file any cover is looked for, with which seed, whether it writes how far it has come, when it ends, and where a certificate goes
abbrev pub learn_app : App
learn_app = certified (timed (with_rule (with_rule (with_rule (versioned (new_app (codes "learn"))) (file_rule (codes "file"))) (number_rule (codes "seed") (codes "1"))) (flag_rule (codes "progress"))))

-- what sites search, how many nodes there are, and the seed of what is drawn
abbrev pub sites_app : Text → App
sites_app name =
    with_rule (with_rule (with_rule (with_rule (versioned (new_app name)) (file_rule (codes "file"))) (number_rule (codes "fuel") (codes "1000"))) (number_rule (codes "nodes") (codes "4"))) (number_rule (codes "seed") (codes "1"))

-- the same with how long a simulation goes on
abbrev pub simulate_app : App
simulate_app =
    with_rule (with_rule (sites_app (codes "simulate")) (number_rule (codes "turns") (codes "10000"))) (number_rule (codes "restarts") (codes "0"))

-- the same with how long threads go on, how often a node is restarted, how many threads there are, how long books may get, and how large
abbrev pub threads_app : App
threads_app =
    with_rule (with_rule (with_rule (with_rule (with_rule (sites_app (codes "solve")) (number_rule (codes "turns") (codes "1000000"))) (number_rule (codes "restarts") (codes "0"))) (number_rule (codes "workers") (codes "2"))) (number_rule (codes "entries") (codes "1000000"))) (limit_rule (codes "megabytes"))

-- that with whether the books are audited, when the run ends, and whether it writes how far it has come
abbrev pub solve_app : App
solve_app = with_rule (with_rule (with_rule threads_app (flag_rule (codes "audit"))) (limit_rule (codes "seconds"))) (flag_rule (codes "progress"))

-- a command that wants one of its subcommands
abbrev pub wanting_subcommand : App → App
wanting_subcommand app = record app { top = record app.top { subcommand_required = true } }

-- what answers by whatever is first
abbrev pub answering_app : App
answering_app = with_subcommand (wanting_subcommand (versioned (new_app (codes "solve_cli")))) answer_app.top

-- with what one thread searches and tests
abbrev pub one_thread_app : App
one_thread_app = with_subcommand (with_subcommand answering_app alone_app.top) check_app.top

-- with all else that one thread does
abbrev pub reasoning_app : App
reasoning_app = with_subcommand (with_subcommand one_thread_app why_app.top) learn_app.top

-- with what sites do
abbrev pub solver_app : App
solver_app = with_subcommand (with_subcommand reasoning_app simulate_app.top) solve_app.top

-- the word of the command line that asks for it
abbrev pub mode_word : Mode → Text
mode_word modes.Alone = codes "alone"
mode_word modes.Check = codes "check"
mode_word modes.Answer = codes "answer"
mode_word modes.Why = codes "why"
mode_word modes.Learn = codes "learn"
mode_word modes.Simulate = codes "simulate"
mode_word modes.Solve = codes "solve"

-- The text is decimal digits, of which the number is the value.
pub record Spells (text : Text) (number : ℕ) : Type 0 where
  pub digits : IsNumeral 10 text
  pub value : number ≡ digits_value 10 text

-- the number that an option spells; a subcommand that lacks the option has its default
abbrev pub SpellsOr : ℕ → Option Text → ℕ → Type 0
SpellsOr default None number = number ≡ default
SpellsOr default (Some text) number = Spells text number

-- the number that an option spells, if it is given
abbrev pub SpellsIf : Option Text → Option ℕ → Type 0
SpellsIf None number = number ≡ None
SpellsIf (Some text) number = (n : ℕ) × (number ≡ Some n) × Spells text n

-- the flag is set just where its entry is `true`, which clap enters for the option, as `false` where it is not given; a subcommand
-- that lacks the option has no entry
abbrev pub IsFlag : Option Text → Bool → Type 0
IsFlag given flag = (flag ≡ true) ↔ (given ≡ Some (codes "true"))

-- a check has the answer that was given, and no other mode has one
abbrev pub IsAnswerFile : Mode → Option Text → Option Text → Type 0
IsAnswerFile modes.Check answer given = (text : Text) × (given ≡ Some text) × (answer ≡ Some text)
IsAnswerFile _ answer given = answer ≡ None

-- The settings that a subcommand's name and the values of its arguments spell; their type has the ranges of the other numbers.
pub record AreSpelled (name : Text) (given : Text → Option Text) (settings : Settings) : Type 0 where
  pub mode_named : mode_word settings.mode ≡ name
  pub file_given : given (codes "file") ≡ Some settings.file.now
  pub answer_given : IsAnswerFile settings.mode (option_map (λ answer. answer.now) settings.answer) (given (codes "answer"))
  pub fuel_given : SpellsOr greatest_fuel (given (codes "fuel")) settings.fuel
  pub fuel_fits : settings.fuel < 2 ^ 64
  pub nodes_given : SpellsOr 4 (given (codes "nodes")) settings.nodes
  pub seed_given : SpellsOr 1 (given (codes "seed")) settings.seed
  pub seed_fits : settings.seed < 2 ^ 64
  pub workers_given : SpellsOr 2 (given (codes "workers")) settings.workers
  pub turns_given : SpellsOr 10000 (given (codes "turns")) settings.turns
  pub entries_given : SpellsOr 1000000 (given (codes "entries")) settings.entries
  pub restarts_given : SpellsOr 0 (given (codes "restarts")) settings.restarts
  pub audit_given : IsFlag (given (codes "audit")) settings.audit

-- The request that they spell: the settings, and what is asked beside them.
pub record IsSpelled (name : Text) (given : Text → Option Text) (request : Request) : Type 0 where
  pub settings : AreSpelled name given request.settings
  pub seconds_given : SpellsIf (given (codes "seconds")) request.seconds
  pub megabytes_given : SpellsIf (given (codes "megabytes")) request.megabytes
  pub progress_given : IsFlag (given (codes "progress")) request.progress
  pub unlimited_given : IsFlag (given (codes "unlimited")) request.unlimited
  pub threads_given : SpellsIf (given (codes "threads")) request.threads
  pub reason_given : IsFlag (given (codes "reason")) request.reason
  pub certificate_given : option_map (λ certificate. certificate.now) request.certificate ≡ given (codes "certificate")

-- The problem and the answer are both to be read from standard input.
pub record ReadsInputTwice (settings : Settings) : Type 0 where
  pub file : settings.file.now ≡ codes "-"
  pub answer : option_map (λ answer. answer.now) settings.answer ≡ Some (codes "-")

-- There is no limit of visits, and there is one.
pub record IsLimitedTwice (request : Request) : Type 0 where
  pub unlimited : request.unlimited ≡ true
  pub limited : request.settings.fuel ≢ greatest_fuel

-- A search with a limit of visits is to write a certificate.
pub record IsLimitedCertificate (request : Request) : Type 0 where
  pub alone : request.settings.mode ≡ modes.Alone
  pub limited : request.unlimited ≡ false
  pub asked : is_some request.certificate ≡ true

-- They are spelled by the subcommand that clap's definition of a simple command's matches gives for the words, with its values.
pub record AreMet (met : Option (Text × List Row)) (settings : Settings) : Type 0 where
  pub name : Text
  pub rows : List Row
  pub subcommand : met ≡ Some (name, rows)
  pub spelled : AreSpelled name (λ id. first_of id rows) settings

-- The same of a request.
pub record IsMet (met : Option (Text × List Row)) (request : Request) : Type 0 where
  pub name : Text
  pub rows : List Row
  pub subcommand : met ≡ Some (name, rows)
  pub spelled : IsSpelled name (λ id. first_of id rows) request

-- The status of what clap has to say: 0 for help and the version, else 2.
pub record IsLineStatus (kind : ErrorKind) (status : ℕ) : Type 0 where
  pub help : kind ≡ DisplayHelp → status ≡ 0
  pub version : kind ≡ DisplayVersion → status ≡ 0
  pub mistake : kind ≢ DisplayHelp → kind ≢ DisplayVersion → status ≡ 2

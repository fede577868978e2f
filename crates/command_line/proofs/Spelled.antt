-- A subcommand's name and values that spell no settings, or no request.
use Rattle.std.proofs.Common.{Option, Some, None, IfNone, rules}
use Rattle.clap.specs.Words.{Text}
use Rattle.run_settings.specs.declared.request.Request.{Request}
use Rattle.run_settings.specs.declared.settings.Settings.{Settings}
use Rattle.command_line.specs.CommandLine.{AreSpelled, IsSpelled}

-- no settings are spelled
abbrev pub AreUnspelled : Text → (Text → Option Text) → Type 0
AreUnspelled name given = (settings : Settings) → AreSpelled name given settings → ⊥

-- that holds where none were made, if it holds at all
pub none_spelled : (spelled : Option Settings) (name : Text) (given : Text → Option Text) → AreUnspelled name given → IfNone spelled (AreUnspelled name given)
none_spelled None name given none = none
none_spelled (Some settings) name given none = search rules

-- no request is spelled
abbrev pub AreNoRequest : Text → (Text → Option Text) → Type 0
AreNoRequest name given = (request : Request) → IsSpelled name given request → ⊥

-- that holds where none was made, if it holds at all
pub none_requested : (requested : Option Request) (name : Text) (given : Text → Option Text) → AreNoRequest name given → IfNone requested (AreNoRequest name given)
none_requested None name given none = none
none_requested (Some request) name given none = search rules

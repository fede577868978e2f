use Rattle.root_registry.proofs.Resulting.{event_enters, event_leaves}
use Rattle.root_registry.proofs.laws.the_root_has_what_enters.Goals as goal

pub returns-clause-enters : goal.returns-clause-enters
returns-clause-enters c = λ problem old new event reply out entered is step some. event_enters problem old new event reply out entered is step some

pub returns-clause-leaves : goal.returns-clause-leaves
returns-clause-leaves c = λ problem old new event reply out step none. event_leaves problem old new event reply out step none

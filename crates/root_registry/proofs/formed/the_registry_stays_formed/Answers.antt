use Rattle.root_registry.proofs.Beginning.{registry_begins}
use Rattle.root_registry.proofs.Walk.{registry_kept, registry_sends}
use Rattle.root_registry.proofs.formed.the_registry_stays_formed.Goals as goal

pub returns-clause-begins : goal.returns-clause-begins
returns-clause-begins c = λ problem nodes p some most. registry_begins problem nodes p some most

pub returns-clause-keeps : goal.returns-clause-keeps
returns-clause-keeps c = λ problem old new event reply out s. registry_kept problem old new event reply out s

pub returns-clause-sends : goal.returns-clause-sends
returns-clause-sends c = λ problem old new event reply out s. registry_sends problem old new event reply out s

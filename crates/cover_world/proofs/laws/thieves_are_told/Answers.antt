use Rattle.cover_world.proofs.Thieves.{event_told}
use Rattle.cover_world.proofs.laws.thieves_are_told.Goals as goal

pub returns : goal.returns
returns c = λ problem old new event reply out serial entry thief calls_off step.
    event_told problem old new serial entry thief calls_off event reply out step.1

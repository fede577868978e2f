-- What the registry published, as its book says it.
use Rattle.std.specs.Prelude.{List, [], ◌∷◌, Option, None, Some, option_map}
use Rattle.std.specs.Option.{option_or}
use Rattle.cover_problem.specs.Problem.{Problem}
use Rattle.cover_problem.specs.declared.answer.Answer.{Answer}
use Rattle.packet_wire.specs.declared.packet.Body.{Body}
use Rattle.packet_wire.specs.declared.packet.Body.TheVariants.{Accept}
use Rattle.packet_wire.specs.declared.packet.Packet.{Packet}
use Rattle.root_registry.specs.Published.{answer_of}
use Rattle.run_book.specs.Entries.{Entry}
use Rattle.spawn_frame.specs.declared.child_result.ChildResult.{ChildResult}

-- the result that a packet of this body accepts
abbrev pub accepted_in : Body → Option ChildResult
accepted_in (Accept serial attempt result) = Some result
accepted_in _ = None

-- the result in the first Accept of these packets
abbrev pub first_accepted : List Packet → Option ChildResult
first_accepted [] = None
first_accepted (packet ∷ packets) = option_or (accepted_in packet.body) (first_accepted packets)

-- the result in the first Accept of these entries
abbrev pub first_result : List Entry → Option ChildResult
first_result [] = None
first_result (entry ∷ entries) = option_or (first_accepted entry.packets) (first_result entries)

-- the answer of a book: what its first Accept published
abbrev pub book_answer : Problem → List Entry → Option Answer
book_answer problem entries = option_map (answer_of problem) (first_result entries)

use Rattle.std.proofs.lemmas.Result.{on_ok_weaker}
use Rattle.std.specs.Prelude.{codes}
use Rattle.reason_engine.specs.ReasonText.{room_text}
use Rattle.reason_engine.proofs.Lines.{two_pieces}
use Rattle.reason_engine.proofs.text.push_lack.Goals as goal

pub returns : goal.returns
returns c =
    on_ok_weaker c.push_room.result
    (λ e. two_pieces c.args.text.now.items (codes "too little room\n") (room_text c.args.problem.now c.args.room.now) c.extend_from_slice.new.self.items c.push_room.new.text.items
    c.in_ok-extend_from_slice.ensures.items e)
    c.push_room.ensures

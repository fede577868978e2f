use Rattle.cover_world.proofs.Arriving.{below_is_superseded, refused_so, stranger_is_superseded}
use Rattle.cover_world.proofs.refusals.superseded_return.Goals as goal

pub returns-clause-earlier : goal.returns-clause-earlier
returns-clause-earlier c = λ problem old new packet serial attempt returned entry reply out body is below opened step.
    refused_so problem old new packet serial attempt returned entry reply out body is (below_is_superseded entry packet.from attempt below opened) step

pub returns-clause-stranger : goal.returns-clause-stranger
returns-clause-stranger c = λ problem old new packet serial attempt returned entry thief reply out body is within out_there other step.
    refused_so problem old new packet serial attempt returned entry reply out body is (stranger_is_superseded entry thief packet.from attempt within out_there other) step

use Rattle.std.proofs.Common.{refl}
use Rattle.packet_wire.proofs.Whole.{header_of}
use Rattle.packet_wire.proofs.writing.spelling_of.Goals as goal

pub write_body-requires : goal.write_body-requires
write_body-requires c = (header_of c.args.packet.now c.requires).1

pub returns : goal.returns
returns c = rw (c.in_ok-write_body.ensures, c.in_ok-write_header.ensures, c.in_ok-text.ensures.items, c.of.ensures) refl

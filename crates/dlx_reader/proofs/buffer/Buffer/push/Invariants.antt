use Rattle.std.proofs.Common.{◌≡◌, ◌++◌, take}
use Rattle.dlx_reader.proofs.buffer.Buffer.push.Given as goal

abbrev pub invariant-loop-byte : goal.invariant-loop-byte
invariant-loop-byte l = l.self ≡ l.fn.self ++ take l.byte-index l.bytes

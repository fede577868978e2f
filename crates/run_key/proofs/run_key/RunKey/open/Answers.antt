use Rattle.std.proofs.Common.{◌≡◌, ◌+◌, length, Some, arith, ap}
use Rattle.std.proofs.lemmas.Grind.{common_steps}
use Rattle.run_key.proofs.Sealed.{bytes_of, code_of, length_sealed}
use Rattle.run_key.proofs.run_key.RunKey.open.Goals as goal

pub returns-in_err-many-clause-opens : goal.returns-in_err-many-clause-opens
returns-in_err-many-clause-opens c = λ bytes is.
    let long : length c.args.datagram.now ≡ length bytes + 16 = length_sealed c.args.self.now.bytes bytes c.args.datagram.now is in
    grind (arith, common_steps, long)

pub returns-then-is_same-clause-opens : goal.returns-then-is_same-clause-opens
returns-then-is_same-clause-opens c = λ bytes is.
    let split : c.in_ok-many.many + 16 ≡ length c.args.datagram.now = grind (arith, common_steps) in
    ap Some (bytes_of c.args.self.now.bytes bytes c.args.datagram.now c.in_ok-many.many split is)

pub returns-else-is_same-clause-opens : goal.returns-else-is_same-clause-opens
returns-else-is_same-clause-opens c = λ bytes is.
    let split : c.in_ok-many.many + 16 ≡ length c.args.datagram.now = grind (arith, common_steps) in
    let same = code_of c.args.self.now.bytes bytes c.args.datagram.now c.in_ok-many.many split is in
    grind (arith, common_steps, same)

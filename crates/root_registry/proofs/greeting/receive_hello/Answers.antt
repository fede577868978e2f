use Rattle.std.proofs.Common.{◌≡◌, Ok, Err, Result, None, ap, sym, ◌∙◌}
use Rattle.std.specs.Prelude.{IsErrAnd}
use Rattle.node_core.specs.Acting.{named_fault, refusal_told}
use Rattle.node_core.specs.declared.act_fault.ActFault.{ActFault}
use Rattle.node_core.specs.declared.act_fault.ActFault.TheVariants.{Memory}
use Rattle.node_core.specs.declared.reply.Reply.{Reply}
use Rattle.root_registry.proofs.Hellos.{hello_able, hello_refused}
use Rattle.root_registry.proofs.greeting.receive_hello.Goals as goal

-- that memory ran out is no refusal
memory_told : (result : Result Reply ActFault) → IsErrAnd result (λ fault. fault ≡ Memory) → refusal_told result ≡ None
memory_told (Ok reply) is = absurd is
memory_told (Err fault) is = ap named_fault is

pub returns-then-not-may_learn_hello-clause-refusal : goal.returns-then-not-may_learn_hello-clause-refusal
returns-then-not-may_learn_hello-clause-refusal c =
    sym (hello_refused c.args.state.now c.ledger.result.now c.args.from c.ledger.ensures c.if-not-may_learn_hello.ensures.spent)

pub returns-in_err-send_members-clause-refusal : goal.returns-in_err-send_members-clause-refusal
returns-in_err-send_members-clause-refusal c =
    memory_told c.from_residual.result c.from_residual.ensures.1
    ∙ sym (hello_able c.args.state.now c.ledger.result.now c.args.from c.ledger.ensures c.if-not-may_learn_hello.ensures.able)

pub returns-clause-refusal : goal.returns-clause-refusal
returns-clause-refusal c =
    sym (hello_able c.args.state.now c.ledger.result.now c.args.from c.ledger.ensures c.if-not-may_learn_hello.ensures.able)

use Rattle.std.proofs.Common.{rules, arith, ◌≡◌, ◌≤◌, ◌++◌, length, sum, ap, ◌∙◌}
use Rattle.std.specs.Prelude.{vec_len}
use Rattle.run_book.proofs.RecordedCores.{all_places}
use Rattle.run_book.proofs.recorded_core.RecordedCore.settle.Goals as goal

pub returns-clause-each : goal.returns-clause-each
returns-clause-each g c =
    let i = c.self.invariant in
    let back = c.take_tokens-register.ensures in
    let slice : c.as_slice.result.now ≡ c.args.seats.items = search rules in
    let counted : sum c.args.seats.items ≤ vec_len c.args.tokens = rw (← slice, ← c.len.ensures) c.in_default.ensures.receipts in
    let many : vec_len c.args.tokens ≡ length c.args.tokens.items = search rules in
    let entries = ap (λ d. d.entries) c.self.view_is in
    rw (← entries) (all_places _ _ _ _ c.look.ensures.apart (back.log ∙ i.log) (back.back ∙ ap (λ l. l ++ c.args.tokens.items) i.none_back)
    (omega (arith, counted, many, c.close.ensures, i.counted)))

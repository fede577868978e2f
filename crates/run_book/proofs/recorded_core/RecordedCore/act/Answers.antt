use Rattle.std.proofs.Common.{rules, ◌≡◌, ◌+◌, ◌++◌, ◌∷◌, [], ap, ◌∙◌}
use Rattle.run_book.proofs.RecordedCores.{recorded_core_lawful, recorded_core_next, recorded_core_reply_fits}
use Rattle.run_book.specs.Entries.{Entry}
use Rattle.run_book.proofs.recorded_core.RecordedCore.act.Goals as goal

pub act_on-requires-clause-fits : goal.act_on-requires-clause-fits
act_on-requires-clause-fits g c = λ reply out new acts. recorded_core_reply_fits _ _ _ _ _ _ _ _ _ c.self.invariant _ reply out new c.requires.fit acts

pub invariant_of-self-2 : goal.invariant_of-self-2
invariant_of-self-2 g c =
    let i = c.self.invariant in
    let acted : Entry = c.in_ok-entry.field-0.entry in
    let kept : Entry = c.shared-entry.result in
    let entry_is : kept ≡ record { event = c.args.prepared.event; reply = acted.reply; packets = acted.packets } =
    c.shared-entry.ensures ∙ (λ k. record { event = c.in_ok-entry.ensures.event k; reply = acted.reply; packets = acted.packets }) in
    recorded_core_next _ _ _ _ _ _ _ _ _ i kept _ _ _ _ _ _ _ _ _ c.requires.fit c.in_ok-entry.ensures.acts entry_is c.act_on.ensures.problem (search rules) (c.push_reserved.ensures.items ∙ ap (λ l. l ++ kept ∷ []) c.reserve.ensures.items) c.enter-receipt.ensures.log c.enter-receipt.ensures.back (c.count.ensures.total ∙ ap (λ s. s.total + 1) c.bound.ensures.all)

pub returns-clause-lawful : goal.returns-clause-lawful
returns-clause-lawful g c =
    let acted : Entry = c.in_ok-entry.field-0.entry in
    let kept : Entry = c.shared-entry.result in
    let entry_is : kept ≡ record { event = c.args.prepared.event; reply = acted.reply; packets = acted.packets } =
    c.shared-entry.ensures ∙ (λ k. record { event = c.in_ok-entry.ensures.event k; reply = acted.reply; packets = acted.packets }) in
    recorded_core_lawful _ _ _ _ _ _ _ _ _ c.self.invariant _ _ _ _ _ c.requires.fit c.in_ok-entry.ensures.acts (ap (λ p. p.entry) c.enter-receipt.ensures.receipt ∙ entry_is)

use Rattle.decider.proofs.decider.Decider.new.Goals as goal

pub invariant_of-result : goal.invariant_of-result
invariant_of-result c = λ key visits prefix holds is. absurd (c.in_ok-kept.ensures.empty key visits holds)

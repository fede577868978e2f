use Rattle.std.proofs.Common.{sym, subst}
use Rattle.cover_problem.specs.Problem.{Problem}
use Rattle.brancher.specs.declared.kernel.Kernel.{Kernel}
use Rattle.decider.specs.Deciding.{HaveNoCover}
use Rattle.brancher.specs.Kernels.{choices_in}
use Rattle.decider.proofs.decider.Decider.decide_traced.Goals as goal

pub decide-requires : goal.decide-requires
decide-requires g c =
    let S : Kernel → Type 0 = λ s. HaveNoCover (choices_in s).problem c.self.inside.kept.states in
    subst S c.in-Links.is c.self.invariant

pub invariant_of-self : goal.invariant_of-self
invariant_of-self g c =
    let P : Problem → Type 0 = λ p. HaveNoCover p c.decide.new.kept.states in
    subst P (sym c.decide.ensures.problem) c.decide.ensures.kept

pub decide-requires-in-Sets : goal.decide-requires-in-Sets
decide-requires-in-Sets g c =
    let S : Kernel → Type 0 = λ s. HaveNoCover (choices_in s).problem c.self.inside.kept.states in
    subst S c.in-Sets.is c.self.invariant

pub invariant_of-self-in-Sets : goal.invariant_of-self-in-Sets
invariant_of-self-in-Sets g c =
    let P : Problem → Type 0 = λ p. HaveNoCover p c.decide-in-Sets.new.kept.states in
    subst P (sym c.decide-in-Sets.ensures.problem) c.decide-in-Sets.ensures.kept

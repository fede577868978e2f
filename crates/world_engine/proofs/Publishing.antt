-- What a world publishes can be written: a cover stands in file order.
use Rattle.std.proofs.Common.{◌≡◌, Option, Some, None, Result, Ok, Err, IfOk, IfSome, sym, subst, ap, ◌∙◌}
use Rattle.cover_problem.proofs.Ordered.{in_order_rises}
use Rattle.cover_problem.specs.Problem.{Problem}
use Rattle.cover_problem.specs.declared.answer.Answer.{Answer}
use Rattle.cover_world.proofs.Published.{published_from}
use Rattle.cover_world.specs.Safety.{published}
use Rattle.cover_world.specs.Worlds.{World}
use Rattle.dlx_reader.specs.Writing.{IsWritable}
use Rattle.root_registry.specs.Published.{answer_of}
use Rattle.world_engine.specs.Simulate.{IsEnd, IsSimulated}
use Rattle.search_engines.specs.declared.fault.EngineFault.{EngineFault}
use Rattle.run_settings.specs.declared.settings.Settings.{Settings}
use Rattle.spawn_frame.specs.declared.child_result.ChildResult.{ChildResult}
use Rattle.spawn_frame.specs.declared.child_result.ChildResult.TheVariants.{Cover, Empty}

result_writable : (problem : Problem) (result : ChildResult) → IsWritable problem (answer_of problem result)
result_writable problem (Cover options) = in_order_rises problem options
result_writable problem Empty = tt

published_writable : (problem : Problem) (world : World) (answer : Answer) → published problem world ≡ Some answer → IsWritable problem answer
published_writable problem world answer is =
    let found = published_from problem world answer is in
    subst (IsWritable problem) found.shown (result_writable problem found.result)

pub writable : (problem at : Problem) (world : World) (given : Option Answer) → given ≡ published at world → at ≡ problem → IfSome given (IsWritable problem)
writable problem at world None is same = tt
writable problem at world (Some answer) is same = subst (λ (p : Problem). IsWritable p answer) same (published_writable at world answer (sym is))

-- a copy of it can be written too
pub ordered : (problem at : Problem) (world : World) (given : Option Answer) (copied : Result (Option Answer) EngineFault) → IfOk copied (λ answer. answer ≡ given)
    → given ≡ published at world → at ≡ problem → IfOk copied (λ answer. IfSome answer (IsWritable problem))
ordered problem at world given (Ok answer) copy is same = writable problem at world answer (copy ∙ is) same
ordered problem at world given (Err fault) copy is same = tt

-- a copy of it is what the simulation comes to
pub comes : (problem at : Problem) (settings : Settings) (world : World) (given : Option Answer) (copied : Result (Option Answer) EngineFault) → IfOk copied (λ answer. answer ≡ given)
    → given ≡ published at world → at ≡ problem → IsEnd problem settings world → IfOk copied (IsSimulated problem settings)
comes problem at settings world given (Ok answer) copy is same end = record { end = world; is_end = end; is = copy ∙ is ∙ ap (λ (p : Problem). published p world) same }
comes problem at settings world given (Err fault) copy is same end = tt

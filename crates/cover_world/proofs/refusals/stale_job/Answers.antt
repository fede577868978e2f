use Rattle.cover_world.proofs.refusals.stale_job.Goals as goal

pub returns : goal.returns
returns c = λ problem view job finding not_awaited reply out new step.
    not_awaited (record { entry = step.1.1.entry; is = step.1.1.is; here = step.1.1.here; attempt = step.1.1.attempt; prefix = step.1.1.prefix })

-- The test of a result that enters, and what it says.
use Rattle.std.proofs.Common.{◌≡◌, true, refl, sym, ap, true≢false}
use Rattle.cover_problem.proofs.Checks.{passes_of_exact, verdict_exact, passes_exact}
use Rattle.cover_problem.specs.Problem.{IsProblem, Problem}
use Rattle.cover_problem.specs.Verdict.{verdict_of}
use Rattle.cover_problem.specs.declared.verdict.Verdict.{Verdict}
use Rattle.cover_problem.specs.declared.verdict.Verdict.TheVariants as verdicts
use Rattle.root_registry.specs.Refusal.{is_acceptable, is_exact}
use Rattle.root_registry.specs.RegistryStep.{IsAcceptable}
use Rattle.spawn_frame.specs.declared.child_result.ChildResult.{ChildResult}
use Rattle.spawn_frame.specs.declared.child_result.ChildResult.TheVariants.{Cover, Empty}

exact_verdict : (verdict : Verdict) → is_exact verdict ≡ true → verdict ≡ verdicts.Exact
exact_verdict verdicts.Exact is = refl
exact_verdict verdicts.NoSuchOption is = absurd (true≢false (sym is))
exact_verdict _ is = absurd (true≢false (sym is))

-- a result that counts right passes
pub acceptable_passes : (problem : Problem) (result : ChildResult) → IsAcceptable problem result → is_acceptable problem result ≡ true
acceptable_passes problem (Cover options) h = ap is_exact (passes_exact problem options (passes_of_exact problem options h.0 h.1))
acceptable_passes problem Empty h = refl

-- and one that passes counts right
pub passing_is_acceptable : (problem : Problem) (result : ChildResult) → IsProblem problem → is_acceptable problem result ≡ true → IsAcceptable problem result
passing_is_acceptable problem (Cover options) is h =
    let both = (verdict_exact problem options is).0 (exact_verdict (verdict_of problem options) h) in
    (both.0, both.1)
passing_is_acceptable problem Empty is h = tt

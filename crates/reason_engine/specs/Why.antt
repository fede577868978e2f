-- What `why` says of a problem.
use Rattle.std.specs.Prelude.{◌≡◌, [], ◌++◌, codes, Option, None, Some, IfSome}
use Rattle.cover_problem.specs.Prefix.{IsBarren}
use Rattle.cover_problem.specs.Problem.{Problem}
use Rattle.reason_engine.specs.Causes.{IsCause, cause_text}
use Rattle.reason_engine.specs.declared.cause.Cause.{Cause}
use Rattle.search_engines.specs.Output.{Said, said}

-- that there is no cover, and the cause, with status 1; or that no reason was found, with status 4
abbrev pub why_said : Problem → Option Cause → Said
why_said problem (Some cause) = said (codes "none\n" ++ cause_text problem cause) 1
why_said problem None = said (codes "no reason found\n") 4

-- It says a cause of the problem, which then has no exact cover, or that none was found.
pub record WhySays (problem : Problem) (what : Said) : Type 0 where
  pub cause : Option Cause
  pub holds : IfSome cause (IsCause problem)
  pub barren : IfSome cause (λ found. IsBarren problem [])
  pub is : what ≡ why_said problem cause

-- Why a problem has no exact cover, and the lines of that.
use Rattle.std.specs.Prelude.{◌≡◌, ℕ, List, ◌++◌, codes, true}
use Rattle.std.specs.List.{flat_map}
use Rattle.case_reasons.specs.Cases.{AreCases}
use Rattle.clash_cliques.specs.Cliques.{IsWithCliques}
use Rattle.cover_problem.specs.Problem.{Problem}
use Rattle.cover_reasons.specs.Reasons.{holds_of}
use Rattle.cover_reasons.specs.Room.{is_too_little}
use Rattle.cover_reasons.specs.declared.reason.Reason.TheVariants as reasons
use Rattle.reason_engine.specs.ReasonText.{cases_text, clique_text, kind_text, room_text}
use Rattle.reason_engine.specs.declared.cause.Cause.{Cause}
use Rattle.reason_engine.specs.declared.cause.Cause.TheVariants as causes
use Rattle.used_items.specs.Orders.{IsPromoted}

-- whether it is one of the problem: a reason that holds of it, or of one that has the same exact covers, or cases: each exact cover has the option of
-- one of them
abbrev pub IsCause : Problem → Cause → Type 0
IsCause problem (causes.AsItStands reason) = holds_of problem reason ≡ true
IsCause problem (causes.ByUsedItems made reason) = IsPromoted problem made.room made.problem × (holds_of made.problem reason ≡ true)
IsCause problem (causes.ByCliques by) = IsWithCliques problem by.cliques.items by.problem × (is_too_little by.problem by.room ≡ true)
IsCause problem (causes.ByCases cases) = AreCases problem cases

-- its lines: the kind of the reason and what counts, behind the room that is just enough or the cliques, if it is by these; or those of cases
abbrev pub cause_text : Problem → Cause → List ℕ
cause_text problem (causes.AsItStands reason) = kind_text problem reason
cause_text problem (causes.ByUsedItems made reason) = codes "just enough room\n" ++ room_text problem made.room ++ kind_text made.problem reason
cause_text problem (causes.ByCliques by) = codes "cliques\n" ++ flat_map clique_text by.cliques.items ++ kind_text by.problem (reasons.TooLittleRoom by.room)
cause_text problem (causes.ByCases cases) = cases_text problem cases

-- What the registry publishes.
use Rattle.std.specs.Prelude.{◌≡◌, Option, Some, None, option_map, slice_get}
use Rattle.cover_problem.specs.ExactCover.{in_order}
use Rattle.cover_problem.specs.Problem.{Problem}
use Rattle.cover_problem.specs.declared.answer.Answer.{Answer}
use Rattle.cover_problem.specs.declared.answer.Answer.TheVariants as answers
use Rattle.node_core.specs.SiteView.{View}
use Rattle.node_core.specs.declared.event.Event.{Event}
use Rattle.node_core.specs.declared.event.Event.TheVariants.{Deliver}
use Rattle.packet_wire.specs.declared.packet.Body.{Body}
use Rattle.packet_wire.specs.declared.packet.Body.TheVariants.{Return}
use Rattle.root_registry.specs.Formed.{IsFormedRegistry}
use Rattle.root_registry.specs.RegistryStep.{root_result}
use Rattle.spawn_frame.specs.declared.child_result.ChildResult.{ChildResult}
use Rattle.spawn_frame.specs.declared.child_result.ChildResult.TheVariants.{Cover, Empty}
use Rattle.spawn_frame.specs.declared.site.Site.{Site}
use Rattle.steal_return.specs.Returns.{Enters, Judgement, judged}

-- a result as an answer: the cover with its options in file order, or that there is none
abbrev pub answer_of : Problem → ChildResult → Answer
answer_of problem (Cover options) = answers.Cover (in_order problem options)
answer_of problem Empty = answers.NoCover

-- the root's result as an answer, once the root is done
abbrev pub published_by : Problem → View → Option Answer
published_by problem view = option_map (answer_of problem) (root_result view)

-- ---- what an event publishes

-- a result where it enters
abbrev pub if_enters : ChildResult → Judgement → Option ChildResult
if_enters result Enters = Some result
if_enters result _ = None

-- the result that enters with a packet of this body
abbrev pub entering_with : View → Site → Body → Option ChildResult
entering_with view from (Return serial attempt result) = if_enters result (judged (slice_get view.own serial) from attempt)
entering_with view from _ = None

-- the result that enters by an event
abbrev pub entering : View → Event → Option ChildResult
entering view (Deliver packet) = entering_with view packet.from packet.body
entering view _ = None

-- A problem, and the answer to it that is published, once there is one.
pub record Publication : Type 0 where
  pub problem : Problem
  pub answer : Option Answer

-- a problem of which nothing is published yet
abbrev pub unanswered : Problem → Publication
unanswered problem = record { problem = problem; answer = None }

-- the same problem with this answer
abbrev pub answered : Publication → Answer → Publication
answered old answer = record old { answer = Some answer }

-- what is published once a result enters, if one does
abbrev pub publishing : Publication → Option ChildResult → Publication
publishing old None = old
publishing old (Some result) = answered old (answer_of old.problem result)

-- What is true of the registry: its view is formed, and what it holds as published is what the view publishes.
pub record IsPublishing (problem : Problem) (view : View) (answer : Option Answer) : Type 0 where
  pub formed : IsFormedRegistry problem view
  pub answer_is : answer ≡ published_by problem view

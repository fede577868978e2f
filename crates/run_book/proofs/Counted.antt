-- A cover that the registry publishes was counted.
use Rattle.std.proofs.Common.{◌≡◌, ℕ, zero, suc, List, [], ◌∷◌, Option, None, Some, IfSome, option_map, arith, refl, sym, ap, subst, ◌∙◌}
use Rattle.std.proofs.lemmas.Option.{none-some, same_Some}
use Rattle.cover_problem.proofs.Ordered.{in_order_rises}
use Rattle.cover_problem.proofs.Sets.{in_order_same}
use Rattle.cover_problem.specs.ExactCover.{IsExactCover}
use Rattle.cover_problem.specs.Problem.{Problem}
use Rattle.cover_problem.specs.declared.answer.Answer.{Answer}
use Rattle.node_core.specs.SiteView.{View}
use Rattle.node_core.specs.declared.event.Event.{Event}
use Rattle.node_core.specs.declared.event.Event.TheVariants.{Again, Ask, Deliver, Finish, Greet, Post, Redo, Take}
use Rattle.node_core.specs.declared.reply.Reply.{Reply}
use Rattle.packet_wire.specs.declared.packet.Body.{Body}
use Rattle.packet_wire.specs.declared.packet.Body.TheVariants as bodies
use Rattle.packet_wire.specs.declared.packet.Packet.{Packet}
use Rattle.root_registry.proofs.Resulting.{event_enters, event_leaves}
use Rattle.root_registry.specs.Formed.{IsFormedRegistry}
use Rattle.root_registry.specs.Published.{answer_of, entering, entering_with, if_enters, published_by}
use Rattle.root_registry.specs.RegistryStep.{IsAcceptable, RegistryStep, RootAnswers, RootHears, root_result}
use Rattle.run_book.proofs.Answering.{book_tells}
use Rattle.run_book.proofs.Sites.{formed_at_first, formed_next}
use Rattle.run_book.specs.Answers.{book_answer}
use Rattle.run_book.specs.Books.{Book, EndsIn, IsBook, LeadsTo}
use Rattle.run_book.specs.Entries.{Entry}
use Rattle.run_book.specs.Runs.{CountsRight}
use Rattle.run_book.specs.Sites.{IsRun, MayBeginAt, RunName, opening_at}
use Rattle.spawn_frame.specs.declared.child_result.ChildResult.{ChildResult}
use Rattle.spawn_frame.specs.declared.child_result.ChildResult.TheVariants.{Cover, Empty}
use Rattle.spawn_frame.specs.declared.site.Site.{Site}
use Rattle.steal_return.specs.Returns.{Enters as EntersNow, Holds, Judgement, Refuses}

-- ---- a result that enters

answered : (problem : Problem) (old : View) (from : Site) (serial attempt : ℕ) (result entered : ChildResult) (j : Judgement) (out : List Packet) (new : View)
    → RootAnswers problem old from serial attempt result j out new → if_enters result j ≡ Some entered → IsAcceptable problem entered
answered problem old from serial attempt result entered EntersNow out new a some = subst (IsAcceptable problem) (same_Some result entered some) a.0
answered problem old from serial attempt result entered (Holds held) out new a some = absurd (none-some entered some)
answered problem old from serial attempt result entered (Refuses cause) out new a some = absurd (none-some entered some)

heard : (problem : Problem) (old : View) (from : Site) (body : Body) (reply : Reply) (out : List Packet) (new : View) (entered : ChildResult)
    → RootHears problem old from body reply out new → entering_with old from body ≡ Some entered → IsAcceptable problem entered
heard problem old from (bodies.Return serial attempt result) reply out new entered h some =
    answered problem old from serial attempt result entered h.1.0 out new h.1.2 (ap (if_enters result) (sym h.1.1) ∙ some)
heard problem old from bodies.Hello reply out new entered h some = absurd (none-some entered some)
heard problem old from bodies.Steal reply out new entered h some = absurd (none-some entered some)
heard problem old from (bodies.Members incarnations) reply out new entered h some = absurd h
heard problem old from (bodies.Give serial attempt prefix) reply out new entered h some = absurd h
heard problem old from (bodies.GiveMany prefix siblings) reply out new entered h some = absurd h
heard problem old from bodies.NoWork reply out new entered h some = absurd h
heard problem old from (bodies.Accept serial attempt result) reply out new entered h some = absurd h
heard problem old from (bodies.Refuse serial attempt cause) reply out new entered h some = absurd h
heard problem old from (bodies.Abort serial attempt) reply out new entered h some = absurd h
heard problem old from bodies.Over reply out new entered h some = absurd h

-- a result that enters by a step was counted
stepped : (problem : Problem) (old : View) (event : Event) (reply : Reply) (out : List Packet) (new : View) (entered : ChildResult)
    → RegistryStep problem old event reply out new → entering old event ≡ Some entered → IsAcceptable problem entered
stepped problem old (Deliver packet) reply out new entered s some = heard problem old packet.from packet.body reply out new entered s.2 some
stepped problem old (Redo serial) reply out new entered s some = absurd (none-some entered some)
stepped problem old Again reply out new entered s some = absurd (none-some entered some)
stepped problem old Take reply out new entered s some = absurd s
stepped problem old (Post job finding) reply out new entered s some = absurd s
stepped problem old (Finish unit) reply out new entered s some = absurd s
stepped problem old (Ask victim) reply out new entered s some = absurd s
stepped problem old Greet reply out new entered s some = absurd s

-- ---- the root's result

keeps : (problem : Problem) (old : View) (event : Event) (reply : Reply) (out : List Packet) (new : View) (came : Option ChildResult)
    → IsFormedRegistry problem old → RegistryStep problem old event reply out new → entering old event ≡ came
    → IfSome (root_result old) (IsAcceptable problem) → IfSome (root_result new) (IsAcceptable problem)
keeps problem old event reply out new None formed s none h =
    subst (λ (r : Option ChildResult). IfSome r (IsAcceptable problem)) (sym (event_leaves problem old new event reply out s none)) h
keeps problem old event reply out new (Some entered) formed s some h =
    subst (λ (r : Option ChildResult). IfSome r (IsAcceptable problem)) (sym (event_enters problem old new event reply out entered formed s some))
    (stepped problem old event reply out new entered s some)

led : (problem : Problem) (first : View) (entries : List Entry) (last : View) → IsFormedRegistry problem first → LeadsTo 0 problem first entries last
    → IfSome (root_result first) (IsAcceptable problem) → IfSome (root_result last) (IsAcceptable problem)
led problem first [] last formed l h = subst (λ (v : View). IfSome (root_result v) (IsAcceptable problem)) l h
led problem first (e ∷ es) last formed l h =
    led problem l.0 es last (formed_next 0 problem first l.0 e formed l.1) l.2
    (keeps problem first e.event e.reply e.packets l.0 (entering first e.event) formed l.1.acts.steps refl h)

registry_counts : (n : ℕ) (run : RunName) (site : Site) (limit : ℕ) (entries : List Entry) (last : View) → n ≡ 0 → IsRun run
    → MayBeginAt n site run.nodes limit → LeadsTo n run.problem (opening_at n site run.nodes limit) entries last
    → IfSome (root_result last) (IsAcceptable run.problem)
registry_counts zero run site limit entries last at is may l =
    led run.problem (opening_at 0 site run.nodes limit) entries last (formed_at_first 0 run site limit is may) l tt
registry_counts (suc n) run site limit entries last at is may l = absurd (omega (arith, at))

-- ---- as an answer

counts_right : (problem : Problem) (result : ChildResult) → IsAcceptable problem result → CountsRight problem (answer_of problem result)
counts_right problem (Cover options) h =
    (subst (IsExactCover problem) (λ i o. sym (in_order_same problem options o (h.1.in_range o)) i) h.1, in_order_rises problem options)
counts_right problem Empty h = tt

shown : (problem : Problem) (came : Option ChildResult) → IfSome came (IsAcceptable problem) → IfSome (option_map (answer_of problem) came) (CountsRight problem)
shown problem None h = tt
shown problem (Some result) h = counts_right problem result h

-- what the last view of the registry's book publishes counts right
published_right : (run : RunName) (book : Book) (limit : ℕ) (last : View) → book.site.node ≡ 0 → EndsIn run book limit last
    → IfSome (published_by run.problem last) (CountsRight run.problem)
published_right run book limit last at ends =
    shown run.problem (root_result last) (registry_counts book.site.node run book.site limit book.entries last at ends.lawful ends.begins ends.leads)

-- the answer of the registry's book counts right
pub answer_right : (run : RunName) (book : Book) → book.site.node ≡ 0 → IsBook run book → IfSome (book_answer run.problem book.entries) (CountsRight run.problem)
answer_right run book at (limit, last, ends) =
    subst (λ (answer : Option Answer). IfSome answer (CountsRight run.problem)) (sym (book_tells run book limit last at ends)) (published_right run book limit last at ends)

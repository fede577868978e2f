-- Sites of a run: what is true of each when it begins and stays true, and how long the prefixes in it are.
use Rattle.std.proofs.Common.{◌≡◌, ℕ, zero, suc, ◌≤◌, List, [], ◌∷◌, length, refl, sym, ap, subst, arith, true, inl, inr, ⊎_elim, ◌⊎◌}
use Rattle.cover_problem.proofs.Firsts.{few_options}
use Rattle.cover_problem.specs.Prefix.{is_prefix}
use Rattle.cover_problem.specs.Problem.{IsProblem, Problem}
use Rattle.node_core.proofs.Beginning.{begins_formed}
use Rattle.node_core.proofs.Prefixes.{formed_prefixes}
use Rattle.node_core.proofs.Walk.{node_kept}
use Rattle.node_core.specs.NodeStep.{HearStep, NodeStep}
use Rattle.node_core.specs.Requests.{moved_by}
use Rattle.node_core.specs.SiteView.{View}
use Rattle.node_core.specs.declared.event.Event.{Event}
use Rattle.node_core.specs.declared.event.Event.TheVariants.{Again, Ask, Deliver, Finish, Greet, Post, Redo, Take}
use Rattle.node_core.specs.declared.reply.Reply.{Reply}
use Rattle.node_core.specs.declared.reply.Reply.TheVariants.{Idle, Ignored, Moved, Ripe, Taken}
use Rattle.packet_wire.specs.declared.packet.Body.{Body}
use Rattle.packet_wire.specs.declared.packet.Body.TheVariants.{Abort, Accept, Give, GiveMany, Hello, Members, NoWork, Over, Refuse, Return, Steal}
use Rattle.packet_wire.specs.declared.packet.Packet.{Packet}
use Rattle.root_registry.proofs.Beginning.{registry_begins}
use Rattle.root_registry.proofs.Walk.{registry_kept}
use Rattle.root_registry.specs.RegistryStep.{RegistryStep, RootHears}
use Rattle.run_book.specs.Books.{Enters}
use Rattle.run_book.specs.RecordedCores.{prefix_in, room_for}
use Rattle.run_book.specs.Entries.{Entry}
use Rattle.run_book.specs.Sites.{FormedAt, IsRun, MayBeginAt, RunName, StepAt, StepsAt, opening_at}
use Rattle.spawn_frame.specs.declared.site.Site.{Site}

pub formed_at_first : (n : ℕ) (run : RunName) (site : Site) (limit : ℕ) → IsRun run → MayBeginAt n site run.nodes limit
    → FormedAt n run.problem (opening_at n site run.nodes limit)
formed_at_first zero run site limit is may = registry_begins run.problem run.nodes is.lawful is.some is.most
formed_at_first (suc n) run site limit is may = begins_formed run.problem site run.nodes limit is.lawful may

pub formed_next : (n : ℕ) (problem : Problem) (old new : View) (entry : Entry) → FormedAt n problem old → Enters n problem old entry new
    → FormedAt n problem new
formed_next zero problem old new entry formed e =
    registry_kept problem old new entry.event entry.reply entry.packets (record { before = formed; fit = e.fit; step = e.acts.steps })
formed_next (suc n) problem old new entry formed e =
    node_kept problem old new entry.event entry.reply entry.packets (record { before = formed; fit = e.fit; step = e.acts.steps })

pub site_at_first : (n : ℕ) (site : Site) (nodes limit : ℕ) → MayBeginAt n site nodes limit → (opening_at n site nodes limit).site ≡ site
site_at_first zero site nodes limit may = sym may
site_at_first (suc n) site nodes limit may = refl

-- ---- what a reply holds

moved_holds : (reply : Reply) → reply ≡ Moved → prefix_in reply ≡ []
moved_holds reply is = ap prefix_in is

moved_by_holds : (reply : Reply) (out : List Packet) → reply ≡ moved_by out → prefix_in reply ≡ []
moved_by_holds reply [] is = ap prefix_in is
moved_by_holds reply (p ∷ ps) is = ap prefix_in is

hearing_holds : (problem : Problem) (old new : View) (from : Site) (body : Body) (reply : Reply) (out : List Packet)
    → HearStep problem old from body reply out new → prefix_in reply ≡ []
hearing_holds problem old new from body (Ripe unit) out s = refl
hearing_holds problem old new from body Idle out s = refl
hearing_holds problem old new from body Moved out s = refl
hearing_holds problem old new from body Ignored out s = refl
hearing_holds problem old new from Hello (Taken job prefix) out s = absurd s
hearing_holds problem old new from (Members incarnations) (Taken job prefix) out s = absurd s.1
hearing_holds problem old new from Steal (Taken job prefix) out s = moved_holds (Taken job prefix) s.0
hearing_holds problem old new from (Give serial attempt given) (Taken job prefix) out s = absurd s
hearing_holds problem old new from (GiveMany given siblings) (Taken job prefix) out s = absurd s
hearing_holds problem old new from NoWork (Taken job prefix) out s = ap prefix_in s.0
hearing_holds problem old new from (Return serial attempt result) (Taken job prefix) out s = moved_holds (Taken job prefix) s.0
hearing_holds problem old new from (Accept serial attempt result) (Taken job prefix) out s = absurd s
hearing_holds problem old new from (Refuse serial attempt cause) (Taken job prefix) out s = absurd s
hearing_holds problem old new from (Abort serial attempt) (Taken job prefix) out s = absurd s
hearing_holds problem old new from Over (Taken job prefix) out s = moved_holds (Taken job prefix) s.0

root_hearing_holds : (problem : Problem) (old new : View) (from : Site) (body : Body) (reply : Reply) (out : List Packet)
    → RootHears problem old from body reply out new → prefix_in reply ≡ []
root_hearing_holds problem old new from Hello reply out s = moved_holds reply s.0
root_hearing_holds problem old new from Steal reply out s = moved_holds reply s.0
root_hearing_holds problem old new from (Return serial attempt result) reply out s = moved_holds reply s.0
root_hearing_holds problem old new from (Members incarnations) reply out s = absurd s
root_hearing_holds problem old new from (Give serial attempt given) reply out s = absurd s
root_hearing_holds problem old new from (GiveMany given siblings) reply out s = absurd s
root_hearing_holds problem old new from NoWork reply out s = absurd s
root_hearing_holds problem old new from (Accept serial attempt result) reply out s = absurd s
root_hearing_holds problem old new from (Refuse serial attempt cause) reply out s = absurd s
root_hearing_holds problem old new from (Abort serial attempt) reply out s = absurd s
root_hearing_holds problem old new from Over reply out s = absurd s

no_longer : (prefix : List ℕ) (n : ℕ) → prefix ≡ [] → length prefix ≤ n
no_longer prefix n is = subst (λ (l : List ℕ). length l ≤ n) (sym is) (omega arith)

root_holds_none : (problem : Problem) (old new : View) (event : Event) (reply : Reply) (out : List Packet)
    → RegistryStep problem old event reply out new → prefix_in reply ≡ []
root_holds_none problem old new Take reply out s = absurd s
root_holds_none problem old new (Post job finding) reply out s = absurd s
root_holds_none problem old new (Finish unit) reply out s = absurd s
root_holds_none problem old new (Ask victim) reply out s = absurd s
root_holds_none problem old new (Redo serial) reply out s = moved_holds reply s.0
root_holds_none problem old new (Deliver packet) reply out s = root_hearing_holds problem old new packet.from packet.body reply out s.2
root_holds_none problem old new Again reply out s = moved_by_holds reply out s.2
root_holds_none problem old new Greet reply out s = absurd s

-- a reply holds no prefix, or it is that to a Take, whose prefix is one
abbrev HoldsPrefix : Problem → Event → Reply → Type 0
HoldsPrefix problem event reply = (prefix_in reply ≡ []) ⊎ ((event ≡ Take) × (is_prefix problem (prefix_in reply) ≡ true))

node_holds : (problem : Problem) (old new : View) (event : Event) (reply : Reply) (out : List Packet)
    → FormedAt 1 problem old → NodeStep problem old event reply out new → HoldsPrefix problem event reply
node_holds problem old new Take (Taken job prefix) out formed s =
    let is = s.1 in
    inr (refl, subst (λ (l : List ℕ). is_prefix problem l ≡ true) (sym is.prefix_is) (formed_prefixes problem old formed job.unit is.entry is.is))
node_holds problem old new Take (Ripe unit) out formed s = inl refl
node_holds problem old new Take Idle out formed s = inl refl
node_holds problem old new Take Moved out formed s = inl refl
node_holds problem old new Take Ignored out formed s = inl refl
node_holds problem old new (Post job finding) reply out formed s = inl (moved_holds reply s.1.0)
node_holds problem old new (Finish unit) reply out formed s = inl (moved_holds reply s.1.0)
node_holds problem old new (Ask victim) reply out formed s = inl (moved_holds reply s.1.0)
node_holds problem old new (Redo serial) reply out formed s = inl (moved_holds reply s.1.0)
node_holds problem old new (Deliver packet) reply out formed s = inl (hearing_holds problem old new packet.from packet.body reply out s.1.2)
node_holds problem old new Again reply out formed s = inl (moved_by_holds reply out s.1.2)
node_holds problem old new Greet reply out formed s = inl (moved_holds reply s.1.0)

reply_holds : (n : ℕ) (problem : Problem) (old new : View) (event : Event) (reply : Reply) (out : List Packet)
    → FormedAt n problem old → StepAt n problem old event reply out new → HoldsPrefix problem event reply
reply_holds zero problem old new event reply out formed s = inl (root_holds_none problem old new event reply out s)
reply_holds (suc n) problem old new event reply out formed s = node_holds problem old new event reply out formed s

lawful_at : (n : ℕ) (problem : Problem) (view : View) → FormedAt n problem view → IsProblem problem
lawful_at zero problem view formed = formed.formed.lawful
lawful_at (suc n) problem view formed = formed.formed.lawful

-- the prefix of a reply fits into the room that is made for it
pub reply_fits : (n : ℕ) (problem : Problem) (old new : View) (event : Event) (reply : Reply) (out : List Packet)
    → FormedAt n problem old → StepAt n problem old event reply out new → length (prefix_in reply) ≤ room_for event
reply_fits n problem old new event reply out formed s = ⊎_elim
    (λ (none : prefix_in reply ≡ []). no_longer _ (room_for event) none)
    (λ (p : (event ≡ Take) × (is_prefix problem (prefix_in reply) ≡ true)).
    subst (λ (e : Event). length (prefix_in reply) ≤ room_for e) (sym p.0) (few_options problem (prefix_in reply) (lawful_at n problem old formed) p.1))
    (reply_holds n problem old new event reply out formed s)

-- it is a prefix
pub reply_prefix : (n : ℕ) (problem : Problem) (old new : View) (event : Event) (reply : Reply) (out : List Packet)
    → FormedAt n problem old → StepAt n problem old event reply out new → is_prefix problem (prefix_in reply) ≡ true
reply_prefix n problem old new event reply out formed s = ⊎_elim
    (λ (none : prefix_in reply ≡ []). ap (is_prefix problem) none)
    (λ (p : (event ≡ Take) × (is_prefix problem (prefix_in reply) ≡ true)). p.1)
    (reply_holds n problem old new event reply out formed s)

-- ---- the steps of the cores

pub nodes_step : (n : ℕ) → 1 ≤ n → StepsAt n NodeStep
nodes_step zero first = absurd (omega arith)
nodes_step (suc n) first = λ problem old event reply out new s. s

pub registry_steps : (n : ℕ) → n ≡ 0 → StepsAt n RegistryStep
registry_steps zero is = λ problem old event reply out new s. s
registry_steps (suc n) is = absurd (omega (arith, is))

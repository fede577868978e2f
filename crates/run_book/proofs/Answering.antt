-- The registry's first Accept holds the root's result.
use Rattle.std.proofs.Common.{◌≡◌, ℕ, zero, suc, Bool, true, false, List, [], ◌∷◌, ◌++◌, map, drop, Option, Some, None, slice_get, option_map, arith, refl, sym, ap, ◌∙◌, inl, inr, ◌&&◌, nat_lt, ◌==◌, if◌then◌else◌}
use Rattle.std.proofs.lemmas.Option.{none-some}
use Rattle.std.specs.Option.{option_or}
use Rattle.cover_problem.specs.Problem.{Problem}
use Rattle.node_core.specs.Requests.{give_again, gives_again}
use Rattle.node_core.specs.SiteView.{View}
use Rattle.node_core.specs.declared.event.Event.{Event}
use Rattle.node_core.specs.declared.event.Event.TheVariants.{Again, Ask, Deliver, Finish, Greet, Post, Redo, Take}
use Rattle.node_core.specs.declared.reply.Reply.{Reply}
use Rattle.packet_wire.specs.Gifts.{is_gift}
use Rattle.packet_wire.specs.declared.packet.Body.{Body}
use Rattle.packet_wire.specs.declared.packet.Body.TheVariants as bodies
use Rattle.packet_wire.specs.declared.packet.Packet.{Packet}
use Rattle.root_registry.proofs.Resulting.{event_enters, event_leaves}
use Rattle.root_registry.specs.Formed.{IsFormedRegistry, origin}
use Rattle.root_registry.specs.Published.{answer_of, entering, entering_with, if_enters, published_by}
use Rattle.root_registry.specs.RegistryStep.{RegistryStep, RootAnswers, RootHears, RootSteal, entry_result, if_done, root_result, status_result, to_each}
use Rattle.run_book.proofs.Sites.{formed_at_first, formed_next}
use Rattle.run_book.specs.Answers.{accepted_in, book_answer, first_accepted, first_result}
use Rattle.run_book.specs.Books.{Book, EndsIn, LeadsTo}
use Rattle.run_book.specs.Entries.{Entry}
use Rattle.run_book.specs.Sites.{IsRun, MayBeginAt, RunName, opening_at}
use Rattle.spawn_frame.specs.Names.{same_site}
use Rattle.spawn_frame.specs.Units.{Entry as UnitEntry}
use Rattle.spawn_frame.specs.declared.cause.Cause.TheVariants as causes
use Rattle.spawn_frame.specs.declared.child_result.ChildResult.{ChildResult}
use Rattle.spawn_frame.specs.declared.site.Site.{Site}
use Rattle.spawn_frame.specs.declared.status.Status.{Status}
use Rattle.spawn_frame.specs.declared.status.Status.TheVariants.{Aborted, Done, Dropped, Finished, Here, Out, Ready, Settled, Split}
use Rattle.steal_return.specs.Returns.{Enters as EntersNow, Holds, Judgement, Refuses, if_out, judged, judged_by}

-- ---- packets that accept nothing

none_or : (a b c : Option ChildResult) → option_or a b ≡ None → (b ≡ None → c ≡ None) → option_or a c ≡ None
none_or None b c none more = more none
none_or (Some r) b c none more = absurd (none-some r (sym none))

none_with : (xs ys : List Packet) → first_accepted xs ≡ None → first_accepted ys ≡ None → first_accepted (xs ++ ys) ≡ None
none_with [] ys none more = more
none_with (x ∷ xs) ys none more = none_or (accepted_in x.body) (first_accepted xs) (first_accepted (xs ++ ys)) none (λ e. none_with xs ys e more)

none_of_each : (from : Site) (body : Body) (node : ℕ) (known : List ℕ) → accepted_in body ≡ None → first_accepted (to_each from body node known) ≡ None
none_of_each from body node [] none = refl
none_of_each from body node (k ∷ ks) none = ap (λ a. option_or a (first_accepted (to_each from body (suc node) ks))) none ∙ none_of_each from body (suc node) ks none

none_given : (from : Site) (serial : ℕ) (c : UnitEntry) (s : Status) → first_accepted (give_again from serial c s) ≡ None
none_given from serial c (Out thief) = refl
none_given from serial c Ready = refl
none_given from serial c _ = refl

none_of_gives : (from : Site) (serial : ℕ) (own : List UnitEntry) → first_accepted (gives_again from serial own) ≡ None
none_of_gives from serial [] = refl
none_of_gives from serial (c ∷ cs) = none_with (give_again from serial c c.status) _ (none_given from serial c c.status) (none_of_gives from (suc serial) cs)

none_if_done : (o : Option ChildResult) (packets : List Packet) → first_accepted packets ≡ None → first_accepted (if_done o packets) ≡ None
none_if_done None packets none = refl
none_if_done (Some r) packets none = none

-- ---- the root as a result finds it

held_status : (s : Status) (from : Site) (same : Bool) (held : ChildResult) → judged_by s from same ≡ Holds held → status_result s ≡ Some held
held_status (Done r) from same held is = same_held r held is
  where
    same_held : (r held : ChildResult) → Holds r ≡ Holds held → Some r ≡ Some held
    same_held r held is = cc
held_status (Out thief) from same held is = not_held (same_site thief from && same) held is
  where
    not_held : (b : Bool) (held : ChildResult) → if_out b ≡ Holds held → None ≡ Some held
    not_held true held is = absurd (cc)
    not_held false held is = absurd (cc)
held_status Aborted from same held is = absurd (cc)
held_status Ready from same held is = absurd (cc)
held_status Here from same held is = absurd (cc)
held_status Split from same held is = absurd (cc)
held_status (Finished r) from same held is = absurd (cc)
held_status (Settled r) from same held is = absurd (cc)
held_status Dropped from same held is = absurd (cc)

entering_status : (s : Status) (from : Site) (same : Bool) → judged_by s from same ≡ EntersNow → status_result s ≡ None
entering_status (Done r) from same is = absurd (cc)
entering_status Ready from same is = refl
entering_status _ from same is = refl

held_child : (late : Bool) (c : UnitEntry) (from : Site) (same : Bool) (held : ChildResult)
    → (if late then Refuses causes.Unknown else judged_by c.status from same) ≡ Holds held → status_result c.status ≡ Some held
held_child true c from same held is = absurd (cc)
held_child false c from same held is = held_status c.status from same held is

entering_child : (late : Bool) (c : UnitEntry) (from : Site) (same : Bool)
    → (if late then Refuses causes.Unknown else judged_by c.status from same) ≡ EntersNow → status_result c.status ≡ None
entering_child true c from same is = absurd (cc)
entering_child false c from same is = entering_status c.status from same is

-- a result that is held is the root's
held_root : (own : List UnitEntry) (from : Site) (serial attempt : ℕ) (held : ChildResult) → map origin own ≡ (None, []) ∷ []
    → judged (slice_get own serial) from attempt ≡ Holds held → entry_result (slice_get own 0) ≡ Some held
held_root [] from serial attempt held root is = absurd (cc)
held_root (c ∷ cs) from zero attempt held root is = held_child (nat_lt c.attempt attempt) c from (c.attempt == attempt) held is
held_root (c ∷ []) from (suc k) attempt held root is = absurd (cc)
held_root (c ∷ d ∷ cs) from (suc k) attempt held root is = absurd (cc)

-- where a result enters, the root has none
entering_root : (own : List UnitEntry) (from : Site) (serial attempt : ℕ) → map origin own ≡ (None, []) ∷ []
    → judged (slice_get own serial) from attempt ≡ EntersNow → entry_result (slice_get own 0) ≡ None
entering_root [] from serial attempt root is = absurd (cc)
entering_root (c ∷ cs) from zero attempt root is = entering_child (nat_lt c.attempt attempt) c from (c.attempt == attempt) is
entering_root (c ∷ []) from (suc k) attempt root is = absurd (cc)
entering_root (c ∷ d ∷ cs) from (suc k) attempt root is = absurd (cc)

-- ---- a step

-- nothing is accepted, and the root's result stays
as_it_was : (before after : Option ChildResult) (out : List Packet) → after ≡ before → first_accepted out ≡ None
    → after ≡ option_or before (first_accepted out)
as_it_was None after out same none = same ∙ sym none
as_it_was (Some r) after out same none = same

accepts_none : (problem : Problem) (old new : View) (event : Event) (reply : Reply) (out : List Packet)
    → RegistryStep problem old event reply out new → entering old event ≡ None → first_accepted out ≡ None
    → root_result new ≡ option_or (root_result old) (first_accepted out)
accepts_none problem old new event reply out s enters none =
    as_it_was (root_result old) (root_result new) out (event_leaves problem old new event reply out s enters) none

-- what gives children accepts nothing
gift_accepts_none : (body : Body) → is_gift body ≡ true → accepted_in body ≡ None
gift_accepts_none (bodies.Give serial attempt prefix) is = refl
gift_accepts_none (bodies.GiveMany prefix siblings) is = refl
gift_accepts_none (bodies.Accept serial attempt result) is = absurd (cc)
gift_accepts_none bodies.Hello is = refl
gift_accepts_none _ is = refl

steals_accept_none : (result : Option ChildResult) (old : View) (from : Site) (out : List Packet) (new : View) → RootSteal result old from out new
    → first_accepted out ≡ None
steals_accept_none (Some result) old from out new h = ap first_accepted h.1
steals_accept_none None old from out new (inl d) = ap first_accepted d.sends
steals_accept_none None old from out new (inr g) = ap first_accepted g.sends ∙ ap (λ a. option_or a None) (gift_accepts_none g.body g.spelled)

-- a Return that is answered
returns_tell : (problem : Problem) (old new : View) (packet : Packet) (reply : Reply) (out : List Packet) (serial attempt : ℕ) (result : ChildResult) (j : Judgement)
    → IsFormedRegistry problem old → RegistryStep problem old (Deliver packet) reply out new
    → packet.body ≡ bodies.Return serial attempt result
    → judged (slice_get old.own serial) packet.from attempt ≡ j → RootAnswers problem old packet.from serial attempt result j out new
    → root_result new ≡ option_or (root_result old) (first_accepted out)
returns_tell problem old new packet reply out serial attempt result EntersNow formed s body is a =
    let enters : entering old (Deliver packet) ≡ Some result = ap (entering_with old packet.from) body ∙ ap (if_enters result) is in
    let before : root_result old ≡ None = entering_root old.own packet.from serial attempt formed.root is in
    event_enters problem old new (Deliver packet) reply out result formed s enters
    ∙ sym (ap (λ o. option_or o (first_accepted out)) before ∙ ap first_accepted a.2)
returns_tell problem old new packet reply out serial attempt result (Holds held) formed s body is a =
    let before : root_result old ≡ Some held = held_root old.own packet.from serial attempt held formed.root is in
    ap root_result a.0 ∙ before ∙ sym (ap (λ o. option_or o (first_accepted out)) before)
returns_tell problem old new packet reply out serial attempt result (Refuses cause) formed s body is a =
    as_it_was (root_result old) (root_result new) out (ap root_result a.0) (ap first_accepted a.1)

hears_tell : (problem : Problem) (old new : View) (packet : Packet) (body : Body) (reply : Reply) (out : List Packet)
    → IsFormedRegistry problem old → RegistryStep problem old (Deliver packet) reply out new
    → packet.body ≡ body → RootHears problem old packet.from body reply out new
    → root_result new ≡ option_or (root_result old) (first_accepted out)
hears_tell problem old new packet bodies.Hello reply out formed s is h =
    accepts_none problem old new (Deliver packet) reply out s (ap (entering_with old packet.from) is) (ap first_accepted h.1.sends ∙ none_of_each old.site (bodies.Members (drop 1 h.1.known)) 1 (drop 1 h.1.known) refl)
hears_tell problem old new packet bodies.Steal reply out formed s is h =
    accepts_none problem old new (Deliver packet) reply out s (ap (entering_with old packet.from) is) (steals_accept_none (root_result old) old packet.from out new h.1)
hears_tell problem old new packet (bodies.Return serial attempt result) reply out formed s is h =
    returns_tell problem old new packet reply out serial attempt result h.1.0 formed s is h.1.1 h.1.2
hears_tell problem old new packet (bodies.Members incarnations) reply out formed s is h = absurd h
hears_tell problem old new packet (bodies.Give serial attempt prefix) reply out formed s is h = absurd h
hears_tell problem old new packet (bodies.GiveMany prefix siblings) reply out formed s is h = absurd h
hears_tell problem old new packet bodies.NoWork reply out formed s is h = absurd h
hears_tell problem old new packet (bodies.Accept serial attempt result) reply out formed s is h = absurd h
hears_tell problem old new packet (bodies.Refuse serial attempt cause) reply out formed s is h = absurd h
hears_tell problem old new packet (bodies.Abort serial attempt) reply out formed s is h = absurd h
hears_tell problem old new packet bodies.Over reply out formed s is h = absurd h

-- the root's result after a step is the one before it or else what the step accepts first
steps_tell : (problem : Problem) (old new : View) (event : Event) (reply : Reply) (out : List Packet)
    → IsFormedRegistry problem old → RegistryStep problem old event reply out new
    → root_result new ≡ option_or (root_result old) (first_accepted out)
steps_tell problem old new (Deliver packet) reply out formed s = hears_tell problem old new packet packet.body reply out formed s refl s.2
steps_tell problem old new (Redo serial) reply out formed s = accepts_none problem old new (Redo serial) reply out s refl (ap first_accepted s.1.sends)
steps_tell problem old new Again reply out formed s =
    accepts_none problem old new Again reply out s refl
    (ap first_accepted s.0
    ∙ none_with (gives_again old.site 0 old.own) _ (none_of_gives old.site 0 old.own)
    (none_if_done (root_result old) _ (none_of_each old.site bodies.Over 1 (drop 1 old.known) refl)))
steps_tell problem old new Take reply out formed s = absurd s
steps_tell problem old new (Post job finding) reply out formed s = absurd s
steps_tell problem old new (Finish unit) reply out formed s = absurd s
steps_tell problem old new (Ask victim) reply out formed s = absurd s
steps_tell problem old new Greet reply out formed s = absurd s

-- ---- a book

or_or : (a b c : Option ChildResult) → option_or (option_or a b) c ≡ option_or a (option_or b c)
or_or None b c = refl
or_or (Some r) b c = refl

or_none : (a : Option ChildResult) → a ≡ option_or a None
or_none None = refl
or_none (Some r) = refl

-- the root's result in the last view is the one in the first or else what the entries accept first
pub entries_tell : (problem : Problem) (first : View) (entries : List Entry) (last : View) → IsFormedRegistry problem first
    → LeadsTo 0 problem first entries last → root_result last ≡ option_or (root_result first) (first_result entries)
entries_tell problem first [] last formed l = sym (ap root_result l) ∙ or_none (root_result first)
entries_tell problem first (e ∷ es) last formed l =
    let next : View = l.0 in
    entries_tell problem next es last (formed_next 0 problem first next e formed l.1) l.2
    ∙ ap (λ o. option_or o (first_result es)) (steps_tell problem first next e.event e.reply e.packets formed l.1.acts.steps)
    ∙ or_or (root_result first) (first_accepted e.packets) (first_result es)

registry_tells : (n : ℕ) (run : RunName) (site : Site) (limit : ℕ) (entries : List Entry) (last : View) → n ≡ 0 → IsRun run
    → MayBeginAt n site run.nodes limit → LeadsTo n run.problem (opening_at n site run.nodes limit) entries last
    → root_result last ≡ first_result entries
registry_tells zero run site limit entries last at is may l =
    entries_tell run.problem (opening_at 0 site run.nodes limit) entries last (formed_at_first 0 run site limit is may) l
registry_tells (suc n) run site limit entries last at is may l = absurd (omega (arith, at))

-- what the registry's book says is what its last view publishes
pub book_tells : (run : RunName) (book : Book) (limit : ℕ) (last : View) → book.site.node ≡ 0 → EndsIn run book limit last
    → book_answer run.problem book.entries ≡ published_by run.problem last
book_tells run book limit last at ends =
    sym (ap (option_map (answer_of run.problem)) (registry_tells book.site.node run book.site limit book.entries last at ends.lawful ends.begins ends.leads))

-- A simulation comes to one world: a site has one step of each event, since a thief gets the children that the site chooses.
use Rattle.std.proofs.Common.{◌≡◌, ◌⊎◌, ℕ, zero, suc, ◌≤◌, Bool, true, false, List, [], ◌∷◌, ◌++◌, length, Option, Some, None, slice_get, slice_set, refl, sym, ap, subst, ◌∙◌, inl, inr, arith, true≢false}
use Rattle.std.proofs.lemmas.Option.{same_Some}
use Rattle.cover_problem.specs.Problem.{Problem}
use Rattle.cover_problem.specs.declared.answer.Answer.{Answer}
use Rattle.cover_world.proofs.Same.{event_same}
use Rattle.cover_world.proofs.SameChoice.{choice_same, denies_none, gives_serials, its_packet, root_choice_same}
use Rattle.cover_world.proofs.SameRoot.{registry_same}
use Rattle.cover_world.specs.Courses.{Makes, MayPass, Stepped}
use Rattle.cover_world.specs.Determined.{SameStep, given_by, may_choose}
use Rattle.cover_world.specs.Draws.{node_count}
use Rattle.cover_world.specs.Safety.{published}
use Rattle.cover_world.specs.Simulation.{AllGreet, AsksForWork, Closes, Draws, Ends, Greets, Searches, SearchesJob, Simulated, Simulation, Tries, Turn, Turns, begin_anew, deliver_last, drawn, if_answered}
use Rattle.cover_world.specs.Views.{here_job, looked_up}
use Rattle.cover_world.specs.Worlds.{Acts, Restarts, SiteActs, SiteRestarts, SiteStep, World, WorldMove, opening_node}
use Rattle.cover_world.specs.declared.world_event.WorldEvent.{WorldEvent}
use Rattle.cover_world.specs.declared.world_event.WorldEvent.TheVariants as calls
use Rattle.node_core.specs.Acting.{AnswersShare, GivesShare, GivesShareTo}
use Rattle.node_core.specs.Arrivals.{Denies, Gives}
use Rattle.node_core.specs.NodeStep.{EventStep, HearStep}
use Rattle.node_core.specs.SiteView.{View}
use Rattle.node_core.specs.declared.event.Event.{Event}
use Rattle.node_core.specs.declared.event.Event.TheVariants as events
use Rattle.node_core.specs.declared.reply.Reply.{Reply}
use Rattle.packet_wire.specs.Gifts.{gifts_in}
use Rattle.packet_wire.specs.declared.packet.Body.TheVariants as bodies
use Rattle.packet_wire.specs.declared.packet.Packet.{Packet}
use Rattle.root_registry.specs.RegistryStep.{RegistryStep, RootHears, RootSteal, root_result}
use Rattle.spawn_frame.specs.declared.child_result.ChildResult.{ChildResult}
use Rattle.spawn_frame.specs.declared.gift.Gift.{Gift}
use Rattle.spawn_frame.specs.declared.site.Site.{Site}
use Rattle.spawn_frame.specs.declared.unit.Job.{Job}
use Rattle.spawn_frame.specs.declared.unit.Unit.{Unit as WorkUnit}
use Rattle.steal_return.specs.Ledger.{Ledger}
use Rattle.steal_return.specs.Steals.{GivesEach, GivesNothing}

-- ---- a Steal gets the children that are chosen

-- who gives nothing gives no child
gives_none : (parent : Option WorkUnit) (old : Ledger) (thief : Site) (gifts : List Gift) (new : Ledger) → GivesNothing old thief → 1 ≤ length gifts
    → GivesEach parent old thief gifts new → ⊥
gives_none parent old thief [] new nothing some each = omega (arith, some)
gives_none parent old thief (g ∷ gs) new (inl older) some each = true≢false (sym older ∙ each.1.not_older)
gives_none parent old thief (g ∷ gs) new (inr none) some each = none g.serial each.1.entry each.1.is each.1.ready

steals_alike : (old : View) (from : Site) (p q : List Packet) (v w : View) → GivesShareTo old from p → GivesShareTo old from q
    → Denies old from p v ⊎ Gives old from p v → Denies old from q w ⊎ Gives old from q w → given_by p ≡ given_by q
steals_alike old from p q v w least other (inl h) (inl k) = denies_none old from p v h ∙ sym (denies_none old from q w k)
steals_alike old from p q v w least other (inl h) (inr k) =
    absurd (gives_none k.parent old.ledger from (gifts_in k.body) k.ledger h.because k.gives.some k.each)
steals_alike old from p q v w least other (inr h) (inl k) =
    absurd (gives_none h.parent old.ledger from (gifts_in h.body) h.ledger k.because h.gives.some h.each)
steals_alike old from p q v w least other (inr h) (inr k) =
    gives_serials old from p v h ∙ least h.body h.spelled h.sends ∙ sym (gives_serials old from q w k ∙ other k.body k.spelled k.sends)

root_steals_alike : (result : Option ChildResult) (old : View) (from : Site) (p q : List Packet) (v w : View) → GivesShareTo old from p → GivesShareTo old from q
    → RootSteal result old from p v → RootSteal result old from q w → given_by p ≡ given_by q
root_steals_alike (Some result) old from p q v w least other h k = ap given_by (h.1 ∙ sym k.1)
root_steals_alike None old from p q v w least other h k = steals_alike old from p q v w least other h k

module _ (problem : Problem) (old : View) (event : Event) (r s : Reply) (p q : List Packet) (v w : View) (least : GivesShare old event p) (other : GivesShare old event q) where
  -- of a Steal each step gives the chosen children
  share : (packet : Packet) (out : List Packet) → event ≡ events.Deliver packet → packet.body ≡ bodies.Steal → GivesShare old event out → GivesShareTo old packet.from out
  share packet out is steal gives =
      subst (λ b. AnswersShare old packet.from b out) steal (subst (λ e. GivesShare old e out) is gives)

  node_same : EventStep problem old event r p v → EventStep problem old event s q w → SameStep r s p q v w
  node_same h k = by (may_choose event) refl
    where
      alike : (packet : Packet) → event ≡ events.Deliver packet → packet.body ≡ bodies.Steal → EventStep problem old (events.Deliver packet) r p v
          → EventStep problem old (events.Deliver packet) s q w → given_by p ≡ given_by q
      alike packet is steal h k =
          let first : HearStep problem old packet.from bodies.Steal r p v = subst (λ b. HearStep problem old packet.from b r p v) steal h.2 in
          let second : HearStep problem old packet.from bodies.Steal s q w = subst (λ b. HearStep problem old packet.from b s q w) steal k.2 in
          steals_alike old packet.from p q v w (share packet p is steal least) (share packet q is steal other) first.1 second.1

      by : (b : Bool) → may_choose event ≡ b → SameStep r s p q v w
      by true may =
          let is = its_packet event may in
          choice_same problem old event r s p q v w
          (alike is.0 is.1 is.2 (subst (λ e. EventStep problem old e r p v) is.1 h) (subst (λ e. EventStep problem old e s q w) is.1 k)) h k
      by false may = event_same problem old event r s p q v w may h k

  root_same : RegistryStep problem old event r p v → RegistryStep problem old event s q w → SameStep r s p q v w
  root_same h k = by (may_choose event) refl
    where
      alike : (packet : Packet) → event ≡ events.Deliver packet → packet.body ≡ bodies.Steal → RegistryStep problem old (events.Deliver packet) r p v
          → RegistryStep problem old (events.Deliver packet) s q w → given_by p ≡ given_by q
      alike packet is steal h k =
          let first : RootHears problem old packet.from bodies.Steal r p v = subst (λ b. RootHears problem old packet.from b r p v) steal h.2 in
          let second : RootHears problem old packet.from bodies.Steal s q w = subst (λ b. RootHears problem old packet.from b s q w) steal k.2 in
          root_steals_alike (root_result old) old packet.from p q v w (share packet p is steal least) (share packet q is steal other) first.1 second.1

      by : (b : Bool) → may_choose event ≡ b → SameStep r s p q v w
      by true may =
          let is = its_packet event may in
          root_choice_same problem old event r s p q v w
          (alike is.0 is.1 is.2 (subst (λ e. RegistryStep problem old e r p v) is.1 h) (subst (λ e. RegistryStep problem old e s q w) is.1 k)) h k
      by false may = registry_same problem old event r s p q v w may h k

site_same : (node : ℕ) (problem : Problem) (old : View) (event : Event) (r s : Reply) (p q : List Packet) (v w : View) → GivesShare old event p → GivesShare old event q
    → SiteStep node problem old event r p v → SiteStep node problem old event s q w → SameStep r s p q v w
site_same zero problem old event r s p q v w least other h k = root_same problem old event r s p q v w least other h k
site_same (suc node) problem old event r s p q v w least other h k = node_same problem old event r s p q v w least other h.1 k.1

-- ---- an event of the world comes to one world

acts_same : (problem : Problem) (old : World) (node : ℕ) (event : Event) (a b : World) (s : SiteActs problem old node event a) (t : SiteActs problem old node event b)
    → GivesShare s.before event s.out → GivesShare t.before event t.out → a ≡ b
acts_same problem old node event a b s t least other =
    let before : s.before ≡ t.before = same_Some s.before t.before (sym s.is ∙ t.is) in
    let other_least : GivesShare s.before event t.out = subst (λ v. GivesShare v event t.out) (sym before) other in
    let step : SiteStep node problem s.before event t.reply t.out t.after = subst (λ v. SiteStep node problem v event t.reply t.out t.after) (sym before) t.step in
    let same = site_same node problem s.before event s.reply t.reply s.out t.out s.after t.after least other_least s.step step in
    s.world ∙ (λ i. record { sites = slice_set old.sites node (same.2 i); sent = old.sent ++ same.1 i }) ∙ sym t.world

restarts_same : (old : World) (node incarnation limit : ℕ) (a b : World) → SiteRestarts old node incarnation limit a → SiteRestarts old node incarnation limit b → a ≡ b
restarts_same old node incarnation limit a b s t =
    let before : s.before ≡ t.before = same_Some s.before t.before (sym s.is ∙ t.is) in
    s.world ∙ ap (λ (v : View). record old { sites = slice_set old.sites node (opening_node v.nodes node incarnation limit) }) before ∙ sym t.world

makes_same : (problem : Problem) (old : World) (move : WorldMove) (r s : Reply) (a b : World) → Makes problem old move r a → Makes problem old move s b → a ≡ b
makes_same problem old (Acts node event) r s a b h k = acts_same problem old node event a b h.step k.step h.least k.least
makes_same problem old (Restarts node incarnation limit) r s a b h k = restarts_same old node incarnation limit a b h.step k.step

stepped_same : (problem : Problem) (old : World) (event : WorldEvent) (r s : Reply) (a b : World) → Stepped problem old event r a → Stepped problem old event s b → a ≡ b
stepped_same problem old event r s a b h k =
    let move : h.move ≡ k.move = same_Some h.move k.move (sym h.is ∙ k.is) in
    makes_same problem old h.move r s a b h.makes (subst (λ m. Makes problem old m s b) (sym move) k.makes)

passes_same : (problem : Problem) (old : World) (event : WorldEvent) (took other : Bool) (a b : World) → MayPass problem old event took a → MayPass problem old event other b
    → a ≡ b
passes_same problem old event true true a b h k = stepped_same problem old event h.0 k.0 a b h.1 k.1
passes_same problem old event true false a b h k = absurd (k.0.none h.1.move h.1.is a h.1.makes.step)
passes_same problem old event false true a b h k = absurd (h.0.none k.1.move k.1.is b k.1.makes.step)
passes_same problem old event false false a b h k = h.1 ∙ sym k.1

-- ---- so does a simulation

module _ (problem : Problem) where
  tries_same : (old : World) (event : WorldEvent) (a b : World) → Tries problem old event a → Tries problem old event b → a ≡ b
  tries_same old event a b h k = passes_same problem old event h.0 k.0 a b h.1 k.1

  -- the same event of the same world
  tries_from : (old other : World) (event : World → WorldEvent) (a b : World) → old ≡ other → Tries problem old (event old) a → Tries problem other (event other) b → a ≡ b
  tries_from old other event a b same h k =
      tries_same old (event old) a b h (subst (λ w. Tries problem w (event w) b) (sym same) k)

  turn_same : (fuel : ℕ) (old a b : Simulation) (o : Option Answer) → if_answered o (a ≡ old) (Draws problem fuel old a) → if_answered o (b ≡ old) (Draws problem fuel old b)
      → a ≡ b
  turn_same fuel old a b (Some answer) h k = h ∙ sym k
  turn_same fuel old a b None h k =
      let world = tries_same old.world (drawn fuel old).0 a.world b.world h.tries k.tries in
      let rng = h.rng ∙ sym k.rng in
      let restarts = h.restarts ∙ sym k.restarts in
      (λ i. record { world = world i; rng = rng i; restarts = restarts i })

  turns_same : (fuel turns : ℕ) (old a b : Simulation) → Turns problem fuel turns old a → Turns problem fuel turns old b → a ≡ b
  turns_same fuel zero old a b h k = h ∙ sym k
  turns_same fuel (suc turns) old a b h k =
      let middle : h.0 ≡ k.0 = turns_same fuel turns old h.0 k.0 h.1 k.1 in
      turn_same fuel h.0 a b (published problem h.0.world) h.2 (subst (λ m. Turn problem fuel m b) (sym middle) k.2)

  greets_same : (node : ℕ) (old other a b : World) → old ≡ other → Greets problem node old a → Greets problem node other b → a ≡ b
  greets_same node old other a b same h k =
      let anew = tries_from old other (λ w. begin_anew w node) h.anew k.anew same h.begins k.begins in
      let greeted = tries_from h.anew k.anew (λ w. calls.Greet node) h.greeted k.greeted anew h.greets k.greets in
      tries_from h.greeted k.greeted deliver_last a b greeted h.heard k.heard

  all_greet_same : (nodes : ℕ) (old a b : World) → AllGreet problem nodes old a → AllGreet problem nodes old b → a ≡ b
  all_greet_same zero old a b h k = h ∙ sym k
  all_greet_same (suc nodes) old a b h k =
      greets_same (suc nodes) h.0 k.0 a b (all_greet_same nodes old h.0 k.0 h.1 k.1) h.2 k.2

  asks_same : (old other a b : World) → old ≡ other → AsksForWork problem old a → AsksForWork problem other b → a ≡ b
  asks_same old other a b same h k =
      let asked = tries_from old other (λ w. calls.Ask 1 0) h.asked k.asked same h.asks k.asks in
      let answered = tries_from h.asked k.asked deliver_last h.answered k.answered asked h.heard k.heard in
      tries_from h.answered k.answered deliver_last a b answered h.gets k.gets

  job_same : (job : Option Job) (old a b : World) → SearchesJob problem job old a → SearchesJob problem job old b → a ≡ b
  job_same None old a b h k = h ∙ sym k
  job_same (Some job) old a b h k = tries_same old _ a b h k

  searches_same : (old other a b : World) → old ≡ other → Searches problem old a → Searches problem other b → a ≡ b
  searches_same old other a b same h k =
      let taken = tries_from old other (λ w. calls.Take 1) h.taken k.taken same h.takes k.takes in
      let searched = job_same (looked_up here_job (slice_get h.taken.sites 1)) h.taken h.searched k.searched h.searches
      (subst (λ (w : World). SearchesJob problem (looked_up here_job (slice_get w.sites 1)) w k.searched) (sym taken) k.searches) in
      tries_from h.searched k.searched deliver_last a b searched h.heard k.heard

  closes_same : (old a b : World) → Closes problem old a → Closes problem old b → a ≡ b
  closes_same old a b h k =
      let greeted = all_greet_same (node_count old) old h.greeted k.greeted h.greet k.greet in
      let working = asks_same h.greeted k.greeted h.working k.working greeted h.asks k.asks in
      searches_same h.working k.working a b working h.searches k.searches

  ends_same : (old a b : World) (o : Option Answer) → if_answered o (a ≡ old) (Closes problem old a) → if_answered o (b ≡ old) (Closes problem old b) → a ≡ b
  ends_same old a b (Some answer) h k = h ∙ sym k
  ends_same old a b None h k = closes_same old a b h k

  pub simulated_same : (fuel turns : ℕ) (old : Simulation) (a b : World) → Simulated problem fuel turns old a → Simulated problem fuel turns old b → a ≡ b
  simulated_same fuel turns old a b h k =
      let played : h.played ≡ k.played = turns_same fuel turns old h.played k.played h.plays k.plays in
      ends_same h.played.world a b (published problem h.played.world) h.ends (subst (λ (s : Simulation). Ends problem s.world b) (sym played) k.ends)

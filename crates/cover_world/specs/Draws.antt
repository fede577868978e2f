-- The events that a simulation draws, by the words of a generator of random numbers.
use Rattle.std.specs.Prelude.{ℕ, zero, suc, ◌-◌, ◌%◌, Bool, not, ◌&&◌, Option, Some, None, length, slice_get, min, nat_lt, ◌==◌, if◌then◌else◌}
use Rattle.cover_world.specs.Views.{first_out, here_job, looked_up}
use Rattle.cover_world.specs.Worlds.{World}
use Rattle.cover_world.specs.declared.world_event.WorldEvent.{WorldEvent}
use Rattle.cover_world.specs.declared.world_event.WorldEvent.TheVariants.{Again, Ask, Deliver, Finish, Greet, Post, Redo, Restart, Take}
use Rattle.node_core.specs.SiteView.{View}
use Rattle.rand_pcg.specs.Lcg.{Lcg}
use Rattle.rand_pcg.specs.Pcg.{pcg32}
use Rattle.spawn_frame.specs.Picks.{ripe_unit}
use Rattle.spawn_frame.specs.declared.unit.Job.{Job}
use Rattle.spawn_frame.specs.declared.unit.Unit.{Unit as WorkUnit}

-- what is drawn, and the generator after it
abbrev pub Drawn : Type 0 → Type 0
Drawn A = A × Lcg

-- a number below another: the next word modulo that
abbrev pub pick : ℕ → Lcg → Drawn ℕ
pick bound rng = ((pcg32 rng).0 % bound, (pcg32 rng).1)

-- ---- what a draw comes to

-- one of the last 32 packets is delivered; where nothing was sent, the node greets
abbrev pub recent_delivery : ℕ → ℕ → Lcg → Drawn WorldEvent
recent_delivery node zero rng = (Greet node, rng)
recent_delivery node (suc before) rng = (Deliver (before - (pick (min (suc before) 32) rng).0), (pick (min (suc before) 32) rng).1)

-- one of all packets is delivered; where nothing was sent, the node greets
abbrev pub any_delivery : ℕ → ℕ → Lcg → Drawn WorldEvent
any_delivery node zero rng = (Greet node, rng)
any_delivery node (suc before) rng = (Deliver (pick (suc before) rng).0, (pick (suc before) rng).1)

-- a job that a worker has is searched; where there is none, a worker takes one
abbrev pub post_or_take : ℕ → ℕ → Option Job → WorldEvent
post_or_take node fuel (Some job) = Post node job fuel
post_or_take node fuel None = Take node

-- a settled frame is finished; where there is none, the node asks the registry for work
abbrev pub finish_or_ask : ℕ → Option WorkUnit → WorldEvent
finish_or_ask node (Some unit) = Finish node unit
finish_or_ask node None = Ask node 0

-- the node asks any site for work, itself too
abbrev pub ask_any : ℕ → ℕ → Lcg → Drawn WorldEvent
ask_any nodes node rng = (Ask node (pick (suc nodes) rng).0, (pick (suc nodes) rng).1)

-- a child that is out is done again; where there is none, the node says all again
abbrev pub redo_or_again : ℕ → Option ℕ → WorldEvent
redo_or_again node (Some serial) = Redo node serial
redo_or_again node None = Again node

-- any site says all again
abbrev pub again_any : ℕ → Lcg → Drawn WorldEvent
again_any nodes rng = (Again (pick (suc nodes) rng).0, (pick (suc nodes) rng).1)

-- the present incarnation of a node
abbrev pub present : Option View → ℕ
present None = 0
present (Some view) = view.site.incarnation

-- the greatest incarnation
abbrev pub last_incarnation : ℕ
last_incarnation = 4294967295

-- whether the node may restart: restarts are left, and incarnations too
abbrev pub may_restart : ℕ → ℕ → Bool
may_restart restarts incarnation = nat_lt 0 restarts && not (incarnation == last_incarnation)

-- the node restarts, if it may; else any site says all again
abbrev pub restart_or_again : ℕ → ℕ → ℕ → ℕ → Lcg → Drawn WorldEvent
restart_or_again nodes node restarts incarnation rng =
    if may_restart restarts incarnation then (Restart node (suc incarnation), rng) else again_any nodes rng

-- ---- a draw

-- What there is to draw from.
pub record Deck : Type 0 where
  pub world : World
  pub fuel : ℕ  -- of the searches
  pub restarts : ℕ  -- how many are left

-- a world with the fuel of its searches, and so many restarts left
abbrev pub deck : World → ℕ → ℕ → Deck
deck world fuel restarts = record { world = world; fuel = fuel; restarts = restarts }

-- the own child of a site of least serial that is out
abbrev pub first_out_at : Option View → Option ℕ
first_out_at site = looked_up (λ table. first_out table.own) site

-- how many nodes there are beside the registry
abbrev pub node_count : World → ℕ
node_count world = length world.sites - 1

-- the event of a node, by a number below sixteen
abbrev pub event_of : Deck → ℕ → ℕ → Lcg → Drawn WorldEvent
event_of deck row node rng =
    let world = deck.world in
    let site = slice_get world.sites node in
    if nat_lt row 5 then recent_delivery node (length world.sent) rng else
    if nat_lt row 6 then any_delivery node (length world.sent) rng else
    if nat_lt row 9 then (Take node, rng) else
    if nat_lt row 12 then (post_or_take node deck.fuel (looked_up here_job site), rng) else
    if nat_lt row 13 then (finish_or_ask node (looked_up ripe_unit site), rng) else
    if nat_lt row 14 then ask_any (node_count world) node rng else
    if nat_lt row 15 then (redo_or_again node (first_out_at site), rng) else
    restart_or_again (node_count world) node deck.restarts (present site) rng

-- a number below sixteen, then a node, then its event
abbrev pub draw : Deck → Lcg → Drawn WorldEvent
draw deck rng =
    let row = pick 16 rng in
    let node = pick (node_count deck.world) row.1 in
    event_of deck row.0 (suc node.0) node.1

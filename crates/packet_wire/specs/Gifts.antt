-- The children that a packet gives.
use Rattle.std.specs.Prelude.{ℕ, ◌+◌, Bool, true, false, ◌&&◌, nat_lt, List, [], ◌∷◌, length}
use Rattle.packet_wire.specs.declared.packet.Body.{Body}
use Rattle.packet_wire.specs.declared.packet.Body.TheVariants as bodies
use Rattle.spawn_frame.specs.Gifts.{sibling_gifts}
use Rattle.spawn_frame.specs.declared.gift.Gift.{Gift}

-- each child that is given, with its whole prefix: one by itself, or several of one parent
abbrev pub gifts_in : Body → List Gift
gifts_in (bodies.Give serial attempt prefix) = record { serial = serial; attempt = attempt; prefix = prefix } ∷ []
gifts_in (bodies.GiveMany prefix siblings) = sibling_gifts prefix siblings
gifts_in _ = []

-- one child goes by itself, and several go together
abbrev pub is_gift : Body → Bool
is_gift (bodies.Give serial attempt prefix) = true
is_gift (bodies.GiveMany prefix siblings) = nat_lt 1 (length siblings)
is_gift _ = false

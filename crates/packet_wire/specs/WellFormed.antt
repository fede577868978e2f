-- Which packets have a spelling: what each field of them allows.
use Rattle.std.specs.Prelude.{ℕ, ◌+◌, Bool, true, not, ◌&&◌, ◌||◌, ◌==◌, nat_lt, List, [], ◌∷◌, length, Option, Some, None}
use Rattle.std.specs.List.{list_all}
use Rattle.cover_problem.specs.declared.limits.TheConstants.{MOST_ITEMS, MOST_OPTIONS}
use Rattle.spawn_frame.specs.Gifts.{is_next}
use Rattle.spawn_frame.specs.declared.child_result.ChildResult.{ChildResult}
use Rattle.spawn_frame.specs.declared.child_result.ChildResult.TheVariants.{Cover, Empty}
use Rattle.spawn_frame.specs.declared.siblings.Sibling.{Sibling}
use Rattle.spawn_frame.specs.declared.siblings.TheConstants.{MOST_SIBLINGS}
use Rattle.spawn_frame.specs.declared.site.Site.{Site}
use Rattle.spawn_frame.specs.declared.site.TheConstants.{LAST_NODE}
use Rattle.packet_wire.specs.Kinds.{is_routed, kind_of}
use Rattle.packet_wire.specs.declared.packet.Body.{Body}
use Rattle.packet_wire.specs.declared.packet.Body.TheVariants as bodies
use Rattle.packet_wire.specs.declared.packet.Packet.{Packet}

-- a node, or 0 for the registry
abbrev pub is_node : ℕ → Bool
is_node n = nat_lt n (LAST_NODE + 1)

-- a serial number: it has four bytes
abbrev pub is_serial : ℕ → Bool
is_serial n = nat_lt n 4294967296

-- an incarnation, or an attempt: four bytes, and at least 1
abbrev pub is_counted : ℕ → Bool
is_counted n = nat_lt 0 n && nat_lt n 4294967296

-- an incarnation of the node; the registry has but one
abbrev pub is_incarnation_of : ℕ → ℕ → Bool
is_incarnation_of node n = is_counted n && (not (node == 0) || n == 1)

-- a node or the registry, in one of its incarnations
abbrev pub is_site : Site → Bool
is_site s = is_node s.node && is_incarnation_of s.node s.incarnation

-- the number of an option
abbrev pub is_option : ℕ → Bool
is_option n = nat_lt n MOST_OPTIONS

-- a count of options, where there are at least so many: no more than there are items
abbrev pub is_option_count : ℕ → ℕ → Bool
is_option_count least n = not (nat_lt n least) && nat_lt n (MOST_ITEMS + 1)

-- a list of at least so many options
abbrev pub are_options : ℕ → List ℕ → Bool
are_options least options = is_option_count least (length options) && list_all is_option options

-- a count of incarnations: one for each node, of which there is at least one
abbrev pub is_node_count : ℕ → Bool
is_node_count n = nat_lt 0 n && nat_lt n (LAST_NODE + 1)

-- the incarnations of the nodes from 1 on
abbrev pub are_incarnations : List ℕ → Bool
are_incarnations incarnations = is_node_count (length incarnations) && list_all is_counted incarnations

-- a child at an attempt
abbrev pub is_child : ℕ → ℕ → Bool
is_child serial attempt = is_serial serial && is_counted attempt

-- an exact cover has an option, where there is an item to cover
abbrev pub is_result : ChildResult → Bool
is_result Empty = true
is_result (Cover options) = are_options 1 options

-- a count of options of a parent's prefix: a child has one more
abbrev pub is_parent_count : ℕ → Bool
is_parent_count n = nat_lt n MOST_ITEMS

-- the prefix of a parent
abbrev pub is_parent : List ℕ → Bool
is_parent prefix = is_parent_count (length prefix) && list_all is_option prefix

-- a count of children that are given together: one alone goes by itself
abbrev pub is_sibling_count : ℕ → Bool
is_sibling_count n = nat_lt 1 n && nat_lt n (MOST_SIBLINGS + 1)

-- a serial above the last one, if there was one
abbrev pub is_next_serial : Option ℕ → ℕ → Bool
is_next_serial last n = is_serial n && is_next last n

-- a child of a parent, behind the last one if there was one
abbrev pub is_sibling : Option ℕ → Sibling → Bool
is_sibling last s = is_next_serial last s.serial && (is_counted s.attempt && is_option s.option)

-- children of one parent, with serials that rise above the last one
abbrev pub are_siblings : Option ℕ → List Sibling → Bool
are_siblings last [] = true
are_siblings last (s ∷ ss) = is_sibling last s && are_siblings (Some s.serial) ss

-- whether each field of the body is allowed
abbrev pub is_body : Body → Bool
is_body bodies.Hello = true
is_body (bodies.Members incarnations) = are_incarnations incarnations
is_body bodies.Steal = true
is_body (bodies.Give serial attempt prefix) = is_child serial attempt && are_options 0 prefix
is_body (bodies.GiveMany prefix siblings) = is_sibling_count (length siblings) && (is_parent prefix && are_siblings None siblings)
is_body bodies.NoWork = true
is_body (bodies.Return serial attempt result) = is_child serial attempt && is_result result
is_body (bodies.Accept serial attempt result) = is_child serial attempt && is_result result
is_body (bodies.Refuse serial attempt cause) = is_child serial attempt
is_body (bodies.Abort serial attempt) = is_child serial attempt
is_body bodies.Over = true

-- whether the packet has a spelling
abbrev pub is_well_formed : Packet → Bool
is_well_formed p = is_site p.from && (is_site p.to && (is_routed (kind_of p.body) p.from p.to && is_body p.body))

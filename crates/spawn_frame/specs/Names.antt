-- Names of sites, children and units, compared and ordered. A site is a node in one of its incarnations (Cilk-NOW).
use Rattle.std.specs.Prelude.{ℕ, Bool, false, ◌&&◌, ◌||◌, nat_lt, ◌==◌}
use Rattle.spawn_frame.specs.declared.site.ChildName.{ChildName}
use Rattle.spawn_frame.specs.declared.site.Site.{Site}
use Rattle.spawn_frame.specs.declared.unit.Unit.{Unit as WorkUnit}
use Rattle.spawn_frame.specs.declared.unit.Unit.TheVariants.{Guest, Own}

-- equality of names, as a test
abbrev pub same_site : Site → Site → Bool
same_site s t = s.node == t.node && s.incarnation == t.incarnation

-- the same site and serial
abbrev pub same_name : ChildName → ChildName → Bool
same_name m n = same_site m.site n.site && m.serial == n.serial

-- both own children of one serial, or guests of one name at one attempt
abbrev pub same_unit : WorkUnit → WorkUnit → Bool
same_unit (Own k) (Own j) = k == j
same_unit (Guest m a) (Guest n b) = same_name m n && a == b
same_unit (Own k) (Guest n b) = false
same_unit (Guest m a) (Own j) = false

-- the order of guests: by node, incarnation, serial and attempt
abbrev pub guest_before : ChildName → ℕ → ChildName → ℕ → Bool
guest_before m a n b =
    nat_lt m.site.node n.site.node
    || (m.site.node == n.site.node
    && (nat_lt m.site.incarnation n.site.incarnation
    || (m.site.incarnation == n.site.incarnation && (nat_lt m.serial n.serial || (m.serial == n.serial && nat_lt a b)))))

-- What goes to the registry, and from where.
use Rattle.std.proofs.Common.{◌≡◌, ℕ, zero, suc, ◌≤◌, true, not, refl, sym, ap, ◌∙◌, true≢false, arith}
use Rattle.std.specs.Prelude.{◌==◌}
use Rattle.std.proofs.lemmas.Bool.{and_parts}
use Rattle.node_core.proofs.Acting.{well_routed}
use Rattle.node_core.specs.SiteView.{View}
use Rattle.packet_wire.specs.Kinds.{is_routed, kind_of}
use Rattle.packet_wire.specs.WellFormed.{is_well_formed}
use Rattle.packet_wire.specs.declared.packet.Body.{Body}
use Rattle.packet_wire.specs.declared.packet.Body.TheVariants as bodies
use Rattle.packet_wire.specs.declared.packet.Packet.{Packet}
use Rattle.root_registry.proofs.Acting.{not_between, not_from_it, not_to_node}
use Rattle.root_registry.specs.Core.{goes_to_registry}
use Rattle.root_registry.specs.Refusal.{IsRegistryView}
use Rattle.spawn_frame.specs.declared.site.Site.{Site}

goes_there : (view : View) (from to : Site) (body : Body) → IsRegistryView view → to ≡ view.site → is_routed (kind_of body) from to ≡ true → goes_to_registry body ≡ true
goes_there view from to bodies.Hello is here routed = refl
goes_there view from to bodies.Steal is here routed = refl
goes_there view from to (bodies.Return serial attempt result) is here routed = refl
goes_there view from to (bodies.Members incarnations) is here routed = absurd (not_from_it view from to is here routed)
goes_there view from to (bodies.Give serial attempt prefix) is here routed = absurd (not_to_node view from to is here routed)
goes_there view from to (bodies.GiveMany prefix siblings) is here routed = absurd (not_between view from to is here routed)
goes_there view from to bodies.NoWork is here routed = absurd (not_to_node view from to is here routed)
goes_there view from to (bodies.Accept serial attempt result) is here routed = absurd (not_to_node view from to is here routed)
goes_there view from to (bodies.Refuse serial attempt cause) is here routed = absurd (not_to_node view from to is here routed)
goes_there view from to (bodies.Abort serial attempt) is here routed = absurd (not_to_node view from to is here routed)
goes_there view from to bodies.Over is here routed = absurd (not_from_it view from to is here routed)

-- two numbers that differ are not both 0
one_other : (n m : ℕ) → m ≡ 0 → not (n == m) ≡ true → 1 ≤ n
one_other zero zero is apart = absurd (true≢false (sym apart))
one_other zero (suc m) is apart = absurd (omega (arith, is))
one_other (suc n) m is apart = omega arith

-- a packet that is for the registry is one of those that go there
pub heard_there : (view : View) (packet : Packet) → IsRegistryView view → packet.to ≡ view.site → is_well_formed packet ≡ true → goes_to_registry packet.body ≡ true
heard_there view packet is here fit = goes_there view packet.from packet.to packet.body is here (well_routed packet fit)

-- and comes from a node
pub from_node : (view : View) (packet : Packet) → IsRegistryView view → packet.to ≡ view.site → is_well_formed packet ≡ true → 1 ≤ packet.from.node
from_node view packet is here fit =
    one_other packet.from.node packet.to.node (ap (λ (s : Site). s.node) here ∙ is)
    (and_parts (not (packet.from.node == packet.to.node)) _ (well_routed packet fit)).0

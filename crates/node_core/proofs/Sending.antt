-- Packets that are appended to the lists of an event.
use Rattle.std.proofs.Common.{◌≡◌, Bool, true, false, List, [], ◌++◌, refl, sym, ap, ◌∙◌, append_assoc, append-nil}
use Rattle.node_core.specs.Outgoing.{Outgoing, Sends, copied}
use Rattle.packet_wire.specs.declared.packet.Packet.{Packet}

copied_none : (both : Bool) (ps : List Packet) → ps ≡ ps ++ copied both []
copied_none true ps = sym (append-nil ps)
copied_none false ps = sym (append-nil ps)

copied_more : (both : Bool) (ps qs : List Packet) → copied both ps ++ copied both qs ≡ copied both (ps ++ qs)
copied_more true ps qs = refl
copied_more false ps qs = refl

-- nothing is sent
pub sends_none : (old : Outgoing) → Sends old [] old
sends_none old = record { packets = sym (append-nil old.packets); copies = copied_none old.both old.copies; both = refl }

-- packets are sent, and then others
pub sends_more : (old mid new : Outgoing) (ps qs : List Packet) → Sends old ps mid → Sends mid qs new → Sends old (ps ++ qs) new
sends_more old mid new ps qs first second = record {
  packets = second.packets ∙ ap (λ l. l ++ qs) first.packets ∙ append_assoc old.packets ps qs;
  copies =
      second.copies
      ∙ ap (λ l. l ++ copied mid.both qs) first.copies
      ∙ ap (λ b. (old.copies ++ copied old.both ps) ++ copied b qs) first.both
      ∙ append_assoc old.copies (copied old.both ps) (copied old.both qs)
      ∙ ap (λ l. old.copies ++ l) (copied_more old.both ps qs);
  both = second.both ∙ first.both;
}

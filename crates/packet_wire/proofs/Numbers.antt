-- Numbers that are written one after the other.
use Rattle.std.proofs.Common.{◌≡◌, ℕ, ◌+◌, ◌<◌, List, ◌++◌, length, get_or, take}
use Rattle.std.proofs.lemmas.List.{flat_map_more, take_more}
use Rattle.packet_wire.specs.Spelling.{number, numbers, sibling_text, siblings_text}
use Rattle.spawn_frame.specs.declared.siblings.Sibling.{Sibling}

pub numbers_more : (width : ℕ) (ns old now : List ℕ) (k : ℕ) → k < length ns → now ≡ old ++ numbers width (take k ns) → now ++ number width (get_or ns k 0) ≡ old ++ numbers width (take (k + 1) ns)
numbers_more width ns old now k h e = rw (e, take_more ns k 0 h) (flat_map_more (number width) old (take k ns) (get_or ns k 0))

pub siblings_more : (ss : List Sibling) (old now : List ℕ) (k : ℕ) (d : Sibling) → k < length ss → now ≡ old ++ siblings_text (take k ss) → now ++ sibling_text (get_or ss k d) ≡ old ++ siblings_text (take (k + 1) ss)
siblings_more ss old now k d h e = rw (e, take_more ss k d h) (flat_map_more sibling_text old (take k ss) (get_or ss k d))

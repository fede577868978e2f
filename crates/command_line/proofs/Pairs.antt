-- A name and rows that are met one by one are met together.
use Rattle.std.proofs.Common.{◌≡◌, sym, ap, ap₂, List, option_map, Option, Some, None, unwrap_or}
use Rattle.clap.specs.Words.{Row, Text}

abbrev pub paired : {X : Type 0} → (X → Text) → (X → List Row) → X → Text × List Row
paired name rows x = (name x, rows x)

pub met_pair : {X : Type 0} (met : Option X) (name : X → Text) (rows : X → List Row) (a : Text) (b : List Row)
    → Some a ≡ option_map name met → Some b ≡ option_map (λ (p : Text × List Row). p.1) (option_map (paired name rows) met) → option_map (paired name rows) met ≡ Some (a, b)
met_pair None name rows a b e f = absurd (cc)
met_pair (Some x) name rows a b e f = ap₂ (λ (t : Text) (r : List Row). Some (t, r)) (sym (ap (λ q. unwrap_or q a) e)) (sym (ap (λ q. unwrap_or q b) f))

-- More nodes cover their items, and that is taken back.
use Rattle.std.proofs.Common.{◌≡◌, ℕ, List, [], ◌++◌, sym, ap, ◌∙◌, subst}
use Rattle.dancing_links.specs.declared.link.Link.{Link}
use Rattle.dancing_links.specs.Columns.{Columns, IsSpelled, IsTable}
use Rattle.dancing_links.specs.Choices.{IsHistory}
use Rattle.dancing_links.specs.Keys.{IsKeyed, KeysCoveredAll}
use Rattle.dancing_links.specs.Trail.{hidden_all, KeysUncoveredAll, UncoversAll}
use Rattle.dancing_links.specs.Covering.{outs_all, links_all, AreOpen, CoversAll}
use Rattle.dancing_links.proofs.Choose.{spelled_all, links_append, out_append, open_parts}

-- the links after choosing are those of the longer list
pub chosen_more : (c : Columns) (before now new : List Link) (xs ys : List ℕ) → IsTable c → IsSpelled c [] before → AreOpen c [] (xs ++ ys) → now ≡ links_all c [] before xs → CoversAll c now ys new → new ≡ links_all c [] before (xs ++ ys)
chosen_more c before now new xs ys t s are e covers =
    let parts = open_parts c [] xs ys are in
    let spelled : IsSpelled c (outs_all c [] xs) now = rw e (spelled_all c [] before xs t s parts.0) in
    covers (outs_all c [] xs) spelled parts.1 ∙ ap (λ (m : List Link). links_all c (outs_all c [] xs) m ys) e ∙ sym (links_append c [] before xs ys)

-- the links after undoing are those of the shorter list
pub chosen_less : (c : Columns) (before now new : List Link) (xs ys piece : List ℕ) → IsTable c → IsSpelled c [] before → AreOpen c [] (xs ++ ys) → now ≡ links_all c [] before (xs ++ ys) → UncoversAll c now ys piece new → piece ≡ hidden_all c (outs_all c [] xs) ys → new ≡ links_all c [] before xs
chosen_less c before now new xs ys piece t s are e uncovers same =
    let parts = open_parts c [] xs ys are in
    uncovers (outs_all c [] xs) (links_all c [] before xs) (spelled_all c [] before xs t s parts.0) parts.1 (e ∙ links_append c [] before xs ys) same

-- more nodes cover
pub history_more : (c : Columns) (xs ys : List ℕ) (old new : List Link) (was now : List ℕ) → IsTable c → AreOpen c [] (xs ++ ys) → IsHistory c xs old was → CoversAll c old ys new → KeysCoveredAll c old ys was now → IsHistory c (xs ++ ys) new now
history_more c xs ys old new was now t are h covers keys =
    let parts = open_parts c [] xs ys are in
    let S : List Link → Type 0 = λ links. IsSpelled c (outs_all c [] xs) links in
    let spelled = subst S (sym h.links_are) (spelled_all c [] h.before xs t h.built.spelled parts.0) in
    let R : List ℕ → Type 0 = λ gone. IsKeyed c gone now in
    record {
      before = h.before;
      built = h.built;
      links_are = chosen_more c h.before old new xs ys t h.built.spelled are h.links_are covers;
      keyed = subst R (sym (out_append c [] xs ys)) (keys (outs_all c [] xs) spelled parts.1 h.keyed);
    }

-- the last of them taken back
pub history_less : (c : Columns) (xs ys piece : List ℕ) (old new : List Link) (was now : List ℕ) → IsTable c → AreOpen c [] (xs ++ ys) → IsHistory c (xs ++ ys) old was → UncoversAll c old ys piece new → KeysUncoveredAll c old ys piece was now → piece ≡ hidden_all c (outs_all c [] xs) ys → IsHistory c xs new now
history_less c xs ys piece old new was now t are h uncovers keys same =
    let parts = open_parts c [] xs ys are in
    let R : List ℕ → Type 0 = λ gone. IsKeyed c gone was in
    record {
      before = h.before;
      built = h.built;
      links_are = chosen_less c h.before old new xs ys piece t h.built.spelled are h.links_are uncovers same;
      keyed = keys (outs_all c [] xs) (links_all c [] h.before xs) (spelled_all c [] h.before xs t h.built.spelled parts.0) parts.1 (h.links_are ∙ links_append c [] h.before xs ys) same (subst R (out_append c [] xs ys) h.keyed);
    }

-- The nodes of the trail come back, the last one first.
use Rattle.std.proofs.Common.{◌≡◌, ℕ, zero, suc, ◌+◌, ◌%◌, ◌≤◌, List, [], ◌∷◌, ◌++◌, length, take, drop, get_or, set, false, refl, arith, sym, ap, ◌∙◌, subst}
use Rattle.std.proofs.lemmas.List.{length-append, length-take-le, take-append-drop, take-append-le}
use Rattle.dancing_links.specs.declared.link.Link.{Link}
use Rattle.dancing_links.specs.Columns.{among, Columns, column_of, colour_at, IsSpelled, IsTable}
use Rattle.dancing_links.specs.Keys.{more, with_more, with_mark, turned, IsKeyed}
use Rattle.dancing_links.specs.Covering.{outs, covered, hides, covered_by, outs_all, links_all, IsOpen, AreOpen, CoversAll}
use Rattle.dancing_links.specs.Committing.{is_repeated, commit, covering}
use Rattle.dancing_links.specs.Linking.{unlinked, relinked, unlinks, relinks}
use Rattle.dancing_links.specs.Trail.{count_in, hidden_all, HasRoom, HasRoomAll, TrailsAll, UncoversAll, KeysUncoveredAll}
use Rattle.dancing_links.proofs.Law.{between, relink_unlink, spelled_unlink, in_other, out_other}
use Rattle.dancing_links.proofs.Walk.{AreIn, are_in-append, count_outs, count_mark, unlinks-append, more-append, item_out, whole_item}
use Rattle.dancing_links.proofs.Chain.{going_all}
use Rattle.dancing_links.proofs.Keyed.{keyed_back, marked_off, hidden_options}
use Rattle.dancing_links.proofs.Choose.{spelled_by, spelled_all, open_parts}
use Rattle.dancing_links.proofs.Commits.{covering_new, covering_one}

-- ---- links

pub relinks_unlinks : (c : Columns) (out : List ℕ) (m : List Link) (xs : List ℕ) → IsSpelled c out m → AreIn c out xs → relinks (unlinks m xs) xs ≡ m
relinks_unlinks c out m [] s are = refl
relinks_unlinks c out m (x ∷ xs) s are =
    ap (λ (links : List Link). relinked links x) (relinks_unlinks c (x ∷ out) (unlinked m x) xs (spelled_unlink c out m x s are.0.0 are.0.1 are.0.3 are.0.2) are.1)
    ∙ relink_unlink m x (between c out m x s are.0.0 are.0.1 are.0.3 are.0.2)

-- nodes that can leave in turn can do so where fewer are out
pub are_in_fewer : (c : Columns) (out less xs : List ℕ) → ((k : ℕ) → among out k ≡ false → among less k ≡ false) → AreIn c out xs → AreIn c less xs
are_in_fewer c out less [] fewer are = tt
are_in_fewer c out less (x ∷ xs) fewer are = (
  (are.0.0, are.0.1, fewer x are.0.2, are.0.3),
  are_in_fewer c (x ∷ out) (x ∷ less) xs (λ k h. let other = out_other out x k h in in_other less x k (fewer k other.0) other.1) are.1,
)

-- what an item hides can leave before it is marked, too
hides_in : (c : Columns) (out : List ℕ) (m : List Link) (k : ℕ) → IsTable c → IsSpelled c out m → IsOpen c out (column_of c k) → AreIn c out (hides c out k)
hides_in c out m k t s can =
    let i : ℕ = column_of c k in
    let out' : List ℕ = (c.heads + i) ∷ out in
    are_in_fewer c out' out (hides c out k) (λ j h. (out_other out (c.heads + i) j h).0) (going_all c out' i (colour_at c k) m t can.item (item_out c out i m t can s) (whole_item c out i t can))

-- without the mark fewer nodes are out
outs_fewer : (xs out less : List ℕ) (k : ℕ) → ((j : ℕ) → among out j ≡ false → among less j ≡ false) → among (outs xs out) k ≡ false → among (outs xs less) k ≡ false
outs_fewer [] out less k fewer h = fewer k h
outs_fewer (x ∷ xs) out less k fewer h = outs_fewer xs (x ∷ out) (x ∷ less) k (λ j g. let other = out_other out x j g in in_other less x j (fewer j other.0) other.1) h

by_fewer : (c : Columns) (out : List ℕ) (k j : ℕ) → among (outs (covered_by c out k) out) j ≡ false → among (outs (hides c out k) out) j ≡ false
unfolding covered
by_fewer c out k j h = outs_fewer (hides c out k) ((c.heads + column_of c k) ∷ out) out j (λ y g. (out_other out (c.heads + column_of c k) y g).0) h

-- so can all that nodes hide one after the other
pub hidden_in : (c : Columns) (out : List ℕ) (m : List Link) (ks : List ℕ) → IsTable c → IsSpelled c out m → AreOpen c out ks → AreIn c out (hidden_all c out ks)
hidden_in c out m [] t s are = tt
hidden_in c out m (k ∷ ks) t s are =
    let rest = hidden_in c (outs (covered_by c out k) out) (unlinks m (hides c out k)) ks t (spelled_by c out m k t s are.0) are.1 in
    are_in-append c out (hides c out k) (hidden_all c (outs (covered_by c out k) out) ks) (hides_in c out m k t s are.0)
    (are_in_fewer c (outs (covered_by c out k) out) (outs (hides c out k) out) (hidden_all c (outs (covered_by c out k) out) ks) (λ j h. by_fewer c out k j h) rest)

-- the links are those without them
pub links_hidden : (c : Columns) (out : List ℕ) (m : List Link) (ks : List ℕ) → links_all c out m ks ≡ unlinks m (hidden_all c out ks)
links_hidden c out m [] = refl
links_hidden c out m (k ∷ ks) =
    links_hidden c (outs (covered_by c out k) out) (unlinks m (hides c out k)) ks
    ∙ sym (unlinks-append m (hides c out k) (hidden_all c (outs (covered_by c out k) out) ks))

-- putting back what is on the trail is the inverse
pub uncovers_by : (c : Columns) (old new : List Link) (ks trail : List ℕ) → IsTable c → new ≡ relinks old trail → UncoversAll c old ks trail new
uncovers_by c old new ks trail t e = λ out before s are links same.
    e ∙ ap (relinks old) same ∙ ap (λ (m : List Link). relinks m (hidden_all c out ks)) (links ∙ links_hidden c out before ks)
    ∙ relinks_unlinks c out before (hidden_all c out ks) s (hidden_in c out before ks t s are)

-- ---- keys

-- two numbers of a list are changed in either order, where one change goes before the other as well as after it
pub change_twice : (f g : ℕ → ℕ) (xs : List ℕ) (i j : ℕ) → ((n : ℕ) → f (g n) ≡ g (f n)) → set (set xs i (f (get_or xs i 0))) j (g (get_or (set xs i (f (get_or xs i 0))) j 0)) ≡ set (set xs j (g (get_or xs j 0))) i (f (get_or (set xs j (g (get_or xs j 0))) i 0))
change_twice f g [] i j both = refl
change_twice f g (x ∷ xs) zero zero both = ap (λ n. n ∷ xs) (sym (both x))
change_twice f g (x ∷ xs) zero (suc j) both = refl
change_twice f g (x ∷ xs) (suc i) zero both = refl
change_twice f g (x ∷ xs) (suc i) (suc j) both = ap (λ ys. x ∷ ys) (change_twice f g xs i j both)

mark_more : (c : Columns) (keys : List ℕ) (x i : ℕ) → with_mark (with_more c keys x) i ≡ with_more c (with_mark keys i) x
unfolding with_mark with_more
mark_more c keys x i = change_twice (λ n. (n + 65536) % 4294967296) (λ n. (n + 2147483648) % 4294967296) keys (column_of c x) i (λ n. omega arith)

turned_one : (c : Columns) (keys : List ℕ) (x : ℕ) (ks : List ℕ) → turned c (with_more c keys x) ks ≡ with_more c (turned c keys ks) x
turned_one c keys x [] = refl
turned_one c keys x (k ∷ ks) = ap (λ (n : List ℕ). with_mark n (column_of c k)) (turned_one c keys x ks) ∙ mark_more c (turned c keys ks) x (column_of c k)

turned_more : (c : Columns) (keys xs ks : List ℕ) → turned c (more c keys xs) ks ≡ more c (turned c keys ks) xs
turned_more c keys [] ks = refl
turned_more c keys (x ∷ xs) ks = turned_one c (more c keys xs) x ks ∙ ap (λ (n : List ℕ). with_more c n x) (turned_more c keys xs ks)

-- one node's item uncovered
keyed_one : (c : Columns) (out : List ℕ) (m : List Link) (keys : List ℕ) (k : ℕ) → IsTable c → IsSpelled c out m → IsOpen c out (column_of c k) → IsKeyed c (outs (covered_by c out k) out) keys → IsKeyed c out (with_mark (more c keys (hides c out k)) (column_of c k))
unfolding covered
keyed_one c out m keys k t s can keyed =
    let i : ℕ = column_of c k in
    let out' : List ℕ = (c.heads + i) ∷ out in
    let are = going_all c out' i (colour_at c k) m t can.item (item_out c out i m t can s) (whole_item c out i t can) in
    marked_off c out (more c keys (hides c out k)) i t can.item can.here (keyed_back c out' keys (hides c out k) t are (hidden_options c out' i (colour_at c k) t can.item) keyed)

keyed_all : (c : Columns) (out : List ℕ) (m : List Link) (keys ks : List ℕ) → IsTable c → IsSpelled c out m → AreOpen c out ks → IsKeyed c (outs_all c out ks) keys → IsKeyed c out (turned c (more c keys (hidden_all c out ks)) ks)
keyed_all c out m keys [] t s are keyed = keyed
keyed_all c out m keys (k ∷ ks) t s are keyed =
    let gone : List ℕ = outs (covered_by c out k) out in
    let rest : List ℕ = hidden_all c (outs (covered_by c out k) out) ks in
    let before = keyed_all c gone (unlinks m (hides c out k)) keys ks t (spelled_by c out m k t s are.0) are.1 keyed in
    let one = keyed_one c out m (turned c (more c keys rest) ks) k t s are.0 before in
    let same : with_mark (more c (turned c (more c keys (hidden_all c (outs (covered_by c out k) out) ks)) ks) (hides c out k)) (column_of c k) ≡ turned c (more c keys (hides c out k ++ hidden_all c (outs (covered_by c out k) out) ks)) (k ∷ ks) =
    ap (λ (n : List ℕ). with_mark n (column_of c k)) (sym (turned_more c (more c keys rest) (hides c out k) ks) ∙ ap (λ (n : List ℕ). turned c n ks) (sym (more-append c keys (hides c out k) rest))) in
    let P : List ℕ → Type 0 = λ now. IsKeyed c out now in
    subst P same one

-- so counting what is on the trail and turning the marks is the inverse for the keys
pub unkeys_by : (c : Columns) (links : List Link) (old new ks trail : List ℕ) → IsTable c → new ≡ turned c (more c old trail) ks → KeysUncoveredAll c links ks trail old new
unkeys_by c links old new ks trail t e = λ out before s are covers same keyed.
    let P : List ℕ → Type 0 = λ now. IsKeyed c out now in
    subst P (sym (e ∙ ap (λ (xs : List ℕ). turned c (more c old xs) ks) same)) (keyed_all c out before old ks t s are keyed)

-- ---- room

-- a node that hides others leaves fewer in
count_one : (c : Columns) (out : List ℕ) (m : List Link) (k : ℕ) → IsTable c → IsSpelled c out m → IsOpen c out (column_of c k) → length (hides c out k) + count_in c (outs (covered_by c out k) out) ≤ count_in c out
unfolding covered
count_one c out m k t s can =
    let out' : List ℕ = (c.heads + column_of c k) ∷ out in
    let are = going_all c out' (column_of c k) (colour_at c k) m t can.item (item_out c out (column_of c k) m t can s) (whole_item c out (column_of c k) t can) in
    omega (arith, count_outs c out' (hides c out k) are, count_mark c out (c.heads + column_of c k))

-- and so do some
pub count_all : (c : Columns) (out : List ℕ) (m : List Link) (ks : List ℕ) → IsTable c → IsSpelled c out m → AreOpen c out ks → length (hidden_all c out ks) + count_in c (outs_all c out ks) ≤ count_in c out
count_all c out m [] t s are = omega arith
count_all c out m (k ∷ ks) t s are =
    let gone : List ℕ = outs (covered_by c out k) out in
    let rest : List ℕ = hidden_all c (outs (covered_by c out k) out) ks in
    let more = count_all c gone (unlinks m (hides c out k)) ks t (spelled_by c out m k t s are.0) are.1 in
    omega (arith, more, count_one c out m k t s are.0, length-append (hides c out k) rest)

-- for an item that a node covers
pub room_item : (c : Columns) (links : List Link) (held trail : List ℕ) (k i room : ℕ) → is_repeated c held k ≡ false → i ≡ column_of c k → HasRoomAll c links (covering c held (k ∷ [])) trail room → HasRoom c links i trail room
room_item c links held trail k i room new e r =
    let P : List ℕ → Type 0 = λ ks. AreOpen c r.out ks in
    let Q : ℕ → Type 0 = λ j. IsOpen c r.out j in
    record { out = r.out; spelled = r.spelled; can = subst Q (sym e) (subst P (covering_new c held k [] new) r.can).0; enough = r.enough }

-- for the first of some nodes
pub room_first : (c : Columns) (old : List Link) (held left trail : List ℕ) (k room : ℕ) → HasRoomAll c old (covering c held (k ∷ left)) trail room → HasRoomAll c old (covering c held (k ∷ [])) trail room
room_first c old held left trail k room r =
    let P : List ℕ → Type 0 = λ ks. AreOpen c r.out ks in
    let parts = open_parts c r.out (covering c held (k ∷ [])) (covering c (commit c held k) left) (subst P (covering_one c held k left) r.can) in
    record { out = r.out; spelled = r.spelled; can = parts.0; enough = r.enough }

-- and for the others after it
pub room_step : (c : Columns) (old new : List Link) (held left trail longer : List ℕ) (k room : ℕ) → IsTable c → CoversAll c old (covering c held (k ∷ [])) new → TrailsAll c old (covering c held (k ∷ [])) trail longer → HasRoomAll c old (covering c held (k ∷ left)) trail room → HasRoomAll c new (covering c (commit c held k) left) longer room
room_step c old new held left trail longer k room t covers trails r =
    let P : List ℕ → Type 0 = λ ks. AreOpen c r.out ks in
    let xs : List ℕ = covering c held (k ∷ []) in
    let parts = open_parts c r.out (covering c held (k ∷ [])) (covering c (commit c held k) left) (subst P (covering_one c held k left) r.can) in
    let Q : List Link → Type 0 = λ m. IsSpelled c (outs_all c r.out (covering c held (k ∷ []))) m in
    record {
      out = outs_all c r.out xs;
      spelled = subst Q (sym (covers r.out r.spelled parts.0)) (spelled_all c r.out old xs t r.spelled parts.0);
      can = parts.1;
      enough = omega (arith, r.enough, count_all c r.out old xs t r.spelled parts.0, ap length (trails r.out r.spelled parts.0), length-append trail (hidden_all c r.out xs));
    }

-- ---- what is below the top

-- the nodes up to a place are the same, with or without some after them
pub take_take : (n m : ℕ) (xs : List ℕ) → n ≤ m → m ≤ length xs → take n (take m xs) ≡ take n xs
take_take n m xs h inside =
    let fits : n ≤ length (take m xs) = omega (arith, h, length-take-le m xs inside) in
    sym (take-append-le n (take m xs) (drop m xs) fits) ∙ ap (take n) (take-append-drop m xs)

-- Items that nodes cover one after the other, and uncover in the reverse order.
use Rattle.std.proofs.Common.{◌≡◌, ℕ, ◌+◌, ◌<◌, get_or, true, false, List, [], ◌∷◌, ◌++◌, refl, sym, ap, ◌∙◌, subst, append_assoc, append-nil}
use Rattle.dancing_links.specs.declared.link.Link.{Link}
use Rattle.dancing_links.specs.Columns.{Columns, column_of, colour_at, IsSpelled, IsTable}
use Rattle.dancing_links.specs.Committing.{IsBefore, IsCommits, IsFirst, HasRoomNext, Recovers, is_repeated, commit, uncommit, committed, covering}
use Rattle.dancing_links.specs.Keys.{with_mark, turned, IsKeyed, KeysCovered, KeysCoveredAll}
use Rattle.dancing_links.specs.Covering.{outs, hidden_from, hidden, covered, hides, covered_by, IsOpen, CoversAll, outs_all, links_all, AreOpen}
use Rattle.dancing_links.specs.Linking.{unlinks}
use Rattle.dancing_links.specs.Trail.{hidden_all, HasRoomAll, KeysUncoveredAll, Trails, TrailsAll, UncoversAll}
use Rattle.dancing_links.proofs.Walk.{spelled_unlinks, whole_item, item_out}
use Rattle.dancing_links.proofs.Chain.{going_all}
use Rattle.dancing_links.proofs.Commits.{commit_plain, repeated_plain, commit_uncommit, uncommit_commit, uncommit_kept, repeated_none, covering_new, covering_one, covering_repeated}

-- once an item is covered, the links are spelled without what that took out
pub spelled_cover : (c : Columns) (out : List ℕ) (m : List Link) (i a : ℕ) → IsTable c → IsSpelled c out m → IsOpen c out i → IsSpelled c (outs (covered c out i a) out) (unlinks m (hidden c out i a))
unfolding covered
spelled_cover c out m i a t s can =
    let s1 = item_out c out i m t can s in
    let are = going_all c ((c.heads + i) ∷ out) i a m t can.item s1 (whole_item c out i t can) in
    spelled_unlinks c ((c.heads + i) ∷ out) m (hidden_from c ((c.heads + i) ∷ out) i a c.heads) s1 are

-- the same for a node that covers its item
pub spelled_by : (c : Columns) (out : List ℕ) (m : List Link) (k : ℕ) → IsTable c → IsSpelled c out m → IsOpen c out (column_of c k) → IsSpelled c (outs (covered_by c out k) out) (unlinks m (hides c out k))
spelled_by c out m k t s can = spelled_cover c out m (column_of c k) (colour_at c k) t s can

-- and for nodes that do so one after the other
pub spelled_all : (c : Columns) (out : List ℕ) (m : List Link) (ks : List ℕ) → IsTable c → IsSpelled c out m → AreOpen c out ks → IsSpelled c (outs_all c out ks) (links_all c out m ks)
spelled_all c out m [] t s are = s
spelled_all c out m (k ∷ ks) t s are = spelled_all c (outs (covered_by c out k) out) (unlinks m (hides c out k)) ks t (spelled_by c out m k t s are.0) are.1

pub links_append : (c : Columns) (out : List ℕ) (m : List Link) (xs ys : List ℕ) → links_all c out m (xs ++ ys) ≡ links_all c (outs_all c out xs) (links_all c out m xs) ys
links_append c out m [] ys = refl
links_append c out m (x ∷ xs) ys = links_append c (outs (covered_by c out x) out) (unlinks m (hides c out x)) xs ys

pub out_append : (c : Columns) (out xs ys : List ℕ) → outs_all c out (xs ++ ys) ≡ outs_all c (outs_all c out xs) ys
out_append c out [] ys = refl
out_append c out (x ∷ xs) ys = out_append c (outs (covered_by c out x) out) xs ys

pub open_parts : (c : Columns) (out xs ys : List ℕ) → AreOpen c out (xs ++ ys) → AreOpen c out xs × AreOpen c (outs_all c out xs) ys
open_parts c out [] ys are = (tt, are)
open_parts c out (x ∷ xs) ys are = let rest = open_parts c (outs (covered_by c out x) out) xs ys are.1 in ((are.0, rest.0), rest.1)

-- ---- one node alone

pub one_keys : (c : Columns) (old : List Link) (k : ℕ) (was now : List ℕ) → KeysCovered c old (column_of c k) (colour_at c k) was now → KeysCoveredAll c old (k ∷ []) was now
one_keys c old k was now keys = λ out s are. keys out s are.0

-- ---- some nodes, and then more

pub covers_both : (c : Columns) (old mid new : List Link) (xs ys : List ℕ) → IsTable c → CoversAll c old xs mid → CoversAll c mid ys new → CoversAll c old (xs ++ ys) new
covers_both c old mid new xs ys t first second = λ out s are.
    let parts = open_parts c out xs ys are in
    let e : mid ≡ links_all c out old xs = first out s parts.0 in
    let P : List Link → Type 0 = λ m. IsSpelled c (outs_all c out xs) m in
    second (outs_all c out xs) (subst P (sym e) (spelled_all c out old xs t s parts.0)) parts.1
    ∙ ap (λ (m : List Link). links_all c (outs_all c out xs) m ys) e ∙ sym (links_append c out old xs ys)

pub keys_both : (c : Columns) (old mid : List Link) (xs ys was half now : List ℕ) → IsTable c → CoversAll c old xs mid → KeysCoveredAll c old xs was half → KeysCoveredAll c mid ys half now → KeysCoveredAll c old (xs ++ ys) was now
keys_both c old mid xs ys was half now t covers first second = λ out s are keyed.
    let parts = open_parts c out xs ys are in
    let e : mid ≡ links_all c out old xs = covers out s parts.0 in
    let P : List Link → Type 0 = λ m. IsSpelled c (outs_all c out xs) m in
    let Q : List ℕ → Type 0 = λ gone. IsKeyed c gone now in
    subst Q (sym (out_append c out xs ys)) (second (outs_all c out xs) (subst P (sym e) (spelled_all c out old xs t s parts.0)) parts.1 (first out s parts.0 keyed))

-- what some nodes hide, and then more
pub hidden_append : (c : Columns) (out xs ys : List ℕ) → hidden_all c out (xs ++ ys) ≡ hidden_all c out xs ++ hidden_all c (outs_all c out xs) ys
hidden_append c out [] ys = refl
hidden_append c out (x ∷ xs) ys =
    let gone : List ℕ = outs (covered_by c out x) out in
    ap (λ (ks : List ℕ). hides c out x ++ ks) (hidden_append c gone xs ys) ∙ sym (append_assoc (hides c out x) (hidden_all c gone xs) (hidden_all c (outs_all c gone xs) ys))

pub trails_both : (c : Columns) (old mid : List Link) (xs ys first half last : List ℕ) → IsTable c → CoversAll c old xs mid → TrailsAll c old xs first half → TrailsAll c mid ys half last → TrailsAll c old (xs ++ ys) first last
trails_both c old mid xs ys first half last t covers one two = λ out s are.
    let parts = open_parts c out xs ys are in
    let e : mid ≡ links_all c out old xs = covers out s parts.0 in
    let P : List Link → Type 0 = λ m. IsSpelled c (outs_all c out xs) m in
    let gone : List ℕ = outs_all c out xs in
    two (outs_all c out xs) (subst P (sym e) (spelled_all c out old xs t s parts.0)) parts.1
    ∙ ap (λ (trail : List ℕ). trail ++ hidden_all c gone ys) (one out s parts.0)
    ∙ append_assoc first (hidden_all c out xs) (hidden_all c gone ys)
    ∙ ap (λ (ks : List ℕ). first ++ ks) (sym (hidden_append c out xs ys))

pub one_trail : (c : Columns) (old : List Link) (k : ℕ) (first trail : List ℕ) → Trails c old (column_of c k) (colour_at c k) first trail → TrailsAll c old (k ∷ []) first trail
one_trail c old k first trail trails = λ out s are. trails out s are.0 ∙ ap (λ (ks : List ℕ). first ++ ks) (sym (append-nil (hides c out k)))

-- none
pub none_covers : (c : Columns) (m : List Link) → CoversAll c m [] m
none_covers c m = λ out s are. refl

pub none_keys : (c : Columns) (m : List Link) (was : List ℕ) → KeysCoveredAll c m [] was was
none_keys c m was = λ out s are keyed. keyed

pub none_trails : (c : Columns) (m : List Link) (first : List ℕ) → TrailsAll c m [] first first
none_trails c m first = λ out s are. sym (append-nil first)

-- ---- going over the nodes of a row

-- what is left of some nodes leads from here to where all of them lead from the beginning
pub record IsLeft (c : Columns) (old now : List Link) (all left was is first trail held holds : List ℕ) : Type 0 where
  pub links : (new : List Link) → CoversAll c now (covering c holds left) new → CoversAll c old (covering c held all) new
  pub keys : (last : List ℕ) → KeysCoveredAll c now (covering c holds left) is last → KeysCoveredAll c old (covering c held all) was last
  pub trails : (last : List ℕ) → TrailsAll c now (covering c holds left) trail last → TrailsAll c old (covering c held all) first last
  pub commits : committed c holds left ≡ committed c held all

pub left_start : (c : Columns) (old : List Link) (all was first held : List ℕ) → IsLeft c old old all all was was first first held held
left_start c old all was first held = record { links = λ new covers. covers; keys = λ last keys. keys; trails = λ last trails. trails; commits = refl }

pub left_step : (c : Columns) (old now new : List Link) (all left was is less first trail longer held holds : List ℕ) (k : ℕ) → IsTable c → CoversAll c now (covering c holds (k ∷ [])) new → KeysCoveredAll c now (covering c holds (k ∷ [])) is less → TrailsAll c now (covering c holds (k ∷ [])) trail longer → IsLeft c old now all (k ∷ left) was is first trail held holds → IsLeft c old new all left was less first longer held (commit c holds k)
left_step c old now new all left was is less first trail longer held holds k t covers keys trails at =
    let one = covering_one c holds k left in
    record {
      links = λ last rest.
          let P : List ℕ → Type 0 = λ ks. CoversAll c now ks last in
          at.links last (subst P (sym one) (covers_both c now new last (covering c holds (k ∷ [])) (covering c (commit c holds k) left) t covers rest));
      keys = λ last rest.
          let P : List ℕ → Type 0 = λ ks. KeysCoveredAll c now ks is last in
          at.keys last (subst P (sym one) (keys_both c now new (covering c holds (k ∷ [])) (covering c (commit c holds k) left) is less last t covers keys rest));
      trails = λ last rest.
          let P : List ℕ → Type 0 = λ ks. TrailsAll c now ks trail last in
          at.trails last (subst P (sym one) (trails_both c now new (covering c holds (k ∷ [])) (covering c (commit c holds k) left) trail longer last t covers trails rest));
      commits = at.commits;
    }

pub left_links : (c : Columns) (old now : List Link) (all left was is first trail held holds : List ℕ) → left ≡ [] → IsLeft c old now all left was is first trail held holds → CoversAll c old (covering c held all) now
left_links c old now all left was is first trail held holds e at =
    let P : List ℕ → Type 0 = λ ks. CoversAll c now (covering c holds ks) now in
    at.links now (subst P (sym e) (none_covers c now))

pub left_keys : (c : Columns) (old now : List Link) (all left was is first trail held holds : List ℕ) → left ≡ [] → IsLeft c old now all left was is first trail held holds → KeysCoveredAll c old (covering c held all) was is
left_keys c old now all left was is first trail held holds e at =
    let P : List ℕ → Type 0 = λ ks. KeysCoveredAll c now (covering c holds ks) is is in
    at.keys is (subst P (sym e) (none_keys c now is))

pub left_commits : (c : Columns) (old now : List Link) (all left was is first trail held holds : List ℕ) → left ≡ [] → IsLeft c old now all left was is first trail held holds → holds ≡ committed c held all
left_commits c old now all left was is first trail held holds e at = ap (committed c holds) (sym e) ∙ at.commits

pub left_trails : (c : Columns) (old now : List Link) (all left was is first trail held holds : List ℕ) → left ≡ [] → IsLeft c old now all left was is first trail held holds → TrailsAll c old (covering c held all) first trail
left_trails c old now all left was is first trail held holds e at =
    let P : List ℕ → Type 0 = λ ks. TrailsAll c now (covering c holds ks) trail trail in
    at.trails trail (subst P (sym e) (none_trails c now trail))

-- ---- and back

-- the marks of some nodes are taken off
pub record IsBackTo (c : Columns) (done was is held holds : List ℕ) : Type 0 where
  pub kept : IsCommits c holds
  pub keys : is ≡ turned c was (covering c holds done)
  pub commits : committed c holds done ≡ held

pub back_start : (c : Columns) (was held : List ℕ) → IsCommits c held → IsBackTo c [] was was held held
back_start c was held kept = record { kept = kept; keys = refl; commits = refl }

pub turned-append : (c : Columns) (keys xs ys : List ℕ) → turned c keys (xs ++ ys) ≡ turned c (turned c keys ys) xs
turned-append c keys [] ys = refl
turned-append c keys (x ∷ xs) ys = ap (λ (n : List ℕ). with_mark n (column_of c x)) (turned-append c keys xs ys)

pub back_step : (c : Columns) (done was is grown held holds : List ℕ) (k : ℕ) → column_of c k + 1 < c.heads → grown ≡ turned c is (covering c (uncommit c holds k) (k ∷ [])) → IsBackTo c done was is held holds → IsBackTo c (k ∷ done) was grown held (uncommit c holds k)
back_step c done was is grown held holds k item keys at =
    let less : List ℕ = uncommit c holds k in
    let same : commit c (uncommit c holds k) k ≡ holds = commit_uncommit c holds k item at.kept in
    let one : covering c (uncommit c holds k) (k ∷ done) ≡ covering c (uncommit c holds k) (k ∷ []) ++ covering c holds done =
    covering_one c less k done ∙ ap (λ (commits : List ℕ). covering c less (k ∷ []) ++ covering c commits done) same in
    record {
      kept = uncommit_kept c holds k at.kept;
      keys = keys ∙ ap (λ (n : List ℕ). turned c n (covering c less (k ∷ []))) at.keys ∙ sym (turned-append c was (covering c less (k ∷ [])) (covering c holds done)) ∙ ap (turned c was) (sym one);
      commits = ap (λ (commits : List ℕ). committed c commits done) same ∙ at.commits;
    }

-- ---- where a node has no colour

pub plain_keys : (c : Columns) (old : List Link) (i k : ℕ) (was now held : List ℕ) → colour_at c k ≡ 0 → i ≡ column_of c k → KeysCovered c old i 0 was now → KeysCoveredAll c old (covering c held (k ∷ [])) was now
plain_keys c old i k was now held plain e keys =
    let P : ℕ → Type 0 = λ a. KeysCovered c old (column_of c k) a was now in
    let Q : ℕ → Type 0 = λ j. KeysCovered c old j 0 was now in
    let R : List ℕ → Type 0 = λ ks. KeysCoveredAll c old ks was now in
    subst R (sym (covering_new c held k [] (repeated_plain c held k plain))) (one_keys c old k was now (subst P (sym plain) (subst Q e keys)))

-- a node that covers its item puts what that hides on the trail
pub new_trails : (c : Columns) (old : List Link) (i a k : ℕ) (first trail held : List ℕ) → is_repeated c held k ≡ false → i ≡ column_of c k → a ≡ colour_at c k → Trails c old i a first trail → TrailsAll c old (covering c held (k ∷ [])) first trail
new_trails c old i a k first trail held new e f trails =
    let P : ℕ → Type 0 = λ b. Trails c old (column_of c k) b first trail in
    let Q : ℕ → Type 0 = λ j. Trails c old j a first trail in
    let R : List ℕ → Type 0 = λ ks. TrailsAll c old ks first trail in
    subst R (sym (covering_new c held k [] new)) (one_trail c old k first trail (subst P f (subst Q e trails)))

-- and one that covers nothing puts nothing there
pub repeated_trails : (c : Columns) (old : List Link) (k : ℕ) (first trail held : List ℕ) → is_repeated c held k ≡ true → trail ≡ first → TrailsAll c old (covering c held (k ∷ [])) first trail
repeated_trails c old k first trail held repeated e =
    let P : List ℕ → Type 0 = λ now. TrailsAll c old [] first now in
    let R : List ℕ → Type 0 = λ ks. TrailsAll c old ks first trail in
    subst R (sym (covering_repeated c held k [] repeated)) (subst P (sym e) (none_trails c old first))

pub committed_plain : (c : Columns) (commits ks : List ℕ) → ((k : ℕ) → colour_at c k ≡ 0) → committed c commits ks ≡ commits
committed_plain c commits [] plain = refl
committed_plain c commits (k ∷ ks) plain = ap (λ (held : List ℕ). committed c held ks) (commit_plain c commits k (plain k)) ∙ committed_plain c commits ks plain

-- ---- one node in place of another one

-- which nodes cover where one was the first, and another one of its column comes in its place
pub record IsSwap (c : Columns) (front held mid_held : List ℕ) (k next : ℕ) : Type 0 where
  pub back : mid_held ≡ front
  pub one : covering c mid_held (k ∷ []) ≡ k ∷ []
  pub two : covering c mid_held (next ∷ []) ≡ next ∷ []

pub swap_of : (c : Columns) (front held mid_held : List ℕ) (k next : ℕ) → column_of c k + 1 < c.heads → column_of c next ≡ column_of c k → IsFirst c front held k → mid_held ≡ uncommit c held k → IsSwap c front held mid_held k next
swap_of c front held mid_held k next item column first e =
    let back : mid_held ≡ front = e ∙ ap (λ (commits : List ℕ). uncommit c commits k) first.commits ∙ uncommit_commit c front k item first.kept in
    record {
      back = back;
      one = ap (λ (commits : List ℕ). covering c commits (k ∷ [])) back ∙ covering_new c front k [] (repeated_none c front k first.none);
      two = ap (λ (commits : List ℕ). covering c commits (next ∷ [])) back ∙ covering_new c front next [] (repeated_none c front next (ap (λ i. get_or front i 0) column ∙ first.none));
    }

open_next : (c : Columns) (out : List ℕ) (k next : ℕ) → column_of c next ≡ column_of c k → IsOpen c out (column_of c k) → IsOpen c out (column_of c next)
open_next c out k next column can = let T : ℕ → Type 0 = λ i. IsOpen c out i in subst T (sym column) can

-- once the first is taken back, the links are those before it
swap_links : (c : Columns) (front held mid_held : List ℕ) (old mid : List Link) (piece : List ℕ) (k next : ℕ) → IsSwap c front held mid_held k next → UncoversAll c old (covering c mid_held (k ∷ [])) piece mid → (out : List ℕ) (before : List Link) → IsBefore c old piece k out before → mid ≡ before
swap_links c front held mid_held old mid piece k next swap uncovers out before at =
    let P : List ℕ → Type 0 = λ ks. UncoversAll c old ks piece mid in
    subst P swap.one uncovers out before at.0 (at.1, tt) at.2 (at.3 ∙ sym (append-nil (hides c out k)))

spelled_as : (c : Columns) (out : List ℕ) (mid before : List Link) → mid ≡ before → IsSpelled c out before → IsSpelled c out mid
spelled_as c out mid before same s = let T : List Link → Type 0 = λ m. IsSpelled c out m in subst T (sym same) s

-- so the trail has room for the next one
pub swap_room : (c : Columns) (held mid_held : List ℕ) (old mid : List Link) (kept piece : List ℕ) (k next room : ℕ) → column_of c k + 1 < c.heads → column_of c next ≡ column_of c k → mid_held ≡ uncommit c held k → UncoversAll c old (covering c mid_held (k ∷ [])) piece mid → HasRoomNext c old held kept piece k room → HasRoomAll c mid (covering c mid_held (next ∷ [])) kept room
swap_room c held mid_held old mid kept piece k next room item column e uncovers r =
    let swap = swap_of c r.front held mid_held k next item column r.first e in
    let same = swap_links c r.front held mid_held old mid piece k next swap uncovers r.out r.before r.is_before in
    let Q : List ℕ → Type 0 = λ ks. AreOpen c r.out ks in
    record {
      out = r.out;
      spelled = spelled_as c r.out mid r.before same r.is_before.0;
      can = subst Q (sym swap.two) (open_next c r.out k next column r.is_before.1, tt);
      enough = r.enough;
    }

pub recovers_by : (c : Columns) (front held mid_held new_held : List ℕ) (old mid new : List Link) (was half now kept piece trail : List ℕ) (k next : ℕ) → column_of c k + 1 < c.heads → column_of c next ≡ column_of c k → IsFirst c front held k → mid_held ≡ uncommit c held k → new_held ≡ commit c mid_held next → UncoversAll c old (covering c mid_held (k ∷ [])) piece mid → KeysUncoveredAll c old (covering c mid_held (k ∷ [])) piece was half → CoversAll c mid (covering c mid_held (next ∷ [])) new → KeysCoveredAll c mid (covering c mid_held (next ∷ [])) half now → TrailsAll c mid (covering c mid_held (next ∷ [])) kept trail → Recovers c front old was kept piece k next new now trail new_held
recovers_by c front held mid_held new_held old mid new was half now kept piece trail k next item column first e f uncovers unkeys covers keys trails =
    let swap = swap_of c front held mid_held k next item column first e in
    let Q : List ℕ → Type 0 = λ ks. KeysUncoveredAll c old ks piece was half in
    let R : List ℕ → Type 0 = λ ks. CoversAll c mid ks new in
    let S : List ℕ → Type 0 = λ ks. KeysCoveredAll c mid ks half now in
    let U : List ℕ → Type 0 = λ ks. TrailsAll c mid ks kept trail in
    let off_keys = subst Q swap.one unkeys in
    let on = subst R swap.two covers in
    let on_keys = subst S swap.two keys in
    let on_trail = subst U swap.two trails in
    let same : (out : List ℕ) (before : List Link) → IsBefore c old piece k out before → mid ≡ before = (λ out before at. swap_links c front held mid_held old mid piece k next swap uncovers out before at) in
    let spelled : (out : List ℕ) (before : List Link) → IsBefore c old piece k out before → IsSpelled c out mid = (λ out before at. spelled_as c out mid before (same out before at) at.0) in
    record {
      links = λ out before at. on out (spelled out before at) (open_next c out k next column at.1, tt) ∙ ap (λ (m : List Link). unlinks m (hides c out next)) (same out before at);
      keys = λ out before at keyed. on_keys out (spelled out before at) (open_next c out k next column at.1, tt) (off_keys out before at.0 (at.1, tt) at.2 (at.3 ∙ sym (append-nil (hides c out k))) keyed);
      trail_is = λ out before at. on_trail out (spelled out before at) (open_next c out k next column at.1, tt) ∙ ap (λ (ks : List ℕ). kept ++ ks) (append-nil (hides c out next));
      commits = f ∙ ap (λ (commits : List ℕ). commit c commits next) swap.back;
    }

-- two nodes of one column that have no colour hide the same
pub recovers_plain : (c : Columns) (front held : List ℕ) (old : List Link) (was kept piece trail : List ℕ) (k next : ℕ) → column_of c next ≡ column_of c k → colour_at c k ≡ 0 → colour_at c next ≡ 0 → trail ≡ kept ++ piece → IsFirst c front held k → Recovers c front old was kept piece k next old was trail held
recovers_plain c front held old was kept piece trail k next column plain plain_next whole first =
    let same : (out : List ℕ) → covered_by c out k ≡ covered_by c out next = (λ out. ap (λ i. covered c out i (colour_at c k)) (sym column) ∙ ap (covered c out (column_of c next)) (plain ∙ sym plain_next)) in
    let alike : (out : List ℕ) → hides c out k ≡ hides c out next = (λ out. ap (λ i. hidden c out i (colour_at c k)) (sym column) ∙ ap (hidden c out (column_of c next)) (plain ∙ sym plain_next)) in
    record {
      links = λ out before at. at.2 ∙ ap (unlinks before) (alike out);
      keys = λ out before at keyed. let P : List ℕ → Type 0 = λ gone. IsKeyed c (outs gone out) was in subst P (same out) keyed;
      trail_is = λ out before at. whole ∙ ap (λ (ks : List ℕ). kept ++ ks) (at.3 ∙ alike out);
      commits = first.commits ∙ commit_plain c front k plain ∙ sym (commit_plain c front next plain_next);
    }

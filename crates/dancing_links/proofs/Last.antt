-- The last choice: what is known of it, what is once it is taken back, and once the next one is in its place.
use Rattle.std.proofs.Common.{◌≡◌, ℕ, ◌+◌, ◌-◌, ◌<◌, ◌≤◌, List, [], ◌∷◌, ◌++◌, length, map, take, drop, get_or, refl, arith, sym, ap, ◌∙◌, subst, append-nil}
use Rattle.std.specs.List.{All}
use Rattle.std.proofs.lemmas.List.{length-take-le, take_all, take_more}
use Rattle.cover_problem.specs.Prefix.{is_covered}
use Rattle.cover_problem.specs.Problem.{Problem}
use Rattle.dancing_links.specs.declared.trail_mark.TrailMark.{TrailMark}
use Rattle.choices.specs.Choices.{Choices, with_child}
use Rattle.dancing_links.specs.Board.{Board, CoversNodes, HasRoomFor, IsLawful, UncoversNodes}
use Rattle.dancing_links.specs.Choices.{IsLinks, IsHistory, IsTrail, commits_of, covering_nodes, marks_from, trail_of}
use Rattle.dancing_links.specs.Columns.{Columns, column_of, IsLinked, IsOptionNode}
use Rattle.dancing_links.specs.Committing.{IsCommits, Recommits, commit, uncommit, committed}
use Rattle.dancing_links.specs.Covering.{nodes_by, others}
use Rattle.dancing_links.specs.Trail.{hidden_all}
use Rattle.dancing_links.proofs.Chosen.{IsFrame, choices_by, commits_half, commits_item, commits_kept, commits_others, commits_popped, first_of, frame_front, frame_of, frame_push, held_kept, item_popped, last_free, links_pop, others_popped, others_pushed, recovered, same_length, same_links_of, view_push}
use Rattle.dancing_links.proofs.Commits.{commit_kept}
use Rattle.dancing_links.proofs.Next.{IsChoice}
use Rattle.dancing_links.proofs.Trail.{take_take}
use Rattle.dancing_links.proofs.Trailed.{IsCut, IsHalf, cut_of, cut_options, cut_others, cut_piece, half_of, half_options, marks_length, middle_inside, next_trail, room_others, trail_others}

-- the option and the node of the last choice stand last, and the trail has two pieces of its
pub record IsLastChoice (p : Problem) (c : Columns) (os es : List ℕ) (o k : ℕ) (b : Board) (room : ℕ) (mark : TrailMark) (front : List TrailMark) (whole : Choices) : Type 0 where
  pub was : IsLinks p c (os ++ o ∷ []) (es ++ k ∷ []) b.links b.keys room
  pub frame : IsFrame p c (os ++ o ∷ []) (es ++ k ∷ []) room
  pub node : IsOptionNode c k
  pub view_is : whole ≡ with_child (choices_by p os (map (column_of c) es)) (column_of c k) o
  pub lawful : IsLawful c b
  pub held : b.commits ≡ commits_of c (es ++ k ∷ [])
  pub cut : IsCut c es k b.trail mark front
  pub half : IsHalf c es k (take mark.middle b.trail) mark.start
  pub first : mark.start ≤ length b.trail
  pub second : mark.middle ≤ length b.trail
  pub front_is : take mark.start b.trail ≡ trail_of c es

-- a list whose last element is popped
popped : {X : Type 0} (xs front : List X) (n a : ℕ) (d x : X) → length xs ≡ n → 0 < n → a ≡ n → front ≡ take (n - 1) xs → x ≡ get_or xs (a - 1) d → xs ≡ front ++ x ∷ []
popped xs front n a d x long some e f g =
    let inside : a - 1 < length xs = omega (arith, long, some, e) in
    let whole : length xs ≤ a - 1 + 1 = omega (arith, long, some, e) in
    let same : a - 1 ≡ n - 1 = omega (arith, e) in
    sym (take_all (a - 1 + 1) xs whole) ∙ take_more xs (a - 1) d inside ∙ ap (λ l. l ++ get_or xs (a - 1) d ∷ []) (ap (λ (m : ℕ). take m xs) same ∙ sym f) ∙ ap (λ y. front ++ y ∷ []) (sym g)

pub last_choice : (p : Problem) (c : Columns) (os es xs ks : List ℕ) (k nx nk nm a b : ℕ) (old : Board) (room space : ℕ) (marks front : List TrailMark) (mark : TrailMark) (whole : Choices)
    → choices_by p xs (map (column_of c) ks) ≡ whole → 0 < length whole.chosen → IsLinks p c xs ks old.links old.keys room → old.commits ≡ commits_of c ks → IsTrail c p.primary ks old.trail old.room marks space
    → length xs ≡ nx → length ks ≡ nk → length marks ≡ nm → a ≡ nk → b ≡ nm → os ≡ take (nx - 1) xs → es ≡ take (nk - 1) ks → front ≡ take (nm - 1) marks → k ≡ get_or ks (a - 1) k → mark ≡ get_or marks (b - 1) mark
    → IsLastChoice p c os es (get_or xs (nx - 1) 0) k old room mark front whole
last_choice p c os es xs ks k nx nk nm a b old room space marks front mark whole view some is are on long_x long_k long_m at_k at_m popped_o popped_k popped_m is_k is_m =
    let o : ℕ = get_or xs (nx - 1) 0 in
    let some_x : 0 < nx = omega (arith, some, long_x, ap (λ (v : Choices). length v.chosen) view) in
    let same = same_length p c xs ks old.links old.keys room is in
    let some_k : 0 < nk = omega (arith, some_x, same, long_x, long_k) in
    let some_m : 0 < nm = omega (arith, some_k, long_k, long_m, ap length on.marks_are, marks_length c [] ks) in
    let chosen = popped xs os nx nx 0 o long_x some_x refl popped_o refl in
    let entries = popped ks es nk a k k long_k some_k at_k popped_k is_k in
    let kept = popped marks front nm b mark mark long_m some_m at_m popped_m is_m in
    let now = same_links_of p c xs (os ++ o ∷ []) ks (es ++ k ∷ []) old.links old.links old.keys old.keys room room (sym chosen) (sym entries) refl refl refl is in
    let frame = frame_of p c (os ++ o ∷ []) (es ++ k ∷ []) old.links old.keys room now in
    let cut = cut_of c p.primary es ks k old.trail old.room marks front mark space on entries kept in
    let second = middle_inside p c os es room o k old.trail mark front frame cut in
    let half = half_of p c os es room o k old.trail (take mark.middle old.trail) mark front frame cut refl in
    let first : mark.start ≤ mark.middle = omega (arith, half.inside, length-take-le mark.middle old.trail second) in
    let sum = are ∙ ap (commits_of c) entries in
    record {
      was = now;
      frame = frame;
      node = (frame_front p c os es room o k frame).1;
      view_is = sym view ∙ view_push (choices_by p os (map (column_of c) es)) p c os es xs ks o k (column_of c k) refl chosen entries refl;
      lawful = record { linked = now.linked; keys = now.history.keyed.columns; commits = held_kept p c (os ++ o ∷ []) (es ++ k ∷ []) old.links old.keys room old.commits now sum };
      held = sum;
      cut = cut;
      half = half;
      first = omega (arith, first, second);
      second = second;
      front_is = sym (take_take mark.start mark.middle old.trail first second) ∙ half.front;
    }

-- the trail has nodes of options alone
pub piece_options : (p : Problem) (c : Columns) (os es : List ℕ) (o k : ℕ) (b : Board) (room n : ℕ) (mark : TrailMark) (front : List TrailMark) (whole : Choices) → IsLastChoice p c os es o k b room mark front whole → All (IsOptionNode c) (drop n b.trail)
piece_options p c os es o k b room n mark front whole last = cut_options p c os es b.links b.keys room o k b.trail mark front n last.was last.cut

-- ---- taken back

-- all is as it is once some options are chosen
pub record IsAt (p : Problem) (c : Columns) (os es : List ℕ) (b : Board) (room : ℕ) : Type 0 where
  pub links_are : IsLinks p c os es b.links b.keys room
  pub held : b.commits ≡ commits_of c es
  pub trail_is : b.trail ≡ trail_of c es

-- all of its option at once
pub all_back : (p : Problem) (c : Columns) (os es : List ℕ) (o k : ℕ) (b new : Board) (room : ℕ) (mark : TrailMark) (front : List TrailMark) (whole : Choices) → IsLastChoice p c os es o k b room mark front whole → IsLinked c new.links → UncoversNodes c (nodes_by c k) mark.start b new → IsCommits c new.commits → committed c new.commits (nodes_by c k) ≡ b.commits → IsAt p c os es new room
all_back p c os es o k b new room mark front whole last linked uncovers kept sum =
    let popped = commits_popped p c os es room o k b.commits new.commits last.frame last.held kept sum in
    record {
      links_are = links_pop p c os es b.links new.links b.keys new.keys new.commits (drop mark.start b.trail) room o k last.was popped linked uncovers.links uncovers.keys (cut_piece c es k b.trail mark front last.cut);
      held = popped;
      trail_is = uncovers.trail ∙ last.front_is;
    }

-- the others of its option alone
pub record IsHalfBack (c : Columns) (es : List ℕ) (k : ℕ) (b : Board) (start : ℕ) : Type 0 where
  pub lawful : IsLawful c b
  pub history : IsHistory c (covering_nodes c es ++ k ∷ []) b.links b.keys
  pub held : b.commits ≡ commit c (commits_of c es) k
  pub half : IsHalf c es k b.trail start

pub half_back : (p : Problem) (c : Columns) (os es : List ℕ) (o k : ℕ) (b new : Board) (room : ℕ) (mark : TrailMark) (front : List TrailMark) (whole : Choices) → IsLastChoice p c os es o k b room mark front whole → IsLinked c new.links → UncoversNodes c (others c k) mark.middle b new → IsCommits c new.commits → committed c new.commits (others c k) ≡ b.commits → IsHalfBack c es k new mark.start
half_back p c os es o k b new room mark front whole last linked uncovers kept sum =
    let less = commits_half p c os es room o k b.commits new.commits last.frame last.held kept sum in
    let P : List ℕ → Type 0 = λ trail. IsHalf c es k trail mark.start in
    record {
      lawful = record { linked = linked; keys = omega (arith, uncovers.count, last.lawful.keys); commits = kept };
      history = others_popped p c os es b.links new.links b.keys new.keys new.commits (drop mark.middle b.trail) room o k last.was less uncovers.links uncovers.keys (cut_others p c os es room o k b.trail mark front last.frame last.cut);
      held = less;
      half = subst P (sym uncovers.trail) last.half;
    }

-- what is left of the trail has nodes of options alone, too
pub half_piece : (p : Problem) (c : Columns) (os es : List ℕ) (o k : ℕ) (b mid : Board) (room : ℕ) (mark : TrailMark) (front : List TrailMark) (whole : Choices) → IsLastChoice p c os es o k b room mark front whole → IsHalfBack c es k mid mark.start → All (IsOptionNode c) (drop mark.start mid.trail)
half_piece p c os es o k b mid room mark front whole last back = half_options p c os es room o k mid.links mid.keys mid.trail mark.start last.frame back.history back.half

-- and then its own node
pub own_back : (p : Problem) (c : Columns) (os es : List ℕ) (o k : ℕ) (b mid new : Board) (room : ℕ) (mark : TrailMark) (front : List TrailMark) (whole : Choices) → IsLastChoice p c os es o k b room mark front whole → IsHalfBack c es k mid mark.start → IsLinked c new.links → UncoversNodes c (k ∷ []) mark.start mid new → new.commits ≡ uncommit c mid.commits k → IsAt p c os es new room
own_back p c os es o k b mid new room mark front whole last back linked uncovers less =
    let held = commits_item p c os es room o k mid.commits new.commits last.frame back.held less in
    record {
      links_are = item_popped p c os es mid.links new.links mid.keys new.keys new.commits (drop mark.start mid.trail) room o k last.frame back.history held linked uncovers.links uncovers.keys back.half.piece;
      held = held;
      trail_is = uncovers.trail ∙ back.half.front;
    }

-- and the trail
pub trail_back : (p : Problem) (c : Columns) (os es : List ℕ) (new : Board) (room wide space spare : ℕ) (front : List TrailMark) → IsAt p c os es new room → front ≡ marks_from c [] es → c.tails ≤ wide → p.primary ≤ space → new.room ≡ wide → spare ≡ space → IsTrail c p.primary es new.trail new.room front spare
trail_back p c os es new room wide space spare front back marks enough some e f = record {
  trail_is = back.trail_is;
  enough = omega (arith, enough, e);
  marks_are = marks;
  some = omega (arith, some, f);
}

-- ---- the next one in its place

-- another node of the item covers it
pub record IsRetaken (c : Columns) (es : List ℕ) (next : ℕ) (b : Board) : Type 0 where
  pub history : IsHistory c (covering_nodes c es ++ next ∷ []) b.links b.keys
  pub held : b.commits ≡ commit c (commits_of c es) next
  pub trail_is : b.trail ≡ hidden_all c [] (covering_nodes c es ++ next ∷ [])

pub retaken : (p : Problem) (c : Columns) (os es : List ℕ) (o k next : ℕ) (b mid new : Board) (room : ℕ) (mark : TrailMark) (front : List TrailMark) (whole : Choices) → IsLastChoice p c os es o k b room mark front whole → IsHalfBack c es k mid mark.start → Recommits c mid.commits mid.links mid.keys mid.trail mark.start k next new.links new.keys new.trail new.commits → IsRetaken c es next new
retaken p c os es o k next b mid new room mark front whole last back again =
    let r = again (commits_of c es) (first_of p c os es room o k mid.commits last.frame back.held) in
    record {
      history = recovered p c os es mid.links new.links mid.keys new.keys new.commits (take mark.start mid.trail) (drop mark.start mid.trail) new.trail room o k next last.frame back.history r (back.half.piece ∙ append-nil _);
      held = r.commits;
      trail_is = next_trail p c os es room o k next mid.links new.links mid.keys new.keys mid.trail new.trail new.commits mark.start last.frame back.history back.half r;
    }

-- the next option's frame
pub next_frame : (p : Problem) (c : Columns) (os es : List ℕ) (o k option next start : ℕ) (b : Board) (room : ℕ) (mark : TrailMark) (front : List TrailMark) (whole : Choices) → IsLastChoice p c os es o k b room mark front whole → IsChoice p c os (column_of c k) start next option → IsFrame p c (os ++ option ∷ []) (es ++ next ∷ []) room
next_frame p c os es o k option next start b room mark front whole last choice =
    let free = ap (is_covered p os) choice.column ∙ last_free p c os es room o k last.frame in
    frame_push p c os es room option next (frame_front p c os es room o k last.frame).0 choice.child.inside choice.child.live free choice.node choice.option

-- what is kept of the colours
pub retaken_kept : (p : Problem) (c : Columns) (os es : List ℕ) (o k next : ℕ) (b new : Board) (room : ℕ) (mark : TrailMark) (front : List TrailMark) (whole : Choices) → IsLastChoice p c os es o k b room mark front whole → IsRetaken c es next new → IsCommits c new.commits
retaken_kept p c os es o k next b new room mark front whole last again =
    let P : List ℕ → Type 0 = λ commits. IsCommits c commits in
    subst P (sym again.held) (commit_kept c (commits_of c es) next (commits_kept p c os es room (frame_front p c os es room o k last.frame).0))

-- the other nodes of the next option have room on the trail
pub retaken_room : (p : Problem) (c : Columns) (os es : List ℕ) (option next : ℕ) (b : Board) (room : ℕ) → IsFrame p c (os ++ option ∷ []) (es ++ next ∷ []) room → IsRetaken c es next b → c.tails ≤ b.room → HasRoomFor c (others c next) b
retaken_room p c os es option next b room frame again enough = room_others p c os es room option next b.links b.keys b.commits b.trail b.room frame again.history again.held again.trail_is enough

-- and once they cover their items, too, the option is chosen
pub next_chosen : (p : Problem) (c : Columns) (os es : List ℕ) (option next : ℕ) (mid new : Board) (room : ℕ) → IsFrame p c (os ++ option ∷ []) (es ++ next ∷ []) room → IsRetaken c es next mid → IsLinked c new.links → CoversNodes c (others c next) mid new → IsAt p c (os ++ option ∷ []) (es ++ next ∷ []) new room
next_chosen p c os es option next mid new room frame again linked covers = record {
  links_are = others_pushed p c os es mid.links new.links mid.keys new.keys mid.commits room option next frame again.history again.held linked covers.links covers.keys;
  held = commits_others c es next mid.commits new.commits again.held covers.commits;
  trail_is = trail_others p c os es room option next mid.links mid.keys mid.commits mid.trail new.trail frame again.history again.held again.trail_is covers.trail;
}

-- What the trail has while options are chosen.
use Rattle.std.proofs.Common.{◌≡◌, ℕ, suc, ◌+◌, ◌-◌, ◌<◌, ◌≤◌, List, [], ◌∷◌, ◌++◌, length, true, false, not, take, drop, filter, refl, arith, sym, ap, ◌∙◌, subst, append_assoc, append-nil}
use Rattle.std.specs.List.{range_with_len, All}
use Rattle.std.proofs.Math.Seq.{drop-append_seam, take-append_seam}
use Rattle.std.proofs.lemmas.List.{length-append, same_from_push}
use Rattle.std.proofs.lemmas.List.Elements.{All-drop}
use Rattle.std.proofs.lemmas.List.FromFn.{length-range_with_len}
use Rattle.cover_problem.specs.Prefix.{is_covered, is_live}
use Rattle.cover_problem.specs.Problem.{Problem}
use Rattle.cover_problem.proofs.Among.{filter_fewer}
use Rattle.dancing_links.specs.declared.link.Link.{Link}
use Rattle.dancing_links.specs.declared.trail_mark.TrailMark.{TrailMark}
use Rattle.dancing_links.specs.Choices.{IsLinks, IsHistory, IsTrail, covering_nodes, commits_of, out_of, trail_of, mark_at, marks_from}
use Rattle.dancing_links.specs.Columns.{Columns, among, column_of, option_of, IsSpelled, IsTable, IsOptionNode}
use Rattle.dancing_links.specs.Committing.{IsBefore, IsFirst, HasRoomNext, Recovers, is_repeated, commit, covering}
use Rattle.dancing_links.specs.Covering.{hides, others, nodes_by, outs_all, links_all, AreOpen}
use Rattle.dancing_links.specs.Trail.{count_in, hidden_all, HasRoomAll, IsMiddle, TrailsAll}
use Rattle.dancing_links.proofs.Choose.{hidden_append, links_append, open_parts, spelled_all}
use Rattle.dancing_links.proofs.Chosen.{IsFrame, covering_more, covering_push, frame_free, frame_front, frame_of, frame_open, frame_push, frame_table, last_free, push_open}
use Rattle.dancing_links.proofs.Commits.{covering_new, repeated_none}
use Rattle.dancing_links.proofs.Entries.{each_cons}
use Rattle.dancing_links.proofs.Trail.{count_all, hidden_in}
use Rattle.dancing_links.proofs.Walk.{AreIn, option_node}

-- ---- what is on the trail

pub trail_push : (c : Columns) (es : List ℕ) (k : ℕ) → trail_of c (es ++ k ∷ []) ≡ trail_of c es ++ hidden_all c (out_of c es) (covering c (commits_of c es) (nodes_by c k))
trail_push c es k = ap (hidden_all c []) (covering_more c es k) ∙ hidden_append c [] (covering_nodes c es) (covering c (commits_of c es) (nodes_by c k))

pub trail_one : (c : Columns) (es : List ℕ) (k : ℕ) → hidden_all c [] (covering_nodes c es ++ k ∷ []) ≡ trail_of c es ++ hidden_all c (out_of c es) (k ∷ [])
trail_one c es k = hidden_append c [] (covering_nodes c es) (k ∷ [])

pub trail_split : (p : Problem) (c : Columns) (os es : List ℕ) (room o k : ℕ) → IsFrame p c (os ++ o ∷ []) (es ++ k ∷ []) room → trail_of c (es ++ k ∷ []) ≡ hidden_all c [] (covering_nodes c es ++ k ∷ []) ++ hidden_all c (outs_all c [] (covering_nodes c es ++ k ∷ [])) (covering c (commit c (commits_of c es) k) (others c k))
trail_split p c os es room o k f =
    ap (hidden_all c []) (covering_push p c os es room k (frame_front p c os es room o k f).0 (last_free p c os es room o k f))
    ∙ hidden_append c [] (covering_nodes c es ++ k ∷ []) (covering c (commit c (commits_of c es) k) (others c k))

-- nodes that can leave are nodes of options
in_options : (c : Columns) (out xs : List ℕ) → IsTable c → AreIn c out xs → All (IsOptionNode c) xs
in_options c out [] t are = λ n k inside. absurd (omega (arith, inside))
in_options c out (x ∷ xs) t are = each_cons c x xs (option_node c (column_of c x) x t are.0.3 are.0.0 refl, are.0.1) (in_options c (x ∷ out) xs t are.1)

pub trail_options : (c : Columns) (nodes : List ℕ) (m : List Link) (keys : List ℕ) → IsTable c → AreOpen c [] nodes → IsHistory c nodes m keys → All (IsOptionNode c) (hidden_all c [] nodes)
trail_options c nodes m keys t are h = in_options c [] (hidden_all c [] nodes) t (hidden_in c [] h.before nodes t h.built.spelled are)

-- a piece of it
pub piece_options : (c : Columns) (nodes : List ℕ) (m : List Link) (keys trail : List ℕ) (n : ℕ) → IsTable c → AreOpen c [] nodes → IsHistory c nodes m keys → trail ≡ hidden_all c [] nodes → All (IsOptionNode c) (drop n trail)
piece_options c nodes m keys trail n t are h e =
    let P : List ℕ → Type 0 = λ xs. All (IsOptionNode c) xs in
    All-drop (IsOptionNode c) n trail (subst P (sym e) (trail_options c nodes m keys t are h))

-- two pieces, by the length of the first
pub front_of : (trail xs ys : List ℕ) (n : ℕ) → trail ≡ xs ++ ys → n ≡ length xs → take n trail ≡ xs
front_of trail xs ys n e f = ap (λ (j : ℕ). take j trail) f ∙ ap (take (length xs)) e ∙ take-append_seam xs ys

pub rest_from : (trail xs ys : List ℕ) (n : ℕ) → trail ≡ xs ++ ys → n ≡ length xs → drop n trail ≡ ys
rest_from trail xs ys n e f = ap (λ (j : ℕ). drop j trail) f ∙ ap (drop (length xs)) e ∙ drop-append_seam xs ys

-- there are no more nodes than the number of the first tail
count_some : (c : Columns) (out : List ℕ) → count_in c out ≤ c.tails
unfolding count_in
count_some c out =
    let less = filter_fewer (λ k. not (among [] k)) (λ k. not (among out k)) (λ k h. refl) (range_with_len c.heads (c.tails - c.heads)) in
    omega (arith, less, all_of (range_with_len c.heads (c.tails - c.heads)), length-range_with_len c.heads (c.tails - c.heads))
  where
    all_of : (xs : List ℕ) → length (filter (λ k. not (among [] k)) xs) ≡ length xs
    all_of [] = refl
    all_of (x ∷ xs) = ap suc (all_of xs)

-- what is on it leaves so many nodes in
pub trail_count : (c : Columns) (nodes : List ℕ) (m : List Link) (keys : List ℕ) → IsTable c → AreOpen c [] nodes → IsHistory c nodes m keys → length (hidden_all c [] nodes) + count_in c (outs_all c [] nodes) ≤ c.tails
trail_count c nodes m keys t are h = omega (arith, count_all c [] h.before nodes t h.built.spelled are, count_some c [])

history_spelled : (c : Columns) (nodes : List ℕ) (m : List Link) (keys : List ℕ) → IsTable c → AreOpen c [] nodes → IsHistory c nodes m keys → IsSpelled c (outs_all c [] nodes) m
history_spelled c nodes m keys t are h =
    let S : List Link → Type 0 = λ links. IsSpelled c (outs_all c [] nodes) links in
    subst S (sym h.links_are) (spelled_all c [] h.before nodes t h.built.spelled are)

-- ---- one more choice

-- an option can be chosen by a node
pub record IsReady (c : Columns) (es : List ℕ) (m : List Link) (k : ℕ) : Type 0 where
  pub spelled : IsSpelled c (out_of c es) m
  pub can : AreOpen c (out_of c es) (covering c (commits_of c es) (nodes_by c k))
  pub first : AreOpen c (out_of c es) (k ∷ [])
  pub new : is_repeated c (commits_of c es) k ≡ false
  pub count : length (trail_of c es) + count_in c (out_of c es) ≤ c.tails

pub ready_of : (p : Problem) (c : Columns) (os es : List ℕ) (m : List Link) (keys : List ℕ) (room o k : ℕ) → IsLinks p c os es m keys room → o < length p.options → is_live p os o ≡ true → is_covered p os (column_of c k) ≡ false → IsOptionNode c k → option_of c k ≡ o → IsReady c es m k
ready_of p c os es m keys room o k is inside live free node own =
    let was = frame_of p c os es m keys room is in
    let f = frame_push p c os es room o k was inside live free node own in
    let t = frame_table p c (os ++ o ∷ []) (es ++ k ∷ []) room f in
    let O : List ℕ → Type 0 = λ ks. AreOpen c [] ks in
    let parts = open_parts c [] (covering_nodes c es) (covering c (commits_of c es) (nodes_by c k)) (subst O (covering_more c es k) (frame_open p c (os ++ o ∷ []) (es ++ k ∷ []) room f)) in
    let one = (open_parts c [] (covering_nodes c es ++ k ∷ []) (covering c (commit c (commits_of c es) k) (others c k)) (push_open p c os es room o k f)).0 in
    record {
      spelled = history_spelled c (covering_nodes c es) m keys t parts.0 is.history;
      can = parts.1;
      first = (open_parts c [] (covering_nodes c es) (k ∷ []) one).1;
      new = repeated_none c (commits_of c es) k (frame_free p c os es room (column_of c k) was free);
      count = trail_count c (covering_nodes c es) m keys t parts.0 is.history;
    }

pub room_push : (c : Columns) (es : List ℕ) (m : List Link) (held trail : List ℕ) (k space : ℕ) → IsReady c es m k → held ≡ commits_of c es → trail ≡ trail_of c es → c.tails ≤ space → HasRoomAll c m (covering c held (nodes_by c k)) trail space
room_push c es m held trail k space r e f enough =
    let P : List ℕ → Type 0 = λ commits. HasRoomAll c m (covering c commits (nodes_by c k)) trail space in
    subst P (sym e) (record { out = out_of c es; spelled = r.spelled; can = r.can; enough = omega (arith, r.count, ap length f, enough) })

pub trail_pushed : (c : Columns) (es : List ℕ) (m : List Link) (held trail longer : List ℕ) (k : ℕ) → IsReady c es m k → held ≡ commits_of c es → trail ≡ trail_of c es → TrailsAll c m (covering c held (nodes_by c k)) trail longer → longer ≡ trail_of c (es ++ k ∷ [])
trail_pushed c es m held trail longer k r e f trails =
    let P : List ℕ → Type 0 = λ commits. TrailsAll c m (covering c commits (nodes_by c k)) trail longer in
    let more : List ℕ = hidden_all c (out_of c es) (covering c (commits_of c es) (nodes_by c k)) in
    (subst P e trails) (out_of c es) r.spelled r.can ∙ ap (λ (xs : List ℕ). xs ++ more) f ∙ sym (trail_push c es k)

pub middle_pushed : (c : Columns) (es : List ℕ) (m : List Link) (held trail : List ℕ) (k middle : ℕ) → IsReady c es m k → held ≡ commits_of c es → trail ≡ trail_of c es → IsMiddle c m (covering c held (k ∷ [])) trail middle → middle ≡ length (hidden_all c [] (covering_nodes c es ++ k ∷ []))
middle_pushed c es m held trail k middle r e f is =
    let P : List ℕ → Type 0 = λ ks. IsMiddle c m ks trail middle in
    let one : covering c held (k ∷ []) ≡ k ∷ [] = ap (λ (commits : List ℕ). covering c commits (k ∷ [])) e ∙ covering_new c (commits_of c es) k [] r.new in
    let more : List ℕ = hidden_all c (out_of c es) (k ∷ []) in
    (subst P one is) (out_of c es) r.spelled r.first ∙ ap length (ap (λ (xs : List ℕ). xs ++ more) f ∙ sym (trail_one c es k))

marks_push : (c : Columns) (done es : List ℕ) (k : ℕ) → marks_from c done (es ++ k ∷ []) ≡ marks_from c done es ++ mark_at c (done ++ es) k ∷ []
marks_push c done [] k = ap (λ (xs : List ℕ). mark_at c xs k ∷ []) (sym (append-nil done))
marks_push c done (e ∷ es) k =
    ap (λ (marks : List TrailMark). mark_at c done e ∷ marks) (marks_push c (done ++ e ∷ []) es k ∙ ap (λ (xs : List ℕ). marks_from c (done ++ e ∷ []) es ++ mark_at c xs k ∷ []) (append_assoc done (e ∷ []) es))

-- what the last mark is, and those before it
pub mark_last : (c : Columns) (es : List ℕ) (k : ℕ) (marks front : List TrailMark) (mark : TrailMark) → marks ≡ marks_from c [] (es ++ k ∷ []) → marks ≡ front ++ mark ∷ [] → (front ≡ marks_from c [] es) × (mark ≡ mark_at c es k)
mark_last c es k marks front mark e f = same_from_push front (marks_from c [] es) mark (mark_at c es k) (sym f ∙ e ∙ marks_push c [] es k)

mark_is : (c : Columns) (es : List ℕ) (k start middle : ℕ) → start ≡ length (trail_of c es) → middle ≡ length (hidden_all c [] (covering_nodes c es ++ k ∷ [])) → record { start = start; middle = middle } ≡ mark_at c es k
mark_is c es k start middle e f =
    let S : ℕ → TrailMark = λ n. record { start = n; middle = middle } in
    let M : ℕ → TrailMark = λ n. record { start = length (trail_of c es); middle = n } in
    ap S e ∙ ap M f

pub trail_more : (c : Columns) (primary : ℕ) (es now longer : List ℕ) (k room wide start middle : ℕ) (marks more : List TrailMark) (space spare : ℕ) → c.tails ≤ room → wide ≡ room → marks ≡ marks_from c [] es → primary ≤ space → spare ≡ space → start ≡ length (trail_of c es) → middle ≡ length (hidden_all c [] (covering_nodes c es ++ k ∷ [])) → longer ≡ trail_of c (es ++ k ∷ []) → now ≡ es ++ k ∷ [] → more ≡ marks ++ record { start = start; middle = middle } ∷ [] → IsTrail c primary now longer wide more spare
trail_more c primary es now longer k room wide start middle marks more space spare enough same marks_are some kept s m trail entries pushed = record {
  trail_is = trail ∙ ap (trail_of c) (sym entries);
  enough = omega (arith, enough, same);
  marks_are = pushed ∙ ap (λ (xs : List TrailMark). xs ++ record { start = start; middle = middle } ∷ []) marks_are ∙ ap (λ (mark : TrailMark). marks_from c [] es ++ mark ∷ []) (mark_is c es k start middle s m) ∙ sym (marks_push c [] es k) ∙ ap (marks_from c []) (sym entries);
  some = omega (arith, some, kept);
}

pub marks_length : (c : Columns) (done es : List ℕ) → length (marks_from c done es) ≡ length es
marks_length c done [] = refl
marks_length c done (e ∷ es) = ap suc (marks_length c (done ++ e ∷ []) es)

-- ---- the last choice taken back

-- what is known of the trail at the last choice: it has two pieces
pub record IsCut (c : Columns) (es : List ℕ) (k : ℕ) (trail : List ℕ) (mark : TrailMark) (front : List TrailMark) : Type 0 where
  pub front_is : front ≡ marks_from c [] es
  pub start : mark.start ≡ length (trail_of c es)
  pub middle : mark.middle ≡ length (hidden_all c [] (covering_nodes c es ++ k ∷ []))
  pub trail_is : trail ≡ trail_of c (es ++ k ∷ [])

pub cut_of : (c : Columns) (primary : ℕ) (es all : List ℕ) (k : ℕ) (trail : List ℕ) (room : ℕ) (marks front : List TrailMark) (mark : TrailMark) (space : ℕ) → IsTrail c primary all trail room marks space → all ≡ es ++ k ∷ [] → marks ≡ front ++ mark ∷ [] → IsCut c es k trail mark front
cut_of c primary es all k trail room marks front mark space is e f =
    let last = mark_last c es k marks front mark (is.marks_are ∙ ap (marks_from c []) e) f in
    let S : TrailMark → ℕ = λ m. m.start in
    let M : TrailMark → ℕ = λ m. m.middle in
    record { front_is = last.0; start = ap S last.1; middle = ap M last.1; trail_is = is.trail_is ∙ ap (trail_of c) e }

-- the piece from the choice on
pub cut_piece : (c : Columns) (es : List ℕ) (k : ℕ) (trail : List ℕ) (mark : TrailMark) (front : List TrailMark) → IsCut c es k trail mark front → drop mark.start trail ≡ hidden_all c (out_of c es) (covering c (commits_of c es) (nodes_by c k))
cut_piece c es k trail mark front cut = rest_from trail (trail_of c es) (hidden_all c (out_of c es) (covering c (commits_of c es) (nodes_by c k))) mark.start (cut.trail_is ∙ trail_push c es k) cut.start

-- all of it are nodes of options
pub cut_options : (p : Problem) (c : Columns) (os es : List ℕ) (m : List Link) (keys : List ℕ) (room o k : ℕ) (trail : List ℕ) (mark : TrailMark) (front : List TrailMark) (n : ℕ) → IsLinks p c (os ++ o ∷ []) (es ++ k ∷ []) m keys room → IsCut c es k trail mark front → All (IsOptionNode c) (drop n trail)
cut_options p c os es m keys room o k trail mark front n is cut =
    let f = frame_of p c (os ++ o ∷ []) (es ++ k ∷ []) m keys room is in
    piece_options c (covering_nodes c (es ++ k ∷ [])) m keys trail n (frame_table p c (os ++ o ∷ []) (es ++ k ∷ []) room f) (frame_open p c (os ++ o ∷ []) (es ++ k ∷ []) room f) is.history cut.trail_is

-- nothing is on the trail where nothing is chosen
pub trail_built : (c : Columns) (primary : ℕ) (es trail : List ℕ) (room : ℕ) (marks : List TrailMark) (space : ℕ) → es ≡ [] → trail ≡ [] → marks ≡ [] → c.tails ≤ room → primary ≤ space → IsTrail c primary es trail room marks space
trail_built c primary es trail room marks space e f g enough some = record {
  trail_is = f ∙ ap (trail_of c) (sym e);
  enough = enough;
  marks_are = g ∙ ap (marks_from c []) (sym e);
  some = some;
}

-- ---- the next option in the place of the last one

-- the piece that the others of the last node's option hid
pub cut_others : (p : Problem) (c : Columns) (os es : List ℕ) (room o k : ℕ) (trail : List ℕ) (mark : TrailMark) (front : List TrailMark) → IsFrame p c (os ++ o ∷ []) (es ++ k ∷ []) room → IsCut c es k trail mark front → drop mark.middle trail ≡ hidden_all c (outs_all c [] (covering_nodes c es ++ k ∷ [])) (covering c (commit c (commits_of c es) k) (others c k))
cut_others p c os es room o k trail mark front f cut =
    rest_from trail (hidden_all c [] (covering_nodes c es ++ k ∷ [])) (hidden_all c (outs_all c [] (covering_nodes c es ++ k ∷ [])) (covering c (commit c (commits_of c es) k) (others c k))) mark.middle (cut.trail_is ∙ trail_split p c os es room o k f) cut.middle

-- the trail without it
pub cut_middle : (p : Problem) (c : Columns) (os es : List ℕ) (room o k : ℕ) (trail : List ℕ) (mark : TrailMark) (front : List TrailMark) → IsFrame p c (os ++ o ∷ []) (es ++ k ∷ []) room → IsCut c es k trail mark front → take mark.middle trail ≡ hidden_all c [] (covering_nodes c es ++ k ∷ [])
cut_middle p c os es room o k trail mark front f cut =
    front_of trail (hidden_all c [] (covering_nodes c es ++ k ∷ [])) (hidden_all c (outs_all c [] (covering_nodes c es ++ k ∷ [])) (covering c (commit c (commits_of c es) k) (others c k))) mark.middle (cut.trail_is ∙ trail_split p c os es room o k f) cut.middle

pub middle_inside : (p : Problem) (c : Columns) (os es : List ℕ) (room o k : ℕ) (trail : List ℕ) (mark : TrailMark) (front : List TrailMark) → IsFrame p c (os ++ o ∷ []) (es ++ k ∷ []) room → IsCut c es k trail mark front → mark.middle ≤ length trail
middle_inside p c os es room o k trail mark front f cut =
    omega (arith, cut.middle, ap length (cut.trail_is ∙ trail_split p c os es room o k f), length-append (hidden_all c [] (covering_nodes c es ++ k ∷ [])) (hidden_all c (outs_all c [] (covering_nodes c es ++ k ∷ [])) (covering c (commit c (commits_of c es) k) (others c k))))

-- what is left then, in two pieces
pub record IsHalf (c : Columns) (es : List ℕ) (k : ℕ) (trail : List ℕ) (start : ℕ) : Type 0 where
  pub whole : trail ≡ hidden_all c [] (covering_nodes c es ++ k ∷ [])
  pub front : take start trail ≡ trail_of c es
  pub piece : drop start trail ≡ hidden_all c (out_of c es) (k ∷ [])
  pub inside : start ≤ length trail

pub half_of : (p : Problem) (c : Columns) (os es : List ℕ) (room o k : ℕ) (trail half : List ℕ) (mark : TrailMark) (front : List TrailMark) → IsFrame p c (os ++ o ∷ []) (es ++ k ∷ []) room → IsCut c es k trail mark front → half ≡ take mark.middle trail → IsHalf c es k half mark.start
half_of p c os es room o k trail half mark front f cut e =
    let whole = e ∙ cut_middle p c os es room o k trail mark front f cut in
    let more : List ℕ = hidden_all c (out_of c es) (k ∷ []) in
    record {
      whole = whole;
      front = front_of half (trail_of c es) more mark.start (whole ∙ trail_one c es k) cut.start;
      piece = rest_from half (trail_of c es) more mark.start (whole ∙ trail_one c es k) cut.start;
      inside = omega (arith, cut.start, ap length (whole ∙ trail_one c es k), length-append (trail_of c es) more);
    }

one_open : (p : Problem) (c : Columns) (os es : List ℕ) (room o k : ℕ) → IsFrame p c (os ++ o ∷ []) (es ++ k ∷ []) room → AreOpen c [] (covering_nodes c es ++ k ∷ [])
one_open p c os es room o k f = (open_parts c [] (covering_nodes c es ++ k ∷ []) (covering c (commit c (commits_of c es) k) (others c k)) (push_open p c os es room o k f)).0

pub half_options : (p : Problem) (c : Columns) (os es : List ℕ) (room o k : ℕ) (mid : List Link) (keys half : List ℕ) (start : ℕ) → IsFrame p c (os ++ o ∷ []) (es ++ k ∷ []) room → IsHistory c (covering_nodes c es ++ k ∷ []) mid keys → IsHalf c es k half start → All (IsOptionNode c) (drop start half)
half_options p c os es room o k mid keys half start f h at = piece_options c (covering_nodes c es ++ k ∷ []) mid keys half start (frame_table p c (os ++ o ∷ []) (es ++ k ∷ []) room f) (one_open p c os es room o k f) h at.whole

-- the links before the last node covered its item
before_of : (p : Problem) (c : Columns) (os es : List ℕ) (room o k : ℕ) (mid : List Link) (keys half : List ℕ) (start : ℕ) → IsFrame p c (os ++ o ∷ []) (es ++ k ∷ []) room → (h : IsHistory c (covering_nodes c es ++ k ∷ []) mid keys) → IsHalf c es k half start → IsBefore c mid (drop start half) k (out_of c es) (links_all c [] h.before (covering_nodes c es))
before_of p c os es room o k mid keys half start f h at =
    let t = frame_table p c (os ++ o ∷ []) (es ++ k ∷ []) room f in
    let parts = open_parts c [] (covering_nodes c es) (k ∷ []) (one_open p c os es room o k f) in
    (spelled_all c [] h.before (covering_nodes c es) t h.built.spelled parts.0, parts.1.0, h.links_are ∙ links_append c [] h.before (covering_nodes c es) (k ∷ []), at.piece ∙ append-nil (hides c (out_of c es) k))

pub room_next : (p : Problem) (c : Columns) (os es : List ℕ) (room o k : ℕ) (mid : List Link) (keys half held : List ℕ) (start space : ℕ) → IsFrame p c (os ++ o ∷ []) (es ++ k ∷ []) room → IsHistory c (covering_nodes c es ++ k ∷ []) mid keys → IsHalf c es k half start → IsFirst c (commits_of c es) held k → c.tails ≤ space → HasRoomNext c mid held (take start half) (drop start half) k space
room_next p c os es room o k mid keys half held start space f h at first enough =
    let t = frame_table p c (os ++ o ∷ []) (es ++ k ∷ []) room f in
    let parts = open_parts c [] (covering_nodes c es) (k ∷ []) (one_open p c os es room o k f) in
    record {
      out = out_of c es;
      before = links_all c [] h.before (covering_nodes c es);
      front = commits_of c es;
      first = first;
      is_before = before_of p c os es room o k mid keys half start f h at;
      enough = omega (arith, enough, count_all c [] h.before (covering_nodes c es) t h.built.spelled parts.0, count_some c [], ap length at.front);
    }

-- the trail once another node covers the item in its place
pub next_trail : (p : Problem) (c : Columns) (os es : List ℕ) (room o k next : ℕ) (mid new : List Link) (keys now half trail held : List ℕ) (start : ℕ) → IsFrame p c (os ++ o ∷ []) (es ++ k ∷ []) room → IsHistory c (covering_nodes c es ++ k ∷ []) mid keys → IsHalf c es k half start → Recovers c (commits_of c es) mid keys (take start half) (drop start half) k next new now trail held → trail ≡ hidden_all c [] (covering_nodes c es ++ next ∷ [])
next_trail p c os es room o k next mid new keys now half trail held start f h at r =
    let hid : List ℕ = hides c (out_of c es) next in
    r.trail_is (out_of c es) (links_all c [] h.before (covering_nodes c es)) (before_of p c os es room o k mid keys half start f h at)
    ∙ ap (λ (xs : List ℕ). xs ++ hid) at.front ∙ ap (λ (xs : List ℕ). trail_of c es ++ xs) (sym (append-nil hid)) ∙ sym (trail_one c es next)

pub room_others : (p : Problem) (c : Columns) (os es : List ℕ) (room o k : ℕ) (m : List Link) (keys held trail : List ℕ) (space : ℕ) → IsFrame p c (os ++ o ∷ []) (es ++ k ∷ []) room → IsHistory c (covering_nodes c es ++ k ∷ []) m keys → held ≡ commit c (commits_of c es) k → trail ≡ hidden_all c [] (covering_nodes c es ++ k ∷ []) → c.tails ≤ space → HasRoomAll c m (covering c held (others c k)) trail space
room_others p c os es room o k m keys held trail space f h e g enough =
    let t = frame_table p c (os ++ o ∷ []) (es ++ k ∷ []) room f in
    let nodes : List ℕ = covering_nodes c es ++ k ∷ [] in
    let parts = open_parts c [] (covering_nodes c es ++ k ∷ []) (covering c (commit c (commits_of c es) k) (others c k)) (push_open p c os es room o k f) in
    let P : List ℕ → Type 0 = λ commits. HasRoomAll c m (covering c commits (others c k)) trail space in
    subst P (sym e) (record { out = outs_all c [] nodes; spelled = history_spelled c nodes m keys t parts.0 h; can = parts.1; enough = omega (arith, trail_count c nodes m keys t parts.0 h, ap length g, enough) })

pub trail_others : (p : Problem) (c : Columns) (os es : List ℕ) (room o k : ℕ) (m : List Link) (keys held trail longer : List ℕ) → IsFrame p c (os ++ o ∷ []) (es ++ k ∷ []) room → IsHistory c (covering_nodes c es ++ k ∷ []) m keys → held ≡ commit c (commits_of c es) k → trail ≡ hidden_all c [] (covering_nodes c es ++ k ∷ []) → TrailsAll c m (covering c held (others c k)) trail longer → longer ≡ trail_of c (es ++ k ∷ [])
trail_others p c os es room o k m keys held trail longer f h e g trails =
    let t = frame_table p c (os ++ o ∷ []) (es ++ k ∷ []) room f in
    let nodes : List ℕ = covering_nodes c es ++ k ∷ [] in
    let parts = open_parts c [] (covering_nodes c es ++ k ∷ []) (covering c (commit c (commits_of c es) k) (others c k)) (push_open p c os es room o k f) in
    let P : List ℕ → Type 0 = λ commits. TrailsAll c m (covering c commits (others c k)) trail longer in
    let more : List ℕ = hidden_all c (outs_all c [] (covering_nodes c es ++ k ∷ [])) (covering c (commit c (commits_of c es) k) (others c k)) in
    (subst P e trails) (outs_all c [] nodes) (history_spelled c nodes m keys t parts.0 h) parts.1 ∙ ap (λ (xs : List ℕ). xs ++ more) g ∙ sym (trail_split p c os es room o k f)

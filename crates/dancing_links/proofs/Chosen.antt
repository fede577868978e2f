-- One more option chosen, and the last one taken back.
use Rattle.std.proofs.Common.{◌≡◌, ℕ, ◌<◌, ◌≤◌, List, [], ◌∷◌, ◌++◌, length, true, false, nat_lt, ◌==◌, get_or, take, map, Option, refl, arith, sym, ap, ◌∙◌, subst, append_assoc, append-nil}
use Rattle.std.specs.List.{All}
use Rattle.std.proofs.lemmas.Bool.{and_parts, or_right, ltb-true}
use Rattle.std.proofs.lemmas.List.{take-append-le, take_all, same_from_push, length-map}
use Rattle.cover_problem.specs.Numbers.{is_in}
use Rattle.cover_problem.specs.Prefix.{is_covered, is_live, are_apart, are_options, is_prefix}
use Rattle.cover_problem.specs.Problem.{Problem, IsProblem}
use Rattle.cover_problem.proofs.Among.{all_at}
use Rattle.cover_problem.proofs.Prefixes.{prefix_short}
use Rattle.dancing_links.specs.declared.link.Link.{Link}
use Rattle.dancing_links.specs.Columns.{Columns, among, column_of, option_of, IsTable, IsLinked, IsSpelled, IsOptionNode}
use Rattle.dancing_links.specs.Committing.{IsCommits, IsFirst, Recovers, commit, uncommit, committed, covering}
use Rattle.dancing_links.specs.Keys.{IsKeyed, KeysCoveredAll}
use Rattle.dancing_links.specs.Trail.{hidden_all, KeysUncoveredAll, UncoversAll}
use Rattle.dancing_links.specs.Covering.{outs, outs_all, links_all, hides, covered_by, others, nodes_by, AreOpen, CoversAll}
use Rattle.dancing_links.specs.Linking.{unlinks}
use Rattle.dancing_links.specs.Table.{table}
use Rattle.choices.specs.Choices.{Choices, with_child, IsNextChoice}
use Rattle.dancing_links.specs.Choices.{AreFresh, IsLinks, IsHistory, chosen_nodes, covering_nodes, commits_of, no_commits}
use Rattle.dancing_links.proofs.Agreeing.{covering_start, covering_all}
use Rattle.dancing_links.proofs.Cast.{IsCast, cast_free}
use Rattle.dancing_links.proofs.Choose.{spelled_all, links_append, out_append, open_parts}
use Rattle.dancing_links.proofs.Commits.{commit_kept, uncommit_commit, committed_append, committed_kept, committed_same, covering_append, covering_new, no_commits_kept, repeated_none}
use Rattle.dancing_links.proofs.Entries.{IsSeen, each_head, each_tail, each_cons, nodes_more, nodes_short, row_item, seen_all, seen_start}
use Rattle.dancing_links.proofs.Parts.{map_append}
use Rattle.cover_problem.proofs.Fronts.{prefix_push, prefix_front}
use Rattle.dancing_links.proofs.Present.{AreNew, are_open, out_start, with_all}
use Rattle.dancing_links.proofs.Ranges.{table_of}
use Rattle.dancing_links.proofs.Tables.{table_is}
use Rattle.dancing_links.proofs.Undone.{history_more, history_less}

-- ---- what is chosen, apart from the links

pub record IsFrame (p : Problem) (c : Columns) (os es : List ℕ) (room : ℕ) : Type 0 where
  pub is_problem : IsProblem p
  pub layout : c ≡ table p
  pub enough : p.primary ≤ room
  pub prefix : is_prefix p os ≡ true
  pub each_node : All (IsOptionNode c) es
  pub options : map (option_of c) es ≡ os
  pub fresh : AreFresh p c [] es

pub frame_of : (p : Problem) (c : Columns) (os es : List ℕ) (m : List Link) (keys : List ℕ) (room : ℕ) → IsLinks p c os es m keys room → IsFrame p c os es room
frame_of p c os es m keys room is = record { is_problem = is.is_problem; layout = is.layout; enough = is.enough; prefix = is.prefix; each_node = is.each_node; options = is.options; fresh = is.fresh }

pub links_of : (p : Problem) (c : Columns) (os es : List ℕ) (m : List Link) (keys : List ℕ) (room : ℕ) → IsFrame p c os es room → IsLinked c m → IsHistory c (covering_nodes c es) m keys → IsLinks p c os es m keys room
links_of p c os es m keys room f linked history = record { is_problem = f.is_problem; layout = f.layout; enough = f.enough; prefix = f.prefix; linked = linked; each_node = f.each_node; options = f.options; fresh = f.fresh; history = history }

pub frame_table : (p : Problem) (c : Columns) (os es : List ℕ) (room : ℕ) → IsFrame p c os es room → IsTable c
frame_table p c os es room f = table_of p c f.is_problem f.layout

-- what the nodes of the chosen options come to
pub record IsCastBy (p : Problem) (c : Columns) (os es : List ℕ) : Type 0 where
  pub new : AreNew c [] (covering_nodes c es)
  pub cast : IsCast p c os (with_all [] (chosen_nodes c es)) (with_all [] (covering_nodes c es)) (commits_of c es)

option_in : (p : Problem) (os : List ℕ) (o : ℕ) → is_prefix p os ≡ true → is_in os o ≡ true → o < length p.options
option_in p os o prefix chosen =
    let parts = and_parts (are_options p os) (are_apart p os) prefix in
    ltb-true o (length p.options) (all_at (λ q. nat_lt q (length p.options)) os o parts.0 chosen)

pub frame_cast : (p : Problem) (c : Columns) (os es : List ℕ) (room : ℕ) → IsFrame p c os es room → IsCastBy p c os es
frame_cast p c os es room f =
    let P : Columns → Type 0 = λ t. All (IsOptionNode t) es → map (option_of t) es ≡ os → IsCastBy p t os es in
    subst P (sym f.layout) (λ each options.
    let t = table_is p f.is_problem in
    let prefix = ap (is_prefix p) options ∙ f.prefix in
    let all = seen_all p [] [] es f.is_problem each (seen_start p (table p)) prefix in
    let small : (table p).tails ≤ 300000 = omega (arith, f.is_problem.names, f.is_problem.occurrences) in
    let short = nodes_short (table p) es t small each in
    let few : length es ≤ 1000 = omega (arith, ap length options, length-map es (option_of (table p)), prefix_short p os f.is_problem f.prefix, f.is_problem.primary, f.is_problem.names) in
    let none : length {A = ℕ} [] ≡ 0 = refl in
    let covered = covering_all (table p) [] [] (no_commits (table p)) (chosen_nodes (table p) es) (covering_start (table p) t) all.agreed (omega (arith, short, few, none)) in
    let Q : List ℕ → Type 0 = λ xs. IsSeen p (table p) (with_all [] (chosen_nodes (table p) es)) xs in
    record {
      new = covered.new;
      cast = record { is_problem = f.is_problem; options = λ o h. option_in p os o f.prefix h; covering = covered.after; seen_is = subst Q options all.after };
    }) f.each_node f.options

-- no colour was given to an item that is not covered
pub frame_free : (p : Problem) (c : Columns) (os es : List ℕ) (room i : ℕ) → IsFrame p c os es room → is_covered p os i ≡ false → get_or (commits_of c es) i 0 ≡ 0
frame_free p c os es room i f free =
    let P : Columns → Type 0 = λ t. IsCastBy p t os es → get_or (commits_of t es) i 0 ≡ 0 in
    subst P (sym f.layout) (λ at. cast_free p os (with_all [] (chosen_nodes (table p) es)) (with_all [] (covering_nodes (table p) es)) (commits_of (table p) es) i at.cast free) (frame_cast p c os es room f)

-- the nodes that cover can do so one after the other
pub frame_new : (p : Problem) (c : Columns) (os es : List ℕ) (room : ℕ) → IsFrame p c os es room → AreNew c [] (covering_nodes c es)
frame_new p c os es room f = (frame_cast p c os es room f).new

pub frame_open : (p : Problem) (c : Columns) (os es : List ℕ) (room : ℕ) → IsFrame p c os es room → AreOpen c [] (covering_nodes c es)
frame_open p c os es room f = are_open c [] [] (covering_nodes c es) (frame_table p c os es room f) (out_start c) (frame_new p c os es room f)

each_push : (c : Columns) (es : List ℕ) (k : ℕ) → All (IsOptionNode c) es → IsOptionNode c k → All (IsOptionNode c) (es ++ k ∷ [])
each_push c [] k each node = each_cons c k [] node each
each_push c (e ∷ es) k each node = each_cons c e (es ++ k ∷ []) (each_head c e es each) (each_push c es k (each_tail c e es each) node)

each_front : (c : Columns) (es : List ℕ) (k : ℕ) → All (IsOptionNode c) (es ++ k ∷ []) → All (IsOptionNode c) es × IsOptionNode c k
each_front c [] k each = (each_tail c k [] each, each_head c k [] each)
each_front c (e ∷ es) k each = let rest = each_front c es k (each_tail c e (es ++ k ∷ []) each) in (each_cons c e es (each_head c e (es ++ k ∷ []) each) rest.0, rest.1)

fresh_push : (p : Problem) (c : Columns) (before es : List ℕ) (k : ℕ) → AreFresh p c before es → is_covered p (before ++ map (option_of c) es) (column_of c k) ≡ false → AreFresh p c before (es ++ k ∷ [])
fresh_push p c before [] k fresh free = (ap (λ os. is_covered p os (column_of c k)) (sym (append-nil before)) ∙ free, tt)
fresh_push p c before (e ∷ es) k fresh free =
    (fresh.0, fresh_push p c (before ++ option_of c e ∷ []) es k fresh.1 (ap (λ os. is_covered p os (column_of c k)) (append_assoc before (option_of c e ∷ []) (map (option_of c) es)) ∙ free))

fresh_front : (p : Problem) (c : Columns) (before es : List ℕ) (k : ℕ) → AreFresh p c before (es ++ k ∷ []) → AreFresh p c before es × (is_covered p (before ++ map (option_of c) es) (column_of c k) ≡ false)
fresh_front p c before [] k fresh = (tt, ap (λ os. is_covered p os (column_of c k)) (append-nil before) ∙ fresh.0)
fresh_front p c before (e ∷ es) k fresh =
    let rest = fresh_front p c (before ++ option_of c e ∷ []) es k fresh.1 in
    ((fresh.0, rest.0), ap (λ os. is_covered p os (column_of c k)) (sym (append_assoc before (option_of c e ∷ []) (map (option_of c) es))) ∙ rest.1)

-- with one more option, by a node
pub frame_push : (p : Problem) (c : Columns) (os es : List ℕ) (room o k : ℕ) → IsFrame p c os es room → o < length p.options → is_live p os o ≡ true → is_covered p os (column_of c k) ≡ false → IsOptionNode c k → option_of c k ≡ o → IsFrame p c (os ++ o ∷ []) (es ++ k ∷ []) room
frame_push p c os es room o k f inside live free node own = record {
  is_problem = f.is_problem;
  layout = f.layout;
  enough = f.enough;
  prefix = prefix_push p os o f.is_problem f.prefix inside live;
  each_node = each_push c es k f.each_node node;
  options = map_append (option_of c) es (k ∷ []) ∙ ap (λ xs. xs ++ option_of c k ∷ []) f.options ∙ ap (λ q. os ++ q ∷ []) own;
  fresh = fresh_push p c [] es k f.fresh (ap (λ xs. is_covered p xs (column_of c k)) f.options ∙ free);
}

-- without the last one
pub frame_front : (p : Problem) (c : Columns) (os es : List ℕ) (room o k : ℕ) → IsFrame p c (os ++ o ∷ []) (es ++ k ∷ []) room → IsFrame p c os es room × IsOptionNode c k × (option_of c k ≡ o)
frame_front p c os es room o k f =
    let each = each_front c es k f.each_node in
    let same = same_from_push (map (option_of c) es) os (option_of c k) o (sym (map_append (option_of c) es (k ∷ [])) ∙ f.options) in
    (record { is_problem = f.is_problem; layout = f.layout; enough = f.enough; prefix = prefix_front p os (o ∷ []) f.prefix; each_node = each.0; options = same.0; fresh = (fresh_front p c [] es k f.fresh).0 }, each.1, same.1)

-- the item by which it was chosen was not covered
pub last_free : (p : Problem) (c : Columns) (os es : List ℕ) (room o k : ℕ) → IsFrame p c (os ++ o ∷ []) (es ++ k ∷ []) room → is_covered p os (column_of c k) ≡ false
last_free p c os es room o k f = ap (λ xs. is_covered p xs (column_of c k)) (sym (frame_front p c os es room o k f).0.options) ∙ (fresh_front p c [] es k f.fresh).1

-- ---- the nodes that cover with one more choice

pub commits_more : (c : Columns) (es : List ℕ) (k : ℕ) → commits_of c (es ++ k ∷ []) ≡ committed c (commits_of c es) (nodes_by c k)
commits_more c es k = ap (committed c (no_commits c)) (nodes_more c es k) ∙ committed_append c (no_commits c) (chosen_nodes c es) (nodes_by c k)

pub covering_more : (c : Columns) (es : List ℕ) (k : ℕ) → covering_nodes c (es ++ k ∷ []) ≡ covering_nodes c es ++ covering c (commits_of c es) (nodes_by c k)
covering_more c es k = ap (covering c (no_commits c)) (nodes_more c es k) ∙ covering_append c (no_commits c) (chosen_nodes c es) (nodes_by c k)

-- the node of the choice covers its item, and then the others of its option
pub covering_push : (p : Problem) (c : Columns) (os es : List ℕ) (room k : ℕ) → IsFrame p c os es room → is_covered p os (column_of c k) ≡ false → covering_nodes c (es ++ k ∷ []) ≡ (covering_nodes c es ++ k ∷ []) ++ covering c (commit c (commits_of c es) k) (others c k)
covering_push p c os es room k f free =
    covering_more c es k
    ∙ ap (λ ks. covering_nodes c es ++ ks) (covering_new c (commits_of c es) k (others c k) (repeated_none c (commits_of c es) k (frame_free p c os es room (column_of c k) f free)))
    ∙ sym (append_assoc (covering_nodes c es) (k ∷ []) (covering c (commit c (commits_of c es) k) (others c k)))

pub push_open : (p : Problem) (c : Columns) (os es : List ℕ) (room o k : ℕ) → IsFrame p c (os ++ o ∷ []) (es ++ k ∷ []) room → AreOpen c [] ((covering_nodes c es ++ k ∷ []) ++ covering c (commit c (commits_of c es) k) (others c k))
push_open p c os es room o k f =
    let Q : List ℕ → Type 0 = λ ks. AreOpen c [] ks in
    subst Q (covering_push p c os es room k (frame_front p c os es room o k f).0 (last_free p c os es room o k f)) (frame_open p c (os ++ o ∷ []) (es ++ k ∷ []) room f)

pub commits_kept : (p : Problem) (c : Columns) (os es : List ℕ) (room : ℕ) → IsFrame p c os es room → IsCommits c (commits_of c es)
commits_kept p c os es room f = committed_kept c (no_commits c) (chosen_nodes c es) (no_commits_kept c (frame_table p c os es room f))

pub held_kept : (p : Problem) (c : Columns) (os es : List ℕ) (m : List Link) (keys : List ℕ) (room : ℕ) (held : List ℕ) → IsLinks p c os es m keys room → held ≡ commits_of c es → IsCommits c held
held_kept p c os es m keys room held is e =
    let P : List ℕ → Type 0 = λ commits. IsCommits c commits in
    subst P (sym e) (commits_kept p c os es room (frame_of p c os es m keys room is))

-- what is kept of the colours with one more choice
pub commits_pushed : (c : Columns) (es : List ℕ) (k : ℕ) (held now : List ℕ) → held ≡ commits_of c es → now ≡ committed c held (nodes_by c k) → now ≡ commits_of c (es ++ k ∷ [])
commits_pushed c es k held now e f = f ∙ ap (λ (commits : List ℕ). committed c commits (nodes_by c k)) e ∙ sym (commits_more c es k)

-- what is kept of the colours once the last choice is taken back
pub commits_popped : (p : Problem) (c : Columns) (os es : List ℕ) (room o k : ℕ) (held now : List ℕ) → IsFrame p c (os ++ o ∷ []) (es ++ k ∷ []) room → held ≡ commits_of c (es ++ k ∷ []) → IsCommits c now → committed c now (nodes_by c k) ≡ held → now ≡ commits_of c es
commits_popped p c os es room o k held now f e kept back =
    let t = frame_table p c (os ++ o ∷ []) (es ++ k ∷ []) room f in
    let front = frame_front p c os es room o k f in
    committed_same c now (commits_of c es) (nodes_by c k) (λ z h. row_item c k z t front.1 h) kept (commits_kept p c os es room front.0) (back ∙ e ∙ commits_more c es k)

-- the same, once the others of its option are taken back
pub commits_half : (p : Problem) (c : Columns) (os es : List ℕ) (room o k : ℕ) (held now : List ℕ) → IsFrame p c (os ++ o ∷ []) (es ++ k ∷ []) room → held ≡ commits_of c (es ++ k ∷ []) → IsCommits c now → committed c now (others c k) ≡ held → now ≡ commit c (commits_of c es) k
commits_half p c os es room o k held now f e kept back =
    let t = frame_table p c (os ++ o ∷ []) (es ++ k ∷ []) room f in
    let front = frame_front p c os es room o k f in
    committed_same c now (commit c (commits_of c es) k) (others c k) (λ z h. row_item c k z t front.1 (or_right (k == z) (among (others c k) z) h)) kept (commit_kept c (commits_of c es) k (commits_kept p c os es room front.0)) (back ∙ e ∙ commits_more c es k)

-- and once its own is taken back
pub commits_item : (p : Problem) (c : Columns) (os es : List ℕ) (room o k : ℕ) (held now : List ℕ) → IsFrame p c (os ++ o ∷ []) (es ++ k ∷ []) room → held ≡ commit c (commits_of c es) k → now ≡ uncommit c held k → now ≡ commits_of c es
commits_item p c os es room o k held now f e back =
    let t = frame_table p c (os ++ o ∷ []) (es ++ k ∷ []) room f in
    let front = frame_front p c os es room o k f in
    back ∙ ap (λ (commits : List ℕ). uncommit c commits k) e ∙ uncommit_commit c (commits_of c es) k (t.option_columns k front.1.0 front.1.1) (commits_kept p c os es room front.0)

-- with the others of another node's option
pub commits_others : (c : Columns) (es : List ℕ) (k : ℕ) (held now : List ℕ) → held ≡ commit c (commits_of c es) k → now ≡ committed c held (others c k) → now ≡ commits_of c (es ++ k ∷ [])
commits_others c es k held now e f = f ∙ ap (λ (commits : List ℕ). committed c commits (others c k)) e ∙ sym (commits_more c es k)

-- the node of the last choice was the first to give its item a colour
pub first_of : (p : Problem) (c : Columns) (os es : List ℕ) (room o k : ℕ) (held : List ℕ) → IsFrame p c (os ++ o ∷ []) (es ++ k ∷ []) room → held ≡ commit c (commits_of c es) k → IsFirst c (commits_of c es) held k
first_of p c os es room o k held f e =
    let front = (frame_front p c os es room o k f).0 in
    record { kept = commits_kept p c os es room front; none = frame_free p c os es room (column_of c k) front (last_free p c os es room o k f); commits = e }

-- ---- the links

-- once the others of a node's option cover their items as well
pub others_pushed : (p : Problem) (c : Columns) (os es : List ℕ) (mid new : List Link) (half now held : List ℕ) (room o k : ℕ) → IsFrame p c (os ++ o ∷ []) (es ++ k ∷ []) room → IsHistory c (covering_nodes c es ++ k ∷ []) mid half → held ≡ commit c (commits_of c es) k → IsLinked c new → CoversAll c mid (covering c held (others c k)) new → KeysCoveredAll c mid (covering c held (others c k)) half now → IsLinks p c (os ++ o ∷ []) (es ++ k ∷ []) new now room
others_pushed p c os es mid new half now held room o k f history e linked covers keys =
    let t = frame_table p c (os ++ o ∷ []) (es ++ k ∷ []) room f in
    let H : List ℕ → Type 0 = λ ks. IsHistory c ks new now in
    let P : List ℕ → Type 0 = λ commits. CoversAll c mid (covering c commits (others c k)) new in
    let Q : List ℕ → Type 0 = λ commits. KeysCoveredAll c mid (covering c commits (others c k)) half now in
    let push = covering_push p c os es room k (frame_front p c os es room o k f).0 (last_free p c os es room o k f) in
    let more = history_more c (covering_nodes c es ++ k ∷ []) (covering c (commit c (commits_of c es) k) (others c k)) mid new half now t (push_open p c os es room o k f) history (subst P e covers) (subst Q e keys) in
    links_of p c (os ++ o ∷ []) (es ++ k ∷ []) new now room f linked (subst H (sym push) more)

-- with one more option chosen, by a node
pub links_push : (p : Problem) (c : Columns) (os es : List ℕ) (old new : List Link) (was now held : List ℕ) (room o k : ℕ) → IsLinks p c os es old was room → held ≡ commits_of c es → o < length p.options → is_live p os o ≡ true → is_covered p os (column_of c k) ≡ false → IsOptionNode c k → option_of c k ≡ o → IsLinked c new → CoversAll c old (covering c held (nodes_by c k)) new → KeysCoveredAll c old (covering c held (nodes_by c k)) was now → IsLinks p c (os ++ o ∷ []) (es ++ k ∷ []) new now room
links_push p c os es old new was now held room o k is e inside live free node own linked covers keys =
    let f = frame_push p c os es room o k (frame_of p c os es old was room is) inside live free node own in
    let t = frame_table p c (os ++ o ∷ []) (es ++ k ∷ []) room f in
    let all = covering_more c es k in
    let O : List ℕ → Type 0 = λ ks. AreOpen c [] ks in
    let H : List ℕ → Type 0 = λ ks. IsHistory c ks new now in
    let P : List ℕ → Type 0 = λ commits. CoversAll c old (covering c commits (nodes_by c k)) new in
    let Q : List ℕ → Type 0 = λ commits. KeysCoveredAll c old (covering c commits (nodes_by c k)) was now in
    let more = history_more c (covering_nodes c es) (covering c (commits_of c es) (nodes_by c k)) old new was now t (subst O all (frame_open p c (os ++ o ∷ []) (es ++ k ∷ []) room f)) is.history (subst P e covers) (subst Q e keys) in
    links_of p c (os ++ o ∷ []) (es ++ k ∷ []) new now room f linked (subst H (sym all) more)

-- without the last one
pub links_pop : (p : Problem) (c : Columns) (os es : List ℕ) (old new : List Link) (was now held piece : List ℕ) (room o k : ℕ) → IsLinks p c (os ++ o ∷ []) (es ++ k ∷ []) old was room → held ≡ commits_of c es → IsLinked c new → UncoversAll c old (covering c held (nodes_by c k)) piece new → KeysUncoveredAll c old (covering c held (nodes_by c k)) piece was now → piece ≡ hidden_all c (outs_all c [] (covering_nodes c es)) (covering c (commits_of c es) (nodes_by c k)) → IsLinks p c os es new now room
links_pop p c os es old new was now held piece room o k is e linked uncovers keys same =
    let f = frame_of p c (os ++ o ∷ []) (es ++ k ∷ []) old was room is in
    let all = covering_more c es k in
    let O : List ℕ → Type 0 = λ ks. AreOpen c [] ks in
    let H : List ℕ → Type 0 = λ ks. IsHistory c ks old was in
    let P : List ℕ → Type 0 = λ commits. UncoversAll c old (covering c commits (nodes_by c k)) piece new in
    let Q : List ℕ → Type 0 = λ commits. KeysUncoveredAll c old (covering c commits (nodes_by c k)) piece was now in
    let less = history_less c (covering_nodes c es) (covering c (commits_of c es) (nodes_by c k)) piece old new was now (frame_table p c (os ++ o ∷ []) (es ++ k ∷ []) room f) (subst O all (frame_open p c (os ++ o ∷ []) (es ++ k ∷ []) room f)) (subst H all is.history) (subst P e uncovers) (subst Q e keys) same in
    links_of p c os es new now room (frame_front p c os es room o k f).0 linked less

-- once the others of the last node's option are taken back
pub others_popped : (p : Problem) (c : Columns) (os es : List ℕ) (old mid : List Link) (was half held piece : List ℕ) (room o k : ℕ) → IsLinks p c (os ++ o ∷ []) (es ++ k ∷ []) old was room → held ≡ commit c (commits_of c es) k → UncoversAll c old (covering c held (others c k)) piece mid → KeysUncoveredAll c old (covering c held (others c k)) piece was half → piece ≡ hidden_all c (outs_all c [] (covering_nodes c es ++ k ∷ [])) (covering c (commit c (commits_of c es) k) (others c k)) → IsHistory c (covering_nodes c es ++ k ∷ []) mid half
others_popped p c os es old mid was half held piece room o k is e uncovers keys same =
    let f = frame_of p c (os ++ o ∷ []) (es ++ k ∷ []) old was room is in
    let H : List ℕ → Type 0 = λ ks. IsHistory c ks old was in
    let P : List ℕ → Type 0 = λ commits. UncoversAll c old (covering c commits (others c k)) piece mid in
    let Q : List ℕ → Type 0 = λ commits. KeysUncoveredAll c old (covering c commits (others c k)) piece was half in
    let push = covering_push p c os es room k (frame_front p c os es room o k f).0 (last_free p c os es room o k f) in
    history_less c (covering_nodes c es ++ k ∷ []) (covering c (commit c (commits_of c es) k) (others c k)) piece old mid was half (frame_table p c (os ++ o ∷ []) (es ++ k ∷ []) room f) (push_open p c os es room o k f) (subst H push is.history) (subst P e uncovers) (subst Q e keys) same

-- and its own
pub item_popped : (p : Problem) (c : Columns) (os es : List ℕ) (mid new : List Link) (half now held piece : List ℕ) (room o k : ℕ) → IsFrame p c (os ++ o ∷ []) (es ++ k ∷ []) room → IsHistory c (covering_nodes c es ++ k ∷ []) mid half → held ≡ commits_of c es → IsLinked c new → UncoversAll c mid (covering c held (k ∷ [])) piece new → KeysUncoveredAll c mid (covering c held (k ∷ [])) piece half now → piece ≡ hidden_all c (outs_all c [] (covering_nodes c es)) (k ∷ []) → IsLinks p c os es new now room
item_popped p c os es mid new half now held piece room o k f history e linked uncovers keys same =
    let t = frame_table p c (os ++ o ∷ []) (es ++ k ∷ []) room f in
    let front = (frame_front p c os es room o k f).0 in
    let one : covering c held (k ∷ []) ≡ k ∷ [] = ap (λ (commits : List ℕ). covering c commits (k ∷ [])) e ∙ covering_new c (commits_of c es) k [] (repeated_none c (commits_of c es) k (frame_free p c os es room (column_of c k) front (last_free p c os es room o k f))) in
    let P : List ℕ → Type 0 = λ ks. UncoversAll c mid ks piece new in
    let Q : List ℕ → Type 0 = λ ks. KeysUncoveredAll c mid ks piece half now in
    let are = (open_parts c [] (covering_nodes c es ++ k ∷ []) (covering c (commit c (commits_of c es) k) (others c k)) (push_open p c os es room o k f)).0 in
    links_of p c os es new now room front linked
    (history_less c (covering_nodes c es) (k ∷ []) piece mid new half now t are history (subst P one uncovers) (subst Q one keys) same)

-- another node in the place of the last one
pub recovered : (p : Problem) (c : Columns) (os es : List ℕ) (mid new : List Link) (half now held kept piece trail : List ℕ) (room o k next : ℕ) → IsFrame p c (os ++ o ∷ []) (es ++ k ∷ []) room → IsHistory c (covering_nodes c es ++ k ∷ []) mid half → Recovers c (commits_of c es) mid half kept piece k next new now trail held → piece ≡ hides c (outs_all c [] (covering_nodes c es)) k → IsHistory c (covering_nodes c es ++ next ∷ []) new now
recovered p c os es mid new half now held kept piece trail room o k next f h r same =
    let t = frame_table p c (os ++ o ∷ []) (es ++ k ∷ []) room f in
    let xs = covering_nodes c es in
    let parts = open_parts c [] xs (k ∷ []) (open_parts c [] (covering_nodes c es ++ k ∷ []) (covering c (commit c (commits_of c es) k) (others c k)) (push_open p c os es room o k f)).0 in
    let before = h.before in
    let out : List ℕ = outs_all c [] (covering_nodes c es) in
    let m : List Link = links_all c [] before (covering_nodes c es) in
    let spelled : IsSpelled c (outs_all c [] (covering_nodes c es)) (links_all c [] before (covering_nodes c es)) = spelled_all c [] before xs t h.built.spelled parts.0 in
    let was : mid ≡ unlinks (links_all c [] before (covering_nodes c es)) (hides c (outs_all c [] (covering_nodes c es)) k) = h.links_are ∙ links_append c [] before xs (k ∷ []) in
    let P : List ℕ → Type 0 = λ gone. IsKeyed c gone half in
    let Q : List ℕ → Type 0 = λ gone. IsKeyed c gone now in
    let keyed : IsKeyed c (outs (covered_by c (outs_all c [] (covering_nodes c es)) k) (outs_all c [] (covering_nodes c es))) half = subst P (out_append c [] xs (k ∷ [])) h.keyed in
    record {
      before = before;
      built = h.built;
      links_are = r.links out m (spelled, parts.1.0, was, same) ∙ sym (links_append c [] before xs (next ∷ []));
      keyed = subst Q (sym (out_append c [] xs (next ∷ []))) (r.keys out m (spelled, parts.1.0, was, same) keyed);
    }

-- links that were lent as a slice come back
pub put_back : {X : Type 0} (new rest : List X) (n : ℕ) → n ≡ length new → take n (new ++ rest) ≡ new
put_back new rest n e = let h : n ≤ length new = omega (arith, e) in let k : length new ≤ n = omega (arith, e) in take-append-le n new rest h ∙ take_all n new k

pub same_links_of : (p : Problem) (c : Columns) (os xs es ks : List ℕ) (m n : List Link) (was now : List ℕ) (room more : ℕ) → xs ≡ os → ks ≡ es → n ≡ m → now ≡ was → more ≡ room → IsLinks p c os es m was room → IsLinks p c xs ks n now more
same_links_of p c os xs es ks m n was now room more e k f h g is =
    let P : List ℕ → Type 0 = λ ys. IsLinks p c ys ks n now more in
    let T : List ℕ → Type 0 = λ ys. IsLinks p c os ys n now more in
    let Q : List Link → Type 0 = λ ys. IsLinks p c os es ys now more in
    let S : List ℕ → Type 0 = λ ys. IsLinks p c os es m ys more in
    let R : ℕ → Type 0 = λ n. IsLinks p c os es m was n in
    subst P (sym e) (subst T (sym k) (subst Q (sym f) (subst S (sym h) (subst R (sym g) is))))

-- ---- what contracts see

abbrev pub choices_by : Problem → List ℕ → List ℕ → Choices
choices_by p os branches = record { problem = p; chosen = os; branches = branches }

-- with one more option chosen
pub view_push : (v : Choices) (p : Problem) (c : Columns) (os es xs ks : List ℕ) (o k i : ℕ) → choices_by p os (map (column_of c) es) ≡ v → xs ≡ os ++ o ∷ [] → ks ≡ es ++ k ∷ [] → column_of c k ≡ i → choices_by p xs (map (column_of c) ks) ≡ with_child v i o
view_push v p c os es xs ks o k i view chosen entries item =
    let branches : map (column_of c) ks ≡ map (column_of c) es ++ i ∷ [] = ap (map (column_of c)) entries ∙ map_append (column_of c) es (k ∷ []) ∙ ap (λ n. map (column_of c) es ++ n ∷ []) item in
    ap (λ (ys : List ℕ). choices_by p ys (map (column_of c) ks)) chosen
    ∙ ap (choices_by p (os ++ o ∷ [])) branches
    ∙ ap (λ (w : Choices). with_child w i o) view

-- as many nodes as options are chosen
pub same_length : (p : Problem) (c : Columns) (os es : List ℕ) (m : List Link) (keys : List ℕ) (room : ℕ) → IsLinks p c os es m keys room → length es ≡ length os
same_length p c os es m keys room is = sym (length-map es (option_of c)) ∙ ap length is.options

same_child : (a b : Choices) (i j o q : ℕ) → with_child a i o ≡ with_child b j q → (a ≡ b) × (i ≡ j) × (o ≡ q)
same_child a b i j o q e =
    let problem : a.problem ≡ b.problem = ap (λ (v : Choices). v.problem) e in
    let chosen = same_from_push a.chosen b.chosen o q (ap (λ (v : Choices). v.chosen) e) in
    let branches = same_from_push a.branches b.branches i j (ap (λ (v : Choices). v.branches) e) in
    let same : a ≡ b = ap (λ p. choices_by p a.chosen a.branches) problem ∙ ap (λ os. choices_by b.problem os a.branches) chosen.0 ∙ ap (choices_by b.problem b.chosen) branches.0 in
    (same, branches.1, chosen.1)

-- what comes in place of a choice, whatever it is known by
pub next_choice : (a b : Choices) (i j o q : ℕ) (next : Option ℕ) (after : Choices) → with_child a i o ≡ with_child b j q → IsNextChoice a i o next after → IsNextChoice b j q next after
next_choice a b i j o q next after e is =
    let same = same_child a b i j o q e in
    let P : Choices → Type 0 = λ v. IsNextChoice v i o next after in
    let Q : ℕ → Type 0 = λ n. IsNextChoice b n o next after in
    let R : ℕ → Type 0 = λ n. IsNextChoice b j n next after in
    subst R same.2 (subst Q same.1 (subst P same.0 is))

pub same_linked : (c : Columns) (m n : List Link) → n ≡ m → IsLinked c m → IsLinked c n
same_linked c m n e linked = let P : List Link → Type 0 = λ links. IsLinked c links in subst P (sym e) linked

-- The world in which a merge of books begins: every node's first incarnation has the limit on names of its book.
use Rattle.std.proofs.Common.{◌≡◌, ℕ, zero, suc, ◌+◌, ◌<◌, Bool, true, false, cond, if◌then◌else◌, List, [], ◌∷◌, length, Some, slice_get, refl, sym, ap, ◌∙◌, subst, ⊎_elim, arith}
use Rattle.std.proofs.lemmas.Bool.{cases_eq}
use Rattle.std.proofs.lemmas.Option.{same_Some, none-some}
use Rattle.std.specs.List.{AllByRecursion}
use Rattle.cover_problem.specs.Problem.{Problem}
use Rattle.cover_world.specs.Worlds.{opening_node, opening_nodes, opening_registry, opening_world}
use Rattle.node_core.specs.SiteView.{View}
use Rattle.audit.proofs.Merging.{AreApart}
use Rattle.audit.proofs.Running.{current, future, Keeps, Seated}
use Rattle.run_book.specs.Books.{Book, EndsIn, IsBook, LeadsTo}
use Rattle.run_book.specs.Entries.{Entry}
use Rattle.run_book.specs.Sites.{MayBeginAt, RunName, opening_at}
use Rattle.spawn_frame.proofs.Sames.{same_site_self, site_path}
use Rattle.spawn_frame.specs.Names.{same_site}
use Rattle.spawn_frame.specs.declared.site.Site.{Site}

-- ---- the limits and last views of books

pub limit_of : (run : RunName) (books : List Book) → AllByRecursion (IsBook run) books → ℕ → ℕ
limit_of run [] all k = 0
limit_of run (b ∷ bs) all zero = all.0.0
limit_of run (b ∷ bs) all (suc k) = limit_of run bs all.1 k

pub last_of : (run : RunName) (books : List Book) → AllByRecursion (IsBook run) books → ℕ → View
last_of run [] all k = opening_registry 0
last_of run (b ∷ bs) all zero = all.0.1
last_of run (b ∷ bs) all (suc k) = last_of run bs all.1 k

pub ends_of : (run : RunName) (books : List Book) (all : AllByRecursion (IsBook run) books) (k : ℕ) (book : Book) → slice_get books k ≡ Some book
    → EndsIn run book (limit_of run books all k) (last_of run books all k)
unfolding limit_of last_of
ends_of run [] all k book e = absurd (none-some book e)
ends_of run (b ∷ bs) all zero book e = subst (λ x. EndsIn run x all.0.0 all.0.1) (same_Some b book e) all.0.2
ends_of run (b ∷ bs) all (suc k) book e = ends_of run bs all.1 k book e

-- ---- the limit on names of each node

abbrev pub limit_for : List Book → (ℕ → ℕ) → ℕ → ℕ
limit_for [] limits node = 0
limit_for (b ∷ bs) limits node =
    if same_site b.site (record { node = node; incarnation = 1 }) then limits 0 else limit_for bs (λ k. limits (suc k)) node

apart_tail : (b : Book) (bs : List Book) → AreApart (b ∷ bs) → AreApart bs
apart_tail b bs d i j x y e f s = omega (arith, d (suc i) (suc j) x y e f s)

limit_is : (books : List Book) (limits : ℕ → ℕ) (node : ℕ) → AreApart books → (k : ℕ) (book : Book) → slice_get books k ≡ Some book
    → book.site ≡ record { node = node; incarnation = 1 } → limit_for books limits node ≡ limits k
limit_is [] limits node d k book e s = absurd (none-some book e)
limit_is (b ∷ bs) limits node d zero book e s =
    let first : Site = record { node = node; incarnation = 1 } in
    let same : same_site b.site first ≡ true = subst (λ t. same_site t first ≡ true) (sym s ∙ ap (λ x. x.site) (sym (same_Some b book e))) (same_site_self first) in
    ap (λ t. cond t (limits 0) (limit_for bs (λ k. limits (suc k)) node)) same
limit_is (b ∷ bs) limits node d (suc k) book e s = by (same_site b.site first) refl (λ d. limit_is bs (λ k. limits (suc k)) node d k book e s)
  where
    first : Site
    first = record { node = node; incarnation = 1 }

    by : (t : Bool) → same_site b.site first ≡ t → (AreApart bs → limit_for bs (λ k. limits (suc k)) node ≡ limits (suc k))
        → ◌≡◌ {A = ℕ} (cond t (limits 0) (limit_for bs (λ k. limits (suc k)) node)) (limits (suc k))
    by true h rest = absurd (omega (arith, d 0 (suc k) b book refl e (site_path b.site first h ∙ sym s)))
    by false h rest = rest (apart_tail b bs d)

abbrev pub limits_from : (ℕ → ℕ) → ℕ → ℕ → List ℕ
limits_from f zero node = []
limits_from f (suc count) node = f node ∷ limits_from f count (suc node)

pub limits_each : (f : ℕ → ℕ) (count node : ℕ) → length (limits_from f count node) ≡ count
limits_each f zero node = refl
limits_each f (suc count) node = ap suc (limits_each f count (suc node))

seat_of : (nodes : ℕ) (f : ℕ → ℕ) (count node j : ℕ) → j < count
    → slice_get (opening_nodes nodes node (limits_from f count node)) j ≡ Some (opening_node nodes (node + j) 1 (f (node + j)))
seat_of nodes f zero node j l = absurd (omega (arith, l))
seat_of nodes f (suc count) node zero l = let n : node ≡ node + 0 = omega arith in ap (λ n. Some (opening_node nodes n 1 (f n))) n
seat_of nodes f (suc count) node (suc j) l =
    let n : suc node + j ≡ node + suc j = omega arith in
    seat_of nodes f count (suc node) j (omega (arith, l)) ∙ ap (λ n. Some (opening_node nodes n 1 (f n))) n

nodes_seat : (nodes node : ℕ) (limits : List ℕ) (k : ℕ) (view : View) → slice_get (opening_nodes nodes node limits) k ≡ Some view → (view.site.node ≡ node + k) × (view.nodes ≡ nodes)
nodes_seat nodes node [] k view e = absurd (none-some view e)
nodes_seat nodes node (limit ∷ limits) zero view e =
    let v = same_Some _ view e in
    (ap (λ x. x.site.node) (sym v) ∙ omega arith, ap (λ x. x.nodes) (sym v))
nodes_seat nodes node (limit ∷ limits) (suc k) view e =
    let h = nodes_seat nodes (suc node) limits k view e in
    (omega (arith, h.0), h.1)

world_seat : (nodes : ℕ) (limits : List ℕ) (k : ℕ) (view : View) → slice_get (opening_world nodes limits).sites k ≡ Some view → (view.site.node ≡ k) × (view.nodes ≡ nodes)
world_seat nodes limits zero view e = let v = same_Some _ view e in (ap (λ x. x.site.node) (sym v), ap (λ x. x.nodes) (sym v))
world_seat nodes limits (suc k) view e = let h = nodes_seat nodes 1 limits k view e in (omega (arith, h.0), h.1)

-- ---- each book in the opening world

site_opens : (problem : Problem) (nodes : ℕ) (f : ℕ → ℕ) (n : ℕ) (site : Site) (entries : List Entry) (limit : ℕ) (last : View)
    → n ≡ site.node → MayBeginAt n site nodes limit → (site ≡ record { node = site.node; incarnation = 1 } → f site.node ≡ limit)
    → LeadsTo site.node problem (opening_at n site nodes limit) entries last
    → Seated problem nodes limit last (opening_world nodes (limits_from f nodes 1)) site entries
site_opens problem nodes f zero site entries limit last at may g leads =
    subst (λ s. Seated problem nodes limit last (opening_world nodes (limits_from f nodes 1)) s entries) (sym may)
    (record {
      view = opening_registry nodes;
      is = refl;
      stands = current refl (subst (λ (s : Site). LeadsTo s.node problem (opening_registry nodes) entries last) may leads);
    })
site_opens problem nodes f (suc m) site entries limit last at may g leads =
    let n : 1 + m ≡ suc m = omega arith in
    let seat : slice_get (opening_nodes nodes 1 (limits_from f nodes 1)) m ≡ Some (opening_node nodes (suc m) 1 (f (suc m))) =
    seat_of nodes f nodes 1 m (omega (arith, at, may.last)) ∙ ap (λ n. Some (opening_node nodes n 1 (f n))) n in
    record {
      view = opening_node nodes (suc m) 1 (f (suc m));
      is = ap (slice_get (opening_world nodes (limits_from f nodes 1)).sites) (sym at) ∙ seat;
      stands = ⊎_elim
          (λ (e : site.incarnation ≡ 1).
          let first : site ≡ record { node = suc m; incarnation = 1 } = λ i. record { node = sym at i; incarnation = e i } in
          let same : limit ≡ f (suc m) = sym (g (λ i. record { node = site.node; incarnation = e i })) ∙ ap f (sym at) in
          current (sym first)
          (subst (λ x. LeadsTo site.node problem (opening_node nodes x.node x.incarnation (f (suc m))) entries last) first
          (subst (λ x. LeadsTo site.node problem (opening_node nodes site.node site.incarnation x) entries last) same leads)))
          (λ (e : site.incarnation ≡ 1 → ⊥). future (omega (arith, at)) (omega (arith, may.counted, e)) leads)
          (cases_eq site.incarnation 1);
    }

pub books_open : (run : RunName) (books : List Book) (all : AllByRecursion (IsBook run) books) → AreApart books
    → Keeps run.problem run.nodes (limit_of run books all) (last_of run books all)
    (opening_world run.nodes (limits_from (limit_for books (limit_of run books all)) run.nodes 1)) books []
books_open run books all apart = record {
  sent = refl;
  seats = λ n view e. world_seat run.nodes _ n view e;
  apart = apart;
  each = λ k book e.
      let l = ends_of run books all k book e in
      site_opens run.problem run.nodes (limit_for books (limit_of run books all)) book.site.node book.site book.entries _ _ refl l.begins
      (λ s. limit_is books (limit_of run books all) book.site.node apart k book e s)
      l.leads;
}

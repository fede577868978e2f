-- A child of a site is there as long as the site is, and has only grown.
use Rattle.std.proofs.Common.{◌≡◌, ◌≢◌, ◌⊎◌, ℕ, zero, suc, ◌<◌, List, [], ◌∷◌, Some, slice_get, slice_set, refl, sym, ap, ◌∙◌, subst, inl, inr, ⊎_elim, arith}
use Rattle.std.proofs.lemmas.Option.{same_Some, none-some}
use Rattle.cover_problem.specs.Problem.{Problem}
use Rattle.spawn_frame.specs.declared.site.ChildName.{ChildName}
use Rattle.spawn_frame.specs.Units.{Entry}
use Rattle.node_core.specs.SiteView.{View}
use Rattle.packet_wire.specs.declared.packet.Packet.{Packet}
use Rattle.node_core.specs.declared.event.Event.{Event}
use Rattle.node_core.specs.declared.reply.Reply.{Reply}
use Rattle.cover_world.specs.Worlds.{World, WorldMove, Acts, Restarts, SiteStep, WorldStep, Run, stay, go}
use Rattle.cover_world.specs.Safety.{HasChild}
use Rattle.cover_world.proofs.Grows.{Grows, grows_same, grows_then}
use Rattle.cover_world.proofs.Steps.{SiteGrows, node_grows, registry_grows}

-- ---- a list with one element set

pub get_set : (xs : List View) (i : ℕ) (v : View) (j : ℕ) (x : View) → slice_get xs j ≡ Some x
    → ((j ≡ i) × (slice_get (slice_set xs i v) j ≡ Some v)) ⊎ ((j ≢ i) × (slice_get (slice_set xs i v) j ≡ Some x))
get_set [] i v j x e = absurd (none-some x e)
get_set (y ∷ ys) zero v zero x e = inl (refl, refl)
get_set (y ∷ ys) zero v (suc j) x e = inr (omega arith, e)
get_set (y ∷ ys) (suc i) v zero x e = inr (omega arith, e)
get_set (y ∷ ys) (suc i) v (suc j) x e =
    ⊎_elim
    (λ (h : (j ≡ i) × (slice_get (slice_set ys i v) j ≡ Some v)). inl (ap suc h.0, h.1))
    (λ (h : (j ≢ i) × (slice_get (slice_set ys i v) j ≡ Some x)). inr (omega (arith, h.0), h.1))
    (get_set ys i v j x e)

pub set_get : (xs : List View) (i : ℕ) (v : View) (j : ℕ) (y : View) → slice_get (slice_set xs i v) j ≡ Some y
    → ((j ≡ i) × (v ≡ y)) ⊎ ((j ≢ i) × (slice_get xs j ≡ Some y))
set_get [] i v j y e = absurd (none-some y e)
set_get (x ∷ xs) zero v zero y e = inl (refl, same_Some v y e)
set_get (x ∷ xs) zero v (suc j) y e = inr (omega arith, e)
set_get (x ∷ xs) (suc i) v zero y e = inr (omega arith, e)
set_get (x ∷ xs) (suc i) v (suc j) y e =
    ⊎_elim
    (λ (h : (j ≡ i) × (v ≡ y)). inl (ap suc h.0, h.1))
    (λ (h : (j ≢ i) × (slice_get xs j ≡ Some y)). inr (omega (arith, h.0), h.1))
    (set_get xs i v j y e)

pub site_grows : (node : ℕ) (problem : Problem) (old : View) (event : Event) (reply : Reply) (out : List Packet) (new : View)
    → SiteStep node problem old event reply out new → SiteGrows old new
site_grows zero problem old event reply out new h = registry_grows problem old event reply out new h
site_grows (suc node) problem old event reply out new h = node_grows problem old event reply out new h

-- ---- children and their sites

-- what the child has grown to
pub record Later (world : World) (name : ChildName) (c : Entry) : Type 0 where
  pub now : Entry
  pub has : HasChild world name now
  pub grows : Grows c now

-- the site was restarted
pub record Gone (world : World) (name : ChildName) : Type 0 where
  pub view : View
  pub is : slice_get world.sites name.site.node ≡ Some view
  pub greater : name.site.incarnation < view.site.incarnation

pub same_child : (world : World) (name : ChildName) (c d : Entry) → HasChild world name c → HasChild world name d → c ≡ d
same_child world name c d g h =
    let v : g.view ≡ h.view = same_Some g.view h.view (sym g.is ∙ h.is) in
    same_Some c d (sym g.child ∙ ap (λ w. slice_get w.own name.serial) v ∙ h.child)

pub not_gone : (world : World) (name : ChildName) (c : Entry) → HasChild world name c → Gone world name → ⊥
not_gone world name c h g =
    let v : h.view ≡ g.view = same_Some h.view g.view (sym h.is ∙ g.is) in
    let e : name.site.incarnation ≡ g.view.site.incarnation = ap (λ s. s.incarnation) (sym h.site) ∙ ap (λ w. w.site.incarnation) v in
    omega (arith, e, g.greater)

-- the world with one site's view new
abbrev pub seated : World → ℕ → View → List Packet → World
seated old node view sent = record { sites = slice_set old.sites node view; sent = sent }

seat_child : (old : World) (node : ℕ) (before after : View) (sent : List Packet) → slice_get old.sites node ≡ Some before
    → (name : ChildName) (c : Entry) → HasChild old name c
    → (name.site.node ≡ node → slice_get (slice_set old.sites node after) name.site.node ≡ Some after → before.site ≡ name.site → slice_get before.own name.serial ≡ Some c
    → Later (seated old node after sent) name c ⊎ Gone (seated old node after sent) name)
    → Later (seated old node after sent) name c ⊎ Gone (seated old node after sent) name
seat_child old node before after sent at name c h there =
    ⊎_elim
    (λ (e : (name.site.node ≡ node) × (slice_get (slice_set old.sites node after) name.site.node ≡ Some after)).
    let v : h.view ≡ before = same_Some h.view before (sym h.is ∙ ap (slice_get old.sites) e.0 ∙ at) in
    there e.0 e.1 (ap (λ w. w.site) (sym v) ∙ h.site) (ap (λ w. slice_get w.own name.serial) (sym v) ∙ h.child))
    (λ (e : (name.site.node ≢ node) × (slice_get (slice_set old.sites node after) name.site.node ≡ Some h.view)).
    inl (record { now = c; has = record { view = h.view; is = e.1; site = h.site; child = h.child }; grows = grows_same c }))
    (get_set old.sites node after name.site.node h.view h.is)

pub step_keeps : (problem : Problem) (old : World) (event : WorldMove) (new : World) → WorldStep problem old event new
    → (name : ChildName) (c : Entry) → HasChild old name c → Later new name c ⊎ Gone new name
step_keeps problem old (Acts node event) new s name c h =
    subst (λ w. Later w name c ⊎ Gone w name) (sym s.world)
    (seat_child old node s.before s.after _ s.is name c h
    (λ there at site child.
    let g = site_grows node problem s.before event s.reply s.out s.after s.step in
    let d = g.own.each name.serial c child in
    inl (record { now = d.now; has = record { view = s.after; is = at; site = g.site ∙ site; child = d.is }; grows = d.grows })))
step_keeps problem old (Restarts node incarnation limit) new s name c h =
    subst (λ w. Later w name c ⊎ Gone w name) (sym s.world)
    (seat_child old node s.before _ _ s.is name c h
    (λ there at site child.
    inr (record { view = _; is = at; greater = subst (λ t. t.incarnation < incarnation) site s.greater })))

pub gone_stays : (problem : Problem) (old : World) (event : WorldMove) (new : World) → WorldStep problem old event new
    → (name : ChildName) → Gone old name → Gone new name
gone_stays problem old (Acts node event) new s name g =
    subst (λ w. Gone w name) (sym s.world)
    (⊎_elim
    (λ (e : (name.site.node ≡ node) × (slice_get (slice_set old.sites node s.after) name.site.node ≡ Some s.after)).
    let v : g.view ≡ s.before = same_Some g.view s.before (sym g.is ∙ ap (slice_get old.sites) e.0 ∙ s.is) in
    let same = (site_grows node problem s.before event s.reply s.out s.after s.step).site in
    record { view = s.after; is = e.1; greater = subst (λ t. name.site.incarnation < t.incarnation) (ap (λ w. w.site) v ∙ sym same) g.greater })
    (λ (e : (name.site.node ≢ node) × (slice_get (slice_set old.sites node s.after) name.site.node ≡ Some g.view)).
    record { view = g.view; is = e.1; greater = g.greater })
    (get_set old.sites node s.after name.site.node g.view g.is))
gone_stays problem old (Restarts node incarnation limit) new s name g =
    subst (λ w. Gone w name) (sym s.world)
    (⊎_elim
    (λ (e : (name.site.node ≡ node) × (slice_get (slice_set old.sites node _) name.site.node ≡ Some _)).
    let v : g.view ≡ s.before = same_Some g.view s.before (sym g.is ∙ ap (slice_get old.sites) e.0 ∙ s.is) in
    let more : name.site.incarnation < s.before.site.incarnation = subst (λ w. name.site.incarnation < w.site.incarnation) v g.greater in
    record { view = _; is = e.1; greater = omega (arith, more, s.greater) })
    (λ (e : (name.site.node ≢ node) × (slice_get (slice_set old.sites node _) name.site.node ≡ Some g.view)).
    record { view = g.view; is = e.1; greater = g.greater })
    (get_set old.sites node _ name.site.node g.view g.is))

pub run_keeps : {problem : Problem} {start end : World} (run : Run problem start end) (name : ChildName) (c : Entry)
    → HasChild start name c → Later end name c ⊎ Gone end name
run_keeps stay name c h = inl (record { now = c; has = h; grows = grows_same c })
run_keeps {problem} (go {old = old} {new = new} run event step) name c h =
    ⊎_elim
    (λ (l : Later old name c).
    ⊎_elim
    (λ (m : Later new name l.now). inl (record { now = m.now; has = m.has; grows = grows_then c l.now m.now l.grows m.grows }))
    (λ (g : Gone new name). inr g)
    (step_keeps problem old event new step name l.now l.has))
    (λ (g : Gone old name). inr (gone_stays problem old event new step name g))
    (run_keeps run name c h)

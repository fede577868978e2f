-- Prefixes that grow from parent to child: what keeps them, and how they are looked up.
use Rattle.std.proofs.Common.{◌≡◌, ℕ, zero, suc, ◌+◌, ◌<◌, Bool, true, false, cond, List, [], ◌∷◌, ◌++◌, map, take, length, length-append, get_or, position, option_map, Option, Some, None, slice_get, refl, sym, ap, ◌∙◌, arith}
use Rattle.std.specs.List.{AllByRecursion}
use Rattle.std.proofs.lemmas.Option.{same_Some, none-some, slice_get-get_or, slice_get-map}
use Rattle.std.proofs.lemmas.List.{length-map, length-take, map-append, take_more}
use Rattle.spawn_frame.specs.Prefixes.{Link, last_of, link_of, link_path, origin_of, origin_path, path_of}
use Rattle.spawn_frame.specs.Tables.{longer_prefixes, prefix_in}
use Rattle.spawn_frame.specs.Units.{guest_in, is_guest, unit_of}
use Rattle.spawn_frame.specs.Works.{change_child, change_work, child_entry, child_work, fresh_child, guest_entry, guest_work, guests_told, own_told, table_of, work_in}
use Rattle.spawn_frame.specs.declared.child.Child.{Child}
use Rattle.spawn_frame.specs.declared.guest.Guest.{Guest}
use Rattle.spawn_frame.specs.declared.site.ChildName.{ChildName}
use Rattle.spawn_frame.specs.declared.site.Site.{Site}
use Rattle.spawn_frame.specs.declared.unit.Unit.{Unit as WorkUnit}
use Rattle.spawn_frame.specs.declared.unit.Unit.TheVariants as units
use Rattle.spawn_frame.specs.declared.work.Work.{Work}
use Rattle.spawn_frame.proofs.Lookups.{guest_with}
use Rattle.spawn_frame.proofs.Places.{guest_read, guest_unread, place_read}

-- ---- changes of work that keep the path

pub links_kept : (f : Work → Work) → ((w : Work) → (f w).path ≡ w.path) → (own : List Child) (k : ℕ) → map link_of (change_child f own k) ≡ map link_of own
links_kept f path [] k = refl
links_kept f path (c ∷ cs) zero = λ i. record { parent = c.parent; option = c.option; path = (path c.work i).options } ∷ map link_of cs
links_kept f path (c ∷ cs) (suc k) = ap (λ l. link_of c ∷ l) (links_kept f path cs k)

pub origins_kept : (f : Work → Work) → ((w : Work) → (f w).path ≡ w.path) → ((w : Work) → (f w).attempt ≡ w.attempt) → (gs : List Guest) (n : ChildName) (a : ℕ)
    → map origin_of (change_work f gs n a) ≡ map origin_of gs
origins_kept f path attempt [] n a = refl
origins_kept f path attempt (g ∷ gs) n a = go (is_guest n a (guest_entry g)) (origins_kept f path attempt gs n a)
  where
    go : (t : Bool) → map origin_of (change_work f gs n a) ≡ map origin_of gs → map origin_of (cond t (guest_with f g ∷ gs) (g ∷ change_work f gs n a)) ≡ map origin_of (g ∷ gs)
    go true e = λ i. record { name = g.name; attempt = attempt g.work i; prefix = g.prefix; path = (path g.work i).options } ∷ map origin_of gs
    go false e = ap (λ l. origin_of g ∷ l) e

-- the same where a parent hears of its child
pub links_told : (f : Work → Work) → ((w : Work) → (f w).path ≡ w.path) → (own : List Child) (parent : Option WorkUnit) → map link_of (own_told parent f own) ≡ map link_of own
links_told f path own None = refl
links_told f path own (Some (units.Own j)) = links_kept f path own j
links_told f path own (Some (units.Guest n a)) = refl

pub origins_told : (f : Work → Work) → ((w : Work) → (f w).path ≡ w.path) → ((w : Work) → (f w).attempt ≡ w.attempt) → (gs : List Guest) (parent : Option WorkUnit)
    → map origin_of (guests_told parent f gs) ≡ map origin_of gs
origins_told f path attempt gs None = refl
origins_told f path attempt gs (Some (units.Own j)) = refl
origins_told f path attempt gs (Some (units.Guest n a)) = origins_kept f path attempt gs n a

-- ---- guests, and what they tell

pub each_origin : (gs : List Guest) → AllByRecursion (λ g. g.prefix ≡ g.work.path.options) gs → AllByRecursion (λ o. o.prefix ≡ o.path) (map origin_of gs)
each_origin [] h = tt
each_origin (g ∷ gs) h = (h.0, each_origin gs h.1)

pub each_guest : (gs : List Guest) → AllByRecursion (λ o. o.prefix ≡ o.path) (map origin_of gs) → AllByRecursion (λ g. g.prefix ≡ g.work.path.options) gs
each_guest [] h = tt
each_guest (g ∷ gs) h = (h.0, each_guest gs h.1)

-- ---- units that are looked up

-- the own child that a link names
pub record IsLinkOf (own : List Child) (k : ℕ) (link : Link) : Type 0 where
  pub child : Child
  pub is : slice_get own k ≡ Some child
  pub same : link_of child ≡ link

pub link_at : (own : List Child) (k : ℕ) (link : Link) → slice_get (map link_of own) k ≡ Some link → IsLinkOf own k link
link_at own k link at = go (slice_get own k) refl (sym (slice_get-map link_of own k) ∙ at)
  where
    go : (o : Option Child) → slice_get own k ≡ o → option_map link_of o ≡ Some link → IsLinkOf own k link
    go None e q = absurd (none-some link q)
    go (Some c) e q = record { child = c; is = e; same = same_Some (link_of c) link q }

-- the path of some work
abbrev pub path_in : Option Work → List ℕ
path_in None = []
path_in (Some w) = w.path.options

pub path_work : (own : List Child) (guests : List Guest) (unit : WorkUnit) → path_of own guests unit ≡ path_in (work_in own guests unit)
path_work own guests (units.Own k) = ap link_path (slice_get-map link_of own k) ∙ go (slice_get own k)
  where
    go : (o : Option Child) → link_path (option_map link_of o) ≡ path_in (child_work o)
    go None = refl
    go (Some c) = refl
path_work own guests (units.Guest n a) = among guests
  where
    among : (gs : List Guest) → origin_path (map origin_of gs) n a ≡ path_in (guest_work gs n a)
    among [] = refl
    among (g ∷ gs) = go (is_guest n a (guest_entry g)) (among gs)
      where
        go : (t : Bool) → origin_path (map origin_of gs) n a ≡ path_in (guest_work gs n a) → cond t g.work.path.options (origin_path (map origin_of gs) n a) ≡ path_in (cond t (Some g.work) (guest_work gs n a))
        go true e = refl
        go false e = e

whole_at : (gs : List Guest) → AllByRecursion (λ g. g.prefix ≡ g.work.path.options) gs → (i : ℕ) (d : Guest) → i < length gs → (get_or gs i d).work.path.options ≡ (get_or gs i d).prefix
whole_at [] h i d l = absurd (omega (arith, l))
whole_at (g ∷ gs) h zero d l = sym h.0
whole_at (g ∷ gs) h (suc i) d l = whole_at gs h.1 i d (omega (arith, l))

-- the path of a guest is the prefix that it has
pub guest_path : (own : List Child) (guests : List Guest) → AllByRecursion (λ o. o.prefix ≡ o.path) (map origin_of guests) → (n : ChildName) (a i : ℕ) (g : Guest)
    → Some i ≡ position (λ h. is_guest n a (guest_entry h)) guests → path_of own guests (units.Guest n a) ≡ (get_or guests i g).prefix
guest_path own guests h n a i g e =
    path_work own guests (units.Guest n a) ∙ ap path_in (guest_read guests n a i g e) ∙ whole_at guests (each_guest guests h) i g (place_read guests n a i g e).within

-- a guest as it is told
pub guest_seen : (guests : List Guest) → AllByRecursion (λ o. o.prefix ≡ o.path) (map origin_of guests) → (i : ℕ) (g : Guest) → i < length guests → g ≡ get_or guests i g → (prefix : List ℕ) → prefix ≡ g.prefix
    → slice_get (map guest_entry guests) i ≡ Some (record { name = g.name; entry = record { parent = None; prefix = prefix; attempt = g.work.attempt; status = g.work.status } })
guest_seen guests h i g within at prefix is =
    slice_get-map guest_entry guests i ∙ ap (option_map guest_entry) (slice_get-get_or guests i g within ∙ ap Some (sym at))
    ∙ (λ j. Some (record { name = g.name; entry = record { parent = None; prefix = path j; attempt = g.work.attempt; status = g.work.status } }))
  where
    path : g.work.path.options ≡ prefix
    path = ap (λ x. x.work.path.options) at ∙ whole_at guests (each_guest guests h) i g within ∙ ap (λ x. x.prefix) (sym at) ∙ sym is

pub no_guest_path : (own : List Child) (guests : List Guest) (n : ChildName) (a : ℕ) → None ≡ position (λ h. is_guest n a (guest_entry h)) guests → path_of own guests (units.Guest n a) ≡ []
no_guest_path own guests n a e = path_work own guests (units.Guest n a) ∙ ap path_in (guest_unread guests n a e)

-- a path is the prefix that the site sees
pub path_seen : (site : Site) (limit : ℕ) (own : List Child) (guests : List Guest) (unit : WorkUnit) → path_of own guests unit ≡ prefix_in (unit_of (table_of site limit own guests) unit)
path_seen site limit own guests (units.Own k) = ap link_path (slice_get-map link_of own k) ∙ go (slice_get own k) ∙ sym (ap prefix_in (slice_get-map child_entry own k))
  where
    go : (o : Option Child) → link_path (option_map link_of o) ≡ prefix_in (option_map child_entry o)
    go None = refl
    go (Some c) = refl
path_seen site limit own guests (units.Guest n a) = among guests
  where
    among : (gs : List Guest) → origin_path (map origin_of gs) n a ≡ prefix_in (guest_in (map guest_entry gs) n a)
    among [] = refl
    among (g ∷ gs) = go (is_guest n a (guest_entry g)) (among gs)
      where
        go : (t : Bool) → origin_path (map origin_of gs) n a ≡ prefix_in (guest_in (map guest_entry gs) n a)
            → cond t g.work.path.options (origin_path (map origin_of gs) n a) ≡ prefix_in (cond t (Some (guest_entry g).entry) (guest_in (map guest_entry gs) n a))
        go true e = refl
        go false e = e

pub path_found : (site : Site) (limit : ℕ) (own : List Child) (guests : List Guest) (unit : WorkUnit) (w : Work) → work_in own guests unit ≡ Some w
    → prefix_in (unit_of (table_of site limit own guests) unit) ≡ w.path.options
path_found site limit own guests unit w e = sym (path_seen site limit own guests unit) ∙ path_work own guests unit ∙ ap path_in e

-- ---- prefixes of new children

pub last_behind : (xs : List ℕ) (x : ℕ) → last_of (xs ++ x ∷ []) ≡ x
last_behind [] x = refl
last_behind (y ∷ []) x = refl
last_behind (y ∷ z ∷ zs) x = last_behind (z ∷ zs) x

-- there is one for each option
pub longer_count : (prefix options : List ℕ) → length (longer_prefixes prefix options) ≡ length options
longer_count prefix options = length-map options (λ o. prefix ++ o ∷ [])

-- each is the prefix with its last number behind it
pub prefixes_grow : (prefix options : List ℕ) → AllByRecursion (λ p. p ≡ prefix ++ last_of p ∷ []) (longer_prefixes prefix options)
prefixes_grow prefix [] = tt
prefixes_grow prefix (o ∷ os) = (ap (λ x. prefix ++ x ∷ []) (sym (last_behind prefix o)), prefixes_grow prefix os)

-- ---- the children of a unit, made one after the other

pub children_more : (unit : WorkUnit) (path options : List ℕ) (i : ℕ) → i < length options
    → map (fresh_child unit) (longer_prefixes path (take (i + 1) options)) ≡ map (fresh_child unit) (longer_prefixes path (take i options)) ++ fresh_child unit (path ++ get_or options i 0 ∷ []) ∷ []
children_more unit path options i within =
    ap (λ l. map (fresh_child unit) (longer_prefixes path l)) (take_more options i 0 within)
    ∙ ap (map (fresh_child unit)) (map-append (λ o. path ++ o ∷ []) (take i options) (get_or options i 0 ∷ []))
    ∙ map-append (fresh_child unit) (longer_prefixes path (take i options)) ((path ++ get_or options i 0 ∷ []) ∷ [])

pub children_count : (unit : WorkUnit) (path options : List ℕ) (i first : ℕ) (own now : List Child) → i < length options → first ≡ length own
    → now ≡ own ++ map (fresh_child unit) (longer_prefixes path (take i options)) → first + i ≡ length now
children_count unit path options i first own now within e is =
    let made = map (fresh_child unit) (longer_prefixes path (take i options)) in
    let count : length made ≡ length (take i options) = length-map (longer_prefixes path (take i options)) (fresh_child unit) ∙ longer_count path (take i options) in
    omega (arith, e, within, count, ap length is, length-append own made, length-take i options)

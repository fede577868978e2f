-- What holds at each site: a frame's children are those of its prefix, none of them is aborted, and an empty hand is a barren prefix.
use Rattle.std.proofs.Common.{◌≡◌, ◌≢◌, ◌⊎◌, ℕ, zero, suc, ◌<◌, Bool, true, false, List, [], ◌∷◌, map, length, Option, Some, None, slice_get, get_or, refl, sym, ap, ◌∙◌, subst, inl, inr, ⊎_elim, arith}
use Rattle.std.proofs.lemmas.Option.{same_Some, none-some, slice_get_within, slice_get-get_or}
use Rattle.cover_problem.specs.Problem.{Problem}
use Rattle.cover_problem.specs.Prefix.{IsBarren, extends}
use Rattle.cover_problem.specs.Branching.{branch_item, children}
use Rattle.spawn_frame.specs.declared.site.Site.{Site}
use Rattle.spawn_frame.specs.declared.unit.Unit.{Unit as WorkUnit}
use Rattle.spawn_frame.specs.declared.unit.Unit.TheVariants.{Own, Guest}
use Rattle.spawn_frame.specs.declared.child_result.ChildResult.{ChildResult}
use Rattle.spawn_frame.specs.declared.child_result.ChildResult.TheVariants.{Cover, Empty}
use Rattle.spawn_frame.specs.declared.status.Status.{Status}
use Rattle.spawn_frame.specs.declared.status.Status.TheVariants.{Ready, Here, Split, Out, Done, Aborted, Finished}
use Rattle.spawn_frame.specs.Units.{Entry, GuestEntry, guest_in, with_status, redone}
use Rattle.node_core.specs.SiteView.{View, unit_in, with_own, unit_gets}
use Rattle.spawn_frame.specs.Names.{same_unit}
use Rattle.spawn_frame.specs.Frames.{frame, frame_result, first_result, cover_of, is_empty_handed}
use Rattle.spawn_frame.specs.Aborts.{AbortsBelow, IsBelow, child, deeper, is_open}
use Rattle.cover_world.proofs.Published.{changed_back}
use Rattle.cover_world.proofs.Guests.{Every, every_changed}
use Rattle.cover_problem.proofs.Extending.{split_count}
use Rattle.cover_problem.proofs.Sets.{count_witness}
use Rattle.cover_world.proofs.Frames.{shapes, prefixes, same_prefixes, changed_shapes, placed_shapes, frame_at, gets_same, gets_other}
use Rattle.spawn_frame.proofs.Sames.{unit_path}

pub record IsSplitUp (problem : Problem) (own : List Entry) (unit : WorkUnit) (prefix : List ℕ) : Type 0 where
  pub item : ℕ
  pub branch : branch_item problem prefix ≡ Some item
  pub children_are : prefixes unit own ≡ children problem prefix
  pub going : (k : ℕ) (c : Entry) → slice_get own k ≡ Some c → c.parent ≡ Some unit → c.status ≡ Aborted → ⊥

-- a unit without children, so far
abbrev pub IsWhole : WorkUnit → List Entry → Type 0
IsWhole unit own = prefixes unit own ≡ []

abbrev pub FrameOf : Problem → List Entry → WorkUnit → List ℕ → Status → Type 0
FrameOf problem own unit prefix Ready = IsWhole unit own
FrameOf problem own unit prefix Here = IsWhole unit own
FrameOf problem own unit prefix (Out thief) = IsWhole unit own
FrameOf problem own unit prefix Split = IsSplitUp problem own unit prefix
FrameOf problem own unit prefix _ = Unit {0}

abbrev pub Hopes : Problem → GuestEntry → Type 0
Hopes problem g = g.entry.status ≡ Finished Empty → IsBarren problem g.entry.prefix

pub record Sound (problem : Problem) (view : View) : Type 0 where
  pub unmade : (u : WorkUnit) → unit_in view u ≡ None → IsWhole u view.own
  pub frames : (u : WorkUnit) (e : Entry) → unit_in view u ≡ Some e → FrameOf problem view.own u e.prefix e.status
  pub hopeless : (k : ℕ) (c : Entry) → slice_get view.own k ≡ Some c → c.status ≡ Done Empty → IsBarren problem c.prefix
  pub guests : Every (Hopes problem) view.guests

-- ---- a frame that comes to nothing

empty_cell : (o : Option (List ℕ)) (b : Bool) (r : Option ChildResult) → first_result o b r ≡ Some Empty → (b ≡ true) × (r ≡ Some Empty)
empty_cell (Some x) b r e = absurd (cc)
empty_cell None b None e = absurd (cc)
empty_cell None b (Some (Cover x)) e = absurd (cc)
empty_cell None true (Some Empty) e = (refl, refl)
empty_cell None false (Some Empty) e = absurd (cc)

is_empty_done : (s : Status) → is_empty_handed s ≡ true → s ≡ Done Empty
is_empty_done (Done Empty) e = refl
is_empty_done (Done (Cover x)) e = absurd (cc)
is_empty_done Ready e = absurd (cc)
is_empty_done _ e = absurd (cc)

all_empty : (cs : List Entry) → frame_result cs ≡ Some Empty → (k : ℕ) (c : Entry) → slice_get cs k ≡ Some c → c.status ≡ Done Empty
all_empty [] e k c at = absurd (none-some c at)
all_empty (d ∷ ds) e zero c at = subst (λ x. x.status ≡ Done Empty) (same_Some d c at) (is_empty_done d.status (empty_cell (cover_of d.status) _ (frame_result ds) e).0)
all_empty (d ∷ ds) e (suc k) c at = all_empty ds (empty_cell (cover_of d.status) _ (frame_result ds) e).1 k c at

prefix_back : (cs : List Entry) (k : ℕ) (p : List ℕ) → slice_get (map (λ c. c.prefix) cs) k ≡ Some p → (c : Entry) × (slice_get cs k ≡ Some c) × (c.prefix ≡ p)
prefix_back [] k p at = absurd (none-some p at)
prefix_back (c ∷ cs) zero p at = (c, refl, same_Some c.prefix p at)
prefix_back (c ∷ cs) (suc k) p at = prefix_back cs k p at

pub finish_barren : (problem : Problem) (view : View) → Sound problem view → (unit : WorkUnit) (prefix : List ℕ) → IsSplitUp problem view.own unit prefix
    → frame_result (frame unit view.own) ≡ Some Empty → IsBarren problem prefix
finish_barren problem view sound unit prefix up e = λ chosen cover ext.
    let one = split_count problem chosen cover prefix up.item up.branch ext in
    let w = count_witness (extends chosen) (children problem prefix) (omega (arith, one)) in
    let c = prefix_back (frame unit view.own) w.0 w.1 (ap (λ l. slice_get l w.0) up.children_are ∙ w.2) in
    let at = frame_at unit view.own w.0 c.0 c.1 in
    sound.hopeless at.0 c.0 at.1 (all_empty (frame unit view.own) e w.0 c.0 c.1) chosen cover (ap (extends chosen) c.2 ∙ w.3)

-- ---- frames and changes of the own children

-- no child becomes aborted, and each keeps its shape
pub record Moves (old new : List Entry) : Type 0 where
  pub shaped : shapes new ≡ shapes old
  pub aborted : (k : ℕ) (d : Entry) → slice_get new k ≡ Some d → d.status ≡ Aborted → (c : Entry) × (slice_get old k ≡ Some c) × (c.parent ≡ d.parent) × (c.status ≡ Aborted)

pub whole_moves : (unit : WorkUnit) (old new : List Entry) → shapes new ≡ shapes old → IsWhole unit old → IsWhole unit new
whole_moves unit old new e h = same_prefixes unit old new e ∙ h

split_moves : (problem : Problem) (old new : List Entry) → Moves old new → (unit : WorkUnit) (prefix : List ℕ) → IsSplitUp problem old unit prefix → IsSplitUp problem new unit prefix
split_moves problem old new m unit prefix h = record {
  item = h.item;
  branch = h.branch;
  children_are = same_prefixes unit old new m.shaped ∙ h.children_are;
  going = λ k d at p a. let was = m.aborted k d at a in h.going k was.0 was.1 (was.2 ∙ p) was.3;
}

pub frame_moves : (problem : Problem) (old new : List Entry) → Moves old new → (unit : WorkUnit) (prefix : List ℕ) (s : Status) → FrameOf problem old unit prefix s → FrameOf problem new unit prefix s
frame_moves problem old new m unit prefix Ready h = whole_moves unit old new m.shaped h
frame_moves problem old new m unit prefix Here h = whole_moves unit old new m.shaped h
frame_moves problem old new m unit prefix (Out thief) h = whole_moves unit old new m.shaped h
frame_moves problem old new m unit prefix Split h = split_moves problem old new m unit prefix h
frame_moves problem old new m unit prefix (Done r) h = tt
frame_moves problem old new m unit prefix _ h = tt

-- ---- a change of one status

pub gets_moves : (view : View) (unit : WorkUnit) (s : Status) → (s ≡ Aborted → ⊥) → Moves view.own (unit_gets view unit s).own
gets_moves view (Own serial) s n = record {
  shaped = changed_shapes (with_status s) (λ c. refl) view.own serial;
  aborted = λ k d at a. ⊎_elim
      (λ (b : (c : Entry) × (slice_get view.own k ≡ Some c) × (d ≡ with_status s c) × (k ≡ serial)). absurd (n (ap (λ x. x.status) (sym b.2) ∙ a)))
      (λ (b : (k ≢ serial) × (slice_get view.own k ≡ Some d)). (d, b.1, refl, a))
      (changed_back (with_status s) view.own serial k d at);
}
gets_moves view (Guest name attempt) s n = record { shaped = refl; aborted = λ k d at a. (d, at, refl, a) }

-- what a status says of a result that is none
abbrev pub Barrens : Problem → List ℕ → Status → Type 0
Barrens problem prefix (Done Empty) = IsBarren problem prefix
Barrens problem prefix (Finished Empty) = IsBarren problem prefix
Barrens problem prefix _ = Unit {0}

done_barrens : (problem : Problem) (prefix : List ℕ) (s : Status) → s ≡ Done Empty → Barrens problem prefix s → IsBarren problem prefix
done_barrens problem prefix s e b = subst (Barrens problem prefix) e b

finished_barrens : (problem : Problem) (prefix : List ℕ) (s : Status) → s ≡ Finished Empty → Barrens problem prefix s → IsBarren problem prefix
finished_barrens problem prefix s e b = subst (Barrens problem prefix) e b

pub own_hopeless : (problem : Problem) (view : View) → Sound problem view → (unit : WorkUnit) (s : Status) (entry : Entry) → unit_in view unit ≡ Some entry → Barrens problem entry.prefix s
    → (k : ℕ) (c : Entry) → slice_get (unit_gets view unit s).own k ≡ Some c → c.status ≡ Done Empty → IsBarren problem c.prefix
own_hopeless problem view sound (Own serial) s entry is b k c at done =
    ⊎_elim
    (λ (w : (d : Entry) × (slice_get view.own k ≡ Some d) × (c ≡ with_status s d) × (k ≡ serial)).
    let same : w.0 ≡ entry = same_Some w.0 entry (sym w.1 ∙ ap (slice_get view.own) w.3 ∙ is) in
    let prefix : entry.prefix ≡ c.prefix = ap (λ x. x.prefix) (sym same) ∙ ap (λ x. x.prefix) (sym w.2) in
    subst (IsBarren problem) prefix (done_barrens problem entry.prefix s (ap (λ x. x.status) (sym w.2) ∙ done) b))
    (λ (w : (k ≢ serial) × (slice_get view.own k ≡ Some c)). sound.hopeless k c w.1 done)
    (changed_back (with_status s) view.own serial k c at)
own_hopeless problem view sound (Guest name attempt) s entry is b k c at done = sound.hopeless k c at done

pub guest_hopes : (problem : Problem) (view : View) → Sound problem view → (unit : WorkUnit) (s : Status) (entry : Entry) → unit_in view unit ≡ Some entry → Barrens problem entry.prefix s
    → Every (Hopes problem) (unit_gets view unit s).guests
guest_hopes problem view sound (Own serial) s entry is b = sound.guests
guest_hopes problem view sound (Guest name attempt) s entry is b =
    every_changed (Hopes problem) s view.guests name attempt entry is (λ h e. finished_barrens problem entry.prefix s e b) sound.guests

pub sound_gets : (problem : Problem) (view : View) → Sound problem view → (unit : WorkUnit) (s : Status) (entry : Entry) → unit_in view unit ≡ Some entry
    → (s ≡ Aborted → ⊥) → FrameOf problem view.own unit entry.prefix s → Barrens problem entry.prefix s → Sound problem (unit_gets view unit s)
sound_gets problem view sound unit s entry is n f b = record {
  unmade = λ u at. whole_moves u view.own (unit_gets view unit s).own moves.shaped (sound.unmade u (was_none u (same_unit unit u) refl at));
  frames = λ u e at. framed u e (same_unit unit u) refl at;
  hopeless = own_hopeless problem view sound unit s entry is b;
  guests = guest_hopes problem view sound unit s entry is b;
}
  where
    moves : Moves view.own (unit_gets view unit s).own
    moves = gets_moves view unit s n

    was_none : (u : WorkUnit) (t : Bool) → same_unit unit u ≡ t → unit_in (unit_gets view unit s) u ≡ None → unit_in view u ≡ None
    was_none u true t at = absurd (none-some (with_status s entry) (sym at ∙ ap (unit_in (unit_gets view unit s)) (sym (unit_path unit u t)) ∙ gets_same view unit s entry is))
    was_none u false t at = sym (gets_other view unit u s t) ∙ at

    framed : (u : WorkUnit) (e : Entry) (t : Bool) → same_unit unit u ≡ t → unit_in (unit_gets view unit s) u ≡ Some e → FrameOf problem (unit_gets view unit s).own u e.prefix e.status
    framed u e true t at =
        let same : with_status s entry ≡ e = same_Some (with_status s entry) e (sym (gets_same view unit s entry is) ∙ ap (unit_in (unit_gets view unit s)) (unit_path unit u t) ∙ at) in
        subst (λ x. FrameOf problem (unit_gets view unit s).own u x.prefix x.status) same
        (subst (λ v. FrameOf problem (unit_gets view unit s).own v entry.prefix s) (unit_path unit u t)
        (frame_moves problem view.own (unit_gets view unit s).own moves unit entry.prefix s f))
    framed u e false t at =
        frame_moves problem view.own (unit_gets view unit s).own moves u e.prefix e.status (sound.frames u e (sym (gets_other view unit u s t) ∙ at))

-- ---- the own children and the guests are all that counts

same_units : (v w : View) → w.own ≡ v.own → w.guests ≡ v.guests → (u : WorkUnit) → unit_in w u ≡ unit_in v u
same_units v w e f (Own serial) = ap (λ l. slice_get l serial) e
same_units v w e f (Guest name attempt) = ap (λ l. guest_in l name attempt) f

pub sound_alike : (problem : Problem) (v w : View) → w.own ≡ v.own → w.guests ≡ v.guests → Sound problem v → Sound problem w
sound_alike problem v w e f sound = record {
  unmade = λ u at. subst (λ l. IsWhole u l) (sym e) (sound.unmade u (sym (same_units v w e f u) ∙ at));
  frames = λ u x at. subst (λ l. FrameOf problem l u x.prefix x.status) (sym e) (sound.frames u x (sym (same_units v w e f u) ∙ at));
  hopeless = λ k c at done. sound.hopeless k c (ap (λ l. slice_get l k) (sym e) ∙ at) done;
  guests = subst (λ l. Every (Hopes problem) l) (sym f) sound.guests;
}

-- ---- children that are redone

pub record Redoes (old new : List Entry) : Type 0 where
  pub shaped : shapes new ≡ shapes old
  pub none : (k : ℕ) → slice_get new k ≡ None → slice_get old k ≡ None
  pub each : (k : ℕ) (d : Entry) → slice_get new k ≡ Some d → (c : Entry) × (slice_get old k ≡ Some c) × ((d ≡ c) ⊎ ((d ≡ redone c) × ((thief : Site) × (c.status ≡ Out thief))))

redo_moves : (old new : List Entry) → Redoes old new → Moves old new
redo_moves old new r = record {
  shaped = r.shaped;
  aborted = λ k d at a.
      let c = r.each k d at in
      ⊎_elim
      (λ (e : d ≡ c.0). (c.0, c.1, ap (λ x. x.parent) (sym e), ap (λ x. x.status) (sym e) ∙ a))
      (λ (e : (d ≡ redone c.0) × ((thief : Site) × (c.0.status ≡ Out thief))). absurd (let h : Ready ≡ Aborted = ap (λ x. x.status) (sym e.0) ∙ a in cc))
      c.2;
}

pub sound_redoes : (problem : Problem) (view : View) → Sound problem view → (own : List Entry) → Redoes view.own own → Sound problem (with_own view own)
sound_redoes problem view sound own r = record {
  unmade = unmade;
  frames = frames;
  hopeless = λ k d at done.
      let c = r.each k d at in
      ⊎_elim
      (λ (e : d ≡ c.0). subst (λ x. IsBarren problem x.prefix) (sym e) (sound.hopeless k c.0 c.1 (ap (λ x. x.status) (sym e) ∙ done)))
      (λ (e : (d ≡ redone c.0) × ((thief : Site) × (c.0.status ≡ Out thief))). absurd (let h : Ready ≡ Done Empty = ap (λ x. x.status) (sym e.0) ∙ done in cc))
      c.2;
  guests = sound.guests;
}
  where
    unmade : (u : WorkUnit) → unit_in (with_own view own) u ≡ None → IsWhole u own
    unmade (Own k) at = whole_moves (Own k) view.own own r.shaped (sound.unmade (Own k) (r.none k at))
    unmade (Guest m b) at = whole_moves (Guest m b) view.own own r.shaped (sound.unmade (Guest m b) at)

    frames : (u : WorkUnit) (e : Entry) → unit_in (with_own view own) u ≡ Some e → FrameOf problem own u e.prefix e.status
    frames (Own k) d at =
        let c = r.each k d at in
        let was : FrameOf problem own (Own k) c.0.prefix c.0.status = frame_moves problem view.own own (redo_moves view.own own r) (Own k) c.0.prefix c.0.status (sound.frames (Own k) c.0 c.1) in
        ⊎_elim
        (λ (e : d ≡ c.0). subst (λ x. FrameOf problem own (Own k) x.prefix x.status) (sym e) was)
        (λ (e : (d ≡ redone c.0) × ((thief : Site) × (c.0.status ≡ Out thief))).
        let whole : IsWhole (Own k) own = subst (λ s. FrameOf problem own (Own k) c.0.prefix s) e.1.1 was in
        subst (λ x. FrameOf problem own (Own k) x.prefix x.status) (sym e.0) whole)
        c.2
    frames (Guest m b) d at = frame_moves problem view.own own (redo_moves view.own own r) (Guest m b) d.prefix d.status (sound.frames (Guest m b) d at)

-- ---- an abort

pub record AbortedBack (top : WorkUnit → Bool) (old : List Entry) (k : ℕ) (d : Entry) : Type 0 where
  pub was : Entry
  pub is : slice_get old k ≡ Some was
  pub either : (IsBelow top old k × (is_open was.status ≡ true) × (d ≡ with_status Aborted was)) ⊎ ((IsBelow top old k → is_open was.status ≡ true → ⊥) × (d ≡ was))

pub aborted_back : (top : WorkUnit → Bool) (old new : List Entry) → AbortsBelow top old new → (k : ℕ) (d : Entry) → slice_get new k ≡ Some d → AbortedBack top old k d
aborted_back top old new a k d at =
    let within : k < length old = subst (λ n. k < n) a.ends (slice_get_within new k d at) in
    let is : slice_get old k ≡ Some (get_or old k d) = slice_get-get_or old k d within in
    record {
      was = get_or old k d;
      is = is;
      either = ⊎_elim
          (λ (h : IsBelow top old k × (is_open (get_or old k d).status ≡ true) × (slice_get new k ≡ Some (with_status Aborted (get_or old k d)))).
          inl (h.0, h.1, same_Some d (with_status Aborted (get_or old k d)) (sym at ∙ h.2)))
          (λ (h : (IsBelow top old k → is_open (get_or old k d).status ≡ true → ⊥) × (slice_get new k ≡ Some (get_or old k d))).
          inr (h.0, same_Some d (get_or old k d) (sym at ∙ h.1)))
          (a.each k (get_or old k d) is);
    }

pub aborts_none : (top : WorkUnit → Bool) (old new : List Entry) → AbortsBelow top old new → (k : ℕ) → slice_get new k ≡ None → slice_get old k ≡ None
aborts_none top old new a k at = go (slice_get old k) refl
  where
    go : (o : Option Entry) → slice_get old k ≡ o → slice_get old k ≡ None
    go None e = e
    go (Some c) e =
        ⊎_elim
        (λ (h : IsBelow top old k × (is_open c.status ≡ true) × (slice_get new k ≡ Some (with_status Aborted c))). absurd (none-some (with_status Aborted c) (sym at ∙ h.2)))
        (λ (h : (IsBelow top old k → is_open c.status ≡ true → ⊥) × (slice_get new k ≡ Some c)). absurd (none-some c (sym at ∙ h.1)))
        (a.each k c e)

aborts_shapes : (top : WorkUnit → Bool) (old new : List Entry) → AbortsBelow top old new → shapes new ≡ shapes old
aborts_shapes top old new a =
    placed_shapes old new a.ends
    (λ k c at. ⊎_elim
    (λ (h : IsBelow top old k × (is_open c.status ≡ true) × (slice_get new k ≡ Some (with_status Aborted c))). (with_status Aborted c, h.2, refl))
    (λ (h : (IsBelow top old k → is_open c.status ≡ true → ⊥) × (slice_get new k ≡ Some c)). (c, h.1, refl))
    (a.each k c at))

module _ (problem : Problem) (top : WorkUnit → Bool) (mid : View) (own : List Entry) (sound : Sound problem mid) (a : AbortsBelow top mid.own own)
    (tops : (u : WorkUnit) (e : Entry) → top u ≡ true → unit_in mid u ≡ Some e → e.status ≡ Split → ⊥) where
  -- the parent of an aborted child is no frame any more
  below_no_frame : (unit : WorkUnit) (o : Entry) → unit_in mid unit ≡ Some o → o.status ≡ Split → ((j : ℕ) → unit ≡ Own j → slice_get own j ≡ Some o)
      → (k : ℕ) (c : Entry) → slice_get mid.own k ≡ Some c → c.parent ≡ Some unit → IsBelow top mid.own k → ⊥
  below_no_frame unit o is split stays k c at p (child {entry = e} {unit = v} at' p' t) =
      let same : v ≡ unit = same_Some v unit (sym p' ∙ ap (λ x. x.parent) (same_Some e c (sym at' ∙ at)) ∙ p) in
      tops unit o (ap top (sym same) ∙ t) is split
  below_no_frame unit o is split stays k c at p (deeper {parent = j} {entry = e} at' p' below) =
      let same : unit ≡ Own j = same_Some unit (Own j) (sym p ∙ ap (λ x. x.parent) (sym (same_Some e c (sym at' ∙ at))) ∙ p') in
      let there : slice_get mid.own j ≡ Some o = ap (unit_in mid) (sym same) ∙ is in
      ⊎_elim
      (λ (h : IsBelow top mid.own j × (is_open o.status ≡ true) × (slice_get own j ≡ Some (with_status Aborted o))).
      let e : Aborted ≡ Split = ap (λ x. x.status) (same_Some (with_status Aborted o) o (sym h.2 ∙ stays j same)) ∙ split in
      cc)
      (λ (h : (IsBelow top mid.own j → is_open o.status ≡ true → ⊥) × (slice_get own j ≡ Some o)). h.0 below (ap is_open split))
      (a.each j o there)

  still_split : (unit : WorkUnit) (o : Entry) → unit_in mid unit ≡ Some o → o.status ≡ Split → ((j : ℕ) → unit ≡ Own j → slice_get own j ≡ Some o) → IsSplitUp problem mid.own unit o.prefix → IsSplitUp problem own unit o.prefix
  still_split unit o is split stays h = record {
    item = h.item;
    branch = h.branch;
    children_are = same_prefixes unit mid.own own (aborts_shapes top mid.own own a) ∙ h.children_are;
    going = λ k d at p ab.
        let b = aborted_back top mid.own own a k d at in
        ⊎_elim
        (λ (w : IsBelow top mid.own k × (is_open b.was.status ≡ true) × (d ≡ with_status Aborted b.was)).
        below_no_frame unit o is split stays k b.was b.is (ap (λ x. x.parent) (sym w.2) ∙ p) w.0)
        (λ (w : (IsBelow top mid.own k → is_open b.was.status ≡ true → ⊥) × (d ≡ b.was)).
        h.going k b.was b.is (ap (λ x. x.parent) (sym w.1) ∙ p) (ap (λ x. x.status) (sym w.1) ∙ ab))
        b.either;
  }

  frame_stays : (unit : WorkUnit) (o : Entry) (s : Status) → o.status ≡ s → unit_in mid unit ≡ Some o → ((j : ℕ) → unit ≡ Own j → slice_get own j ≡ Some o) → FrameOf problem mid.own unit o.prefix s → FrameOf problem own unit o.prefix s
  frame_stays unit o Ready e is stays h = whole_moves unit mid.own own (aborts_shapes top mid.own own a) h
  frame_stays unit o Here e is stays h = whole_moves unit mid.own own (aborts_shapes top mid.own own a) h
  frame_stays unit o (Out thief) e is stays h = whole_moves unit mid.own own (aborts_shapes top mid.own own a) h
  frame_stays unit o Split e is stays h = still_split unit o is e stays h
  frame_stays unit o (Done r) e is stays h = tt
  frame_stays unit o _ e is stays h = tt

  pub sound_aborts : Sound problem (with_own mid own)
  sound_aborts = record {
    unmade = unmade;
    frames = frames;
    hopeless = λ k d at done.
        let b = aborted_back top mid.own own a k d at in
        ⊎_elim
        (λ (w : IsBelow top mid.own k × (is_open b.was.status ≡ true) × (d ≡ with_status Aborted b.was)). absurd (let h : Aborted ≡ Done Empty = ap (λ x. x.status) (sym w.2) ∙ done in cc))
        (λ (w : (IsBelow top mid.own k → is_open b.was.status ≡ true → ⊥) × (d ≡ b.was)).
        subst (λ x. IsBarren problem x.prefix) (sym w.1) (sound.hopeless k b.was b.is (ap (λ x. x.status) (sym w.1) ∙ done)))
        b.either;
    guests = sound.guests;
  }
    where
      unmade : (u : WorkUnit) → unit_in (with_own mid own) u ≡ None → IsWhole u own
      unmade (Own k) at = whole_moves (Own k) mid.own own (aborts_shapes top mid.own own a) (sound.unmade (Own k) (aborts_none top mid.own own a k at))
      unmade (Guest m b) at = whole_moves (Guest m b) mid.own own (aborts_shapes top mid.own own a) (sound.unmade (Guest m b) at)

      frames : (u : WorkUnit) (e : Entry) → unit_in (with_own mid own) u ≡ Some e → FrameOf problem own u e.prefix e.status
      frames (Own k) d at =
          let b = aborted_back top mid.own own a k d at in
          ⊎_elim
          (λ (w : IsBelow top mid.own k × (is_open b.was.status ≡ true) × (d ≡ with_status Aborted b.was)).
          subst (λ x. FrameOf problem own (Own k) x.prefix x.status) (sym w.2) tt)
          (λ (w : (IsBelow top mid.own k → is_open b.was.status ≡ true → ⊥) × (d ≡ b.was)).
          subst (λ x. FrameOf problem own (Own k) x.prefix x.status) (sym w.1)
          (frame_stays (Own k) b.was b.was.status refl b.is
          (λ j e. let same : k ≡ j = cc in subst (λ i. slice_get own i ≡ Some b.was) same (at ∙ ap Some w.1))
          (sound.frames (Own k) b.was b.is)))
          b.either
      frames (Guest m b) d at = frame_stays (Guest m b) d d.status refl at (λ j e. absurd (cc)) (sound.frames (Guest m b) d at)

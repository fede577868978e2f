-- The children that a thief gets may be given together.
use Rattle.std.proofs.Common.{◌≡◌, ℕ, zero, suc, ◌+◌, ◌<◌, ◌≤◌, min, Bool, true, false, cond, ◌&&◌, List, [], ◌∷◌, ◌++◌, length, take, drop, get_or, Option, Some, None, slice_get, refl, sym, ap, subst, ◌∙◌, append_assoc, arith}
use Rattle.std.specs.List.{AllByRecursion}
use Rattle.std.proofs.lemmas.List.{append-nil, at_drop_more, length-append, length-take, take-take, take_all, take_at}
use Rattle.std.proofs.lemmas.Bool.{and_from, and_parts, and_right, lt-ltb, ltb-true}
use Rattle.std.proofs.lemmas.Option.{none-some, same_Some, slice_get-get_or, slice_get_within}
use Rattle.spawn_frame.proofs.Sames.{parent_path, parent_self}
use Rattle.spawn_frame.specs.Frames.{is_unit}
use Rattle.spawn_frame.specs.Gifts.{is_next, rise_from}
use Rattle.spawn_frame.specs.Picks.{is_ready}
use Rattle.spawn_frame.specs.Tables.{AreChildren, has_status, parent_in}
use Rattle.spawn_frame.specs.Units.{Entry}
use Rattle.spawn_frame.specs.declared.site.Site.{Site}
use Rattle.spawn_frame.specs.declared.status.Status.TheVariants.{Ready}
use Rattle.spawn_frame.specs.declared.unit.Unit.{Unit as WorkUnit}
use Rattle.steal_return.proofs.Scans.{next_is, ready_status, there}
use Rattle.steal_return.specs.Ledger.{Ledger}
use Rattle.steal_return.specs.Shares.{MayGo, MayGoTogether, MayShare, is_ready_child, ready_from, share, share_at, share_of, share_with}
use Rattle.steal_return.specs.Steals.{MayGive, first_ready}

-- ---- the ready children of a parent

ready_child : (parent : WorkUnit) (c : Entry) → is_ready_child parent c ≡ true → (c.status ≡ Ready) × (c.parent ≡ Some parent)
ready_child parent c h =
    let p = and_parts (is_unit c.parent parent) (is_ready c.status) h in
    (ready_status c.status p.1, parent_path c.parent parent p.0)

all_ready : (parent : WorkUnit) (own cs : List Entry) (k : ℕ) → ((j : ℕ) → slice_get cs j ≡ slice_get own (k + j)) → AllByRecursion (MayGo (Some parent) own) (ready_from parent k cs)
all_ready parent own [] k at = tt
all_ready parent own (c ∷ cs) k at =
    by (is_ready_child parent c) refl (all_ready parent own cs (suc k) (λ j. let e : k + suc j ≡ suc k + j = omega arith in at (suc j) ∙ ap (slice_get own) e))
  where
    by : (b : Bool) → is_ready_child parent c ≡ b → AllByRecursion (MayGo (Some parent) own) (ready_from parent (suc k) cs) → AllByRecursion (MayGo (Some parent) own) (cond b (k ∷ []) [] ++ ready_from parent (suc k) cs)
    by true h rest =
        let r = ready_child parent c h in
        let e : k ≡ k + 0 = omega arith in
        ((c, ap (slice_get own) e ∙ sym (at 0), r.0, r.1), rest)
    by false h rest = rest

next_later : (last : Option ℕ) (k : ℕ) → is_next last k ≡ true → is_next last (suc k) ≡ true
next_later None k h = refl
next_later (Some n) k h = let lt = ltb-true n k h in lt-ltb n (suc k) (omega (arith, lt))

rises : (parent : WorkUnit) (last : Option ℕ) (k : ℕ) (cs : List Entry) → is_next last k ≡ true → rise_from last (ready_from parent k cs) ≡ true
rises parent last k [] h = refl
rises parent last k (c ∷ cs) h =
    by (is_ready_child parent c) (rises parent (Some k) (suc k) cs (lt-ltb k (suc k) (omega arith))) (rises parent last (suc k) cs (next_later last k h))
  where
    by : (b : Bool) → rise_from (Some k) (ready_from parent (suc k) cs) ≡ true → rise_from last (ready_from parent (suc k) cs) ≡ true
        → rise_from last (cond b (k ∷ []) [] ++ ready_from parent (suc k) cs) ≡ true
    by true above rest = and_from (is_next last k) (rise_from (Some k) (ready_from parent (suc k) cs)) h above
    by false above rest = rest

some_ready : (parent : WorkUnit) (cs : List Entry) (k j : ℕ) (c : Entry) → slice_get cs j ≡ Some c → is_ready_child parent c ≡ true → 1 ≤ length (ready_from parent k cs)
some_ready parent [] k j c at h = absurd (none-some c at)
some_ready parent (d ∷ cs) k zero c at h =
    let e : is_ready_child parent d ≡ true = ap (is_ready_child parent) (same_Some d c at) ∙ h in
    subst (λ b. 1 ≤ length (cond b (k ∷ []) [] ++ ready_from parent (suc k) cs)) (sym e) (omega arith)
some_ready parent (d ∷ cs) k (suc j) c at h = by (is_ready_child parent d) (some_ready parent cs (suc k) j c at h)
  where
    by : (b : Bool) → 1 ≤ length (ready_from parent (suc k) cs) → 1 ≤ length (cond b (k ∷ []) [] ++ ready_from parent (suc k) cs)
    by true l = omega arith
    by false l = l

-- ---- the first ones of them

take_rises : (last : Option ℕ) (n : ℕ) (ns : List ℕ) → rise_from last ns ≡ true → rise_from last (take n ns) ≡ true
take_rises last zero [] h = refl
take_rises last zero (x ∷ ns) h = refl
take_rises last (suc n) [] h = refl
take_rises last (suc n) (x ∷ ns) h =
    let p = and_parts (is_next last x) (rise_from (Some x) ns) h in
    and_from (is_next last x) (rise_from (Some x) (take n ns)) p.0 (take_rises (Some x) n ns p.1)

take_all_so : (P : ℕ → Type 0) (n : ℕ) (ns : List ℕ) → AllByRecursion P ns → AllByRecursion P (take n ns)
take_all_so P zero [] h = tt
take_all_so P zero (x ∷ ns) h = tt
take_all_so P (suc n) [] h = tt
take_all_so P (suc n) (x ∷ ns) h = (h.0, take_all_so P n ns h.1)

pub together : (own : List Entry) (serial : ℕ) (c : Entry) → slice_get own serial ≡ Some c → c.status ≡ Ready → MayGoTogether own (share_with c.parent serial own)
together own serial c at ready = by c.parent refl
  where
    by : (parent : Option WorkUnit) → c.parent ≡ parent → MayGoTogether own (share_with parent serial own)
    by None p = record { parent = None; some = omega arith; most = omega arith; alone = λ e. refl; rising = refl; each = ((c, at, ready, p), tt) }
    by (Some parent) p =
        let ns = ready_from parent 0 own in
        let n = share_of (length ns) in
        let here : 1 ≤ length ns = some_ready parent own 0 serial c at (and_from (is_unit c.parent parent) (is_ready c.status) (parent_self c.parent parent p) (ap is_ready ready)) in
        let long : length (take n ns) ≡ min n (length ns) = length-take n ns in
        record {
          parent = Some parent;
          some = omega (arith, here, long);
          most = omega (arith, long);
          alone = λ e. absurd (none-some parent (sym e));
          rising = take_rises None n ns (rises parent None 0 own refl);
          each = take_all_so (MayGo (Some parent) own) n ns (all_ready parent own own 0 (λ j. let e : j ≡ 0 + j = omega arith in ap (slice_get own) e));
        }

pub may_share : (ledger : Ledger) (thief : Site) (serial : ℕ) (serials : List ℕ) → MayGive ledger thief serial → serials ≡ share_with (parent_in (slice_get ledger.own serial)) serial ledger.own → MayShare ledger thief serials
may_share ledger thief serial serials may is =
    let t = there is_ready ledger.own serial may.ready in
    let here : serials ≡ share_with t.0.parent serial ledger.own = is ∙ ap (λ o. share_with (parent_in o) serial ledger.own) t.1 in
    record {
      not_older = may.not_older;
      chosen_so = is ∙ sym (ap (λ o. share_at o ledger.own) may.least);
      together = subst (MayGoTogether ledger.own) (sym here) (together ledger.own serial t.0 t.1 (ready_status t.0.status t.2));
    }

-- ---- a share of the first ones is one of all

pub share_of_first : (ns : List ℕ) → share (take 15 ns) ≡ share ns
share_of_first ns =
    let long : length (take 15 ns) ≡ min 15 (length ns) = length-take 15 ns in
    let many : share_of (length (take 15 ns)) ≡ share_of (length ns) = omega (arith, long) in
    let few : share_of (length ns) ≤ 15 = omega arith in
    ap (λ n. take n (take 15 ns)) many ∙ take-take (share_of (length ns)) 15 ns few

-- ---- the children that are looked at, one after the other

not_ready : (parent : WorkUnit) (c : Entry) → (c.parent ≡ Some parent → ⊥) → is_ready_child parent c ≡ false
not_ready parent c other = by (is_ready_child parent c) refl
  where
    by : (b : Bool) → is_ready_child parent c ≡ b → b ≡ false
    by true h = absurd (other (ready_child parent c h).1)
    by false h = refl

past_idle : (parent : WorkUnit) (n k : ℕ) (cs : List Entry) → ((j : ℕ) (c : Entry) → j < n → slice_get cs j ≡ Some c → is_ready_child parent c ≡ false) → ready_from parent (k + n) (drop n cs) ≡ ready_from parent k cs
past_idle parent zero k cs idle = let e : k + 0 ≡ k = omega arith in ap (λ i. ready_from parent i cs) e
past_idle parent (suc n) k [] idle = refl
past_idle parent (suc n) k (c ∷ cs) idle =
    let e : k + suc n ≡ suc k + n = omega arith in
    ap (λ i. ready_from parent i (drop n cs)) e
    ∙ past_idle parent n (suc k) cs (λ j d lt at. idle (suc j) d (omega (arith, lt)) at)
    ∙ sym (ap (λ b. cond b (k ∷ []) [] ++ ready_from parent (suc k) cs) (idle 0 c (omega arith) refl))

none_ready : (parent : WorkUnit) (k : ℕ) (cs : List Entry) → ((j : ℕ) (c : Entry) → slice_get cs j ≡ Some c → c.parent ≡ Some parent → ⊥) → ready_from parent k cs ≡ []
none_ready parent k [] other = refl
none_ready parent k (c ∷ cs) other =
    ap (λ b. cond b (k ∷ []) [] ++ ready_from parent (suc k) cs) (not_ready parent c (other 0 c refl))
    ∙ none_ready parent (suc k) cs (λ j d at. other (suc j) d at)

none_behind : (parent : WorkUnit) (n k : ℕ) (cs : List Entry) → ((j : ℕ) (c : Entry) → n ≤ j → slice_get cs j ≡ Some c → c.parent ≡ Some parent → ⊥) → ready_from parent k (drop n cs) ≡ []
none_behind parent zero k cs other = none_ready parent k cs (λ j c at. other j c (omega arith) at)
none_behind parent (suc n) k [] other = refl
none_behind parent (suc n) k (c ∷ cs) other = none_behind parent n k cs (λ j d le at. other (suc j) d (omega (arith, le)) at)

-- What a walk over the children of a unit has found: those that are ready, before the serial.
pub record Found (parent : WorkUnit) (own : List Entry) (least serial : ℕ) (ready : List ℕ) : Type 0 where
  pub behind : least ≤ serial
  pub few : length ready ≤ 15
  pub so_far : ready ++ ready_from parent serial (drop serial own) ≡ ready_from parent 0 own

idle_before : (parent : WorkUnit) (own : List Entry) (least : ℕ) → first_ready own ≡ Some least → (j : ℕ) (c : Entry) → j < least → slice_get own j ≡ Some c → is_ready_child parent c ≡ false
idle_before parent own least is j c lt at =
    and_right (is_unit c.parent parent) (is_ready c.status) (sym (ap (has_status is_ready) at) ∙ (next_is is_ready own 0 least is).gap j (omega arith) lt)

pub walk_starts : (parent : WorkUnit) (own : List Entry) (least : ℕ) → first_ready own ≡ Some least → Found parent own least least []
walk_starts parent own least is = record {
  behind = omega arith;
  few = omega arith;
  so_far = let e : 0 + least ≡ least = omega arith in ap (λ i. ready_from parent i (drop least own)) (sym e) ∙ past_idle parent least 0 own (idle_before parent own least is);
}

one_more : (parent : WorkUnit) (own : List Entry) (k : ℕ) (c : Entry) → slice_get own k ≡ Some c
    → ready_from parent k (drop k own) ≡ cond (is_ready_child parent c) (k ∷ []) [] ++ ready_from parent (k + 1) (drop (k + 1) own)
one_more parent own k c at =
    let lt = slice_get_within own k c at in
    let on : suc k ≡ k + 1 = omega arith in
    at_drop_more (ready_from parent k) own k c lt
    ∙ ap (λ d. cond (is_ready_child parent d) (k ∷ []) [] ++ ready_from parent (suc k) (drop (k + 1) own)) (same_Some (get_or own k c) c (sym (slice_get-get_or own k c lt) ∙ at))
    ∙ ap (λ i. cond (is_ready_child parent c) (k ∷ []) [] ++ ready_from parent i (drop (k + 1) own)) on

child_here : (parent : WorkUnit) (own : List Entry) (first end least serial : ℕ) → AreChildren parent own first end → parent_in (slice_get own least) ≡ Some parent → least ≤ serial → serial < end
    → (c : Entry) × (slice_get own serial ≡ Some c) × (c.parent ≡ Some parent)
child_here parent own first end least serial h is le lt = let l = (h.only least is).0 in by (slice_get own serial) refl (h.each serial (omega (arith, l, le)) lt)
  where
    by : (o : Option Entry) → slice_get own serial ≡ o → parent_in o ≡ Some parent → (c : Entry) × (slice_get own serial ≡ Some c) × (c.parent ≡ Some parent)
    by None e p = absurd (none-some parent p)
    by (Some c) e p = (c, e, p)

pub walk_takes : (parent : WorkUnit) (own : List Entry) (first end least serial : ℕ) (ready : List ℕ) → AreChildren parent own first end → parent_in (slice_get own least) ≡ Some parent → Found parent own least serial ready → serial < end → length ready < 15
    → has_status is_ready (slice_get own serial) ≡ true → Found parent own least (serial + 1) (ready ++ serial ∷ [])
walk_takes parent own first end least serial ready h below f lt room is =
    let c = child_here parent own first end least serial h below f.behind lt in
    let so : is_ready_child parent c.0 ≡ true = and_from (is_unit c.0.parent parent) (is_ready c.0.status) (parent_self c.0.parent parent c.2) (sym (ap (has_status is_ready) c.1) ∙ is) in
    let rest = ready_from parent (serial + 1) (drop (serial + 1) own) in
    record {
      behind = omega (arith, f.behind);
      few = omega (arith, room, length-append ready (serial ∷ []));
      so_far =
          append_assoc ready (serial ∷ []) rest
          ∙ ap (λ b. ready ++ (cond b (serial ∷ []) [] ++ rest)) (sym so)
          ∙ ap (λ l. ready ++ l) (sym (one_more parent own serial c.0 c.1))
          ∙ f.so_far;
    }

pub walk_passes : (parent : WorkUnit) (own : List Entry) (first end least serial : ℕ) (ready : List ℕ) → AreChildren parent own first end → parent_in (slice_get own least) ≡ Some parent → Found parent own least serial ready → serial < end
    → has_status is_ready (slice_get own serial) ≡ false → Found parent own least (serial + 1) ready
walk_passes parent own first end least serial ready h below f lt is =
    let c = child_here parent own first end least serial h below f.behind lt in
    let idle : is_ready c.0.status ≡ false = sym (ap (has_status is_ready) c.1) ∙ is in
    let so : is_ready_child parent c.0 ≡ false = ap (λ b. b && is_ready c.0.status) (parent_self c.0.parent parent c.2) ∙ idle in
    let rest = ready_from parent (serial + 1) (drop (serial + 1) own) in
    record {
      behind = omega (arith, f.behind);
      few = f.few;
      so_far = ap (λ b. ready ++ (cond b (serial ∷ []) [] ++ rest)) (sym so) ∙ ap (λ l. ready ++ l) (sym (one_more parent own serial c.0 c.1)) ∙ f.so_far;
    }

pub walk_full : (parent : WorkUnit) (own : List Entry) (least serial : ℕ) (ready : List ℕ) → Found parent own least serial ready → 15 ≤ length ready → ready ≡ take 15 (ready_from parent 0 own)
walk_full parent own least serial ready f full =
    let e : length ready ≡ 15 = omega (arith, full, f.few) in
    sym (take_at ready (ready_from parent serial (drop serial own)) 15 e) ∙ ap (take 15) f.so_far

pub walk_ends : (parent : WorkUnit) (own : List Entry) (first end least serial : ℕ) (ready : List ℕ) → AreChildren parent own first end → Found parent own least serial ready → end ≤ serial → ready ≡ take 15 (ready_from parent 0 own)
walk_ends parent own first end least serial ready h f le =
    let none : ready_from parent serial (drop serial own) ≡ [] = none_behind parent serial serial own (λ j c behind at p. let l = (h.only j (ap parent_in at ∙ p)).1 in omega (arith, l, le, behind)) in
    let all : ready ≡ ready_from parent 0 own = sym (append-nil ready) ∙ ap (λ l. ready ++ l) (sym none) ∙ f.so_far in
    sym (take_all 15 ready f.few) ∙ ap (take 15) all

-- A walk over the own children from the first, and what it finds.
use Rattle.std.proofs.Common.{◌≡◌, ℕ, zero, suc, ◌+◌, ◌-◌, ◌<◌, ◌≤◌, Bool, true, false, cond, List, [], ◌∷◌, Option, Some, None, length, drop, slice_get, refl, sym, subst, arith, true≢false}
use Rattle.std.proofs.lemmas.Option.{none-some, same_Some}
use Rattle.std.specs.List.{position_from}
use Rattle.spawn_frame.specs.Picks.{is_ready}
use Rattle.spawn_frame.specs.Tables.{has_status}
use Rattle.spawn_frame.specs.Units.{Entry}
use Rattle.spawn_frame.specs.declared.status.Status.{Status}
use Rattle.spawn_frame.specs.declared.status.Status.TheVariants.{Ready}

-- the first child from k on that passes
abbrev pub passes_from : (Status → Bool) → ℕ → List Entry → Option ℕ
passes_from test k own = position_from (λ c. test c.status) k (drop k own)

-- where the walk from the start finds one
found_at : (test : Status → Bool) (own : List Entry) (i k : ℕ) → position_from (λ c. test c.status) i own ≡ Some k
    → (j : ℕ) × (k ≡ i + j) × (has_status test (slice_get own j) ≡ true)
found_at test [] i k e = absurd (none-some k e)
found_at test (c ∷ cs) i k e = go (test c.status) refl e (λ f. found_at test cs (i + 1) k f)
  where
    go : (b : Bool) → test c.status ≡ b → cond b (Some i) (position_from (λ d. test d.status) (i + 1) cs) ≡ Some k
        → (position_from (λ d. test d.status) (i + 1) cs ≡ Some k → (j : ℕ) × (k ≡ i + 1 + j) × (has_status test (slice_get cs j) ≡ true))
        → (j : ℕ) × (k ≡ i + j) × (has_status test (slice_get (c ∷ cs) j) ≡ true)
    go true h f on = (0, (let e : i ≡ k = same_Some i k f in omega (arith, e)), h)
    go false h f on = let r = on f in (suc r.0, (let e : k ≡ i + 1 + r.0 = r.1 in omega (arith, e)), r.2)

pub found_first : (test : Status → Bool) (own : List Entry) (k : ℕ) → position_from (λ c. test c.status) 0 own ≡ Some k
    → has_status test (slice_get own k) ≡ true
found_first test own k e =
    let r = found_at test own 0 k e in
    let same : r.0 ≡ k = (let f : k ≡ 0 + r.0 = r.1 in omega (arith, f)) in
    subst (λ n. has_status test (slice_get own n) ≡ true) same r.2

pub found_none : (test : Status → Bool) (own : List Entry) (i : ℕ) → position_from (λ c. test c.status) i own ≡ None
    → (k : ℕ) (entry : Entry) → slice_get own k ≡ Some entry → test entry.status ≡ false
found_none test [] i e k entry at = absurd (none-some entry at)
found_none test (c ∷ cs) i e k entry at = go (test c.status) refl e k at (λ f j h. found_none test cs (i + 1) f j entry h)
  where
    go : (b : Bool) → test c.status ≡ b → cond b (Some i) (position_from (λ d. test d.status) (i + 1) cs) ≡ None
        → (k : ℕ) → slice_get (c ∷ cs) k ≡ Some entry
        → (position_from (λ d. test d.status) (i + 1) cs ≡ None → (j : ℕ) → slice_get cs j ≡ Some entry → test entry.status ≡ false)
        → test entry.status ≡ false
    go true h f k at on = absurd (none-some i (sym f))
    go false h f zero at on = subst (λ d. test d.status ≡ false) (same_Some c entry at) h
    go false h f (suc k) at on = on f k at

-- a unit with a status that passes is there
pub there : (test : Status → Bool) (own : List Entry) (k : ℕ) → has_status test (slice_get own k) ≡ true
    → (entry : Entry) × (slice_get own k ≡ Some entry) × (test entry.status ≡ true)
there test own k h = go (slice_get own k) refl h
  where
    go : (o : Option Entry) → slice_get own k ≡ o → has_status test o ≡ true → (entry : Entry) × (slice_get own k ≡ Some entry) × (test entry.status ≡ true)
    go None e h = absurd (true≢false (sym h))
    go (Some entry) e h = (entry, e, h)

pub ready_status : (s : Status) → is_ready s ≡ true → s ≡ Ready
ready_status Ready h = refl
ready_status _ h = absurd (true≢false (sym h))

-- ---- a walk from one that passes to the next

-- The child at k is the first from another on that passes.
pub record IsNext (test : Status → Bool) (own : List Entry) (from k : ℕ) : Type 0 where
  pub behind : from ≤ k
  pub within : k < length own
  pub passes : has_status test (slice_get own k) ≡ true
  pub gap : (j : ℕ) → from ≤ j → j < k → has_status test (slice_get own j) ≡ false

-- The same, where the number i stands for the one from which the walk begins.
record IsNextFrom (test : Status → Bool) (own : List Entry) (from i k : ℕ) : Type 0 where
  pub place : ℕ
  pub sum : k + from ≡ i + place
  pub next : IsNext test own from place

here_first : (test : Status → Bool) (c : Entry) (cs : List Entry) (i k : ℕ) → test c.status ≡ true → i ≡ k → IsNextFrom test (c ∷ cs) 0 i k
here_first test c cs i k h e = record {
  place = 0;
  sum = omega (arith, e);
  next = record { behind = omega arith; within = omega arith; passes = h; gap = λ j l m. absurd (omega (arith, m)) };
}

past_first : (test : Status → Bool) (c : Entry) (cs : List Entry) (i k : ℕ) → test c.status ≡ false → IsNextFrom test cs 0 (i + 1) k
    → IsNextFrom test (c ∷ cs) 0 i k
past_first test c cs i k h r = record {
  place = suc r.place;
  sum = omega (arith, r.sum);
  next = record { behind = omega arith; within = omega (arith, r.next.within); passes = r.next.passes; gap = gap };
}
  where
    gap : (j : ℕ) → 0 ≤ j → j < suc r.place → has_status test (slice_get (c ∷ cs) j) ≡ false
    gap zero l m = h
    gap (suc j) l m = r.next.gap j (omega arith) (omega (arith, m))

one_lower : (test : Status → Bool) (c : Entry) (cs : List Entry) (from i k : ℕ) → IsNextFrom test cs from i k → IsNextFrom test (c ∷ cs) (suc from) i k
one_lower test c cs from i k r = record {
  place = suc r.place;
  sum = omega (arith, r.sum);
  next = record { behind = omega (arith, r.next.behind); within = omega (arith, r.next.within); passes = r.next.passes; gap = gap };
}
  where
    gap : (j : ℕ) → suc from ≤ j → j < suc r.place → has_status test (slice_get (c ∷ cs) j) ≡ false
    gap zero l m = absurd (omega (arith, l))
    gap (suc j) l m = r.next.gap j (omega (arith, l)) (omega (arith, m))

next_from : (test : Status → Bool) (own : List Entry) (from i k : ℕ) → position_from (λ c. test c.status) i (drop from own) ≡ Some k
    → IsNextFrom test own from i k
next_from test [] zero i k e = absurd (none-some k e)
next_from test [] (suc from) i k e = absurd (none-some k e)
next_from test (c ∷ cs) zero i k e = go (test c.status) refl e (λ f. next_from test cs 0 (i + 1) k f)
  where
    go : (b : Bool) → test c.status ≡ b → cond b (Some i) (position_from (λ d. test d.status) (i + 1) cs) ≡ Some k
        → (position_from (λ d. test d.status) (i + 1) cs ≡ Some k → IsNextFrom test cs 0 (i + 1) k) → IsNextFrom test (c ∷ cs) 0 i k
    go true h f on = here_first test c cs i k h (same_Some i k f)
    go false h f on = past_first test c cs i k h (on f)
next_from test (c ∷ cs) (suc from) i k e = one_lower test c cs from i k (next_from test cs from i k e)

pub next_is : (test : Status → Bool) (own : List Entry) (from k : ℕ) → passes_from test from own ≡ Some k → IsNext test own from k
next_is test own from k e =
    let r = next_from test own from from k e in
    let same : r.place ≡ k = omega (arith, r.sum) in
    subst (λ n. IsNext test own from n) same r.next

pub none_next : (test : Status → Bool) (own : List Entry) (from i : ℕ) → position_from (λ c. test c.status) i (drop from own) ≡ None
    → (j : ℕ) → from ≤ j → has_status test (slice_get own j) ≡ false
none_next test [] from i e j l = refl
none_next test (c ∷ cs) zero i e j l = go (test c.status) refl e j (λ f n. none_next test cs 0 (i + 1) f n (omega arith))
  where
    go : (b : Bool) → test c.status ≡ b → cond b (Some i) (position_from (λ d. test d.status) (i + 1) cs) ≡ None → (j : ℕ)
        → (position_from (λ d. test d.status) (i + 1) cs ≡ None → (n : ℕ) → has_status test (slice_get cs n) ≡ false) → has_status test (slice_get (c ∷ cs) j) ≡ false
    go true h f j on = absurd (none-some i (sym f))
    go false h f zero on = h
    go false h f (suc j) on = on f j
none_next test (c ∷ cs) (suc from) i e zero l = absurd (omega (arith, l))
none_next test (c ∷ cs) (suc from) i e (suc j) l = none_next test cs from i e j (omega (arith, l))

climb : (P : ℕ → Type 0) (from n : ℕ) → ((j : ℕ) → from ≤ j → j < n + from → P j → P (suc j)) → P from → P (n + from)
climb P from zero step p = let same : from ≡ 0 + from = omega arith in subst P same p
climb P from (suc n) step p =
    let next : suc (n + from) ≡ suc n + from = omega arith in
    subst P next (step (n + from) (omega arith) (omega arith) (climb P from n (λ j l m. step j l (omega (arith, m))) p))

-- what goes on from each number to the next goes on from one to a later one
pub onward : (P : ℕ → Type 0) (from k : ℕ) → from ≤ k → ((j : ℕ) → from ≤ j → j < k → P j → P (suc j)) → P from → P k
onward P from k le step p =
    let whole : k - from + from ≡ k = omega arith in
    subst P whole (climb P from (k - from) (λ j l m. step j l (omega (arith, m, le))) p)

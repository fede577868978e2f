-- Own children that are redone, since their thieves are lost.
use Rattle.std.proofs.Common.{◌≡◌, ℕ, zero, suc, ◌+◌, ◌<◌, ◌≤◌, Bool, true, false, ◌&&◌, cond, List, [], ◌∷◌, length, Option, Some, None, slice_get, refl, sym, ap, ◌∙◌, arith, add-one, true≢false, nat_le, nat_lt, ◌==◌, subst}
use Rattle.std.proofs.lemmas.Bool.{eqb-false, eqb-true, leb-false, leb-true, ltb-false, ltb-true}
use Rattle.std.proofs.lemmas.Option.{slice_get_within}
use Rattle.spawn_frame.specs.Tables.{has_status, is_out}
use Rattle.spawn_frame.specs.Units.{Entry, Table, change_at, last_attempt, redone, table_own}
use Rattle.spawn_frame.specs.declared.site.Site.{Site}
use Rattle.spawn_frame.specs.declared.status.Status.{Status}
use Rattle.spawn_frame.specs.declared.status.Status.TheVariants.{Out, Ready}
use Rattle.steal_return.proofs.Scans.{onward}
use Rattle.steal_return.specs.Invariant.{NoneOutrun}
use Rattle.steal_return.specs.Members.{IsRedoable, is_out_to, is_spent_at, redo_if, redo_lost}
use Rattle.steal_return.specs.Steals.{is_older}

-- the children below n redone, and the others as they were
abbrev pub redone_below : (Site → Bool) → ℕ → List Entry → List Entry
redone_below lost n [] = []
redone_below lost zero (c ∷ cs) = c ∷ cs
redone_below lost (suc n) (c ∷ cs) = redo_if lost c c.status ∷ redone_below lost n cs

pub redone_none : (lost : Site → Bool) (own : List Entry) → redone_below lost 0 own ≡ own
redone_none lost [] = refl
redone_none lost (c ∷ cs) = refl

redone_next : (lost : Site → Bool) (own : List Entry) (n : ℕ)
    → change_at (λ c. redo_if lost c c.status) (redone_below lost n own) n ≡ redone_below lost (suc n) own
redone_next lost [] n = refl
redone_next lost (c ∷ cs) zero = ap (λ l. redo_if lost c c.status ∷ l) (sym (redone_none lost cs))
redone_next lost (c ∷ cs) (suc n) = ap (λ l. redo_if lost c c.status ∷ l) (redone_next lost cs n)

redone_at : (lost : Site → Bool) (own : List Entry) (n : ℕ) → slice_get (redone_below lost n own) n ≡ slice_get own n
redone_at lost [] n = refl
redone_at lost (c ∷ cs) zero = refl
redone_at lost (c ∷ cs) (suc n) = redone_at lost cs n

pub redone_all : (lost : Site → Bool) (own : List Entry) → redone_below lost (length own) own ≡ redo_lost lost own
redone_all lost [] = refl
redone_all lost (c ∷ cs) = ap (λ l. redo_if lost c c.status ∷ l) (redone_all lost cs)

pub redone_length : (lost : Site → Bool) (n : ℕ) (own : List Entry) → length (redone_below lost n own) ≡ length own
redone_length lost n [] = refl
redone_length lost zero (c ∷ cs) = refl
redone_length lost (suc n) (c ∷ cs) = ap suc (redone_length lost n cs)

pub redone_step : (lost : Site → Bool) (old now new : Table) (n : ℕ) → now ≡ table_own old (redone_below lost n old.own)
    → new ≡ table_own now (change_at (λ c. redo_if lost c c.status) now.own n) → new ≡ table_own old (redone_below lost (n + 1) old.own)
redone_step lost old now new n was is =
    is ∙ ap (λ t. table_own t (change_at (λ c. redo_if lost c c.status) t.own n)) was
    ∙ ap (table_own old) (redone_next lost old.own n ∙ ap (λ k. redone_below lost k old.own) (sym (add-one n)))

-- a child that can be redone isn't spent
unspent : (lost : Site → Bool) (own : List Entry) → IsRedoable lost own → (k : ℕ) → is_spent_at lost (slice_get own k) ≡ false
unspent lost own h k = go (slice_get own k) refl
  where
    by_status : (entry : Entry) → slice_get own k ≡ Some entry → (s : Status) → entry.status ≡ s → (b : Bool) → nat_le last_attempt entry.attempt ≡ b → (b && is_out_to lost s) ≡ false
    by_status entry is s e false l = refl
    by_status entry is (Out thief) e true l = by_loss (lost thief) refl
      where
        by_loss : (b : Bool) → lost thief ≡ b → b ≡ false
        by_loss true g = absurd (omega (arith, h k entry thief is e g, leb-true last_attempt entry.attempt l))
        by_loss false g = refl
    by_status entry is _ e true l = refl

    go : (o : Option Entry) → slice_get own k ≡ o → is_spent_at lost o ≡ false
    go None is = refl
    go (Some entry) is = by_status entry is entry.status refl (nat_le last_attempt entry.attempt) refl

pub unspent_next : (lost : Site → Bool) (old now : Table) (n : ℕ) → IsRedoable lost old.own → now ≡ table_own old (redone_below lost n old.own)
    → is_spent_at lost (slice_get now.own n) ≡ false
unspent_next lost old now n h was =
    ap (λ t. is_spent_at lost (slice_get t.own n)) was ∙ ap (is_spent_at lost) (redone_at lost old.own n) ∙ unspent lost old.own h n

-- where no child is spent, each can be redone
pub redoable : (lost : Site → Bool) (own : List Entry) → ((k : ℕ) → k < length own → is_spent_at lost (slice_get own k) ≡ false) → IsRedoable lost own
redoable lost own h k entry thief is out gone =
    go (nat_le last_attempt entry.attempt) refl (sym (ap (is_spent_at lost) is) ∙ h k (slice_get_within own k entry is))
  where
    go : (b : Bool) → nat_le last_attempt entry.attempt ≡ b → (b && is_out_to lost entry.status) ≡ false → entry.attempt < last_attempt
    go true l e = absurd (true≢false (sym (ap (is_out_to lost) out ∙ gone) ∙ e))
    go false l e = leb-false last_attempt entry.attempt l

-- a child that is out to a lost site is redone, and no other
pub redoes_lost : (lost : Site → Bool) (c : Entry) (s : Status) → is_out_to lost s ≡ true → redo_if lost c s ≡ redone c
redoes_lost lost c (Out thief) h = ap (λ b. cond b (redone c) c) h
redoes_lost lost c Ready h = absurd (true≢false (sym h))
redoes_lost lost c _ h = absurd (true≢false (sym h))

pub redo_of_lost : (lost : Site → Bool) (own : List Entry) (k : ℕ) → has_status (is_out_to lost) (slice_get own k) ≡ true
    → change_at (λ c. redo_if lost c c.status) own k ≡ change_at redone own k
redo_of_lost lost [] k h = refl
redo_of_lost lost (c ∷ cs) zero h = ap (λ d. d ∷ cs) (redoes_lost lost c c.status h)
redo_of_lost lost (c ∷ cs) (suc k) h = ap (λ l. c ∷ l) (redo_of_lost lost cs k h)

kept : (lost : Site → Bool) (c : Entry) (s : Status) → is_out_to lost s ≡ false → redo_if lost c s ≡ c
kept lost c (Out thief) g = ap (λ b. cond b (redone c) c) g
kept lost c Ready g = refl
kept lost c _ g = refl

pub redo_of_other : (lost : Site → Bool) (own : List Entry) (k : ℕ) → has_status (is_out_to lost) (slice_get own k) ≡ false
    → own ≡ change_at (λ c. redo_if lost c c.status) own k
redo_of_other lost [] k h = refl
redo_of_other lost (c ∷ cs) zero h = ap (λ d. d ∷ cs) (sym (kept lost c c.status h))
redo_of_other lost (c ∷ cs) (suc k) h = ap (λ l. c ∷ l) (redo_of_other lost cs k h)

-- where no child is out to an earlier incarnation, none is redone
pub redo_none : (known : List ℕ) (own : List Entry) → NoneOutrun known own → redo_lost (is_older known) own ≡ own
redo_none known [] h = refl
redo_none known (c ∷ cs) h = λ i. kept (is_older known) c c.status h.0 i ∷ redo_none known cs h.1 i

-- ---- a walk over the children that are out

-- what is not out is not out to a lost site
pub not_out : (lost : Site → Bool) (o : Option Entry) → has_status is_out o ≡ false → has_status (is_out_to lost) o ≡ false
not_out lost None h = refl
not_out lost (Some entry) h = by entry.status h
  where
    by : (s : Status) → is_out s ≡ false → is_out_to lost s ≡ false
    by (Out thief) g = absurd (true≢false g)
    by Ready g = refl
    by _ g = refl

-- nor is it spent
pub not_spent : (lost : Site → Bool) (o : Option Entry) → has_status is_out o ≡ false → is_spent_at lost o ≡ false
not_spent lost None h = refl
not_spent lost (Some entry) h = both (nat_le last_attempt entry.attempt) (not_out lost (Some entry) h)
  where
    both : (b : Bool) → is_out_to lost entry.status ≡ false → (b && is_out_to lost entry.status) ≡ false
    both true g = g
    both false g = refl

-- a later child stands as it did while those before it are redone
later_stays : (lost : Site → Bool) (own : List Entry) (n j : ℕ) → n ≤ j → slice_get (redone_below lost n own) j ≡ slice_get own j
later_stays lost [] n j l = refl
later_stays lost (c ∷ cs) zero j l = refl
later_stays lost (c ∷ cs) (suc n) zero l = absurd (omega (arith, l))
later_stays lost (c ∷ cs) (suc n) (suc j) l = later_stays lost cs n j (omega (arith, l))

-- a child that is not out is as it was when it is redone with the others
redone_over : (lost : Site → Bool) (own : List Entry) (n : ℕ) → has_status is_out (slice_get own n) ≡ false
    → redone_below lost (suc n) own ≡ redone_below lost n own
redone_over lost [] n h = refl
redone_over lost (c ∷ cs) zero h =
    (λ i. kept lost c c.status (not_out lost (Some c) h) i ∷ redone_none lost cs i)
redone_over lost (c ∷ cs) (suc n) h = ap (λ l. redo_if lost c c.status ∷ l) (redone_over lost cs n h)

-- so a walk may pass to the next one that is out
pub redone_onward : (lost : Site → Bool) (old now : Table) (from k : ℕ) → from ≤ k
    → ((j : ℕ) → from ≤ j → j < k → has_status is_out (slice_get now.own j) ≡ false)
    → now ≡ table_own old (redone_below lost from old.own) → now ≡ table_own old (redone_below lost k old.own)
redone_onward lost old now from k le gap was =
    was
    ∙ ap (table_own old)
    (onward (λ j. redone_below lost from old.own ≡ redone_below lost j old.own) from k le
    (λ j l m e. e ∙ sym (redone_over lost old.own j (ap (has_status is_out) (sym (stays j l)) ∙ gap j l m))) refl)
  where
    stays : (j : ℕ) → from ≤ j → slice_get now.own j ≡ slice_get old.own j
    stays j l = ap (λ t. slice_get t.own j) was ∙ later_stays lost old.own from j l

-- where no child from here on is out, all that are to be redone are
pub redone_whole : (lost : Site → Bool) (old now : Table) (from : ℕ) → from ≤ length old.own
    → ((j : ℕ) → from ≤ j → has_status is_out (slice_get now.own j) ≡ false)
    → now ≡ table_own old (redone_below lost from old.own) → now ≡ table_own old (redo_lost lost old.own)
redone_whole lost old now from le none was =
    redone_onward lost old now from (length old.own) le (λ j l m. none j l) was ∙ ap (table_own old) (redone_all lost old.own)

-- none is spent before the next one that is out, nor that one, where it isn't
pub unspent_onward : (lost : Site → Bool) (own : List Entry) (from k : ℕ) → ((j : ℕ) → from ≤ j → j < k → has_status is_out (slice_get own j) ≡ false)
    → ((j : ℕ) → j < from → is_spent_at lost (slice_get own j) ≡ false) → is_spent_at lost (slice_get own k) ≡ false
    → (j : ℕ) → j < k + 1 → is_spent_at lost (slice_get own j) ≡ false
unspent_onward lost own from k gap none last j l = go (nat_lt j from) refl (j == k) refl
  where
    go : (b : Bool) → nat_lt j from ≡ b → (e : Bool) → (j == k) ≡ e → is_spent_at lost (slice_get own j) ≡ false
    go true below e same = none j (ltb-true j from below)
    go false past true same = subst (λ n. is_spent_at lost (slice_get own n) ≡ false) (sym (eqb-true j k same)) last
    go false past false same =
        let other = eqb-false j k same in
        not_spent lost _ (gap j (omega (arith, ltb-false j from past)) (omega (arith, other, l)))

-- nor where none is out from here on
pub unspent_rest : (lost : Site → Bool) (own : List Entry) (from : ℕ) → ((j : ℕ) → from ≤ j → has_status is_out (slice_get own j) ≡ false)
    → ((j : ℕ) → j < from → is_spent_at lost (slice_get own j) ≡ false) → (j : ℕ) → is_spent_at lost (slice_get own j) ≡ false
unspent_rest lost own from rest none j = go (nat_lt j from) refl
  where
    go : (b : Bool) → nat_lt j from ≡ b → is_spent_at lost (slice_get own j) ≡ false
    go true below = none j (ltb-true j from below)
    go false past = not_spent lost _ (rest j (omega (arith, ltb-false j from past)))

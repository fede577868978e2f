-- Each step of the keeper keeps the rule.
use Rattle.std.proofs.Common.{◌≡◌, ◌≢◌, ◌⊎◌, ℕ, eq-eqb, ne_eqb, zero, suc, ◌<◌, List, [], ◌∷◌, ◌++◌, length, set, Some, refl, sym, ap, ◌∙◌, subst, inl, inr, ⊎_elim, arith}
use Rattle.std.specs.Prelude.{slice_get, if◌then◌else◌, ◌==◌}
use mathlib.Core.Option.{some, some-ne-none, some-injective}
use mathlib.Core.Logic.{dite}
use native.Mathlib.Decide.{ℕ_discrete}
use lib.ListN.{get_elem?}
use Rattle.atomic_table.proofs.Lists.{at_set}
use Rattle.crossbeam_queue.specs.Fifo.{Forks, Learns, Merges}
use Rattle.cover_problem.proofs.Basics.{get_front}
use Rattle.run_book.proofs.Counting.{get_below, get_last, hit, miss, stand_below, stand_front, stand_push, times_push}
use Rattle.run_book.specs.Entries.{Entry, Placed}
use Rattle.run_book.specs.Places.{places, times}
use Rattle.run_book.specs.Tickets.{AreApart, AreTickets, Fits, IsKeeper, Knows, KeepsApart, back_of, entered, keeper_of_none, log_of, receipt_of, spent, with_back}
use Rattle.run_book.specs.Tickets.Knows.{Keeps, Nothing, Stands}

-- the holder of each place, with one changed
abbrev given : (ℕ → ℕ) → ℕ → ℕ → ℕ → ℕ
given h k j i = if i == k then j else h i

given_here : (h : ℕ → ℕ) (k j i : ℕ) → i ≡ k → given h k j i ≡ j
given_here h k j i e = subst (λ b. (if b then j else h i) ≡ j) (sym (eq-eqb i k e)) refl

given_else : (h : ℕ → ℕ) (k j i : ℕ) → i ≢ k → given h k j i ≡ h i
given_else h k j i n = subst (λ b. (if b then j else h i) ≡ h i) (sym (ne_eqb i k n)) refl

at_below : (l : List Knows) (j : ℕ) (b : Knows) → get_elem? l j ≡ some b → j < length l
at_below [] j b e = absurd (some-ne-none b (sym e))
at_below (x ∷ xs) zero b e = omega arith
at_below (x ∷ xs) (suc j) b e = let r = at_below xs j b e in omega arith

at_snoc : (l : List Knows) (a b : Knows) (j : ℕ) → get_elem? (l ++ a ∷ []) j ≡ some b → (get_elem? l j ≡ some b) ⊎ ((j ≡ length l) × (a ≡ b))
at_snoc [] a b zero e = inr (refl, some-injective a b e)
at_snoc [] a b (suc j) e = absurd (some-ne-none b (sym e))
at_snoc (x ∷ xs) a b zero e = inl e
at_snoc (x ∷ xs) a b (suc j) e = ⊎_elim (λ p. inl p) (λ (p : (j ≡ length xs) × (a ≡ b)). inr (ap suc p.0, p.1)) (at_snoc xs a b j e)

-- what is so at one number and of one holder is so at an equal one
moved : (F : ℕ → Knows → Type 0) (i j : ℕ) (v u : Knows) → j ≡ i → v ≡ u → F i v → F j u
moved F i j v u at is f = subst (λ (n : ℕ). F n u) (sym at) (subst (F i) is f)

length_of_set : (l : List Knows) (i : ℕ) (a : Knows) → length (set l i a) ≡ length l
length_of_set [] i a = refl
length_of_set (x ∷ xs) zero a = refl
length_of_set (x ∷ xs) (suc i) a = ap suc (length_of_set xs i a)

pub tickets_at_first : AreTickets [] (keeper_of_none ∷ [])
tickets_at_first = record {
  keeper = 0;
  log = [];
  back = [];
  holder = λ _. 0;
  fits = one;
  apart = record { once = λ k. omega arith; stand = tt };
  kept = λ k some. absurd (omega arith);
}
  where
    one : (by : ℕ) (v : Knows) → get_elem? (keeper_of_none ∷ []) by ≡ some v → Fits 0 [] [] (λ _. 0) by v
    one zero v e = subst (Fits 0 [] [] (λ _. 0) 0) (some-injective _ _ e) (refl, refl, refl)
    one (suc by) v e = absurd (some-ne-none v (sym e))

-- ---- an entry is entered

-- what another holder knows stays so
others_fit : (keeper : ℕ) (log : List Entry) (back : List Placed) (holder : ℕ → ℕ) (e : Entry) (new j : ℕ) (u : Knows)
    → j ≢ keeper → Fits keeper log back holder j u → Fits keeper (log ++ e ∷ []) back (given holder (length log) new) j u
others_fit keeper log back holder e new j (Keeps mine came) apart f = absurd (apart f.0)
others_fit keeper log back holder e new j (Stands t) apart f = (
  get_front log (e ∷ []) t.place t.entry f.0,
  given_else holder (length log) new t.place (λ same. let b = get_below log t.place t.entry f.0 in absurd (omega arith)) ∙ f.1,
  f.2,
)
others_fit keeper log back holder e new j Nothing apart f = tt

-- what the new receipt knows is so
receipt_fits : (keeper : ℕ) (log mine : List Entry) (back : List Placed) (holder : ℕ → ℕ) (e : Entry) (new : ℕ)
    → mine ≡ log → new ≢ keeper
    → Fits keeper (log ++ e ∷ []) back (given holder (length log) new) new (Stands (record { place = length mine; entry = e }))
receipt_fits keeper log mine back holder e new same apart = (
  subst (λ (l : List Entry). slice_get (log ++ e ∷ []) (length l) ≡ Some e) (sym same) (get_last log e),
  given_here holder (length log) new (length mine) (ap length same),
  apart,
)

enters : (by : ℕ) (mine : List Entry) (came : List Placed) (e : Entry)
    → Forks AreTickets by (Keeps mine came) (entered (Keeps mine came) e) (receipt_of (Keeps mine came) e)
enters by mine came e items views h at =
    let left : Knows = Keeps (mine ++ e ∷ []) came in
    let right : Knows = Stands (record { place = length mine; entry = e }) in
    let i = h.fits by (Keeps mine came) at in
    let vs : List Knows = set views by left in
    let same_len : length vs ≡ length views = length_of_set views by left in
    let low : by < length views = at_below views by (Keeps mine came) at in
    let new : ℕ = length vs in
    let holder : ℕ → ℕ = given h.holder (length h.log) new in
    let log : List Entry = h.log ++ e ∷ [] in
    let is_keeper : by ≡ h.keeper = i.0 in
    let F : ℕ → Knows → Type 0 = Fits h.keeper log h.back holder in
    let old : (j : ℕ) (u : Knows) → get_elem? vs j ≡ some u → F j u = λ j u x.
    ⊎_elim
    (λ (p : (j ≡ by) × (left ≡ u)). subst (F j) p.1 (p.0 ∙ is_keeper, ap (λ l. l ++ e ∷ []) i.1, i.2))
    (λ (p : (j ≢ by) × (get_elem? views j ≡ some u)). others_fit h.keeper h.log h.back h.holder e new j u (λ q. p.0 (q ∙ sym is_keeper)) (h.fits j u p.1))
    (at_set views by j left u x) in
    record {
      keeper = h.keeper;
      log = log;
      back = h.back;
      holder = holder;
      fits = λ j u x. ⊎_elim
          (λ p. old j u p)
          (λ (p : (j ≡ new) × (right ≡ u)). moved F new j right u p.0 p.1 (receipt_fits h.keeper h.log mine h.back h.holder e new i.1 (λ n. absurd (omega arith))))
          (at_snoc vs right u j x);
      apart = record { once = h.apart.once; stand = stand_front h.log (e ∷ []) h.back h.apart.stand };
      kept = λ k some. let b = stand_below h.log h.back k h.apart.stand some in given_else h.holder (length h.log) new k (λ n. absurd (omega arith)) ∙ h.kept k some;
    }

-- the keeper enters an entry
pub enters_as : (by : ℕ) (known : Knows) (e : Entry) → IsKeeper known → Forks AreTickets by known (entered known e) (receipt_of known e)
enters_as by known e is = subst (λ (v : Knows). Forks AreTickets by v (entered v e) (receipt_of v e)) (sym is) (enters by (log_of known) (back_of known) e)

-- ---- a receipt comes back

-- what a third holder knows stays so
thirds_fit : (keeper : ℕ) (log : List Entry) (back more : List Placed) (holder : ℕ → ℕ) (place other j : ℕ) (u : Knows)
    → holder place ≡ other → j ≢ keeper → j ≢ other → Fits keeper log back holder j u → Fits keeper log more (given holder place keeper) j u
thirds_fit keeper log back more holder place other j (Keeps mine came) held apart away f = absurd (apart f.0)
thirds_fit keeper log back more holder place other j (Stands t) held apart away f = (
  f.0,
  given_else holder place keeper t.place (λ same. absurd (away (sym f.1 ∙ ap holder same ∙ held))) ∙ f.1,
  f.2,
)
thirds_fit keeper log back more holder place other j Nothing held apart away f = tt

-- the places that are back, with one more that was held
more_apart : (log : List Entry) (back : List Placed) (t : Placed) → AreApart log back → times t.place (places back) ≡ 0
    → slice_get log t.place ≡ Some t.entry → AreApart log (back ++ t ∷ [])
more_apart log back t apart none stands = record {
  once = λ k. dite (ℕ_discrete k t.place)
      (λ (e : k ≡ t.place). let c = times_push k back t in let z : times k (places back) ≡ 0 = ap (λ i. times i (places back)) e ∙ none in let o = hit k t.place e in omega arith)
      (λ (n : k ≢ t.place). let c = times_push k back t in let o = miss k t.place n in let b = apart.once k in omega arith);
  stand = stand_push log back t apart.stand stands;
}

-- a place whose receipt is back is the keeper's
keeper_has : (keeper : ℕ) (back : List Placed) (holder : ℕ → ℕ) (t : Placed)
    → ((k : ℕ) → 0 < times k (places back) → holder k ≡ keeper)
    → (k : ℕ) → 0 < times k (places (back ++ t ∷ [])) → given holder t.place keeper k ≡ keeper
keeper_has keeper back holder t kept k there =
    dite (ℕ_discrete k t.place)
    (λ (e : k ≡ t.place). given_here holder t.place keeper k e)
    (λ (n : k ≢ t.place). given_else holder t.place keeper k n ∙ kept k (let c = times_push k back t in let o = miss k t.place n in omega arith))

takes_back : (by : ℕ) (mine : List Entry) (came : List Placed) (other : ℕ) (t : Placed)
    → Merges AreTickets by (Keeps mine came) other (Stands t) (with_back (Keeps mine came) (Stands t)) spent
takes_back by mine came other t items views h at apart there =
    let w : Knows = Keeps mine (came ++ t ∷ []) in
    let i = h.fits by (Keeps mine came) at in
    let is_keeper : by ≡ h.keeper = i.0 in
    let was : get_elem? views other ≡ some (Stands t) = ⊎_elim
    (λ (p : (other ≡ by) × (w ≡ Stands t)). absurd (apart p.0))
    (λ (p : (other ≢ by) × (get_elem? views other ≡ some (Stands t))). p.1)
    (at_set views by other w (Stands t) there) in
    let theirs = h.fits other (Stands t) was in
    let none : times t.place (places h.back) ≡ 0 = dite (ℕ_discrete (times t.place (places h.back)) 0)
    (λ z. z)
    (λ n. absurd (theirs.2 (sym theirs.1 ∙ h.kept t.place (omega arith)))) in
    let more : List Placed = h.back ++ t ∷ [] in
    let holder : ℕ → ℕ = given h.holder t.place h.keeper in
    let F : ℕ → Knows → Type 0 = Fits h.keeper h.log more holder in
    record {
      keeper = h.keeper;
      log = h.log;
      back = more;
      holder = holder;
      fits = λ j v x. ⊎_elim
          (λ (p : (j ≡ other) × (spent ≡ v)). subst (F j) p.1 tt)
          (λ (p : (j ≢ other) × (get_elem? (set views by w) j ≡ some v)). ⊎_elim
          (λ (q : (j ≡ by) × (w ≡ v)). subst (F j) q.1 (q.0 ∙ is_keeper, i.1, ap (λ l. l ++ t ∷ []) i.2))
          (λ (q : (j ≢ by) × (get_elem? views j ≡ some v)). thirds_fit h.keeper h.log h.back more h.holder t.place other j v theirs.1 (λ z. q.0 (z ∙ sym is_keeper)) p.0 (h.fits j v q.1))
          (at_set views by j w v p.1))
          (at_set (set views by w) other j spent v x);
      apart = more_apart h.log h.back t h.apart none theirs.0;
      kept = keeper_has h.keeper h.back h.holder t h.kept;
    }

-- the keeper takes a receipt back
pub takes_back_as : (by : ℕ) (known : Knows) (other : ℕ) (theirs : Knows) (t : Placed) → IsKeeper known → theirs ≡ Stands t
    → Merges AreTickets by known other theirs (with_back known theirs) spent
takes_back_as by known other theirs t is has =
    subst (λ (u : Knows). Merges AreTickets by known other u (with_back known u) spent) (sym has)
    (subst (λ (v : Knows). Merges AreTickets by v other (Stands t) (with_back v (Stands t)) spent) (sym is)
    (takes_back by (log_of known) (back_of known) other t))

-- the keeper looks
looks : (by : ℕ) (mine : List Entry) (came : List Placed) → Learns AreTickets by (Keeps mine came) (KeepsApart (Keeps mine came))
looks by mine came items views h at =
    let i = h.fits by (Keeps mine came) at in
    subst (λ (l : List Entry). AreApart l came) (sym i.1) (subst (λ (b : List Placed). AreApart h.log b) (sym i.2) h.apart)

pub looks_as : (by : ℕ) (known : Knows) → IsKeeper known → Learns AreTickets by known (KeepsApart known)
looks_as by known is = subst (λ (v : Knows). Learns AreTickets by v (KeepsApart v)) (sym is) (looks by (log_of known) (back_of known))

-- What is put in and taken out keeps its order.
use Rattle.std.proofs.Common.{◌≡◌, ◌≢◌, ℕ, zero, suc, ◌<◌, List, [], ◌∷◌, ◌++◌, length, set, refl, sym, ap, ◌∙◌, subst, ⊎_elim, arith, None, MatchOption, Option, Some, MatchResult, OnErr, Result, Ok, Err, append_assoc, append-nil, length-append}
use lib.ListN.{get_elem?}
use mathlib.Core.Option.{some, some-injective, some-ne-none}
use Rattle.crossbeam_queue.proofs.Lists.{at_set, at_snoc}
use Rattle.crossbeam_queue.specs.Fifo.{Admits, Held, Learns, Pops, Pushes}
use Rattle.run_book.specs.Beginnings.{BeginsWith}
use Rattle.run_book.specs.Outbox.{Finds, FindsAsDrain, FoundEmpty, FoundFull, HasSeenPut, HasSeenTaken, IsInOrder, Known, Moment, newcomer}
use Rattle.run_book.specs.declared.parcel.Parcel.{Parcel}

length_of_set : (l : List Known) (i : ℕ) (a : Known) → length (set l i a) ≡ length l
length_of_set [] i a = refl
length_of_set (x ∷ xs) zero a = refl
length_of_set (x ∷ xs) (suc i) a = ap suc (length_of_set xs i a)

-- the first of some stays when one is added at the end
first_stays : (l : List Known) (a v : Known) → 0 < length l → get_elem? (l ++ a ∷ []) 0 ≡ some v → get_elem? l 0 ≡ some v
first_stays [] a v some_there e = absurd (omega arith)
first_stays (x ∷ xs) a v some_there e = e

-- a beginning stays one as more is put in
more_put : (put more seen : List Parcel) → BeginsWith put seen → BeginsWith (put ++ more) seen
more_put put more seen begins = (begins.0 ++ more, ap (λ l. l ++ more) begins.1 ∙ append_assoc seen begins.0 more)

-- the moment before anything
abbrev first_moment : Moment
first_moment = record { put = []; taken = []; held = []; order = refl }

pub in_order_at_first : IsInOrder [] (newcomer ∷ [])
in_order_at_first = record {
  moment = first_moment;
  holds = refl;
  there = omega arith;
  drain = λ v e. ap (λ (u : Known). u.taken) (sym (some-injective newcomer v e));
  seen = one;
}
  where
    one : (by : ℕ) (v : Known) → get_elem? (newcomer ∷ []) by ≡ some v → BeginsWith [] v.seen
    one zero v e = subst (λ (u : Known). BeginsWith [] u.seen) (some-injective newcomer v e) ([], refl)
    one (suc by) v e = absurd (some-ne-none v (sym e))

pub newcomers_come : Admits IsInOrder newcomer
newcomers_come held holders h = record {
  moment = h.moment;
  holds = h.holds;
  there = (let l = length-append holders (newcomer ∷ []) in let p = h.there in omega arith);
  drain = λ v e. h.drain v (first_stays holders newcomer v h.there e);
  seen = λ by v e. ⊎_elim
      (λ was. h.seen by v was)
      (λ (is : newcomer ≡ v). subst (λ (u : Known). BeginsWith h.moment.put u.seen) is (h.moment.put, refl))
      (at_snoc holders newcomer v by e);
}

-- the moment after one more is put in
abbrev put_in : Moment → Parcel → Moment
put_in m x = record {
  put = m.put ++ x ∷ [];
  taken = m.taken;
  held = m.held ++ x ∷ [];
  order = ap (λ l. l ++ x ∷ []) m.order ∙ append_assoc m.taken m.held (x ∷ []);
}

pub puts_keep_order : (n pass : ℕ) (v : Known) (x : Parcel) → Pushes IsInOrder n pass v x (HasSeenPut v x)
puts_keep_order n pass v x held holders room h at =
    let put : List Parcel = h.moment.put ++ x ∷ [] in
    let w : Known = record { seen = put; own = v.own ++ x ∷ []; taken = v.taken } in
    let mine = h.seen pass v at in (
      w,
      record {
        moment = put_in h.moment x;
        holds = ap (λ l. l ++ x ∷ []) h.holds;
        there = (let l = length_of_set holders pass w in let p = h.there in omega arith);
        drain = λ u e. ⊎_elim
            (λ (p : (0 ≡ pass) × (w ≡ u)). ap (λ (y : Known). y.taken) (sym p.1) ∙ h.drain v (subst (λ k. get_elem? holders k ≡ some v) (sym p.0) at))
            (λ (p : (0 ≢ pass) × (get_elem? holders 0 ≡ some u)). h.drain u p.1)
            (at_set holders pass 0 w u e);
        seen = λ by u e. ⊎_elim
            (λ (p : (by ≡ pass) × (w ≡ u)). subst (λ (y : Known). BeginsWith put y.seen) p.1 ([], sym (append-nil put)))
            (λ (p : (by ≢ pass) × (get_elem? holders by ≡ some u)). more_put h.moment.put (x ∷ []) u.seen (h.seen by u p.1))
            (at_set holders pass by w u e);
      },
      record { between = mine.0; seen = ap (λ l. l ++ x ∷ []) mine.1; own = refl; taken = refl },
    )

-- the moment after the first is taken out
abbrev taken_out : (m : Moment) (x : Parcel) (held : List Parcel) → m.held ≡ x ∷ held → Moment
taken_out m x held is = record {
  put = m.put;
  taken = m.taken ++ x ∷ [];
  held = held;
  order = m.order ∙ ap (λ l. m.taken ++ l) is ∙ sym (append_assoc m.taken (x ∷ []) held);
}

takes_of_first : (v : Known) → Pops IsInOrder 0 v (HasSeenTaken v)
takes_of_first v x held holders h at =
    let w : Known = record { seen = v.seen; own = v.own; taken = v.taken ++ x ∷ [] } in (
      w,
      record {
        moment = taken_out h.moment x held h.holds;
        holds = refl;
        there = (let l = length_of_set holders 0 w in let p = h.there in omega arith);
        drain = λ u e. ⊎_elim
            (λ (p : (0 ≡ 0) × (w ≡ u)). ap (λ (y : Known). y.taken) (sym p.1) ∙ ap (λ l. l ++ x ∷ []) (h.drain v at))
            (λ (p : (0 ≢ 0) × (get_elem? holders 0 ≡ some u)). absurd (p.0 refl))
            (at_set holders 0 0 w u e);
        seen = λ by u e. ⊎_elim
            (λ (p : (by ≡ 0) × (w ≡ u)). subst (λ (y : Known). BeginsWith h.moment.put y.seen) p.1 (h.seen 0 v at))
            (λ (p : (by ≢ 0) × (get_elem? holders by ≡ some u)). h.seen by u p.1)
            (at_set holders 0 by w u e);
      },
      refl,
    )

pub takes_keep_order : (pass : ℕ) (v : Known) → pass ≡ 0 → Pops IsInOrder pass v (HasSeenTaken v)
takes_keep_order pass v is = subst (λ k. Pops IsInOrder k v (HasSeenTaken v)) (sym is) (takes_of_first v)

pub passes_find : (pass : ℕ) (v : Known) → Learns IsInOrder pass v (Finds v)
passes_find pass v held holders h at = (h.moment, h.holds, h.seen pass v at)

drain_finds_first : (v : Known) → Learns IsInOrder 0 v (FindsAsDrain v)
drain_finds_first v held holders h at = (h.moment, h.holds, sym (h.drain v at))

pub drain_finds : (pass : ℕ) (v : Known) → pass ≡ 0 → Learns IsInOrder pass v (FindsAsDrain v)
drain_finds pass v is = subst (λ k. Learns IsInOrder k v (FindsAsDrain v)) (sym is) (drain_finds_first v)

-- ---- what a refused parcel and a missing one tell

it_was_full : (known : Known) (n : ℕ) → n ≡ 1024 → Held n (Finds known) → FoundFull known.seen
it_was_full known n is held = (held.2.0, ap length held.2.1 ∙ held.1 ∙ is, held.2.2)

-- the same where a parcel comes back
pub full_where_refused : {A : Type 0} (P : A → Type 0) (known new : Known) (parcel : Parcel) (n : ℕ) (result : Result A Parcel) → n ≡ 1024
    → MatchResult result P (λ x. (x ≡ parcel) × (new ≡ known) × Held n (Finds known)) → OnErr result (FoundFull known.seen)
full_where_refused P known new parcel n (Ok done) is told = tt
full_where_refused P known new parcel n (Err back) is told = it_was_full known n is told.2

nothing_held : (l : List Parcel) → length l ≡ 0 → l ≡ []
nothing_held [] e = refl
nothing_held (x ∷ xs) e = absurd (omega arith)

pub it_was_empty : (known new : Known) (result : Option Parcel) → MatchOption result ((new ≡ known) × Held 0 (FindsAsDrain known)) (λ x. HasSeenTaken known x new)
    → result ≡ None → FoundEmpty known.taken
it_was_empty known new None told is = (told.1.2.0, told.1.2.1 ∙ nothing_held told.1.0 told.1.1, told.1.2.2)
it_was_empty known new (Some x) told is = absurd cc

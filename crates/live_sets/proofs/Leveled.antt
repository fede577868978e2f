-- The levels with one more, and before anything is chosen.
use Rattle.std.proofs.Common.{◌≡◌, ℕ, ◌+◌, ◌*◌, ◌<◌, ◌≤◌, List, [], ◌∷◌, ◌++◌, length, take, get_or, set, zero, suc, not, ◌&&◌, refl, arith, sym, ap, ◌∙◌, inl, inr, subst, length-append}
use Rattle.std.proofs.lemmas.Bool.{cases_lt}
use Rattle.std.proofs.lemmas.List.{take-append-le, take_all, get_or-set_same, get_or-set_other, length-set}
use Rattle.cover_problem.specs.Problem.{Problem}
use Rattle.cover_problem.specs.Prefix.{clash}
use Rattle.option_sets.specs.Sets.{has, words_of}
use Rattle.live_sets.specs.declared.counts.Counts.{Counts}
use Rattle.live_sets.specs.declared.counts.Counts.TheVariants.{Keys, Planes, Halves}
use Rattle.live_sets.specs.declared.levels.Levels.{Levels}
use Rattle.live_sets.specs.declared.plane_counts.PlaneCounts.{PlaneCounts}
use Rattle.cover_problem.specs.Branching.{branch_item}
use Rattle.live_sets.specs.Counting.{item_of, IsLive, AreMarked}
use Rattle.live_sets.specs.Levels.{AreCounts, AreKeyCounts, AreLevels, IsLevel, level_at}
use Rattle.live_sets.specs.Planes.{ArePlanes, ArePlaneCounts}
use Rattle.live_sets.proofs.Layered.{level_end, level_length, level_low}
use Rattle.live_sets.proofs.Marked.{live_more}

same_level : (p : Problem) (prefix live now : List ℕ) (least is : ℕ) → now ≡ live → is ≡ least → IsLevel p prefix live least → IsLevel p prefix now is
same_level p prefix live now least is a d level =
    let A : List ℕ → Type 0 = λ l. IsLevel p prefix l least in
    let D : ℕ → Type 0 = λ n. IsLevel p prefix now n in
    subst D (sym d) (subst A (sym a) level)

-- with one more
pub levels_push : (p : Problem) (os : List ℕ) (o : ℕ) (old new : Levels) → AreLevels p os old
    → length new.live.items ≡ length old.live.items → length new.leasts.items ≡ length old.leasts.items
    → ((e : ℕ) → e ≤ length os → level_at (words_of p) e new.live.items ≡ level_at (words_of p) e old.live.items)
    → ((e : ℕ) → e ≤ length os → get_or new.leasts.items e 0 ≡ get_or old.leasts.items e 0)
    → IsLevel p (os ++ o ∷ []) (level_at (words_of p) (length os + 1) new.live.items) (get_or new.leasts.items (length os + 1) 0)
    → AreCounts p (os ++ o ∷ []) new.counts
    → AreLevels p (os ++ o ∷ []) new
levels_push p os o old new are live_long leasts_long live leasts last counts = record {
  words = live_long ∙ are.words;
  leasts = leasts_long ∙ are.leasts;
  each = λ e le.
      let L : List ℕ → Type 0 = λ xs. IsLevel p xs (level_at (words_of p) e new.live.items) (get_or new.leasts.items e 0) in
      elim (cases_lt (length os) e) [
        | inl past ↦
            let at : e ≡ length os + 1 = omega (arith, past, le, length-append os (o ∷ [])) in
            let E : ℕ → Type 0 = λ n. IsLevel p (os ++ o ∷ []) (level_at (words_of p) n new.live.items) (get_or new.leasts.items n 0) in
            subst L (sym (take_all e (os ++ o ∷ []) (omega (arith, at, length-append os (o ∷ []))))) (subst E (sym at) last)
        | inr inside ↦
            subst L (sym (take-append-le e os (o ∷ []) inside)) (same_level p (take e os) _ _ _ _ (live e inside) (leasts e inside) (are.each e inside))
      ];
  are_counts = counts;
}

-- what the last level is, before one more
pub level_here : (p : Problem) (os : List ℕ) (levels : Levels) → AreLevels p os levels → IsLive p os (level_at (words_of p) (length os) levels.live.items)
level_here p os levels are =
    let L : List ℕ → Type 0 = λ xs. IsLive p xs (level_at (words_of p) (length os) levels.live.items) in
    subst L (take_all (length os) os (omega arith)) (are.each (length os) (omega arith)).is_live

-- the live options with one more
pub level_next : (p : Problem) (os : List ℕ) (o : ℕ) (old : Levels) (live : List ℕ) → AreLevels p os old → length os < p.primary → length live ≡ length old.live.items
    → ((x : ℕ) → has (level_at (words_of p) (length os + 1) live) x ≡ (has (level_at (words_of p) (length os) old.live.items) x && not (clash p o x)))
    → IsLive p (os ++ o ∷ []) (level_at (words_of p) (length os + 1) live)
level_next p os o old live are room live_long next =
    let end : (length os + 1) * words_of p + words_of p ≤ length live = omega (arith, live_long, are.words, level_end (words_of p) (length os + 1), level_low (words_of p) (length os + 1 + 1) (p.primary + 1) (omega (arith, room))) in
    live_more p os o _ (level_at (words_of p) (length os + 1) live) (level_here p os old are) (level_length (words_of p) (length os + 1) live end) next

-- the same for the state
pub levels_pushed : (p : Problem) (os : List ℕ) (o : ℕ) (old new : Levels) (live : List ℕ) (least : ℕ) → AreLevels p os old → length os < p.primary
    → new.live.items ≡ live → new.leasts.items ≡ set old.leasts.items (length os + 1) least
    → length live ≡ length old.live.items
    → ((e : ℕ) → e ≤ length os → level_at (words_of p) e live ≡ level_at (words_of p) e old.live.items)
    → IsLive p (os ++ o ∷ []) (level_at (words_of p) (length os + 1) live)
    → branch_item p (os ++ o ∷ []) ≡ item_of least
    → AreCounts p (os ++ o ∷ []) new.counts
    → AreLevels p (os ++ o ∷ []) new
levels_pushed p os o old new live least are room live_is leasts_is live_long live_kept now branch counts =
    let inside : length os + 1 < length old.leasts.items = omega (arith, room, are.leasts) in
    let at : get_or new.leasts.items (length os + 1) 0 ≡ least = ap (λ (ls : List ℕ). get_or ls (length os + 1) 0) leasts_is ∙ get_or-set_same old.leasts.items (length os + 1) least 0 inside in
    levels_push p os o old new are (ap length live_is ∙ live_long) (ap length leasts_is ∙ length-set old.leasts.items (length os + 1) least)
    (λ e le. ap (level_at (words_of p) e) live_is ∙ live_kept e le)
    (λ e le. ap (λ (ls : List ℕ). get_or ls e 0) leasts_is ∙ get_or-set_other old.leasts.items (length os + 1) e least 0 (λ h. omega (arith, h, le)))
    (same_level p (os ++ o ∷ []) _ _ _ _ (ap (level_at (words_of p) (length os + 1)) live_is) at (record { is_live = now; branch = branch }))
    counts

-- before anything is chosen
pub levels_none : (p : Problem) (levels : Levels) → length levels.live.items ≡ (p.primary + 1) * words_of p → length levels.leasts.items ≡ p.primary + 1
    → IsLive p [] (level_at (words_of p) 0 levels.live.items) → branch_item p [] ≡ item_of (get_or levels.leasts.items 0 0) → AreCounts p [] levels.counts → AreLevels p [] levels
levels_none p levels live_long leasts_long live branch counts = record {
  words = live_long;
  leasts = leasts_long;
  each = λ e le.
      let none : e ≡ 0 = omega (arith, le) in
      let E : ℕ → Type 0 = λ n. IsLevel p (take n []) (level_at (words_of p) n levels.live.items) (get_or levels.leasts.items n 0) in
      subst E (sym none) (record { is_live = live; branch = branch });
  are_counts = counts;
}

-- the keys of the levels with one more
pub keys_push : (p : Problem) (os : List ℕ) (o : ℕ) (old new : List ℕ) → AreKeyCounts p os old → length new ≡ length old
    → ((e : ℕ) → e ≤ length os → level_at p.primary e new ≡ level_at p.primary e old)
    → AreMarked p (os ++ o ∷ []) (level_at p.primary (length os + 1) new)
    → AreKeyCounts p (os ++ o ∷ []) new
keys_push p os o old new are long kept last = record {
  long = long ∙ are.long;
  each = λ e le.
      let L : List ℕ → Type 0 = λ xs. AreMarked p xs (level_at p.primary e new) in
      elim (cases_lt (length os) e) [
        | inl past ↦
            let at : e ≡ length os + 1 = omega (arith, past, le, length-append os (o ∷ [])) in
            let E : ℕ → Type 0 = λ n. AreMarked p (os ++ o ∷ []) (level_at p.primary n new) in
            subst L (sym (take_all e (os ++ o ∷ []) (omega (arith, at, length-append os (o ∷ []))))) (subst E (sym at) last)
        | inr inside ↦
            let K : List ℕ → Type 0 = λ ks. AreMarked p (take e os) ks in
            subst L (sym (take-append-le e os (o ∷ []) inside)) (subst K (sym (kept e inside)) (are.each e inside))
      ];
}

-- and before one more
pub keys_here : (p : Problem) (os keys : List ℕ) → AreKeyCounts p os keys → AreMarked p os (level_at p.primary (length os) keys)
keys_here p os keys are =
    let L : List ℕ → Type 0 = λ xs. AreMarked p xs (level_at p.primary (length os) keys) in
    subst L (take_all (length os) os (omega arith)) (are.each (length os) (omega arith))

-- of fewer options
pub keys_front : (p : Problem) (os : List ℕ) (o : ℕ) (keys : List ℕ) → AreKeyCounts p (os ++ o ∷ []) keys → AreKeyCounts p os keys
keys_front p os o keys are = record {
  long = are.long;
  each = λ e le.
      let P : List ℕ → Type 0 = λ xs. AreMarked p xs (level_at p.primary e keys) in
      subst P (take-append-le e os (o ∷ []) le) (are.each e (omega (arith, le, length-append os (o ∷ []))));
}

pub planes_front : (p : Problem) (os : List ℕ) (o : ℕ) (counts : PlaneCounts) → ArePlaneCounts p (os ++ o ∷ []) counts → ArePlaneCounts p os counts
planes_front p os o counts are = record {
  masks = are.masks;
  long = are.long;
  each = λ e le planes at.
      let P : List ℕ → Type 0 = λ xs. ArePlanes p xs counts.first planes in
      subst P (take-append-le e os (o ∷ []) le) (are.each e (omega (arith, le, length-append os (o ∷ []))) planes at);
}

pub counts_front : (p : Problem) (os : List ℕ) (o : ℕ) (counts : Counts) → AreCounts p (os ++ o ∷ []) counts → AreCounts p os counts
counts_front p os o (Keys keys) are = keys_front p os o keys.items are
counts_front p os o (Planes planes) are = (are.0, are.1, planes_front p os o planes are.2)
counts_front p os o (Halves low high) are = (are.0, are.1, are.2, planes_front p os o low are.3, planes_front p os o high are.4)

-- the first ones of numbers that are all zero
pub first_zeros : (xs front : List ℕ) (n : ℕ) → front ≡ take n xs → ((i : ℕ) → get_or xs i 0 ≡ 0) → (i : ℕ) → get_or front i 0 ≡ 0
first_zeros xs front n is zeros i = ap (λ (ys : List ℕ). get_or ys i 0) is ∙ go n xs i zeros
  where
    go : (n : ℕ) (xs : List ℕ) (i : ℕ) → ((i : ℕ) → get_or xs i 0 ≡ 0) → get_or (take n xs) i 0 ≡ 0
    go zero xs i zeros = refl
    go (suc n) [] i zeros = refl
    go (suc n) (x ∷ xs) zero zeros = zeros 0
    go (suc n) (x ∷ xs) (suc i) zeros = go n xs i (λ k. zeros (suc k))

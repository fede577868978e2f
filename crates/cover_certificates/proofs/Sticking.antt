-- Items that can't be covered: by cases, within others, and what follows for exact covers.
use Rattle.std.proofs.Common.{◌≡◌, ℕ, ◌<◌, Bool, true, false, ◌&&◌, length, sym, ap, ◌∙◌, arith}
use Rattle.std.proofs.lemmas.Bool.{and_parts, and_from, true≢false, not_from_false}
use Rattle.cover_problem.specs.ExactCover.{IsExactCover, uses}
use Rattle.cover_problem.specs.Prefix.{clash}
use Rattle.cover_problem.specs.Problem.{Problem, IsProblem, names_item, option_numbers}
use Rattle.cover_problem.proofs.Apart.{chosen_apart}
use Rattle.cover_problem.proofs.Sets.{count_some}
use Rattle.cover_certificates.specs.Refutations.{Refutes, by_cases, by_reason, within, live_behind}
use Rattle.cover_certificates.specs.Stuck.{IsCoverOf, AreStuck}
use Rattle.cover_certificates.proofs.Adding.{reason_stuck}

-- an option of the set that names an item once
namer : (p : Problem) (chosen : ℕ → Bool) (item : ℕ) → uses p chosen item ≡ 1 → (o : ℕ) × (chosen o ≡ true) × (names_item p o item ≡ true)
namer p chosen item one =
    let w = count_some (λ o. chosen o && names_item p o item) (option_numbers p) (omega (arith, one)) in
    let both = and_parts (chosen w.0) (names_item p w.0 item) w.2 in
    (w.0, both.0, both.1)

-- Once an option is chosen too, some of the items that it doesn't name can't be covered.
pub record AreStuckBehind (p : Problem) (items live : ℕ → Bool) (option : ℕ) : Type 0 where
  pub below : ℕ → Bool
  pub inside : (item : ℕ) → below item ≡ true → items item ≡ true
  pub off : (item : ℕ) → below item ≡ true → names_item p option item ≡ false
  pub stuck : AreStuck p below (live_behind p live option)

-- what covers the items covers fewer of them behind one of its options that names none of these
behind : (p : Problem) (items live below : ℕ → Bool) (o : ℕ) (chosen : ℕ → Bool) → IsCoverOf p items live chosen → chosen o ≡ true
    → ((i : ℕ) → below i ≡ true → items i ≡ true) → ((i : ℕ) → below i ≡ true → names_item p o i ≡ false) → IsCoverOf p below (live_behind p live o) chosen
behind p items live below o chosen at co inside off = record {
  in_range = at.in_range;
  apart = at.apart;
  once = λ i on. at.once i (inside i on);
  live_ones = λ i q on cq named.
      let other : clash p o q ≡ false = at.apart o q co cq (λ same. true≢false (sym named ∙ ap (λ x. names_item p x i) (sym same) ∙ off i on)) in
      and_from _ _ (at.live_ones i q (inside i on) cq named) (not_from_false _ other);
}

pub stuck_by_cases : (p : Problem) (items live : ℕ → Bool) (item : ℕ) → items item ≡ true
    → ((o : ℕ) → o < length p.options → live o ≡ true → names_item p o item ≡ true → AreStuckBehind p items live o) → AreStuck p items live
stuck_by_cases p items live item on each = λ chosen at.
    let w = namer p chosen item (at.once item on) in
    let rest = each w.0 (at.in_range w.0 w.1) (at.live_ones item w.0 on w.1 w.2) w.2 in
    rest.stuck chosen (behind p items live rest.below w.0 chosen at w.1 rest.inside rest.off)

pub stuck_within : (p : Problem) (items live fewer more : ℕ → Bool) → ((i : ℕ) → fewer i ≡ true → items i ≡ true)
    → ((i o : ℕ) → fewer i ≡ true → names_item p o i ≡ true → live o ≡ true → more o ≡ true)
    → AreStuck p fewer more → AreStuck p items live
stuck_within p items live fewer more less wider stuck = λ chosen at. stuck chosen (record {
  in_range = at.in_range;
  apart = at.apart;
  once = λ i on. at.once i (less i on);
  live_ones = λ i o on co named. wider i o on named (at.live_ones i o (less i on) co named);
})

pub sound : (p : Problem) (items live : ℕ → Bool) → IsProblem p → Refutes p items live → AreStuck p items live
sound p _ _ lawful (by_cases items live item below on inside off each) =
    stuck_by_cases p items live item on (λ o low lives named. record { below = below o; inside = inside o; off = off o; stuck = sound p (below o) (live_behind p live o) lawful (each o low lives named) })
sound p _ _ lawful (within items live fewer more less wider refuted) = stuck_within p items live fewer more less wider (sound p fewer more lawful refuted)
sound p _ _ lawful (by_reason items live reason holds) = reason_stuck p items live reason lawful holds

pub stuck_no_cover : (p : Problem) (items live chosen : ℕ → Bool) → ((i : ℕ) → items i ≡ true → i < p.primary) → ((o : ℕ) → o < length p.options → live o ≡ true)
    → AreStuck p items live → IsExactCover p chosen → ⊥
stuck_no_cover p items live chosen primary all stuck cover = stuck chosen (record {
  in_range = cover.in_range;
  apart = λ o q co cq ne. chosen_apart p chosen cover o q co cq ne;
  once = λ i on. cover.primary i (primary i on);
  live_ones = λ i o on co named. all o (cover.in_range o co);
})

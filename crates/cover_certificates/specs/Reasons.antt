-- Reasons why items can't be covered by live options: weights, or too little room, of a case in place of a whole problem.
use Rattle.std.specs.Prelude.{◌≡◌, ℕ, ◌<◌, ◌≤◌, length, Bool, true, false}
use Rattle.std.specs.List.{sum}
use Rattle.cover_problem.specs.Problem.{Problem}
use Rattle.cover_reasons.specs.Room.{Room, amount_of, option_amount, is_plain}
use Rattle.cover_reasons.specs.Weights.{Weights, weight_of, option_weight, whole_weight, is_zero}
use Rattle.cover_reasons.specs.declared.reason.Reason.{Reason}
use Rattle.cover_reasons.specs.declared.reason.Reason.TheVariants as reasons

-- Each live option weighs 0 modulo the modulus, all weights together don't, and no other items have weights.
pub record AreUnbalanced (problem : Problem) (items live : ℕ → Bool) (weights : Weights) : Type 0 where
  pub few : length weights.list ≤ problem.primary
  pub inside : (i : ℕ) → items i ≡ false → weight_of weights i ≡ 0
  pub light : (o : ℕ) → o < length problem.options → live o ≡ true → is_zero weights (option_weight problem weights o) ≡ true
  pub whole : is_zero weights (whole_weight weights) ≡ false

-- Each live option needs no more than it has room for, all needs together are more than all rooms, and no other items need anything. No option
-- gives a colour to an item that has room.
pub record IsTooLittle (problem : Problem) (items live : ℕ → Bool) (room : Room) : Type 0 where
  pub few_needs : length room.needs ≤ problem.primary
  pub few_rooms : length room.rooms ≤ length problem.names
  pub inside : (i : ℕ) → items i ≡ false → amount_of room.needs i ≡ 0
  pub plain : (o : ℕ) → o < length problem.options → is_plain problem room.rooms o ≡ true
  pub fitting : (o : ℕ) → o < length problem.options → live o ≡ true → option_amount problem room.needs o ≤ option_amount problem room.rooms o
  pub more : sum room.rooms < sum room.needs

-- the reason holds of items and live options
abbrev pub HoldsOf : Problem → (ℕ → Bool) → (ℕ → Bool) → Reason → Type 0
HoldsOf problem items live (reasons.Weighed weights) = AreUnbalanced problem items live weights
HoldsOf problem items live (reasons.TooLittleRoom room) = IsTooLittle problem items live room

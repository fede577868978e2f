-- What holds of each frame.
use Rattle.std.specs.Prelude.{◌≡◌, ◌≢◌, ℕ, Bool, true, Some, slice_get, count_by}
use Rattle.cover_problem.specs.ExactCover.{IsExactCover}
use Rattle.cover_problem.specs.Prefix.{extends}
use Rattle.cover_problem.specs.Problem.{Problem}
use Rattle.cover_world.specs.Worlds.{World}
use Rattle.node_core.specs.SiteView.{View, unit_in}
use Rattle.spawn_frame.specs.Frames.{frame}
use Rattle.spawn_frame.specs.Units.{Entry}
use Rattle.spawn_frame.specs.declared.child_result.ChildResult.TheVariants.{Empty}
use Rattle.spawn_frame.specs.declared.status.Status.TheVariants.{Aborted, Done, Split}
use Rattle.spawn_frame.specs.declared.unit.Unit.{Unit as WorkUnit}

-- an own child with this serial is a child of the unit
pub record IsChild (view : View) (unit : WorkUnit) (entry : Entry) : Type 0 where
  pub serial : ℕ
  pub is : slice_get view.own serial ≡ Some entry
  pub parent : entry.parent ≡ Some unit

-- Each exact cover that extends the unit's prefix extends the prefix of exactly one of its children, and that one may still give it.
pub record IsCovered (problem : Problem) (view : View) (unit : WorkUnit) (entry : Entry) : Type 0 where
  pub one : (chosen : ℕ → Bool) → IsExactCover problem chosen → extends chosen entry.prefix ≡ true
      → count_by (λ c. extends chosen c.prefix) (frame unit view.own) ≡ 1
  pub going : (chosen : ℕ → Bool) (c : Entry) → IsExactCover problem chosen → IsChild view unit c → extends chosen c.prefix ≡ true
      → (c.status ≢ Done Empty) × (c.status ≢ Aborted)

-- of every frame in the world
abbrev pub AllCovered : Problem → World → Type 0
AllCovered problem world =
    (node : ℕ) (view : View) (unit : WorkUnit) (entry : Entry) → slice_get world.sites node ≡ Some view → unit_in view unit ≡ Some entry → entry.status ≡ Split
    → IsCovered problem view unit entry

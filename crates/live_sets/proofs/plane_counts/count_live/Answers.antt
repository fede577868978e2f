use Rattle.std.proofs.Common.{ℕ, ◌+◌, ◌*◌, ◌<◌, get_or, arith, inl, inr}
use Rattle.std.proofs.lemmas.Bool.{cases_lt}
use Rattle.live_sets.proofs.Gone.{named_off}
use Rattle.live_sets.proofs.Staying.{from_first, from_last, from_next, set_bit}
use Rattle.live_sets.proofs.plane_counts.count_live.Goals as goal

pub loop-place-init : goal.loop-place-init
loop-place-init c = record {
  uncovered = c.full-planes.ensures.uncovered;
  part = λ i low primary. omega (arith, c.full-planes.ensures.part c.args.digits i low, from_first c.args.sets.now c.args.masks.now c.args.live.now c.args.first i);
  counts = λ i low primary. omega (arith, c.full-planes.ensures.counts i low, from_first c.args.sets.now c.args.masks.now c.args.live.now c.args.first i);
}

pub take_word-requires-clause-inside : goal.take_word-requires-clause-inside
take_word-requires-clause-inside c k inside here =
    omega (arith, c.requires.inside (c.loop-place.place * 64 + k) (set_bit c.args.live.now c.loop-place.place k inside here), c.requires.masks.long)

pub take_word-requires-clause-enough : goal.take_word-requires-clause-enough
take_word-requires-clause-enough c i low = elim (cases_lt (c.args.first + i) c.args.sets.now.primary) [
  | inl primary ↦
      let next = from_next c.args.sets.now c.args.masks.now c.args.live.now c.args.first i c.requires.masks c.requires.inside primary low c.loop-place.place (omega (arith, c.loop-place-test.true)) in
      omega (arith, next, c.loop-place.invariant.part i low primary, c.requires.few i low primary)
  | inr high ↦
      omega (arith, named_off c.args.sets.now c.args.masks.now c.args.first c.loop-place.place (get_or c.args.live.now c.loop-place.place 0) i c.requires.masks high low)
]

pub loop-place-preserved : goal.loop-place-preserved
loop-place-preserved c =
    let next : (i : ℕ) → i < 64 → c.args.first + i < c.args.sets.now.primary → _ = λ i low primary.
    from_next c.args.sets.now c.args.masks.now c.args.live.now c.args.first i c.requires.masks c.requires.inside primary low c.loop-place.place (omega (arith, c.loop-place-test.true)) in
    record {
      uncovered = omega (arith, c.take_word.ensures.uncovered, c.loop-place.invariant.uncovered);
      part = λ i low primary. omega (arith, next i low primary, c.loop-place.invariant.part i low primary, c.take_word.ensures.part i low);
      counts = λ i low primary. omega (arith, next i low primary, c.loop-place.invariant.counts i low primary, c.take_word.ensures.counts i low);
    }

pub returns-clause-uncovered : goal.returns-clause-uncovered
returns-clause-uncovered c = omega (arith, c.complement.ensures.uncovered, c.loop-place.invariant.uncovered)

pub returns-clause-counted : goal.returns-clause-counted
returns-clause-counted c i low primary =
    let last = from_last c.args.sets.now c.args.masks.now c.args.live.now c.args.first i c.loop-place.place (omega (arith, c.loop-place-test.false)) in
    omega (arith, last, c.loop-place.invariant.counts i low primary, c.complement.ensures.counts i low)

use Rattle.std.proofs.Common.{◌≡◌, ℕ, ◌+◌, ◌^◌, ◌<◌, ◌∷◌, ◌++◌, [], length, get_or, bit_and, refl, arith, rules, inl, inr, ap, ◌∙◌, sym, w64}
use Rattle.std.specs.Int.{bit_not}
use Rattle.std.proofs.lemmas.Bool.{cases_lt}
use Rattle.item_planes.proofs.Binary.{part_all}
use Rattle.live_sets.proofs.Gone.{counted_all, counted_more, counted_none, counted_to, gone_inside, live_part, named_live, named_off}
use Rattle.live_sets.proofs.plane_counts.take_gone.Goals as goal

pub loop-place-init : goal.loop-place-init
loop-place-init c =
    let p = c.args.sets.now in
    record {
      uncovered = refl;
      few = c.requires.digits;
      counts = λ i low primary.
          c.requires.planes.counted i low primary ∙ named_live p c.args.step.chosen.now c.args.step.before.now (c.args.first + i) c.requires.step.before
          ∙ sym (counted_none p c.args.masks.now c.args.step.before.now c.args.step.live.now c.args.first i (c.requires.step.before.words ∙ sym c.requires.step.live.words));
    }

pub take_word-requires-clause-inside : goal.take_word-requires-clause-inside
take_word-requires-clause-inside c k inside here =
    gone_inside c.args.sets.now c.args.step.chosen.now c.args.masks.now c.args.step.before.now c.args.step.live.now c.args.first c.loop-place.place k c.requires.step.before c.requires.masks inside here

pub take_word-requires-clause-enough : goal.take_word-requires-clause-enough
take_word-requires-clause-enough c i low = elim (cases_lt (c.args.first + i) c.args.sets.now.primary) [
  | inl primary ↦
      let fits : get_or c.args.step.live.now c.loop-place.place 0 < 2 ^ 64 = search rules in
      let more = counted_more c.args.sets.now c.args.masks.now c.args.step.before.now c.args.step.live.now c.args.first i c.args.step.chosen.now c.requires.step.before
      (live_part c.args.sets.now c.args.step.chosen.now c.args.step.option c.args.step.before.now c.args.step.live.now c.requires.step.before c.requires.step.live) c.requires.masks primary low c.loop-place.place (omega (arith, c.loop-place-test.true)) fits in
      omega (arith, more, c.loop-place.invariant.counts i low primary, part_all c.args.digits c.loop-place.planes i (c.loop-place.invariant.few i low))
  | inr high ↦
      let gone : ℕ = bit_and (get_or c.args.step.before.now c.loop-place.place 0) (bit_not w64 (get_or c.args.step.live.now c.loop-place.place 0)) in
      omega (arith, named_off c.args.sets.now c.args.masks.now c.args.first c.loop-place.place gone i c.requires.masks high low)
]

pub loop-place-preserved : goal.loop-place-preserved
loop-place-preserved c = record {
  uncovered = c.take_word.ensures.uncovered ∙ c.loop-place.invariant.uncovered;
  few = λ i low. omega (arith, c.take_word.ensures.counts i low, c.loop-place.invariant.few i low);
  counts = λ i low primary.
      let fits : get_or c.args.step.live.now c.loop-place.place 0 < 2 ^ 64 = search rules in
      let more = counted_more c.args.sets.now c.args.masks.now c.args.step.before.now c.args.step.live.now c.args.first i c.args.step.chosen.now c.requires.step.before
      (live_part c.args.sets.now c.args.step.chosen.now c.args.step.option c.args.step.before.now c.args.step.live.now c.requires.step.before c.requires.step.live) c.requires.masks primary low c.loop-place.place (omega (arith, c.loop-place-test.true)) fits in
      omega (arith, more, c.loop-place.invariant.counts i low primary, c.take_word.ensures.counts i low);
}

pub returns-clause-counted : goal.returns-clause-counted
returns-clause-counted c i low primary =
    let p = c.args.sets.now in
    let end : c.loop-place.place ≡ length c.args.step.live.now = omega (arith, c.loop-place-test.false, c.loop-place.auto.place-end) in
    c.loop-place.invariant.counts i low primary ∙ ap (counted_to p c.args.masks.now c.args.step.before.now c.args.step.live.now c.args.first i) end
    ∙ counted_all p c.args.masks.now c.args.step.before.now c.args.step.live.now c.args.first i
    ∙ sym (named_live p (c.args.step.chosen.now ++ c.args.step.option ∷ []) c.args.step.live.now (c.args.first + i) c.requires.step.live)

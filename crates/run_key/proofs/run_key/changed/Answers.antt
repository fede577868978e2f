use Rattle.std.proofs.Common.{◌≡◌, ℕ, ◌+◌, ◌<◌, ◌≤◌, ◌++◌, ◌∷◌, [], length, take, map, arith, bit_xor, slice_index_or, slice_set, ap, sym, ◌∙◌, length-set}
use Rattle.std.proofs.lemmas.List.{take_more_set, map_more, take_all}
use Rattle.run_key.specs.Codes.{padded}
use Rattle.run_key.proofs.run_key.changed.Goals as goal

pub loop-place-preserved : goal.loop-place-preserved
loop-place-preserved c =
    let key = c.args.key.now in
    let place = c.loop-place.place in
    let changed = c.loop-place.changed in
    let change : ℕ → ℕ = λ byte. bit_xor byte c.args.by in
    let byte = bit_xor (slice_index_or key place 0) c.args.by in
    let i = c.loop-place.invariant in
    let within : place < length changed = omega (arith, i.many, c.loop-place-test.true) in
    let inside : place < length key = omega (arith, c.told-key, c.loop-place-test.true) in
    record {
      many = length-set changed place byte ∙ i.many;
      so_far = take_more_set changed place byte within ∙ ap (λ front. front ++ byte ∷ []) i.so_far ∙ sym (map_more change key place 0 inside);
    }

pub returns : goal.returns
returns c =
    let i = c.loop-place.invariant in
    let place = c.loop-place.place in
    let all : take place c.loop-place.changed ≡ c.loop-place.changed = take_all place c.loop-place.changed (omega (arith, i.many, c.loop-place-test.false)) in
    let whole : take place c.args.key.now ≡ c.args.key.now = take_all place c.args.key.now (omega (arith, c.told-key, c.loop-place-test.false)) in
    sym all ∙ i.so_far ∙ ap (padded c.args.by) whole

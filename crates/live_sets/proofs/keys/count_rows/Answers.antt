use Rattle.std.proofs.Common.{◌≡◌, ℕ, ◌+◌, ◌*◌, length, arith, subst}
use Rattle.cover_problem.specs.Branching.{live_options}
use Rattle.live_sets.proofs.Counted.{count_few, count_live}
use Rattle.live_sets.proofs.Keying.{AreCounted, covered_counted, open_counted, branch_without_options, keys_are}
use Rattle.live_sets.proofs.keys.count_rows.Goals as goal

pub loop-item-preserved-then-keys-item-ge-COVERED :
    goal.loop-item-preserved-then-keys-item-ge-COVERED
loop-item-preserved-then-keys-item-ge-COVERED c prefix live marked =
    covered_counted c.args.sets.now prefix c.loop-item.keys c.loop-item.item c.loop-item.least (c.loop-item.invariant prefix live marked) (omega (arith, c.requires.keys)) c.if-keys-item-ge-COVERED.true

pub overflow_mul-key : goal.overflow_mul-key
overflow_mul-key c = omega (arith, c.count_row.ensures, count_few c.row.result.now c.args.live.now, c.requires.live, c.requires.lawful.options)

pub overflow_add-key : goal.overflow_add-key
overflow_add-key c = omega (arith, c.count_row.ensures, count_few c.row.result.now c.args.live.now, c.requires.live, c.requires.lawful.options, c.requires.keys, c.requires.lawful.primary, c.requires.lawful.names)

pub returns-then-key-lt-ONE_OPTION : goal.returns-then-key-lt-ONE_OPTION
returns-then-key-lt-ONE_OPTION c prefix live marked =
    let key : ℕ = c.count_row.result * 65536 + c.loop-item.item in
    let few = count_few c.row.result.now c.args.live.now in
    let own : c.count_row.result * 65536 + c.loop-item.item ≡ c.loop-item.item + 65536 * length (live_options c.args.sets.now prefix c.loop-item.item) =
    omega (arith, c.count_row.ensures, count_live c.args.sets.now prefix c.args.live.now c.loop-item.item c.row.result.now live c.row.ensures) in
    branch_without_options c.args.sets.now prefix c.loop-item.keys c.loop-item.item c.loop-item.least (c.loop-item.invariant prefix live marked) (omega (arith, c.requires.keys))
    key (omega (arith, c.if-keys-item-ge-COVERED.false)) own (omega (arith, c.if-key-lt-ONE_OPTION.true)) c.if-key-lt-ONE_OPTION.true (omega (arith, c.requires.keys, c.requires.lawful.primary, c.requires.lawful.names))

pub loop-item-preserved : goal.loop-item-preserved
loop-item-preserved c prefix live marked =
    let key : ℕ = c.count_row.result * 65536 + c.loop-item.item in
    let few = count_few c.row.result.now c.args.live.now in
    let own : c.count_row.result * 65536 + c.loop-item.item ≡ c.loop-item.item + 65536 * length (live_options c.args.sets.now prefix c.loop-item.item) =
    omega (arith, c.count_row.ensures, count_live c.args.sets.now prefix c.args.live.now c.loop-item.item c.row.result.now live c.row.ensures) in
    open_counted c.args.sets.now prefix c.loop-item.keys c.loop-item.item c.loop-item.least (c.loop-item.invariant prefix live marked) (omega (arith, c.requires.keys))
    key (omega (arith, c.if-keys-item-ge-COVERED.false)) own (omega (arith, c.count_row.ensures, few, c.requires.live, c.requires.lawful.options, c.requires.keys, c.requires.lawful.primary, c.requires.lawful.names))
    c.lesser-least.result (omega (arith, c.if-key-lt-ONE_OPTION.false)) c.lesser-least.ensures

pub returns : goal.returns
returns c prefix live marked =
    let p = c.args.sets.now in
    let all : c.loop-item.item ≡ p.primary = omega (arith, c.requires.keys, c.loop-item.auto.item-end) in
    let P : ℕ → Type 0 = λ n. AreCounted p prefix c.loop-item.keys n c.loop-item.least in
    keys_are p prefix c.loop-item.keys c.loop-item.least (omega (arith, c.requires.lawful.primary, c.requires.lawful.names)) (subst P all (c.loop-item.invariant prefix live marked))

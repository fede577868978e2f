use Rattle.std.proofs.Common.{ℕ, ◌+◌, ◌-◌, ◌*◌, ◌≤◌, length, take, drop, arith, rules, subst, sym, ◌∙◌}
use Rattle.cover_problem.specs.Problem.{IsProblem}
use Rattle.option_sets.specs.Sets.{has}
use Rattle.option_sets.proofs.Keeping.{set_inside, sets_few, all_read, kept_at, left_by}
use Rattle.option_sets.proofs.sets.OptionSets.spare.Goals as goal

pub overflow_mul-start : goal.overflow_mul-start
overflow_mul-start c =
    omega (
      arith,
      set_inside c.args.self.now (length c.args.next.now) c.args.option c.requires.next c.requires.option,
      sets_few c.args.self.now (subst IsProblem c.self.view_is c.self.invariant.lawful),
    )

pub slice_bounds-meet-end : goal.slice_bounds-meet-end
slice_bounds-meet-end c =
    let all = all_read c.self.inside.tables c.args.self.now c.self.inside.kept.items c.deref-kept.result.now (c.args.option * length c.args.next.now) c.self.view_is c.self.invariant.kept_are c.deref-kept.ensures.value c.if-start-kept.true in
    let fits : c.args.option * length c.args.next.now + length c.args.next.now ≤ length c.deref-kept.result.now =
    omega (arith, set_inside c.args.self.now (length c.args.next.now) c.args.option c.requires.next c.requires.option, all.long) in
    search rules

pub meet-requires-clause-second : goal.meet-requires-clause-second
meet-requires-clause-second c =
    let w : ℕ = length c.args.next.now in
    let start : ℕ = c.args.option * length c.args.next.now in
    let all = all_read c.self.inside.tables c.args.self.now c.self.inside.kept.items c.deref-kept.result.now start c.self.view_is c.self.invariant.kept_are c.deref-kept.ensures.value c.if-start-kept.true in
    (kept_at c.args.self.now w c.args.option (start + w - start) c.deref-kept.result.now c.requires.next c.requires.option all (omega arith)).long ∙ sym c.requires.next

pub returns-then-start-kept : goal.returns-then-start-kept
returns-then-start-kept c x =
    let w : ℕ = length c.args.next.now in
    let start : ℕ = c.args.option * length c.args.next.now in
    let all = all_read c.self.inside.tables c.args.self.now c.self.inside.kept.items c.deref-kept.result.now start c.self.view_is c.self.invariant.kept_are c.deref-kept.ensures.value c.if-start-kept.true in
    left_by c.args.self.now c.args.option c.args.live.now (take (start + w - start) (drop start c.deref-kept.result.now)) (has c.meet.new.set x) x c.requires.live
    (kept_at c.args.self.now w c.args.option (start + w - start) c.deref-kept.result.now c.requires.next c.requires.option all (omega arith)) (c.meet.ensures x)

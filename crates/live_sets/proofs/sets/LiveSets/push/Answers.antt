use Rattle.std.proofs.Common.{ℕ, List, [], ◌∷◌, ◌++◌, length, arith, ap, subst, sym}
use Rattle.live_sets.specs.Levels.{AreLevels}
use Rattle.live_sets.proofs.Choosing.{pushed, room_for, seen_push}
use Rattle.live_sets.proofs.sets.LiveSets.push.Goals as goal

pub push-requires-clause-levels : goal.push-requires-clause-levels
push-requires-clause-levels c =
    let s = c.self.inside in
    let P : List ℕ → Type 0 = λ os. AreLevels s.sets.now os s.levels in
    subst P (sym c.deref.ensures.value) c.self.invariant.0.are_levels

pub push-requires-clause-room : goal.push-requires-clause-room
push-requires-clause-room c =
    let s = c.self.inside in
    let room = room_for s.sets.now s.chosen.items c.args.option s.marks.items s.levels c.args.self.now c.self.view_is c.self.invariant.0 c.requires.option c.requires.live in
    omega (arith, room.0, ap length c.deref.ensures.value)

pub push-requires-clause-option : goal.push-requires-clause-option
push-requires-clause-option c =
    let s = c.self.inside in
    (room_for s.sets.now s.chosen.items c.args.option s.marks.items s.levels c.args.self.now c.self.view_is c.self.invariant.0 c.requires.option c.requires.live).2

pub push_reserved-requires : goal.push_reserved-requires
push_reserved-requires c =
    let s = c.self.inside in
    let room = room_for s.sets.now s.chosen.items c.args.option s.marks.items s.levels c.args.self.now c.self.view_is c.self.invariant.0 c.requires.option c.requires.live in
    omega (arith, room.1, c.self.invariant.1, s.marks.ok.0)

pub push_reserved-requires-2 : goal.push_reserved-requires-2
push_reserved-requires-2 c =
    let s = c.self.inside in
    let room = room_for s.sets.now s.chosen.items c.args.option s.marks.items s.levels c.args.self.now c.self.view_is c.self.invariant.0 c.requires.option c.requires.live in
    omega (arith, room.0, c.self.invariant.2, s.chosen.ok.0)

pub invariant_of-self : goal.invariant_of-self
invariant_of-self c =
    let s = c.self.inside in
    let P : List ℕ → Type 0 = λ os. AreLevels s.sets.now (os ++ c.args.option ∷ []) c.push.new.self in
    let levels = subst P c.deref.ensures.value c.push.ensures in (
      pushed s.sets.now s.chosen.items c.push_reserved-2.new.self.items c.args.option s.marks.items c.push_reserved.new.self.items c.args.mark s.levels _ c.args.self.now c.self.view_is c.self.invariant.0 c.requires.option c.requires.live c.requires.untried levels c.push_reserved-2.ensures.items c.push_reserved.ensures.items,
      omega (arith, c.self.invariant.1, c.push_reserved.ensures.capacity),
      omega (arith, c.self.invariant.2, c.push_reserved-2.ensures.capacity),
    )

pub returns : goal.returns
returns c =
    let s = c.self.inside in
    seen_push s.sets.now s.chosen.items c.push_reserved-2.new.self.items c.args.option s.marks.items c.push_reserved.new.self.items c.args.mark c.args.self.now c.self.view_is c.push_reserved-2.ensures.items c.push_reserved.ensures.items

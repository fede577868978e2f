use Rattle.std.proofs.Common.{◌≡◌, ℕ, ◌<◌, ◌∷◌, ◌++◌, [], List, length, get_or, refl, arith, ◌∙◌, subst, sym}
use Rattle.std.proofs.lemmas.List.{get_or_default}
use Rattle.item_planes.specs.Counts.{limit_of}
use Rattle.live_sets.specs.Planes.{IsMask}
use Rattle.live_sets.proofs.Planed.{planes_here, planes_next, planes_push}
use Rattle.live_sets.proofs.Staying.{planes_fewer}
use Rattle.live_sets.proofs.plane_counts.PlaneCounts.push.Goals as goal

pub next_planes-next-requires-clause-last : goal.next_planes-next-requires-clause-last
next_planes-next-requires-clause-last c = planes_here c.args.sets.now c.args.step.chosen.now c.args.self.now c.index.result.now c.requires.counts c.requires.step.room c.index.ensures

pub least_from-requires : goal.least_from-requires
least_from-requires c =
    let p = c.args.sets.now in
    let os : List ℕ = c.args.step.chosen.now in
    let o : ℕ = c.args.step.option in
    let are = c.requires.counts in
    let last = planes_here c.args.sets.now c.args.step.chosen.now c.args.self.now c.index.result.now c.requires.counts c.requires.step.room c.index.ensures in
    let inside : c.args.step.option < length c.args.self.now.masks.items = omega (arith, c.requires.step.option, are.masks.long) in
    let mask : c.index-2.result.now ≡ get_or c.args.self.now.masks.items c.args.step.option 0 = c.index-2.ensures ∙ get_or_default c.args.self.now.masks.items c.args.step.option c.index-2.result.now 0 inside in
    let M : ℕ → Type 0 = λ m. IsMask c.args.sets.now c.args.self.now.first c.args.step.option m in
    let next = planes_next p os o c.index-2.result.now c.args.self.now.first c.index.result.now c.next_planes-next.result c.cover.new.self last (subst M (sym mask) (are.masks.each o c.requires.step.option))
    c.next_planes-next.ensures.uncovered c.cover.ensures.uncovered c.cover.ensures.counts c.next_planes-next.ensures.counted in
    planes_fewer p os o c.args.self.now.first (limit_of c.digits-digits.result) c.args.step.before.now c.args.step.live.now c.index.result.now c.cover.new.self c.requires.step.before c.requires.step.live last next c.digits-digits.ensures

pub returns-clause-counts : goal.returns-clause-counts
returns-clause-counts c =
    let p = c.args.sets.now in
    let os : List ℕ = c.args.step.chosen.now in
    let o : ℕ = c.args.step.option in
    let are = c.requires.counts in
    let last = planes_here c.args.sets.now c.args.step.chosen.now c.args.self.now c.index.result.now c.requires.counts c.requires.step.room c.index.ensures in
    let inside : c.args.step.option < length c.args.self.now.masks.items = omega (arith, c.requires.step.option, are.masks.long) in
    let mask : c.index-2.result.now ≡ get_or c.args.self.now.masks.items c.args.step.option 0 = c.index-2.ensures ∙ get_or_default c.args.self.now.masks.items c.args.step.option c.index-2.result.now 0 inside in
    let M : ℕ → Type 0 = λ m. IsMask c.args.sets.now c.args.self.now.first c.args.step.option m in
    let next = planes_next p os o c.index-2.result.now c.args.self.now.first c.index.result.now c.next_planes-next.result c.cover.new.self last (subst M (sym mask) (are.masks.each o c.requires.step.option))
    c.next_planes-next.ensures.uncovered c.cover.ensures.uncovered c.cover.ensures.counts c.next_planes-next.ensures.counted in
    planes_push p os o c.args.self.now _ c.cover.new.self are c.requires.step.room refl refl refl next

pub returns-clause-least : goal.returns-clause-least
returns-clause-least c =
    let p = c.args.sets.now in
    let os : List ℕ = c.args.step.chosen.now in
    let o : ℕ = c.args.step.option in
    let are = c.requires.counts in
    let last = planes_here c.args.sets.now c.args.step.chosen.now c.args.self.now c.index.result.now c.requires.counts c.requires.step.room c.index.ensures in
    let inside : c.args.step.option < length c.args.self.now.masks.items = omega (arith, c.requires.step.option, are.masks.long) in
    let mask : c.index-2.result.now ≡ get_or c.args.self.now.masks.items c.args.step.option 0 = c.index-2.ensures ∙ get_or_default c.args.self.now.masks.items c.args.step.option c.index-2.result.now 0 inside in
    let M : ℕ → Type 0 = λ m. IsMask c.args.sets.now c.args.self.now.first c.args.step.option m in
    let next = planes_next p os o c.index-2.result.now c.args.self.now.first c.index.result.now c.next_planes-next.result c.cover.new.self last (subst M (sym mask) (are.masks.each o c.requires.step.option))
    c.next_planes-next.ensures.uncovered c.cover.ensures.uncovered c.cover.ensures.counts c.next_planes-next.ensures.counted in
    c.least_from.ensures p (os ++ o ∷ []) next

use Rattle.std.proofs.Common.{◌≡◌, [], ◌∷◌, refl, sym, ap, ◌∙◌, length, arith}
use Rattle.std.proofs.lemmas.List.{length-append, nil_from_length}
use Rattle.spawn_frame.specs.Guests.{put_gifts}
use Rattle.spawn_frame.proofs.Several.{last_first}
use Rattle.spawn_frame.proofs.guests.put_gifts.Goals as goal

pub loop-gift-init : goal.loop-gift-init
loop-gift-init c = (refl, c.requires.open, c.requires.ascending, c.requires.room, c.requires.space)

pub put_gift-requires-clause-open : goal.put_gift-requires-clause-open
put_gift-requires-clause-open c = c.loop-gift.invariant.1

pub put_gift-requires-clause-ascending : goal.put_gift-requires-clause-ascending
put_gift-requires-clause-ascending c = c.loop-gift.invariant.2

pub put_gift-requires-clause-room : goal.put_gift-requires-clause-room
put_gift-requires-clause-room c =
    omega (arith, c.loop-gift.invariant.3, ap length c.in-Some.ensures.items, length-append c.pop.new.self.items (c.in-Some.gift ∷ []))

pub put_gift-requires-clause-space : goal.put_gift-requires-clause-space
put_gift-requires-clause-space c =
    omega (arith, c.loop-gift.invariant.4, ap length c.in-Some.ensures.items, length-append c.pop.new.self.items (c.in-Some.gift ∷ []))

pub loop-gift-preserved : goal.loop-gift-preserved
loop-gift-preserved c =
    let left = c.pop.new.self.items in
    let one = ap length c.in-Some.ensures.items in (
      ap (put_gifts c.args.from left) c.put_gift.ensures.items
          ∙ sym (last_first c.args.from left c.in-Some.gift c.loop-gift.items.items)
          ∙ ap (λ l. put_gifts c.args.from l c.loop-gift.items.items) (sym c.in-Some.ensures.items)
          ∙ c.loop-gift.invariant.0,
      c.put_gift.ensures.open,
      c.put_gift.ensures.ascending,
      omega (arith, c.loop-gift.invariant.3, one, length-append left (c.in-Some.gift ∷ []), c.put_gift.ensures.room),
      omega (arith, c.loop-gift.invariant.4, one, length-append left (c.in-Some.gift ∷ []), c.put_gift.ensures.space),
    )

pub returns-clause-items : goal.returns-clause-items
returns-clause-items c =
    let none : c.loop-gift.left.items ≡ [] = nil_from_length c.loop-gift.left.items (omega (arith, c.in_default.ensures.cases.0, c.loop-gift.left.ok.0)) in
    sym (ap (λ l. put_gifts c.args.from l c.loop-gift.items.items) none) ∙ c.loop-gift.invariant.0

pub returns-clause-open : goal.returns-clause-open
returns-clause-open c = c.loop-gift.invariant.1

use Rattle.std.proofs.Common.{◌≡◌, ◌<◌, List, ℕ, cond, get_or, length, subst, sym, ap, ◌∙◌, arith}
use Rattle.std.proofs.lemmas.List.{get_or_default}
use Rattle.spawn_frame.specs.Guests.{places_without}
use Rattle.spawn_frame.proofs.Opened.{Parts, absent_without, removed_without}
use Rattle.spawn_frame.proofs.guests.keep_place.Goals.{else-from-len-via-then-from-len+else-index-place, else-from-len-via-else-from-len}
use Rattle.spawn_frame.proofs.guests.keep_place.Goals as goal

pub returns-then-index-place : goal.returns-then-index-place
returns-then-index-place c =
    let ps = c.args.places.now.items in
    let from = c.place_from-from.result in
    let p = c.place_from-from.ensures in
    let parts = subst (λ (l : List ℕ). Parts c.args.place l from) c.deref.ensures.value (record { within = p.within; before = p.before; from = p.from }) in
    let within : from < length ps = omega (arith, ap length c.deref.ensures.value) in
    let at : get_or ps from 0 ≡ c.args.place = get_or_default ps from 0 c.index.result.now within ∙ sym c.index.ensures ∙ c.if-index-place.true in
    c.remove.ensures.items ∙ removed_without c.args.place ps from parts within at
    ∙ ap (λ b. cond b ps (places_without c.args.place ps)) (sym c.if-stays.false)

pub returns-else-from-len : goal.returns-else-from-len
returns-else-from-len c =
    let ps = c.args.places.now.items in
    let from = c.place_from-from.result in
    let p = c.place_from-from.ensures in
    let parts = subst (λ (l : List ℕ). Parts c.args.place l from) c.deref.ensures.value (record { within = p.within; before = p.before; from = p.from }) in
    absent_without c.args.place ps from c.requires parts (λ l e.
    elim c.else-from-len.branch [
      | else-from-len-via-then-from-len+else-index-place w ↦
          w.if-index-place.false (w.index.ensures ∙ get_or_default ps from w.index.result.now 0 l ∙ e)
      | else-from-len-via-else-from-len w ↦ omega (arith, ap length c.deref.ensures.value, l)
    ])
    ∙ ap (λ b. cond b ps (places_without c.args.place ps)) (sym c.if-stays.false)

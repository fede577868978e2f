use Rattle.std.proofs.Common.{◌≡◌, ◌<◌, arith, ℕ, List, refl, sym, ap, ◌∙◌, subst, ◌+◌, ◌≤◌, ◌++◌, length, take, true, append-nil, []}
use Rattle.std.proofs.lemmas.List.{length-take-le}
use Rattle.dancing_links.specs.declared.link.Link.{Link}
use Rattle.dancing_links.specs.Columns.{Columns, column_of, IsLinked}
use Rattle.dancing_links.specs.Keys.{fewer, with_mark, KeysCovered}
use Rattle.dancing_links.specs.Linking.{down_of, unlinks}
use Rattle.dancing_links.proofs.Walk.{Going, cover_start, cover_step, cover_end, cover_trail, hidden_others, walk_room}
use Rattle.dancing_links.specs.Covering.{has_colour, hidden_at, Covers}
use Rattle.dancing_links.specs.Trail.{HasRoom, Trails}
use Rattle.dancing_links.proofs.Keyed.{cover_keys}
use Rattle.dancing_links.proofs.cover.purify.Goals as goal
use Rattle.dancing_links.proofs.cover.purify.Goals.{then-not-has_colour, else-not-has_colour}

-- nothing is hidden at a node of the same colour
hidden_none : (c : Columns) (colour node : ℕ) → has_colour c colour node ≡ true → hidden_at c colour node ≡ []
unfolding hidden_at
hidden_none c colour node same = rw same refl

-- what one step down the column did
record IsStep (c : Columns) (colour node : ℕ) (links new : List Link) (keys now trail longer : List ℕ) (top room : ℕ) : Type 0 where
  linked : IsLinked c new
  links_are : new ≡ unlinks links (hidden_at c colour node)
  keys_are : now ≡ fewer c keys (hidden_at c colour node)
  trail_is : longer ≡ trail ++ hidden_at c colour node
  inside : top ≤ room

pub loop-other-init : goal.loop-other-init
loop-other-init c =
    let t = c.tails-tails.ensures.table in
    let linked = c.requires.linked in
    let cs : Columns = c.args.layout.now in
    let item : ℕ = c.item_at-item.result in
    let colour : ℕ = c.colour_at-colour.result in
    let below : c.item_at-item.result + 1 < c.args.layout.now.heads = omega (arith, c.item_at-item.ensures.item, t.option_columns c.args.node c.requires.node.0 c.requires.node.1) in
    let at = linked.1 item (omega (arith, below, linked.0, t.ends)) in
    let was : List ℕ = with_mark c.args.keys.now item in
    let P : List ℕ → Type 0 = λ keys. Going cs c.args.links.now item colour c.args.links.now was keys (take c.args.top c.args.trail.now) (take c.args.top c.args.trail.now) (down_of c.args.links.now item) in
    record {
      linked = linked;
      low = (at.rises (omega (arith, below, t.order))).1;
      top = c.requires.top;
      going = subst P (sym c.turn_mark.ensures) (cover_start cs c.args.links.now was (take c.args.top c.args.trail.now) item colour t);
    }

pub hide-top-requires-clause-linked : goal.hide-top-requires-clause-linked
hide-top-requires-clause-linked c = c.loop-other.invariant.linked

pub loop-other-preserved : goal.loop-other-preserved
loop-other-preserved c =
    let t = c.tails-tails.ensures.table in
    let cs : Columns = c.args.layout.now in
    let item : ℕ = c.item_at-item.result in
    let colour : ℕ = c.colour_at-colour.result in
    let other : ℕ = c.loop-other.other in
    let step : IsStep c.args.layout.now c.colour_at-colour.result c.loop-other.other c.loop-other.links c.if-not-has_colour.links c.loop-other.keys c.if-not-has_colour.keys (take c.loop-other.top c.loop-other.trail) (take c.if-not-has_colour.top c.if-not-has_colour.trail) c.if-not-has_colour.top (length c.if-not-has_colour.trail) = elim c.if-not-has_colour.branch [
      | then-not-has_colour w ↦
          let same = sym (hidden_others cs colour other (sym c.has_colour.ensures ∙ w.if-not-has_colour.true)) in
          let L : List Link → Type 0 = λ links. IsLinked cs links in
          record {
            linked = subst L (sym w.links-is) w.hide-top.ensures.linked;
            links_are = w.links-is ∙ w.hide-top.ensures.links ∙ ap (unlinks c.loop-other.links) same;
            keys_are = w.keys-is ∙ w.hide-top.ensures.keys ∙ ap (fewer cs c.loop-other.keys) same;
            trail_is = ap (λ (n : ℕ). take n c.if-not-has_colour.trail) w.top-is ∙ ap (take w.hide-top.result) w.trail-is ∙ w.hide-top.ensures.trail ∙ ap (λ (xs : List ℕ). take c.loop-other.top c.loop-other.trail ++ xs) same;
            inside = omega (arith, w.top-is, ap length w.trail-is, w.hide-top.ensures.top);
          }
      | else-not-has_colour w ↦
          let same = sym (hidden_none cs colour other (sym c.has_colour.ensures ∙ w.if-not-has_colour.false)) in
          let L : List Link → Type 0 = λ links. IsLinked cs links in
          record {
            linked = subst L (sym w.links-is) c.loop-other.invariant.linked;
            links_are = w.links-is ∙ ap (unlinks c.loop-other.links) same;
            keys_are = w.keys-is ∙ ap (fewer cs c.loop-other.keys) same;
            trail_is = ap (λ (n : ℕ). take n c.if-not-has_colour.trail) w.top-is ∙ ap (take c.loop-other.top) w.trail-is ∙ sym (append-nil (take c.loop-other.top c.loop-other.trail)) ∙ ap (λ (xs : List ℕ). take c.loop-other.top c.loop-other.trail ++ xs) same;
            inside = omega (arith, w.top-is, ap length w.trail-is, c.loop-other.invariant.top);
          }
    ] in
    let high : c.loop-other.other < c.args.layout.now.tails = omega (arith, c.loop-other-test.true, c.tails-tails.ensures.tails) in
    let at = step.linked.1 other (omega (arith, high, step.linked.0, t.ends)) in
    record {
      linked = step.linked;
      low = (at.rises high).1;
      top = step.inside;
      going = cover_step cs c.args.links.now c.loop-other.links c.if-not-has_colour.links (with_mark c.args.keys.now item) c.loop-other.keys c.if-not-has_colour.keys (take c.args.top c.args.trail.now) (take c.loop-other.top c.loop-other.trail) (take c.if-not-has_colour.top c.if-not-has_colour.trail) item colour other t c.loop-other.invariant.low high step.links_are step.keys_are step.trail_is c.loop-other.invariant.going;
    }

pub returns-clause-links : goal.returns-clause-links
returns-clause-links c =
    let cs : Columns = c.args.layout.now in
    let item : ℕ = c.item_at-item.result in
    let colour : ℕ = c.colour_at-colour.result in
    let P : ℕ → Type 0 = λ i. Covers cs c.args.links.now i colour c.loop-other.links in
    let Q : ℕ → Type 0 = λ a. Covers cs c.args.links.now (column_of cs c.args.node) a c.loop-other.links in
    subst Q c.colour_at-colour.ensures.colour (subst P c.item_at-item.ensures.item
    (cover_end cs c.args.links.now c.loop-other.links (with_mark c.args.keys.now item) c.loop-other.keys (take c.args.top c.args.trail.now) (take c.loop-other.top c.loop-other.trail) item colour c.loop-other.other (omega (arith, c.loop-other-test.false, c.tails-tails.ensures.tails)) c.loop-other.invariant.going))

pub returns-clause-keys : goal.returns-clause-keys
returns-clause-keys c =
    let cs : Columns = c.args.layout.now in
    let item : ℕ = c.item_at-item.result in
    let colour : ℕ = c.colour_at-colour.result in
    let P : ℕ → Type 0 = λ i. KeysCovered cs c.args.links.now i colour c.args.keys.now c.loop-other.keys in
    let Q : ℕ → Type 0 = λ a. KeysCovered cs c.args.links.now (column_of cs c.args.node) a c.args.keys.now c.loop-other.keys in
    subst Q c.colour_at-colour.ensures.colour (subst P c.item_at-item.ensures.item
    (cover_keys cs c.args.links.now c.loop-other.links c.args.keys.now c.loop-other.keys (take c.args.top c.args.trail.now) (take c.loop-other.top c.loop-other.trail) item colour c.loop-other.other c.tails-tails.ensures.table (omega (arith, c.loop-other-test.false, c.tails-tails.ensures.tails)) c.loop-other.invariant.going))

pub returns-clause-trail : goal.returns-clause-trail
returns-clause-trail c =
    let cs : Columns = c.args.layout.now in
    let item : ℕ = c.item_at-item.result in
    let colour : ℕ = c.colour_at-colour.result in
    let P : ℕ → Type 0 = λ i. Trails cs c.args.links.now i colour (take c.args.top c.args.trail.now) (take c.loop-other.top c.loop-other.trail) in
    let Q : ℕ → Type 0 = λ a. Trails cs c.args.links.now (column_of cs c.args.node) a (take c.args.top c.args.trail.now) (take c.loop-other.top c.loop-other.trail) in
    subst Q c.colour_at-colour.ensures.colour (subst P c.item_at-item.ensures.item
    (cover_trail cs c.args.links.now c.loop-other.links (with_mark c.args.keys.now item) c.loop-other.keys (take c.args.top c.args.trail.now) (take c.loop-other.top c.loop-other.trail) item colour c.loop-other.other (omega (arith, c.loop-other-test.false, c.tails-tails.ensures.tails)) c.loop-other.invariant.going))

pub hide-top-requires-clause-room : goal.hide-top-requires-clause-room
hide-top-requires-clause-room c =
    let cs : Columns = c.args.layout.now in
    let item : ℕ = c.item_at-item.result in
    let colour : ℕ = c.colour_at-colour.result in
    let high : c.loop-other.other < c.args.layout.now.tails = omega (arith, c.loop-other-test.true, c.tails-tails.ensures.tails) in
    let R : ℕ → Type 0 = λ i. HasRoom cs c.args.links.now i (take c.args.top c.args.trail.now) (length c.args.trail.now) in
    let found = walk_room cs c.args.links.now c.loop-other.links (with_mark c.args.keys.now item) c.loop-other.keys (take c.args.top c.args.trail.now) (take c.loop-other.top c.loop-other.trail) item colour c.loop-other.other (length c.args.trail.now) c.tails-tails.ensures.table c.loop-other.invariant.low high (subst R (sym c.item_at-item.ensures.item) c.requires.room) c.loop-other.invariant.going in
    let room : c.loop-other.top + length (hidden_at c.args.layout.now c.colour_at-colour.result c.loop-other.other) ≤ length c.loop-other.trail = omega (arith, found, c.loop-other.auto.trail, length-take-le c.loop-other.top c.loop-other.trail c.loop-other.invariant.top) in
    let Q : List ℕ → Type 0 = λ xs. c.loop-other.top + length xs ≤ length c.loop-other.trail in
    subst Q (hidden_others cs colour c.loop-other.other (sym c.has_colour.ensures ∙ c.if-not-has_colour.true)) room

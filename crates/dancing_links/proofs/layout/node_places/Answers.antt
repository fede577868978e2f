use Rattle.std.proofs.Common.{List, ◌∷◌, [], ◌++◌, ℕ, get_or, ap, sym, ◌∙◌, arith, ◌≡◌}
use Rattle.std.proofs.lemmas.List.FromFn.{map-range_with_len_more}
use Rattle.dancing_links.specs.declared.place.Place.{Place}
use Rattle.dancing_links.specs.Table.{place_by}
use Rattle.dancing_links.proofs.layout.node_places.Goals as goal

pub loop-node-preserved : goal.loop-node-preserved
loop-node-preserved c =
    let node : ℕ = c.loop-node.node in
    let by : ℕ → Place = place_by c.args.items.now c.args.colours.now c.args.options.now c.args.first.now in
    let P : ℕ → Place = λ right. record { right = right; item = get_or c.args.items.now c.loop-node.node 0; colour = get_or c.args.colours.now c.loop-node.node 0 } in
    let same : P c.right_in-right.result ≡ place_by c.args.items.now c.args.colours.now c.args.options.now c.args.first.now c.loop-node.node = ap P c.right_in-right.ensures in
    c.in_ok-push.ensures.items
    ∙ ap (λ (place : Place). c.loop-node.places.items ++ place ∷ []) same
    ∙ ap (λ (places : List Place). places ++ by node ∷ []) c.loop-node.invariant
    ∙ sym (map-range_with_len_more by 0 node node (omega arith))

use Rattle.std.proofs.Common.{rules, ◌≡◌, ◌<◌, ◌++◌, arith, length, take, drop, slice_index_or, ap, sym, ◌∙◌}
use Rattle.std.proofs.lemmas.List.{take-append-le, take_all}
use Rattle.udp_node.proofs.run.run_all.Goals as goal

pub for_each_mut-requires-clause-accepts : goal.for_each_mut-requires-clause-accepts
for_each_mut-requires-clause-accepts g c κs within = λ i p h same. (search rules, search rules, search rules, search rules, search rules)

pub returns : goal.returns
returns g c =
    let many = c.args.runs.now.len in
    let old = c.args.runs.now.items in
    let new = c.for_each_mut.new.s in
    let lent : c.as_mut_slice.result.now ≡ old = search rules in
    let same : length new ≡ length c.as_mut_slice.result.now = search rules in
    let whole : length old ≡ many = search rules in
    let all : length new ≡ many = same ∙ ap length lent ∙ whole in
    let back : take many (new ++ drop (length new) old) ≡ new =
    take-append-le many new (drop (length new) old) (omega (arith, all)) ∙ take_all many new (omega (arith, all)) in
    rw back (λ k d h.
    let before : k < length c.as_mut_slice.result.now = omega (arith, h, same) in
    let changed = (c.for_each_mut.ensures k d before).1 in
    let kept : changed.after_call.now.node ≡ changed.argument.now.node = search (rules, changed.call) in
    let was = c.requires.numbered k d (omega (arith, h, same, ap length lent)) in
    ap (λ site. site.node) (sym changed.left) ∙ kept ∙ ap (λ site. site.node) (changed.argument_is ∙ ap (λ sites. slice_index_or sites k d) lent) ∙ was)

use Rattle.std.proofs.Common.{◌≡◌, ◌<◌, ◌+◌, ◌-◌, List, ℕ, length, map, subst, sym, arith, ap, ◌∙◌}
use Rattle.std.specs.List.{All, range_with_len}
use Rattle.dancing_links.specs.Columns.{IsTable}
use Rattle.dancing_links.specs.Table.{column_list, colour_list, option_list, first_list, place_by}
use Rattle.dancing_links.proofs.Nodes.{length-column_list, length-colour_list, length-option_list}
use Rattle.dancing_links.proofs.Tables.{same_table, options_in, table_is}
use Rattle.dancing_links.proofs.layout.layout_of.Goals as goal

pub node_places-requires-clause-small : goal.node_places-requires-clause-small
node_places-requires-clause-small c =
    let items : c.deref.result.now ≡ column_list c.args.problem.now = c.deref.ensures.value ∙ c.in_ok-items.ensures in
    omega (arith, ap length items, (table_is c.args.problem.now c.items-heads.ensures.problem).small)

pub node_places-requires-clause-colours : goal.node_places-requires-clause-colours
node_places-requires-clause-colours c =
    let problem = c.args.problem.now in
    let items : c.deref.result.now ≡ column_list c.args.problem.now = c.deref.ensures.value ∙ c.in_ok-items.ensures in
    let colours : c.deref-2.result.now ≡ colour_list c.args.problem.now = c.deref-2.ensures.value ∙ c.in_ok-colours.ensures in
    omega (arith, ap length items, ap length colours, length-column_list problem, length-colour_list problem c.items-heads.ensures.problem)

pub node_places-requires-clause-options : goal.node_places-requires-clause-options
node_places-requires-clause-options c =
    let problem = c.args.problem.now in
    let items : c.deref.result.now ≡ column_list c.args.problem.now = c.deref.ensures.value ∙ c.in_ok-items.ensures in
    let options : c.deref-3.result.now ≡ option_list c.args.problem.now = c.deref-3.ensures.value ∙ c.in_ok-options.ensures in
    omega (arith, ap length items, ap length options, length-column_list problem, length-option_list problem)

pub node_places-requires-clause-first : goal.node_places-requires-clause-first
node_places-requires-clause-first c =
    let problem = c.args.problem.now in
    let P : List ℕ → List ℕ → Type 0 = λ options first. All (λ o. o + 1 < length first) options in
    let options : c.deref-3.result.now ≡ option_list c.args.problem.now = c.deref-3.ensures.value ∙ c.in_ok-options.ensures in
    let first : c.deref-4.result.now ≡ first_list c.args.problem.now = c.deref-4.ensures.value ∙ c.in_ok-first.ensures in
    subst (P c.deref-3.result.now) (sym first) (subst (λ (xs : List ℕ). P xs (first_list c.args.problem.now)) (sym options) (options_in problem))

pub overflow_sub-tails : goal.overflow_sub-tails
overflow_sub-tails c =
    let problem = c.args.problem.now in
    let size = ap length c.in_ok-items.ensures ∙ length-column_list problem in
    omega (arith, size, c.in_ok-items.items.ok.0, c.len.ensures, c.items-heads.ensures.count)

pub invariant_of-result : goal.invariant_of-result
invariant_of-result c =
    let problem = c.args.problem.now in
    let size = ap length c.in_ok-items.ensures ∙ length-column_list problem in
    let items = c.deref.ensures.value ∙ c.in_ok-items.ensures in
    let colours = c.deref-2.ensures.value ∙ c.in_ok-colours.ensures in
    let by : List ℕ → List ℕ → List _ = λ options first. map (place_by c.deref.result.now c.deref-2.result.now options first) (range_with_len 0 (length c.deref.result.now)) in
    subst IsTable (sym (same_table problem (c.items-heads.result + 1) (c.len.result - (c.items-heads.result + 1)) c.deref.result.now c.deref-2.result.now c.in_ok-options.options.items c.in_ok-first.first.items c.in_ok-places.places.items c.items-heads.ensures.problem
    (ap (λ n. n + 1) c.items-heads.ensures.count)
    (omega (arith, size, c.in_ok-items.items.ok.0, c.len.ensures, c.items-heads.ensures.count))
    items colours c.in_ok-options.ensures c.in_ok-first.ensures
    (c.in_ok-places.ensures ∙ ap (λ (options : List ℕ). by options c.deref-4.result.now) c.deref-3.ensures.value ∙ ap (by c.in_ok-options.options.items) c.deref-4.ensures.value))) (table_is problem c.items-heads.ensures.problem)

pub returns : goal.returns
returns c =
    let problem = c.args.problem.now in
    let size = ap length c.in_ok-items.ensures ∙ length-column_list problem in
    let items = c.deref.ensures.value ∙ c.in_ok-items.ensures in
    let colours = c.deref-2.ensures.value ∙ c.in_ok-colours.ensures in
    let by : List ℕ → List ℕ → List _ = λ options first. map (place_by c.deref.result.now c.deref-2.result.now options first) (range_with_len 0 (length c.deref.result.now)) in
    same_table problem (c.items-heads.result + 1) (c.len.result - (c.items-heads.result + 1)) c.deref.result.now c.deref-2.result.now c.in_ok-options.options.items c.in_ok-first.first.items c.in_ok-places.places.items c.items-heads.ensures.problem
    (ap (λ n. n + 1) c.items-heads.ensures.count)
    (omega (arith, size, c.in_ok-items.items.ok.0, c.len.ensures, c.items-heads.ensures.count))
    items colours c.in_ok-options.ensures c.in_ok-first.ensures
    (c.in_ok-places.ensures ∙ ap (λ (options : List ℕ). by options c.deref-4.result.now) c.deref-3.ensures.value ∙ ap (by c.in_ok-options.options.items) c.deref-4.ensures.value)

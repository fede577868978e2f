use Rattle.std.proofs.Common.{◌≡◌, ℕ, ◌<◌, ◌∙◌, List, sym, ap, length, get_or, [], true, arith}
use Rattle.std.proofs.lemmas.List.{get_or_default}
use Rattle.std.specs.Cmp.Lexicographic.{bytes_decides}
use Rattle.cover_problem.specs.Problem.{names_differ}
use Rattle.dlx_reader.specs.Names.{item_named}
use Rattle.dlx_reader.proofs.KeyNames.{own_named}
use Rattle.dlx_reader.proofs.names.Names.item_named_near.Goals as goal

pub returns-then-eq-clause-item : goal.returns-then-eq-clause-item
returns-then-eq-clause-item c =
    let names = c.args.self.now in
    let item = c.loop-item.item in
    let inside : item < length names = omega (arith, c.loop-item-test.true, c.min-item-end.ensures, c.len.ensures, ap length c.self.view_is) in
    let read : c.index.result.now ≡ get_or names item [] = c.index.ensures ∙ ap (λ (all : List (List ℕ)). get_or all item c.index.result.now) c.self.view_is ∙ get_or_default names item c.index.result.now [] inside in
    let word : c.as_slice.result.now ≡ c.args.word.now = (bytes_decides c.as_slice.result.now c.args.word.now).0 (sym c.eq.ensures ∙ c.if-eq.true) in
    let name : get_or names item [] ≡ c.args.word.now = sym read ∙ sym c.as_slice.ensures ∙ word in
    let differ : names_differ names ≡ true = ap names_differ (sym c.self.view_is) ∙ c.self.invariant.2 in
    sym (ap (item_named names) (sym name) ∙ own_named names item differ inside)

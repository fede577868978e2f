use Rattle.std.proofs.Common.{◌≡◌, arith, length, ◌∙◌, ap, Some, length-append, [], ◌∷◌, ◌++◌, cond, nat_eq, rules, sym, true}
use Rattle.std.specs.Cmp.Lexicographic.{pointwise}
use Rattle.std.proofs.lemmas.Map.Text.{btree_map_updates_str}
use Rattle.dlx_reader.specs.Names.{item_named}
use Rattle.cover_problem.specs.Problem.{names_differ}
use Rattle.dlx_reader.proofs.Differing.{names_differ-push}
use Rattle.dlx_reader.proofs.Naming.{named-push, none-named, pushed}
use Rattle.dlx_reader.proofs.names.Names.push.Goals as goal

pub invariant_of-self-2 : goal.invariant_of-self-2
invariant_of-self-2 c =
    let names : c.push_reserved.new.self.items ≡ c.args.self.now ++ c.args.word.now ∷ [] = pushed _ _ _ _ _ c.push_reserved.ensures.items (c.reserve.ensures.items ∙ c.self.view_is) (c.from_vec-name.ensures ∙ c.in_ok-from_slice.ensures.items) in
    let same : c.self.inside.list.items ≡ c.args.self.now = c.self.view_is in
    let differ : names_differ c.args.self.now ≡ true = ap names_differ (sym same) ∙ c.self.invariant.2 in
    let number : c.len-number.result ≡ length c.args.self.now = search (rules, ap length same) in (
      rw names (omega (arith, length-append c.args.self.now (c.args.word.now ∷ []), c.requires.room)),
      λ word.
          btree_map_updates_str c.args.word.now c.self.inside.index c.insert.new.self (Some c.len-number.result) c.in_ok-insert.ensures.updates word
          ∙ ap (cond (pointwise nat_eq c.args.word.now word) (Some c.len-number.result)) (c.self.invariant.1 word ∙ ap (λ names. item_named names word) same)
          ∙ rw (number, names) (named-push c.args.self.now c.args.word.now word (none-named _ _ c.requires.fresh)),
      rw names (names_differ-push c.args.self.now c.args.word.now differ c.requires.fresh),
    )

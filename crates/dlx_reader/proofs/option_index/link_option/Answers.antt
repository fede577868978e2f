use Rattle.std.proofs.Common.{◌≡◌, ℕ, ◌∙◌, sym, ap, subst, length}
use Rattle.std.specs.Option.{unwrap_or}
use Rattle.dlx_reader.specs.OptionIndex.{IsNext, entry_at, key_of}
use Rattle.dlx_reader.proofs.Keys.{key_at}
use Rattle.dlx_reader.proofs.Indexed.{changed, index_more}
use Rattle.dlx_reader.proofs.option_index.link_option.Goals as goal

pub returns-clause-next : goal.returns-clause-next
returns-clause-next c =
    let p = c.args.problem.now in
    let key : c.as_slice.result.now ≡ key_of p c.args.option = c.as_slice.ensures ∙ key_at p (length p.options) c.args.option c.args.keys.now _ c.requires.keys c.requires.option c.index-keys-option.is in
    let found = rw key at c.in_ok-next.ensures.old in
    let entry : entry_at p c.args.lowest.now (key_of p c.args.option) ≡ c.unwrap_or.result =
    ap (λ next. unwrap_or next (length p.options)) (sym found) ∙ ap (unwrap_or c.in_ok-next.next) (sym c.options-none.ensures.count) ∙ sym c.unwrap_or.ensures in
    let P : ℕ → Type 0 = λ next. IsNext p c.args.option next in
    subst P entry (c.requires.behind (key_of p c.args.option))

pub returns-clause-index : goal.returns-clause-index
returns-clause-index c =
    let p = c.args.problem.now in
    let key : c.as_slice.result.now ≡ key_of p c.args.option = c.as_slice.ensures ∙ key_at p (length p.options) c.args.option c.args.keys.now _ c.requires.keys c.requires.option c.index-keys-option.is in
    let updates = rw key at c.in_ok-next.ensures.updates in
    index_more p c.args.lowest.now c.insert.new.self c.args.option c.requires.option c.requires.behind
    (changed p c.args.lowest.now c.insert.new.self (key_of p c.args.option) c.args.option updates)

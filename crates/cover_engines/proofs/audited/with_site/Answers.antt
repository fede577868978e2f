use Rattle.std.proofs.Common.{◌≡◌, ◌∙◌, ◌++◌, ℕ, List, ap, codes, subst, IfOk}
use Rattle.std.specs.Fmt.{decimal}
use Rattle.std.specs.Prelude.{string_bytes}
use Rattle.cover_engines.proofs.audited.with_site.Goals as goal

pub returns : goal.returns
returns c =
    let site = c.args.site in
    let node : c.from.result ≡ site.node = c.from.ensures in
    let incarnation : c.from-2.result ≡ site.incarnation = c.from-2.ensures in
    let Front : ℕ → List ℕ = λ n. c.args.front.now ++ decimal n ++ codes " incarnation " in
    let front : c.deref.result.now ≡ Front site.node = c.deref.ensures ∙ c.in_ok-node.ensures ∙ ap Front node in
    let Text : List ℕ → ℕ → Type 0 = λ front n. IfOk c.numbered-2.result (λ text. string_bytes text ≡ front ++ decimal n ++ c.args.behind.now) in
    subst (Text (Front site.node)) incarnation (subst (λ (t : List ℕ). Text t c.from-2.result) front c.numbered-2.ensures)

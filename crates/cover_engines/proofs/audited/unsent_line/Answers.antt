use Rattle.std.proofs.Common.{◌≡◌, ◌∙◌, ◌++◌, ℕ, List, codes, subst, IfOk}
use Rattle.std.specs.Fmt.{decimal}
use Rattle.std.specs.Prelude.{string_bytes}
use Rattle.cover_engines.proofs.audited.unsent_line.Goals as goal

pub returns : goal.returns
returns c =
    let Line : List ℕ → Type 0 = λ front. IfOk c.numbered.result (λ line. string_bytes line ≡ front ++ decimal c.args.place ++ codes "\n") in
    subst Line (c.deref.ensures ∙ c.in_ok-front.ensures) c.numbered.ensures

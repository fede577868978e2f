use Rattle.std.proofs.Common.{◌∙◌, sym, ap, ◌∷◌, codes, ◌≡◌}
use Rattle.std.proofs.lemmas.Slice.Eq.{bytes_eq-Decides}
use Rattle.dlx_reader.specs.Lines.{words_of}
use Rattle.dlx_reader.proofs.answer_head.head_of.Goals as goal

pub returns-then-eq-clause-none : goal.returns-then-eq-clause-none
returns-then-eq-clause-none c =
    let word = (bytes_eq-Decides _ _).0 (sym c.eq.ensures ∙ c.if-eq.true) ∙ c.as_slice.ensures in
    let words : words_of c.args.line.now ≡ codes "none" ∷ words_of c.in_ok-word.behind.now = c.in_ok-word.ensures.some ∙ ap (λ w. w ∷ words_of c.in_ok-word.behind.now) word in
    rw words c.none_head.ensures.none

pub returns-then-eq-2-clause-none : goal.returns-then-eq-2-clause-none
returns-then-eq-2-clause-none c =
    let word = (bytes_eq-Decides _ _).0 (sym c.eq-2.ensures ∙ c.if-eq-2.true) ∙ c.as_slice-2.ensures in
    let words : words_of c.args.line.now ≡ codes "cover" ∷ words_of c.in_ok-word.behind.now = c.in_ok-word.ensures.some ∙ ap (λ w. w ∷ words_of c.in_ok-word.behind.now) word in
    rw words c.cover_head.ensures.none

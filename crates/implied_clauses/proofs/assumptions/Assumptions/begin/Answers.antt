use Rattle.std.proofs.Common.{◌+◌, length, replicate, None, map, sym, ap, ◌∙◌, arith, vec_len}
use Rattle.std.proofs.lemmas.List.{length-map}
use Rattle.implied_clauses.specs.Rests.{assumed_by}
use Rattle.implied_clauses.proofs.Assuming.{older, no_marks}
use Rattle.implied_clauses.proofs.assumptions.Assumptions.begin.Goals as goal

pub returns-then-self-lt-MOST_ROUNDS : goal.returns-then-self-lt-MOST_ROUNDS
returns-then-self-lt-MOST_ROUNDS c =
    older (c.self.inside.round + 1) c.self.inside.marks.items (λ k d inside. let low = c.self.invariant.2 k d inside in omega (arith, low))
    ∙ ap (λ n. replicate n None) (sym (length-map c.self.inside.marks.items (assumed_by c.self.inside.round)) ∙ ap length c.self.view_is)

pub returns-else-self-lt-MOST_ROUNDS : goal.returns-else-self-lt-MOST_ROUNDS
returns-else-self-lt-MOST_ROUNDS c =
    let marks = c.self.inside.marks in
    ap (map (assumed_by 1)) (c.fill.ensures.items (λ y e. e))
    ∙ no_marks (vec_len marks)
    ∙ ap (λ n. replicate n None) (marks.ok.0 ∙ sym (length-map marks.items (assumed_by c.self.inside.round)) ∙ ap length c.self.view_is)

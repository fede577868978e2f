use Rattle.std.proofs.Common.{◌≡◌, ◌+◌, ◌-◌, ◌==◌, [], nat_lt, refl, arith, ap, ◌∙◌, sym}
use Rattle.std.specs.Int.{bit_at}
use Rattle.std.proofs.lemmas.Bool.{eq-eqb, eqb-true, lt-ltb, ltb-true}
use Rattle.cover_problem.specs.Problem.{Problem}
use Rattle.live_sets.proofs.Gone.{named_live}
use Rattle.live_sets.proofs.Masked.{below_from}
use Rattle.live_sets.proofs.Staying.{live_inside}
use Rattle.live_sets.proofs.plane_counts.first_planes.Goals as goal

pub count_live-requires-clause-inside : goal.count_live-requires-clause-inside
count_live-requires-clause-inside c x here = live_inside c.args.sets.now [] c.args.live.now x c.requires.live here

pub count_live-requires-clause-few : goal.count_live-requires-clause-few
count_live-requires-clause-few c i low primary = omega (arith, named_live c.args.sets.now [] c.args.live.now (c.args.first + i) c.requires.live, c.requires.small.options (c.args.first + i) primary)

pub returns : goal.returns
returns c =
    let width : c.primary.result ≡ c.args.sets.now.primary = c.primary.ensures.count ∙ ap (λ (q : Problem). q.primary) c.problem.ensures.problem in
    let below : c.saturating_sub.result ≡ c.args.sets.now.primary - c.args.first = c.saturating_sub.ensures ∙ ap (λ n. n - c.args.first) width in
    record {
      uncovered = λ i low.
          let is : (bit_at c.count_live.result.uncovered i == 1) ≡ nat_lt (c.args.first + i) c.args.sets.now.primary =
          ap (λ n. bit_at n i == 1) c.count_live.ensures.uncovered ∙ c.word_below-uncovered.ensures i low ∙ ap (nat_lt i) below ∙ below_from c.args.sets.now.primary c.args.first i in
          ((λ here. (ltb-true (c.args.first + i) c.args.sets.now.primary (sym is ∙ eq-eqb (bit_at c.count_live.result.uncovered i) 1 here), refl)), (λ h. eqb-true (bit_at c.count_live.result.uncovered i) 1 (is ∙ lt-ltb (c.args.first + i) c.args.sets.now.primary h.0)));
      counted = λ i low primary. c.count_live.ensures.counted i low primary ∙ sym (named_live c.args.sets.now [] c.args.live.now (c.args.first + i) c.requires.live);
    }

use Rattle.std.proofs.Common.{◌≡◌, ℕ, ◌+◌, ◌<◌, ◌≤◌, Bool, List, length, get_or, take, refl, sym, ap, subst, ◌∙◌, arith}
use Rattle.cover_problem.specs.Problem.{Problem}
use Rattle.option_sets.specs.Sets.{has}
use Rattle.cover_certificates.specs.Cases.{AreStuckIn}
use Rattle.cover_certificates.specs.Tables.{options_naming}
use Rattle.cover_certificates.proofs.Named.{named_low}
use Rattle.cover_certificates.proofs.Trying.{IsTried, behind_by, place_dead, place_live, tried_all}
use Rattle.cover_certificates.proofs.refuting.Refuter.+refute.Goals as goal
use Rattle.cover_certificates.proofs.refuting.Refuter.+refute.Goals.{then-is_live+in_ok-child+in_ok-below+else-takes, else-is_live}

pub child-requires-clause-option : goal.child-requires-clause-option
child-requires-clause-option t c =
    let q = c.self.inside.tables.now in
    let item = c.in-Some-Branch.item in
    let listed : c.options_naming-option-items.result.now ≡ options_naming q item = c.options_naming-option-items.ensures in
    let low = named_low q item c.loop-option.option-index 0 (omega (arith, c.loop-option-test.true, ap length listed)) in
    subst (λ (xs : List ℕ). get_or xs c.loop-option.option-index 0 < length q.options) (sym listed) low

pub loop-option-preserved : goal.loop-option-preserved
loop-option-preserved t c =
    let p = c.args.self.now in
    let q = c.self.inside.tables.now in
    let case = c.args.case.now in
    let item = c.in-Some-Branch.item in
    let xs = c.options_naming-option-items.result.now in
    let options : List ℕ = options_naming p item in
    let k = c.loop-option.option-index in
    let listed : xs ≡ options = c.options_naming-option-items.ensures ∙ ap (λ (z : Problem). options_naming z item) c.self.view_is in
    let more : k < length options = omega (arith, c.loop-option-test.true, ap length listed) in
    let T : List Bool → Type 0 = IsTried p case item (take (k + 1) options) in
    elim c.if-is_live.branch [
      | then-is_live+in_ok-child+in_ok-below+else-takes w ↦
          let child = w.in_ok-child.child in
          let behind = behind_by q p case child xs options k 0 c.self.view_is listed w.in_ok-child.ensures.items w.in_ok-child.ensures.live in
          let stuck = subst (λ (z : Problem). AreStuckIn z child w.in_ok-below.below) c.loop-option.invariant.same w.in_ok-below.ensures.stuck in
          record {
            same = w.self-is ∙ w.self-then-is_live-2.view_is ∙ w.in_ok-below.ensures.same ∙ c.loop-option.invariant.same;
            tried = subst T (sym w.used-is) (place_live p case child item options k 0 w.in_ok-below.below c.loop-option.used w.join.new.self more behind stuck w.join.ensures.long w.join.ensures.joined c.loop-option.invariant.tried);
          }
      | else-is_live w ↦ record {
        same = w.self-is ∙ c.loop-option.invariant.same;
        tried = subst T (sym w.used-is) (place_dead p case item options k 0 c.loop-option.used more (ap (λ (ys : List ℕ). has case.live (get_or ys k 0)) (sym listed) ∙ sym c.is_live.ensures ∙ w.if-is_live.false) c.loop-option.invariant.tried);
      }
    ]

pub keep_if_said-requires-2-clause-stuck : goal.keep_if_said-requires-2-clause-stuck
keep_if_said-requires-2-clause-stuck t c =
    let p = c.args.self.now in
    let item = c.in-Some-Branch.item in
    let listed : c.options_naming-option-items.result.now ≡ options_naming p item = c.options_naming-option-items.ensures ∙ ap (λ (z : Problem). options_naming z item) c.self.view_is in
    let end : length (options_naming p item) ≤ c.loop-option.option-index = omega (arith, c.loop-option-test.false, ap length listed) in
    subst (λ (z : Problem). AreStuckIn z c.args.case.now c.loop-option.used) (sym c.loop-option.invariant.same)
    (tried_all p c.args.case.now item (options_naming p item) c.loop-option.option-index c.loop-option.used refl end c.loop-option.invariant.tried)

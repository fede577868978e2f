use Rattle.std.proofs.Common.{◌≡◌, ℕ, ◌∷◌, ◌++◌, [], List, length, get_or, arith, inl, inr, ap, ◌∙◌, subst, sym, length-append}
use Rattle.std.proofs.lemmas.Bool.{cases_lt}
use Rattle.std.proofs.lemmas.List.{get_or_append_left}
use Rattle.std.proofs.Math.Seq.{get_or-append_seam}
use Rattle.live_sets.specs.Planes.{IsMask}
use Rattle.live_sets.proofs.Masked.{mask_is}
use Rattle.live_sets.proofs.plane_counts.masks_of.Goals as goal

pub loop-option-preserved : goal.loop-option-preserved
loop-option-preserved c =
    let more : c.push.new.self.items ≡ c.loop-option.masks.items ++ c.mask_of.result ∷ [] = c.in_ok-push.ensures.items in
    let long : length c.loop-option.masks.items ≡ c.loop-option.option = c.loop-option.invariant.long in
    record {
      long = ap length more ∙ omega (arith, long, length-append c.loop-option.masks.items (c.mask_of.result ∷ []));
      each = λ o low.
          let P : List ℕ → Type 0 = λ ms. IsMask c.args.sets.now c.args.first o (get_or ms o 0) in
          subst P (sym more) (elim (cases_lt o c.loop-option.option) [
            | inl before ↦
                let Q : ℕ → Type 0 = λ m. IsMask c.args.sets.now c.args.first o m in
                subst Q (sym (get_or_append_left c.loop-option.masks.items (c.mask_of.result ∷ []) 0 o (omega (arith, before, long)))) (c.loop-option.invariant.each o before)
            | inr last ↦
                let at : o ≡ c.loop-option.option = omega (arith, low, last) in
                let here : get_or (c.loop-option.masks.items ++ c.mask_of.result ∷ []) c.loop-option.option 0 ≡ c.mask_of.result =
                ap (λ n. get_or (c.loop-option.masks.items ++ c.mask_of.result ∷ []) n 0) (sym long) ∙ get_or-append_seam c.loop-option.masks.items c.mask_of.result [] 0 in
                let R : ℕ → Type 0 = λ n. IsMask c.args.sets.now c.args.first n (get_or (c.loop-option.masks.items ++ c.mask_of.result ∷ []) n 0) in
                let S : ℕ → Type 0 = λ m. IsMask c.args.sets.now c.args.first c.loop-option.option m in
                subst R (sym at)
                (subst S (sym here) (mask_is c.args.sets.now c.args.first c.loop-option.option c.mask_of.result c.primary_items.result.now c.primary_items.ensures c.mask_of.ensures))
          ]);
    }

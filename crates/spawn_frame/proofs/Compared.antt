-- Lists of options that are compared from the last one on, or written in that order.
use Rattle.std.proofs.Common.{◌≡◌, ℕ, false, List, [], ◌∷◌, ◌++◌, reverse, refl, sym, ap, ◌∙◌}
use Rattle.std.specs.Str.{bytes_eq}
use Rattle.std.proofs.lemmas.Bool.{false_from_ne_true}
use Rattle.std.proofs.lemmas.List.{append_cancel_right, reverse-append}
use Rattle.std.proofs.lemmas.Slice.Eq.{bytes_eq-Decides}
use Rattle.cover_problem.proofs.Basics.{same_truth}

same_ends : (xs ys : List ℕ) (x : ℕ) → bytes_eq (xs ++ x ∷ []) (ys ++ x ∷ []) ≡ bytes_eq xs ys
same_ends xs ys x = same_truth (bytes_eq (xs ++ x ∷ []) (ys ++ x ∷ [])) (bytes_eq xs ys)
    (λ t. (bytes_eq-Decides xs ys).1 (append_cancel_right xs ys (x ∷ []) ((bytes_eq-Decides (xs ++ x ∷ []) (ys ++ x ∷ [])).0 t)))
    (λ t. (bytes_eq-Decides (xs ++ x ∷ []) (ys ++ x ∷ [])).1 (ap (λ l. l ++ x ∷ []) ((bytes_eq-Decides xs ys).0 t)))

-- with the same option at the end, what stands before decides
pub same_longer : (path before left rest : List ℕ) (x y : ℕ) → path ≡ before ++ x ∷ [] → left ≡ rest ++ y ∷ [] → y ≡ x → bytes_eq path left ≡ bytes_eq before rest
same_longer path before left rest x y p l e = (λ i. bytes_eq (p i) ((l ∙ ap (λ z. rest ++ z ∷ []) e) i)) ∙ same_ends before rest x

first_is : (x y : ℕ) (xs ys : List ℕ) → x ∷ xs ≡ y ∷ ys → y ≡ x
first_is x y xs ys e = cc

-- with another option at the end they differ
pub other_longer : (path before left rest : List ℕ) (x y : ℕ) → path ≡ before ++ x ∷ [] → left ≡ rest ++ y ∷ [] → (y ≡ x → ⊥) → bytes_eq path left ≡ false
other_longer path before left rest x y p l d = false_from_ne_true (bytes_eq path left) (λ t.
    let e : before ++ x ∷ [] ≡ rest ++ y ∷ [] = sym p ∙ (bytes_eq-Decides path left).0 t ∙ l in
    d (first_is x y (reverse before) (reverse rest) (sym (reverse-append before (x ∷ [])) ∙ ap reverse e ∙ reverse-append rest (y ∷ []))))

-- and they differ where nothing is left
pub none_longer : (path before left : List ℕ) (x : ℕ) → path ≡ before ++ x ∷ [] → left ≡ [] → bytes_eq path left ≡ false
none_longer path before left x p l = (λ i. bytes_eq (p i) (l i)) ∙ longer before
  where
    longer : (xs : List ℕ) → bytes_eq (xs ++ x ∷ []) [] ≡ false
    longer [] = refl
    longer (y ∷ ys) = refl

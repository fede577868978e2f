-- Which serials the children of a unit have.
use Rattle.std.proofs.Common.{◌≡◌, ℕ, zero, suc, ◌+◌, ◌<◌, ◌≤◌, false, List, [], ◌∷◌, ◌++◌, length, Some, slice_get, refl, sym, ◌∙◌, arith}
use Rattle.std.proofs.lemmas.Option.{none-some}
use Rattle.std.proofs.lemmas.Bool.{both_ways, or_parts}
use Rattle.spawn_frame.specs.Frames.{is_unit}
use Rattle.spawn_frame.specs.Tables.{AreChildren, parent_in}
use Rattle.spawn_frame.specs.Units.{Entry, change_at}
use Rattle.spawn_frame.specs.Works.{has_child}
use Rattle.spawn_frame.specs.declared.unit.Unit.{Unit as WorkUnit}
use Rattle.spawn_frame.proofs.Sames.{parent_self}
use Rattle.spawn_frame.proofs.Spawned.{news}

-- they stay where each parent does
pub children_stay : (unit : WorkUnit) (old new : List Entry) (first end : ℕ) → ((k : ℕ) → parent_in (slice_get new k) ≡ parent_in (slice_get old k)) → AreChildren unit old first end → AreChildren unit new first end
children_stay unit old new first end same h = record {
  each = λ k l r. same k ∙ h.each k l r;
  only = λ k p. h.only k (sym (same k) ∙ p);
}

-- a change of which no parent is part
pub same_parents : (f : Entry → Entry) → ((c : Entry) → (f c).parent ≡ c.parent) → (own : List Entry) (k j : ℕ) → parent_in (slice_get (change_at f own k) j) ≡ parent_in (slice_get own j)
same_parents f same [] k j = refl
same_parents f same (c ∷ cs) zero zero = same c
same_parents f same (c ∷ cs) zero (suc j) = refl
same_parents f same (c ∷ cs) (suc k) zero = refl
same_parents f same (c ∷ cs) (suc k) (suc j) = same_parents f same cs k j

no_child : (unit : WorkUnit) (own : List Entry) → has_child unit own ≡ false → (k : ℕ) → parent_in (slice_get own k) ≡ Some unit → ⊥
no_child unit [] h k p = none-some unit p
no_child unit (c ∷ cs) h zero p =
    both_ways (is_unit c.parent unit) (or_parts (is_unit c.parent unit) (has_child unit cs) h).0 (parent_self c.parent unit p)
no_child unit (c ∷ cs) h (suc k) p = no_child unit cs (or_parts (is_unit c.parent unit) (has_child unit cs) h).1 k p

pub no_children : (unit : WorkUnit) (own : List Entry) (end : ℕ) → has_child unit own ≡ false → AreChildren unit own end end
no_children unit own end h = record {
  each = λ k l r. absurd (omega (arith, l, r));
  only = λ k p. absurd (no_child unit own h k p);
}

-- ---- own children, with others behind them

in_front : (unit : WorkUnit) (xs ys : List Entry) (k : ℕ) → parent_in (slice_get xs k) ≡ Some unit → parent_in (slice_get (xs ++ ys) k) ≡ Some unit
in_front unit [] ys k p = absurd (none-some unit p)
in_front unit (x ∷ xs) ys zero p = p
in_front unit (x ∷ xs) ys (suc k) p = in_front unit xs ys k p

not_behind : (unit : WorkUnit) (xs ys : List Entry) → has_child unit ys ≡ false → (k : ℕ) → parent_in (slice_get (xs ++ ys) k) ≡ Some unit → parent_in (slice_get xs k) ≡ Some unit
not_behind unit [] ys h k p = absurd (no_child unit ys h k p)
not_behind unit (x ∷ xs) ys h zero p = p
not_behind unit (x ∷ xs) ys h (suc k) p = not_behind unit xs ys h k p

-- those of a unit to which no others belong
pub children_of_others : (unit : WorkUnit) (xs ys : List Entry) (first end : ℕ) → has_child unit ys ≡ false → AreChildren unit xs first end → AreChildren unit (xs ++ ys) first end
children_of_others unit xs ys first end h are = record {
  each = λ k l r. in_front unit xs ys k (are.each k l r);
  only = λ k p. are.only k (not_behind unit xs ys h k p);
}

each_new : (unit : WorkUnit) (xs : List Entry) (ps : List (List ℕ)) (k : ℕ) → length xs ≤ k → k < length xs + length ps → parent_in (slice_get (xs ++ news unit ps) k) ≡ Some unit
each_new unit [] [] k l r = absurd (omega (arith, r))
each_new unit [] (p ∷ ps) zero l r = refl
each_new unit [] (p ∷ ps) (suc k) l r = each_new unit [] ps k (omega arith) (omega (arith, r))
each_new unit (x ∷ xs) ps zero l r = absurd (omega (arith, l))
each_new unit (x ∷ xs) ps (suc k) l r = each_new unit xs ps k (omega (arith, l)) (omega (arith, r))

only_new : (unit : WorkUnit) (xs : List Entry) (ps : List (List ℕ)) → has_child unit xs ≡ false → (k : ℕ) → parent_in (slice_get (xs ++ news unit ps) k) ≡ Some unit → (length xs ≤ k) × (k < length xs + length ps)
only_new unit [] [] h k p = absurd (none-some unit p)
only_new unit [] (q ∷ ps) h zero p = (omega arith, omega arith)
only_new unit [] (q ∷ ps) h (suc k) p = let rest = only_new unit [] ps h k p in (omega arith, omega (arith, rest.1))
only_new unit (x ∷ xs) ps h zero p =
    absurd (both_ways (is_unit x.parent unit) (or_parts (is_unit x.parent unit) (has_child unit xs) h).0 (parent_self x.parent unit p))
only_new unit (x ∷ xs) ps h (suc k) p =
    let rest = only_new unit xs ps (or_parts (is_unit x.parent unit) (has_child unit xs) h).1 k p in
    (omega (arith, rest.0), omega (arith, rest.1))

-- those of the unit to which all behind belong
pub children_new : (unit : WorkUnit) (xs : List Entry) (ps : List (List ℕ)) → has_child unit xs ≡ false → AreChildren unit (xs ++ news unit ps) (length xs) (length xs + length ps)
children_new unit xs ps h = record {
  each = λ k l r. each_new unit xs ps k l r;
  only = λ k p. only_new unit xs ps h k p;
}

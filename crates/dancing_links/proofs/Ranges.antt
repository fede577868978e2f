-- The nodes of an option, in the table of a problem.
use Rattle.std.proofs.Common.{◌≡◌, ℕ, suc, ◌+◌, ◌-◌, ◌<◌, ◌≤◌, List, [], ◌∷◌, length, get_or, map, refl, arith, sym, ap, ◌∙◌, subst}
use Rattle.std.specs.List.{range_with_len}
use Rattle.cover_problem.specs.Problem.{Problem, IsProblem, items_of}
use Rattle.dancing_links.specs.Columns.{Columns, column_of, IsTable}
use Rattle.dancing_links.specs.Covering.{items_from}
use Rattle.dancing_links.specs.Table.{base_of, table}
use Rattle.dancing_links.proofs.Nodes.{starts_next, starts_low, starts_high, first_at, length-first_list}
use Rattle.dancing_links.proofs.Tables.{table_is, start_of, node_by}

map_range_is : (f : ℕ → ℕ) (xs : List ℕ) (a : ℕ) → ((j : ℕ) → j < length xs → f (a + j) ≡ get_or xs j 0) → map f (range_with_len a (length xs)) ≡ xs
map_range_is f [] a at = refl
map_range_is f (x ∷ xs) a at =
    let here : f a ≡ x = ap f (omega arith) ∙ at 0 (omega arith) in
    let rest = map_range_is f xs (a + 1) (λ j h. ap f (omega arith) ∙ at (suc j) (omega (arith, h))) in
    rw (here, rest) refl

-- the nodes of an option, in a table
pub record IsRange (p : Problem) (c : Columns) (o begin end : ℕ) : Type 0 where
  pub low : c.heads + c.heads ≤ begin + 1
  pub order : begin ≤ end
  pub high : end ≤ c.tails
  pub items : items_from c begin end ≡ items_of p o

pub first_room : (p : Problem) (c : Columns) (o : ℕ) → c ≡ table p → o < length p.options → o + 1 < length c.first
first_room p c o e h = omega (arith, ap (λ (t : Columns). length t.first) e, length-first_list p, h)

pub range_at : (p : Problem) (o begin end : ℕ) → o < length p.options → begin ≡ start_of p o → end ≡ start_of p o + length (items_of p o) → IsRange p (table p) o begin end
unfolding items_from
range_at p o begin end h b e =
    let low = starts_low (base_of p) p.options o (omega (arith, h)) in
    let next = starts_next (base_of p) p.options o h in
    let last = starts_high (base_of p) p.options (o + 1) (omega (arith, h)) in
    let count : end - begin ≡ length (items_of p o) = omega (arith, b, e) in
    record {
      low = omega (arith, b, low);
      order = omega (arith, b, e);
      high = omega (arith, e, next, last);
      items =
          ap (λ n. map (column_of (table p)) (range_with_len begin n)) count
          ∙ map_range_is (column_of (table p)) (items_of p o) begin (λ j lt. (node_by p (begin + j) o j h lt (ap (λ n. n + j) b)).item);
    }

pub range_of : (p : Problem) (c : Columns) (o begin end : ℕ) → c ≡ table p → o < length p.options → begin ≡ get_or c.first o 0 → end ≡ get_or c.first (o + 1) 0 → IsRange p c o begin end
range_of p c o begin end same h b e =
    let P : Columns → Type 0 = λ t. IsRange p t o begin end in
    let at : begin ≡ start_of p o = b ∙ ap (λ (t : Columns). get_or t.first o 0) same ∙ first_at p o (omega (arith, h)) in
    let next : end ≡ start_of p o + length (items_of p o) = e ∙ ap (λ (t : Columns). get_or t.first (o + 1) 0) same ∙ first_at p (o + 1) (omega (arith, h)) ∙ starts_next (base_of p) p.options o h in
    subst P (sym same) (range_at p o begin end h at next)

pub table_of : (p : Problem) (c : Columns) → IsProblem p → c ≡ table p → IsTable c
table_of p c is same = let P : Columns → Type 0 = λ t. IsTable t in subst P (sym same) (table_is p is)

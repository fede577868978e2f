-- There is one way to link columns from which nothing is out.
use Rattle.std.proofs.Common.{◌≡◌, ℕ, ◌+◌, ◌<◌, ◌⊎◌, List, [], length, refl, arith, sym, ap, ◌∙◌, inl, inr}
use Rattle.std.proofs.lemmas.List.{get_or_past}
use Rattle.std.proofs.lemmas.List.Elements.{All-get_or}
use Rattle.std.proofs.lemmas.Bool.{cases_lt, cases_order, both_ways}
use Rattle.dancing_links.specs.declared.link.Link.{Link}
use Rattle.dancing_links.specs.Columns.{among, Columns, column_of, IsNext, IsTable}
use Rattle.dancing_links.specs.Building.{IsBuilt}
use Rattle.dancing_links.specs.Linking.{up_of, down_of}
use Rattle.dancing_links.proofs.Law.{same_links}

one_next : (c : Columns) (out : List ℕ) (x d e : ℕ) → IsNext c out x d → IsNext c out x e → d ≡ e
one_next c out x d e a b = elim (cases_order d e) [
  | inl same ↦ same
  | inr ne ↦ elim ne [
    | inl less ↦ absurd (both_ways (among out d) a.in_down (b.nearest d a.below less a.column))
    | inr more ↦ absurd (both_ways (among out e) b.in_down (a.nearest e b.below more b.column))
  ]
]

one_before : (c : Columns) (out : List ℕ) (u v x : ℕ) → IsNext c out u x → IsNext c out v x → u ≡ v
one_before c out u v x a b = elim (cases_order u v) [
  | inl same ↦ same
  | inr ne ↦ elim ne [
    | inl less ↦ absurd (both_ways (among out v) b.in_up (a.nearest v less b.below (sym b.column ∙ a.column)))
    | inr more ↦ absurd (both_ways (among out u) a.in_up (b.nearest u more a.below (sym a.column ∙ b.column)))
  ]
]

-- a column is that of an item, or that of the items
pub two_columns : (c : Columns) (k : ℕ) → IsTable c → k < length c.column → (column_of c k + 1 < c.heads) ⊎ (column_of c k + 1 ≡ c.heads)
two_columns c k t inside = elim (cases_lt (column_of c k + 1) c.heads) [
  | inl less ↦ inl less
  | inr more ↦
      let P : ℕ → Type 0 = λ i. i < c.heads in
      let below : column_of c k < c.heads = All-get_or P c.column k 0 inside t.each_column in
      inr (omega (arith, more, below))
]

-- links as they are built are equal
pub one_built : (c : Columns) (m n : List Link) → IsTable c → IsBuilt c m → IsBuilt c n → m ≡ n
one_built c m n t a b = same_links m n (a.spelled.count ∙ sym b.spelled.count)
    (λ k. elim (cases_lt k c.heads) [
      | inl low ↦ a.heads_up k low ∙ sym (b.heads_up k low)
      | inr high ↦ elim (cases_lt k (length c.column)) [
        | inl inside ↦ elim (two_columns c k t inside) [
          | inl item ↦ one_before c [] (up_of m k) (up_of n k) k (a.spelled.up k high inside item refl) (b.spelled.up k high inside item refl)
          | inr items ↦ one_before c [] (up_of m k) (up_of n k) k (a.items_up k high inside items) (b.items_up k high inside items)
        ]
        | inr past ↦
            let at : (links : List Link) → length links ≡ length c.column → up_of links k ≡ 0 = (λ links e. let U : Link → ℕ = λ l. l.up in ap U (get_or_past links k (record { up = 0; down = 0 }) (omega (arith, e, past)))) in
            at m a.spelled.count ∙ sym (at n b.spelled.count)
      ]
    ])
    (λ k. elim (cases_lt k c.tails) [
      | inl high ↦ elim (two_columns c k t (omega (arith, high, t.ends))) [
        | inl item ↦ one_next c [] k (down_of m k) (down_of n k) (a.spelled.down k high item refl) (b.spelled.down k high item refl)
        | inr items ↦ one_next c [] k (down_of m k) (down_of n k) (a.items_down k high items) (b.items_down k high items)
      ]
      | inr past ↦ a.tails_down k past ∙ sym (b.tails_down k past)
    ])

-- The law of two lines: a node that is put back right after it was taken out leaves all links as they were.
use Rattle.std.proofs.Common.{◌≡◌, ℕ, suc, ◌+◌, ◌<◌, ◌≤◌, List, [], ◌∷◌, length, true, false, ◌==◌, refl, sym, ap, ◌∙◌, arith, inl, inr}
use Rattle.std.proofs.lemmas.List.{length-set, get_or-set_same, get_or-set_other}
use Rattle.std.proofs.lemmas.Bool.{cases_eq, cases_Bool, eq-eqb, ne_eqb, eqb-false, both_ways, or_left, or_right, cases_order}
use Rattle.dancing_links.specs.Columns.{among, Columns, column_of, IsNext, IsSpelled}
use Rattle.dancing_links.specs.Linking.{up_of, down_of, with_up, with_down, unlinked, relinked}
use Rattle.dancing_links.specs.declared.link.Link.{Link}

none : Link
none = record { up = 0; down = 0 }

abbrev up : Link → ℕ
up l = l.up

abbrev down : Link → ℕ
down l = l.down

pub up-with_up_same : (m : List Link) (k u : ℕ) → k < length m → up_of (with_up m k u) k ≡ u
unfolding with_up
up-with_up_same m k u h = ap up (get_or-set_same m k (record { up = u; down = down_of m k }) (record { up = 0; down = 0 }) h)

pub up-with_up_other : (m : List Link) (k u j : ℕ) → (j ≡ k → ⊥) → up_of (with_up m k u) j ≡ up_of m j
unfolding with_up
up-with_up_other m k u j ne = ap up (get_or-set_other m k j (record { up = u; down = down_of m k }) (record { up = 0; down = 0 }) ne)

pub down-with_up : (m : List Link) (k u j : ℕ) → k < length m → down_of (with_up m k u) j ≡ down_of m j
unfolding with_up
down-with_up m k u j h = elim (cases_eq j k) [
  | inl e ↦ ap (down_of (with_up m k u)) e ∙ ap down (get_or-set_same m k (record { up = u; down = down_of m k }) (record { up = 0; down = 0 }) h) ∙ ap (down_of m) (sym e)
  | inr ne ↦ ap down (get_or-set_other m k j (record { up = u; down = down_of m k }) (record { up = 0; down = 0 }) ne)
]

pub down-with_down_same : (m : List Link) (k d : ℕ) → k < length m → down_of (with_down m k d) k ≡ d
unfolding with_down
down-with_down_same m k d h = ap down (get_or-set_same m k (record { up = up_of m k; down = d }) (record { up = 0; down = 0 }) h)

pub down-with_down_other : (m : List Link) (k d j : ℕ) → (j ≡ k → ⊥) → down_of (with_down m k d) j ≡ down_of m j
unfolding with_down
down-with_down_other m k d j ne = ap down (get_or-set_other m k j (record { up = up_of m k; down = d }) (record { up = 0; down = 0 }) ne)

pub up-with_down : (m : List Link) (k d j : ℕ) → k < length m → up_of (with_down m k d) j ≡ up_of m j
unfolding with_down
up-with_down m k d j h = elim (cases_eq j k) [
  | inl e ↦ ap (up_of (with_down m k d)) e ∙ ap up (get_or-set_same m k (record { up = up_of m k; down = d }) (record { up = 0; down = 0 }) h) ∙ ap (up_of m) (sym e)
  | inr ne ↦ ap up (get_or-set_other m k j (record { up = up_of m k; down = d }) (record { up = 0; down = 0 }) ne)
]

pub length-with_up : (m : List Link) (k u : ℕ) → length (with_up m k u) ≡ length m
unfolding with_up
length-with_up m k u = length-set m k _

pub length-with_down : (m : List Link) (k d : ℕ) → length (with_down m k d) ≡ length m
unfolding with_down
length-with_down m k d = length-set m k _

link_eq : (x y : Link) → x.up ≡ y.up → x.down ≡ y.down → x ≡ y
link_eq x y ups downs =
    let U : ℕ → Link = λ u. record { up = u; down = x.down } in
    let D : ℕ → Link = λ d. record { up = y.up; down = d } in
    ap U ups ∙ ap D downs

-- links are known by where they lead
pub same_links : (m n : List Link) → length m ≡ length n → ((k : ℕ) → up_of m k ≡ up_of n k) → ((k : ℕ) → down_of m k ≡ down_of n k) → m ≡ n
same_links [] [] len ups downs = refl
same_links [] (y ∷ n) len ups downs = absurd (omega (arith, len))
same_links (x ∷ m) [] len ups downs = absurd (omega (arith, len))
same_links (x ∷ m) (y ∷ n) len ups downs =
    rw (link_eq x y (ups 0) (downs 0), same_links m n (omega (arith, len)) (λ k. ups (suc k)) (λ k. downs (suc k))) refl

pub length-unlinked : (m : List Link) (x : ℕ) → length (unlinked m x) ≡ length m
unfolding unlinked
length-unlinked m x = length-with_up (with_down m (up_of m x) (down_of m x)) (down_of m x) (up_of m x) ∙ length-with_down m (up_of m x) (down_of m x)

pub length-relinked : (m : List Link) (x : ℕ) → length (relinked m x) ≡ length m
unfolding relinked
length-relinked m x = length-with_up (with_down m (up_of m x) x) (down_of m x) x ∙ length-with_down m (up_of m x) x

pub down-unlinked_at : (m : List Link) (x : ℕ) → up_of m x < length m → down_of m x < length m → down_of (unlinked m x) (up_of m x) ≡ down_of m x
unfolding unlinked
down-unlinked_at m x hu hd =
    down-with_up (with_down m (up_of m x) (down_of m x)) (down_of m x) (up_of m x) (up_of m x) (omega (arith, length-with_down m (up_of m x) (down_of m x)))
    ∙ down-with_down_same m (up_of m x) (down_of m x) hu

pub down-unlinked_other : (m : List Link) (x j : ℕ) → down_of m x < length m → (j ≡ up_of m x → ⊥) → down_of (unlinked m x) j ≡ down_of m j
unfolding unlinked
down-unlinked_other m x j hd ne =
    down-with_up (with_down m (up_of m x) (down_of m x)) (down_of m x) (up_of m x) j (omega (arith, length-with_down m (up_of m x) (down_of m x)))
    ∙ down-with_down_other m (up_of m x) (down_of m x) j ne

pub up-unlinked_at : (m : List Link) (x : ℕ) → up_of m x < length m → down_of m x < length m → up_of (unlinked m x) (down_of m x) ≡ up_of m x
unfolding unlinked
up-unlinked_at m x hu hd =
    up-with_up_same (with_down m (up_of m x) (down_of m x)) (down_of m x) (up_of m x) (omega (arith, length-with_down m (up_of m x) (down_of m x)))

pub up-unlinked_other : (m : List Link) (x j : ℕ) → up_of m x < length m → (j ≡ down_of m x → ⊥) → up_of (unlinked m x) j ≡ up_of m j
unfolding unlinked
up-unlinked_other m x j hu ne =
    up-with_up_other (with_down m (up_of m x) (down_of m x)) (down_of m x) (up_of m x) j ne
    ∙ up-with_down m (up_of m x) (down_of m x) j hu

pub down-relinked_at : (m : List Link) (x : ℕ) → up_of m x < length m → down_of m x < length m → down_of (relinked m x) (up_of m x) ≡ x
unfolding relinked
down-relinked_at m x hu hd =
    down-with_up (with_down m (up_of m x) x) (down_of m x) x (up_of m x) (omega (arith, length-with_down m (up_of m x) x))
    ∙ down-with_down_same m (up_of m x) x hu

pub down-relinked_other : (m : List Link) (x j : ℕ) → down_of m x < length m → (j ≡ up_of m x → ⊥) → down_of (relinked m x) j ≡ down_of m j
unfolding relinked
down-relinked_other m x j hd ne =
    down-with_up (with_down m (up_of m x) x) (down_of m x) x j (omega (arith, length-with_down m (up_of m x) x))
    ∙ down-with_down_other m (up_of m x) x j ne

pub up-relinked_at : (m : List Link) (x : ℕ) → up_of m x < length m → down_of m x < length m → up_of (relinked m x) (down_of m x) ≡ x
unfolding relinked
up-relinked_at m x hu hd =
    up-with_up_same (with_down m (up_of m x) x) (down_of m x) x (omega (arith, length-with_down m (up_of m x) x))

pub up-relinked_other : (m : List Link) (x j : ℕ) → up_of m x < length m → (j ≡ down_of m x → ⊥) → up_of (relinked m x) j ≡ up_of m j
unfolding relinked
up-relinked_other m x j hu ne =
    up-with_up_other (with_down m (up_of m x) x) (down_of m x) x j ne
    ∙ up-with_down m (up_of m x) x j hu

-- what the two lines need: the neighbours of a node are others, and know it
pub record IsBetween (m : List Link) (x : ℕ) : Type 0 where
  pub up_in : up_of m x < length m
  pub down_in : down_of m x < length m
  pub from_up : down_of m (up_of m x) ≡ x
  pub from_down : up_of m (down_of m x) ≡ x
  pub up_other : x ≡ up_of m x → ⊥
  pub down_other : x ≡ down_of m x → ⊥

pub relink_unlink : (m : List Link) (x : ℕ) → IsBetween m x → relinked (unlinked m x) x ≡ m
relink_unlink m x b =
    let same_up : up_of (unlinked m x) x ≡ up_of m x = up-unlinked_other m x x b.up_in b.down_other in
    let same_down : down_of (unlinked m x) x ≡ down_of m x = down-unlinked_other m x x b.down_in b.up_other in
    let len = length-unlinked m x in
    let hu : up_of (unlinked m x) x < length (unlinked m x) = rw (same_up, len) b.up_in in
    let hd : down_of (unlinked m x) x < length (unlinked m x) = rw (same_down, len) b.down_in in
    same_links (relinked (unlinked m x) x) m (length-relinked (unlinked m x) x ∙ len)
    (λ k. elim (cases_eq k (down_of m x)) [
      | inl e ↦ ap (up_of (relinked (unlinked m x) x)) (e ∙ sym same_down) ∙ up-relinked_at (unlinked m x) x hu hd ∙ sym b.from_down ∙ ap (up_of m) (sym e)
      | inr ne ↦ up-relinked_other (unlinked m x) x k hu (λ e. ne (e ∙ same_down)) ∙ up-unlinked_other m x k b.up_in ne
    ])
    (λ k. elim (cases_eq k (up_of m x)) [
      | inl e ↦ ap (down_of (relinked (unlinked m x) x)) (e ∙ sym same_up) ∙ down-relinked_at (unlinked m x) x hu hd ∙ sym b.from_up ∙ ap (down_of m) (sym e)
      | inr ne ↦ down-relinked_other (unlinked m x) x k hd (λ e. ne (e ∙ same_up)) ∙ down-unlinked_other m x k b.down_in ne
    ])

-- columns that are spelled: a node's neighbours know it
pub from_down : (c : Columns) (out : List ℕ) (m : List Link) (x : ℕ) → IsSpelled c out m → x < c.tails → column_of c x + 1 < c.heads → among out x ≡ false → up_of m (down_of m x) ≡ x
from_down c out m x s high own here =
    let d = s.down x high own here in
    let u = s.up (down_of m x) d.low d.inside (omega (arith, d.column, own)) d.in_down in
    elim (cases_order (up_of m (down_of m x)) x) [
      | inl e ↦ e
      | inr ne ↦ elim ne [
        | inl less ↦ absurd (both_ways (among out x) here (u.nearest x less d.below (sym d.column ∙ u.column)))
        | inr more ↦ absurd (both_ways (among out (up_of m (down_of m x))) u.in_up (d.nearest (up_of m (down_of m x)) more u.below (sym u.column ∙ d.column)))
      ]
    ]

pub from_up : (c : Columns) (out : List ℕ) (m : List Link) (x : ℕ) → IsSpelled c out m → c.heads ≤ x → x < length c.column → column_of c x + 1 < c.heads → among out x ≡ false → down_of m (up_of m x) ≡ x
from_up c out m x s low inside own here =
    let u = s.up x low inside own here in
    let d = s.down (up_of m x) u.high (omega (arith, u.column, own)) u.in_up in
    elim (cases_order (down_of m (up_of m x)) x) [
      | inl e ↦ e
      | inr ne ↦ elim ne [
        | inl less ↦ absurd (both_ways (among out (down_of m (up_of m x))) d.in_down (u.nearest (down_of m (up_of m x)) d.below less d.column))
        | inr more ↦ absurd (both_ways (among out x) here (d.nearest x u.below more (u.column)))
      ]
    ]

pub between : (c : Columns) (out : List ℕ) (m : List Link) (x : ℕ) → IsSpelled c out m → c.heads ≤ x → x < c.tails → column_of c x + 1 < c.heads → among out x ≡ false → IsBetween m x
between c out m x s low high own here =
    let d = s.down x high own here in
    let u = s.up x low (omega (arith, s.ends)) own here in
    record {
      up_in = omega (arith, u.below, s.ends, s.count);
      down_in = omega (arith, d.inside, s.count);
      from_up = from_up c out m x s low (omega (arith, s.ends)) own here;
      from_down = from_down c out m x s high own here;
      up_other = λ e. omega (arith, e, u.below);
      down_other = λ e. omega (arith, e, d.below);
    }

pub out_other : (out : List ℕ) (x y : ℕ) → among (x ∷ out) y ≡ false → (among out y ≡ false) × (y ≡ x → ⊥)
out_other out x y h = elim (cases_Bool (x == y)) [
  | inl t ↦ absurd (both_ways (among (x ∷ out) y) h (or_left (x == y) (among out y) t))
  | inr f ↦ elim (cases_Bool (among out y)) [
    | inl t ↦ absurd (both_ways (among (x ∷ out) y) h (or_right (x == y) (among out y) t))
    | inr g ↦ (g, λ e. eqb-false x y f (sym e))
  ]
]

pub in_other : (out : List ℕ) (x y : ℕ) → among out y ≡ false → (y ≡ x → ⊥) → among (x ∷ out) y ≡ false
in_other out x y h ne = rw (ne_eqb x y (λ e. ne (sym e)), h) refl

pub out_more : (out : List ℕ) (x y : ℕ) → among out y ≡ true → among (x ∷ out) y ≡ true
out_more out x y h = or_right (x == y) (among out y) h

-- the neighbours of a node that is taken out become next to each other
next_over : (c : Columns) (out : List ℕ) (u x d : ℕ) → IsNext c out u x → IsNext c out x d → IsNext c (x ∷ out) u d
next_over c out u x d first second = record {
  below = omega (arith, first.below, second.below);
  low = second.low;
  high = first.high;
  inside = second.inside;
  column = second.column ∙ first.column;
  in_up = in_other out x u first.in_up (λ e. omega (arith, e, first.below));
  in_down = in_other out x d second.in_down (λ e. omega (arith, e, second.below));
  nearest = λ y above below same. elim (cases_order y x) [
    | inl e ↦ or_left (x == y) (among out y) (eq-eqb x y (sym e))
    | inr ne ↦ elim ne [
      | inl less ↦ out_more out x y (first.nearest y above less same)
      | inr more ↦ out_more out x y (second.nearest y more below (same ∙ sym first.column))
    ]
  ];
}

-- other neighbours stay so
next_stays : (c : Columns) (out : List ℕ) (x y d : ℕ) → IsNext c out y d → (y ≡ x → ⊥) → (d ≡ x → ⊥) → IsNext c (x ∷ out) y d
next_stays c out x y d next ne_up ne_down = record {
  below = next.below;
  low = next.low;
  high = next.high;
  inside = next.inside;
  column = next.column;
  in_up = in_other out x y next.in_up ne_up;
  in_down = in_other out x d next.in_down ne_down;
  nearest = λ z above below same. out_more out x z (next.nearest z above below same);
}

pub spelled_unlink : (c : Columns) (out : List ℕ) (m : List Link) (x : ℕ) → IsSpelled c out m → c.heads ≤ x → x < c.tails → column_of c x + 1 < c.heads → among out x ≡ false → IsSpelled c (x ∷ out) (unlinked m x)
spelled_unlink c out m x s low high own here =
    let b = between c out m x s low high own here in
    let d = s.down x high own here in
    let u = s.up x low (omega (arith, s.ends)) own here in
    record {
      count = length-unlinked m x ∙ s.count;
      order = s.order;
      ends = s.ends;
      heads_in = λ y lt. in_other out x y (s.heads_in y lt) (λ e. omega (arith, e));
      tails_in = λ y le. in_other out x y (s.tails_in y le) (λ e. omega (arith, e));
      down = λ y above own_y out_y.
          let other = out_other out x y out_y in
          let next = s.down y above own_y other.0 in
          elim (cases_eq y (up_of m x)) [
            | inl e ↦
                let over = next_over c out (up_of m x) x (down_of m x) u d in
                let same : down_of (unlinked m x) y ≡ down_of m x = ap (down_of (unlinked m x)) e ∙ down-unlinked_at m x b.up_in b.down_in in
                rw (same, e) over
            | inr ne ↦
                let same : down_of (unlinked m x) y ≡ down_of m y = down-unlinked_other m x y b.down_in ne in
                rw same (next_stays c out x y (down_of m y) next other.1 (λ e. ne (sym (from_down c out m y s above own_y other.0) ∙ ap (up_of m) e)))
          ];
      up = λ y low_y inside_y own_y out_y.
          let other = out_other out x y out_y in
          let next = s.up y low_y inside_y own_y other.0 in
          elim (cases_eq y (down_of m x)) [
            | inl e ↦
                let over = next_over c out (up_of m x) x (down_of m x) u d in
                let same : up_of (unlinked m x) y ≡ up_of m x = ap (up_of (unlinked m x)) e ∙ up-unlinked_at m x b.up_in b.down_in in
                rw (same, e) over
            | inr ne ↦
                let same : up_of (unlinked m x) y ≡ up_of m y = up-unlinked_other m x y b.up_in ne in
                rw same (next_stays c out x (up_of m y) y next (λ e. ne (sym (from_up c out m y s low_y inside_y own_y other.0) ∙ ap (down_of m) e)) other.1)
          ];
    }

-- the node of an item is out as a mark: the columns of items are as they were
pub spelled_mark : (c : Columns) (out : List ℕ) (m : List Link) (x : ℕ) → IsSpelled c out m → c.heads ≤ x → x < c.tails → column_of c x + 1 ≡ c.heads → IsSpelled c (x ∷ out) m
spelled_mark c out m x s low high item = record {
  count = s.count;
  order = s.order;
  ends = s.ends;
  heads_in = λ y lt. in_other out x y (s.heads_in y lt) (λ e. omega (arith, e));
  tails_in = λ y le. in_other out x y (s.tails_in y le) (λ e. omega (arith, e));
  down = λ y above own out_y.
      let other = out_other out x y out_y in
      let next = s.down y above own other.0 in
      next_stays c out x y (down_of m y) next other.1 (λ e. omega (arith, ap (column_of c) e, next.column, item, own));
  up = λ y low_y inside_y own out_y.
      let other = out_other out x y out_y in
      let next = s.up y low_y inside_y own other.0 in
      next_stays c out x (up_of m y) y next (λ e. omega (arith, ap (column_of c) e, next.column, item, own)) other.1;
}

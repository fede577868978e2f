-- Walks over books and their cursors.
use Rattle.std.proofs.Common.{◌≡◌, ℕ, zero, suc, ◌+◌, ◌<◌, ◌≤◌, true, false, List, [], ◌∷◌, length, get_or, Option, Some, None, IfSome, IfNone, slice_get, refl, sym, ap, ◌∙◌, subst, ⊎_elim, arith}
use Rattle.std.proofs.lemmas.Bool.{cases_eq}
use Rattle.std.proofs.lemmas.Option.{none-some, same_Some, slice_get-get_or, slice_get_read, slice_get_within}
use Rattle.packet_wire.specs.declared.packet.Packet.{Packet}
use Rattle.audit.proofs.SiteOrder.{not_before_lesser, not_itself}
use Rattle.audit.specs.Audits.{site_before}
use Rattle.run_book.specs.Books.{Book}
use Rattle.audit.specs.Cursors.{AreUsedUp, IsLeastBelow, IsNext, IsPutOutBefore, LeastLeft, PutOut, Takes}
use Rattle.run_book.specs.Entries.{Entry}

-- ---- what is so of no book below a number

abbrev pub NoneBelow : (Book → ℕ → Type 0) → List Book → List ℕ → ℕ → Type 0
NoneBelow P books cs end =
    (k : ℕ) (book : Book) (c : ℕ) → k < end → slice_get books k ≡ Some book → slice_get cs k ≡ Some c → P book c → ⊥

pub none_first : (P : Book → ℕ → Type 0) (books : List Book) (cs : List ℕ) → NoneBelow P books cs 0
none_first P books cs k book c l e f p = omega (arith, l)

pub none_more : (P : Book → ℕ → Type 0) (books : List Book) (cs : List ℕ) (k : ℕ) (b : Book) (c : ℕ)
    → slice_get books k ≡ Some b → slice_get cs k ≡ Some c → NoneBelow P books cs k → (P b c → ⊥) → NoneBelow P books cs (k + 1)
none_more P books cs k b c here at below not i book d l e f p =
    ⊎_elim
    (λ (same : i ≡ k).
    let book_is : book ≡ b = same_Some book b (sym e ∙ ap (slice_get books) same ∙ here) in
    let cursor_is : d ≡ c = same_Some d c (sym f ∙ ap (slice_get cs) same ∙ at) in
    not (subst (λ x. P x c) book_is (subst (λ x. P book x) cursor_is p)))
    (λ (other : i ≡ k → ⊥). below i book d (omega (arith, l, other)) e f p)
    (cases_eq i k)

pub none_at : (P : Book → ℕ → Type 0) (books : List Book) (cs : List ℕ) (end : ℕ) → length books ≤ end → NoneBelow P books cs end
    → (k : ℕ) (book : Book) (c : ℕ) → slice_get books k ≡ Some book → slice_get cs k ≡ Some c → P book c → ⊥
none_at P books cs end l below k book c e f p = below k book c (omega (arith, l, slice_get_within books k book e)) e f p

pub cursor_at : (books : List Book) (cs : List ℕ) (k : ℕ) → length cs ≡ length books → k < length books → slice_get cs k ≡ Some (get_or cs k 0)
cursor_at books cs k same l = slice_get-get_or cs k 0 (omega (arith, same, l))

-- ---- the least book that is not used up

module _ (books : List Book) (cs : List ℕ) (k : ℕ) (b : Book) (c : ℕ) (here : slice_get books k ≡ Some b) (at : slice_get cs k ≡ Some c) where
  book_there : (i : ℕ) (x : Book) → i ≡ k → slice_get books i ≡ Some x → x ≡ b
  book_there i x same e = same_Some x b (sym e ∙ ap (slice_get books) same ∙ here)

  cursor_there : (i n : ℕ) → i ≡ k → slice_get cs i ≡ Some n → n ≡ c
  cursor_there i n same e = same_Some n c (sym e ∙ ap (slice_get cs) same ∙ at)

  pub least_used : (o : Option ℕ) → IsLeastBelow books cs k o → length b.entries ≤ c → IsLeastBelow books cs (k + 1) o
  least_used None h used = λ i x n l e f.
      ⊎_elim
      (λ (same : i ≡ k). omega (arith, ap (λ y. length y.entries) (book_there i x same e), cursor_there i n same f, used))
      (λ (other : i ≡ k → ⊥). h i x n (omega (arith, l, other)) e f)
      (cases_eq i k)
  least_used (Some best) h used = (
    omega (arith, h.0),
    h.1,
    h.2,
    h.3,
    h.4,
    h.5,
    λ i x n l e f m.
        ⊎_elim
        (λ (same : i ≡ k). absurd (omega (arith, ap (λ y. length y.entries) (book_there i x same e), cursor_there i n same f, used, m)))
        (λ (other : i ≡ k → ⊥). h.6 i x n (omega (arith, l, other)) e f m)
        (cases_eq i k),
  )

  pub least_first : IsLeastBelow books cs k None → c < length b.entries → IsLeastBelow books cs (k + 1) (Some k)
  least_first h more = (
    omega arith,
    b,
    c,
    here,
    at,
    more,
    λ i x n l e f m.
        ⊎_elim
        (λ (same : i ≡ k). subst (λ y. site_before y.site b.site ≡ false) (sym (book_there i x same e)) (not_itself b.site))
        (λ (other : i ≡ k → ⊥). absurd (omega (arith, h i x n (omega (arith, l, other)) e f, m)))
        (cases_eq i k),
  )

  pub least_better : (best : ℕ) (h : IsLeastBelow books cs k (Some best)) → c < length b.entries → site_before b.site h.1.site ≡ true → IsLeastBelow books cs (k + 1) (Some k)
  least_better best h more better = (
    omega arith,
    b,
    c,
    here,
    at,
    more,
    λ i x n l e f m.
        ⊎_elim
        (λ (same : i ≡ k). subst (λ y. site_before y.site b.site ≡ false) (sym (book_there i x same e)) (not_itself b.site))
        (λ (other : i ≡ k → ⊥). not_before_lesser b.site h.1.site x.site better (h.6 i x n (omega (arith, l, other)) e f m))
        (cases_eq i k),
  )

  pub least_worse : (best : ℕ) (h : IsLeastBelow books cs k (Some best)) → site_before b.site h.1.site ≡ false → IsLeastBelow books cs (k + 1) (Some best)
  least_worse best h worse = (
    omega (arith, h.0),
    h.1,
    h.2,
    h.3,
    h.4,
    h.5,
    λ i x n l e f m.
        ⊎_elim
        (λ (same : i ≡ k). subst (λ y. site_before y.site h.1.site ≡ false) (sym (book_there i x same e)) worse)
        (λ (other : i ≡ k → ⊥). h.6 i x n (omega (arith, l, other)) e f m)
        (cases_eq i k),
  )

entry_at : (entries : List Entry) (c : ℕ) → c < length entries → (entry : Entry) × (slice_get entries c ≡ Some entry)
entry_at [] c l = absurd (omega (arith, l))
entry_at (x ∷ xs) zero l = (x, refl)
entry_at (x ∷ xs) (suc c) l = entry_at xs c (omega (arith, l))

pub least_some : (books : List Book) (cs : List ℕ) (end : ℕ) → length books ≤ end → (o : Option ℕ) → IsLeastBelow books cs end o → IfSome o (λ k. (k < length books) × LeastLeft books cs k)
least_some books cs end l None h = tt
least_some books cs end l (Some k) h =
    let a = entry_at h.1.entries h.2 h.5 in (
      slice_get_within books k h.1 h.3,
      record {
        next = record { book = h.1; cursor = h.2; entry = a.0; is = h.3; cursor_is = h.4; entry_is = a.1 };
        least = λ j b c e f m. h.6 j b c (omega (arith, l, slice_get_within books j b e)) e f m;
      },
    )

pub least_none : (books : List Book) (cs : List ℕ) (end : ℕ) → length books ≤ end → (o : Option ℕ) → IsLeastBelow books cs end o → IfNone o (AreUsedUp books cs)
least_none books cs end l None h = λ k b c e f. h k b c (omega (arith, l, slice_get_within books k b e)) e f
least_none books cs end l (Some k) h = tt

-- ---- the entry at a book's cursor

pub record At (books : List Book) (cs : List ℕ) (k : ℕ) (b : Book) (c : ℕ) : Type 0 where
  pub is : slice_get books k ≡ Some b
  pub at : slice_get cs k ≡ Some c

pub at_by : (books : List Book) (cs : List ℕ) (k : ℕ) (b : Book) → length cs ≡ length books → k < length books → b ≡ get_or books k b
    → At books cs k b (get_or cs k 0)
at_by books cs k b same l e = record { is = slice_get_read books (length books) k b refl l e; at = cursor_at books cs k same l }

pub takes_by : (books : List Book) (cs : List ℕ) (k : ℕ) (b : Book) (c : ℕ) (entry : Entry) → At books cs k b c → Some entry ≡ slice_get b.entries c
    → IsNext books cs b.site entry.event → Takes books cs k
takes_by books cs k b c entry h e next =
    record { next = record { book = b; cursor = c; entry = entry; is = h.is; cursor_is = h.at; entry_is = sym e }; is_next = next }

pub takes_next : (books : List Book) (cs : List ℕ) (k : ℕ) (b : Book) (c : ℕ) (entry : Entry) → At books cs k b c → Some entry ≡ slice_get b.entries c
    → Takes books cs k → IsNext books cs b.site entry.event
takes_next books cs k b c entry h e t =
    let book : t.book ≡ b = same_Some t.book b (sym t.is ∙ h.is) in
    let cursor : t.cursor ≡ c = same_Some t.cursor c (sym t.cursor_is ∙ h.at) in
    let same : t.entry ≡ entry = same_Some t.entry entry (sym t.entry_is ∙ (λ i. slice_get (book i).entries (cursor i)) ∙ sym e) in
    subst (λ x. IsNext books cs x.site entry.event) book (subst (λ x. IsNext books cs t.book.site x.event) same t.is_next)

pub takes_none : (books : List Book) (cs : List ℕ) (k : ℕ) (b : Book) (c : ℕ) → At books cs k b c → None ≡ slice_get b.entries c → Takes books cs k → ⊥
takes_none books cs k b c h e t =
    let book : t.book ≡ b = same_Some t.book b (sym t.is ∙ h.is) in
    let cursor : t.cursor ≡ c = same_Some t.cursor c (sym t.cursor_is ∙ h.at) in
    none-some t.entry (e ∙ sym (λ i. slice_get (book i).entries (cursor i)) ∙ t.entry_is)

-- ---- what the books put out

pub put_out_at : (books : List Book) (cs : List ℕ) (packet : Packet) (k : ℕ) (b : Book) (c : ℕ) → At books cs k b c → IsPutOutBefore b.entries c packet → PutOut books cs packet
put_out_at books cs packet k b c h p =
    record { at = k; book = b; cursor = c; place = p.0; entry = p.1; among = p.4.0; is = h.is; cursor_is = h.at; before = p.2; entry_is = p.3; packet_is = p.4.1 }

pub none_put_out : (books : List Book) (cs : List ℕ) (packet : Packet) (end : ℕ) → length books ≤ end
    → NoneBelow (λ book cursor. IsPutOutBefore book.entries cursor packet) books cs end → PutOut books cs packet → ⊥
none_put_out books cs packet end l below p =
    none_at (λ book cursor. IsPutOutBefore book.entries cursor packet) books cs end l below p.at p.book p.cursor p.is p.cursor_is
    (p.place, p.entry, p.before, p.entry_is, (p.among, p.packet_is))

-- ---- entries and packets below a number

pub up_to : (P : ℕ → Type 0) (k : ℕ) → ((i : ℕ) → i < k → P i) → P k → (i : ℕ) → i < k + 1 → P i
up_to P k below here i l =
    ⊎_elim
    (λ (e : i ≡ k). subst P (sym e) here)
    (λ (o : i ≡ k → ⊥). below i (omega (arith, l, o)))
    (cases_eq i k)

-- Pages that stand one behind the other, each filled before the next one is begun.
use Rattle.std.proofs.Common.{◌≡◌, ◌⊎◌, inl, inr, nat_lt, get_or, slice_set, slice_get, ℕ, zero, suc, ◌+◌, ◌-◌, ◌*◌, ◌/◌, ◌%◌, ◌<◌, ◌≤◌, length-append, Bool, true, false, List, [], ◌∷◌, ◌++◌, length, take, drop, min, Some, refl, sym, ap, ◌∙◌, arith}
use Rattle.std.proofs.lemmas.List.{append-nil, append_assoc, drop_all, drop_at, drop-drop, get_or-drop, get_or-take, length-drop, length-take, take_all, take_at}
use Rattle.std.proofs.lemmas.Bool.{ltb-true, ltb-false}
use Rattle.spawn_frame.specs.Pages.{AreFilled, in_pages, page_of, pages_for}
use Rattle.spawn_frame.specs.Works.{change_child, root_child}
use Rattle.spawn_frame.specs.declared.child.Child.{Child}
use Rattle.spawn_frame.specs.declared.work.Work.{Work}
use Rattle.spawn_frame.proofs.Kept.{length_changed}
use Rattle.spawn_frame.proofs.Places.{child_get, child_read}

-- ---- what stands behind a page

no_more : (own : List Child) → length own ≡ 0 → own ≡ []
no_more [] e = refl
no_more (c ∷ cs) e = absurd (omega (arith, e))

-- a page is full, or nothing stands behind it
full_or_last : (page : List Child) (pages : List (List Child)) → AreFilled (page ∷ pages) → (length page ≡ 256) ⊎ (in_pages pages ≡ [])
full_or_last page pages h = go (nat_lt (length page) 256) refl
  where
    go : (b : Bool) → nat_lt (length page) 256 ≡ b → (length page ≡ 256) ⊎ (in_pages pages ≡ [])
    go true t = inr (no_more (in_pages pages) (omega (arith, ltb-true (length page) 256 t, h.0)))
    go false t = inl (omega (arith, ltb-false (length page) 256 t, h.0))

-- behind the first page
pub behind_page : (page : List Child) (pages : List (List Child)) (n m : ℕ) → n ≡ m + 256 → AreFilled (page ∷ pages) → drop n (page ++ in_pages pages) ≡ drop m (in_pages pages)
behind_page page pages n m e h = go (full_or_last page pages h)
  where
    go : (length page ≡ 256) ⊎ (in_pages pages ≡ []) → drop n (page ++ in_pages pages) ≡ drop m (in_pages pages)
    go (inl full) =
        let sum : n ≡ 256 + m = omega (arith, e) in
        ap (λ i. drop i (page ++ in_pages pages)) sum
        ∙ sym (drop-drop m 256 (page ++ in_pages pages))
        ∙ ap (drop m) (drop_at page (in_pages pages) 256 full)
    go (inr none) =
        let past : length (page ++ in_pages pages) ≤ n = omega (arith, e, h.0, length-append page (in_pages pages), ap length none) in
        let past_rest : length (in_pages pages) ≤ m = omega (arith, ap length none) in
        drop_all n (page ++ in_pages pages) past ∙ sym (drop_all m (in_pages pages) past_rest)

-- the first page
first_page : (page : List Child) (pages : List (List Child)) → AreFilled (page ∷ pages) → page ≡ take 256 (page ++ in_pages pages)
first_page page pages h = go (full_or_last page pages h)
  where
    go : (length page ≡ 256) ⊎ (in_pages pages ≡ []) → page ≡ take 256 (page ++ in_pages pages)
    go (inl full) = sym (take_at page (in_pages pages) 256 full)
    go (inr none) =
        let within : length (page ++ in_pages pages) ≤ 256 = omega (arith, h.0, length-append page (in_pages pages), ap length none) in
        sym (take_all 256 (page ++ in_pages pages) within ∙ ap (λ l. page ++ l) none ∙ append-nil page)

pub filled_most : (pages : List (List Child)) → AreFilled pages → length (in_pages pages) ≤ length pages * 256
filled_most [] h = omega arith
filled_most (page ∷ pages) h = omega (arith, h.0, filled_most pages h.1, length-append page (in_pages pages))

-- pages that hold the children hold more of them too, where those fit into the last page
pub pages_enough : (pages : List (List Child)) (own : List Child) (count more end : ℕ) → AreFilled pages → in_pages pages ≡ own → count ≡ length (in_pages pages)
    → pages_for (length own + more) ≡ pages_for (length own) → end ≡ pages_for (count + more) → end ≤ length pages
pages_enough pages own count more end h is counted same end_is =
    let all : count ≡ length own = counted ∙ ap length is in
    let last : end ≡ length own / 256 + min 1 (length own % 256) = end_is ∙ ap (λ n. pages_for (n + more)) all ∙ same in
    let within : length own ≤ length pages * 256 = omega (arith, filled_most pages h, ap length is) in
    omega (arith, last, within)

-- ---- a page and a child of it

pub page_is : (pages : List (List Child)) (p : ℕ) (d : List Child) → AreFilled pages → p < length pages → get_or pages p d ≡ page_of (in_pages pages) p
page_is [] p d h within = absurd (omega (arith, within))
page_is (page ∷ pages) zero d h within = first_page page pages h
page_is (page ∷ pages) (suc p) d h within =
    page_is pages p d h.1 (omega (arith, within))
    ∙ sym (ap (take 256) (behind_page page pages (suc p * 256) (p * 256) (omega arith) h))

-- how many children a page has
pub page_length : (pages : List (List Child)) (p : ℕ) (d : List Child) → AreFilled pages → p < length pages → length (get_or pages p d) ≡ min 256 (length (in_pages pages) - p * 256)
page_length pages p d h within =
    let own = in_pages pages in
    ap length (page_is pages p d h within) ∙ length-take 256 (drop (p * 256) own) ∙ ap (min 256) (length-drop (p * 256) own)

-- a page that has a child is begun, and its children are there
pub page_begun : (pages : List (List Child)) (p : ℕ) (d : List Child) → AreFilled pages → p < length pages → 0 < length (get_or pages p d) → p * 256 + length (get_or pages p d) ≤ length (in_pages pages)
page_begun pages p d h within some = omega (arith, page_length pages p d h within, some)

-- the page of a child that is there
pub page_within : (pages : List (List Child)) (k : ℕ) → AreFilled pages → k < length (in_pages pages) → k / 256 < length pages
page_within pages k h there = omega (arith, there, filled_most pages h)

pub place_within : (pages : List (List Child)) (k : ℕ) (d : List Child) → AreFilled pages → k < length (in_pages pages) → k % 256 < length (get_or pages (k / 256) d)
place_within pages k d h there =
    omega (arith, there, page_length pages (k / 256) d h (page_within pages k h there))

-- a child is the one that stands in its page
pub child_at : (pages : List (List Child)) (k : ℕ) (d : List Child) (c : Child) → AreFilled pages → k < length (in_pages pages) → get_or (get_or pages (k / 256) d) (k % 256) c ≡ get_or (in_pages pages) k c
child_at pages k d c h there =
    let own = in_pages pages in
    let p = k / 256 in
    let place : p * 256 + k % 256 ≡ k = omega arith in
    ap (λ l. get_or l (k % 256) c) (page_is pages p d h (page_within pages k h there))
    ∙ get_or-take 256 (drop (p * 256) own) (k % 256) c (omega arith)
    ∙ get_or-drop (p * 256) own (k % 256) c
    ∙ ap (λ i. get_or own i c) place

pub child_seen : (pages : List (List Child)) (k : ℕ) (d : List Child) (c : Child) → AreFilled pages → k < length (in_pages pages) → c ≡ get_or (get_or pages (k / 256) d) (k % 256) c
    → slice_get (in_pages pages) k ≡ Some c
child_seen pages k d c h there at = child_get (in_pages pages) k c there (at ∙ child_at pages k d c h there)

-- a child of a page is the one that stands there in the list
pub page_child : (pages : List (List Child)) (k : ℕ) (page d : List Child) → AreFilled pages → k < length (in_pages pages) → page ≡ get_or pages (k / 256) d → slice_get page (k % 256) ≡ slice_get (in_pages pages) k
page_child pages k page d h there is =
    let c = get_or (in_pages pages) k root_child in
    let place : k % 256 < length page = omega (arith, place_within pages k d h there, ap length is) in
    let at = ap (λ l. get_or l (k % 256) root_child) is ∙ child_at pages k d root_child h there in
    child_read page (k % 256) root_child place ∙ ap Some at ∙ sym (child_read (in_pages pages) k root_child there)

-- ---- one child changed

pub change_front : (f : Work → Work) (own more : List Child) (k : ℕ) → k < length own → change_child f (own ++ more) k ≡ change_child f own k ++ more
change_front f [] more k within = absurd (omega (arith, within))
change_front f (c ∷ cs) more zero within = refl
change_front f (c ∷ cs) more (suc k) within = ap (λ l. c ∷ l) (change_front f cs more k (omega (arith, within)))

change_behind : (f : Work → Work) (own more : List Child) (n k : ℕ) → n ≡ length own + k → change_child f (own ++ more) n ≡ own ++ change_child f more k
change_behind f [] more n k e =
    let same : n ≡ k = omega (arith, e) in
    ap (change_child f more) same
change_behind f (c ∷ cs) more zero k e = absurd (omega (arith, e))
change_behind f (c ∷ cs) more (suc n) k e = ap (λ l. c ∷ l) (change_behind f cs more n k (omega (arith, e)))

changed_at : (f : Work → Work) (pages : List (List Child)) (p j k : ℕ) (d : List Child) → k ≡ p * 256 + j → j < 256 → k < length (in_pages pages) → AreFilled pages
    → in_pages (slice_set pages p (change_child f (get_or pages p d) j)) ≡ change_child f (in_pages pages) k
changed_at f [] p j k d e low there h = absurd (omega (arith, there))
changed_at f (page ∷ pages) zero j k d e low there h =
    let same : k ≡ j = omega (arith, e) in
    let within : j < length page = omega (arith, e, low, there, h.0, length-append page (in_pages pages)) in
    sym (ap (change_child f (page ++ in_pages pages)) same ∙ change_front f page (in_pages pages) j within)
changed_at f (page ∷ pages) (suc p) j k d e low there h =
    let total = length-append page (in_pages pages) in
    let full : length page ≡ 256 = omega (arith, e, there, h.0, total) in
    let sum : k ≡ length page + (p * 256 + j) = omega (arith, e, full) in
    let later : p * 256 + j < length (in_pages pages) = omega (arith, sum, there, total) in
    ap (λ l. page ++ l) (changed_at f pages p j (p * 256 + j) d refl low later h.1)
    ∙ sym (change_behind f page (in_pages pages) k (p * 256 + j) sum)

length_set : (pages : List (List Child)) (p : ℕ) (page d : List Child) → p < length pages → length page ≡ length (get_or pages p d) → length (in_pages (slice_set pages p page)) ≡ length (in_pages pages)
length_set [] p page d within e = refl
length_set (old ∷ pages) zero page d within e =
    omega (arith, e, length-append page (in_pages pages), length-append old (in_pages pages))
length_set (old ∷ pages) (suc p) page d within e =
    let later = length_set pages p page d (omega (arith, within)) e in
    omega (arith, later, length-append old (in_pages (slice_set pages p page)), length-append old (in_pages pages))

-- pages stay filled where one gets as many children as it had
pub set_filled : (pages : List (List Child)) (p : ℕ) (page d : List Child) → p < length pages → length page ≡ length (get_or pages p d) → AreFilled pages → AreFilled (slice_set pages p page)
set_filled [] p page d within e h = h
set_filled (old ∷ pages) zero page d within e h = (omega (arith, e, h.0), h.1)
set_filled (old ∷ pages) (suc p) page d within e h =
    let later = length_set pages p page d (omega (arith, within)) e in
    (omega (arith, later, h.0), set_filled pages p page d (omega (arith, within)) e h.1)

-- the page of a child written again, with that child changed
pub page_changed : (f : Work → Work) (pages : List (List Child)) (k : ℕ) (page d : List Child) → AreFilled pages → k < length (in_pages pages) → page ≡ change_child f (get_or pages (k / 256) d) (k % 256)
    → in_pages (slice_set pages (k / 256) page) ≡ change_child f (in_pages pages) k
page_changed f pages k page d h there is =
    ap (λ p. in_pages (slice_set pages (k / 256) p)) is ∙ changed_at f pages (k / 256) (k % 256) k d (omega arith) (omega arith) there h

pub changed_filled : (f : Work → Work) (pages : List (List Child)) (k : ℕ) (page d : List Child) → AreFilled pages → k < length (in_pages pages) → page ≡ change_child f (get_or pages (k / 256) d) (k % 256)
    → AreFilled (slice_set pages (k / 256) page)
changed_filled f pages k page d h there is =
    set_filled pages (k / 256) page d (page_within pages k h there) (ap length is ∙ length_changed f (get_or pages (k / 256) d) (k % 256)) h

-- as many children are there then
pub changed_count : (f : Work → Work) (pages : List (List Child)) (k count : ℕ) (page d : List Child) → AreFilled pages → k < length (in_pages pages) → page ≡ change_child f (get_or pages (k / 256) d) (k % 256) → count ≡ length (in_pages pages)
    → count ≡ length (in_pages (slice_set pages (k / 256) page))
changed_count f pages k count page d h there is e =
    e ∙ sym (ap length (page_changed f pages k page d h there is) ∙ length_changed f (in_pages pages) k)

-- ---- children and pages added

-- there is room in the page of the next child
pub page_room : (pages : List (List Child)) (k : ℕ) (d : List Child) → AreFilled pages → k ≡ length (in_pages pages) → k < length pages * 256 → length (get_or pages (k / 256) d) < 256
page_room pages k d h e room =
    let within : k / 256 < length pages = omega (arith, room) in
    omega (arith, e, page_length pages (k / 256) d h within)

pushed_at : (pages : List (List Child)) (p k : ℕ) (c : Child) (d : List Child) → k ≡ length (in_pages pages) → p * 256 ≤ k → k < p * 256 + 256 → p < length pages → AreFilled pages
    → AreFilled (slice_set pages p (get_or pages p d ++ c ∷ [])) × (in_pages (slice_set pages p (get_or pages p d ++ c ∷ [])) ≡ in_pages pages ++ c ∷ [])
pushed_at [] p k c d e low high within h = absurd (omega (arith, within))
pushed_at (page ∷ pages) zero k c d e low high within h =
    let total = length-append page (in_pages pages) in
    let none : in_pages pages ≡ [] = no_more (in_pages pages) (omega (arith, e, high, h.0, total)) in (
      (omega (arith, e, high, h.0, total, ap length none, length-append page (c ∷ [])), h.1),
      ap (λ l. page ++ c ∷ [] ++ l) none ∙ append-nil (page ++ c ∷ [])
          ∙ sym (ap (λ l. page ++ l ++ c ∷ []) none ∙ ap (λ l. l ++ c ∷ []) (append-nil page)),
    )
pushed_at (page ∷ pages) (suc p) k c d e low high within h =
    let total = length-append page (in_pages pages) in
    let full : length page ≡ 256 = omega (arith, e, low, h.0, total) in
    let rest : length (in_pages pages) ≡ k - 256 = omega (arith, e, full, total) in
    let later = pushed_at pages p (k - 256) c d (sym rest) (omega (arith, low)) (omega (arith, low, high)) (omega (arith, within)) h.1 in
    ((omega (arith, full), later.0), ap (λ l. page ++ l) later.1 ∙ sym (append_assoc page (in_pages pages) (c ∷ [])))

-- a child behind the others
pub page_pushed : (pages : List (List Child)) (k : ℕ) (c : Child) (d : List Child) → k ≡ length (in_pages pages) → k < length pages * 256 → AreFilled pages
    → AreFilled (slice_set pages (k / 256) (get_or pages (k / 256) d ++ c ∷ [])) × (in_pages (slice_set pages (k / 256) (get_or pages (k / 256) d ++ c ∷ [])) ≡ in_pages pages ++ c ∷ [])
page_pushed pages k c d e room h = pushed_at pages (k / 256) k c d e (omega arith) (omega arith) (omega (arith, room)) h

-- a page without children behind the others
pub page_added : (pages : List (List Child)) → AreFilled pages → AreFilled (pages ++ [] ∷ []) × (in_pages (pages ++ [] ∷ []) ≡ in_pages pages)
page_added [] h = ((omega arith, h), refl)
page_added (page ∷ pages) h =
    let later = page_added pages h.1 in
    ((h.0 ∙ ap (λ l. min 256 (length page + length l)) (sym later.1), later.0), ap (λ l. page ++ l) later.1)

-- The next own child that is wanted, page by page.
use Rattle.std.proofs.Common.{◌≡◌, ℕ, zero, suc, ◌+◌, ◌-◌, ◌*◌, ◌/◌, ◌%◌, ◌<◌, ◌≤◌, Bool, true, false, cond, List, [], ◌∷◌, length, map, take, drop, get_or, Option, Some, None, is_some, refl, sym, ap, ◌∙◌, arith}
use Rattle.std.specs.List.{position_from}
use Rattle.std.proofs.lemmas.List.{drop-drop, drop-map, drop-take, drop_all}
use Rattle.std.proofs.lemmas.Bool.{false≢true, or_parts}
use Rattle.spawn_frame.specs.Pages.{AreFilled, has_wanted, in_pages, next_wanted}
use Rattle.spawn_frame.specs.Units.{Table}
use Rattle.spawn_frame.specs.Works.{child_entry, is_wanted}
use Rattle.spawn_frame.specs.declared.child.Child.{Child}
use Rattle.spawn_frame.specs.declared.status.Status.{Status}
use Rattle.spawn_frame.specs.declared.wanted.Wanted.{Wanted}
use Rattle.spawn_frame.specs.declared.work.Work.{Work}
use Rattle.spawn_frame.proofs.Filled.{filled_most, page_is, page_within}

-- the first of two serials that is there
abbrev pub either_serial : Option ℕ → Option ℕ → Option ℕ
either_serial None second = second
either_serial (Some serial) second = Some serial

next_past : (wanted : Wanted) (k n : ℕ) → next_wanted wanted k (drop n []) ≡ None
next_past wanted k zero = refl
next_past wanted k (suc n) = refl

either_cond : (b : Bool) (k : ℕ) (x y : Option ℕ) → cond b (Some k) (either_serial x y) ≡ either_serial (cond b (Some k) x) y
either_cond true k x y = refl
either_cond false k x y = refl

-- what comes first among the first n, else behind them
next_split : (wanted : Wanted) (k j n : ℕ) (own : List Child) → j ≡ k + n → next_wanted wanted k own ≡ either_serial (next_wanted wanted k (take n own)) (next_wanted wanted j (drop n own))
next_split wanted k j zero own e =
    let same : k ≡ j = omega arith in
    ap (λ i. next_wanted wanted i own) same
next_split wanted k j (suc n) [] e = refl
next_split wanted k j (suc n) (c ∷ cs) e =
    ap (cond (is_wanted wanted c.work) (Some k)) (next_split wanted (k + 1) j n cs (omega (arith, e)))
    ∙ either_cond (is_wanted wanted c.work) k (next_wanted wanted (k + 1) (take n cs)) (next_wanted wanted j (drop n cs))

pub next_none : (wanted : Wanted) (k : ℕ) (own : List Child) → has_wanted wanted own ≡ false → next_wanted wanted k own ≡ None
next_none wanted k [] e = refl
next_none wanted k (c ∷ cs) e =
    let p = or_parts (is_wanted wanted c.work) (has_wanted wanted cs) e in
    λ i. cond (p.0 i) (Some k) (next_none wanted (k + 1) cs p.1 i)

drop_more : (m n : ℕ) (own : List Child) → drop n (drop m own) ≡ drop (m + n) own
drop_more m n own = drop-drop n m own

-- a page, and what is behind it
next_page : (wanted : Wanted) (own : List Child) (m n j : ℕ) → j ≡ m + n
    → next_wanted wanted m (drop m own) ≡ either_serial (next_wanted wanted m (take n (drop m own))) (next_wanted wanted j (drop j own))
next_page wanted own m n j e =
    next_split wanted m j n (drop m own) e
    ∙ ap (λ l. either_serial (next_wanted wanted m (take n (drop m own))) (next_wanted wanted j l)) (drop_more m n own ∙ ap (λ i. drop i own) (sym e))

-- found there
next_found : (wanted : Wanted) (own : List Child) (m n : ℕ) (found : Option ℕ) → found ≡ next_wanted wanted m (take n (drop m own)) → is_some found ≡ true → found ≡ next_wanted wanted m (drop m own)
next_found wanted own m n None is some = absurd (false≢true some)
next_found wanted own m n (Some serial) is some =
    ap (λ o. either_serial o (next_wanted wanted (m + n) (drop (m + n) own))) is ∙ sym (next_page wanted own m n (m + n) refl)

-- not found there
next_missed : (wanted : Wanted) (own : List Child) (m n j : ℕ) → j ≡ m + n → next_wanted wanted m (take n (drop m own)) ≡ None → next_wanted wanted j (drop j own) ≡ next_wanted wanted m (drop m own)
next_missed wanted own m n j e none =
    sym (ap (λ o. either_serial o (next_wanted wanted j (drop j own))) none) ∙ sym (next_page wanted own m n j e)

next_unfound : (wanted : Wanted) (own : List Child) (m n : ℕ) (found : Option ℕ) → found ≡ next_wanted wanted m (take n (drop m own)) → is_some found ≡ false
    → next_wanted wanted m (take n (drop m own)) ≡ None
next_unfound wanted own m n None is some = sym is
next_unfound wanted own m n (Some serial) is some = absurd (false≢true (sym some))

-- ---- in pages

-- the rest of a page, from a child on that is there
rest_is : (pages : List (List Child)) (from : ℕ) (d : List Child) → AreFilled pages → from < length (in_pages pages)
    → drop (from % 256) (get_or pages (from / 256) d) ≡ take (256 - from % 256) (drop from (in_pages pages))
rest_is pages from d h there =
    let own = in_pages pages in
    let p = from / 256 in
    let whole : 256 ≡ from % 256 + (256 - from % 256) = omega arith in
    let place : p * 256 + from % 256 ≡ from = omega arith in
    ap (drop (from % 256)) (page_is pages p d h (page_within pages from h there) ∙ ap (λ n. take n (drop (p * 256) own)) whole)
    ∙ drop-take (from % 256) (256 - from % 256) (drop (p * 256) own)
    ∙ ap (take (256 - from % 256)) (drop_more (p * 256) (from % 256) own ∙ ap (λ i. drop i own) place)

pub rest_found : (wanted : Wanted) (pages : List (List Child)) (from : ℕ) (d : List Child) (found : Option ℕ) → AreFilled pages → from < length (in_pages pages)
    → found ≡ next_wanted wanted from (drop (from % 256) (get_or pages (from / 256) d)) → is_some found ≡ true → found ≡ next_wanted wanted from (drop from (in_pages pages))
rest_found wanted pages from d found h there is some =
    next_found wanted (in_pages pages) from (256 - from % 256) found (is ∙ ap (next_wanted wanted from) (rest_is pages from d h there)) some

pub rest_unfound : (wanted : Wanted) (pages : List (List Child)) (from : ℕ) (d : List Child) (found : Option ℕ) → AreFilled pages → from < length (in_pages pages)
    → found ≡ next_wanted wanted from (drop (from % 256) (get_or pages (from / 256) d)) → is_some found ≡ false
    → next_wanted wanted ((from / 256 + 1) * 256) (drop ((from / 256 + 1) * 256) (in_pages pages)) ≡ next_wanted wanted from (drop from (in_pages pages))
rest_unfound wanted pages from d found h there is none =
    let own = in_pages pages in
    let behind : (from / 256 + 1) * 256 ≡ from + (256 - from % 256) = omega arith in
    next_missed wanted own from (256 - from % 256) ((from / 256 + 1) * 256) behind
    (next_unfound wanted own from (256 - from % 256) found (is ∙ ap (next_wanted wanted from) (rest_is pages from d h there)) none)

pub page_found : (wanted : Wanted) (pages : List (List Child)) (p : ℕ) (d : List Child) (found : Option ℕ) → AreFilled pages → p < length pages
    → found ≡ next_wanted wanted (p * 256) (get_or pages p d) → is_some found ≡ true → found ≡ next_wanted wanted (p * 256) (drop (p * 256) (in_pages pages))
page_found wanted pages p d found h within is some =
    next_found wanted (in_pages pages) (p * 256) 256 found (is ∙ ap (next_wanted wanted (p * 256)) (page_is pages p d h within)) some

page_missed : (wanted : Wanted) (pages : List (List Child)) (p : ℕ) (d : List Child) → AreFilled pages → p < length pages → next_wanted wanted (p * 256) (get_or pages p d) ≡ None
    → next_wanted wanted ((p + 1) * 256) (drop ((p + 1) * 256) (in_pages pages)) ≡ next_wanted wanted (p * 256) (drop (p * 256) (in_pages pages))
page_missed wanted pages p d h within none =
    next_missed wanted (in_pages pages) (p * 256) 256 ((p + 1) * 256) (omega arith) (ap (next_wanted wanted (p * 256)) (sym (page_is pages p d h within)) ∙ none)

pub page_unfound : (wanted : Wanted) (pages : List (List Child)) (p : ℕ) (d : List Child) (found : Option ℕ) → AreFilled pages → p < length pages
    → found ≡ next_wanted wanted (p * 256) (get_or pages p d) → is_some found ≡ false
    → next_wanted wanted ((p + 1) * 256) (drop ((p + 1) * 256) (in_pages pages)) ≡ next_wanted wanted (p * 256) (drop (p * 256) (in_pages pages))
page_unfound wanted pages p d None h within is none = page_missed wanted pages p d h within (sym is)
page_unfound wanted pages p d (Some serial) h within is none = absurd (false≢true (sym none))

pub page_none : (wanted : Wanted) (pages : List (List Child)) (p : ℕ) (d : List Child) → AreFilled pages → p < length pages → has_wanted wanted (get_or pages p d) ≡ false
    → next_wanted wanted ((p + 1) * 256) (drop ((p + 1) * 256) (in_pages pages)) ≡ next_wanted wanted (p * 256) (drop (p * 256) (in_pages pages))
page_none wanted pages p d h within none = page_missed wanted pages p d h within (next_none wanted (p * 256) (get_or pages p d) none)

-- behind all pages nothing is wanted
pub past_pages : (wanted : Wanted) (pages : List (List Child)) (p : ℕ) → AreFilled pages → length pages ≤ p → next_wanted wanted (p * 256) (drop (p * 256) (in_pages pages)) ≡ None
past_pages wanted pages p h past =
    ap (next_wanted wanted (p * 256)) (drop_all (p * 256) (in_pages pages) (omega (arith, past, filled_most pages h)))

-- ---- as the site sees its children

next_seen : (wanted : Wanted) (test : Status → Bool) → ((w : Work) → is_wanted wanted w ≡ test w.status) → (k : ℕ) (own : List Child)
    → next_wanted wanted k own ≡ position_from (λ c. test c.status) k (map child_entry own)
next_seen wanted test same k [] = refl
next_seen wanted test same k (c ∷ cs) = λ i. cond (same c.work i) (Some k) (next_seen wanted test same (k + 1) cs i)

pub next_entry : (wanted : Wanted) (test : Status → Bool) → ((w : Work) → is_wanted wanted w ≡ test w.status) → (own : List Child) (table : Table) (from : ℕ) → map child_entry own ≡ table.own
    → next_wanted wanted from (drop from own) ≡ position_from (λ c. test c.status) from (drop from table.own)
next_entry wanted test same own table from seen =
    next_seen wanted test same from (drop from own)
    ∙ ap (position_from (λ c. test c.status) from) (sym (drop-map child_entry from own) ∙ ap (drop from) seen)

-- What is wanted among own children, page by page.
use Rattle.std.proofs.Common.{◌≡◌, is_some, get_or, ℕ, zero, suc, ◌+◌, ◌*◌, ◌<◌, ◌≤◌, length-append, true, false, cond, List, [], ◌∷◌, ◌++◌, length, map, take, drop, Option, Some, None, refl, sym, ap, ◌∙◌, arith}
use Rattle.std.proofs.Math.Seq.{take-nil}
use Rattle.std.proofs.lemmas.List.{append-nil, append_assoc, take-append-drop, take_more}
use Rattle.std.proofs.lemmas.List.Sums.{count_by-le-length, sum_by-cons}
use Rattle.std.specs.List.{count_by}
use Rattle.std.proofs.lemmas.Bool.{false≢true, or_parts}
use Rattle.spawn_frame.specs.Pages.{AreFilled, has_wanted, in_pages, kinds_of, page_of, tells}
use Rattle.spawn_frame.specs.Picks.{either_unit}
use Rattle.spawn_frame.specs.Tables.{is_out, outs_of}
use Rattle.spawn_frame.specs.Works.{child_entry, is_wanted, last_wanted}
use Rattle.spawn_frame.specs.declared.child.Child.{Child}
use Rattle.spawn_frame.specs.declared.unit.Unit.{Unit as WorkUnit}
use Rattle.spawn_frame.specs.declared.unit.Unit.TheVariants as units
use Rattle.spawn_frame.specs.declared.wanted.Wanted.{Wanted}
use Rattle.spawn_frame.specs.declared.wanted.Wanted.TheVariants as wants
use Rattle.spawn_frame.proofs.Filled.{page_is}

-- ---- the last one that is wanted

either_none : (u : Option WorkUnit) → either_unit u None ≡ u
either_none None = refl
either_none (Some u) = refl

either_assoc : (u v w : Option WorkUnit) → either_unit (either_unit u v) w ≡ either_unit u (either_unit v w)
either_assoc None v w = refl
either_assoc (Some u) v w = refl

last_take : (wanted : Wanted) (k a b n : ℕ) (own : List Child) → n ≡ a + b
    → last_wanted wanted k (take n own) ≡ either_unit (last_wanted wanted (k + a) (take b (drop a own))) (last_wanted wanted k (take a own))
last_take wanted k zero b n own e =
    let n_is : n ≡ b = omega arith in
    let k_is : k ≡ k + 0 = omega arith in
    (λ i. last_wanted wanted (k_is i) (take (n_is i) own)) ∙ sym (either_none (last_wanted wanted (k + 0) (take b own)))
last_take wanted k (suc a) b n [] e =
    ap (last_wanted wanted k) (take-nil n) ∙ sym (ap (λ l. either_unit (last_wanted wanted (k + suc a) l) None) (take-nil b))
last_take wanted k (suc a) b zero (c ∷ cs) e = absurd (omega (arith, e))
last_take wanted k (suc a) b (suc n) (c ∷ cs) e =
    let here : Option WorkUnit = cond (is_wanted wanted c.work) (Some (units.Own k)) None in
    let later : Option WorkUnit = last_wanted wanted (suc k) (take a cs) in
    let k_is : suc k + a ≡ k + suc a = omega arith in
    ap (λ o. either_unit o here) (last_take wanted (suc k) a b n cs (omega (arith, e)) ∙ ap (λ j. either_unit (last_wanted wanted j (take b (drop a cs))) later) k_is)
    ∙ either_assoc (last_wanted wanted (k + suc a) (take b (drop a cs))) later here

page_last : (wanted : Wanted) (own : List Child) (left page : ℕ) → left ≡ page + 1
    → last_wanted wanted 0 (take (left * 256) own) ≡ either_unit (last_wanted wanted (page * 256) (page_of own page)) (last_wanted wanted 0 (take (page * 256) own))
page_last wanted own left page e =
    let from : 0 + page * 256 ≡ page * 256 = omega arith in
    last_take wanted 0 (page * 256) 256 (left * 256) own (omega (arith, e))
    ∙ ap (λ k. either_unit (last_wanted wanted k (page_of own page)) (last_wanted wanted 0 (take (page * 256) own))) from

none_last : (wanted : Wanted) (k : ℕ) (own : List Child) → has_wanted wanted own ≡ false → last_wanted wanted k own ≡ None
none_last wanted k [] e = refl
none_last wanted k (c ∷ cs) e =
    let p = or_parts (is_wanted wanted c.work) (has_wanted wanted cs) e in
    (λ i. either_unit (none_last wanted (suc k) cs p.1 i) (cond (p.0 i) (Some (units.Own k)) None))

-- what no child of a page is
pub tells_is : (wanted : Wanted) (own : List Child) → tells wanted (kinds_of own) ≡ has_wanted wanted own
tells_is wants.Ready own = refl
tells_is wants.Ripe own = refl
tells_is wants.Here own = refl
tells_is wants.Out own = refl

-- a page that has a child that is wanted has a child
pub has_some : (wanted : Wanted) (own : List Child) → has_wanted wanted own ≡ true → 0 < length own
has_some wanted [] e = absurd (false≢true e)
has_some wanted (c ∷ cs) e = omega arith

-- ---- a search through the pages from the last on

-- found in a page
pub last_found : (wanted : Wanted) (pages : List (List Child)) (left page : ℕ) (d : List Child) (found : Option WorkUnit) → left ≡ page + 1 → page < length pages → AreFilled pages
    → last_wanted wanted 0 (take (left * 256) (in_pages pages)) ≡ last_wanted wanted 0 (in_pages pages) → found ≡ last_wanted wanted (page * 256) (get_or pages page d) → is_some found ≡ true
    → found ≡ last_wanted wanted 0 (in_pages pages)
last_found wanted pages left page d None e within h so is some = absurd (false≢true some)
last_found wanted pages left page d (Some unit) e within h so is some =
    ap (λ o. either_unit o (last_wanted wanted 0 (take (page * 256) (in_pages pages)))) (is ∙ ap (last_wanted wanted (page * 256)) (page_is pages page d h within))
    ∙ sym (page_last wanted (in_pages pages) left page e) ∙ so

-- not found there
last_missed : (wanted : Wanted) (pages : List (List Child)) (left page : ℕ) (d : List Child) → left ≡ page + 1 → page < length pages → AreFilled pages → last_wanted wanted (page * 256) (get_or pages page d) ≡ None
    → last_wanted wanted 0 (take (left * 256) (in_pages pages)) ≡ last_wanted wanted 0 (in_pages pages) → last_wanted wanted 0 (take (page * 256) (in_pages pages)) ≡ last_wanted wanted 0 (in_pages pages)
last_missed wanted pages left page d e within h none so =
    sym (ap (λ o. either_unit o (last_wanted wanted 0 (take (page * 256) (in_pages pages)))) (ap (last_wanted wanted (page * 256)) (sym (page_is pages page d h within)) ∙ none))
    ∙ sym (page_last wanted (in_pages pages) left page e) ∙ so

pub last_unfound : (wanted : Wanted) (pages : List (List Child)) (left page : ℕ) (d : List Child) (found : Option WorkUnit) → left ≡ page + 1 → page < length pages → AreFilled pages
    → found ≡ last_wanted wanted (page * 256) (get_or pages page d) → is_some found ≡ false
    → last_wanted wanted 0 (take (left * 256) (in_pages pages)) ≡ last_wanted wanted 0 (in_pages pages) → last_wanted wanted 0 (take (page * 256) (in_pages pages)) ≡ last_wanted wanted 0 (in_pages pages)
last_unfound wanted pages left page d None e within h is some so = last_missed wanted pages left page d e within h (sym is) so
last_unfound wanted pages left page d (Some unit) e within h is some so = absurd (false≢true (sym some))

pub last_none : (wanted : Wanted) (pages : List (List Child)) (left page : ℕ) (d : List Child) → left ≡ page + 1 → page < length pages → AreFilled pages → has_wanted wanted (get_or pages page d) ≡ false
    → last_wanted wanted 0 (take (left * 256) (in_pages pages)) ≡ last_wanted wanted 0 (in_pages pages) → last_wanted wanted 0 (take (page * 256) (in_pages pages)) ≡ last_wanted wanted 0 (in_pages pages)
last_none wanted pages left page d e within h none so = last_missed wanted pages left page d e within h (none_last wanted (page * 256) (get_or pages page d) none) so

-- ---- a count, page by page

abbrev pub counted : Wanted → List Child → ℕ
counted wanted own = count_by (λ c. is_wanted wanted c.work) own

count_step : (wanted : Wanted) (c : Child) (cs : List Child) → counted wanted (c ∷ cs) ≡ cond (is_wanted wanted c.work) 1 0 + counted wanted cs
count_step wanted c cs = sum_by-cons (λ d. cond (is_wanted wanted d.work) 1 0) c cs

counted_append : (wanted : Wanted) (own more : List Child) → counted wanted (own ++ more) ≡ counted wanted own + counted wanted more
counted_append wanted [] more = omega arith
counted_append wanted (c ∷ cs) more =
    omega (arith, counted_append wanted cs more, count_step wanted c (cs ++ more), count_step wanted c cs)

none_counted : (wanted : Wanted) (own : List Child) → has_wanted wanted own ≡ false → counted wanted own ≡ 0
none_counted wanted [] e = refl
none_counted wanted (c ∷ cs) e =
    let p = or_parts (is_wanted wanted c.work) (has_wanted wanted cs) e in
    let one : ℕ = cond (is_wanted wanted c.work) 1 0 in
    let none : one ≡ 0 = ap (λ b. cond b 1 0) p.0 in
    omega (arith, none_counted wanted cs p.1, none, count_step wanted c cs)

in_append : (pages more : List (List Child)) → in_pages (pages ++ more) ≡ in_pages pages ++ in_pages more
in_append [] more = refl
in_append (page ∷ pages) more = ap (λ l. page ++ l) (in_append pages more) ∙ sym (append_assoc page (in_pages pages) (in_pages more))

-- the count of a page goes to that of those before it
pub page_counted : (wanted : Wanted) (pages : List (List Child)) (i : ℕ) (d : List Child) → i < length pages
    → counted wanted (in_pages (take i pages)) + counted wanted (get_or pages i d) ≡ counted wanted (in_pages (take (i + 1) pages))
page_counted wanted pages i d within =
    let page = get_or pages i d in
    let own = in_pages (take i pages) in
    sym (counted_append wanted own page)
    ∙ ap (λ l. counted wanted (own ++ l)) (sym (append-nil page))
    ∙ ap (counted wanted) (sym (in_append (take i pages) (page ∷ [])))
    ∙ ap (λ l. counted wanted (in_pages l)) (sym (take_more pages i d within))

pub page_uncounted : (wanted : Wanted) (pages : List (List Child)) (i : ℕ) (d : List Child) → i < length pages → has_wanted wanted (get_or pages i d) ≡ false
    → counted wanted (in_pages (take i pages)) ≡ counted wanted (in_pages (take (i + 1) pages))
page_uncounted wanted pages i d within none =
    omega (arith, page_counted wanted pages i d within, none_counted wanted (get_or pages i d) none)

-- no more are counted than there are
pub count_fits : (wanted : Wanted) (pages : List (List Child)) (i : ℕ) (d : List Child) → i < length pages
    → counted wanted (in_pages (take i pages)) + counted wanted (get_or pages i d) ≤ length (in_pages pages)
count_fits wanted pages i d within =
    let front = in_pages (take (i + 1) pages) in
    let whole : length front + length (in_pages (drop (i + 1) pages)) ≡ length (in_pages pages) =
    sym (length-append front (in_pages (drop (i + 1) pages))) ∙ ap length (sym (in_append (take (i + 1) pages) (drop (i + 1) pages)) ∙ ap in_pages (take-append-drop (i + 1) pages)) in
    omega (arith, page_counted wanted pages i d within, count_by-le-length (λ c. is_wanted wanted c.work) front, whole)

-- the children that are out, as the site sees them
pub outs_seen : (own : List Child) → counted wants.Out own ≡ outs_of (map child_entry own)
outs_seen [] = refl
outs_seen (c ∷ cs) =
    count_step wants.Out c cs ∙ ap (λ k. cond (is_out c.work.status) 1 0 + k) (outs_seen cs)
    ∙ sym (sum_by-cons (λ d. cond (is_out d.status) 1 0) (child_entry c) (map child_entry cs))

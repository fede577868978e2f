-- Several children that become guests, one after the other.
use Rattle.std.proofs.Common.{◌≡◌, ℕ, suc, ◌+◌, ◌<◌, ◌≤◌, Bool, true, false, cond, List, [], ◌∷◌, ◌++◌, map, option_map, length, get_or, position, Option, Some, None, is_some, refl, sym, ap, subst, ◌∙◌, arith}
use Rattle.std.specs.List.{AllByRecursion, position_or_len}
use Rattle.std.proofs.lemmas.List.{get_or_default}
use Rattle.std.proofs.lemmas.Option.{none-some}
use Rattle.spawn_frame.proofs.Admitted.{ascending_inserted, put_is, put_kept, put_view}
use Rattle.spawn_frame.proofs.Lookups.{guest_at}
use Rattle.spawn_frame.proofs.Opened.{place_got, place_work}
use Rattle.spawn_frame.proofs.Places.{guest_unread, place_read}
use Rattle.spawn_frame.specs.Gifts.{admit_each, gift_guest, is_there, name_of}
use Rattle.spawn_frame.specs.Guests.{put_gift, put_gifts, put_guest}
use Rattle.spawn_frame.specs.Names.{guest_before}
use Rattle.spawn_frame.specs.Tables.{IsAscending}
use Rattle.spawn_frame.specs.Units.{Entry, GuestEntry, guest_in, insert_guest, is_guest}
use Rattle.spawn_frame.specs.Works.{IsTable, entry_of, fresh_guest, guest_entry, guest_work, table_of}
use Rattle.spawn_frame.specs.declared.child.Child.{Child}
use Rattle.spawn_frame.specs.declared.gift.Gift.{Gift}
use Rattle.spawn_frame.specs.declared.guest.Guest.{Guest}
use Rattle.spawn_frame.specs.declared.site.ChildName.{ChildName}
use Rattle.spawn_frame.specs.declared.site.Site.{Site}

-- a guest is found where it is there
pub found_there : (gs : List Guest) (n : ChildName) (a : ℕ) (o : Option ℕ) → o ≡ position (λ h. is_guest n a (guest_entry h)) gs → is_some o ≡ is_some (guest_in (map guest_entry gs) n a)
found_there gs n a None e = sym (ap is_some (guest_at gs n a ∙ ap (option_map (λ w. entry_of None w)) (guest_unread gs n a e)))
found_there [] n a (Some i) e = absurd (none-some i (sym e))
found_there (x ∷ xs) n a (Some i) e =
    let gs : List Guest = x ∷ xs in
    let p = place_read gs n a i x e in
    let at = get_or_default gs i x (get_or gs i x) p.within in
    let work = sym (place_work gs n a i e) ∙ place_got gs i (get_or gs i x) p.within at in
    sym (ap is_some (guest_at gs n a ∙ ap (option_map (λ w. entry_of None w)) work))

none_of : {A : Type 0} (o : Option A) → is_some o ≡ false → o ≡ None
none_of None h = refl
none_of (Some x) h = absurd (cc)

-- a child that is there already
pub gift_there : (from : Site) (gift : Gift) (gs : List Guest) → is_there from (map guest_entry gs) gift ≡ true → gs ≡ put_gift from gift gs
gift_there from gift gs t = sym (ap (λ b. cond b gs (put_guest (fresh_guest (name_of from gift) gift.attempt gift.prefix) gs)) t)

-- a child that is not
pub gift_new : (from : Site) (gift : Gift) (gs : List Guest) → is_there from (map guest_entry gs) gift ≡ false
    → put_guest (fresh_guest (name_of from gift) gift.attempt gift.prefix) gs ≡ put_gift from gift gs
gift_new from gift gs f = sym (ap (λ b. cond b gs (put_guest (fresh_guest (name_of from gift) gift.attempt gift.prefix) gs)) f)

pub gift_ascends : (from : Site) (gift : Gift) (gs : List Guest) → IsAscending (map guest_entry gs) → IsAscending (map guest_entry (put_gift from gift gs))
gift_ascends from gift gs h = by (is_there from (map guest_entry gs) gift) refl
  where
    new : Guest
    new = fresh_guest (name_of from gift) gift.attempt gift.prefix

    by : (b : Bool) → is_there from (map guest_entry gs) gift ≡ b → IsAscending (map guest_entry (cond b gs (put_guest new gs)))
    by true t = h
    by false f = subst IsAscending (sym (put_view new gs)) (ascending_inserted (guest_entry new) (map guest_entry gs) (none_of (guest_in (map guest_entry gs) (name_of from gift) gift.attempt) f) h)

-- ---- as the site sees it

gift_view : (from : Site) (gift : Gift) (gs : List Guest) (es : List GuestEntry) → map guest_entry gs ≡ es
    → map guest_entry (put_gift from gift gs) ≡ cond (is_there from es gift) es (insert_guest (gift_guest from gift) es)
gift_view from gift gs es e = by (is_there from (map guest_entry gs) gift) refl
  where
    new : Guest
    new = fresh_guest (name_of from gift) gift.attempt gift.prefix

    by : (b : Bool) → is_there from (map guest_entry gs) gift ≡ b → map guest_entry (cond b gs (put_guest new gs)) ≡ cond (is_there from es gift) es (insert_guest (gift_guest from gift) es)
    by true t = e ∙ sym (ap (λ b. cond b es (insert_guest (gift_guest from gift) es)) (ap (λ l. is_there from l gift) (sym e) ∙ t))
    by false f = put_view new gs ∙ ap (insert_guest (gift_guest from gift)) e ∙ sym (ap (λ b. cond b es (insert_guest (gift_guest from gift) es)) (ap (λ l. is_there from l gift) (sym e) ∙ f))

pub gifts_view : (from : Site) (gifts : List Gift) (gs : List Guest) → map guest_entry (put_gifts from gifts gs) ≡ admit_each from gifts (map guest_entry gs)
gifts_view from [] gs = refl
gifts_view from (gift ∷ gifts) gs = gift_view from gift (put_gifts from gifts gs) (admit_each from gifts (map guest_entry gs)) (gifts_view from gifts gs)

-- ---- the table stays one

gift_kept : (site : Site) (limit : ℕ) (own : List Child) (from : Site) (gift : Gift) (guests : List Guest) → 1 ≤ gift.attempt → IsTable (table_of site limit own guests) own guests
    → IsTable (table_of site limit own (put_gift from gift guests)) own (put_gift from gift guests)
gift_kept site limit own from gift guests some h = by (is_there from (map guest_entry guests) gift) refl
  where
    new : Guest
    new = fresh_guest (name_of from gift) gift.attempt gift.prefix

    by : (b : Bool) → is_there from (map guest_entry guests) gift ≡ b → IsTable (table_of site limit own (cond b guests (put_guest new guests))) own (cond b guests (put_guest new guests))
    by true t = h
    by false f = put_kept site limit own guests h (name_of from gift) gift.attempt gift.prefix (none_of (guest_in (map guest_entry guests) (name_of from gift) gift.attempt) f) some

pub gifts_kept : (site : Site) (limit : ℕ) (own : List Child) (from : Site) (gifts : List Gift) (guests : List Guest) → AllByRecursion (λ g. 1 ≤ g.attempt) gifts → IsTable (table_of site limit own guests) own guests
    → IsTable (table_of site limit own (put_gifts from gifts guests)) own (put_gifts from gifts guests)
gifts_kept site limit own from [] guests some h = h
gifts_kept site limit own from (gift ∷ gifts) guests some h = gift_kept site limit own from gift (put_gifts from gifts guests) some.0 (gifts_kept site limit own from gifts guests some.1 h)

-- ---- the walk

-- the last of the children is put first
pub last_first : (from : Site) (gifts : List Gift) (gift : Gift) (gs : List Guest) → put_gifts from (gifts ++ gift ∷ []) gs ≡ put_gifts from gifts (put_gift from gift gs)
last_first from [] gift gs = refl
last_first from (g ∷ hs) gift gs = ap (put_gift from g) (last_first from hs gift gs)

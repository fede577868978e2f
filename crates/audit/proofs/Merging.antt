-- Merges of beginnings: what they put out, and the sites of what they leave.
use Rattle.std.proofs.Common.{◌≡◌, ◌≢◌, ℕ, zero, suc, true, not, List, [], ◌∷◌, ◌++◌, Some, slice_get, slice_set, refl, sym, ap, ◌∙◌, subst, ⊎_elim, append_assoc, append-nil, true≢false}
use Rattle.std.proofs.lemmas.Bool.{and_parts, not-true, or_left, or_right}
use Rattle.std.proofs.lemmas.Option.{same_Some, none-some}
use Rattle.std.specs.List.{AllByRecursion}
use Rattle.cover_world.specs.Worlds.{WasSent}
use Rattle.node_core.specs.declared.event.Event.{Event}
use Rattle.node_core.specs.declared.event.Event.TheVariants.{Deliver, Take}
use Rattle.packet_wire.specs.declared.packet.Packet.{Packet}
use Rattle.audit.proofs.Setting.{In, in_left, in_right, in_split, set_get}
use Rattle.run_book.specs.Books.{are_distinct, has_site, Book}
use Rattle.run_book.specs.Entries.{Entry}
use Rattle.run_book.specs.Merges.{DeliversPutOut, SiteEntry, WasPutOut}
use Rattle.spawn_frame.proofs.Sames.{same_site_self}
use Rattle.spawn_frame.specs.Names.{same_site}
use Rattle.spawn_frame.specs.declared.site.Site.{Site}

-- ---- what entries put out

abbrev pub put_out : List SiteEntry → List Packet
put_out [] = []
put_out (s ∷ ss) = s.entry.packets ++ put_out ss

pub put_out_more : (merged : List SiteEntry) (next : SiteEntry) → put_out (merged ++ next ∷ []) ≡ put_out merged ++ next.entry.packets
put_out_more [] next = append-nil next.entry.packets
put_out_more (s ∷ ss) next = ap (λ ps. s.entry.packets ++ ps) (put_out_more ss next) ∙ sym (append_assoc s.entry.packets (put_out ss) next.entry.packets)

put_out_at : (packet : Packet) (merged : List SiteEntry) (k among : ℕ) (s : SiteEntry) → slice_get merged k ≡ Some s → slice_get s.entry.packets among ≡ Some packet
    → In packet (put_out merged)
put_out_at packet [] k among s e f = absurd (none-some s e)
put_out_at packet (x ∷ xs) zero among s e f =
    in_left packet x.entry.packets (put_out xs) (among, ap (λ y. slice_get y.entry.packets among) (same_Some x s e) ∙ f)
put_out_at packet (x ∷ xs) (suc k) among s e f = in_right packet x.entry.packets (put_out xs) (put_out_at packet xs k among s e f)

pub in_put_out : (packet : Packet) (merged : List SiteEntry) → WasPutOut merged packet → In packet (put_out merged)
in_put_out packet merged w = put_out_at packet merged w.at w.among w.earlier w.is w.packet_is

later_put_out : (packet : Packet) (x : SiteEntry) (xs : List SiteEntry) → WasPutOut xs packet → WasPutOut (x ∷ xs) packet
later_put_out packet x xs w = record { at = suc w.at; among = w.among; earlier = w.earlier; is = w.is; packet_is = w.packet_is }

pub from_put_out : (packet : Packet) (merged : List SiteEntry) → In packet (put_out merged) → WasPutOut merged packet
from_put_out packet [] h = absurd (none-some packet h.1)
from_put_out packet (x ∷ xs) h =
    ⊎_elim
    (λ (g : In packet x.entry.packets). record { at = 0; among = g.0; earlier = x; is = refl; packet_is = g.1 })
    (λ (g : In packet (put_out xs)). later_put_out packet x xs (from_put_out packet xs g))
    (in_split packet x.entry.packets (put_out xs) h.0 h.1)

pub was_sent : (merged : List SiteEntry) (event : Event) → DeliversPutOut merged event → WasSent (put_out merged) event
was_sent merged (Deliver packet) h = in_put_out packet merged h
was_sent merged Take h = tt
was_sent merged _ h = tt

-- ---- elements of which all is true

pub all_at : {X : Type 0} (P : X → Type 0) (xs : List X) → AllByRecursion P xs → (k : ℕ) (x : X) → slice_get xs k ≡ Some x → P x
all_at P [] all k x e = absurd (none-some x e)
all_at P (y ∷ ys) all zero x e = subst P (same_Some y x e) all.0
all_at P (y ∷ ys) all (suc k) x e = all_at P ys all.1 k x e

pub all_from : {X : Type 0} (P : X → Type 0) (xs : List X) → ((k : ℕ) (x : X) → slice_get xs k ≡ Some x → P x) → AllByRecursion P xs
all_from P [] f = tt
all_from P (y ∷ ys) f = (f 0 y refl, all_from P ys (λ k x e. f (suc k) x e))

-- ---- books of different sites

abbrev pub AreApart : List Book → Type 0
AreApart books = (i j : ℕ) (a b : Book) → slice_get books i ≡ Some a → slice_get books j ≡ Some b → a.site ≡ b.site → i ≡ j

pub has_at : (site : Site) (books : List Book) (k : ℕ) (book : Book) → slice_get books k ≡ Some book → book.site ≡ site → has_site site books ≡ true
has_at site [] k book e s = absurd (none-some book e)
has_at site (b ∷ bs) zero book e s =
    or_left (same_site b.site site) (has_site site bs)
    (subst (λ t. same_site t site ≡ true) (sym s ∙ ap (λ x. x.site) (sym (same_Some b book e))) (same_site_self site))
has_at site (b ∷ bs) (suc k) book e s =
    or_right (same_site b.site site) (has_site site bs) (has_at site bs k book e s)

pub are_apart : (books : List Book) → are_distinct books ≡ true → AreApart books
are_apart [] d i j a b e f s = absurd (none-some a e)
are_apart (x ∷ xs) d zero zero a b e f s = refl
are_apart (x ∷ xs) d zero (suc j) a b e f s =
    let none = not-true (has_site x.site xs) (and_parts (not (has_site x.site xs)) (are_distinct xs) d).0 in
    absurd (true≢false (sym (has_at x.site xs j b f (sym (ap (λ y. y.site) (same_Some x a e) ∙ s))) ∙ none))
are_apart (x ∷ xs) d (suc i) zero a b e f s =
    let none = not-true (has_site x.site xs) (and_parts (not (has_site x.site xs)) (are_distinct xs) d).0 in
    absurd (true≢false (sym (has_at x.site xs i a e (s ∙ sym (ap (λ y. y.site) (same_Some x b f)))) ∙ none))
are_apart (x ∷ xs) d (suc i) (suc j) a b e f s =
    ap suc (are_apart xs (and_parts (not (has_site x.site xs)) (are_distinct xs) d).1 i j a b e f s)

-- one book gets other entries
pub apart_set : (left : List Book) → AreApart left → (k : ℕ) (site : Site) (entries rest : List Entry)
    → slice_get left k ≡ Some (record { site = site; entries = entries })
    → AreApart (slice_set left k (record { site = site; entries = rest }))
apart_set left d k site entries rest is i j a b at bt e =
    let new : Book = record { site = site; entries = rest } in
    let old : Book = record { site = site; entries = entries } in
    ⊎_elim
    (λ (p : (i ≡ k) × (new ≡ a)).
    ⊎_elim
    (λ (q : (j ≡ k) × (new ≡ b)). p.0 ∙ sym q.0)
    (λ (q : (j ≢ k) × (slice_get left j ≡ Some b)). p.0 ∙ d k j old b is q.1 (ap (λ x. x.site) p.1 ∙ e))
    (set_get left k new j b bt))
    (λ (p : (i ≢ k) × (slice_get left i ≡ Some a)).
    ⊎_elim
    (λ (q : (j ≡ k) × (new ≡ b)). d i k a old p.1 is (e ∙ sym (ap (λ x. x.site) q.1)) ∙ sym q.0)
    (λ (q : (j ≢ k) × (slice_get left j ≡ Some b)). d i j a b p.1 q.1 e)
    (set_get left k new j b bt))
    (set_get left k new i a at)

-- Whether two views are the same can be told.
use Rattle.std.proofs.Common.{◌≡◌, ℕ, Bool, true, false, List, [], ◌∷◌, Option, Some, None, refl, ap, inl, inr, true≢false, sym}
use Rattle.std.proofs.lemmas.Bool.{cases_eq}
use Rattle.std.proofs.lemmas.Option.{none-some, same_Some}
use Rattle.node_core.proofs.Reaching.{Either}
use Rattle.node_core.specs.SiteView.{View}
use Rattle.spawn_frame.specs.Units.{Entry, GuestEntry, Table}
use Rattle.spawn_frame.specs.declared.child_result.ChildResult.{ChildResult}
use Rattle.spawn_frame.specs.declared.child_result.ChildResult.TheVariants.{Cover, Empty}
use Rattle.spawn_frame.specs.declared.site.ChildName.{ChildName}
use Rattle.spawn_frame.specs.declared.site.Site.{Site}
use Rattle.spawn_frame.specs.declared.status.Status.{Status}
use Rattle.spawn_frame.specs.declared.status.Status.TheVariants.{Aborted, Done, Dropped, Finished, Here, Out, Ready, Settled, Split}
use Rattle.spawn_frame.specs.declared.unit.Unit.{Unit as WorkUnit}
use Rattle.spawn_frame.specs.declared.unit.Unit.TheVariants.{Guest, Own}
use Rattle.steal_return.specs.Ledger.{Ledger}

-- what comes to two parts can be told where these can
both_told : {P Q R : Type 0} → Either P → Either Q → (P → Q → R) → (R → P) → (R → Q) → Either R
both_told (inl p) (inl q) make left right = inl (make p q)
both_told (inl p) (inr n) make left right = inr (λ r. n (right r))
both_told (inr n) q make left right = inr (λ r. n (left r))

pair_told : {P Q : Type 0} → Either P → Either Q → Either (P × Q)
pair_told (inl p) (inl q) = inl (p, q)
pair_told (inl p) (inr n) = inr (λ r. n r.1)
pair_told (inr n) q = inr (λ r. n r.0)

one_told : {P R : Type 0} → Either P → (P → R) → (R → P) → Either R
one_told (inl p) make back = inl (make p)
one_told (inr n) make back = inr (λ r. n (back r))

list_told : {A : Type 0} → ((x y : A) → Either (x ≡ y)) → (xs ys : List A) → Either (xs ≡ ys)
list_told each [] [] = inl refl
list_told each [] (y ∷ ys) = inr (λ e. cc)
list_told each (x ∷ xs) [] = inr (λ e. cc)
list_told each (x ∷ xs) (y ∷ ys) = both_told (each x y) (list_told each xs ys) (λ p q. λ i. p i ∷ q i) (λ e. cc) (λ e. cc)

option_told : {A : Type 0} → ((x y : A) → Either (x ≡ y)) → (o q : Option A) → Either (o ≡ q)
option_told each None None = inl refl
option_told each None (Some y) = inr (λ e. none-some y e)
option_told each (Some x) None = inr (λ e. none-some x (sym e))
option_told each (Some x) (Some y) = one_told (each x y) (λ p. ap Some p) (λ e. same_Some x y e)

bool_told : (a b : Bool) → Either (a ≡ b)
bool_told true true = inl refl
bool_told true false = inr true≢false
bool_told false true = inr (λ e. true≢false (sym e))
bool_told false false = inl refl

site_told : (s t : Site) → Either (s ≡ t)
site_told s t =
    both_told (cases_eq s.node t.node) (cases_eq s.incarnation t.incarnation)
    (λ p q. λ i. record { node = p i; incarnation = q i }) (λ e. ap (λ x. x.node) e) (λ e. ap (λ x. x.incarnation) e)

name_told : (m n : ChildName) → Either (m ≡ n)
name_told m n =
    both_told (site_told m.site n.site) (cases_eq m.serial n.serial)
    (λ p q. λ i. record { site = p i; serial = q i }) (λ e. ap (λ x. x.site) e) (λ e. ap (λ x. x.serial) e)

unit_told : (u v : WorkUnit) → Either (u ≡ v)
unit_told (Own k) (Own j) = one_told (cases_eq k j) (λ p. ap Own p) (λ e. cc)
unit_told (Own k) (Guest n b) = inr (λ e. cc)
unit_told (Guest m a) (Own j) = inr (λ e. cc)
unit_told (Guest m a) (Guest n b) = both_told (name_told m n) (cases_eq a b) (λ p q. λ i. Guest (p i) (q i)) (λ e. cc) (λ e. cc)

numbers_told : (xs ys : List ℕ) → Either (xs ≡ ys)
numbers_told xs ys = list_told cases_eq xs ys

result_told : (r s : ChildResult) → Either (r ≡ s)
result_told (Cover xs) (Cover ys) = one_told (numbers_told xs ys) (λ p. ap Cover p) (λ e. cc)
result_told (Cover xs) Empty = inr (λ e. cc)
result_told Empty (Cover ys) = inr (λ e. cc)
result_told Empty Empty = inl refl

status_told : (s t : Status) → Either (s ≡ t)
status_told Ready Ready = inl refl
status_told Ready _ = inr (λ e. cc)
status_told Here Here = inl refl
status_told Here _ = inr (λ e. cc)
status_told Split Split = inl refl
status_told Split _ = inr (λ e. cc)
status_told (Out s) (Out t) = one_told (site_told s t) (λ p. ap Out p) (λ e. cc)
status_told (Out s) _ = inr (λ e. cc)
status_told (Done r) (Done q) = one_told (result_told r q) (λ p. ap Done p) (λ e. cc)
status_told (Done r) _ = inr (λ e. cc)
status_told (Finished r) (Finished q) = one_told (result_told r q) (λ p. ap Finished p) (λ e. cc)
status_told (Finished r) _ = inr (λ e. cc)
status_told (Settled r) (Settled q) = one_told (result_told r q) (λ p. ap Settled p) (λ e. cc)
status_told (Settled r) _ = inr (λ e. cc)
status_told Aborted Aborted = inl refl
status_told Aborted _ = inr (λ e. cc)
status_told Dropped Dropped = inl refl
status_told Dropped _ = inr (λ e. cc)

entry_told : (c d : Entry) → Either (c ≡ d)
entry_told c d =
    both_told
    (pair_told (option_told unit_told c.parent d.parent) (numbers_told c.prefix d.prefix))
    (pair_told (cases_eq c.attempt d.attempt) (status_told c.status d.status))
    (λ p q. λ i. record { parent = p.0 i; prefix = p.1 i; attempt = q.0 i; status = q.1 i })
    (λ e. (ap (λ x. x.parent) e, ap (λ x. x.prefix) e))
    (λ e. (ap (λ x. x.attempt) e, ap (λ x. x.status) e))

guest_told : (g h : GuestEntry) → Either (g ≡ h)
guest_told g h =
    both_told (name_told g.name h.name) (entry_told g.entry h.entry)
    (λ p q. λ i. record { name = p i; entry = q i }) (λ e. ap (λ x. x.name) e) (λ e. ap (λ x. x.entry) e)

table_told : (t u : Table) → Either (t ≡ u)
table_told t u =
    both_told
    (pair_told (site_told t.site u.site) (cases_eq t.limit u.limit))
    (pair_told (list_told entry_told t.own u.own) (list_told guest_told t.guests u.guests))
    (λ p q. λ i. record { site = p.0 i; limit = p.1 i; own = q.0 i; guests = q.1 i })
    (λ e. (ap (λ x. x.site) e, ap (λ x. x.limit) e))
    (λ e. (ap (λ x. x.own) e, ap (λ x. x.guests) e))

ledger_told : (l m : Ledger) → Either (l ≡ m)
ledger_told l m =
    both_told (table_told l.table m.table)
    (pair_told (cases_eq l.nodes m.nodes) (numbers_told l.known m.known))
    (λ p q. λ i. record { table = p i; nodes = q.0 i; known = q.1 i })
    (λ e. ap (λ x. x.table) e)
    (λ e. (ap (λ x. x.nodes) e, ap (λ x. x.known) e))

pub view_told : (v w : View) → Either (v ≡ w)
view_told v w =
    both_told (ledger_told v.ledger w.ledger) (bool_told v.over w.over)
    (λ p q. λ i. record { ledger = p i; over = q i }) (λ e. ap (λ x. x.ledger) e) (λ e. ap (λ x. x.over) e)

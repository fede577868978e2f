-- Steps of a Steal that give the same children, or none, are the same.
use Rattle.std.proofs.Common.{◌≡◌, ◌⊎◌, ℕ, Bool, true, false, List, [], ◌∷◌, ◌++◌, length, Option, Some, None, slice_get, refl, sym, ap, subst, ◌∙◌, inl, inr, arith, true≢false}
use Rattle.std.specs.Prelude.{nat_lt}
use Rattle.std.proofs.lemmas.Bool.{ltb-true}
use Rattle.std.proofs.lemmas.List.{length-map}
use Rattle.std.proofs.lemmas.Option.{same_Some}
use Rattle.cover_problem.specs.Problem.{Problem}
use Rattle.cover_world.proofs.Same.{event_same}
use Rattle.cover_world.proofs.SameRoot.{registry_same}
use Rattle.cover_world.specs.Determined.{SameStep, asks_for_work, given_by, may_choose}
use Rattle.node_core.specs.Arrivals.{Denies, Gives, answer_packet}
use Rattle.node_core.specs.NodeStep.{EventStep, HearStep}
use Rattle.node_core.specs.SiteView.{View, with_ledger}
use Rattle.node_core.specs.declared.event.Event.{Event}
use Rattle.node_core.specs.declared.event.Event.TheVariants.{Deliver}
use Rattle.node_core.specs.declared.reply.Reply.{Reply}
use Rattle.packet_wire.specs.Gifts.{gifts_in, is_gift}
use Rattle.packet_wire.specs.declared.packet.Body.{Body}
use Rattle.packet_wire.specs.declared.packet.Body.TheVariants.{Give, GiveMany, Hello, Steal}
use Rattle.packet_wire.specs.declared.packet.Packet.{Packet}
use Rattle.root_registry.specs.RegistryStep.{RegistryStep, RootHears, RootSteal, root_result}
use Rattle.spawn_frame.specs.Gifts.{serials_of, sibling_gift, sibling_gifts}
use Rattle.spawn_frame.specs.Units.{change_at, with_status}
use Rattle.spawn_frame.specs.declared.child_result.ChildResult.{ChildResult}
use Rattle.spawn_frame.specs.declared.gift.Gift.{Gift}
use Rattle.spawn_frame.specs.declared.siblings.Sibling.{Sibling}
use Rattle.spawn_frame.specs.declared.site.Site.{Site}
use Rattle.spawn_frame.specs.declared.status.Status.TheVariants.{Out}
use Rattle.spawn_frame.specs.declared.unit.Unit.{Unit as WorkUnit}
use Rattle.steal_return.specs.Ledger.{Ledger, ledger_own}
use Rattle.steal_return.specs.Steals.{GivesEach}

pub gives_serials : (old : View) (from : Site) (p : List Packet) (v : View) (h : Gives old from p v) → given_by p ≡ serials_of (gifts_in h.body)
gives_serials old from p v h = ap given_by h.sends

pub denies_none : (old : View) (from : Site) (p : List Packet) (v : View) → Denies old from p v → given_by p ≡ []
denies_none old from p v h = ap given_by h.sends

-- who gives, gives some
gives_some : (old : View) (from : Site) (p : List Packet) (v : View) → Gives old from p v → given_by p ≡ [] → ⊥
gives_some old from p v h none =
    let empty : length (serials_of (gifts_in h.body)) ≡ 0 = ap length (sym (gives_serials old from p v h) ∙ none) in
    let some = h.gives.some in
    omega (arith, some, empty, length-map (gifts_in h.body) (λ g. g.serial))

first_same : (n m : ℕ) (ns ms : List ℕ) → (n ∷ ns) ≡ (m ∷ ms) → (n ≡ m) × (ns ≡ ms)
first_same n m ns ms e = (cc, cc)

-- children of the same serials that are given one after the other are the same, and leave the same
each_same : (parent other : Option WorkUnit) (gs hs : List Gift) (old : Ledger) (thief : Site) (v w : Ledger) → serials_of gs ≡ serials_of hs → GivesEach parent old thief gs v → GivesEach other old thief hs w
    → (gs ≡ hs) × (v ≡ w)
each_same parent other [] [] old thief v w e h k = (refl, h ∙ sym k)
each_same parent other [] (y ∷ ys) old thief v w e h k = absurd (cc)
each_same parent other (x ∷ xs) [] old thief v w e h k = absurd (cc)
each_same parent other (x ∷ xs) (y ∷ ys) old thief v w e h k =
    let s = first_same x.serial y.serial (serials_of xs) (serials_of ys) e in
    let entry : h.1.entry ≡ k.1.entry = same_Some h.1.entry k.1.entry (sym h.1.is ∙ ap (slice_get old.own) s.0 ∙ k.1.is) in
    let attempt : x.attempt ≡ y.attempt = h.1.attempt ∙ ap (λ c. c.attempt) entry ∙ sym k.1.attempt in
    let prefix : x.prefix ≡ y.prefix = h.1.prefix ∙ ap (λ c. c.prefix) entry ∙ sym k.1.prefix in
    let mid : h.0 ≡ k.0 = h.1.after ∙ ap (λ n. ledger_own old (change_at (with_status (Out thief)) old.own n)) s.0 ∙ sym k.1.after in
    let rest = each_same parent other xs ys h.0 thief v w s.1 h.3 (subst (λ l. GivesEach other l thief ys w) (sym mid) k.3) in
    ((λ t. record { serial = s.0 t; attempt = attempt t; prefix = prefix t } ∷ rest.0 t), rest.1)

-- ---- what gives the same children is the same

snoc_same : (xs ys : List ℕ) (n m : ℕ) → (xs ++ n ∷ []) ≡ (ys ++ m ∷ []) → (xs ≡ ys) × (n ≡ m)
snoc_same [] [] n m e = (refl, (first_same n m [] [] e).0)
snoc_same [] (y ∷ []) n m e = absurd (cc)
snoc_same [] (y ∷ z ∷ ys) n m e = absurd (cc)
snoc_same (x ∷ []) [] n m e = absurd (cc)
snoc_same (x ∷ z ∷ xs) [] n m e = absurd (cc)
snoc_same (x ∷ xs) (y ∷ ys) n m e =
    let f = first_same x y (xs ++ n ∷ []) (ys ++ m ∷ []) e in
    let r = snoc_same xs ys n m f.1 in
    ((λ t. f.0 t ∷ r.0 t), r.1)

head_same : (g h : Gift) (gs hs : List Gift) → (g ∷ gs) ≡ (h ∷ hs) → (g ≡ h) × (gs ≡ hs)
head_same g h gs hs e = (cc, cc)

sibling_same : (p q : List ℕ) (s t : Sibling) → sibling_gift p s ≡ sibling_gift q t → (p ≡ q) × (s ≡ t)
sibling_same p q s t e =
    let parts = snoc_same p q s.option t.option (ap (λ g. g.prefix) e) in
    (parts.0, (λ i. record { serial = ap (λ g. g.serial) e i; attempt = ap (λ g. g.attempt) e i; option = parts.1 i }))

siblings_same : (p q : List ℕ) (ss ts : List Sibling) → sibling_gifts p ss ≡ sibling_gifts q ts → ss ≡ ts
siblings_same p q [] [] e = refl
siblings_same p q [] (t ∷ ts) e = absurd (cc)
siblings_same p q (s ∷ ss) [] e = absurd (cc)
siblings_same p q (s ∷ ss) (t ∷ ts) e =
    let f = head_same (sibling_gift p s) (sibling_gift q t) (sibling_gifts p ss) (sibling_gifts q ts) e in
    let r = siblings_same p q ss ts f.1 in
    let h = sibling_same p q s t f.0 in
    (λ i. h.1 i ∷ r i)

many_same : (p q : List ℕ) (ss ts : List Sibling) → nat_lt 1 (length ss) ≡ true → sibling_gifts p ss ≡ sibling_gifts q ts → GiveMany p ss ≡ GiveMany q ts
many_same p q [] ts more e = absurd (true≢false (sym more))
many_same p q (s ∷ ss) [] more e = absurd (cc)
many_same p q (s ∷ ss) (t ∷ ts) more e =
    let f = head_same (sibling_gift p s) (sibling_gift q t) (sibling_gifts p ss) (sibling_gifts q ts) e in
    let h = sibling_same p q s t f.0 in
    let r = siblings_same p q (s ∷ ss) (t ∷ ts) e in
    (λ i. GiveMany (h.0 i) (r i))

-- one child by itself is not given as several
one_or_many : (g : Gift) (p : List ℕ) (ss : List Sibling) → nat_lt 1 (length ss) ≡ true → (g ∷ []) ≡ sibling_gifts p ss → ⊥
one_or_many g p ss more e =
    let one : 1 ≡ length (sibling_gifts p ss) = ap length e in
    let lt = ltb-true 1 (length ss) more in
    omega (arith, one, lt, length-map ss (sibling_gift p))

bodies_same : (b c : Body) → is_gift b ≡ true → is_gift c ≡ true → gifts_in b ≡ gifts_in c → b ≡ c
bodies_same (Give k a p) (Give l b q) s t e =
    let f = head_same (record { serial = k; attempt = a; prefix = p }) (record { serial = l; attempt = b; prefix = q }) [] [] e in
    (λ i. Give (ap (λ g. g.serial) f.0 i) (ap (λ g. g.attempt) f.0 i) (ap (λ g. g.prefix) f.0 i))
bodies_same (Give k a p) (GiveMany q ts) s t e = absurd (one_or_many (record { serial = k; attempt = a; prefix = p }) q ts t e)
bodies_same (GiveMany p ss) (Give l b q) s t e = absurd (one_or_many (record { serial = l; attempt = b; prefix = q }) p ss s (sym e))
bodies_same (GiveMany p ss) (GiveMany q ts) s t e = many_same p q ss ts s e
bodies_same (Give k a p) Hello s t e = absurd (true≢false (sym t))
bodies_same (Give k a p) _ s t e = absurd (true≢false (sym t))
bodies_same (GiveMany p ss) Hello s t e = absurd (true≢false (sym t))
bodies_same (GiveMany p ss) _ s t e = absurd (true≢false (sym t))
bodies_same Hello c s t e = absurd (true≢false (sym s))
bodies_same _ c s t e = absurd (true≢false (sym s))

gives_same : (old : View) (from : Site) (p q : List Packet) (v w : View) → given_by p ≡ given_by q → Gives old from p v → Gives old from q w → (p ≡ q) × (v ≡ w)
gives_same old from p q v w alike h k =
    let serials = sym (gives_serials old from p v h) ∙ alike ∙ gives_serials old from q w k in
    let same = each_same h.parent k.parent (gifts_in h.body) (gifts_in k.body) old.ledger from h.ledger k.ledger serials h.each k.each in
    let body : h.body ≡ k.body = bodies_same h.body k.body h.spelled k.spelled same.0 in
    (h.sends ∙ ap (answer_packet old from) body ∙ sym k.sends, h.after ∙ ap (with_ledger old) same.1 ∙ sym k.after)

pub steals_same : (old : View) (from : Site) (p q : List Packet) (v w : View) → given_by p ≡ given_by q → Denies old from p v ⊎ Gives old from p v → Denies old from q w ⊎ Gives old from q w → (p ≡ q) × (v ≡ w)
steals_same old from p q v w alike (inl h) (inl k) = (h.sends ∙ sym k.sends, h.after ∙ sym k.after)
steals_same old from p q v w alike (inl h) (inr k) = absurd (gives_some old from q w k (sym alike ∙ denies_none old from p v h))
steals_same old from p q v w alike (inr h) (inl k) = absurd (gives_some old from p v h (alike ∙ denies_none old from q w k))
steals_same old from p q v w alike (inr h) (inr k) = gives_same old from p q v w alike h k

root_steals_same : (result : Option ChildResult) (old : View) (from : Site) (p q : List Packet) (v w : View) → given_by p ≡ given_by q → RootSteal result old from p v → RootSteal result old from q w → (p ≡ q) × (v ≡ w)
root_steals_same (Some result) old from p q v w alike h k = (h.1 ∙ sym k.1, h.0 ∙ sym k.0)
root_steals_same None old from p q v w alike h k = steals_same old from p q v w alike h k

-- a body that asks for work is a Steal
is_steal : (body : Body) → asks_for_work body ≡ true → body ≡ Steal
is_steal Steal asks = refl
is_steal Hello asks = absurd (cc)
is_steal _ asks = absurd (cc)

-- an event at which a site may choose is the arrival of a Steal
pub its_packet : (event : Event) → may_choose event ≡ true → (packet : Packet) × (event ≡ Deliver packet) × (packet.body ≡ Steal)
its_packet (Deliver packet) may = (packet, refl, is_steal packet.body may)
its_packet _ may = absurd (cc)

arrival_same : (problem : Problem) (old : View) (packet : Packet) (r s : Reply) (p q : List Packet) (v w : View) → packet.body ≡ Steal → given_by p ≡ given_by q
    → EventStep problem old (Deliver packet) r p v → EventStep problem old (Deliver packet) s q w → SameStep r s p q v w
arrival_same problem old packet r s p q v w steal alike h k =
    let first : HearStep problem old packet.from Steal r p v = subst (λ b. HearStep problem old packet.from b r p v) steal h.2 in
    let second : HearStep problem old packet.from Steal s q w = subst (λ b. HearStep problem old packet.from b s q w) steal k.2 in
    let same = steals_same old packet.from p q v w alike first.1 second.1 in
    (first.0 ∙ sym second.0, same.0, same.1)

pub choice_same : (problem : Problem) (old : View) (event : Event) (r s : Reply) (p q : List Packet) (v w : View) → given_by p ≡ given_by q
    → EventStep problem old event r p v → EventStep problem old event s q w → SameStep r s p q v w
choice_same problem old event r s p q v w alike h k = by (may_choose event) refl
  where
    by : (b : Bool) → may_choose event ≡ b → SameStep r s p q v w
    by true may =
        let is = its_packet event may in
        arrival_same problem old is.0 r s p q v w is.2 alike (subst (λ e. EventStep problem old e r p v) is.1 h) (subst (λ e. EventStep problem old e s q w) is.1 k)
    by false may = event_same problem old event r s p q v w may h k

root_arrival_same : (problem : Problem) (old : View) (packet : Packet) (r s : Reply) (p q : List Packet) (v w : View) → packet.body ≡ Steal → given_by p ≡ given_by q
    → RegistryStep problem old (Deliver packet) r p v → RegistryStep problem old (Deliver packet) s q w → SameStep r s p q v w
root_arrival_same problem old packet r s p q v w steal alike h k =
    let first : RootHears problem old packet.from Steal r p v = subst (λ b. RootHears problem old packet.from b r p v) steal h.2 in
    let second : RootHears problem old packet.from Steal s q w = subst (λ b. RootHears problem old packet.from b s q w) steal k.2 in
    let same = root_steals_same (root_result old) old packet.from p q v w alike first.1 second.1 in
    (first.0 ∙ sym second.0, same.0, same.1)

pub root_choice_same : (problem : Problem) (old : View) (event : Event) (r s : Reply) (p q : List Packet) (v w : View) → given_by p ≡ given_by q
    → RegistryStep problem old event r p v → RegistryStep problem old event s q w → SameStep r s p q v w
root_choice_same problem old event r s p q v w alike h k = by (may_choose event) refl
  where
    by : (b : Bool) → may_choose event ≡ b → SameStep r s p q v w
    by true may =
        let is = its_packet event may in
        root_arrival_same problem old is.0 r s p q v w is.2 alike (subst (λ e. RegistryStep problem old e r p v) is.1 h) (subst (λ e. RegistryStep problem old e s q w) is.1 k)
    by false may = registry_same problem old event r s p q v w may h k

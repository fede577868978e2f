-- What a node that greets comes to.
use Rattle.std.proofs.Common.{◌≡◌, ℕ, zero, suc, ◌-◌, ◌<◌, ◌≤◌, max, get_or, List, [], ◌∷◌, length, drop, take, Some, None, refl, sym, ap, ◌∙◌, subst, arith, if◌then◌else◌, slice_set}
use Rattle.std.proofs.Math.Seq.{take-length}
use Rattle.node_core.proofs.Spending.{none_spent, spent_any}
use Rattle.node_core.specs.SiteView.{View}
use Rattle.node_core.specs.declared.act_fault.ActFault.TheVariants.{NamesSpent}
use Rattle.root_registry.specs.Refusal.{hello_refusal}
use Rattle.root_registry.specs.RegistryStep.{is_earlier_incarnation, raised}
use Rattle.spawn_frame.specs.declared.site.Site.{Site}
use Rattle.steal_return.proofs.Learning.{raised_is, raised_length}
use Rattle.steal_return.specs.Ledger.{Ledger}
use Rattle.steal_return.specs.Members.{IsRedoable, IsSpentForHello}

-- the incarnations of the nodes alone, once one of them is raised
nodes_raised : (incarnations : List ℕ) (node incarnation : ℕ) → 1 ≤ node → raised (drop 1 incarnations) (node - 1) incarnation ≡ drop 1 (raised incarnations node incarnation)
nodes_raised [] node incarnation some = refl
nodes_raised (k ∷ ks) zero incarnation some = absurd (omega (arith, some))
nodes_raised (k ∷ ks) (suc node) incarnation some =
    let same : suc node - 1 ≡ node = omega arith in
    ap (λ n. raised ks n incarnation) same

-- all but the first
pub all_dropped : (incarnations : List ℕ) → take (length incarnations - 1) (drop 1 incarnations) ≡ drop 1 incarnations
all_dropped [] = refl
all_dropped (k ∷ ks) =
    let same : suc (length ks) - 1 ≡ length ks = omega arith in
    ap (λ n. take n ks) same ∙ take-length ks

dropped_length : (incarnations : List ℕ) (node : ℕ) → 1 ≤ node → node < length incarnations → node - 1 < length (drop 1 incarnations)
dropped_length [] node some there = absurd (omega (arith, there))
dropped_length (k ∷ ks) node some there = omega (arith, some, there)

pub raised_nodes : (incarnations later : List ℕ) (node incarnation before after : ℕ) → 1 ≤ node → node < length incarnations → later ≡ drop 1 incarnations
    → before ≡ get_or later (node - 1) before → after ≡ max before incarnation
    → slice_set later (node - 1) after ≡ drop 1 (raised incarnations node incarnation)
raised_nodes incarnations later node incarnation before after some there nodes at is =
    ap (λ n. slice_set later (node - 1) n) is
    ∙ raised_is later (node - 1) incarnation before (subst (λ (l : List ℕ). node - 1 < length l) (sym nodes) (dropped_length incarnations node some there)) at
    ∙ ap (λ l. raised l (node - 1) incarnation) nodes
    ∙ nodes_raised incarnations node incarnation some

-- as many incarnations as nodes
drop_length : (incarnations : List ℕ) (nodes : ℕ) → length incarnations ≡ suc nodes → length (drop 1 incarnations) ≡ nodes
drop_length [] nodes e = absurd (omega (arith, e))
drop_length (k ∷ ks) nodes e = omega (arith, e)

pub raised_few : (incarnations : List ℕ) (node incarnation nodes : ℕ) → length incarnations ≡ suc nodes → nodes ≤ 16 → length (drop 1 (raised incarnations node incarnation)) ≤ 16
raised_few incarnations node incarnation nodes each most =
    let same = drop_length (raised incarnations node incarnation) nodes (raised_length incarnations node incarnation ∙ each) in
    omega (arith, same, most)

-- one that would have to redo a child at its last attempt is refused
pub hello_refused : (view : View) (ledger : Ledger) (from : Site) → ledger ≡ view.ledger → IsSpentForHello ledger from → hello_refusal view from ≡ Some NamesSpent
hello_refused view ledger from same was =
    let spent = subst (λ l. IsSpentForHello l from) same was in
    ap (λ b. if b then Some NamesSpent else None)
    (spent_any (is_earlier_incarnation from.node (raised view.known from.node from.incarnation)) view.own spent.serial spent.spent)

-- and no other
pub hello_able : (view : View) (ledger : Ledger) (from : Site) → ledger ≡ view.ledger
    → IsRedoable (is_earlier_incarnation from.node (raised ledger.known from.node from.incarnation)) ledger.own → hello_refusal view from ≡ None
hello_able view ledger from same was =
    let able = subst (λ (l : Ledger). IsRedoable (is_earlier_incarnation from.node (raised l.known from.node from.incarnation)) l.own) same was in
    ap (λ b. if b then Some NamesSpent else None)
    (none_spent (is_earlier_incarnation from.node (raised view.known from.node from.incarnation)) view.own able)

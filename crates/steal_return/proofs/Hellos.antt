-- What is redone once a node says in which incarnation it is: the children that are out to earlier ones of that very node.
use Rattle.std.proofs.Common.{◌≡◌, ℕ, zero, suc, ◌-◌, length, Bool, true, false, ◌&&◌, ◌==◌, nat_le, nat_lt, cond, List, [], ◌∷◌, slice_get, refl, sym, ap, subst, ◌∙◌}
use Rattle.std.proofs.lemmas.Bool.{and_parts, eqb-false}
use Rattle.spawn_frame.specs.Units.{Entry, Table, last_attempt, redone, table_own}
use Rattle.spawn_frame.specs.declared.site.Site.{Site}
use Rattle.spawn_frame.specs.declared.status.Status.{Status}
use Rattle.spawn_frame.specs.declared.status.Status.TheVariants.{Out, Ready}
use Rattle.steal_return.proofs.Learning.{raised_length, raised_other}
use Rattle.steal_return.specs.Invariant.{NoneOutrun}
use Rattle.steal_return.specs.Ledger.{Ledger}
use Rattle.steal_return.specs.Members.{IsRedoable, IsSpent, LearnsHello, is_earlier_incarnation, is_out_to, is_spent_at, raised, redo_if, redo_lost}
use Rattle.steal_return.specs.Steals.{is_older}

module _ (known : List ℕ) (from : Site) where
  abbrev later : List ℕ
  later = raised known from.node from.incarnation

  older_same : (thief : Site) → is_older known thief ≡ false → is_older later thief ≡ is_earlier_incarnation from.node later thief
  older_same thief h = go (thief.node == from.node) refl
    where
      go : (b : Bool) → (thief.node == from.node) ≡ b → is_older later thief ≡ (b && is_older later thief)
      go true e = refl
      go false e = ap (nat_lt thief.incarnation) (raised_other known from.node from.incarnation thief.node (eqb-false thief.node from.node e)) ∙ h

  out_same : (s : Status) → is_out_to (is_older known) s ≡ false → is_out_to (is_older later) s ≡ is_out_to (is_earlier_incarnation from.node later) s
  out_same (Out thief) h = older_same thief h
  out_same Ready h = refl
  out_same _ h = refl

  redo_one : (c : Entry) (s : Status) → is_out_to (is_older known) s ≡ false → redo_if (is_older later) c s ≡ redo_if (is_earlier_incarnation from.node later) c s
  redo_one c (Out thief) h = ap (λ b. cond b (redone c) c) (older_same thief h)
  redo_one c Ready h = refl
  redo_one c _ h = refl

  redo_same : (own : List Entry) → NoneOutrun known own → redo_lost (is_older later) own ≡ redo_lost (is_earlier_incarnation from.node later) own
  redo_same [] h = refl
  redo_same (c ∷ cs) h = λ i. redo_one c c.status h.0 i ∷ redo_same cs h.1 i

  spent_at_same : (own : List Entry) → NoneOutrun known own → (k : ℕ)
      → is_spent_at (is_older later) (slice_get own k) ≡ is_spent_at (is_earlier_incarnation from.node later) (slice_get own k)
  spent_at_same [] h k = refl
  spent_at_same (c ∷ cs) h zero = ap (λ b. nat_le last_attempt c.attempt && b) (out_same c.status h.0)
  spent_at_same (c ∷ cs) h (suc k) = spent_at_same cs h.1 k

  pub spent_same : (own : List Entry) → NoneOutrun known own → IsSpent (is_older later) own → IsSpent (is_earlier_incarnation from.node later) own
  spent_same own h s = record { serial = s.serial; spent = sym (spent_at_same own h s.serial) ∙ s.spent }

  redoable_same : (own : List Entry) → IsRedoable (is_older later) own → IsRedoable (is_earlier_incarnation from.node later) own
  redoable_same own h k entry thief is out lost = h k entry thief is out (and_parts (thief.node == from.node) (is_older later thief) lost).1

-- the ledger that is left
abbrev pub greeted : Ledger → List ℕ → Table → Ledger
greeted was known table = record { table = table; nodes = length known - 1; known = known }

pub learns_hello : (was now : Ledger) → was ≡ now → (from : Site) (known : List ℕ) (table : Table) → length was.known - 1 ≡ was.nodes → NoneOutrun was.known was.own
    → known ≡ raised was.known from.node from.incarnation → IsRedoable (is_older (raised was.known from.node from.incarnation)) was.own
    → table ≡ table_own was.table (redo_lost (is_older known) was.own) → LearnsHello now from (greeted was known table)
learns_hello was now same from known table nodes none is able redoes =
    subst (λ l. LearnsHello l from (greeted was known table)) same
    (record {
      known = known;
      known_is = is;
      redoable = subst (λ k. IsRedoable (is_earlier_incarnation from.node k) was.own) (sym is) (redoable_same was.known from was.own able);
      after =
          ap (greeted was known)
          (redoes ∙ ap (λ k. table_own was.table (redo_lost (is_older k) was.own)) is
          ∙ ap (table_own was.table) (redo_same was.known from was.own none)
          ∙ ap (λ k. table_own was.table (redo_lost (is_earlier_incarnation from.node k) was.own)) (sym is))
          ∙ ap (λ n. record { table = table_own was.table (redo_lost (is_earlier_incarnation from.node known) was.own); nodes = n; known = known })
          (ap (λ n. n - 1) (ap length is ∙ raised_length was.known from.node from.incarnation) ∙ nodes);
    })

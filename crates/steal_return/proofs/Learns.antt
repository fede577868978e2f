-- What is learnt, redone, dropped and aborted in one call.
use Rattle.std.proofs.Common.{◌≡◌, ◌≢◌, ℕ, suc, ◌-◌, ◌<◌, Bool, true, false, cond, List, [], ◌∷◌, ◌++◌, length, not, ◌==◌, refl, sym, ap, subst, ◌∙◌, inr, ⊎_elim, arith, true≢false}
use Rattle.std.proofs.lemmas.Bool.{eqb-true}
use Rattle.std.specs.Bool.{OnFalse}
use Rattle.abort_tree.specs.Below.{aborted, is_among}
use Rattle.spawn_frame.specs.Aborts.{AbortsBelow, IsBelow, child, deeper, reached}
use Rattle.spawn_frame.specs.Tables.{IsAscending}
use Rattle.spawn_frame.specs.Units.{Entry, GuestEntry, Table, redone, table_guests, table_own}
use Rattle.spawn_frame.specs.declared.site.Site.{Site}
use Rattle.spawn_frame.specs.declared.status.Status.{Status}
use Rattle.spawn_frame.specs.declared.status.Status.TheVariants.{Out, Ready}
use Rattle.spawn_frame.specs.declared.unit.Unit.{Unit as WorkUnit}
use Rattle.steal_return.proofs.Dropping.{lost_dropped, lost_tops, none_dropped, some_dropped}
use Rattle.steal_return.proofs.Marking.{NoMoreOut, parents, redo_no_more}
use Rattle.steal_return.proofs.Redoing.{redo_none}
use Rattle.steal_return.specs.Invariant.{NoneOutrun}
use Rattle.steal_return.specs.Ledger.{Ledger}
use Rattle.steal_return.specs.Members.{Differs, IsAlike, IsRedoable, LearnsMembers, drop_lost, dropped, is_lost_guest, lost_units, now_known, redo_if, redo_lost}
use Rattle.steal_return.specs.Steals.{is_older}
use Rattle.abort_tree.proofs.Aborting.{unreached}

-- a redo keeps the parent
pub same_parent : (lost : Site → Bool) (c : Entry) (s : Status) → c.parent ≡ (redo_if lost c s).parent
same_parent lost c (Out thief) = by (lost thief)
  where
    by : (b : Bool) → c.parent ≡ (cond b (redone c) c).parent
    by true = refl
    by false = refl
same_parent lost c Ready = refl
same_parent lost c _ = refl

pub parents_redo : (lost : Site → Bool) (own : List Entry) → parents own ≡ parents (redo_lost lost own)
parents_redo lost [] = refl
parents_redo lost (c ∷ cs) = λ i. same_parent lost c c.status i ∷ parents_redo lost cs i

-- the ledger that is left
abbrev pub left_ledger : Ledger → List ℕ → Table → Ledger
left_ledger was known table = record { table = table; nodes = length known - 1; known = known }

-- nothing is below no units
below_none : (own : List Entry) (k : ℕ) → IsBelow (is_among []) own k → ⊥
below_none own k (child is parent passes) = true≢false (sym passes)
below_none own k (deeper {parent = above} is parent under) = below_none own above under

first_of : (us : List WorkUnit) → 0 < length us → (u : WorkUnit) × ((vs : List WorkUnit) × (us ≡ u ∷ vs))
first_of [] h = absurd (omega (arith, h))
first_of (u ∷ us) h = (u, (us, refl))

-- ---- through the three changes of the table

module _ (was now : Ledger) (same : was ≡ now) (known incarnations : List ℕ) (lost : List WorkUnit) (marks : List Bool) (first second third : Table)
    (redoes : first ≡ table_own was.table (redo_lost (is_older known) was.own)) (drops : second ≡ table_guests first (dropped lost first.guests))
    (aborts : third ≡ table_own second (aborted marks second.own)) (ascending : IsAscending was.guests) (lost_is : lost ≡ lost_units known was.guests)
    (kept : length known - 1 ≡ was.nodes) where
  abbrev own_redone : List Entry
  own_redone = redo_lost (is_older known) was.own

  second_is : second ≡ table_guests (table_own was.table own_redone) (drop_lost known was.guests)
  second_is =
      drops ∙ ap (λ t. table_guests t (dropped lost t.guests)) redoes
      ∙ ap (table_guests (table_own was.table own_redone)) (ap (λ us. dropped us was.guests) lost_is ∙ lost_dropped known was.guests ascending)

  third_is : third ≡ table_own (table_guests (table_own was.table own_redone) (drop_lost known was.guests)) (aborted marks own_redone)
  third_is = aborts ∙ ap (λ t. table_own t (aborted marks t.own)) second_is

  pub parents_same : parents was.own ≡ parents second.own
  parents_same = parents_redo (is_older known) was.own ∙ ap (λ t. parents t.own) (sym second_is)

  pub learns_members : known ≡ now_known was.site.node was.known incarnations → IsRedoable (is_older known) was.own
      → AbortsBelow (is_among lost) second.own third.own
      → LearnsMembers now incarnations (reached 0 second.own third.own) (left_ledger was known third)
  learns_members known_is redoable below =
      subst (λ l. LearnsMembers l incarnations (reached 0 second.own third.own) (left_ledger was known third)) same
      (record {
        known = known;
        known_is = known_is;
        redoable = redoable;
        own = third.own;
        aborts =
            subst (λ xs. AbortsBelow (is_lost_guest known was.guests) xs third.own) (ap (λ t. t.own) second_is)
            (subst (λ top. AbortsBelow top second.own third.own) (ap is_among lost_is ∙ lost_tops known was.guests ascending) below);
        after =
            ap (left_ledger was known)
            (third_is ∙ ap (table_own (table_guests (table_own was.table own_redone) (drop_lost known was.guests))) (sym (ap (λ t. t.own) third_is)))
            ∙ ap (λ n. record { table = table_own (table_guests (table_own was.table own_redone) (drop_lost known was.guests)) third.own; nodes = n; known = known }) kept;
        reaches = ap (λ t. reached 0 t.own third.own) second_is;
      })

  pub moves : Differs now known lost → left_ledger was known third ≡ now → ⊥
  moves differs e =
      let same_end : left_ledger was known third ≡ was = e ∙ sym same in
      ⊎_elim
      (λ (d : known ≢ was.known). d (ap (λ l. l.known) same_end))
      (λ (d : 0 < length lost).
      let u = first_of lost d in
      some_dropped known was.guests u.0 u.1.0 (sym lost_is ∙ u.1.1) (sym (ap (λ t. t.guests) third_is) ∙ ap (λ l. l.guests) same_end))
      (subst (λ l. Differs l known lost) (sym same) differs)

-- no more children are out once some were redone and guests were dropped
pub redone_no_more : (lost : Site → Bool) (old first second : Table) (guests : List GuestEntry) → first ≡ table_own old (redo_lost lost old.own)
    → second ≡ table_guests first guests → NoMoreOut old.own second.own
redone_no_more lost old first second guests redoes drops =
    subst (λ t. NoMoreOut old.own t.own) (sym (drops ∙ ap (λ t. table_guests t guests) redoes)) (redo_no_more lost old.own)

-- ---- whether there is a difference

empty_list : (us : List WorkUnit) → true ≡ (length us == 0) → us ≡ []
empty_list [] h = refl
empty_list (u ∷ us) h = absurd (let e : length (u ∷ us) ≡ 0 = eqb-true (length (u ∷ us)) 0 (sym h) in omega (arith, e))

pub not_false : (b : Bool) → false ≡ not b → true ≡ b
not_false true h = refl
not_false false h = absurd (true≢false (sym h))

pub alike_by : (was now : Ledger) → was ≡ now → (known : List ℕ) (lost : List WorkUnit) → known ≡ was.known → (b : Bool) → b ≡ (length lost == 0)
    → OnFalse (not b) (IsAlike now known lost)
alike_by was now same known lost k true empty = subst (λ w. IsAlike w known lost) same (record { same = k; none_lost = empty_list lost empty })
alike_by was now same known lost k false empty = tt

-- ---- where there is none

-- nothing is below no units, so nothing is aborted
none_aborted : (own : List Entry) → AbortsBelow (is_among []) own own
none_aborted own = record { each = λ k entry at. inr ((λ below still. below_none own k below), at); ends = refl }

none_reached : (k : ℕ) (own : List Entry) → [] ≡ reached k own own
none_reached k [] = refl
none_reached k (c ∷ cs) = none_reached (suc k) cs ∙ ap (λ l. l ++ reached (suc k) cs cs) (sym (unreached k c.attempt c.status))

-- where nothing differs, nothing changes and no thief is told
pub learns_nothing : (now : Ledger) (known incarnations : List ℕ) (lost : List WorkUnit) → IsAscending now.guests
    → lost ≡ lost_units known now.guests → known ≡ now_known now.site.node now.known incarnations → IsRedoable (is_older known) now.own
    → NoneOutrun now.known now.own → IsAlike now known lost → LearnsMembers now incarnations [] now
learns_nothing now known incarnations lost ascending lost_is known_is redoable none_outrun alike =
    let own : redo_lost (is_older known) now.own ≡ now.own =
    subst (λ k. redo_lost (is_older k) now.own ≡ now.own) (sym alike.same) (redo_none now.known now.own none_outrun) in
    let guests : drop_lost known now.guests ≡ now.guests = none_dropped known now.guests (sym lost_is ∙ alike.none_lost) in
    let tops : is_among [] ≡ is_lost_guest known now.guests = ap is_among (sym alike.none_lost ∙ lost_is) ∙ lost_tops known now.guests ascending in
    let back = sym guests in
    let learnt = sym alike.same in
    record {
      known = known;
      known_is = known_is;
      redoable = redoable;
      own = now.own;
      aborts =
          subst (λ xs. AbortsBelow (is_lost_guest known now.guests) xs now.own) (sym own)
          (subst (λ top. AbortsBelow top now.own now.own) tops (none_aborted now.own));
      after = λ i. record {
        table = record { site = now.site; limit = now.limit; own = now.own; guests = back i };
        nodes = now.nodes;
        known = learnt i;
      };
      reaches = none_reached 0 now.own ∙ ap (λ xs. reached 0 xs now.own) (sym own);
    }

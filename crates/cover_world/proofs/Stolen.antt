-- The run in which a child is stolen, and its two ends.
use Rattle.std.proofs.Common.{◌≡◌, ℕ, zero, suc, ◌<◌, ◌≤◌, Bool, true, false, ◌==◌, List, [], ◌∷◌, Some, unwrap_or, slice_get, slice_set, slice_index, refl, sym, ap, ◌∙◌, inl, inr, ⊎_elim, arith, true≢false}
use Rattle.std.proofs.lemmas.Bool.{eqb-true, ne_eqb, or_cases}
use Rattle.std.proofs.lemmas.Option.{same_Some}
use Rattle.cover_problem.specs.Examples.{small}
use Rattle.cover_problem.specs.ExactCover.{IsExactCover, uses}
use Rattle.cover_problem.specs.Numbers.{is_in}
use Rattle.cover_problem.specs.Search.{Barren, Covers, Spent}
use Rattle.cover_world.proofs.Searches.{first_barren, root_spent, second_covers, small_children}
use Rattle.cover_world.proofs.Stages.{Stage, aborts_first, aborts_none, aborts_nothing, acts, each_of_one, each_of_two, gives_first, opening}
use Rattle.cover_world.specs.Plays.{IsRefused, root_guest, site1, site2}
use Rattle.cover_world.specs.Stolen.{anew_hello, anew_first_members, cover, late_return, late_refuse, root_steal, root_give, child_steal, child_give, child_return, stolen}
use Rattle.cover_world.specs.Worlds.{Acts, Restarts, go, opening_node}
use Rattle.node_core.specs.SiteView.{View, with_table}
use Rattle.node_core.specs.declared.event.Event.TheVariants.{Ask, Deliver, Finish, Greet, Post, Take}
use Rattle.node_core.specs.declared.reply.Reply.TheVariants.{Moved, Taken}
use Rattle.packet_wire.specs.declared.packet.Packet.{Packet}
use Rattle.root_registry.specs.RegistryStep.{is_earlier_incarnation}
use Rattle.spawn_frame.specs.Aborts.{AbortsBelow}
use Rattle.spawn_frame.specs.Splits.{split_into}
use Rattle.spawn_frame.specs.Units.{Entry, last_attempt, redone, with_status}
use Rattle.spawn_frame.specs.declared.cause.Cause.TheVariants as causes
use Rattle.spawn_frame.specs.declared.child_result.ChildResult.TheVariants.{Cover}
use Rattle.spawn_frame.specs.declared.site.Site.{Site}
use Rattle.spawn_frame.specs.declared.status.Status.TheVariants.{Aborted, Done, Out, Ready}
use Rattle.spawn_frame.specs.declared.unit.Unit.TheVariants.{Own}
use Rattle.spawn_frame.specs.Tables.{root_entry}
use Rattle.steal_return.specs.Members.{IsRedoable, is_lost_guest}
use Rattle.steal_return.specs.Returns.{Enters, Refuses}
use Rattle.steal_return.specs.Steals.{is_older}

pub counted : IsExactCover small (is_in cover)
counted = record { in_range = in_range; primary = primary; secondary = λ item high. inl (at_most_one item) }
  where
    in_range : (o : ℕ) → is_in cover o ≡ true → o < 6
    in_range o h =
        ⊎_elim
        (λ (e : (3 == o) ≡ true). omega (arith, eqb-true 3 o e))
        (λ (e : is_in (4 ∷ 0 ∷ []) o ≡ true). ⊎_elim
        (λ (f : (4 == o) ≡ true). omega (arith, eqb-true 4 o f))
        (λ (f : is_in (0 ∷ []) o ≡ true). ⊎_elim
        (λ (g : (0 == o) ≡ true). omega (arith, eqb-true 0 o g))
        (λ (g : false ≡ true). absurd (true≢false (sym g)))
        (or_cases (0 == o) false f))
        (or_cases (4 == o) (is_in (0 ∷ []) o) e))
        (or_cases (3 == o) (is_in (4 ∷ 0 ∷ []) o) h)

    primary : (item : ℕ) → item < 7 → uses small (is_in cover) item ≡ 1
    primary zero l = refl
    primary (suc zero) l = refl
    primary (suc (suc zero)) l = refl
    primary (suc (suc (suc zero))) l = refl
    primary (suc (suc (suc (suc zero)))) l = refl
    primary (suc (suc (suc (suc (suc zero))))) l = refl
    primary (suc (suc (suc (suc (suc (suc zero)))))) l = refl
    primary (suc (suc (suc (suc (suc (suc (suc n))))))) l = absurd (omega (arith, l))

    at_most_one : (item : ℕ) → uses small (is_in cover) item ≤ 1
    at_most_one zero = omega arith
    at_most_one (suc zero) = omega arith
    at_most_one (suc (suc zero)) = omega arith
    at_most_one (suc (suc (suc zero))) = omega arith
    at_most_one (suc (suc (suc (suc zero)))) = omega arith
    at_most_one (suc (suc (suc (suc (suc zero))))) = omega arith
    at_most_one (suc (suc (suc (suc (suc (suc zero)))))) = omega arith
    at_most_one (suc (suc (suc (suc (suc (suc (suc n))))))) =
        let e0 : (0 == suc (suc (suc (suc (suc (suc (suc n))))))) ≡ false = ne_eqb 0 (suc (suc (suc (suc (suc (suc (suc n))))))) (omega arith) in
        let e1 : (1 == suc (suc (suc (suc (suc (suc (suc n))))))) ≡ false = ne_eqb 1 (suc (suc (suc (suc (suc (suc (suc n))))))) (omega arith) in
        let e2 : (2 == suc (suc (suc (suc (suc (suc (suc n))))))) ≡ false = ne_eqb 2 (suc (suc (suc (suc (suc (suc (suc n))))))) (omega arith) in
        let e3 : (3 == suc (suc (suc (suc (suc (suc (suc n))))))) ≡ false = ne_eqb 3 (suc (suc (suc (suc (suc (suc (suc n))))))) (omega arith) in
        let e4 : (4 == suc (suc (suc (suc (suc (suc (suc n))))))) ≡ false = ne_eqb 4 (suc (suc (suc (suc (suc (suc (suc n))))))) (omega arith) in
        let e5 : (5 == suc (suc (suc (suc (suc (suc (suc n))))))) ≡ false = ne_eqb 5 (suc (suc (suc (suc (suc (suc (suc n))))))) (omega arith) in
        let e6 : (6 == suc (suc (suc (suc (suc (suc (suc n))))))) ≡ false = ne_eqb 6 (suc (suc (suc (suc (suc (suc (suc n))))))) (omega arith) in
        simp (e0, e1, e2, e3, e4, e5, e6) (omega arith)

abbrev pub s1 : Stage small
s1 =
    acts (opening small) 1 (Ask 0) Moved _ _ _ refl tt
    (refl, (refl, record { another = omega arith; exists = omega arith; after = refl; sends = refl }))

abbrev pub s2 : Stage small
s2 =
    acts s1 0 (Deliver root_steal) Moved _ _ _ refl (0, refl)
    (refl, omega arith, (refl, inr (gives_first root_entry refl refl refl)))

abbrev pub s3 : Stage small
s3 =
    acts s2 1 (Deliver root_give) Moved _ _ _ refl (1, refl)
    (refl, (refl, omega arith, record { ledger = _; admits = record { not_older = refl; some_new = refl; after = refl }; lawful = refl; after = refl; sends = refl }))

abbrev pub s4 : Stage small
s4 =
    acts s3 1 Take (Taken (record { unit = root_guest 1; attempt = 1 }) []) _ _ _ refl tt
    (refl, record { none_ripe = refl; first = refl; entry = _; is = refl; ready = refl; attempt = refl; prefix_is = refl; after = refl; sends = refl })

-- what the first node holds then
abbrev pub s4_view : View
s4_view = unwrap_or (slice_get s4.end.sites 1) (opening_node 2 1 1 9)

abbrev pub split_root : List (List ℕ) → View
split_root prefixes = with_table s4_view (split_into s4_view.table (root_guest 1) prefixes)

abbrev pub s5 : Stage small
s5 =
    acts s4 1 (Post (record { unit = root_guest 1; attempt = 1 }) (record { prefix = []; fuel = 1; outcome = Spent })) Moved _ _ (split_root ((1 ∷ []) ∷ (3 ∷ []) ∷ [])) refl tt (
      refl,
      (
        refl,
        record {
          entry = _;
          is = refl;
          here = refl;
          attempt = refl;
          prefix = refl;
          right = record { fuel = omega arith; outcome = root_spent };
          leaves = (ap split_root small_children, omega arith, refl);
        },
      ),
    )

abbrev pub s6 : Stage small
s6 =
    acts s5 2 (Ask 1) Moved _ _ _ refl tt
    (refl, (refl, record { another = omega arith; exists = omega arith; after = refl; sends = refl }))

abbrev pub s7 : Stage small
s7 =
    acts s6 1 (Deliver child_steal) Moved _ _ _ refl (2, refl)
    (refl, (refl, omega arith, (refl, inr (gives_first _ refl refl refl))))

abbrev pub s8 : Stage small
s8 =
    acts s7 2 (Deliver child_give) Moved _ _ _ refl (3, refl)
    (refl, (refl, omega arith, record { ledger = _; admits = record { not_older = refl; some_new = refl; after = refl }; lawful = refl; after = refl; sends = refl }))

abbrev pub s9 : Stage small
s9 =
    acts s8 2 Take (Taken (record { unit = stolen; attempt = 1 }) (1 ∷ [])) _ _ _ refl tt
    (refl, record { none_ripe = refl; first = refl; entry = _; is = refl; ready = refl; attempt = refl; prefix_is = refl; after = refl; sends = refl })

abbrev pub s10 : Stage small
s10 =
    acts s9 2 (Post (record { unit = stolen; attempt = 1 }) (record { prefix = 1 ∷ []; fuel = 2; outcome = Barren })) Moved _ _ _ refl tt (
      refl,
      (
        refl,
        record {
          entry = _;
          is = refl;
          here = refl;
          attempt = refl;
          prefix = refl;
          right = record { fuel = omega arith; outcome = first_barren };
          leaves = (refl, refl);
        },
      ),
    )

-- the two children: the first is out
abbrev pub first_child : Entry
first_child = record { parent = Some (root_guest 1); prefix = 1 ∷ []; attempt = 1; status = Out site2 }

abbrev pub second_child : Entry
second_child = record { parent = Some (root_guest 1); prefix = 3 ∷ []; attempt = 1; status = Ready }

abbrev pub late11 : Stage small
late11 =
    acts s10 1 Take (Taken (record { unit = Own 1; attempt = 1 }) (3 ∷ [])) _ _ _ refl tt
    (refl, record { none_ripe = refl; first = refl; entry = _; is = refl; ready = refl; attempt = refl; prefix_is = refl; after = refl; sends = refl })

abbrev pub late12 : Stage small
late12 =
    acts late11 1 (Post (record { unit = Own 1; attempt = 1 }) (record { prefix = 3 ∷ []; fuel = 3; outcome = Covers cover })) Moved _ _ _ refl tt (
      refl,
      (
        refl,
        record {
          entry = _;
          is = refl;
          here = refl;
          attempt = refl;
          prefix = refl;
          right = record { fuel = omega arith; outcome = second_covers };
          leaves = (refl, refl);
        },
      ),
    )

abbrev pub late13 : Stage small
late13 =
    acts late12 1 (Finish (root_guest 1)) Moved _ _ _ refl tt (
      refl,
      (
        refl,
        record {
          outs = _;
          ledger = _;
          finishes = record {
            entry = _;
            is = refl;
            split = refl;
            result = Cover cover;
            settled = refl;
            own = with_status Aborted first_child ∷ with_status (Done (Cover cover)) second_child ∷ [];
            aborts = aborts_first (root_guest 1) first_child (with_status (Done (Cover cover)) second_child) refl refl refl refl;
            after = refl;
            reaches = refl;
          };
          after = refl;
          sends = refl;
        },
      ),
    )

abbrev pub late14 : Stage small
late14 =
    acts late13 1 (Deliver child_return) Moved _ _ _ refl (4, refl)
    (refl, (refl, omega arith, (refl, (Refuses causes.Aborted, refl, (refl, refl)))))

abbrev pub late15 : Stage small
late15 =
    acts late14 2 (Deliver late_refuse) Moved _ _ _ refl (7, refl)
    (refl, (refl, omega arith, record { outs = _; ledger = _; drops = record { entry = _; is = refl; open_still = refl; own = []; aborts = aborts_nothing _; after = refl; reaches = refl }; after = refl; sends = refl }))

abbrev pub late16 : Stage small
late16 =
    acts late15 0 (Deliver late_return) Moved _ _ _ refl (6, refl)
    (refl, omega arith, (refl, (Enters, refl, ((refl, counted), refl, refl))))

-- the second node restarts
abbrev pub anew11 : Stage small
anew11 = record {
  end = record { sites = slice_set s10.end.sites 2 (opening_node 2 2 2 9); sent = s10.end.sent };
  run = go s10.run (Restarts 2 2 9) (record { before = _; is = refl; not_registry = omega arith; greater = omega arith; world = refl });
}

abbrev pub root_out : Entry
root_out = with_status (Out site1) root_entry

pub root_redoable : (lost : Site → Bool) → IsRedoable lost (root_out ∷ [])
root_redoable lost k entry thief is out gone = each_of_one (λ c. c.attempt < last_attempt) root_out (omega arith) k entry is

pub two_redoable : (lost : Site → Bool) → IsRedoable lost (first_child ∷ second_child ∷ [])
two_redoable lost k entry thief is out gone = each_of_two (λ c. c.attempt < last_attempt) first_child second_child (omega arith) (omega arith) k entry is

abbrev pub anew12 : Stage small
anew12 = acts anew11 2 Greet Moved _ _ _ refl tt (refl, (refl, refl, refl))

abbrev pub anew13 : Stage small
anew13 =
    acts anew12 0 (Deliver anew_hello) Moved _ _ _ refl (5, refl)
    (refl, omega arith, (refl, record { known = _; known_is = refl; redoable = root_redoable (is_earlier_incarnation 2 (1 ∷ 1 ∷ 2 ∷ [])); after = refl; sends = refl }))

-- what the first node holds when it hears of the restart
abbrev pub anew13_view : View
anew13_view = unwrap_or (slice_get anew13.end.sites 1) (opening_node 2 1 1 9)

pub none_lost : AbortsBelow (is_lost_guest (1 ∷ 1 ∷ 2 ∷ []) anew13_view.guests) (redone first_child ∷ second_child ∷ []) (redone first_child ∷ second_child ∷ [])
none_lost =
    aborts_none _ _ (root_guest 1) refl (each_of_two (λ c. c.parent ≡ Some (root_guest 1)) (redone first_child) second_child refl refl)

-- a list of known incarnations with a 2 is another one
pub learns : (old new : View) → slice_index old.known 2 ≡ 1 → slice_index new.known 2 ≡ 2 → new ≡ old → ⊥
learns old new one two e = omega (arith, one, two, ap (λ v. slice_index v.known 2) e)

abbrev pub anew14 : Stage small
anew14 =
    acts anew13 1 (Deliver anew_first_members) Moved _ _ _ refl (6, refl) (
      refl,
      (
        refl,
        omega arith,
        (
          record {
            outs = _;
            ledger = _;
            learns = record {
              known = _;
              known_is = refl;
              redoable = two_redoable (is_older (1 ∷ 1 ∷ 2 ∷ []));
              own = redone first_child ∷ second_child ∷ [];
              aborts = none_lost;
              after = refl;
              reaches = refl;
            };
            after = refl;
            sends = refl;
          },
          (λ stays. learns _ _ refl refl (stays.0)),
        ),
      ),
    )

abbrev pub anew15 : Stage small
anew15 =
    acts anew14 1 (Deliver child_return) Moved _ _ _ refl (4, refl)
    (refl, (refl, omega arith, (refl, (Refuses causes.Superseded, refl, (refl, refl)))))

-- the second incarnation of the second node takes no packet that was for the first
pub refused : (packet : Packet) → packet.to ≡ site2 → IsRefused small anew15.end (Acts 2 (Deliver packet))
refused packet to new step =
    let view : step.before ≡ opening_node 2 2 2 9 = sym (same_Some (opening_node 2 2 2 9) step.before step.is) in
    let same : site2 ≡ step.before.site = sym to ∙ step.step.1.0 in
    let number : ◌≡◌ {A = ℕ} 1 2 = ap (λ s. s.incarnation) (same ∙ ap (λ v. v.site) view) in
    absurd (omega (arith, number))

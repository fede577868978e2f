-- The run in which two children are given together.
use Rattle.std.proofs.Common.{◌≡◌, ℕ, zero, suc, ◌<◌, ◌≤◌, true, false, ◌==◌, List, [], ◌∷◌, Some, unwrap_or, slice_get, refl, sym, ap, subst, ◌∙◌, inl, inr, arith, true≢false, ◌⊎◌, ⊎_elim}
use Rattle.std.proofs.lemmas.Bool.{eqb-true, ne_eqb, or_cases}
use Rattle.std.proofs.lemmas.Option.{none-some, same_Some}
use Rattle.cover_problem.specs.Branching.{branch_item, children, live_options, open_items}
use Rattle.cover_problem.specs.ExactCover.{IsExactCover, uses}
use Rattle.cover_problem.specs.Numbers.{is_in}
use Rattle.cover_problem.specs.Search.{Covers, Spent, first_within, outcome, visits_within}
use Rattle.cover_world.proofs.Stages.{Stage, aborts_nothing, acts, gives_first, opening}
use Rattle.cover_world.specs.Plays.{root_guest, site2}
use Rattle.cover_world.specs.Siblings.{child_abort, child_return, child_steal, children_give, four_ways, root_give, root_return, root_steal, sibling, stolen}
use Rattle.cover_world.specs.Worlds.{opening_node}
use Rattle.node_core.specs.SiteView.{View, with_table}
use Rattle.node_core.specs.declared.event.Event.TheVariants.{Ask, Deliver, Finish, Post, Take}
use Rattle.node_core.specs.declared.reply.Reply.TheVariants.{Ignored, Moved, Taken}
use Rattle.packet_wire.specs.declared.packet.Body.TheVariants.{GiveMany}
use Rattle.spawn_frame.specs.Aborts.{AbortsBelow, IsBelow, child, is_open}
use Rattle.spawn_frame.specs.Names.{same_unit}
use Rattle.spawn_frame.specs.Splits.{split_into}
use Rattle.spawn_frame.specs.Tables.{root_entry}
use Rattle.spawn_frame.specs.Units.{Entry, with_status}
use Rattle.spawn_frame.specs.declared.child_result.ChildResult.TheVariants.{Cover}
use Rattle.spawn_frame.specs.declared.status.Status.{Status}
use Rattle.spawn_frame.specs.declared.status.Status.TheVariants.{Aborted, Done, Out, Ready}
use Rattle.steal_return.specs.Returns.{Enters}

pub four_children : (0 ∷ []) ∷ (1 ∷ []) ∷ (2 ∷ []) ∷ (3 ∷ []) ∷ [] ≡ children four_ways []
unfolding branch_item live_options open_items
four_children = refl

pub root_spent : Spent ≡ outcome four_ways [] 1
unfolding first_within visits_within branch_item live_options open_items
root_spent = refl

pub first_found : Covers (0 ∷ []) ≡ outcome four_ways (0 ∷ []) 1
unfolding first_within visits_within branch_item live_options open_items
first_found = refl

pub counted : IsExactCover four_ways (is_in (0 ∷ []))
counted = record { in_range = in_range; primary = primary; secondary = λ item high. inl (at_most_one item) }
  where
    in_range : (o : ℕ) → is_in (0 ∷ []) o ≡ true → o < 4
    in_range o h =
        ⊎_elim (λ (e : (0 == o) ≡ true). omega (arith, eqb-true 0 o e)) (λ (g : false ≡ true). absurd (true≢false (sym g))) (or_cases (0 == o) false h)

    primary : (item : ℕ) → item < 1 → uses four_ways (is_in (0 ∷ [])) item ≡ 1
    primary zero l = refl
    primary (suc n) l = absurd (omega (arith, l))

    at_most_one : (item : ℕ) → uses four_ways (is_in (0 ∷ [])) item ≤ 1
    at_most_one zero = omega arith
    at_most_one (suc n) =
        let e0 : (0 == suc n) ≡ false = ne_eqb 0 (suc n) (omega arith) in
        simp e0 (omega arith)

abbrev pub s1 : Stage four_ways
s1 =
    acts (opening four_ways) 1 (Ask 0) Moved _ _ _ refl tt
    (refl, (refl, record { another = omega arith; exists = omega arith; after = refl; sends = refl }))

abbrev pub s2 : Stage four_ways
s2 =
    acts s1 0 (Deliver root_steal) Moved _ _ _ refl (0, refl)
    (refl, omega arith, (refl, inr (gives_first root_entry refl refl refl)))

abbrev pub s3 : Stage four_ways
s3 =
    acts s2 1 (Deliver root_give) Moved _ _ _ refl (1, refl)
    (refl, (refl, omega arith, record { ledger = _; admits = record { not_older = refl; some_new = refl; after = refl }; lawful = refl; after = refl; sends = refl }))

abbrev pub s4 : Stage four_ways
s4 =
    acts s3 1 Take (Taken (record { unit = root_guest 1; attempt = 1 }) []) _ _ _ refl tt
    (refl, record { none_ripe = refl; first = refl; entry = _; is = refl; ready = refl; attempt = refl; prefix_is = refl; after = refl; sends = refl })

-- what the first node holds ended
abbrev pub s4_view : View
s4_view = unwrap_or (slice_get s4.end.sites 1) (opening_node 2 1 1 9)

abbrev pub split_root : List (List ℕ) → View
split_root prefixes = with_table s4_view (split_into s4_view.table (root_guest 1) prefixes)

abbrev pub s5 : Stage four_ways
s5 =
    acts s4 1 (Post (record { unit = root_guest 1; attempt = 1 }) (record { prefix = []; fuel = 1; outcome = Spent })) Moved _ _ (split_root ((0 ∷ []) ∷ (1 ∷ []) ∷ (2 ∷ []) ∷ (3 ∷ []) ∷ [])) refl tt (
      refl,
      (
        refl,
        record {
          entry = _;
          is = refl;
          here = refl;
          attempt = refl;
          prefix = refl;
          right = record { fuel = omega arith; outcome = root_spent };
          leaves = (ap split_root four_children, omega arith, refl);
        },
      ),
    )

abbrev pub s6 : Stage four_ways
s6 =
    acts s5 2 (Ask 1) Moved _ _ _ refl tt
    (refl, (refl, record { another = omega arith; exists = omega arith; after = refl; sends = refl }))

-- two children are given together
abbrev pub s7 : Stage four_ways
s7 =
    acts s6 1 (Deliver child_steal) Moved _ _ _ refl (2, refl) (
      refl,
      (
        refl,
        omega arith,
        (
          refl,
          inr (record {
            body = GiveMany [] (sibling 0 ∷ sibling 1 ∷ []);
            spelled = refl;
            ledger = _;
            gives = record {
              parent = Some (root_guest 1);
              some = omega arith;
              most = omega arith;
              alone = λ e. absurd (none-some (root_guest 1) (sym e));
              rising = refl;
              each = (
                _,
                record { entry = _; not_older = refl; is = refl; ready = refl; attempt = refl; prefix = refl; after = refl },
                refl,
                (_, record { entry = _; not_older = refl; is = refl; ready = refl; attempt = refl; prefix = refl; after = refl }, refl, refl),
              );
            };
            after = refl;
            sends = refl;
          }),
        ),
      ),
    )

abbrev pub s8 : Stage four_ways
s8 =
    acts s7 2 (Deliver children_give) Moved _ _ _ refl (3, refl)
    (refl, (refl, omega arith, record { ledger = _; admits = record { not_older = refl; some_new = refl; after = refl }; lawful = refl; after = refl; sends = refl }))

-- it comes again
abbrev pub s9 : Stage four_ways
s9 = acts s8 2 (Deliver children_give) Ignored _ _ _ refl (3, refl) (refl, (refl, omega arith, (inr refl, (refl, refl))))

abbrev pub s10 : Stage four_ways
s10 =
    acts s9 2 Take (Taken (record { unit = stolen 0; attempt = 1 }) (0 ∷ [])) _ _ _ refl tt
    (refl, record { none_ripe = refl; first = refl; entry = _; is = refl; ready = refl; attempt = refl; prefix_is = refl; after = refl; sends = refl })

abbrev pub s11 : Stage four_ways
s11 =
    acts s10 2 (Post (record { unit = stolen 0; attempt = 1 }) (record { prefix = 0 ∷ []; fuel = 1; outcome = Covers (0 ∷ []) })) Moved _ _ _ refl tt (
      refl,
      (
        refl,
        record {
          entry = _;
          is = refl;
          here = refl;
          attempt = refl;
          prefix = refl;
          right = record { fuel = omega arith; outcome = first_found };
          leaves = (refl, refl);
        },
      ),
    )

abbrev pub s12 : Stage four_ways
s12 = acts s11 1 (Deliver child_return) Moved _ _ _ refl (4, refl) (refl, (refl, omega arith, (refl, (Enters, refl, (refl, refl)))))

-- the children of the root when it is finished
abbrev pub child_of : ℕ → Status → Entry
child_of serial status = record { parent = Some (root_guest 1); prefix = serial ∷ []; attempt = 1; status = status }

abbrev pub before : List Entry
before = child_of 0 (Done (Cover (0 ∷ []))) ∷ child_of 1 (Out site2) ∷ child_of 2 Ready ∷ child_of 3 Ready ∷ []

abbrev pub ended : List Entry
ended = child_of 0 (Done (Cover (0 ∷ []))) ∷ child_of 1 Aborted ∷ child_of 2 Aborted ∷ child_of 3 Aborted ∷ []

pub others_aborted : AbortsBelow (same_unit (root_guest 1)) before ended
others_aborted = record { each = each; ends = refl }
  where
    goes : (k : ℕ) (c entry : Entry) → slice_get before k ≡ Some c → c.parent ≡ Some (root_guest 1) → is_open c.status ≡ true → slice_get ended k ≡ Some (with_status Aborted c) → slice_get before k ≡ Some entry
        → IsBelow (same_unit (root_guest 1)) before k × (is_open entry.status ≡ true) × (slice_get ended k ≡ Some (with_status Aborted entry))
    goes k c entry is parent opened now e =
        subst (λ x. IsBelow (same_unit (root_guest 1)) before k × (is_open x.status ≡ true) × (slice_get ended k ≡ Some (with_status Aborted x)))
        (same_Some c entry (sym is ∙ e)) (child is parent refl, opened, now)

    each : (k : ℕ) (entry : Entry) → slice_get before k ≡ Some entry
        → (IsBelow (same_unit (root_guest 1)) before k × (is_open entry.status ≡ true) × (slice_get ended k ≡ Some (with_status Aborted entry)))
        ⊎ ((IsBelow (same_unit (root_guest 1)) before k → is_open entry.status ≡ true → ⊥) × (slice_get ended k ≡ Some entry))
    each zero entry e = inr ((λ b o. true≢false (sym o ∙ ap (λ c. is_open c.status) (sym (same_Some (child_of 0 (Done (Cover (0 ∷ [])))) entry e)))), e)
    each (suc zero) entry e = inl (goes 1 (child_of 1 (Out site2)) entry refl refl refl refl e)
    each (suc (suc zero)) entry e = inl (goes 2 (child_of 2 Ready) entry refl refl refl refl e)
    each (suc (suc (suc zero))) entry e = inl (goes 3 (child_of 3 Ready) entry refl refl refl refl e)
    each (suc (suc (suc (suc k)))) entry e = absurd (none-some entry e)

abbrev pub s13 : Stage four_ways
s13 =
    acts s12 1 (Finish (root_guest 1)) Moved _ _ _ refl tt (
      refl,
      (
        refl,
        record {
          outs = _;
          ledger = _;
          finishes = record {
            entry = _;
            is = refl;
            split = refl;
            result = Cover (0 ∷ []);
            settled = refl;
            own = ended;
            aborts = others_aborted;
            after = refl;
            reaches = refl;
          };
          after = refl;
          sends = refl;
        },
      ),
    )

abbrev pub s14 : Stage four_ways
s14 =
    acts s13 2 (Deliver child_abort) Moved _ _ _ refl (6, refl)
    (refl, (refl, omega arith, record { outs = _; ledger = _; drops = record { entry = _; is = refl; open_still = refl; own = []; aborts = aborts_nothing _; after = refl; reaches = refl }; after = refl; sends = refl }))

abbrev pub s15 : Stage four_ways
s15 =
    acts s14 0 (Deliver root_return) Moved _ _ _ refl (7, refl)
    (refl, omega arith, (refl, (Enters, refl, ((refl, counted), refl, refl))))

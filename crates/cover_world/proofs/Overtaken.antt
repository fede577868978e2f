-- The run in which the root is given out twice.
use Rattle.std.proofs.Common.{◌≡◌, ℕ, zero, suc, ◌<◌, ◌≤◌, true, false, ◌==◌, List, [], ◌∷◌, Some, unwrap_or, slice_get, refl, sym, ap, inl, inr, arith, true≢false, ⊎_elim}
use Rattle.std.proofs.lemmas.Bool.{eqb-true, ne_eqb, or_cases}
use Rattle.cover_problem.specs.Branching.{branch_item, children, live_options, open_items}
use Rattle.cover_problem.specs.ExactCover.{IsExactCover, uses}
use Rattle.cover_problem.specs.Numbers.{is_in}
use Rattle.cover_problem.specs.Search.{Covers, Spent, first_within, outcome, visits_within}
use Rattle.cover_world.proofs.Stages.{Stage, aborts_first, acts, gives_first, opening}
use Rattle.cover_world.specs.Overtaken.{first_steal, first_give, second_steal, second_give, first_return, second_return, second_accept, late_accept, two_ways}
use Rattle.cover_world.specs.Plays.{root_guest}
use Rattle.cover_world.specs.Worlds.{opening_node}
use Rattle.node_core.specs.SiteView.{View, with_table}
use Rattle.node_core.specs.declared.event.Event.TheVariants.{Ask, Deliver, Finish, Post, Redo, Take}
use Rattle.node_core.specs.declared.reply.Reply.TheVariants.{Moved, Taken}
use Rattle.spawn_frame.specs.Splits.{split_into}
use Rattle.spawn_frame.specs.Units.{Entry, with_status}
use Rattle.spawn_frame.specs.declared.child_result.ChildResult.TheVariants.{Cover}
use Rattle.spawn_frame.specs.declared.status.Status.TheVariants.{Aborted, Done, Ready}
use Rattle.spawn_frame.specs.declared.unit.Unit.TheVariants.{Own}
use Rattle.spawn_frame.specs.Tables.{root_entry}
use Rattle.steal_return.specs.Returns.{Enters, Holds}

pub two_children : (0 ∷ []) ∷ (1 ∷ []) ∷ [] ≡ children two_ways []
unfolding branch_item live_options open_items
two_children = refl

pub first_found : Covers (0 ∷ []) ≡ outcome two_ways [] 2
unfolding first_within visits_within branch_item live_options open_items
first_found = refl

pub root_spent : Spent ≡ outcome two_ways [] 1
unfolding first_within visits_within branch_item live_options open_items
root_spent = refl

pub second_found : Covers (1 ∷ []) ≡ outcome two_ways (1 ∷ []) 1
unfolding first_within visits_within branch_item live_options open_items
second_found = refl

pub counted : IsExactCover two_ways (is_in (1 ∷ []))
counted = record { in_range = in_range; primary = primary; secondary = λ item high. inl (at_most_one item) }
  where
    in_range : (o : ℕ) → is_in (1 ∷ []) o ≡ true → o < 2
    in_range o h =
        ⊎_elim (λ (e : (1 == o) ≡ true). omega (arith, eqb-true 1 o e)) (λ (g : false ≡ true). absurd (true≢false (sym g))) (or_cases (1 == o) false h)

    primary : (item : ℕ) → item < 1 → uses two_ways (is_in (1 ∷ [])) item ≡ 1
    primary zero l = refl
    primary (suc n) l = absurd (omega (arith, l))

    at_most_one : (item : ℕ) → uses two_ways (is_in (1 ∷ [])) item ≤ 1
    at_most_one zero = omega arith
    at_most_one (suc n) =
        let e0 : (0 == suc n) ≡ false = ne_eqb 0 (suc n) (omega arith) in
        simp e0 (omega arith)

abbrev pub s1 : Stage two_ways
s1 =
    acts (opening two_ways) 1 (Ask 0) Moved _ _ _ refl tt
    (refl, (refl, record { another = omega arith; exists = omega arith; after = refl; sends = refl }))

abbrev pub s2 : Stage two_ways
s2 =
    acts s1 0 (Deliver first_steal) Moved _ _ _ refl (0, refl)
    (refl, omega arith, (refl, inr (gives_first root_entry refl refl refl)))

abbrev pub s3 : Stage two_ways
s3 =
    acts s2 0 (Redo 0) Moved _ _ _ refl tt
    (refl, record { ledger = _; redoes = record { entry = _; thief = _; is = refl; out_there = refl; not_last = omega arith; after = refl }; after = refl; sends = refl })

abbrev pub s4 : Stage two_ways
s4 =
    acts s3 2 (Ask 0) Moved _ _ _ refl tt
    (refl, (refl, record { another = omega arith; exists = omega arith; after = refl; sends = refl }))

abbrev pub s5 : Stage two_ways
s5 =
    acts s4 0 (Deliver second_steal) Moved _ _ _ refl (2, refl)
    (refl, omega arith, (refl, inr (gives_first _ refl refl refl)))

abbrev pub s6 : Stage two_ways
s6 =
    acts s5 1 (Deliver first_give) Moved _ _ _ refl (1, refl)
    (refl, (refl, omega arith, record { ledger = _; admits = record { not_older = refl; some_new = refl; after = refl }; lawful = refl; after = refl; sends = refl }))

abbrev pub s7 : Stage two_ways
s7 =
    acts s6 2 (Deliver second_give) Moved _ _ _ refl (3, refl)
    (refl, (refl, omega arith, record { ledger = _; admits = record { not_older = refl; some_new = refl; after = refl }; lawful = refl; after = refl; sends = refl }))

abbrev pub s8 : Stage two_ways
s8 =
    acts s7 1 Take (Taken (record { unit = root_guest 1; attempt = 1 }) []) _ _ _ refl tt
    (refl, record { none_ripe = refl; first = refl; entry = _; is = refl; ready = refl; attempt = refl; prefix_is = refl; after = refl; sends = refl })

abbrev pub s9 : Stage two_ways
s9 =
    acts s8 1 (Post (record { unit = root_guest 1; attempt = 1 }) (record { prefix = []; fuel = 2; outcome = Covers (0 ∷ []) })) Moved _ _ _ refl tt (
      refl,
      (
        refl,
        record {
          entry = _;
          is = refl;
          here = refl;
          attempt = refl;
          prefix = refl;
          right = record { fuel = omega arith; outcome = first_found };
          leaves = (refl, refl);
        },
      ),
    )

abbrev pub s10 : Stage two_ways
s10 =
    acts s9 2 Take (Taken (record { unit = root_guest 2; attempt = 2 }) []) _ _ _ refl tt
    (refl, record { none_ripe = refl; first = refl; entry = _; is = refl; ready = refl; attempt = refl; prefix_is = refl; after = refl; sends = refl })

-- what the second node holds then
abbrev pub s10_view : View
s10_view = unwrap_or (slice_get s10.end.sites 2) (opening_node 2 2 1 9)

abbrev pub split_root : List (List ℕ) → View
split_root prefixes = with_table s10_view (split_into s10_view.table (root_guest 2) prefixes)

abbrev pub s11 : Stage two_ways
s11 =
    acts s10 2 (Post (record { unit = root_guest 2; attempt = 2 }) (record { prefix = []; fuel = 1; outcome = Spent })) Moved _ _ (split_root ((0 ∷ []) ∷ (1 ∷ []) ∷ [])) refl tt (
      refl,
      (
        refl,
        record {
          entry = _;
          is = refl;
          here = refl;
          attempt = refl;
          prefix = refl;
          right = record { fuel = omega arith; outcome = root_spent };
          leaves = (ap split_root two_children, omega arith, refl);
        },
      ),
    )

abbrev pub s12 : Stage two_ways
s12 =
    acts s11 2 Take (Taken (record { unit = Own 1; attempt = 1 }) (1 ∷ [])) _ _ _ refl tt
    (refl, record { none_ripe = refl; first = refl; entry = _; is = refl; ready = refl; attempt = refl; prefix_is = refl; after = refl; sends = refl })

abbrev pub s13 : Stage two_ways
s13 =
    acts s12 2 (Post (record { unit = Own 1; attempt = 1 }) (record { prefix = 1 ∷ []; fuel = 1; outcome = Covers (1 ∷ []) })) Moved _ _ _ refl tt (
      refl,
      (
        refl,
        record {
          entry = _;
          is = refl;
          here = refl;
          attempt = refl;
          prefix = refl;
          right = record { fuel = omega arith; outcome = second_found };
          leaves = (refl, refl);
        },
      ),
    )

-- the two children when the frame is finished
abbrev pub first_child : Entry
first_child = record { parent = Some (root_guest 2); prefix = 0 ∷ []; attempt = 1; status = Ready }

abbrev pub second_child : Entry
second_child = record { parent = Some (root_guest 2); prefix = 1 ∷ []; attempt = 1; status = Done (Cover (1 ∷ [])) }

abbrev pub s14 : Stage two_ways
s14 =
    acts s13 2 (Finish (root_guest 2)) Moved _ _ _ refl tt (
      refl,
      (
        refl,
        record {
          outs = _;
          ledger = _;
          finishes = record {
            entry = _;
            is = refl;
            split = refl;
            result = Cover (1 ∷ []);
            settled = refl;
            own = with_status Aborted first_child ∷ second_child ∷ [];
            aborts = aborts_first (root_guest 2) first_child second_child refl refl refl refl;
            after = refl;
            reaches = refl;
          };
          after = refl;
          sends = refl;
        },
      ),
    )

abbrev pub s15 : Stage two_ways
s15 =
    acts s14 0 (Deliver second_return) Moved _ _ _ refl (5, refl)
    (refl, omega arith, (refl, (Enters, refl, ((refl, counted), refl, refl))))

abbrev pub s16 : Stage two_ways
s16 =
    acts s15 0 (Deliver first_return) Moved _ _ _ refl (4, refl)
    (refl, omega arith, (refl, (Holds (Cover (1 ∷ [])), refl, (refl, refl))))

abbrev pub s17 : Stage two_ways
s17 =
    acts s16 1 (Deliver late_accept) Moved _ _ _ refl (9, refl)
    (refl, (refl, omega arith, record { ledger = _; settles = record { entry = _; is = refl; finished = refl; after = refl }; after = refl; sends = refl }))

abbrev pub s18 : Stage two_ways
s18 =
    acts s17 2 (Deliver second_accept) Moved _ _ _ refl (6, refl)
    (refl, (refl, omega arith, record { ledger = _; settles = record { entry = _; is = refl; finished = refl; after = refl }; after = refl; sends = refl }))

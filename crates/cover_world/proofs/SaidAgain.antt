-- The run in which packets come late and are said again.
use Rattle.std.proofs.Common.{[], ◌∷◌, ◌<◌, Bool, refl, inr, arith, slice_set}
use Rattle.cover_problem.specs.Examples.{bare}
use Rattle.cover_problem.specs.Search.{Barren}
use Rattle.cover_world.proofs.Searches.{bare_barren}
use Rattle.cover_world.proofs.Stages.{Stage, acts, each_of_one, gives_first, opening}
use Rattle.cover_world.specs.Plays.{root_guest}
use Rattle.cover_world.specs.SaidAgain.{first_hello, second_hello, root_steal, second_give, second_return, first_over}
use Rattle.cover_world.specs.Worlds.{Restarts, go, opening_node}
use Rattle.node_core.specs.declared.event.Event.TheVariants.{Again, Ask, Deliver, Greet, Post, Redo, Take}
use Rattle.node_core.specs.declared.reply.Reply.TheVariants.{Moved, Taken}
use Rattle.root_registry.specs.RegistryStep.{is_earlier_incarnation}
use Rattle.spawn_frame.specs.Tables.{root_entry}
use Rattle.spawn_frame.specs.Units.{last_attempt}
use Rattle.spawn_frame.specs.declared.site.Site.{Site}
use Rattle.steal_return.specs.Members.{IsRedoable}
use Rattle.steal_return.specs.Returns.{Enters}

pub redoable : (lost : Site → Bool) → IsRedoable lost (root_entry ∷ [])
redoable lost k entry thief is out gone = each_of_one (λ c. c.attempt < last_attempt) root_entry (omega arith) k entry is

abbrev pub s1 : Stage bare
s1 = acts (opening bare) 2 Greet Moved _ _ _ refl tt (refl, (refl, refl, refl))

-- the second node restarts
abbrev pub s2 : Stage bare
s2 = record {
  end = record { sites = slice_set s1.end.sites 2 (opening_node 2 2 2 9); sent = s1.end.sent };
  run = go s1.run (Restarts 2 2 9) (record { before = _; is = refl; not_registry = omega arith; greater = omega arith; world = refl });
}

abbrev pub s3 : Stage bare
s3 = acts s2 2 Greet Moved _ _ _ refl tt (refl, (refl, refl, refl))

abbrev pub s4 : Stage bare
s4 =
    acts s3 0 (Deliver second_hello) Moved _ _ _ refl (1, refl)
    (refl, omega arith, (refl, record { known = _; known_is = refl; redoable = redoable (is_earlier_incarnation 2 (1 ∷ 1 ∷ 2 ∷ [])); after = refl; sends = refl }))

abbrev pub s5 : Stage bare
s5 =
    acts s4 0 (Deliver first_hello) Moved _ _ _ refl (0, refl)
    (refl, omega arith, (refl, record { known = _; known_is = refl; redoable = redoable (is_earlier_incarnation 2 (1 ∷ 1 ∷ 2 ∷ [])); after = refl; sends = refl }))

abbrev pub s6 : Stage bare
s6 =
    acts s5 1 (Ask 0) Moved _ _ _ refl tt
    (refl, (refl, record { another = omega arith; exists = omega arith; after = refl; sends = refl }))

abbrev pub s7 : Stage bare
s7 =
    acts s6 0 (Deliver root_steal) Moved _ _ _ refl (6, refl)
    (refl, omega arith, (refl, inr (gives_first root_entry refl refl refl)))

abbrev pub s8 : Stage bare
s8 =
    acts s7 0 (Redo 0) Moved _ _ _ refl tt
    (refl, record { ledger = _; redoes = record { entry = _; thief = _; is = refl; out_there = refl; not_last = omega arith; after = refl }; after = refl; sends = refl })

abbrev pub s9 : Stage bare
s9 =
    acts s8 0 (Deliver root_steal) Moved _ _ _ refl (6, refl)
    (refl, omega arith, (refl, inr (gives_first _ refl refl refl)))

abbrev pub s10 : Stage bare
s10 = acts s9 0 Again Moved _ _ _ refl tt (refl, refl, refl)

abbrev pub s11 : Stage bare
s11 =
    acts s10 1 (Deliver second_give) Moved _ _ _ refl (8, refl)
    (refl, (refl, omega arith, record { ledger = _; admits = record { not_older = refl; some_new = refl; after = refl }; lawful = refl; after = refl; sends = refl }))

abbrev pub s12 : Stage bare
s12 =
    acts s11 1 Take (Taken (record { unit = root_guest 2; attempt = 2 }) []) _ _ _ refl tt
    (refl, record { none_ripe = refl; first = refl; entry = _; is = refl; ready = refl; attempt = refl; prefix_is = refl; after = refl; sends = refl })

abbrev pub s13 : Stage bare
s13 =
    acts s12 1 (Post (record { unit = root_guest 2; attempt = 2 }) (record { prefix = []; fuel = 1; outcome = Barren })) Moved _ _ _ refl tt (
      refl,
      (
        refl,
        record {
          entry = _;
          is = refl;
          here = refl;
          attempt = refl;
          prefix = refl;
          right = record { fuel = omega arith; outcome = bare_barren };
          leaves = (refl, refl);
        },
      ),
    )

abbrev pub s14 : Stage bare
s14 = acts s13 1 Again Moved _ _ _ refl tt (refl, (refl, refl, refl))

abbrev pub s15 : Stage bare
s15 = acts s14 0 (Deliver second_return) Moved _ _ _ refl (10, refl) (refl, omega arith, (refl, (Enters, refl, (tt, refl, refl))))

abbrev pub s16 : Stage bare
s16 = acts s15 0 Again Moved _ _ _ refl tt (refl, refl, refl)

abbrev pub s17 : Stage bare
s17 = acts s16 0 (Deliver root_steal) Moved _ _ _ refl (6, refl) (refl, omega arith, (refl, (refl, refl)))

abbrev pub s18 : Stage bare
s18 = acts s17 1 (Deliver first_over) Moved _ _ _ refl (13, refl) (refl, (refl, omega arith, (refl, refl, refl)))

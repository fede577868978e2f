-- The run in which a result comes twice.
use Rattle.std.proofs.Common.{[], refl, inr, arith}
use Rattle.cover_problem.specs.Examples.{bare}
use Rattle.cover_problem.specs.Search.{Barren}
use Rattle.cover_world.proofs.Searches.{bare_barren}
use Rattle.cover_world.proofs.Stages.{Stage, acts, gives_first, opening}
use Rattle.cover_world.specs.Plays.{root_guest}
use Rattle.cover_world.specs.Repeated.{root_steal, root_give, root_return, root_accept}
use Rattle.node_core.specs.declared.event.Event.TheVariants.{Ask, Deliver, Post, Take}
use Rattle.node_core.specs.declared.reply.Reply.TheVariants.{Moved, Taken}
use Rattle.spawn_frame.specs.declared.child_result.ChildResult.TheVariants.{Empty}
use Rattle.spawn_frame.specs.Tables.{root_entry}
use Rattle.steal_return.specs.Returns.{Enters, Holds}

abbrev pub s1 : Stage bare
s1 =
    acts (opening bare) 1 (Ask 0) Moved _ _ _ refl tt
    (refl, (refl, record { another = omega arith; exists = omega arith; after = refl; sends = refl }))

abbrev pub s2 : Stage bare
s2 =
    acts s1 0 (Deliver root_steal) Moved _ _ _ refl (0, refl)
    (refl, omega arith, (refl, inr (gives_first root_entry refl refl refl)))

abbrev pub s3 : Stage bare
s3 =
    acts s2 1 (Deliver root_give) Moved _ _ _ refl (1, refl)
    (refl, (refl, omega arith, record { ledger = _; admits = record { not_older = refl; some_new = refl; after = refl }; lawful = refl; after = refl; sends = refl }))

abbrev pub s4 : Stage bare
s4 =
    acts s3 1 Take (Taken (record { unit = root_guest 1; attempt = 1 }) []) _ _ _ refl tt
    (refl, record { none_ripe = refl; first = refl; entry = _; is = refl; ready = refl; attempt = refl; prefix_is = refl; after = refl; sends = refl })

abbrev pub s5 : Stage bare
s5 =
    acts s4 1 (Post (record { unit = root_guest 1; attempt = 1 }) (record { prefix = []; fuel = 1; outcome = Barren })) Moved _ _ _ refl tt (
      refl,
      (
        refl,
        record {
          entry = _;
          is = refl;
          here = refl;
          attempt = refl;
          prefix = refl;
          right = record { fuel = omega arith; outcome = bare_barren };
          leaves = (refl, refl);
        },
      ),
    )

abbrev pub s6 : Stage bare
s6 = acts s5 0 (Deliver root_return) Moved _ _ _ refl (2, refl) (refl, omega arith, (refl, (Enters, refl, (tt, refl, refl))))

abbrev pub s7 : Stage bare
s7 = acts s6 0 (Deliver root_return) Moved _ _ _ refl (2, refl) (refl, omega arith, (refl, (Holds Empty, refl, (refl, refl))))

abbrev pub s8 : Stage bare
s8 =
    acts s7 1 (Deliver root_accept) Moved _ _ _ refl (3, refl)
    (refl, (refl, omega arith, record { ledger = _; settles = record { entry = _; is = refl; finished = refl; after = refl }; after = refl; sends = refl }))

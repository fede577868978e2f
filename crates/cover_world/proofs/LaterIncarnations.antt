-- The run in which nodes restart while the root is out.
use Rattle.std.proofs.Common.{[], ◌∷◌, inl, inr, refl, slice_set, arith}
use Rattle.std.proofs.lemmas.Option.{none-some}
use Rattle.cover_problem.specs.Examples.{bare}
use Rattle.cover_world.proofs.Stages.{Stage, aborts_nothing, acts, gives_first, opening}
use Rattle.cover_world.proofs.Stolen.{learns, root_redoable}
use Rattle.cover_world.specs.LaterIncarnations.{root_steal, second_hello, first_members, thief_steal, no_work, first_hello}
use Rattle.cover_world.specs.Worlds.{Restarts, go, opening_node}
use Rattle.node_core.specs.declared.event.Event.TheVariants.{Again, Ask, Deliver, Greet}
use Rattle.node_core.specs.declared.reply.Reply.TheVariants.{Ignored, Moved}
use Rattle.root_registry.specs.RegistryStep.{is_earlier_incarnation}
use Rattle.spawn_frame.specs.Tables.{root_entry}

abbrev pub s1 : Stage bare
s1 =
    acts (opening bare) 1 (Ask 0) Moved _ _ _ refl tt
    (refl, (refl, record { another = omega arith; exists = omega arith; after = refl; sends = refl }))

abbrev pub s2 : Stage bare
s2 =
    acts s1 0 (Deliver root_steal) Moved _ _ _ refl (0, refl)
    (refl, omega arith, (refl, inr (gives_first root_entry refl refl refl)))

-- the second node restarts
abbrev pub s3 : Stage bare
s3 = record {
  end = record { sites = slice_set s2.end.sites 2 (opening_node 2 2 2 9); sent = s2.end.sent };
  run = go s2.run (Restarts 2 2 9) (record { before = _; is = refl; not_registry = omega arith; greater = omega arith; world = refl });
}

abbrev pub s4 : Stage bare
s4 = acts s3 2 Greet Moved _ _ _ refl tt (refl, (refl, refl, refl))

-- the root stays out to the first node
abbrev pub s5 : Stage bare
s5 =
    acts s4 0 (Deliver second_hello) Moved _ _ _ refl (2, refl)
    (refl, omega arith, (refl, record { known = _; known_is = refl; redoable = root_redoable (is_earlier_incarnation 2 (1 ∷ 1 ∷ 2 ∷ [])); after = refl; sends = refl }))

abbrev pub s6 : Stage bare
s6 = acts s5 0 Again Moved _ _ _ refl tt (refl, refl, refl)

abbrev pub s7 : Stage bare
s7 =
    acts s6 1 (Deliver first_members) Moved _ _ _ refl (3, refl) (
      refl,
      (
        refl,
        omega arith,
        (
          record {
            outs = _;
            ledger = _;
            learns = record {
              known = _;
              known_is = refl;
              redoable = λ k entry thief is out gone. absurd (none-some entry is);
              own = [];
              aborts = aborts_nothing _;
              after = refl;
              reaches = refl;
            };
            after = refl;
            sends = refl;
          },
          (λ stays. learns _ _ refl refl (stays.0)),
        ),
      ),
    )

abbrev pub s8 : Stage bare
s8 =
    acts s7 1 (Ask 2) Moved _ _ _ refl tt
    (refl, (refl, record { another = omega arith; exists = omega arith; after = refl; sends = refl }))

abbrev pub s9 : Stage bare
s9 =
    acts s8 2 (Deliver thief_steal) Moved _ _ _ refl (6, refl)
    (refl, (refl, omega arith, (refl, inl (record { because = inr (λ k entry is ready. none-some entry is); after = refl; sends = refl }))))

abbrev pub s10 : Stage bare
s10 = acts s9 1 (Deliver no_work) Ignored _ _ _ refl (7, refl) (refl, (refl, omega arith, (refl, (refl, refl))))

-- the thief restarts
abbrev pub s11 : Stage bare
s11 = record {
  end = record { sites = slice_set s10.end.sites 1 (opening_node 2 1 2 9); sent = s10.end.sent };
  run = go s10.run (Restarts 1 2 9) (record { before = _; is = refl; not_registry = omega arith; greater = omega arith; world = refl });
}

abbrev pub s12 : Stage bare
s12 = acts s11 1 Greet Moved _ _ _ refl tt (refl, (refl, refl, refl))

-- and the root is ready again
abbrev pub s13 : Stage bare
s13 =
    acts s12 0 (Deliver first_hello) Moved _ _ _ refl (8, refl)
    (refl, omega arith, (refl, record { known = _; known_is = refl; redoable = root_redoable (is_earlier_incarnation 1 (1 ∷ 2 ∷ 2 ∷ [])); after = refl; sends = refl }))

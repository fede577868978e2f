use Rattle.std.proofs.Common.{◌≡◌, ◌∙◌, ◌-◌, ap, sym, arith, length, set, subst}
use Rattle.cover_problem.proofs.Prefixes.{prefix_short}
use Rattle.barren_states.specs.States.{States}
use Rattle.brancher.specs.Keeping.{AreBarren, Keeping}
use Rattle.brancher.proofs.Entering.{first_in, known_barren, known_past, known_spent, past_next}
use Rattle.brancher.proofs.Stepping.{note_here, noted_here}
use Rattle.brancher.proofs.keeping.pass.Goals as goal

pub note-requires : goal.note-requires
note-requires g c =
    let now = g.B.Branching.choices c.args.state.now in
    omega (arith, prefix_short now.problem now.chosen c.problem.ensures.lawful c.chosen.ensures.prefix, c.requires.room, ap length c.chosen.ensures.chosen)

pub returns-then-count-left-clause-passed : goal.returns-then-count-left-clause-passed
returns-then-count-left-clause-passed g c = λ root fuel are reached.
    let now = g.B.Branching.choices c.args.state.now in
    let S : States → Type 0 = λ s. AreBarren (g.B.Branching.choices c.args.state.now).problem s in
    let fact = known_barren now.problem c.note.new.self.states now.chosen c.in-Some.count (subst S (sym c.note.ensures.states) are) c.in-Some.ensures.known in
    known_spent root fuel c.args.kept.now.entered now c.args.left c.in-Some.count fact.1 c.if-count-left.true reached

pub returns-in-Some-clause-passed : goal.returns-in-Some-clause-passed
returns-in-Some-clause-passed g c = λ root fuel are reached.
    let now = g.B.Branching.choices c.args.state.now in
    let S : States → Type 0 = λ s. AreBarren (g.B.Branching.choices c.args.state.now).problem s in
    let fact = known_barren now.problem c.note.new.self.states now.chosen c.in-Some.count (subst S (sym c.note.ensures.states) are) c.in-Some.ensures.known in
    let notes : c.look.new.self.entered ≡ set c.args.kept.now.entered (length c.chosen.result.now) c.args.left = ap (λ (v : Keeping). v.entered) c.look.ensures.unchanged ∙ c.note.ensures.entered in
    known_past root fuel c.look.new.self.entered now c.args.left c.in-Some.count fact.0 fact.1 (omega (arith, c.if-count-left.false))
    (noted_here root fuel c.args.kept.now.entered c.look.new.self.entered now c.args.left (length c.chosen.result.now) notes (ap length c.chosen.ensures.chosen) reached)

pub returns-clause-passed : goal.returns-clause-passed
returns-clause-passed g c = λ root fuel are reached.
    let now = g.B.Branching.choices c.args.state.now in
    let at = ap length c.chosen.ensures.chosen in
    let inside = prefix_short now.problem now.chosen c.problem.ensures.lawful c.chosen.ensures.prefix in
    let notes : c.look.new.self.entered ≡ set c.args.kept.now.entered (length c.chosen.result.now) c.args.left = ap (λ (v : Keeping). v.entered) c.look.ensures.unchanged ∙ c.note.ensures.entered in
    let noted = noted_here root fuel c.args.kept.now.entered c.look.new.self.entered now c.args.left (length c.chosen.result.now) notes at reached in
    let note = note_here c.args.kept.now.entered c.look.new.self.entered c.args.left (length c.chosen.result.now) (length now.chosen) notes at (omega (arith, at, inside, c.requires.room)) in
    let next = first_in root fuel c.look.new.self.entered now (g.B.Branching.choices c.choose_first.new.self) c.args.item c.args.left c.choose_first.result c.requires.left noted note c.requires.item c.choose_first.ensures.first c.choose_first.ensures.child c.choose_first.ensures.chosen in
    (omega (arith, c.requires.left), past_next root fuel c.look.new.self.entered (c.args.left - 1) (g.B.Branching.choices c.choose_first.new.self) c.choose_first.result c.is_some.result c.is_some.ensures next)

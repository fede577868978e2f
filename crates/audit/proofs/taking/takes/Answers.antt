use Rattle.std.proofs.Common.{option_map, sym, ap, ◌∙◌}
use Rattle.audit.proofs.Walking.{at_by, takes_by, takes_next, takes_none}
use Rattle.audit.proofs.taking.takes.Goals as goal

pub returns-in-Some-clause-sound : goal.returns-in-Some-clause-sound
returns-in-Some-clause-sound g c =
    let h = at_by c.args.books.now c.args.cursors.now c.args.k c.index-books-k.result c.requires.each c.requires.within c.index-books-k.is in
    let is = sym (ap (option_map (λ e. e.now)) c.in-Some.is) ∙ c.entry_at.ensures in
    λ r. takes_by c.args.books.now c.args.cursors.now c.args.k c.index-books-k.result _ c.in-Some.entry.now h is (c.follows.ensures.sound r)

pub returns-in-Some-clause-complete : goal.returns-in-Some-clause-complete
returns-in-Some-clause-complete g c =
    let h = at_by c.args.books.now c.args.cursors.now c.args.k c.index-books-k.result c.requires.each c.requires.within c.index-books-k.is in
    let is = sym (ap (option_map (λ e. e.now)) c.in-Some.is) ∙ c.entry_at.ensures in
    λ all t. c.follows.ensures.complete all (takes_next c.args.books.now c.args.cursors.now c.args.k c.index-books-k.result _ c.in-Some.entry.now h is t)

pub returns-in-None-clause-complete : goal.returns-in-None-clause-complete
returns-in-None-clause-complete g c =
    let h = at_by c.args.books.now c.args.cursors.now c.args.k c.index-books-k.result c.requires.each c.requires.within c.index-books-k.is in
    let is = sym (ap (option_map (λ e. e.now)) c.in-None.is) ∙ c.entry_at.ensures in
    λ all t. absurd (takes_none c.args.books.now c.args.cursors.now c.args.k c.index-books-k.result _ h is t)

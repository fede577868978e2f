use Rattle.std.proofs.Common.{sym, ◌∙◌, Some, None}
use Rattle.cover_problem.proofs.Namings.{verdict_by, tells_uncovered, tells_twice}
use Rattle.cover_problem.proofs.check.verdict_on.Goals as goal

pub returns-in-Some : goal.returns-in-Some
returns-in-Some c =
    let p = c.args.problem.now in
    let options = c.args.options.now in
    let within = sym c.are_options.ensures.test ∙ c.if-not-are_options.false in
    let distinct = sym c.is_distinct.ensures ∙ c.if-not-is_distinct.false in
    let each = c.are_options.ensures.each.0 c.if-not-are_options.false in
    let law = verdict_by p options c.namings_of-namings.result c.requires each distinct (record { long = c.namings_of-namings.ensures.long; each = c.namings_of-namings.ensures.each }) in
    tells_uncovered p options c.in-Some.item within distinct (law.0 ∙ sym c.first_unnamed.ensures ∙ c.in-Some.is)

pub returns-in-Some-first_split : goal.returns-in-Some-first_split
returns-in-Some-first_split c =
    let p = c.args.problem.now in
    let options = c.args.options.now in
    let within = sym c.are_options.ensures.test ∙ c.if-not-are_options.false in
    let distinct = sym c.is_distinct.ensures ∙ c.if-not-is_distinct.false in
    let each = c.are_options.ensures.each.0 c.if-not-are_options.false in
    let law = verdict_by p options c.namings_of-namings.result c.requires each distinct (record { long = c.namings_of-namings.ensures.long; each = c.namings_of-namings.ensures.each }) in
    tells_twice p options (Some c.in-Some-first_split.item) within distinct (law.0 ∙ sym c.first_unnamed.ensures ∙ c.in_default.is) (law.1 ∙ sym c.first_split.ensures ∙ c.in-Some-first_split.is)

pub returns-in-None : goal.returns-in-None
returns-in-None c =
    let p = c.args.problem.now in
    let options = c.args.options.now in
    let within = sym c.are_options.ensures.test ∙ c.if-not-are_options.false in
    let distinct = sym c.is_distinct.ensures ∙ c.if-not-is_distinct.false in
    let each = c.are_options.ensures.each.0 c.if-not-are_options.false in
    let law = verdict_by p options c.namings_of-namings.result c.requires each distinct (record { long = c.namings_of-namings.ensures.long; each = c.namings_of-namings.ensures.each }) in
    tells_twice p options None within distinct (law.0 ∙ sym c.first_unnamed.ensures ∙ c.in_default.is) (law.1 ∙ sym c.first_split.ensures ∙ c.in-None.is)

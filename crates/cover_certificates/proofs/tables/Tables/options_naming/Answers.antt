use Rattle.std.proofs.Common.{◌≡◌, ◌<◌, ◌∙◌, length, ap, arith, rules}
use Rattle.cover_problem.specs.Problem.{Problem}
use Rattle.cover_certificates.specs.Tables.{options_naming}
use Rattle.option_sets.proofs.Barring.{named_long, named_at}
use Rattle.cover_certificates.proofs.tables.Tables.options_naming.Goals as goal

pub index-requires : goal.index-requires
index-requires c =
    let long : length c.self.inside.naming.items ≡ c.self.inside.sets.primary = named_long (options_naming c.self.inside.sets) c.self.inside.naming.items c.self.inside.sets.primary c.self.invariant in
    let inside : c.args.item < length c.self.inside.naming.items = omega (arith, long, c.requires, ap (λ (p : Problem). p.primary) c.self.view_is) in
    search rules

pub returns : goal.returns
returns c =
    let inside : c.args.item < c.self.inside.sets.primary = omega (arith, c.requires, ap (λ (p : Problem). p.primary) c.self.view_is) in
    c.as_slice.ensures
    ∙ named_at (options_naming c.self.inside.sets) c.self.inside.naming.items c.self.inside.sets.primary c.args.item c.index.result.now c.self.invariant inside c.index.ensures
    ∙ ap (λ (p : Problem). options_naming p c.args.item) c.self.view_is

use Rattle.std.proofs.Common.{◌≡◌, ◌<◌, ◌∙◌, length, ap, arith, rules}
use Rattle.cover_problem.specs.Problem.{Problem}
use Rattle.option_sets.specs.ClashTables.{primary_of}
use Rattle.option_sets.proofs.Barring.{named_long, named_at}
use Rattle.option_sets.proofs.sets.OptionSets.primary_items.Goals as goal

pub index-requires : goal.index-requires
index-requires c =
    let long : length c.self.inside.named.items ≡ length c.self.inside.tables.options = named_long (primary_of c.self.inside.tables) c.self.inside.named.items (length c.self.inside.tables.options) c.self.invariant.named_are in
    let inside : c.args.option < length c.self.inside.named.items = omega (arith, long, c.requires, ap (λ (p : Problem). length p.options) c.self.view_is) in
    search rules

pub returns : goal.returns
returns c =
    let inside : c.args.option < length c.self.inside.tables.options = omega (arith, c.requires, ap (λ (p : Problem). length p.options) c.self.view_is) in
    c.as_slice.ensures
    ∙ named_at (primary_of c.self.inside.tables) c.self.inside.named.items (length c.self.inside.tables.options) c.args.option c.index.result.now c.self.invariant.named_are inside c.index.ensures
    ∙ ap (λ (p : Problem). primary_of p c.args.option) c.self.view_is

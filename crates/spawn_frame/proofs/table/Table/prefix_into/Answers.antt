use Rattle.std.proofs.Common.{◌≡◌, ◌++◌, List, OnOk, ℕ, ap, subst, ◌∙◌}
use Rattle.spawn_frame.specs.Prefixes.{path_of}
use Rattle.spawn_frame.specs.Tables.{prefix_in}
use Rattle.spawn_frame.specs.Units.{unit_of}
use Rattle.spawn_frame.proofs.Grown.{path_seen}
use Rattle.spawn_frame.proofs.table.Table.prefix_into.Goals as goal

pub returns-clause-ok : goal.returns-clause-ok
returns-clause-ok c =
    let t = c.self.inside in
    let u = c.args.unit in
    let path = ap (λ gs. path_of t.own gs u) c.as_slice.ensures ∙ path_seen t.site t.names_limit t.own t.guests u ∙ ap (λ v. prefix_in (unit_of v u)) c.self.view_is in
    subst (λ (l : List ℕ). OnOk c.prefix_into.result (c.prefix_into.new.list.items ≡ c.args.list.now.items ++ l)) path c.prefix_into.ensures.ok

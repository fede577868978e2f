use Rattle.std.proofs.Common.{◌≡◌, ◌≤◌, ◌+◌, ◌++◌, ℕ, List, [], ◌∷◌, length, map, sym, ap, subst, ◌∙◌, arith}
use Rattle.std.proofs.lemmas.List.{length-map}
use Rattle.std.specs.List.{AllByRecursion}
use Rattle.spawn_frame.specs.Prefixes.{last_of}
use Rattle.spawn_frame.specs.Splits.{split_into}
use Rattle.spawn_frame.specs.Tables.{has_status, is_here, longer_prefixes, prefix_in}
use Rattle.spawn_frame.specs.Units.{unit_of}
use Rattle.spawn_frame.specs.Works.{IsTable, fresh_child, guests_after, own_after, split_work, table_of}
use Rattle.spawn_frame.specs.declared.child.Child.{Child}
use Rattle.spawn_frame.specs.declared.guest.Guest.{Guest}
use Rattle.spawn_frame.specs.declared.status.Status.TheVariants.{Split}
use Rattle.spawn_frame.proofs.Grown.{path_found, prefixes_grow}
use Rattle.spawn_frame.proofs.Opened.{here_stays}
use Rattle.spawn_frame.proofs.Split.{split_kept, split_view}
use Rattle.spawn_frame.proofs.Statuses.{unit_with}
use Rattle.spawn_frame.proofs.table.Table.spawn.Goals as goal

pub invariant_of-self-2 : goal.invariant_of-self-2
invariant_of-self-2 c =
    let t = c.self.inside in
    let u = c.args.unit in
    let options = c.args.options.now in
    let prefix = prefix_in (unit_of c.args.self.now u) in
    let ps = longer_prefixes prefix options in
    let there = unit_with is_here t.site t.names_limit t.own t.guests u (ap (λ v. has_status is_here (unit_of v u)) c.self.view_is ∙ c.requires.here) in
    let count = sym (length-map options (λ o. prefix ++ o ∷ [])) in
    let fits : length t.own + length ps ≤ t.names_limit = omega (arith, count, c.if-options-self.false, c.len-first.ensures, c.self.invariant.names) in
    let e = c.split_unit.ensures.own in
    let g = c.split_unit.ensures.guests in
    let appended = c.in_ok-append.ensures.ok ∙ ap (λ l. t.own ++ map (fresh_child u) (longer_prefixes l options)) c.path-path.ensures in
    let path = sym (ap (λ v. prefix_in (unit_of v u)) c.self.view_is) ∙ path_found t.site t.names_limit t.own t.guests u there.work there.is in
    let grows = subst (λ (l : List ℕ). AllByRecursion (λ p. p ≡ l ++ last_of p ∷ []) ps) path (prefixes_grow prefix options) in
    let own = e ∙ (λ i. own_after u (split_work (c.len-first.ensures i) (count i)) (appended i)) in
    let guests = g ∙ (λ i. guests_after u (split_work (c.len-first.ensures i) (count i)) t.guests) in
    subst (λ (p : List Child × List Guest). IsTable (table_of t.site t.names_limit p.0 p.1) p.0 p.1) (λ i. (sym own i, sym guests i))
    (split_kept t.site t.names_limit t.own t.guests c.self.invariant u there.work there.is there.passes ps fits grows)

pub returns-clause-split : goal.returns-clause-split
returns-clause-split c =
    let t = c.self.inside in
    let u = c.args.unit in
    let options = c.args.options.now in
    let prefix = prefix_in (unit_of c.args.self.now u) in
    let ps = longer_prefixes prefix options in
    let there = unit_with is_here t.site t.names_limit t.own t.guests u (ap (λ v. has_status is_here (unit_of v u)) c.self.view_is ∙ c.requires.here) in
    let count = sym (length-map options (λ o. prefix ++ o ∷ [])) in
    let fits : length t.own + length ps ≤ t.names_limit = omega (arith, count, c.if-options-self.false, c.len-first.ensures, c.self.invariant.names) in
    let e = c.split_unit.ensures.own in
    let g = c.split_unit.ensures.guests in
    let appended = c.in_ok-append.ensures.ok ∙ ap (λ l. t.own ++ map (fresh_child u) (longer_prefixes l options)) c.path-path.ensures in
    let path = sym (ap (λ v. prefix_in (unit_of v u)) c.self.view_is) ∙ path_found t.site t.names_limit t.own t.guests u there.work there.is in
    let grows = subst (λ (l : List ℕ). AllByRecursion (λ p. p ≡ l ++ last_of p ∷ []) ps) path (prefixes_grow prefix options) in
    let own = e ∙ (λ i. own_after u (split_work (c.len-first.ensures i) (count i)) (appended i)) in
    let guests = g ∙ (λ i. guests_after u (split_work (c.len-first.ensures i) (count i)) t.guests) in
    (λ i. table_of t.site t.names_limit (own i) (guests i))
    ∙ split_view t.site t.names_limit t.own t.guests c.self.invariant u there.work there.is there.passes ps fits grows
    ∙ ap (λ v. split_into v u ps) c.self.view_is

pub split_unit-requires-clause-stays : goal.split_unit-requires-clause-stays
split_unit-requires-clause-stays c =
    let t = c.self.inside in
    let u = c.args.unit in
    let there = unit_with is_here t.site t.names_limit t.own t.guests u (ap (λ v. has_status is_here (unit_of v u)) c.self.view_is ∙ c.requires.here) in
    here_stays t.own t.guests u Split there.work there.is there.passes

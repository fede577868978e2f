use Rattle.std.proofs.Common.{◌≡◌, ◌<◌, length, true, arith, ap, refl, sym, ◌∙◌, [], ◌∷◌, ◌++◌, vec_capacity}
use Rattle.cover_problem.specs.Prefix.{is_live}
use Rattle.cover_problem.proofs.Prefixes.{live_at}
use Rattle.choices.specs.Choices.{Choices, first_primary}
use Rattle.dancing_links.specs.Choices.{commits_of}
use Rattle.dancing_links.specs.Columns.{column_of}
use Rattle.dancing_links.proofs.Ranges.{table_of}
use Rattle.cover_problem.proofs.Fronts.{room_left}
use Rattle.dancing_links.proofs.Chosen.{same_length, held_kept, commits_pushed, links_push, same_links_of, view_push}
use Rattle.dancing_links.proofs.Trailed.{marks_length, middle_pushed, ready_of, room_push, trail_more, trail_pushed}
use Rattle.dancing_links.proofs.links.Links.choose.Goals as goal

pub primary_node-node-requires-clause-layout : goal.primary_node-node-requires-clause-layout
primary_node-node-requires-clause-layout c = c.self.invariant.0.layout

pub primary_node-node-requires-clause-option : goal.primary_node-node-requires-clause-option
primary_node-node-requires-clause-option c = omega (arith, c.requires.option, ap (λ (v : Choices). length v.problem.options) c.self.view_is)

pub cover_from-middle-requires-clause-node : goal.cover_from-middle-requires-clause-node
cover_from-middle-requires-clause-node c = c.primary_node-node.ensures.in_option

pub cover_from-middle-requires-clause-lawful : goal.cover_from-middle-requires-clause-lawful
cover_from-middle-requires-clause-lawful c =
    let s = c.self.inside in
    let is = c.self.invariant.0 in
    record { linked = is.linked; keys = is.history.keyed.columns; commits = held_kept s.problem.now s.layout s.chosen.items s.entries.items s.board.links s.board.keys (vec_capacity s.chosen) s.board.commits is c.self.invariant.2 }

pub overflow_cast-node : goal.overflow_cast-node
overflow_cast-node c =
    let t = table_of c.self.inside.problem.now c.self.inside.layout c.self.invariant.0.is_problem c.self.invariant.0.layout in
    omega (arith, c.primary_node-node.ensures.in_option.1, t.ends, t.small)

pub push_reserved-requires-2 : goal.push_reserved-requires-2
push_reserved-requires-2 c =
    let inside : c.args.option < length c.self.inside.problem.now.options = omega (arith, c.requires.option, ap (λ (v : Choices). length v.problem.options) c.self.view_is) in
    let live : is_live c.self.inside.problem.now c.self.inside.chosen.items c.args.option ≡ true = ap (λ (v : Choices). is_live v.problem v.chosen c.args.option) c.self.view_is ∙ c.requires.live in
    let room = room_left c.self.inside.problem.now c.self.inside.chosen.items c.args.option c.self.invariant.0.is_problem c.self.invariant.0.prefix inside live in
    let same = same_length c.self.inside.problem.now c.self.inside.layout c.self.inside.chosen.items c.self.inside.entries.items c.self.inside.board.links c.self.inside.board.keys (vec_capacity c.self.inside.chosen) c.self.invariant.0 in
    omega (arith, room, same, c.self.invariant.1, c.self.inside.entries.ok.0)

pub push_reserved-requires-3 : goal.push_reserved-requires-3
push_reserved-requires-3 c =
    let inside : c.args.option < length c.self.inside.problem.now.options = omega (arith, c.requires.option, ap (λ (v : Choices). length v.problem.options) c.self.view_is) in
    let live : is_live c.self.inside.problem.now c.self.inside.chosen.items c.args.option ≡ true = ap (λ (v : Choices). is_live v.problem v.chosen c.args.option) c.self.view_is ∙ c.requires.live in
    let room = room_left c.self.inside.problem.now c.self.inside.chosen.items c.args.option c.self.invariant.0.is_problem c.self.invariant.0.prefix inside live in
    omega (arith, room, c.self.invariant.0.enough, c.self.inside.chosen.ok.0)

pub invariant_of-self : goal.invariant_of-self
invariant_of-self c =
    let p = c.self.inside.problem.now in
    let cs = c.self.inside.layout in
    let os = c.self.inside.chosen.items in
    let es = c.self.inside.entries.items in
    let node = c.primary_node-node.result in
    let inside : c.args.option < length c.self.inside.problem.now.options = omega (arith, c.requires.option, ap (λ (v : Choices). length v.problem.options) c.self.view_is) in
    let live : is_live c.self.inside.problem.now c.self.inside.chosen.items c.args.option ≡ true = ap (λ (v : Choices). is_live v.problem v.chosen c.args.option) c.self.view_is ∙ c.requires.live in
    let first = c.primary_node-node.ensures in
    let free = live_at p os c.args.option (column_of cs node) first.primary live first.named in
    let room = vec_capacity c.self.inside.chosen in
    let old = c.self.inside.board in
    let new = c.cover_from-middle.new.board in
    let covers = c.cover_from-middle.ensures.covers in
    let held = c.self.invariant.2 in
    let ready = ready_of p cs os es old.links old.keys room c.args.option node c.self.invariant.0 inside live free first.in_option first.own in
    let after = links_push p cs os es old.links new.links old.keys new.keys old.commits room c.args.option node c.self.invariant.0 held inside live free first.in_option first.own c.cover_from-middle.ensures.linked covers.links covers.keys in
    let commits = commits_pushed cs es node old.commits new.commits held covers.commits in
    let now = c.self.invariant.3.trail_is in (
      same_links_of p cs (os ++ c.args.option ∷ []) c.push_reserved-3.new.self.items (es ++ node ∷ []) c.push_reserved-2.new.self.items new.links _ new.keys _ room _ c.push_reserved-3.ensures.items c.push_reserved-2.ensures.items refl refl c.push_reserved-3.ensures.capacity after,
      omega (arith, c.self.invariant.1, c.push_reserved-2.ensures.capacity),
      commits ∙ ap (commits_of cs) (sym c.push_reserved-2.ensures.items),
      trail_more cs p.primary es c.push_reserved-2.new.self.items new.trail node old.room new.room c.out-start.result c.cover_from-middle.result c.self.inside.marks.items c.push_reserved.new.self.items (vec_capacity c.self.inside.marks) (vec_capacity c.push_reserved.new.self) c.self.invariant.3.enough covers.room c.self.invariant.3.marks_are c.self.invariant.3.some c.push_reserved.ensures.capacity (c.out-start.ensures ∙ ap length now) (middle_pushed cs es old.links old.commits old.trail node c.cover_from-middle.result ready held now c.cover_from-middle.ensures.middle) (trail_pushed cs es old.links old.commits old.trail new.trail node ready held now covers.trail) c.push_reserved-2.ensures.items c.push_reserved.ensures.items,
    )

pub returns : goal.returns
returns c =
    view_push c.args.self.now c.self.inside.problem.now c.self.inside.layout c.self.inside.chosen.items c.self.inside.entries.items c.push_reserved-3.new.self.items c.push_reserved-2.new.self.items c.args.option c.primary_node-node.result _ c.self.view_is c.push_reserved-3.ensures.items c.push_reserved-2.ensures.items (c.primary_node-node.ensures.first ∙ ap (λ (v : Choices). first_primary v.problem c.args.option) c.self.view_is)

pub cover_from-middle-requires-clause-room : goal.cover_from-middle-requires-clause-room
cover_from-middle-requires-clause-room c =
    let p = c.self.inside.problem.now in
    let cs = c.self.inside.layout in
    let os = c.self.inside.chosen.items in
    let es = c.self.inside.entries.items in
    let node = c.primary_node-node.result in
    let inside : c.args.option < length c.self.inside.problem.now.options = omega (arith, c.requires.option, ap (λ (v : Choices). length v.problem.options) c.self.view_is) in
    let live : is_live c.self.inside.problem.now c.self.inside.chosen.items c.args.option ≡ true = ap (λ (v : Choices). is_live v.problem v.chosen c.args.option) c.self.view_is ∙ c.requires.live in
    let first = c.primary_node-node.ensures in
    let free = live_at p os c.args.option (column_of cs node) first.primary live first.named in
    let room = vec_capacity c.self.inside.chosen in
    let old = c.self.inside.board in
    let ready = ready_of p cs os es old.links old.keys room c.args.option node c.self.invariant.0 inside live free first.in_option first.own in
    room_push cs es old.links old.commits old.trail node old.room ready c.self.invariant.2 c.self.invariant.3.trail_is c.self.invariant.3.enough

pub push_reserved-requires : goal.push_reserved-requires
push_reserved-requires c =
    let inside : c.args.option < length c.self.inside.problem.now.options = omega (arith, c.requires.option, ap (λ (v : Choices). length v.problem.options) c.self.view_is) in
    let live : is_live c.self.inside.problem.now c.self.inside.chosen.items c.args.option ≡ true = ap (λ (v : Choices). is_live v.problem v.chosen c.args.option) c.self.view_is ∙ c.requires.live in
    let room = room_left c.self.inside.problem.now c.self.inside.chosen.items c.args.option c.self.invariant.0.is_problem c.self.invariant.0.prefix inside live in
    let same = same_length c.self.inside.problem.now c.self.inside.layout c.self.inside.chosen.items c.self.inside.entries.items c.self.inside.board.links c.self.inside.board.keys (vec_capacity c.self.inside.chosen) c.self.invariant.0 in
    omega (arith, room, same, marks_length c.self.inside.layout [] c.self.inside.entries.items, ap length c.self.invariant.3.marks_are, c.self.invariant.3.some, c.self.inside.marks.ok.0)

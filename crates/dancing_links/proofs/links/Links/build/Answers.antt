use Rattle.std.proofs.Common.{◌≡◌, ℕ, [], ◌-◌, ◌≤◌, length, replicate, refl, ap, arith, subst, sym, ◌∙◌, vec_len, vec_capacity}
use Rattle.dancing_links.specs.Board.{Board}
use Rattle.dancing_links.specs.Choices.{IsLinks, IsTrail, commits_of}
use Rattle.dancing_links.specs.Columns.{Columns}
use Rattle.std.proofs.lemmas.List.{length-replicate}
use Rattle.dancing_links.proofs.Laid.{resized}
use Rattle.dancing_links.proofs.Built.{links_built, commits_built}
use Rattle.dancing_links.proofs.Trailed.{trail_built}
use Rattle.dancing_links.proofs.links.Links.build.Goals as goal

pub invariant_of-result : goal.invariant_of-result
invariant_of-result c =
    let p = c.args.problem.now in
    let cs = c.in_ok-layout.layout in
    let trail : c.resize.new.self.items ≡ replicate cs.tails 0 = c.in_ok-resize.ensures.items ∙ resized c.new-trail.result.items c.tails.result (vec_len c.new-trail.result) cs.tails 0 c.new-trail.ensures.items c.new-trail.ensures.len c.tails.ensures.tails in
    let after : Board = c.new.result in
    let links = c.in_ok-links.links.items in
    let keys = c.in_ok-keys.keys.items in
    let commits = c.resize-2.new.self.items in
    let es = c.in_ok-entries.entries.items in
    let marks = c.in_ok-marks.marks in
    let room = vec_capacity c.in_ok-chosen.chosen in
    let P : Board → Type 0 = λ b. IsLinks p cs c.in_ok-chosen.chosen.items es b.links b.keys room × (p.primary ≤ vec_capacity c.in_ok-entries.entries) × (b.commits ≡ commits_of cs es) × IsTrail cs p.primary es b.trail b.room marks.items (vec_capacity marks) in
    subst P (sym c.new.ensures) (
      links_built p cs c.in_ok-chosen.chosen.items es links keys _ c.primary.ensures.problem c.in_ok-layout.ensures (omega (arith, c.in_ok-chosen.ensures.capacity, c.primary.ensures.count)) c.in_ok-chosen.ensures.items c.in_ok-entries.ensures.items c.in_ok-links.ensures c.in_ok-keys.ensures,
      omega (arith, c.in_ok-entries.ensures.capacity, c.primary-2.ensures.count),
      commits_built cs es commits c.in_ok-entries.ensures.items (c.in_ok-resize-2.ensures.items ∙ resized c.new-commits.result.items c.items.result (vec_len c.new-commits.result) (cs.heads - 1) 0 c.new-commits.ensures.items c.new-commits.ensures.len (omega (arith, c.items.ensures, ap (λ (t : Columns). t.heads) c.in_ok-layout.ensures))),
      trail_built cs p.primary es [] (length c.resize.new.self.items) marks.items (vec_capacity marks) c.in_ok-entries.ensures.items refl c.in_ok-marks.ensures.items (omega (arith, ap length trail, length-replicate {A = ℕ} cs.tails 0)) (omega (arith, c.in_ok-marks.ensures.capacity, c.primary-3.ensures.count)),
    )

use Rattle.std.proofs.Common.{◌≡◌, ◌+◌, ◌-◌, ◌*◌, ◌<◌, length, take, sym, ap, ◌∙◌, arith}
use Rattle.std.proofs.lemmas.List.{take_all}
use Rattle.spawn_frame.specs.Pages.{has_wanted, in_pages}
use Rattle.spawn_frame.specs.Works.{last_wanted}
use Rattle.spawn_frame.proofs.Filled.{filled_most, page_begun}
use Rattle.spawn_frame.proofs.Paged.{has_some, last_found, last_none, last_unfound}
use Rattle.spawn_frame.proofs.pages.last_in_pages.Goals as goal
use Rattle.spawn_frame.proofs.pages.last_in_pages.Goals.{then-has+else-is_some, else-has}

pub loop-behind-init : goal.loop-behind-init
loop-behind-init c =
    let pages = c.args.pages.now in
    let same : length pages - 0 ≡ length pages = omega arith in
    ap (λ n. last_wanted c.args.wanted 0 (take (n * 256) (in_pages pages))) same
    ∙ ap (last_wanted c.args.wanted 0) (take_all (length pages * 256) (in_pages pages) (filled_most pages c.requires.filled))

pub first_of-requires : goal.first_of-requires
first_of-requires c =
    let p = c.index-pages-number in
    let pages = c.args.pages.now in
    let number = length pages - 1 - c.loop-behind.behind in
    let within : number < length pages = omega (arith, c.loop-behind-test.true) in
    let wanted = ap (has_wanted c.args.wanted) (sym p.is) ∙ sym c.has.ensures ∙ c.if-has.true in
    omega (arith, page_begun pages number p.result c.requires.filled within (has_some c.args.wanted _ wanted), c.requires.small)

pub last_child-found-requires : goal.last_child-found-requires
last_child-found-requires c =
    let p = c.index-pages-number in
    let pages = c.args.pages.now in
    let number = length pages - 1 - c.loop-behind.behind in
    let within : number < length pages = omega (arith, c.loop-behind-test.true) in
    let wanted = ap (has_wanted c.args.wanted) (sym p.is) ∙ sym c.has.ensures ∙ c.if-has.true in
    omega (arith, page_begun pages number p.result c.requires.filled within (has_some c.args.wanted _ wanted), c.requires.small, ap length (c.as_slice.ensures ∙ p.is))

pub returns-then-is_some : goal.returns-then-is_some
returns-then-is_some c =
    let p = c.index-pages-number in
    let pages = c.args.pages.now in
    let number = length pages - 1 - c.loop-behind.behind in
    let within : number < length pages = omega (arith, c.loop-behind-test.true) in
    let left : length pages - c.loop-behind.behind ≡ number + 1 = omega (arith, c.loop-behind-test.true) in
    let is = c.last_child-found.ensures ∙ (λ i. last_wanted c.args.wanted (c.first_of.ensures i) ((c.as_slice.ensures ∙ p.is) i)) in
    last_found c.args.wanted pages _ number p.result _ left within c.requires.filled c.loop-behind.invariant is (sym c.is_some.ensures ∙ c.if-is_some.true)

pub loop-behind-preserved : goal.loop-behind-preserved
loop-behind-preserved c =
    let p = c.index-pages-number in
    let pages = c.args.pages.now in
    let number = length pages - 1 - c.loop-behind.behind in
    let within : number < length pages = omega (arith, c.loop-behind-test.true) in
    let left : length pages - c.loop-behind.behind ≡ number + 1 = omega (arith, c.loop-behind-test.true) in
    let next : length pages - (c.loop-behind.behind + 1) ≡ number = omega (arith, c.loop-behind-test.true) in
    elim c.if-has.branch [
      | then-has+else-is_some w ↦
          let is = w.last_child-found.ensures ∙ (λ i. last_wanted c.args.wanted (w.first_of.ensures i) ((w.as_slice.ensures ∙ p.is) i)) in
          rw next (last_unfound c.args.wanted pages _ number p.result _ left within c.requires.filled is (sym w.is_some.ensures ∙ w.if-is_some.false) c.loop-behind.invariant)
      | else-has w ↦
          rw next (last_none c.args.wanted pages _ number p.result left within c.requires.filled (ap (has_wanted c.args.wanted) (sym p.is) ∙ sym c.has.ensures ∙ w.if-has.false) c.loop-behind.invariant)
    ]

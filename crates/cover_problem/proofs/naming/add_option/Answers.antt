use Rattle.std.proofs.Common.{◌≡◌, ◌<◌, length, get_or, take, true, false, refl, sym, ap, ◌∙◌, length-set, arith}
use Rattle.std.proofs.lemmas.Bool.{both_ways, false_from_ne_true}
use Rattle.cover_problem.specs.Naming.{named_by}
use Rattle.cover_problem.specs.Numbers.{is_in, is_distinct}
use Rattle.cover_problem.specs.Problem.{colour_of}
use Rattle.cover_problem.specs.declared.naming.Naming.TheVariants.{Unnamed}
use Rattle.cover_problem.proofs.Namings.{add_more}
use Rattle.cover_problem.proofs.Repeats.{repeated}
use Rattle.cover_problem.proofs.naming.add_option.Goals as goal

pub loop-place-preserved : goal.loop-place-preserved
loop-place-preserved c =
    let p = c.args.problem.now in
    let option = c.args.option in
    let items = c.option-items.result.now in
    let namings = c.loop-place.namings in
    let place = c.loop-place.place in
    let item = get_or items place 0 in
    let inside : place < length items = c.loop-place-test.true in
    let long = c.loop-place.invariant.long in
    let below = c.option-items.ensures.named place 0 inside in
    let enough = c.requires.namings in
    let distinct : is_distinct items ≡ true = ap is_distinct c.option-items.ensures.items ∙ c.requires.problem.each_distinct option _ c.requires.option in
    let fresh : is_in (take place items) item ≡ false = false_from_ne_true _ (λ twice. both_ways (is_distinct items) (repeated items place inside twice) distinct) in
    let same : length items ≡ length c.colours-colours.result.now = ap length c.option-items.ensures.items ∙ sym c.colours-colours.ensures.long in
    let colour : colour_of p option item ≡ get_or c.colours-colours.result.now place 0 =
    ap (λ xs. colour_of p option (get_or xs place 0)) c.option-items.ensures.items ∙ c.colours-colours.ensures.each place (omega (arith, inside, same)) in
    let is = c.named_by.ensures ∙ ap (λ own. named_by (get_or namings item Unnamed) own) (sym colour) in
    record {
      long = length-set namings item c.named_by.result ∙ long;
      each = add_more p option c.args.namings.now namings items place item c.named_by.result inside refl (omega (arith, below, enough, long)) long fresh is c.loop-place.invariant.each;
    }

use Rattle.std.proofs.Common.{◌≡◌, [], false}
use Rattle.std.proofs.lemmas.Result.{err_from_is_err_and}
use Rattle.dlx_reader.specs.Items.{names_in}
use Rattle.dlx_reader.specs.Left.{content_left}
use Rattle.dlx_reader.specs.Lines.{words_of}
use Rattle.dlx_reader.proofs.ItemLines.{items_read}
use Rattle.dlx_reader.proofs.Problems.{read_is_problem}
use Rattle.dlx_reader.proofs.reading.read_content.Goals as goal

pub from_parts-requires : goal.from_parts-requires
from_parts-requires c =
    rw (c.into_list-names.ensures, c.primary_in-primary.ensures, c.into_parts-options.ensures.options, c.into_parts-options.ensures.colours, c.into_parts-options.ensures.colour_names)
    (read_is_problem c.args.items.number (words_of c.args.items.text.now) (content_left c.args.others) c.in_ok-names.names c.in_ok-kept.kept c.requires.content c.requires.words c.requires.others c.in_ok-names.ensures.gives (rw c.primary_in-primary.ensures at c.in_ok-kept.ensures.gives))

pub returns-in_err-kept-clause-unknown : goal.returns-in_err-kept-clause-unknown
returns-in_err-kept-clause-unknown c =
    let words = words_of c.args.items.text.now in
    let same : c.in_ok-names.names ≡ names_in words = (items_read c.args.items.number [] false words c.in_ok-names.names c.in_ok-names.ensures.gives).whole in
    let returned = err_from_is_err_and c.from_residual-in_err-kept.result c.from_residual-in_err-kept.ensures.1 in
    rw (returned.1, returned.2, ← same) c.in_err-kept.ensures.unknown

use Rattle.std.proofs.Common.{◌≡◌, ◌∙◌, [], sym, ap, length, Ok}
use Rattle.std.proofs.Math.ListN.{replicate}
use Rattle.dlx_reader.specs.Lines.{words_of}
use Rattle.dlx_reader.proofs.Colours.{none_numbered}
use Rattle.dlx_reader.proofs.options.colours_of.Goals as goal

pub returns-clause-gives : goal.returns-clause-gives
returns-clause-gives c =
    let all : c.in_ok-vec.field-0.items ≡ replicate (length (words_of c.args.line.text.now)) 0 =
    c.in_ok-vec.ensures.items_if_clones_equal (λ y e. e) ∙ ap (λ n. replicate n 0) (c.len.ensures ∙ c.args.read.now.items.ok.0 ∙ c.requires.long) in
    none_numbered c.args.line.number c.args.names.now [] (words_of c.args.line.text.now) (sym c.requires.colours ∙ c.if-read.false) ∙ ap (λ ns. Ok (c.args.names.now, ns)) (sym all)

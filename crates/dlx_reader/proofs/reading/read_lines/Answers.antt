use Rattle.std.proofs.Common.{refl}
use Rattle.dlx_reader.specs.Lines.{lines_of}
use Rattle.dlx_reader.proofs.WordTexts.{first_words}
use Rattle.dlx_reader.proofs.reading.read_lines.Goals as goal

pub read_content-requires-clause-content : goal.read_content-requires-clause-content
read_content-requires-clause-content c = (first_words c.args.text.now (lines_of c.args.text.now) _ _ _ refl (rw c.of-lines.ensures at c.in-Some.ensures.some.lines)).content

pub read_content-requires-clause-words : goal.read_content-requires-clause-words
read_content-requires-clause-words c = (first_words c.args.text.now (lines_of c.args.text.now) _ _ _ refl (rw c.of-lines.ensures at c.in-Some.ensures.some.lines)).words_are

pub read_content-requires-clause-others : goal.read_content-requires-clause-others
read_content-requires-clause-others c = (first_words c.args.text.now (lines_of c.args.text.now) _ _ _ refl (rw c.of-lines.ensures at c.in-Some.ensures.some.lines)).others_are

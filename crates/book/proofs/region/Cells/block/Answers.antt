-- The two ends of a block are places in the book.
-- Assumes nothing.
use Rattle.book.specs.Lent.{reading, Lies}
use Rattle.book.proofs.Spans.{block-by}
use Rattle.book.proofs.region.Cells.block.Goals as goal

pub returns : goal.returns
unfolding reading Lies
returns c =
    block-by c.args.self.grid c.args.self.words.now c.args.self.lies c.args.from c.args.to c.requires.from_le_to.0 c.requires.from_le_to.1

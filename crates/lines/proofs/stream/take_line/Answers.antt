-- `stream::take_line`: a frame is one step, and any other whole line is refused.
-- Assumes nothing.
use Rattle.lines.proofs.Books.{taken-frame, taken-other}
use Rattle.lines.proofs.stream.take_line.Goals as goal

pub returns-in-Frame : goal.returns-in-Frame
returns-in-Frame c =
    taken-frame _ c.requires.good_book _ c.in-Frame.ensures c.book_step.ensures

pub returns-in-Other : goal.returns-in-Other
returns-in-Other c = taken-other _ c.requires.good_book _ c.in-Other.ensures c.refused.ensures

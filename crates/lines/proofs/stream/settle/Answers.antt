-- `stream::settle`: the settings line lays the book or ends the program.
-- Assumes nothing.
use Rattle.lines.proofs.Layings.{laid-is, settled-book, settled-refused}
use Rattle.lines.proofs.stream.settle.Goals as goal

pub returns-in-Ok : goal.returns-in-Ok
returns-in-Ok c = settled-book _ _ (laid-is c.lay_line.ensures c.in-Ok.is)

pub returns-in-Err : goal.returns-in-Err
returns-in-Err c =
    settled-refused _ _
    (laid-is c.lay_line.ensures
    c.in-Err.is)
    c.put_answer.ensures

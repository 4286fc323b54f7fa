-- `line::put_words`: by the two cases of an answer.
-- Assumes nothing.
use Rattle.text.proofs.Puts.{join, put_as}
use Rattle.framing.proofs.Framing.{done-line, refused-line}
use Rattle.framing.proofs.line.put_words.Goals as goal

pub returns-in-Ok : goal.returns-in-Ok
returns-in-Ok c =
    put_as (done-line c.in-Ok.is) (join c.put.ensures c.put_word.ensures)

pub returns-in-Err : goal.returns-in-Err
returns-in-Err c =
    put_as (refused-line c.in-Err.is)
    (join (join c.put_word-in-Err.ensures c.put_word-in-Err-2.ensures) c.put-in-Err.ensures)

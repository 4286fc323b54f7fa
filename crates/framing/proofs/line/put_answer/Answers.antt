-- `line::put_answer`: three words and byte 10.
-- Assumes nothing.
use Rattle.text.proofs.Puts.{join-at}
use Rattle.framing.proofs.Framing.{words-line}
use Rattle.framing.proofs.line.put_answer.Goals as goal

pub returns : goal.returns
returns c =
    join-at (words-line c.args.a) c.put_words.ensures c.put.ensures

-- Five fields and byte 10.
-- Assumes nothing.
use Rattle.pages.proofs.Joins.{line-by}
use Rattle.pages.proofs.lines.put_line.Goals as goal

pub returns : goal.returns
returns c =
    let a = c.args in
    line-by a.session a.room a.meeting a.visitors a.info c.put_place.ensures c.put_decimal.ensures c.put_decimal-2.ensures
    c.put.ensures

-- Three fields, one behind another.
-- Assumes nothing.
use Rattle.text.proofs.Decimals.{field-length}
use Rattle.pages.proofs.Joins.{join-two}
use Rattle.pages.proofs.lines.put_place.Goals as goal

pub returns : goal.returns
returns c =
    let a = c.args in
    join-two (field-length 5 a.session) (field-length 4 a.room) c.put_decimal.ensures c.put_decimal-2.ensures
    c.put_decimal-3.ensures

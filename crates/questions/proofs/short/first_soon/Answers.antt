-- Three slots, and the first of them that answers yes.
-- Assumes nothing.
use native.Mathlib.Omega.{arith}
use mathlib.Core.Bool.{not}
use mathlib.Core.Path.{◌∙◌, ap}
use Rattle.questions.proofs.Shorts.{middle-is, fails}
use Rattle.questions.proofs.short.first_soon.Goals as goal

pub found-y-requires : goal.found-y-requires
found-y-requires g c =
    let m = middle-is c.is_short.ensures (ap not c.if-not-is_short.false) c.middle_of-middle.ensures in
    c.requires _ (omega (arith, m.inside.0, m.low)) (omega (arith, m.inside.1, m.low))

pub returns : goal.returns
returns g c t h =
    let m = middle-is c.is_short.ensures (ap not c.if-not-is_short.false) c.middle_of-middle.ensures in
    c.choose.ensures
    ∙ fails t m _ _ _
    (h c.args.first _ (omega arith) m.low c.found-x.ensures)
    (h c.middle_of-middle.result _ m.inside.0 m.inside.1 c.found-y.ensures)
    (h c.args.last _ m.low (omega arith) c.found-z.ensures)

-- The tests of the limits, joined.
-- Assumes nothing.
use Rattle.header.proofs.Heads.{valid-is}
use Rattle.header.proofs.settings.valid.Goals as goal

pub returns : goal.returns
returns c =
    rw (
      c.in_range.ensures,
      c.in_range-2.ensures,
      c.in_range-3.ensures,
      c.in_range-4.ensures,
      c.in_range-5.ensures,
      c.in_range-6.ensures,
      c.in_range-7.ensures,
      c.in_range-8.ensures,
      c.in_range-9.ensures,
      c.seats_good.ensures,
    )
    (valid-is c.args.s c.requires)

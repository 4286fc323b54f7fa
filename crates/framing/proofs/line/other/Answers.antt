-- `line::other`: the line's end is searched for.
-- Assumes nothing.
use Rattle.framing.specs.Front.{NoFrame}
use Rattle.framing.proofs.Looking.{all-free, line-leads}
use Rattle.framing.proofs.line.other.Goals as goal

pub returns-in-Some : goal.returns-in-Some
unfolding NoFrame
returns-in-Some c = let e = line-leads c.args.s.now c.in-Some.n c.in-Some.ensures in (e, c.requires _ e)

pub returns-in-None : goal.returns-in-None
returns-in-None c = all-free c.args.s.now c.in-None.ensures

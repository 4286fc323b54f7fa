-- Test by test.
-- Assumes nothing.
use Rattle.questions.proofs.Shorts.{short-is}
use Rattle.questions.proofs.short.is_short.Goals as goal

pub returns : goal.returns
returns c = short-is _ _ c.if-last-first.false

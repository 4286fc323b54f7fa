-- Test by test.
-- Assumes nothing.
use Rattle.questions.specs.Short.{chosen}
use Rattle.questions.proofs.short.choose.Goals as goal

pub returns-then-x : goal.returns-then-x
unfolding chosen
returns-then-x c = rw c.if-x.true

pub returns-then-y : goal.returns-then-y
unfolding chosen
returns-then-y c = rw (c.if-x.false, c.if-y.true)

pub returns-then-z : goal.returns-then-z
unfolding chosen
returns-then-z c = rw (c.if-x.false, c.if-y.false, c.if-z.true)

pub returns : goal.returns
unfolding chosen
returns c = rw (c.if-x.false, c.if-y.false, c.if-z.false)

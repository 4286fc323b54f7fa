-- `drive`: every turn goes on from where the last one ended, and the end is that of all that was read.
-- Assumes nothing.
use Rattle.std.proofs.Common.{◌∙◌, arith, length-take-le}
use Rattle.frames.proofs.Signs.{going_more}
use Rattle.frames.proofs.Turns.{since_none, since-more, driven, answered}
use Rattle.frames.proofs.drive.Goals as goal

pub loop-init : goal.loop-init
loop-init g c =
    since_none
    (g.R.Read.remaining c.args.input.now)
    (g.W.Write.contents c.args.output.now)
    c.args.book.now
    c.start-turn.ensures.begun
    c.start-turn.ensures.sign

pub loop-preserved : goal.loop-preserved
loop-preserved g c =
    let t = c.take_turn-turn in
    since-more c.loop.invariant (going_more c.loop.turn.sign (cc)) t.ensures.turned t.ensures.carried (omega arith)

pub returns-clause-driven : goal.returns-clause-driven
returns-clause-driven g c =
    let h = c.send-sent.ensures in
    driven
    (g.W.Write.contents c.send-sent.new.output)
    c.send-sent.result.put
    c.loop.invariant
    c.finish-wrote.ensures
    h.whole
    h.part
    (h.handed ∙ length-take-le c.finish-wrote.result c.finish-wrote.new.out (omega arith))

pub returns-clause-answered : goal.returns-clause-answered
returns-clause-answered g c =
    let h = c.send-sent.ensures in
    answered
    (g.W.Write.contents c.send-sent.new.output)
    c.send-sent.result.put
    c.loop.invariant
    c.finish-wrote.ensures
    h.whole
    h.part

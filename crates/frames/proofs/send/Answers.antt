-- `send`: what a call took stands behind what was sent before.
-- Assumes nothing.
use Rattle.std.proofs.Common.{arith, ap, length, length-drop}
use Rattle.std.proofs.lemmas.List.{take_rest}
use Rattle.frames.proofs.Moves.{Appends-further, Appends-kept_at}
use Rattle.frames.proofs.send.Goals as goal
use Rattle.frames.proofs.send.Goals.{in-Ok, in-Err+else-not-is_interrupted}

pub loop-preserved : goal.loop-preserved
loop-preserved g c =
    let bytes = c.args.bytes.now in
    let sent = c.loop.sent in
    let before = g.W.Write.contents c.args.output.now in
    let here = g.W.Write.contents c.loop.output in
    let then = g.W.Write.contents c.write.new.self in
    elim c.match-write.branch [
      | in-Ok w ↦
          record {
            within = omega (arith, ap length (take_rest bytes sent), length-drop sent bytes, w.in-Ok.ensures.bound);
            gone = Appends-further before here then sent w.in-Ok.n c.match-write.sent bytes w.sent-is c.loop.invariant.gone w.in-Ok.ensures.bytes;
          }
      | in-Err+else-not-is_interrupted w ↦
          record {
            within = omega arith;
            gone = Appends-kept_at before here then sent c.match-write.sent bytes w.sent-is c.loop.invariant.gone w.in-Err.ensures.bytes;
          }
    ]

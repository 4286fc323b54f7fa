-- `decimal::put_decimal`: the last p places are written, and `left` is the number without them.
-- Assumes nothing.
use Prim.Native.Nat.{◌+◌, ◌/◌}
use mathlib.Core.Path.{refl, sym, ◌∙◌, ap}
use native.Mathlib.Nat.{div-one}
use native.Mathlib.Numerals.{add-one}
use native.Mathlib.Omega.{arith}
use Rattle.text.proofs.Places.{next-left}
use Rattle.text.proofs.Decimals.{put-nothing, put-place}
use Rattle.text.proofs.decimal.put_decimal.Goals as goal

pub loop-p-init : goal.loop-p-init
loop-p-init c =
    let a = c.args in
    let e = c.enumerate-p-items.ensures in
    rw (c.into_iter-p-iterator.ensures.into_iter_gives, e.count, e.source, c.rev.ensures.source)
    (record { starts = refl; within = omega arith; ends = omega arith; left = sym (div-one a.n); written = put-nothing a.out.now (a.at + a.width) a.n })

pub loop-p-preserved : goal.loop-p-preserved
loop-p-preserved c =
    let n = c.args.n in
    let p = c.loop-p.p-iterator.count in
    let was = c.loop-p.invariant in
    let steps = c.in-Some.ensures.steps in
    let before = steps.0.1 in
    record {
      starts = steps.0.0 ∙ was.starts;
      within = omega (arith, steps, was.within, was.starts);
      ends = omega (arith, steps, was.ends);
      left = rw (steps.2, add-one, next-left 10 p n) (ap (λ x. x / 10) was.left);
      written =
          rw (steps.2, ← before.1)
          (put-place n p c.in-Some.i (omega (arith, steps, was.ends, c.requires)) was.left (rw steps.1 at c.place_byte.ensures) (rw (before.2, ← before.1) at was.written));
    }

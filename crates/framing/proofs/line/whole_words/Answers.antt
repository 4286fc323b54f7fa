-- `line::whole_words`: the words before k are digits.
-- Assumes nothing.
use Prim.Native.Nat.{◌+◌, ◌*◌}
use mathlib.Core.Path.{◌≡◌, refl, sym, ◌∙◌, ap}
use native.Mathlib.Omega.{arith}
use lib.ListN.{take}
use Rattle.std.specs.Option.{is_some}
use Rattle.text.specs.Digits.{digits_only}
use Rattle.framing.proofs.Framing.{digits_from, shows, whole_by, not-whole}
use Rattle.framing.proofs.line.whole_words.Goals as goal

pub returns-then-line-ne0 : goal.returns-then-line-ne0
returns-then-line-ne0 c = not-whole c.args.line.now c.if-line-ne0.true

pub loop-k-init : goal.loop-k-init
loop-k-init c = refl

pub loop-k-preserved : goal.loop-k-preserved
loop-k-preserved c =
    let line = c.args.line.now in
    let e : 8 * (c.loop-k.k + 1) ≡ 8 * c.loop-k.k + 8 = omega arith in
    digits_from line (8 * c.loop-k.k) c.loop-k.invariant (shows line (8 * c.loop-k.k) (c.is_some-all.ensures ∙ ap is_some c.word_at.ensures)) ∙ ap (λ m. digits_only (take m line)) (sym e)

pub returns : goal.returns
returns c = whole_by c.args.line.now c.loop-k.k (omega arith) c.if-line-ne0.false c.loop-k.invariant

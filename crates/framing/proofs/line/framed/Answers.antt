-- `line::framed`: a frame of one of the two lengths that frames have stands in front, or none.
-- Assumes nothing.
use mathlib.Core.Path.{refl, sym, ◌∙◌, ap, ap₂}
use mathlib.Core.Logic.{inl, inr}
use native.Mathlib.Omega.{arith}
use lib.ListN.{take, drop}
use Rattle.std.proofs.lemmas.Option.{cond_some}
use Rattle.model.specs.Text.{shown}
use Rattle.model.specs.Machine.{ordered}
use Rattle.model.proofs.Search.{both}
use Rattle.text.specs.Digits.{digits_only}
use Rattle.text.proofs.Hexes.{digits-part}
use Rattle.framing.proofs.Framing.{shows-none, digits_from}
use Rattle.framing.proofs.Looking.{frame-by, none-by, request-call, order-call}
use Rattle.framing.proofs.line.framed.Goals as goal

pub returns-then-s-eq10 : goal.returns-then-s-eq10
returns-then-s-eq10 c =
    let f = frame-by c.args.s.now 56 (inl refl) (c.requires.digits_ahead.more, c.if-s-eq10.true, c.requires.digits_ahead.digits) in
    (f.0, f.1, ap (ordered 0) c.requires.request_value ∙ request-call c.args.s.now (omega (arith, c.requires.digits_ahead.more)))

pub other-requires : goal.other-requires
other-requires c = none-by _ (λ h. c.if-s-eq10.false h.1) (λ h. omega (arith, h.0))

pub other-requires-in_default : goal.other-requires-in_default
other-requires-in_default c =
    let l = c.args.s.now in
    let f = shows-none (digits_only (take 8 (drop 56 l))) (shown (take 8 (drop 56 l))) c.in_default.ensures in
    none-by _ (λ h. c.if-s-eq10.false h.1) (λ h. both (digits-part l 56 8 64 (omega arith) h.2) f)

pub other-requires-then-s-ne10 : goal.other-requires-then-s-ne10
other-requires-then-s-ne10 c = none-by _ (λ h. c.if-s-eq10.false h.1) (λ h. c.if-s-ne10.true h.1)

pub returns : goal.returns
returns c =
    let l = c.args.s.now in
    let d = cond_some (digits_only (take 8 (drop 56 l))) (shown (take 8 (drop 56 l))) c.in-Some.order (sym c.in-Some.ensures) in
    let e = digits_from l 56 (sym c.requires.digits_ahead.digits) (sym d.0) in
    let f = frame-by l 64 (inr refl) (omega arith, c.if-s-ne10.false, sym e) in
    (f.0, f.1, ap₂ ordered (sym d.1) c.requires.request_value ∙ order-call l (omega arith))

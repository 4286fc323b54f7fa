-- `line::look`: the digits of a request in front, or no frame.
-- Assumes nothing.
use mathlib.Core.Path.{sym}
use native.Mathlib.Omega.{arith}
use Rattle.std.proofs.lemmas.Option.{cond_some}
use Rattle.model.proofs.Search.{both}
use Rattle.text.proofs.Hexes.{digits-part}
use Rattle.framing.specs.Frame.{request_at}
use Rattle.framing.proofs.Framing.{shows-none}
use Rattle.framing.proofs.Looking.{none-by}
use Rattle.framing.proofs.line.look.Goals as goal

pub other-requires : goal.other-requires
other-requires c = none-by _ (λ h. omega (arith, h.0)) (λ h. omega (arith, h.0))

pub other-requires-in-None : goal.other-requires-in-None
other-requires-in-None c =
    let f = shows-none _ (request_at c.args.s.now) c.in-None.ensures in
    none-by _ (λ h. both h.2 f) (λ h. both (digits-part c.args.s.now 0 56 64 (omega arith) h.2) f)

pub framed-requires : goal.framed-requires
framed-requires c =
    let d = cond_some _ (request_at c.args.s.now) c.in-Some.request (sym c.in-Some.ensures) in
    record { digits_ahead = record { more = omega arith; digits = d.0 }; request_value = sym d.1 }

-- `stream::close`: a line that is not over ends with the input.
-- Assumes nothing.
use Rattle.model.proofs.Search.{both}
use Prim.Native.Nat.{◌<◌}
use mathlib.Core.Bool.{true}
use lib.ListN.{length, take}
use Rattle.model.specs.Ledger.{ledger_of}
use Rattle.lines.specs.Post.{held_of, is_later}
use mathlib.Core.Path.{◌≡◌, sym, ◌∙◌}
use Rattle.lines.proofs.Streams.{held-some, ended-as, ended-closed, closed-silent}
use Rattle.lines.proofs.stream.close.Goals as goal
use Rattle.lines.proofs.stream.close.Goals.{then-is_later+else-held-eq0, else-is_later}

pub returns-then-held-eq0 : goal.returns-then-held-eq0
returns-then-held-eq0 c =
    closed-silent _ _ c.requires.going (sym c.is_later.ensures ∙ c.if-is_later.true) c.if-held-eq0.true

pub returns : goal.returns
returns c =
    let begun : is_later c.args.stream.phase ≡ true → 0 < length (held_of c.args.stream.held) =
    λ h. elim c.if-is_later.branch [
      | then-is_later+else-held-eq0 w ↦ held-some c.args.stream.held c.requires.going.holds w.if-held-eq0.false
      | else-is_later w ↦ both h (sym c.is_later.ensures ∙ w.if-is_later.false)
    ] in
    ended-as
    (ended-closed c.args.stream.phase (ledger_of (take c.args.stream.size c.args.book.now))
    (held_of c.args.stream.held) begun)
    c.end_held.ensures

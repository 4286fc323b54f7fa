-- `stream::end_held`: the end of the line that is held, by the phase.
-- Assumes nothing.
use lib.ListN.{take}
use Rattle.model.specs.Ledger.{ledger_of}
use Rattle.lines.specs.Post.{held_of}
use Rattle.lines.proofs.Streams.{ended-as, turn-opening, turn-later, turn-over}
use Rattle.lines.proofs.stream.end_held.Goals as goal

pub returns-in-Opening : goal.returns-in-Opening
returns-in-Opening c =
    ended-as
    (turn-opening (ledger_of (take c.args.size c.args.book.now)) (held_of c.args.held)
    c.in-Opening.is)
    c.settle.ensures

pub returns-in-Later : goal.returns-in-Later
returns-in-Later c =
    ended-as
    (turn-later (ledger_of (take c.args.size c.args.book.now)) (held_of c.args.held)
    c.in-Later.is)
    c.end_later.ensures

pub returns-in-Over : goal.returns-in-Over
returns-in-Over c =
    turn-over (ledger_of (take c.args.size c.args.book.now)) (held_of c.args.held) c.in-Over.is

-- `add_guests`: each turn adds a guest, or takes back those before.
-- Assumes nothing.
use Rattle.std.proofs.Common.{refl}
use Rattle.std.proofs.Math.Seq.{split_at}
use Rattle.std.proofs.lemmas.List.{take_more}
use Rattle.model.specs.Machine.{joined}
use Rattle.parties.proofs.Joining.{after, one-more, none-more, all-refused}
use Rattle.parties.proofs.add_guests.Goals as goal

pub loop-i-init : goal.loop-i-init
unfolding joined
loop-i-init c = record { good = c.requires.good; outcome = refl }

pub take_back-requires : goal.take_back-requires
take_back-requires c = record { good = (after c.loop-i.invariant.good _ c.add_attend.ensures).good }

pub returns-in-Err : goal.returns-in-Err
returns-in-Err c =
    let was = c.loop-i.invariant in
    let e = rw c.request_for-r.ensures at c.add_attend.ensures in (
      all-refused was _ e c.in-Err.is _ (split_at c.args.guests.now c.loop-i.i _ c.loop-i-test.true),
      c.take_back.ensures _ c.requires.good (none-more was _ e c.in-Err.is),
    )

pub loop-i-preserved : goal.loop-i-preserved
loop-i-preserved c =
    one-more c.loop-i.invariant _ (rw c.request_for-r.ensures at c.add_attend.ensures) c.in_default.is
    (take_more c.args.guests.now c.loop-i.i _ c.loop-i-test.true)

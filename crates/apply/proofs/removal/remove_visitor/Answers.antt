-- `removal::remove_visitor`: the dates before `from` are done, and n bookings erased.
-- Assumes nothing.
use Prim.Native.Nat.{◌<◌}
use mathlib.Core.Path.{refl}
use native.Mathlib.Omega.{arith}
use Rattle.book.proofs.Goods.{good-laid}
use Rattle.apply.proofs.Removals.{removing-next, removing-found, removing-over, removing-few, erased-is, erased-count}
use Rattle.apply.proofs.removal.remove_visitor.Goals as goal

pub loop-d-init : goal.loop-d-init
loop-d-init c = record { good = c.requires.good; rest = refl; count = omega arith }

pub invariant_of-first_on_leave : goal.invariant_of-first_on_leave
invariant_of-first_on_leave c = record { good = c.loop-d.invariant.good }

pub erase-n-requires-clause-laid : goal.erase-n-requires-clause-laid
erase-n-requires-clause-laid c = good-laid c.loop-d.invariant.good

pub erase-n-requires-clause-date_lt_dates : goal.erase-n-requires-clause-date_lt_dates
erase-n-requires-clause-date_lt_dates c =
    let f = removing-found c.loop-d.invariant c.first_on_leave.ensures c.in-Some.is in
    omega (arith, f.0.1, c.requires.last_lt_dates)

pub overflow_add-n : goal.overflow_add-n
overflow_add-n c =
    let f = removing-found c.loop-d.invariant c.first_on_leave.ensures c.in-Some.is in
    let m = erased-count f.1.good c.requires.v_lt_visitors (omega (arith, f.0.1, c.requires.last_lt_dates)) c.erase-n.ensures in
    omega (arith, removing-few c.requires.good f.1 f.0.1 m)

pub after-from-requires : goal.after-from-requires
after-from-requires c =
    let f = removing-found c.loop-d.invariant c.first_on_leave.ensures c.in-Some.is in
    omega (arith, f.0.1, (good-laid c.requires.good).ranges.dates, c.requires.last_lt_dates)

pub loop-d-smaller : goal.loop-d-smaller
loop-d-smaller c =
    let f = removing-found c.loop-d.invariant c.first_on_leave.ensures c.in-Some.is in
    omega (arith, f.0, c.after-from.ensures)

pub loop-d-preserved : goal.loop-d-preserved
loop-d-preserved c =
    let f = removing-found c.loop-d.invariant c.first_on_leave.ensures c.in-Some.is in
    let h : c.in-Some.d < c.args.site.settings.dates = omega (arith, f.0.1, c.requires.last_lt_dates) in
    let e = erased-is f.1.good c.requires.v_lt_visitors h c.erase-n.ensures in
    let m = erased-count f.1.good c.requires.v_lt_visitors h c.erase-n.ensures in
    rw c.after-from.ensures (removing-next f.1 f.0.1 e m)

pub returns : goal.returns
returns c =
    let both = removing-over c.loop-d.invariant c.first_on_leave.ensures c.in_default.is in
    record { book_after = both.0; value = both.1 }

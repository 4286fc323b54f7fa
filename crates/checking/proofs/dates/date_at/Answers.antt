-- The seven blocks are the date.
-- Assumes nothing.
use Prim.Native.Nat.{◌+◌}
use mathlib.Core.Path.{◌∙◌}
use native.Mathlib.Omega.{arith}
use Rattle.model.specs.Words.{leaves, hotel_cells, standings, attend_cells, conf_pairs, lunch_triples, ride_cells}
use Rattle.model.specs.Kinds.{sessions, times}
use Rattle.book.specs.Lent.{reading}
use Rattle.units.proofs.Slots.{unit-le}
use Rattle.checking.proofs.Addresses.{block-fits, block_run, one-long}
use Rattle.rules.proofs.Answers.{relay}
use Rattle.checking.proofs.Facts.{day-kept, kept-day}
use Rattle.checking.proofs.Runs.{run-order}
use Rattle.checking.proofs.dates.date_at.Goals as goal

pub rows-leave-requires : goal.rows-leave-requires
rows-leave-requires c =
    let p = c.requires.at in
    let both = block-fits c.args.site.settings p.starts _ leaves _ _ p.laid (omega arith) (omega (arith, p.date)) in
    record { lies = both.0; from_le_to = both.1 }

pub rows-hotel-requires : goal.rows-hotel-requires
rows-hotel-requires c =
    let p = c.requires.at in
    let both = block-fits c.args.site.settings p.starts _ hotel_cells _ _ p.laid (omega arith) (omega (arith, p.date)) in
    record { lies = both.0; from_le_to = both.1 }

pub rows-stand-requires : goal.rows-stand-requires
rows-stand-requires c =
    let p = c.requires.at in
    let both = block-fits c.args.site.settings p.starts _ standings _ _ p.laid (run-order p.sessions) p.sessions.ends.most in
    record { lies = both.0; from_le_to = both.1 }

pub rows-attend-requires : goal.rows-attend-requires
rows-attend-requires c =
    let p = c.requires.at in
    let both = block-fits c.args.site.settings p.starts _ attend_cells _ _ p.laid (run-order p.sessions) p.sessions.ends.most in
    record { lies = both.0; from_le_to = both.1 }

pub rows-conf-requires : goal.rows-conf-requires
rows-conf-requires c =
    let p = c.requires.at in
    let both = block-fits c.args.site.settings p.starts _ conf_pairs _ _ p.laid (run-order p.sessions) p.sessions.ends.most in
    record { lies = both.0; from_le_to = both.1 }

pub rows-lunch-requires : goal.rows-lunch-requires
rows-lunch-requires c =
    let p = c.requires.at in
    let both = block-fits c.args.site.settings p.starts _ lunch_triples _ _ p.laid (omega arith) (omega (arith, p.date)) in
    record { lies = both.0; from_le_to = both.1 }

pub rows-ride-requires : goal.rows-ride-requires
rows-ride-requires c =
    let p = c.requires.at in
    let both = block-fits c.args.site.settings p.starts _ ride_cells _ _ p.laid (run-order p.times) p.times.ends.most in
    record { lies = both.0; from_le_to = both.1 }

pub overflow_sub-parts : goal.overflow_sub-parts
overflow_sub-parts c = omega (arith, run-order c.requires.at.sessions)

pub overflow_cast-parts : goal.overflow_cast-parts
overflow_cast-parts c =
    let p = c.requires.at in
    omega (arith, p.sessions.ends.most, unit-le _ p.laid.ranges sessions)

pub overflow_sub-parts-2 : goal.overflow_sub-parts-2
overflow_sub-parts-2 c = omega (arith, run-order c.requires.at.times)

pub overflow_cast-parts-2 : goal.overflow_cast-parts-2
overflow_cast-parts-2 c =
    let p = c.requires.at in
    omega (arith, p.times.ends.most, unit-le _ p.laid.ranges times)

pub invariant_of-parts : goal.invariant_of-parts
invariant_of-parts c =
    let p = c.requires.at in
    let b = reading c.args.book.now in
    let d = c.args.d.0 in
    let s = c.args.sessions in
    let t = c.args.times in
    let leave = block_run c.args.site.settings p.starts b leaves d (d + 1) c.rows-leave.ensures in
    let hotel = block_run c.args.site.settings p.starts b hotel_cells d (d + 1) c.rows-hotel.ensures in
    let stand = block_run c.args.site.settings p.starts b standings s.from.0 s.to.0 c.rows-stand.ensures in
    let attend = block_run c.args.site.settings p.starts b attend_cells s.from.0 s.to.0 c.rows-attend.ensures in
    let conf = block_run c.args.site.settings p.starts b conf_pairs s.from.0 s.to.0 c.rows-conf.ensures in
    let lunch = block_run c.args.site.settings p.starts b lunch_triples d (d + 1) c.rows-lunch.ensures in
    let ride = block_run c.args.site.settings p.starts b ride_cells t.from.0 t.to.0 c.rows-ride.ensures in
    record {
      ranges = p.laid.ranges;
      long = record {
        leaves = leave.long ∙ one-long _ _;
        hotels = hotel.long ∙ one-long _ _;
        stands = stand.long;
        attends = attend.long;
        confs = conf.long;
        lunches = lunch.long ∙ one-long _ _;
        rides = ride.long;
      };
      caps_of = c.requires.caps;
    }

pub returns : goal.returns
returns c =
    let p = c.requires.at in
    let b = reading c.args.book.now in
    let d = c.args.d.0 in
    let s = c.args.sessions in
    let t = c.args.times in
    let leave = block_run c.args.site.settings p.starts b leaves d (d + 1) c.rows-leave.ensures in
    let hotel = block_run c.args.site.settings p.starts b hotel_cells d (d + 1) c.rows-hotel.ensures in
    let stand = block_run c.args.site.settings p.starts b standings s.from.0 s.to.0 c.rows-stand.ensures in
    let attend = block_run c.args.site.settings p.starts b attend_cells s.from.0 s.to.0 c.rows-attend.ensures in
    let conf = block_run c.args.site.settings p.starts b conf_pairs s.from.0 s.to.0 c.rows-conf.ensures in
    let lunch = block_run c.args.site.settings p.starts b lunch_triples d (d + 1) c.rows-lunch.ensures in
    let ride = block_run c.args.site.settings p.starts b ride_cells t.from.0 t.to.0 c.rows-ride.ensures in
    let caps = c.args.caps.now in
    relay c.is_lawful.result (day-kept c.args.site.settings caps b p.laid d p.date p.sessions p.times)
    (kept-day c.args.site.settings caps b p.laid d p.date p.sessions p.times)
    (rw (leave.is, hotel.is, stand.is, attend.is, conf.is, lunch.is, ride.is) at c.is_lawful.ensures)

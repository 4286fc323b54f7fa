-- `removal::erase`: its four parts, one after the other.
-- Assumes nothing.
use mathlib.Core.Path.{refl}
use Prim.Native.Nat.{◌+◌}
use native.Mathlib.Omega.{arith}
use Rattle.model.specs.Words.{leaves, hotel_cells, ride_cells, attend_cells}
use Rattle.book.proofs.Regions.{group-lt}
use Rattle.units.proofs.Slots.{all-sessions}
use Rattle.book.proofs.Turns.{wrote_then}
use Rattle.apply.proofs.Counts.{emptied-few}
use Rattle.apply.proofs.Removals.{erased-by}
use Rattle.apply.proofs.Arms.{span_of, single_of, item_of}
use Rattle.apply.proofs.removal.erase.Goals as goal

pub turn-requires : goal.turn-requires
turn-requires c = record {
  span = span_of c.args.site.settings c.args.site.sited leaves c.requires.laid (λ f l. l) _ c.requires.date_lt_dates;
  v_bound = item_of c.args.site.settings c.args.site.sited leaves (group-lt c.args.site.settings.visitors c.args.v c.requires.v_lt_visitors);
}

pub sweep_run-nights-requires : goal.sweep_run-nights-requires
sweep_run-nights-requires c =
    let q = single_of c.args.site.settings c.args.site.sited hotel_cells c.requires.laid c.turn.ensures.stays refl (c.args.date.0 + 1) (omega arith) in
    record { lies = q.lies; width_value = q.narrow; to_le_slots = q.most }

pub sweep_long-rides-requires : goal.sweep_long-rides-requires
sweep_long-rides-requires c =
    let w = wrote_then c.turn.ensures c.sweep_run-nights.ensures.wrote in
    let q = single_of c.args.site.settings c.args.site.sited ride_cells c.requires.laid w.stays refl _ c.on_dates-times.ensures.ends.most in
    record { lies = q.lies; width_value = q.narrow; to_le_slots = q.most }

pub empty_column-meetings-requires : goal.empty_column-meetings-requires
empty_column-meetings-requires c =
    let w = wrote_then c.turn.ensures (wrote_then c.sweep_run-nights.ensures.wrote c.sweep_long-rides.ensures.wrote) in
    let q = single_of c.args.site.settings c.args.site.sited attend_cells c.requires.laid w.stays refl _ c.on_dates-sessions.ensures.ends.most in
    record {
      lies = q.lies;
      width_value = q.narrow;
      to_le_slots = q.most;
      item_lt_g = item_of c.args.site.settings c.args.site.sited attend_cells c.requires.v_lt_visitors;
    }

pub overflow_add-result-2 : goal.overflow_add-result-2
overflow_add-result-2 c =
    omega (
      arith,
      c.sweep_long-rides.ensures.few,
      c.sweep_run-nights.ensures.few,
      emptied-few c.empty_column-meetings.ensures,
      c.on_dates-sessions.ensures.ends.most,
      all-sessions c.args.site.settings c.requires.laid.ranges,
    )

pub returns : goal.returns
returns c =
    erased-by c.args.site.sited c.on_dates-times.ensures c.on_dates-sessions.ensures c.turn.ensures c.sweep_run-nights.ensures c.sweep_long-rides.ensures
    c.empty_column-meetings.ensures

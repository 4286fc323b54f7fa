-- `sets::erase_conf_and_lunch`: the rows of the sessions, and then the column of the dates.
-- Assumes nothing.
use mathlib.Core.Path.{◌∙◌, ap}
use Prim.Native.Nat.{ℕ, ◌+◌}
use native.Mathlib.Omega.{arith}
use Rattle.model.specs.Kinds.{sessions}
use Rattle.model.specs.Site.{date_of_session}
use Rattle.model.specs.Words.{conf_pairs, lunch_triples}
use Rattle.book.specs.Lent.{reading}
use Rattle.book.specs.Stores.{empty, swept}
use Rattle.units.proofs.Slots.{date-lt}
use Rattle.book.proofs.Turns.{wrote_then}
use Rattle.apply.specs.Stores.{filled}
use Rattle.apply.proofs.Arms.{span_of, slot_of, item_of}
use Rattle.apply.proofs.sets.erase_conf_and_lunch.Goals as goal

pub drop-requires : goal.drop-requires
drop-requires c = record {
  span = span_of c.args.site.settings c.args.site.sited conf_pairs c.requires.laid (λ f l. l) _ (slot_of c.args.site.settings c.args.site.sited conf_pairs c.requires.last_lt_slots);
  who_bound = omega (arith, c.requires.laid.ranges.meetings);
}

pub take-requires : goal.take-requires
take-requires c =
    let q = slot_of c.args.site.settings c.args.site.sited conf_pairs c.requires.last_lt_slots in
    let d = date-lt c.args.site.settings c.requires.laid.ranges sessions c.args.last.0 q in
    record {
      span = span_of c.args.site.settings c.args.site.sited lunch_triples c.requires.laid c.drop.ensures.stays _ (omega (arith, c.date_of-to.ensures));
      item_lt_g = item_of c.args.site.settings c.args.site.sited lunch_triples c.requires.b_lt_meetings;
    }

pub returns : goal.returns
returns c =
    let a = c.args in
    let w = wrote_then c.drop.ensures c.take.ensures in
    let x = swept a.site.grids.conf (a.b + 1) a.first.0 (a.last.0 + 1) (reading a.book.now) in
    record {
      is = w.is
          ∙ ap (λ (d : ℕ). filled a.site.grids.lunch a.b empty d (c.date_of-to.result.0 + 1) x)
          c.date_of-from.ensures
          ∙ ap (λ (d : ℕ). filled a.site.grids.lunch a.b empty (date_of_session a.site.settings a.first.0) (d + 1) x)
          c.date_of-to.ensures;
      stays = w.stays;
    }

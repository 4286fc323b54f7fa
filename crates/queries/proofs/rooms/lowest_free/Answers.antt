-- A run of at most three sessions is its first, its middle and its last; a longer one is looked through.
-- Assumes nothing.
use Rattle.book.specs.Lent.{reading}
use mathlib.Core.Path.{◌∙◌}
use native.Mathlib.Omega.{arith}
use Rattle.queries.proofs.Free.{lowest-soon}
use Rattle.queries.proofs.Found.{middle-within}
use Rattle.queries.proofs.rooms.lowest_free.Goals as goal

pub lowest_soon-requires : goal.lowest_soon-requires
lowest_soon-requires c =
    let m = middle-within c.middle_of-middle.ensures (omega (arith, c.requires.first_le_last)) in
    record {
      first_lt_slots = (
        rw (c.conf-conf.ensures.grid, c.args.diary.site.sited) (omega (arith, c.requires.first_le_last, c.requires.last_bound)),
        rw (c.conf-conf.ensures.grid, c.args.diary.site.sited) (omega (arith, m.1, c.requires.first_le_last, c.requires.last_bound)),
        rw (c.conf-conf.ensures.grid, c.args.diary.site.sited) c.requires.last_bound,
        rw (c.conf-conf.ensures.grid, c.args.diary.site.sited) (omega arith),
      );
    }

pub returns-then-to-from-le2 : goal.returns-then-to-from-le2
returns-then-to-from-le2 c =
    let a = c.args in
    let m = middle-within c.middle_of-middle.ensures (omega (arith, c.requires.first_le_last)) in
    let e = rw (c.conf-conf.ensures.grid, c.conf-conf.ensures.words, c.args.diary.site.sited) at c.lowest_soon.ensures in
    e ∙ lowest-soon a.diary.site.settings (reading a.diary.words.now) c.args.diary.good a.first.0 _ a.last.0 m.0 (omega (arith, m.1, c.requires.first_le_last)) c.requires.last_bound m.2
    (omega (arith, m.3 (omega (arith, c.if-to-from-le2.true))))

-- The meeting stands on each date passed, and the next one begins at `from`.
-- Assumes nothing.
use Rattle.book.specs.Lent.{reading}
use mathlib.Core.Path.{sym, ◌∙◌}
use native.Mathlib.Omega.{arith}
use Rattle.model.proofs.Search.{failing-at, passed-more, none-failing}
use Rattle.book.proofs.Goods.{good-laid}
use Rattle.queries.proofs.Free.{date-bits}
use Rattle.queries.proofs.dates.first_without_session.Goals as goal

pub first_on-from-requires-clause-ranges : goal.first_on-from-requires-clause-ranges
first_on-from-requires-clause-ranges c = (good-laid c.args.diary.good).ranges

pub first_on-to-requires-clause-ranges : goal.first_on-to-requires-clause-ranges
first_on-to-requires-clause-ranges c = (good-laid c.args.diary.good).ranges

pub returns-then-not-member_between : goal.returns-then-not-member_between
returns-then-not-member_between c =
    let e = rw (c.standing.ensures.grid, c.standing.ensures.words, c.args.diary.site.sited) at c.member_between.ensures in
    let to = rw c.after.ensures at c.first_on-to.ensures in
    sym
    (failing-at _ _ c.args.last.0 c.loop-d.d c.loop-d.invariant.0 (omega (arith, c.loop-d-test.true))
    (sym (date-bits c.args.diary.site.settings (reading c.args.diary.words.now) c.args.diary.good c.loop-d.d c.args.meeting _ _ c.loop-d.invariant.1 to c.requires.meeting_lt_meetings)
    ∙ sym e ∙ c.if-not-member_between.true) c.loop-d.invariant.2)

pub loop-d-preserved : goal.loop-d-preserved
loop-d-preserved c =
    let e = rw (c.standing.ensures.grid, c.standing.ensures.words, c.args.diary.site.sited) at c.member_between.ensures in
    let to = rw c.after.ensures at c.first_on-to.ensures in (
      omega arith,
      to,
      passed-more _ _ _ c.loop-d.invariant.2
          (sym (date-bits c.args.diary.site.settings (reading c.args.diary.words.now) c.args.diary.good c.loop-d.d c.args.meeting _ _ c.loop-d.invariant.1 to c.requires.meeting_lt_meetings)
          ∙ sym e ∙ c.if-not-member_between.false),
    )

pub returns : goal.returns
returns c =
    sym (none-failing _ c.args.first.0 c.args.last.0 (λ d l h. c.loop-d.invariant.2 d l (omega (arith, h, c.loop-d-test.false))))

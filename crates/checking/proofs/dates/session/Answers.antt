-- A session by its cells: without entries no table is made.
-- Assumes nothing.
use native.Mathlib.Omega.{arith}
use Rattle.rules.proofs.Answers.{relay, said-true, said-false}
use Rattle.rules.proofs.Barring.{table-less}
use Rattle.checking.proofs.Sessions.{session-by, session-attended, session-paired, session-blank}
use Rattle.checking.proofs.dates.session.Goals as goal

pub returns-then-not-padded : goal.returns-then-not-padded
returns-then-not-padded c = λ s. said-false c.padded.result (c.if-not-padded.true) c.padded.ensures s.pad

pub returns-then-blank-2 : goal.returns-then-blank-2
returns-then-blank-2 c =
    let pad = said-true c.padded.result (c.if-not-padded.false) c.padded.ensures in
    session-blank _ _ _ _ _ _ pad (c.blank.ensures c.if-blank.true) (c.blank-then-blank.ensures c.if-blank-2.true)

pub bar-requires : goal.bar-requires
bar-requires c =
    omega (arith, c.requires.le_meetings.1, c.requires.stand_len.0, c.requires.stands_len)

pub attends-requires : goal.attends-requires
attends-requires c = record {
  row_len_bound = c.requires.stand_len.1;
  by_index = λ j h. omega (arith, c.requires.by_index j h, c.requires.le_meetings.1, c.requires.stands_len, c.bar.auto.table);
}

pub returns-then-attends : goal.returns-then-attends
returns-then-attends c =
    let b = table-less _ _ c.args.meetings _ (omega (arith, c.requires.stand_len.0)) c.bar.ensures in
    let low = c.requires.by_index in
    let pad = said-true c.padded.result (c.if-not-padded.false) c.padded.ensures in
    let att = said-true c.attends.result (c.if-attends.true) c.attends.ensures in
    relay c.pairs.result (session-by _ _ _ _ _ _ _ b low pad att) (session-paired _ _ _ _ _ _ _ b low) c.pairs.ensures

pub returns-else-attends : goal.returns-else-attends
returns-else-attends c =
    let b = table-less _ _ c.args.meetings _ (omega (arith, c.requires.stand_len.0)) c.bar.ensures in
    let no = said-false c.attends.result (c.if-attends.false) c.attends.ensures in
    rw c.if-attends.false (λ s. no (session-attended _ _ _ _ _ _ _ b c.requires.by_index s))

-- A date without entries needs no more than its unused bits asked.
-- Assumes nothing.
use Rattle.rules.proofs.Answers.{said-true, said-false, relay}
use Rattle.checking.proofs.Empties.{day-empty}
use Rattle.checking.proofs.dates.Parts.is_lawful.Goals as goal

pub returns-then-not-padded : goal.returns-then-not-padded
returns-then-not-padded c = λ d. said-false c.padded.result (c.if-not-padded.true) c.padded.ensures d.pad

pub returns-then-is_empty : goal.returns-then-is_empty
returns-then-is_empty c =
    let pad = said-true c.padded.result (c.if-not-padded.false) c.padded.ensures in
    let none = c.is_empty.ensures c.if-is_empty.true in
    relay c.is_padded.result (day-empty _ _ _ _ _ _ _ _ _ _ _ none pad) (λ d p h. (d.met p h).pad) c.is_padded.ensures

pub entries-requires : goal.entries-requires
entries-requires c = said-true c.padded.result (c.if-not-padded.false) c.padded.ensures

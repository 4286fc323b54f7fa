-- The lowest item that is empty in all three slots.
-- Assumes nothing.
use mathlib.Core.Path.{◌≡◌}
use mathlib.Core.Bool.{true, false}
use Rattle.std.proofs.Common.{rules}
use borrow.Author.Tests.{tests}
use Rattle.std.proofs.lemmas.Iterator.{first_from_Range}
use Rattle.book.specs.Lent.{reading}
use Rattle.queries.specs.Shown.{empty_in}
use Rattle.queries.proofs.Ranges.{lowest-found}
use Rattle.queries.proofs.rooms.lowest_soon.Goals as goal

pub returns : goal.returns
returns c =
    let a = c.args in
    let p = empty_in a.g.grid (reading a.g.words.now) a.first a.middle a.last in
    lowest-found p a.items c.find.result
    (first_from_Range _ _ _ c.find.result (λ k. p k ≡ true) (λ k. p k ≡ false) c.find.ensures.ran (λ x q k. search (rules, tests)) (λ x q k. search (rules, tests)))

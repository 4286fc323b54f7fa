-- The sum of the ones of the words.
-- Assumes nothing.
use mathlib.Core.Path.{◌≡◌, ◌∙◌}
use lib.Count.{ones}
use Rattle.std.proofs.Common.{rules}
use Rattle.std.specs.List.{sum_by}
use Rattle.pool.proofs.Counts.{count-words}
use Rattle.pool.proofs.members.Goals as goal

pub returns : goal.returns
returns c =
    let row = c.args.row.now in
    let e : c.sum.result ≡ sum_by ones row = search rules in
    e ∙ count-words row (λ i. (c.type_inv.row i).fits)

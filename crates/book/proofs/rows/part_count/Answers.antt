-- The words that are w, one by one.
-- Assumes nothing.
use mathlib.Core.Path.{◌≡◌, ◌∙◌}
use lib.Dec.{eqb}
use Rattle.std.proofs.Common.{rules}
use Rattle.std.specs.List.{count_by}
use Rattle.book.proofs.RowParts.{part-words}
use Rattle.book.proofs.rows.part_count.Goals as goal

pub returns : goal.returns
returns c =
    let counted : c.sum.result ≡ count_by (λ x. eqb x c.args.w) c.args.row.now = search rules in
    counted ∙ part-words c.args.row.now c.args.w

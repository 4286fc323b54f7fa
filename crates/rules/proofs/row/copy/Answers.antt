-- Up to the limit the entries are the table's, and past it both are barred.
-- Assumes nothing.
use Rattle.std.proofs.Common.{◌+◌, drop, ◌++◌, ap, ◌∙◌}
use Rattle.rules.proofs.Copying.{copied}
use Rattle.rules.proofs.row.copy.Goals as goal

pub returns : goal.returns
returns c =
    ap (λ s. s ++ drop (c.args.limit + 1) c.args.seen.now) c.copy_from_slice.ensures.after
    ∙ copied c.args.table.now c.args.limit c.args.seen.now c.requires.limit_in_bounds.1 c.requires.past c.requires.past_2

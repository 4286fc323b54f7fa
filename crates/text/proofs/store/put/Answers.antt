-- `store::put`: the part of the slice that is written over.
-- Assumes nothing.
use Rattle.std.proofs.Common.{rules}
use Rattle.std.proofs.lemmas.Slice.{overwrites}
use Rattle.text.proofs.store.put.Goals as goal

pub returns : goal.returns
returns c = search (rules, overwrites)

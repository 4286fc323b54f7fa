-- `cells::empty_column`: the slots before i are emptied, and n of their cells were full.
-- Assumes nothing.
use Rattle.std.specs.Prelude.{◌≡◌, ◌+◌}
use Rattle.book.specs.Lent.{reading}
use Rattle.book.specs.Stores.{empty, stored}
use Rattle.book.proofs.Turns.{Turning}
use Rattle.queries.specs.Shown.{column_count}
use Rattle.apply.proofs.cells.empty_column.Given as goal

abbrev pub invariant-loop-i : goal.invariant-loop-i
invariant-loop-i l =
    Turning (λ i. stored l.g empty i l.item) l.from l.to (reading l.initial.book) l.i (reading l.book)
    × (l.n + column_count l.g (reading l.book) l.item l.i l.to ≡ column_count l.g (reading l.initial.book) l.item l.from l.to)

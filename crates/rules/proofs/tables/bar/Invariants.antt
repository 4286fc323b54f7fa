-- The bits passed have their entries.
-- Assumes nothing.
use Prim.Native.Nat.{◌+◌, ◌*◌}
use mathlib.Core.Path.{◌≡◌}
use lib.ListN.{length}
use Rattle.rules.specs.Rows.{Barred}
use Rattle.rules.proofs.tables.bar.Given as goal

abbrev pub invariant-loop-bit : goal.invariant-loop-bit
invariant-loop-bit l = (length l.table ≡ length l.initial.table) × Barred l.row (l.i * 32 + l.bit) l.table

abbrev pub invariant-loop-i : goal.invariant-loop-i
invariant-loop-i l = (length l.table ≡ length l.initial.table) × Barred l.row (l.i * 32) l.table

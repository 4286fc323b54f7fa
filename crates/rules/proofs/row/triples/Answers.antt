-- The triples passed are good, and their seats are added up.
-- Assumes nothing.
use Prim.Native.Nat.{ℕ, ◌+◌, ◌*◌, ◌/◌, ◌<◌}
use mathlib.Core.Path.{◌≡◌}
use mathlib.Core.Bool.{false}
use mathlib.Core.List.{[]}
use native.Mathlib.Omega.{arith}
use lib.ListN.{get_or, length}
use Rattle.rules.proofs.Seating.{sofar-more}
use Rattle.rules.proofs.Cells.{triple-by, triple-is}
use Rattle.rules.proofs.Answers.{either}
use Rattle.rules.proofs.Parts.{part-cell}
use Rattle.rules.proofs.row.triples.Goals as goal

pub returns-then-dining-w : goal.returns-then-dining-w
returns-then-dining-w c =
    let row = c.args.row.now in
    let j = c.loop-m.m in
    let few : j < length row / 3 = omega (arith, c.as_chunks.ensures.front_len) in
    λ l. omega (arith, (l.each j few).range, part-cell 3 (length row / 3) row c.as_chunks.result.0.now c.as_chunks.ensures.front j 0 (j * 3) few (omega arith) (omega arith))

pub returns-then-caps-room : goal.returns-then-caps-room
returns-then-caps-room c =
    let row = c.args.row.now in
    let j = c.loop-m.m in
    let few : j < length row / 3 = omega (arith, c.as_chunks.ensures.front_len) in
    let parts = c.as_chunks.result.0.now in
    let cell : (k at : ℕ) → k < 3 → j * 3 + k ≡ at → get_or (get_or parts j []) k 0 ≡ get_or row at 0
    = λ k at. part-cell 3 (length row / 3) row parts c.as_chunks.ensures.front j k at few in
    let over = rw (cell 0 (j * 3) (omega arith) (omega arith), cell 1 (j * 3 + 1) (omega arith) (omega arith)) at c.if-caps-room.true in
    λ l. omega (arith, over, (l.each j few).fit)

pub returns-then-bad : goal.returns-then-bad
returns-then-bad c =
    let row = c.args.row.now in
    let j = c.loop-m.m in
    let few : j < length row / 3 = omega (arith, c.as_chunks.ensures.front_len) in
    let parts = c.as_chunks.result.0.now in
    let cell : (k at : ℕ) → k < 3 → j * 3 + k ≡ at → get_or (get_or parts j []) k 0 ≡ get_or row at 0
    = λ k at. part-cell 3 (length row / 3) row parts c.as_chunks.ensures.front j k at few in
    let bad = rw (cell 0 (j * 3) (omega arith) (omega arith), cell 1 (j * 3 + 1) (omega arith) (omega arith), cell 2 (j * 3 + 2) (omega arith) (omega arith)) at c.if-bad.true in
    λ l. either _ bad (triple-is _ _ _ _ _ _ (l.each j few))

pub loop-m-preserved : goal.loop-m-preserved
loop-m-preserved c =
    let a = c.args in
    let row = a.row.now in
    let j = c.loop-m.m in
    let few : j < length row / 3 = omega (arith, c.as_chunks.ensures.front_len) in
    let parts = c.as_chunks.result.0.now in
    let cell : (k at : ℕ) → k < 3 → j * 3 + k ≡ at → get_or (get_or parts j []) k 0 ≡ get_or row at 0
    = λ k at. part-cell 3 (length row / 3) row parts c.as_chunks.ensures.front j k at few in
    let w = cell 0 (j * 3) (omega arith) (omega arith) in
    let seats = cell 1 (j * 3 + 1) (omega arith) (omega arith) in
    let info = cell 2 (j * 3 + 2) (omega arith) (omega arith) in
    let fit = rw (w, seats) at c.if-caps-room.false in
    let good = rw (w, seats, info) at c.if-bad.false in
    rw (w, seats)
    (sofar-more row a.dining a.caps.now a.table.now c.loop-m.sums j c.loop-m.invariant (omega (arith, w))
    (omega (arith, fit, c.requires.by_index (get_or row (j * 3) 0)))
    (triple-by a.dining a.caps.now (get_or a.table.now (j + 1) false) (get_or row (j * 3) 0) (get_or row (j * 3 + 1) 0)
    (get_or row (j * 3 + 2) 0) (omega (arith, w)) (omega (arith, fit)) good))

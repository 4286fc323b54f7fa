-- The flag says whether the pairs passed are good.
-- Assumes nothing.
use Prim.Native.Nat.{ℕ, ◌+◌, ◌*◌, ◌/◌, ◌<◌}
use mathlib.Core.Path.{◌≡◌}
use mathlib.Core.List.{[]}
use native.Mathlib.Omega.{arith}
use lib.ListN.{get_or, length}
use Rattle.rules.specs.Rows.{Pair}
use Rattle.rules.proofs.Answers.{more}
use Rattle.rules.proofs.Cells.{pair-said}
use Rattle.rules.proofs.Parts.{part-cell}
use Rattle.rules.proofs.row.pairs.Goals as goal

pub returns-then-limit-w : goal.returns-then-limit-w
returns-then-limit-w c =
    let row = c.args.row.now in
    let j = c.loop-pair.pair-index in
    let few : j < length row / 2 = omega (arith, c.as_chunks.ensures.front_len) in
    λ f. omega (arith, (f j few).range, part-cell 2 (length row / 2) row c.as_chunks.result.0.now c.as_chunks.ensures.front j 0 (j * 2) few (omega arith) (omega arith))

pub loop-pair-preserved : goal.loop-pair-preserved
loop-pair-preserved c =
    let a = c.args in
    let row = a.row.now in
    let j = c.loop-pair.pair-index in
    let few : j < length row / 2 = omega (arith, c.as_chunks.ensures.front_len) in
    let parts = c.as_chunks.result.0.now in
    let cell : (k at : ℕ) → k < 2 → j * 2 + k ≡ at → get_or (get_or parts j []) k 0 ≡ get_or row at 0
    = λ k at. part-cell 2 (length row / 2) row parts c.as_chunks.ensures.front j k at few in
    let w = cell 0 (j * 2) (omega arith) (omega arith) in
    let info = cell 1 (j * 2 + 1) (omega arith) (omega arith) in
    rw (w, info)
    (more (λ k. Pair a.limit a.stands.now (get_or row (k * 2) 0) (get_or row (k * 2 + 1) 0)) j c.loop-pair.bad _ c.loop-pair.invariant
    (pair-said a.limit a.stands.now (get_or row (j * 2) 0) (get_or row (j * 2 + 1) 0) (omega (arith, w))))

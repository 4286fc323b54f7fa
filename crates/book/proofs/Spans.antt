-- A block of a grid lies in the words that the grid lies in.
-- Assumes nothing.
use Prim.Native.Nat.{ℕ, ◌+◌, ◌*◌, ◌-◌, ◌≤◌}
use mathlib.Core.Path.{◌≡◌, ◌∙◌, ap, ap₂}
use mathlib.Core.List.{List}
use native.Mathlib.Nat.{mul_assoc, add-mul, mul-le-mul_right}
use native.Mathlib.Omega.{arith}
use lib.ListN.{length, take, drop, length-drop}
use lib.Seq.{length-take-le}
use Rattle.book.specs.declared.grid.Grid.{Grid}
use Rattle.book.specs.Grids.{Fits}
use Rattle.book.specs.Blocks.{Part, across, block_of}

-- the words from one place to another
pub part_by : (b : List ℕ) (start end from n : ℕ) → start ≡ from → end ≡ from + n → from + n ≤ length b
    → Part (take (end - start) (drop start b)) n (take n (drop from b))
part_by b start end from n e q h =
    let s : end - start ≡ n = omega (arith, e, q) in
    let is = ap₂ (λ (x y : ℕ). take x (drop y b)) s e in
    record { is = is; long = ap length is ∙ length-take-le n (drop from b) (omega (arith, length-drop from b)) }

-- where the words of the first i rows end
pub words-le : (g : Grid) (n : ℕ) → Fits g n → (i : ℕ) → i ≤ g.slots → g.base + i * g.items * g.width ≤ n
words-le g n f i h = omega (arith, mul-le-mul_right g.width (mul-le-mul_right g.items h), f.ends)

pub block-by : (g : Grid) (b : List ℕ) → Fits g (length b) → (from to : ℕ) → from ≤ to → to ≤ g.slots
    → Part (take (g.base + to * g.items * g.width - (g.base + from * g.items * g.width)) (drop (g.base + from * g.items * g.width) b))
    ((to - from) * across g) (block_of g b from to)
block-by g b f from to h l =
    let e : from * g.items * g.width ≡ from * across g = mul_assoc from g.items g.width in
    let q : to * g.items * g.width ≡ to * across g = mul_assoc to g.items g.width in
    let m : to ≡ to - from + from = omega arith in
    let s : to * across g ≡ (to - from) * across g + from * across g = ap (λ (x : ℕ). x * across g) m ∙ add-mul (to - from) from (across g) in
    part_by b (g.base + from * g.items * g.width) (g.base + to * g.items * g.width) (g.base + from * across g) ((to - from) * across g)
    (omega (arith, e)) (omega (arith, q, s)) (omega (arith, q, s, words-le g (length b) f to l))

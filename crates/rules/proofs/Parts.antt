-- Rows of a list, one after the other.
-- Assumes nothing.
use Prim.Native.Nat.{ℕ, zero, suc, ◌+◌, ◌*◌, ◌≤◌, ◌<◌}
use mathlib.Core.Path.{◌≡◌, sym, ◌∙◌, ap}
use mathlib.Core.List.{List, []}
use native.Mathlib.Nat.{zero-mul, suc-mul, mul-le-mul_right}
use native.Mathlib.Numerals.{add-one}
use native.Mathlib.Omega.{arith}
use lib.ListN.{length, get_or, take, drop, length-drop, length-take}
use lib.Seq.{length-take-le}
use Rattle.std.specs.Simd.{first_chunks}
use Rattle.std.proofs.lemmas.List.{get_or-take, get_or-drop, drop-drop}
use Rattle.rules.specs.Rows.{row_at}

-- rows one after the other
pub next_row : (d width : ℕ) → d * width + width ≡ (d + 1) * width
next_row d width = rw (add-one, suc-mul)

pub row_inside : (d n width : ℕ) → d < n → d * width + width ≤ n * width
row_inside d n width h = rw (next_row d width) (mul-le-mul_right width (omega arith))

pub row-long : (width i : ℕ) (cells : List ℕ) → length (row_at width i cells) ≤ width
row-long width i cells = omega (arith, length-take width (drop (i * width) cells))

pub row-long-is : (w p n : ℕ) (cells : List ℕ) → p < n → n * w ≤ length cells → length (row_at w p cells) ≡ w
row-long-is w p n cells h l = length-take-le w (drop (p * w) cells) (omega (arith, length-drop (p * w) cells, row_inside p n w h))

-- cell j of part i of a row that is cut into k parts of n words
part-at : (n k : ℕ) (row : List ℕ) (i : ℕ) → i < k → get_or (first_chunks n k row) i [] ≡ row_at n i row
part-at n zero row i h = absurd (omega arith)
part-at n (suc k) row zero h = ap (λ (m : ℕ). take n (drop m row)) (sym (zero-mul n))
part-at n (suc k) row (suc i) h =
    part-at n k (drop n row) i (omega arith)
    ∙ ap (take n) (drop-drop (i * n) n row ∙ ap (λ (m : ℕ). drop m row) (rw suc-mul (omega arith)))

pub part-cell : (n k : ℕ) (row : List ℕ) (parts : List (List ℕ)) → parts ≡ first_chunks n k row → (i j at : ℕ) → i < k → j < n → i * n + j ≡ at
    → get_or (get_or parts i []) j 0 ≡ get_or row at 0
part-cell n k row parts e i j at h l q =
    ap (λ (ps : List (List ℕ)). get_or (get_or ps i []) j 0) e
    ∙ ap (λ (p : List ℕ). get_or p j 0) (part-at n k row i h)
    ∙ get_or-take n (drop (i * n) row) j 0 l ∙ get_or-drop (i * n) row j 0 ∙ ap (λ (m : ℕ). get_or row m 0) q

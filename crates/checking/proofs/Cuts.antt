-- Rows that come one after the other, as `chunks_exact` cuts them: which row comes, and what is left behind it.
-- Assumes nothing.
use Prim.Native.Nat.{ℕ, ◌+◌, ◌*◌, ◌≤◌, ◌<◌}
use mathlib.Core.Path.{◌≡◌, refl, sym, ◌∙◌, ap, ap₂}
use mathlib.Core.Bool.{Bool, true, false}
use mathlib.Core.List.{List, ◌++◌}
use native.Mathlib.Nat.{zero-mul, mul-le-mul_right}
use native.Mathlib.Omega.{arith}
use lib.Dec.{ltb}
use lib.ListN.{length, take, drop, length-drop}
use borrow.Author.Tests.{ltb-true, ltb-false}
use Rattle.std.proofs.Math.Seq.{take-append_seam, drop-append_seam}
use Rattle.std.proofs.lemmas.List.{length-append, drop-drop}
use Rattle.rules.specs.Rows.{row_at}
use Rattle.rules.proofs.Parts.{next_row, row_inside}

-- k rows of w words have come: the size that the iterator cuts, and what it has left
pub record Cut (w k : ℕ) (cells : List ℕ) (size : ℕ) (left : List ℕ) : Type 0 where
  pub wide : size ≡ w
  pub rest : left ≡ drop (k * w) cells

pub cut-first : (w : ℕ) (cells : List ℕ) {size : ℕ} {left : List ℕ} → size ≡ w → left ≡ cells → Cut w 0 cells size left
cut-first w cells s r = record { wide = s; rest = r ∙ ap (λ (m : ℕ). drop m cells) (sym (zero-mul w)) }

module _ {w k : ℕ} {cells : List ℕ} {size : ℕ} {left : List ℕ} (c : Cut w k cells size left) where
  -- another row comes
  module _ (row more : List ℕ) (e : left ≡ row ++ more) (l : length row ≡ size) where
    pub cut-row : row ≡ row_at w k cells
    cut-row = sym (take-append_seam row more) ∙ ap₂ (λ (m : ℕ) (r : List ℕ). take m r) (l ∙ c.wide) (sym e ∙ c.rest)

    pub cut-next : {again : ℕ} → again ≡ size → Cut w (k + 1) cells again more
    cut-next q = record {
      wide = q ∙ c.wide;
      rest = sym (drop-append_seam row more) ∙ ap₂ (λ (m : ℕ) (r : List ℕ). drop m r) (l ∙ c.wide) (sym e ∙ c.rest)
          ∙ drop-drop w (k * w) cells ∙ ap (λ (m : ℕ). drop m cells) (omega (arith, next_row k w));
    }

    pub cut-inside : (n : ℕ) → length cells ≡ n * w → 0 < w → k < n
    cut-inside n h p = go (ltb k n) refl
      where
        go : (b : Bool) → ltb k n ≡ b → k < n
        go true q = ltb-true k n q
        go false q =
            let over : n * w ≤ k * w = mul-le-mul_right w (ltb-false k n q) in
            absurd (omega (arith, over, h, p, l, c.wide, ap length (sym e ∙ c.rest), length-append row more, length-drop (k * w) cells))

  -- no row comes
  pub cut-all : (n : ℕ) → length cells ≡ n * w → length left < size → n ≤ k
  cut-all n h s = go (ltb k n) refl
    where
      go : (b : Bool) → ltb k n ≡ b → n ≤ k
      go false q = ltb-false k n q
      go true q = absurd (omega (arith, row_inside k n w (ltb-true k n q), h, s, c.wide, ap length c.rest, length-drop (k * w) cells))

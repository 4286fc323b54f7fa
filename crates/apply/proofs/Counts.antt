-- Entries counted as they are erased: a column of cells slot by slot, and a region whose cells a write elsewhere leaves.
-- Assumes nothing.
use Prim.Native.Nat.{ℕ, suc, ◌+◌, ◌*◌, ◌-◌, ◌≤◌, ◌<◌}
use mathlib.Core.Path.{◌≡◌, refl, sym, ◌∙◌, ap}
use mathlib.Core.Bool.{Bool, true, false, not}
use mathlib.Core.List.{List}
use native.Mathlib.Nat.{add-mul, mul-one, mul-le-mul_right}
use native.Mathlib.Omega.{arith}
use mir.Val.{bool_byte}
use lib.Dec.{eqb}
use lib.ListN.{get_or}
use lib.Seq.{get_or-set_other}
use Rattle.model.specs.declared.Settings.{Settings}
use Rattle.model.specs.Bounded.{one, sum_from}
use Rattle.model.specs.Words.{Region, slots, items, address}
use Rattle.model.specs.Reading.{at}
use Rattle.model.proofs.Sums.{sum-agree}
use Rattle.book.specs.declared.grid.Grid.{Grid}
use Rattle.book.specs.Grids.{place, cell_at, grid_of}
use Rattle.book.specs.Rows.{row_count, rows_count}
use Rattle.book.specs.Stores.{empty, puts, stored}
use Rattle.book.proofs.Counts.{count-le, count_same}
use Rattle.book.proofs.Regions.{width-le}
use Rattle.book.proofs.Sweeps.{first-put}
use Rattle.queries.specs.Shown.{column_count}
use Rattle.apply.specs.Stores.{Emptied}
use Rattle.apply.proofs.Writes.{index, Writes}

pub column-few : (g : Grid) (b : List ℕ) (j lo hi : ℕ) → column_count g b j lo hi ≤ hi - lo
unfolding column_count
column-few g b j lo hi = count-le (λ i. not (eqb (cell_at g b i j) 0)) lo (hi - lo)

pub emptied-few : {g : Grid} {j from to : ℕ} {b c : List ℕ} {r : ℕ} → Emptied g j from to b c r → r ≤ to - from
emptied-few {g} {j} {from} {to} {b} e = omega (arith, e.count, column-few g b j from to)

pub column-none : (g : Grid) (b : List ℕ) (j lo hi : ℕ) → hi ≤ lo → column_count g b j lo hi ≡ 0
column-none g b j lo hi h = omega (arith, column-few g b j lo hi, h)

-- a column of one_word cells, emptied from slot i on
module _ (g : Grid) (one_word : g.width ≡ 1) (j : ℕ) (hj : j < g.items) where
  single : (n : ℕ) → n * g.width ≡ n
  single n = ap (λ (w : ℕ). n * w) one_word ∙ mul-one n

  apart : (i k : ℕ) → i < k → place g i j 0 < place g k j 0
  apart i k h =
      let l : (1 + i) * g.items ≤ k * g.items = mul-le-mul_right g.items (omega arith) in
      omega (arith, single (i * g.items + j), single (k * g.items + j), add-mul 1 i g.items, l)

  later-cell : (i k : ℕ) (b : List ℕ) → i < k → cell_at g (stored g empty i j b) k j ≡ cell_at g b k j
  unfolding stored cell_at
  later-cell i k b h =
      ap (λ (m : ℕ). get_or (puts empty (place g i j 0) m b) (place g k j 0) 0) one_word
      ∙ ap (λ (b : List ℕ). get_or b (place g k j 0) 0) (first-put empty (place g i j 0) b)
      ∙ get_or-set_other b (place g i j 0) (place g k j 0) 0 0 (λ e. omega (arith, e, apart i k h))

  -- slot i emptied: n, made of the test on its word w, is 1 if it was full, and else 0
  pub column-next : (i to : ℕ) (b : List ℕ) → i < to → {w n : ℕ} → n ≡ bool_byte (not (eqb w 0)) → w ≡ cell_at g b i j
      → n + column_count g (stored g empty i j b) j (i + 1) to ≡ column_count g b j i to
  unfolding column_count
  column-next i to b h {w} p q =
      let e : suc i ≡ i + 1 = omega arith in
      let m : to - i ≡ suc (to - (i + 1)) = omega arith in
      ap (λ (k : ℕ). k + sum_from (λ k. one (not (eqb (cell_at g (stored g empty i j b) k j) 0))) (i + 1) (to - (i + 1)))
      (p ∙ byte_one (not (eqb w 0)) ∙ ap (λ (w : ℕ). one (not (eqb w 0))) q)
      ∙ ap (λ (k : ℕ). full i + k)
      (sum-agree (λ k. one (not (eqb (cell_at g (stored g empty i j b) k j) 0))) full (i + 1) (to - (i + 1))
      (λ k l _. ap (λ (w : ℕ). one (not (eqb w 0))) (later-cell i k b (omega arith))))
      ∙ ap (λ (k : ℕ). full i + sum_from full k (to - (i + 1))) (sym e)
      ∙ sym (ap (sum_from full i) m)
    where
      full : ℕ → ℕ
      full k = one (not (eqb (cell_at g b k j) 0))

      byte_one : (t : Bool) → bool_byte t ≡ one t
      byte_one true = refl
      byte_one false = refl

-- from b to c the cells of region h stay
pub record Kept (S : Settings) (h : Region) (b c : List ℕ) : Type 0 where
  pub cell : (i j : ℕ) → i < slots S h → j < items S h → cell_at (grid_of S h) c i j ≡ cell_at (grid_of S h) b i j

module _ {S : Settings} {h : Region} {b c : List ℕ} where
  pub kept_by : {g : Region} {d : ℕ → ℕ → Bool} {f : ℕ → ℕ → ℕ → ℕ} {F : List ℕ → List ℕ} → Writes S g d f F → eqb (index h) (index g) ≡ false
      → c ≡ F b → Kept S h b c
  unfolding cell_at address
  kept_by w e q =
      record {
        cell = λ i j a k. ap (λ (c : List ℕ). at S c h i j 0) q ∙ w.other b h i j 0 (record { slot = a; item = k; word = (width-le h).0 }) (rw e);
      }

  pub rows-kept : Kept S h b c → (w lo hi : ℕ) → hi ≤ slots S h → rows_count (grid_of S h) c w lo hi ≡ rows_count (grid_of S h) b w lo hi
  unfolding rows_count row_count
  rows-kept k w lo hi l =
      sum-agree (λ i. row_count (grid_of S h) c i w) (λ i. row_count (grid_of S h) b i w) lo (hi - lo)
      (λ i p q. count_same (λ j. eqb (cell_at (grid_of S h) c i j) w) (λ j. eqb (cell_at (grid_of S h) b i j) w) (items S h)
      (λ j r. ap (λ (v : ℕ). eqb v w) (k.cell i j (omega arith) r)))

  pub column-kept : Kept S h b c → (j lo hi : ℕ) → j < items S h → hi ≤ slots S h
      → column_count (grid_of S h) c j lo hi ≡ column_count (grid_of S h) b j lo hi
  unfolding column_count
  column-kept k j lo hi hj l =
      sum-agree (λ i. one (not (eqb (cell_at (grid_of S h) c i j) 0))) (λ i. one (not (eqb (cell_at (grid_of S h) b i j) 0))) lo (hi - lo)
      (λ i p q. ap (λ (v : ℕ). one (not (eqb v 0))) (k.cell i j (omega arith) hj))

pub kept_then : {S : Settings} {h : Region} {b c d : List ℕ} → Kept S h b c → Kept S h c d → Kept S h b d
kept_then k l = record { cell = λ i j a r. l.cell i j a r ∙ k.cell i j a r }

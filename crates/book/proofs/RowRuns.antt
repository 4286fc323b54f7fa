-- Rows of one-word cells stand one behind the other: a run of them is one part of the book, and their counts are its count.
-- Assumes nothing.
use Prim.Native.Nat.{ℕ, zero, suc, ◌+◌, ◌*◌, ◌/◌, ◌%◌, ◌-◌, ◌≤◌, ◌<◌}
use mathlib.Core.Path.{◌≡◌, sym, ◌∙◌, ap, ap₂}
use mathlib.Core.Bool.{Bool}
use mathlib.Core.List.{List}
use native.Mathlib.Nat.{mul-one, mul_assoc, mul-le-mul_right}
use native.Mathlib.Omega.{arith}
use lib.Dec.{eqb}
use lib.ListN.{length, get_or, take, drop, length-take, length-drop}
use lib.Seq.{get_or-drop, get_or-take}
use Rattle.model.specs.Bounded.{one, bit, sum_from, count}
use Rattle.model.proofs.Sums.{sum-agree, sum-split}
use Rattle.pool.specs.Pool.{member}
use Rattle.pool.proofs.Counts.{sum-shift}
use Rattle.book.specs.declared.grid.Grid.{Grid}
use Rattle.book.specs.Grids.{place, cell_at}
use Rattle.book.specs.Blocks.{Part, across, block_of}
use Rattle.book.specs.Lent.{Lies}
use Rattle.book.specs.Rows.{part_count, row_count, rows_count, row_members}
use Rattle.book.proofs.Counts.{count_same}

-- the same terms by other numbers
sum-on : (f : ℕ → ℕ) (a i n : ℕ) → sum_from (λ j. f (a + j)) i n ≡ sum_from f (a + i) n
sum-on f a i n = sum-shift (λ j. f (a + j)) f i (a + i) n (λ t h. ap f (omega arith))

-- blocks of m terms, one behind the other
sum-blocks : (f : ℕ → ℕ) (m lo n : ℕ) → sum_from (λ i. sum_from (λ j. f (i * m + j)) 0 m) lo n ≡ sum_from f (lo * m) (n * m)
sum-blocks f m lo zero = let e : zero * m ≡ 0 = omega arith in sym (ap (sum_from f (lo * m)) e)
sum-blocks f m lo (suc n) =
    let z : lo * m + 0 ≡ lo * m = omega arith in
    let s : suc lo * m ≡ lo * m + m = omega arith in
    let t : suc n * m ≡ m + n * m = omega arith in
    ap₂ ◌+◌ (sum-on f (lo * m) 0 m ∙ ap (λ (k : ℕ). sum_from f k m) z) (sum-blocks f m (suc lo) n ∙ ap (λ (k : ℕ). sum_from f k (n * m)) s)
    ∙ sym (sum-split f (lo * m) m (n * m))
    ∙ sym (ap (sum_from f (lo * m)) t)

-- the words of a block are few enough to be counted
pub block-few : (g : Grid) (b : List ℕ) (lo hi : ℕ) → Lies g b → hi ≤ g.slots → (hi - lo) * across g ≤ 1000000000
unfolding Lies
block-few g b lo hi f h =
    let a : (hi - lo) * across g ≤ g.slots * across g = mul-le-mul_right (across g) (omega (arith, h)) in
    omega (arith, a, mul_assoc g.slots g.items g.width, f.ends, f.small)

-- cells of one word stand one behind the other, and so do their rows
module _ (g : Grid) (e : g.width ≡ 1) where
  place_at : (i j : ℕ) → place g i j 0 ≡ g.base + (i * g.items + j)
  place_at i j = ap (λ (v : ℕ). g.base + ((i * g.items + j) * v + 0)) e ∙ omega (arith, mul-one (i * g.items + j))

  pub rows_words : (b : List ℕ) (w lo hi : ℕ)
      → sum_from (λ n. one (eqb (get_or b n 0) w)) (g.base + lo * g.items) ((hi - lo) * g.items) ≡ rows_count g b w lo hi
  unfolding rows_count row_count cell_at
  rows_words b w lo hi =
      sym (sum-on (λ n. one (eqb (get_or b n 0) w)) g.base (lo * g.items) ((hi - lo) * g.items))
      ∙ sym (sum-blocks f g.items lo (hi - lo))
      ∙ sum-agree (λ i. sum_from (λ j. f (i * g.items + j)) 0 g.items) (λ i. count (λ j. eqb (get_or b (place g i j 0) 0) w) g.items) lo (hi - lo)
      (λ i s t. count_same (λ j. eqb (get_or b (g.base + (i * g.items + j)) 0) w) (λ j. eqb (get_or b (place g i j 0) 0) w) g.items
      (λ j u. ap (λ (n : ℕ). eqb (get_or b n 0) w) (sym (place_at i j))))
    where
      f : ℕ → ℕ
      f n = one (eqb (get_or b (g.base + n) 0) w)

-- a block of one-word cells
module _ (g : Grid) (lo hi : ℕ) (e : g.width ≡ 1) (b row : List ℕ) (p : Part row ((hi - lo) * across g) (block_of g b lo hi)) where
  narrow : across g ≡ g.items
  narrow = ap (λ (w : ℕ). g.items * w) e ∙ mul-one g.items

  pub part-long : length row ≡ (hi - lo) * g.items
  part-long = p.long ∙ ap (λ (n : ℕ). (hi - lo) * n) narrow

  part_at : (j : ℕ) → j < (hi - lo) * g.items → get_or row j 0 ≡ get_or b (g.base + lo * g.items + j) 0
  part_at j h =
      ap (λ (r : List ℕ). get_or r j 0) p.is
      ∙ get_or-take ((hi - lo) * across g) (drop (g.base + lo * across g) b) j 0 (omega (arith, h, ap (λ (n : ℕ). (hi - lo) * n) narrow))
      ∙ get_or-drop (g.base + lo * across g) b j 0
      ∙ ap (λ (n : ℕ). get_or b n 0) (omega (arith, ap (λ (n : ℕ). lo * n) narrow))

  pub part-counts : (w : ℕ) → part_count row w ≡ rows_count g b w lo hi
  unfolding part_count
  part-counts w =
      ap (count (λ j. eqb (get_or row j 0) w)) part-long
      ∙ count_same (λ j. eqb (get_or row j 0) w) (λ j. eqb (get_or b (start + j) 0) w) ((hi - lo) * g.items)
      (λ j t. ap (λ (v : ℕ). eqb v w) (part_at j t))
      ∙ sum-on (λ n. one (eqb (get_or b n 0) w)) start 0 ((hi - lo) * g.items)
      ∙ ap (λ (n : ℕ). sum_from (λ n. one (eqb (get_or b n 0) w)) n ((hi - lo) * g.items)) (let z : start + 0 ≡ start = omega arith in z)
      ∙ rows_words g e b w lo hi
    where
      start : ℕ
      start = g.base + lo * g.items

  -- one row of a pool
  pub part-members : hi ≡ lo + 1 → count (member row) (length row * 32) ≡ row_members g b lo
  unfolding row_members cell_at
  part-members h =
      let n : hi - lo ≡ 1 = omega arith in
      let m : length row ≡ g.items = part-long ∙ ap (λ (n : ℕ). n * g.items) n ∙ omega arith in
      ap (λ (n : ℕ). count (member row) (n * 32)) m
      ∙ count_same (member row) (λ v. bit (get_or b (place g lo (v / 32) 0) 0) (v % 32)) (g.items * 32)
      (λ v t. ap (λ (w : ℕ). bit w (v % 32))
      (part_at (v / 32) (omega (arith, part-long, m, t))
      ∙ ap (λ (n : ℕ). get_or b n 0) (omega (arith, place_at g e lo (v / 32)))))

-- one row
pub one-row : (g : Grid) (b : List ℕ) (w i : ℕ) → rows_count g b w i (i + 1) ≡ row_count g b i w
unfolding rows_count
one-row g b w i = let e : i + 1 - i ≡ 1 = omega arith in ap (sum_from (λ i. row_count g b i w) i) e ∙ omega arith

-- the count of a list of words, part by part
module _ (row : List ℕ) (w : ℕ) where
  abbrev pub here : ℕ → Bool
  here j = eqb (get_or row j 0) w

  pub part-from : (i n : ℕ) → i + n ≤ length row → part_count (take n (drop i row)) w ≡ sum_from (λ j. one (here j)) i n
  unfolding part_count
  part-from i n h =
      let m : length (take n (drop i row)) ≡ n = omega (arith, length-take n (drop i row), length-drop i row) in
      ap (count (λ j. eqb (get_or (take n (drop i row)) j 0) w)) m
      ∙ count_same (λ j. eqb (get_or (take n (drop i row)) j 0) w) (λ j. here (i + j)) n
      (λ j t. ap (λ (v : ℕ). eqb v w) (get_or-take n (drop i row) j 0 t ∙ get_or-drop i row j 0))
      ∙ sum-on (λ j. one (here j)) i 0 n
      ∙ ap (λ (k : ℕ). sum_from (λ j. one (here j)) k n) (let z : i + 0 ≡ i = omega arith in z)

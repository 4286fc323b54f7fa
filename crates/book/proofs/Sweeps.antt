-- The words of a cell, and rows of one_word cells as one run of words.
-- Assumes nothing.
use Prim.Native.Nat.{ℕ, zero, suc, ◌+◌, ◌*◌, ◌-◌, ◌≤◌, ◌<◌, min}
use mathlib.Core.Path.{◌≡◌, refl, sym, ◌∙◌, ap, ap₂}
use mathlib.Core.Bool.{Bool, true, false, not, cond}
use mathlib.Core.List.{List}
use native.Mathlib.Nat.{add-mul, mul-one}
use native.Mathlib.Omega.{arith}
use lib.Dec.{eqb}
use lib.ListN.{length, set, get_or, take, drop, length-set, length-take, length-drop}
use lib.Seq.{set-get_or, get_or-set_other, get_or-drop, get_or-take}
use Rattle.model.specs.Bounded.{one, sum_from}
use Rattle.model.proofs.Search.{any_false}
use Rattle.model.proofs.Sums.{sum-agree, sum-split}
use Rattle.book.specs.declared.grid.Grid.{Grid}
use Rattle.book.specs.declared.puts.Content.{Content}
use Rattle.book.specs.Grids.{place, cell_at}
use Rattle.book.specs.Lent.{Lies}
use Rattle.book.specs.Rows.{part_count, words_count, row_count, rows_count}
use Rattle.book.specs.Stores.{Stretch, Swept, Cleared, times, over, word_in, empty, puts, stored, cleared, swept_row, swept, zeroed}
use Rattle.book.proofs.Counts.{any-count, count-le}
use Rattle.book.proofs.RowRuns.{part-from, rows_words}
use Rattle.book.proofs.Turns.{times_none, times-add, times-from, times_long, over-end, over-split, over-low, wrote_by}

-- the first word of a cell
pub first-put : (c : Content) (n : ℕ) (b : List ℕ) → puts c n 1 b ≡ set b n c.entry
first-put c n b = let e : n + 0 ≡ n = omega arith in ap (λ (m : ℕ). set b m c.entry) e

-- stores change no length
pub length-puts : (c : Content) (n m : ℕ) (b : List ℕ) → length (puts c n m b) ≡ length b
length-puts c n zero b = refl
length-puts c n (suc m) b = length-set (puts c n m b) (n + m) (word_in c m) ∙ length-puts c n m b

pub length-stored : (g : Grid) (c : Content) (i j : ℕ) (b : List ℕ) → length (stored g c i j b) ≡ length b
unfolding stored
length-stored g c i j b = length-puts c (place g i j 0) g.width b

pub length-cleared : (g : Grid) (w i j : ℕ) (b : List ℕ) → length (cleared g w i j b) ≡ length b
unfolding cleared
length-cleared g w i j b = go (eqb (cell_at g b i j) w)
  where
    go : (t : Bool) → length (cond t (stored g empty i j b) b) ≡ length b
    go true = length-stored g empty i j b
    go false = refl

pub length-zeroed : (w n m : ℕ) (b : List ℕ) → length (times (zeroed w) n m b) ≡ length b
unfolding zeroed
length-zeroed w n m b = times_long (zeroed w) (λ i b. length-set b i (cond (eqb (get_or b i 0) w) 0 (get_or b i 0))) n m b

-- a run of words without w
pub run-kept : (w n m : ℕ) (b : List ℕ) → n ≤ m → m ≤ length b → part_count (take (m - n) (drop n b)) w ≡ 0 → over (zeroed w) n m b ≡ b
unfolding part_count zeroed
run-kept w n m b l h z = times_none (zeroed w) n (m - n) b (λ j a k. word_kept j (other j a k))
  where
    part : List ℕ
    part = take (m - n) (drop n b)

    long : length part ≡ m - n
    long = omega (arith, length-take (m - n) (drop n b), length-drop n b)

    word_kept : (j : ℕ) → eqb (get_or b j 0) w ≡ false → set b j (cond (eqb (get_or b j 0) w) 0 (get_or b j 0)) ≡ b
    word_kept j e = rw e (set-get_or b j 0)

    other : (j : ℕ) → n ≤ j → j < n + (m - n) → eqb (get_or b j 0) w ≡ false
    other j a k =
        let e : n + (j - n) ≡ j = omega arith in
        let r : j - n < m - n = omega arith in
        let q : j - n < length part = omega (arith, long) in
        ap (λ (v : ℕ). eqb v w) (sym (get_or-take (m - n) (drop n b) (j - n) 0 r ∙ get_or-drop n b (j - n) 0 ∙ ap (λ (i : ℕ). get_or b i 0) e))
        ∙ any_false (λ j. eqb (get_or part j 0) w) (length part)
        (any-count (λ j. eqb (get_or part j 0) w) (length part) ∙ ap (λ (n : ℕ). not (eqb n 0)) z) (j - n) q

-- the words behind a run stay, and so do those before it
pub run-later : (w n m j : ℕ) (b : List ℕ) → n + m ≤ j → get_or (times (zeroed w) n m b) j 0 ≡ get_or b j 0
unfolding zeroed
run-later w n zero j b h = refl
run-later w n (suc m) j b h =
    run-later w (suc n) m j (zeroed w n b) (omega arith) ∙ get_or-set_other b n j (cond (eqb (get_or b n 0) w) 0 (get_or b n 0)) 0 (λ e. omega (arith, e))

pub run-earlier : (w n m j : ℕ) (b : List ℕ) → j < n → get_or (times (zeroed w) n m b) j 0 ≡ get_or b j 0
unfolding zeroed
run-earlier w n zero j b h = refl
run-earlier w n (suc m) j b h =
    run-earlier w (suc n) m j (zeroed w n b) (omega arith) ∙ get_or-set_other b n j (cond (eqb (get_or b n 0) w) 0 (get_or b n 0)) 0 (λ e. omega (arith, e))

-- words that are the same are counted the same
pub count-agree : (b c : List ℕ) (w n m : ℕ) → ((j : ℕ) → n ≤ j → j < m → get_or c j 0 ≡ get_or b j 0) → words_count c w n m ≡ words_count b w n m
unfolding words_count
count-agree b c w n m h =
    sum-agree (λ j. one (eqb (get_or c j 0) w)) (λ j. one (eqb (get_or b j 0) w)) n (m - n)
    (λ j l k. ap (λ (v : ℕ). one (eqb v w)) (h j l (omega arith)))

-- a run cleared with a count: none of it, a block of it, and one part after another
pub cleared-none : (w n : ℕ) (b : List ℕ) → Cleared w n n b b 0
unfolding words_count
cleared-none w n b =
    let z : n - n ≡ 0 = omega arith in
    record { is = sym (over-end (zeroed w) n n b (omega arith)); count = sym (ap (sum_from (λ j. one (eqb (get_or b j 0) w)) n) z) }

pub cleared-block : (w n m : ℕ) (b c : List ℕ) (r : ℕ) → n ≤ m → m ≤ length b → c ≡ over (zeroed w) n m b
    → r ≡ part_count (take (m - n) (drop n b)) w → Cleared w n m b c r
unfolding words_count
cleared-block w n m b c r l h e k = record { is = e; count = k ∙ part-from b w n (m - n) (omega arith) }

pub cleared-then : {w n m k : ℕ} {b c d : List ℕ} {r q : ℕ} → n ≤ m → m ≤ k → Cleared w n m b c r → Cleared w m k c d q → Cleared w n k b d (r + q)
unfolding words_count
cleared-then {w} {n} {m} {k} {b} {c} {d} {r} {q} l h e f =
    let len : k - n ≡ (m - n) + (k - m) = omega arith in
    let mid : n + (m - n) ≡ m = omega arith in
    record {
      is = f.is ∙ ap (over (zeroed w) m k) e.is ∙ sym (over-split (zeroed w) n m k b l h);
      count = ap₂ ◌+◌ e.count (f.count
          ∙ count-agree b c w m k (λ j a _. ap (λ (c : List ℕ). get_or c j 0) e.is ∙ run-later w n (m - n) j b (omega arith)))
          ∙ ap (λ (i : ℕ). sum_from here n (m - n) + sum_from here i (k - m)) (sym mid)
          ∙ sym (sum-split here n (m - n) (k - m))
          ∙ sym (ap (sum_from here n) len);
    }
  where
    here : ℕ → ℕ
    here j = one (eqb (get_or b j 0) w)

pub cleared-few : {w n m : ℕ} {b c : List ℕ} {r : ℕ} → Cleared w n m b c r → r ≤ m - n
unfolding words_count
cleared-few {w} {n} {m} {b} e = omega (arith, e.count, count-le (λ j. eqb (get_or b j 0) w) n (m - n))

module _ (g : Grid) (one_word : g.width ≡ 1) where
  single : (n : ℕ) → n * g.width ≡ n
  single n = ap (λ (w : ℕ). n * w) one_word ∙ mul-one n

  -- cells of one word stand one behind the other, and so do their rows
  next-cell : (i j : ℕ) → place g i j 0 ≡ place g i 0 0 + j
  next-cell i j = omega (arith, single (i * g.items + j), single (i * g.items + 0))

  next_row : (i : ℕ) → place g i 0 0 + g.items ≡ place g (suc i) 0 0
  next_row i = omega (arith, single (suc i * g.items + 0), single (i * g.items + 0), add-mul 1 i g.items)

  -- a cell of one word emptied without a branch
  cleared-word : (w i j : ℕ) (b : List ℕ) → cleared g w i j b ≡ zeroed w (place g i 0 0 + j) b
  unfolding cleared stored cell_at zeroed
  cleared-word w i j b = go (eqb (get_or b (place g i j 0) 0) w) ∙ ap (λ (n : ℕ). set b n (cond (eqb (get_or b n 0) w) 0 (get_or b n 0))) (next-cell i j)
    where
      go : (t : Bool) → cond t (puts empty (place g i j 0) g.width b) b ≡ set b (place g i j 0) (cond t 0 (get_or b (place g i j 0) 0))
      go true = ap (λ (m : ℕ). puts empty (place g i j 0) m b) one_word ∙ first-put empty (place g i j 0) b
      go false = sym (set-get_or b (place g i j 0) 0)

  -- rows of them as one run of words
  row-run : (w i : ℕ) (b : List ℕ) → swept_row g w i b ≡ times (zeroed w) (place g i 0 0) g.items b
  unfolding swept_row
  row-run w i b =
      let n : g.items - 0 ≡ g.items = omega arith in
      let z : place g i 0 0 + 0 ≡ place g i 0 0 = omega arith in
      ap (λ (k : ℕ). times (λ j. cleared g w i j) 0 k b) n
      ∙ times-from (λ j. cleared g w i j) (zeroed w) (place g i 0 0) 0 g.items b (λ j b. cleared-word w i j b)
      ∙ ap (λ (n : ℕ). times (zeroed w) n g.items b) z

  rows_run : (w from n : ℕ) (b : List ℕ) → times (λ i. swept_row g w i) from n b ≡ times (zeroed w) (place g from 0 0) (n * g.items) b
  rows_run w from zero b = let z : 0 ≡ 0 * g.items = omega arith in ap (λ (k : ℕ). times (zeroed w) (place g from 0 0) k b) z
  rows_run w from (suc n) b =
      let z : g.items + n * g.items ≡ suc n * g.items = omega (arith, add-mul 1 n g.items) in
      rows_run w (suc from) n (swept_row g w from b)
      ∙ ap (λ (k : ℕ). times (zeroed w) k (n * g.items) (swept_row g w from b)) (sym (next_row from))
      ∙ ap (times (zeroed w) (place g from 0 0 + g.items) (n * g.items)) (row-run w from b)
      ∙ sym (times-add (zeroed w) (place g from 0 0) g.items (n * g.items) b)
      ∙ ap (λ (k : ℕ). times (zeroed w) (place g from 0 0) k b) z

  -- the rows from `from` to before `to` are the words from `start` to before `end`
  run_long : (from to start end : ℕ) → Stretch g from to start end → from ≤ to → end - start ≡ (to - from) * g.items
  run_long from to start end x l =
      let k : from + (to - from) ≡ to = omega arith in
      let e : from * g.items + (to - from) * g.items ≡ to * g.items = sym (add-mul from (to - from) g.items) ∙ ap (λ (n : ℕ). n * g.items) k in
      omega (arith, x.from, x.to, e)

  pub run_is : (from to start end : ℕ) → Stretch g from to start end → from ≤ to → (w : ℕ) (b : List ℕ) → over (zeroed w) start end b
      ≡ swept g w from to b
  unfolding swept
  run_is from to start end x l w b =
      let n = run_long from to start end x l in
      let p : start ≡ place g from 0 0 = omega (arith, x.from, single (from * g.items + 0)) in
      ap (λ (n : ℕ). times (zeroed w) start n b) n
      ∙ ap (λ (r : ℕ). times (zeroed w) r ((to - from) * g.items) b) p
      ∙ sym (rows_run w from (to - from) b)

  pub run-count : (from to start end : ℕ) → Stretch g from to start end → from ≤ to → (w : ℕ) (b : List ℕ) → words_count b w start end
      ≡ rows_count g b w from to
  unfolding words_count
  run-count from to start end x l w b =
      ap₂ (λ (s n : ℕ). sum_from (λ j. one (eqb (get_or b j 0) w)) s n) x.from (run_long from to start end x l) ∙ rows_words g one_word b w from to

-- the words of those rows cleared: the rows are swept
module _ (g : Grid) (w from to : ℕ) {start end : ℕ} (x : Stretch g (min from to) to start end) where
  count-low : (b : List ℕ) → rows_count g b w (min from to) to ≡ rows_count g b w from to
  unfolding rows_count
  count-low b = ap (sum_from f (min from to)) e ∙ go (to - from) refl
    where
      f : ℕ → ℕ
      f i = row_count g b i w

      e : to - min from to ≡ to - from
      e = omega arith

      go : (n : ℕ) → to - from ≡ n → sum_from f (min from to) n ≡ sum_from f from n
      go zero q = refl
      go (suc n) q = let l : min from to ≡ from = omega (arith, q) in ap (λ (i : ℕ). sum_from f i (suc n)) l

  pub swept-by : {b c : List ℕ} {r : ℕ} → g.width ≡ 1 → Lies g b → Cleared w start end b c r → Swept g w from to b c r
  unfolding Lies swept
  swept-by {b} {c} {r} e f h =
      let l : min from to ≤ to = omega arith in
      let s = run_is g e (min from to) to start end x l w b ∙ over-low (λ i. swept_row g w i) from to b in
      record {
        wrote = wrote_by (swept g w from to) b c (h.is ∙ s) (ap length (sym s) ∙ length-zeroed w start (end - start) b);
        count = h.count ∙ run-count g e (min from to) to start end x l w b ∙ count-low b;
        few = omega (arith, cleared-few h, x.room, f.ends, f.small);
      }

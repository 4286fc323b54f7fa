-- Two runs of words cleared side by side: what is cleared in the lower one may come before all of the upper one.
-- Assumes nothing.
use Prim.Native.Nat.{ℕ, zero, suc, ◌+◌, ◌-◌, ◌%◌, ◌≤◌, ◌<◌}
use mathlib.Core.Path.{◌≡◌, refl, sym, ◌∙◌, ap, subst}
use mathlib.Core.Bool.{cond}
use mathlib.Core.List.{List}
use native.Mathlib.Omega.{arith}
use lib.Dec.{eqb}
use lib.ListN.{set, get_or}
use lib.Seq.{get_or-set_other, set_comm}
use Rattle.book.specs.Stores.{Cleared, times, over, zeroed}
use Rattle.book.proofs.Sweeps.{run-later, run-earlier, count-agree, cleared-none, cleared-then, cleared-few}

-- two words in either order; a word, and then a run, before a run that stands behind it
words-swap : (w i j : ℕ) (b : List ℕ) → i < j → zeroed w i (zeroed w j b) ≡ zeroed w j (zeroed w i b)
unfolding zeroed
words-swap w i j b h =
    let x : ℕ → ℕ = λ y. cond (eqb y w) 0 y in
    let other : get_or (set b j (x (get_or b j 0))) i 0 ≡ get_or b i 0 = get_or-set_other b j i _ 0 (λ e. omega (arith, e)) in
    let same : get_or (set b i (x (get_or b i 0))) j 0 ≡ get_or b j 0 = get_or-set_other b i j _ 0 (λ e. omega (arith, e)) in
    ap (λ (y : ℕ). set (set b j (x (get_or b j 0))) i (x y)) other
    ∙ set_comm b j i _ _ (λ e. omega (arith, e))
    ∙ ap (λ (y : ℕ). set (set b i (x (get_or b i 0))) j (x y)) (sym same)

word-past : (w i j n : ℕ) (b : List ℕ) → i < j → zeroed w i (times (zeroed w) j n b) ≡ times (zeroed w) j n (zeroed w i b)
word-past w i j zero b h = refl
word-past w i j (suc n) b h = word-past w i (suc j) n (zeroed w j b) (omega arith) ∙ ap (times (zeroed w) (suc j) n) (words-swap w i j b h)

run_past : (w i m j n : ℕ) (b : List ℕ) → i + m ≤ j
    → times (zeroed w) i m (times (zeroed w) j n b) ≡ times (zeroed w) j n (times (zeroed w) i m b)
run_past w i zero j n b h = refl
run_past w i (suc m) j n b h =
    ap (times (zeroed w) (suc i) m) (word-past w i j n b (omega arith)) ∙ run_past w (suc i) m j n (zeroed w i b) (omega arith)

-- from b to c the words from n to before m and those from k to before l become 0, and r of them were w
pub record Halves (w n m k l : ℕ) (b c : List ℕ) (r : ℕ) : Type 0 where
  pub between : List ℕ
  pub low : ℕ
  pub high : ℕ
  pub first : Cleared w n m b between low
  pub second : Cleared w k l between c high
  pub count : r ≡ low + high

-- none of either; a part more of the lower one, and of the upper one
pub halves-none : (w n k : ℕ) (b : List ℕ) → Halves w n n k k b b 0
halves-none w n k b =
    record { between = b; low = 0; high = 0; first = cleared-none w n b; second = cleared-none w k b; count = omega arith }

pub halves-low : {w n m o k l : ℕ} {b c d : List ℕ} {r q : ℕ} → n ≤ m → m ≤ o → o ≤ k
    → Halves w n m k l b c r → Cleared w m o c d q → Halves w n o k l b d (r + q)
halves-low {w} {n} {m} {o} {k} {l} {b} {c} {d} {r} {q} p s t h f =
    record {
      between = over (zeroed w) m o h.between;
      low = h.low + q;
      high = h.high;
      first = cleared-then p s h.first (record { is = refl; count = f.count ∙ count-agree h.between c w m o before });
      second = record {
        is = f.is ∙ ap (over (zeroed w) m o) h.second.is ∙ run_past w m (o - m) k (l - k) h.between (omega arith);
        count = h.second.count ∙ sym (count-agree h.between (over (zeroed w) m o h.between) w k l behind);
      };
      count = omega (arith, h.count);
    }
  where
    before : (j : ℕ) → m ≤ j → j < o → get_or c j 0 ≡ get_or h.between j 0
    before j _ a = ap (λ (c : List ℕ). get_or c j 0) h.second.is ∙ run-earlier w k (l - k) j h.between (omega arith)

    behind : (j : ℕ) → k ≤ j → j < l → get_or (over (zeroed w) m o h.between) j 0 ≡ get_or h.between j 0
    behind j a _ = run-later w m (o - m) j h.between (omega arith)

pub halves-high : {w n m k l p o : ℕ} {b c d : List ℕ} {r q : ℕ} → k ≤ l → l ≤ p → p ≡ o
    → Halves w n m k l b c r → Cleared w l p c d q → Halves w n m k o b d (r + q)
halves-high {w} {k = k} {d = d} {q = q} s t e h f =
    record {
      between = h.between;
      low = h.low;
      high = h.high + q;
      first = h.first;
      second = subst (λ (o : ℕ). Cleared w k o h.between d (h.high + q)) e (cleared-then s t h.second f);
      count = omega (arith, h.count);
    }

-- the one right behind the other is one run
pub halves-whole : {w n m k l o : ℕ} {b c : List ℕ} {r : ℕ} → n ≤ k → k ≤ o → m ≡ k → l ≡ o → Halves w n m k l b c r → Cleared w n o b c r
halves-whole {w} {n} {m} {k} {l} {o} {b} {c} s t e f h =
    let low = subst (λ (m : ℕ). Cleared w n m b h.between h.low) e h.first in
    let high = subst (λ (l : ℕ). Cleared w k l h.between c h.high) f h.second in
    let all = cleared-then s t low high in
    record { is = all.is; count = h.count ∙ all.count }

-- no more than words up to the ends
pub halves-few : {w n m k l : ℕ} {b c : List ℕ} {r : ℕ} → Halves w n m k l b c r → r ≤ m + l
halves-few h = omega (arith, h.count, cleared-few h.first, cleared-few h.second)

-- whole blocks: there is room for one more, and whole blocks are left behind it
pub block-left : (n m : ℕ) → n < m → (m - n) % 64 ≡ 0 → n + 64 ≤ m
block-left n m l e = omega arith

pub blocks-behind : (n m : ℕ) → n < m → (m - n) % 64 ≡ 0 → (m - (n + 64)) % 64 ≡ 0
blocks-behind n m l e = omega arith

-- Sums of seats, and the capacities.
-- Assumes nothing.
use Prim.Native.Nat.{ℕ, ◌+◌, ◌*◌, ◌≤◌, ◌<◌}
use mathlib.Core.Path.{◌≡◌, sym, ◌∙◌, ap}
use mathlib.Core.Bool.{Bool, false}
use mathlib.Core.List.{List}
use native.Mathlib.Decide.{ℕ_discrete}
use native.Mathlib.Omega.{arith}
use lib.ListN.{length, get_or, set, length-set}
use lib.Seq.{get_or-set_same, get_or-set_other}
use borrow.Author.Tests.{eq-eqb, ne_eqb}
use borrow.Author.Count.{below_more}
use Rattle.model.specs.Bounded.{sum}
use Rattle.model.proofs.Sums.{sum_more}
use Rattle.rules.specs.Rows.{Triple, seats_in}

-- lunches: what is shown of the triples below j, with the sums so far
pub record Sofar (row : List ℕ) (dining : ℕ) (caps : List ℕ) (t : List Bool) (s : List ℕ) (j : ℕ) : Type 0 where
  pub size : length s ≡ 17
  pub each : (k : ℕ) → k < j → Triple dining caps (get_or t (k + 1) false) (get_or row (k * 3) 0) (get_or row (k * 3 + 1) 0) (get_or row (k * 3 + 2) 0)
  pub sums : (g : ℕ) → g < 17 → get_or s g 0 ≡ sum (seats_in row g) j
  pub low : (g : ℕ) → get_or s g 0 ≤ j * 1000

module _ (row : List ℕ) (dining : ℕ) (caps : List ℕ) (t : List Bool) (s : List ℕ) (j : ℕ) where
  pub sofar-more : Sofar row dining caps t s j → get_or row (j * 3) 0 < 17 → get_or row (j * 3 + 1) 0 ≤ 1000
      → Triple dining caps (get_or t (j + 1) false) (get_or row (j * 3) 0) (get_or row (j * 3 + 1) 0) (get_or row (j * 3 + 2) 0)
      → Sofar row dining caps t (set s (get_or row (j * 3) 0) (get_or s (get_or row (j * 3) 0) 0 + get_or row (j * 3 + 1) 0)) (j + 1)
  sofar-more b l few tr = record {
    size = length-set s w here ∙ b.size;
    each = below_more _ j b.each tr;
    sums = λ g h. adds g h (ℕ_discrete g w);
    low = λ g. lows g (ℕ_discrete g w);
  }
    where
      w : ℕ
      w = get_or row (j * 3) 0

      here : ℕ
      here = get_or s w 0 + get_or row (j * 3 + 1) 0

      adds : (g : ℕ) → g < 17 → Dec (g ≡ w) → get_or (set s w here) g 0 ≡ sum (seats_in row g) (j + 1)
      adds g h (yes e) =
          let m : seats_in row g j ≡ get_or row (j * 3 + 1) 0 = rw (eq-eqb w g (sym e)) in
          ap (λ (k : ℕ). get_or (set s w here) k 0) e ∙ get_or-set_same s w here 0 (omega (arith, b.size))
          ∙ omega (arith, b.sums g h, sum_more (seats_in row g) j, m, ap (λ (k : ℕ). get_or s k 0) e)
      adds g h (no n) =
          let m : seats_in row g j ≡ 0 = rw (ne_eqb w g (λ q. n (sym q))) in
          get_or-set_other s w g here 0 n ∙ omega (arith, b.sums g h, sum_more (seats_in row g) j, m)

      lows : (g : ℕ) → Dec (g ≡ w) → get_or (set s w here) g 0 ≤ (j + 1) * 1000
      lows g (yes e) = omega (arith, ap (λ (k : ℕ). get_or (set s w here) k 0) e, get_or-set_same s w here 0 (omega (arith, b.size)), b.low w)
      lows g (no n) = omega (arith, get_or-set_other s w g here 0 n, b.low g)

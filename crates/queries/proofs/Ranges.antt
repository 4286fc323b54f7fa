-- What a chain over a run of numbers gives, in the model's searches and sums.
-- Assumes nothing.
use Prim.Native.Nat.{ℕ, zero, suc, ◌+◌, ◌-◌, ◌≤◌, ◌<◌}
use mathlib.Core.Path.{◌≡◌, refl, sym, ◌∙◌, ap}
use mathlib.Core.Bool.{Bool, true, false, not, ◌&&◌, ◌||◌}
use native.Mathlib.Omega.{arith}
use lib.Dec.{leb, eqb}
use borrow.Author.Tests.{ne_eqb}
use Rattle.std.specs.Prelude.{Option, None, Some}
use Rattle.std.specs.Option.{MatchOption}
use Rattle.std.specs.List.{list_any, range_with_len, sum_by}
use Rattle.std.proofs.lemmas.List.Sums.{sum_by-cons}
use Rattle.model.specs.Bounded.{any, one, is_some, lowest, sum_from}
use Rattle.model.proofs.Search.{lowest-is, lowest_by, Lowest}
use Rattle.queries.proofs.Free.{between-yes, between-no}

next : (lo : ℕ) → lo + 1 ≡ suc lo
next lo = omega arith

pub sum-range : (f : ℕ → ℕ) (lo n : ℕ) → sum_by f (range_with_len lo n) ≡ sum_from f lo n
sum-range f lo zero = refl
sum-range f lo (suc n) =
    sum_by-cons f lo (range_with_len (lo + 1) n)
    ∙ ap (λ i. f lo + sum_by f (range_with_len i n)) (next lo)
    ∙ ap (λ k. f lo + k) (sum-range f (suc lo) n)

-- some number has t if they count some
pub any-count : (t : ℕ → Bool) (lo n : ℕ) → list_any t (range_with_len lo n) ≡ not (eqb (sum_from (λ i. one (t i)) lo n) 0)
any-count t lo zero = refl
any-count t lo (suc n) = go (t lo) (ap (λ i. list_any t (range_with_len i n)) (next lo) ∙ any-count t (suc lo) n)
  where
    rest : ℕ
    rest = sum_from (λ i. one (t i)) (suc lo) n

    go : (b : Bool) → list_any t (range_with_len (lo + 1) n) ≡ not (eqb rest 0) → b || list_any t (range_with_len (lo + 1) n) ≡ not (eqb (one b + rest) 0)
    go true h = sym (ap not (ne_eqb (1 + rest) 0 (λ z. omega (arith, z))))
    go false h = let z : rest ≡ 0 + rest = omega arith in h ∙ ap (λ k. not (eqb k 0)) z

any-lowest : (t : ℕ → Bool) (lo n : ℕ) → list_any t (range_with_len lo n) ≡ is_some (lowest t lo n)
any-lowest t lo zero = refl
any-lowest t lo (suc n) = go (t lo) refl (ap (λ i. list_any t (range_with_len i n)) (next lo) ∙ any-lowest t (suc lo) n)
  where
    go : (b : Bool) → t lo ≡ b → list_any t (range_with_len (lo + 1) n) ≡ is_some (lowest t (suc lo) n)
        → t lo || list_any t (range_with_len (lo + 1) n) ≡ is_some (lowest t lo (suc n))
    go true q h = rw q
    go false q h = rw q h

-- some number of lo to before hi has t
pub any-between : (t : ℕ → Bool) (lo hi : ℕ) → list_any t (range_with_len lo (hi - lo)) ≡ any (λ i. leb lo i && t i) hi
any-between t lo hi = any-lowest t lo (hi - lo) ∙ go (lowest t lo (hi - lo)) (lowest-is t lo (hi - lo))
  where
    go : (o : Option ℕ) → Lowest t lo (hi - lo) o → is_some o ≡ any (λ i. leb lo i && t i) hi
    go None h = between-no t lo hi (λ k l g. h k l (omega (arith, l, g)))
    go (Some k) h = between-yes t lo hi k h.low (omega (arith, h.low, h.high)) h.holds

-- what `find` finds of the numbers below n
pub lowest-found : (p : ℕ → Bool) (n : ℕ) (r : Option ℕ)
    → MatchOption r ((k : ℕ) → 0 ≤ k → k < n → p k ≡ false) (λ i. (0 ≤ i) × (i < n) × (p i ≡ true) × ((k : ℕ) → 0 ≤ k → k < i → p k ≡ false))
    → r ≡ lowest p 0 n
lowest-found p n None h = sym (lowest_by p 0 n None (λ k l g. h k l (omega (arith, g))))
lowest-found p n (Some i) h =
    sym (lowest_by p 0 n (Some i) (record { low = h.0; high = omega (arith, h.1); holds = h.2; first = h.3 }))

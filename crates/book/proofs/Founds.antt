-- What a loop that searches from 0 on gives back: the first number that has the property, or nothing.
-- Assumes nothing.
use Prim.Native.Nat.{ℕ, ◌<◌}
use mathlib.Core.Path.{◌≡◌, sym}
use mathlib.Core.Bool.{Bool, true, false}
use Rattle.std.specs.Prelude.{None, Some}
use native.Mathlib.Omega.{arith}
use Rattle.model.specs.Bounded.{lowest}
use Rattle.model.proofs.Search.{lowest_by}

pub found_at : (p : ℕ → Bool) (n i : ℕ) → ((k : ℕ) → k < i → p k ≡ false) → i < n → p i ≡ true → Some i ≡ (lowest p 0 n)
found_at p n i f h e =
    (sym (lowest_by p 0 n (Some i) (record { low = omega arith; high = omega (arith, h); holds = e; first = λ j l. f j })))

pub found_none : (p : ℕ → Bool) (n : ℕ) → ((k : ℕ) → k < n → p k ≡ false) → None ≡ (lowest p 0 n)
found_none p n f = (sym (lowest_by p 0 n None (λ j l h. f j (omega (arith, h)))))

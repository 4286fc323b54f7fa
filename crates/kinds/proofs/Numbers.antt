-- Kinds by number: what is none of the twenty numbers has no kind.
-- Assumes nothing.
use Prim.Native.Nat.{ℕ, zero, suc, ◌<◌}
use mathlib.Core.Path.{◌≡◌, refl}
use Rattle.std.specs.Prelude.{None}
use native.Mathlib.Omega.{arith}
use lib.ListN.{get_or-eq_default}
use Rattle.model.specs.Kinds.{kinds, kind_of}

-- k is none of the n numbers after 0
abbrev pub Others : ℕ → ℕ → Type 0
Others k zero = Unit {0}
Others k (suc n) = Others k n × (k ≡ suc n → ⊥)

past : (k n : ℕ) → 0 < k → Others k n → n < k
past k zero l h = l
past k (suc n) l h = let p : n < k = past k n l h.0 in let q : k ≡ suc n → ⊥ = h.1 in omega arith

pub no_kind : (k : ℕ) → Others k 20 → kind_of k ≡ None
unfolding kind_of
no_kind zero h = refl
no_kind (suc k) h = get_or-eq_default kinds None (past (suc k) 20 (omega arith) h)

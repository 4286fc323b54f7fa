-- What an answer says of its question.
-- Assumes nothing.
use Prim.Native.Nat.{ℕ, ◌+◌, ◌<◌}
use mathlib.Core.Path.{◌≡◌, refl, sym, ◌∙◌}
use mathlib.Core.Bool.{Bool, true, false, not, ◌||◌, true≢false, false≢true}
use native.Mathlib.Omega.{arith}
use borrow.Author.Count.{below_more}
use Rattle.rules.specs.Rows.{Decides}

-- what an answer says, once it is known
pub said-true : {P : Type 0} (b : Bool) → b ≡ true → Decides b P → P
said-true b e d = rw e at d

pub said-false : {P : Type 0} (b : Bool) → b ≡ false → Decides b P → P → ⊥
said-false b e d = rw e at d

pub either : {A : Type 0} (b : Bool) → b ≡ true → b ≡ false → A
either b e f = absurd (true≢false (sym e ∙ f))

-- an answer by a test and its two meanings
pub decide : {P : Type 0} (b : Bool) → (b ≡ true → P) → (P → b ≡ true) → Decides b P
decide true f g = f refl
decide false f g = λ p. absurd (false≢true (g p))

-- an answer to one question is an answer to another
pub relay : {P Q : Type 0} (b : Bool) → (P → Q) → (Q → P) → Decides b P → Decides b Q
relay true f g d = f d
relay false f g d = λ q. d (g q)

-- what is shown of the indices below i, by a flag that something was bad
pub more : (P : ℕ → Type 0) (i : ℕ) (bad here : Bool) → Decides (not bad) ((k : ℕ) → k < i → P k) → Decides (not here) (P i)
    → Decides (not (bad || here)) ((k : ℕ) → k < i + 1 → P k)
more P i true here d h = λ f. d (λ k l. f k (omega arith))
more P i false true d h = λ f. h (f i (omega arith))
more P i false false d h = below_more P i d h

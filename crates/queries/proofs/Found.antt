-- A search for the lowest slot of a run: what the slots behind it answered, and what is found.
-- Assumes nothing.
use Prim.Native.Nat.{ℕ, suc, ◌+◌, ◌-◌, ◌≤◌, ◌<◌}
use mathlib.Core.Path.{◌≡◌, refl, sym, ◌∙◌, ap, subst}
use mathlib.Core.Bool.{Bool, true, false, cond, not}
use native.Mathlib.Omega.{arith}
use native.Mathlib.Decide.{ℕ_discrete}
use Rattle.std.specs.Prelude.{Option, Some, None}
use Rattle.model.specs.Bounded.{failing}
use Rattle.model.proofs.Search.{Lowest, lowest-is, failing-at, failing-none, none-failing}
use Rattle.queries.specs.Found.{IsFirst, middle_of}
use lib.Dec.{leb}
use borrow.Author.Tests.{leb-true, leb-false}

-- each slot of first..i, i left out, answers no
abbrev pub AllNo : (ℕ → Bool → Type 0) → ℕ → ℕ → Type 0
AllNo answer first i = (k : ℕ) → first ≤ k → k < i → answer k false

module _ (answer : ℕ → Bool → Type 0) (first i : ℕ) (passed : AllNo answer first i) where
  pub no-more : answer i false → AllNo answer first (i + 1)
  no-more e k l h = go (ℕ_discrete k i)
    where
      go : Dec (k ≡ i) → answer k false
      go (yes q) = subst (λ j. answer j false) (sym q) e
      go (no n) = passed k l (omega (arith, h, n))

  pub first-at : {last : ℕ} → first ≤ i → i ≤ last → answer i true → IsFirst answer first last (Some i)
  first-at {last} l h e t is =
      sym
      (failing-at t first last i l h (is i true l h e)
      (λ k a b. is k false a (omega (arith, b, h)) (passed k a b)))

  pub first-none : {last : ℕ} → last < i → IsFirst answer first last None
  first-none {last} h t is =
      sym (none-failing t first last (λ k a b. is k false a b (passed k a (omega (arith, b, h)))))

-- a search for the lowest slot with t: what it finds is in the run, and no slot before it has t; and where it finds none, none has
module _ (t : ℕ → Bool) (from to : ℕ) {o : Option ℕ} (s : o ≡ failing (λ i. not (t i)) from to) where
  off : (b : Bool) → not (not b) ≡ false → b ≡ false
  off false e = refl
  off true e = e

  pub found-in : {e : ℕ} → o ≡ Some e → (from ≤ e) × (e ≤ to)
  found-in {e} q =
      let p : ℕ → Bool = λ i. not (not (t i)) in
      let l = subst (Lowest p from (suc to - from)) (sym s ∙ q) (lowest-is p from (suc to - from)) in
      (l.low, omega (arith, l.low, l.high))

  pub found-past : {e : ℕ} → o ≡ Some e → (i : ℕ) → from ≤ i → i < e → t i ≡ false
  found-past {e} q i a k =
      let p : ℕ → Bool = λ i. not (not (t i)) in
      let l = subst (Lowest p from (suc to - from)) (sym s ∙ q) (lowest-is p from (suc to - from)) in
      off (t i) (l.first i a k)

  pub found-none : o ≡ None → (i : ℕ) → from ≤ i → i ≤ to → t i ≡ false
  found-none q i a k = off (t i) (ap not (failing-none (λ i. not (t i)) from to (sym s ∙ q) i a k))

-- where the middle stands
pub middle-within : {first middle last : ℕ} → middle ≡ middle_of first last → first ≤ last
    → (first ≤ middle) × (middle ≤ last) × (middle ≤ first + 1) × ((last ≤ first + 2) → last ≤ middle + 1)
unfolding middle_of
middle-within {first} {middle} {last} e l = go (leb last first) refl e
  where
    go : (t : Bool) → leb last first ≡ t → middle ≡ cond t last (first + 1)
        → (first ≤ middle) × (middle ≤ last) × (middle ≤ first + 1) × ((last ≤ first + 2) → last ≤ middle + 1)
    go true q m = (omega (arith, m, l), omega (arith, m), omega (arith, m, leb-true last first q), λ h. omega (arith, m))
    go false q m = (omega (arith, m), omega (arith, m, leb-false last first q), omega (arith, m), λ h. omega (arith, m, h))

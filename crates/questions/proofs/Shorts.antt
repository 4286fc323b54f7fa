-- Three slots asked at once show the lowest that fails, in a run of at most three.
-- Assumes nothing.
use Prim.Native.Nat.{ℕ, ◌+◌, ◌-◌, ◌≤◌, ◌<◌}
use mathlib.Core.Path.{◌≡◌, refl, sym, ◌∙◌, ap}
use mathlib.Core.Bool.{Bool, true, false, not, cond}
use native.Mathlib.Omega.{arith}
use lib.Dec.{leb, eqb}
use borrow.Author.Tests.{eqb-true, eqb-false, leb-true, leb-false, le-leb, not-false}
use Rattle.model.specs.Bounded.{failing}
use Rattle.model.proofs.Search.{failing-at, none-failing, within-true, bool_eq, and-true}
use Rattle.queries.specs.Found.{middle_of}
use Rattle.questions.specs.Short.{is_short, chosen}

pub short-is : (first last : ℕ) → first ≤ last → leb (last - first) 2 ≡ is_short first last
short-is first last l =
    bool_eq _ _
    (λ e. and-true (le-leb first last l) (le-leb last (first + 2) (omega (arith, l, leb-true (last - first) 2 e))))
    (λ e. le-leb (last - first) 2 (omega (arith, l, (within-true first (first + 2) last e).1)))

-- where the middle stands
pub record Middle (first middle last : ℕ) : Type 0 where
  pub low : first ≤ last
  pub near : last ≤ middle + 1
  pub behind : middle ≤ first + 1
  pub inside : (first ≤ middle) × (middle ≤ last)

-- r says whether the run is short
pub middle-is : {r : Bool} {first middle last : ℕ} → r ≡ is_short first last → not r ≡ false → middle ≡ middle_of first last → Middle first middle last
unfolding middle_of
middle-is {r} {first} {middle} {last} e n m = go (leb last first) refl m
  where
    w : (first ≤ last) × (last ≤ first + 2)
    w = within-true first (first + 2) last (sym e ∙ not-false r n)

    go : (t : Bool) → leb last first ≡ t → middle ≡ cond t last (first + 1) → Middle first middle last
    go true q m =
        let l = leb-true last first q in
        record { low = w.0; near = omega (arith, m); behind = omega (arith, m, l); inside = (omega (arith, m, w.0), omega (arith, m)) }
    go false q m =
        let l = leb-false last first q in
        record { low = w.0; near = omega (arith, m, w.1); behind = omega (arith, m); inside = (omega (arith, m), omega (arith, m, l)) }

module _ (t : ℕ → Bool) {first middle last : ℕ} (is : Middle first middle last) where
  -- what holds of the first slot and of the middle holds of every slot before the last
  before_last : t first ≡ true → t middle ≡ true → (k : ℕ) → first ≤ k → k < last → t k ≡ true
  before_last f m k l h = go (eqb k first) refl
    where
      go : (b : Bool) → eqb k first ≡ b → t k ≡ true
      go true q = ap t (eqb-true k first q) ∙ f
      go false q = ap t (apart (λ e. eqb-false k first q e)) ∙ m
        where
          apart : (k ≡ first → ⊥) → k ≡ middle
          apart n = omega (arith, n, l, h, is.near, is.behind)

  before-middle : t first ≡ true → (k : ℕ) → first ≤ k → k < middle → t k ≡ true
  before-middle f k l h = ap t (omega (arith, l, h, is.behind)) ∙ f

  all : t first ≡ true → t middle ≡ true → t last ≡ true → (k : ℕ) → first ≤ k → k ≤ last → t k ≡ true
  all f m g k l h = go (eqb k last) refl
    where
      go : (b : Bool) → eqb k last ≡ b → t k ≡ true
      go true q = ap t (eqb-true k last q) ∙ g
      go false q = before_last f m k l (under (λ e. eqb-false k last q e))
        where
          under : (k ≡ last → ⊥) → k < last
          under n = omega (arith, n, h)

  pub fails : (x y z : Bool) → t first ≡ not x → t middle ≡ not y → t last ≡ not z → chosen first middle last x y z ≡ (failing t first last)
  unfolding chosen
  fails true y z f m g = (sym (failing-at t first last first (omega arith) is.low f (λ k l h. absurd (omega (arith, l, h)))))
  fails false true z f m g = (sym (failing-at t first last middle is.inside.0 is.inside.1 m (before-middle f)))
  fails false false true f m g = (sym (failing-at t first last last is.low (omega arith) g (before_last f m)))
  fails false false false f m g = (sym (none-failing t first last (all f m g)))

-- Seats of a good book: reserved is at most capacity, and a capacity at most 1000.
-- Assumes nothing.
use Prim.Native.Nat.{ℕ, ◌≤◌, ◌<◌}
use mathlib.Core.Path.{sym, subst}
use mathlib.Core.List.{List}
use Rattle.model.specs.declared.Settings.{Settings}
use Rattle.model.specs.Site.{capacity}
use Rattle.model.specs.State.{State, reserved}
use Rattle.model.specs.Reading.{read_state, state_of}
use Rattle.model.proofs.ReadBack.{valid-is}
use Rattle.book.specs.Good.{Good}
use Rattle.book.proofs.Goods.{good-state, good-sound}

module _ {S : Settings} {b : List ℕ} (good : Good S b) where
  pub reserved-le : (d g : ℕ) → d < S.dates → g < S.dining → reserved (state_of b) d g ≤ capacity S g
  unfolding read_state
  reserved-le d g h k = subst (λ (x : State). reserved x d g ≤ capacity S g) (sym (good-state good)) ((good-sound good).reserve d g h k)

  pub capacity-le : (g : ℕ) → g < S.dining → (1 ≤ capacity S g) × (capacity S g ≤ 1000)
  unfolding read_state
  capacity-le g k = (valid-is S (good-sound good).valid).seats g k

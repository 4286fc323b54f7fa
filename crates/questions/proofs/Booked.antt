-- Question 18: on a date without leave the visitor has no entry.
-- Assumes nothing.
use Prim.Native.Nat.{ℕ, ◌≤◌, ◌<◌}
use mathlib.Core.Path.{◌≡◌, refl}
use mathlib.Core.Bool.{Bool, true, false}
use mathlib.Core.List.{List}
use lib.Dec.{leb}
use borrow.Author.Tests.{eq-eqb, leb-true, leb-false}
use Rattle.model.specs.declared.Settings.{Settings}
use Rattle.model.specs.Reading.{state_of}
use Rattle.book.specs.Good.{Good}
use Rattle.queries.proofs.Spans.{bookings-none-on}
use Rattle.questions.specs.Asked.{NoBookings, holds_in}

module _ {S : Settings} {b : List ℕ} (good : Good S b) (v first : ℕ) where
  -- each date before e has no entry of the visitor's
  abbrev pub NoneBefore : ℕ → Type 0
  NoneBefore e = (i : ℕ) → first ≤ i → i < e → holds_in S (state_of b) NoBookings v 0 i ≡ true

  none-on : (i : ℕ) → (state_of b).leave i v ≡ false → holds_in S (state_of b) NoBookings v 0 i ≡ true
  unfolding holds_in
  none-on i away = eq-eqb _ 0 (bookings-none-on good v i away)

  -- dates without leave are passed
  pub none-past : {from e : ℕ} → NoneBefore from → ((i : ℕ) → from ≤ i → i < e → (state_of b).leave i v ≡ false) → NoneBefore e
  none-past {from} f away i l k = go (leb from i) refl
    where
      go : (t : Bool) → leb from i ≡ t → holds_in S (state_of b) NoBookings v 0 i ≡ true
      go true q = none-on i (away i (leb-true from i q) k)
      go false q = f i l (leb-false from i q)

-- Rows of visitors (hotel, ride): what the words say, and the model's tests.
-- Assumes nothing.
use Prim.Native.Nat.{ℕ, suc, ◌/◌, ◌≤◌, ◌<◌}
use mathlib.Core.Path.{◌≡◌, refl, sym, ◌∙◌}
use mathlib.Core.Bool.{Bool, true, false}
use mathlib.Core.List.{List}
use native.Mathlib.Omega.{arith}
use lib.Dec.{leb, ltb}
use lib.ListN.{length, get_or}
use borrow.Author.Tests.{ltb-true, ltb-false, le-leb, eqb-true, eq-eqb}
use Rattle.model.specs.declared.Settings.{Settings}
use Rattle.model.specs.Words.{Region, leaves, slots, items}
use Rattle.model.specs.Reading.{at, inside, bit_at, holds}
use Rattle.model.specs.Laws.{cells_within}
use Rattle.model.proofs.Search.{and_left, and_right, and-true, true-all}
use Rattle.model.proofs.ReadBack.{inside-by, inside_is}
use Rattle.pool.specs.Pool.{member}
use Rattle.checking.specs.Days.{Guested}
use Rattle.checking.specs.Kept.{GuestsAt}

-- the model's two tests of a cell, as facts
module _ (S : Settings) (b : List ℕ) where
  pub record Held (g : Region) (i j v : ℕ) : Type 0 where
    pub slot : i < slots S g
    pub item : j < items S g
    pub word : at S b g i j 0 ≡ suc v

  pub held : (g : Region) (i j v : ℕ) → holds S b g i j v ≡ true → Held g i j v
  held g i j v e = record {
    slot = (inside_is S g i j (and_left (inside S g i j) _ e)).0;
    item = (inside_is S g i j (and_left (inside S g i j) _ e)).1;
    word = eqb-true _ _ (and_right (inside S g i j) _ e);
  }

  pub holds_by : (g : Region) (i j v : ℕ) → i < slots S g → j < items S g → at S b g i j 0 ≡ suc v → holds S b g i j v ≡ true
  holds_by g i j v h k e = and-true (inside-by S g i j h k) (eq-eqb _ _ e)

  pub bit_is : (g : Region) (i v : ℕ) (row : List ℕ) → i < slots S g → v / 32 < items S g → at S b g i (v / 32) 0 ≡ get_or row (v / 32) 0
      → bit_at S b g i v ≡ member row v
  bit_is g i v row h k e = rw (inside-by S g i (v / 32) h k, e)

  pub within_by : (g : Region) (n : ℕ) → ((i j : ℕ) → i < slots S g → j < items S g → at S b g i j 0 ≤ n) → cells_within S b g n ≡ true
  within_by g n h = true-all _ (slots S g) (λ i a. true-all (λ j. leb (at S b g i j 0) n) (items S g) (λ j c. le-leb _ n (h i j a c)))

  -- a slot of visitors by its row
  module _ (g : Region) (limit i d : ℕ) (row leave : List ℕ) (long : length row ≡ items S g)
      (same : (j : ℕ) → j < items S g → at S b g i j 0 ≡ get_or row j 0) (bits : (v : ℕ) → v < limit → bit_at S b leaves d v ≡ member leave v) where
    pub slot-by : Guested row leave limit → GuestsAt S b g limit i d
    slot-by r = record {
      range = λ j h. rw (same j h) (r.range j (omega (arith, long)));
      on_leave = λ j v h e.
          let w : get_or row j 0 ≡ suc v = sym (same j h) ∙ e in
          bits v (omega (arith, r.range j (omega (arith, long)))) ∙ r.on_leave j v (omega (arith, long)) w;
      once = λ j k l h e.
          let a = same j (omega (arith, h)) in
          a ∙ r.once j k l (omega (arith, long)) (sym a ∙ e ∙ same k h);
    }

    pub by-slot : GuestsAt S b g limit i d → Guested row leave limit
    by-slot r = record {
      range = λ j h. rw (same j (omega (arith, long))) at (r.range j (omega (arith, long)));
      on_leave = λ j v h e.
          let w : at S b g i j 0 ≡ suc v = same j (omega (arith, long)) ∙ e in
          sym (bits v (omega (arith, r.range j (omega (arith, long))))) ∙ r.on_leave j v (omega (arith, long)) w;
      once = λ j k l h e.
          let a = same j (omega (arith, long)) in
          sym a ∙ r.once j k l (omega (arith, long)) (a ∙ e ∙ sym (same k (omega (arith, long))));
    }

  -- one visitor a cell; one cell a visitor
  pub one-a-cell : (g : Region) (i j u v : ℕ) → holds S b g i j u ≡ true → holds S b g i j v ≡ true → u ≡ v
  one-a-cell g i j u v e f = omega (arith, (held g i j u e).word, (held g i j v f).word)

  pub one-a-row : (g : Region) (limit d i v j k : ℕ) → GuestsAt S b g limit i d → holds S b g i j v ≡ true → holds S b g i k v ≡ true → j ≡ k
  one-a-row g limit d i v j k s e f = go (ltb j k) refl (ltb k j) refl
    where
      a : Held g i j v
      a = held g i j v e

      c : Held g i k v
      c = held g i k v f

      go : (x : Bool) → ltb j k ≡ x → (y : Bool) → ltb k j ≡ y → j ≡ k
      go true p y q = absurd (omega (arith, s.once j k (ltb-true j k p) c.item (a.word ∙ sym c.word), a.word))
      go false p true q = absurd (omega (arith, s.once k j (ltb-true k j q) a.item (c.word ∙ sym a.word), c.word))
      go false p false q = omega (arith, ltb-false j k p, ltb-false k j q)

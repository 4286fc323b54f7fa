-- The questions of cells are the questions of pairs, once over the family of sets. After question 11 the pair's own cell does not hold
-- it, so that 13 may ask whether that cell is empty, or the whole row.
-- Assumes nothing.
use Prim.Native.Nat.{ℕ, zero, suc, ◌+◌, ◌≤◌, ◌<◌}
use mathlib.Core.Path.{◌≡◌, refl, sym, ◌∙◌, ap, ap₂}
use mathlib.Core.Bool.{Bool, true, false, not, ◌&&◌, and-false, true≢false, false≢true}
use Rattle.std.specs.Prelude.{None}
use mathlib.Core.List.{List}
use native.Mathlib.Omega.{arith}
use lib.Dec.{eqb}
use borrow.Author.Tests.{eqb-true, eq-eqb, ne_eqb, not-true}
use Rattle.book.specs.declared.grid.Grid.{Grid}
use Rattle.book.specs.Grids.{cell_at, grid_of}
use Rattle.book.specs.Rows.{row_has}
use Rattle.book.specs.Good.{Good}
use Rattle.book.proofs.Entries.{cells_of, item_of, value_of, by_a, booked-eqb, item-lt}
use Rattle.book.proofs.Goods.{good-cell, cell_limit}
use Rattle.model.specs.declared.Settings.{Settings}
use Rattle.model.specs.Bounded.{any, failing}
use Rattle.model.specs.State.{State, Pairs, hotels, rides, attends, confs, lunches, booked}
use Rattle.model.specs.Questions.{limit_a, limit_b}
use Rattle.model.specs.Words.{slots, items}
use Rattle.model.specs.Reading.{read_state}
use Rattle.model.proofs.Search.{any_same, failing-same, bool_eq, both, any_false, false-any, and-true, failing-none}

-- the column and the number of a pair, and their limits, in the sets indexed by a and by v
by-a : (p : Pairs) → by_a p ≡ true → (a v : ℕ) → (item_of p a v ≡ a) × (value_of p a v ≡ v)
by-a hotels e a v = (refl, refl)
by-a rides e a v = (refl, refl)
by-a attends e a v = absurd (false≢true e)
by-a confs e a v = (refl, refl)
by-a lunches e a v = absurd (false≢true e)

by-v : (p : Pairs) → by_a p ≡ false → (a v : ℕ) → (item_of p a v ≡ v) × (value_of p a v ≡ a)
by-v hotels e a v = absurd (true≢false e)
by-v rides e a v = absurd (true≢false e)
by-v attends e a v = (refl, refl)
by-v confs e a v = absurd (true≢false e)
by-v lunches e a v = (refl, refl)

items-a : (S : Settings) (p : Pairs) → by_a p ≡ true → items S (cells_of p) ≡ limit_a S p
items-a S hotels e = refl
items-a S rides e = refl
items-a S attends e = absurd (false≢true e)
items-a S confs e = refl
items-a S lunches e = absurd (false≢true e)

-- a pair (a, v) of a set in slot i
module _ {S : Settings} {b : List ℕ} (good : Good S b) (p : Pairs) (i : ℕ) (hi : i < slots S (cells_of p))
    (a v : ℕ) (ha : a < limit_a S p) (hv : v < limit_b S p) where
  abbrev g : Grid
  g = grid_of S (cells_of p)

  abbrev x : State
  x = read_state S b

  entry : (a v : ℕ) → a < limit_a S p → v < limit_b S p → booked x p i a v ≡ eqb (cell_at g b i (item_of p a v)) (value_of p a v + 1)
  entry a v ha hv = booked-eqb S b p i hi ha hv

  few : cell_at g b i (item_of p a v) ≤ cell_limit S p
  few = good-cell good p i (item_of p a v) hi (item-lt S p ha hv)

  abbrev other : ℕ → Bool
  other a' = not (eqb a' a) && booked x p i a' v

  -- indexed by a: a is free where its cell is 0, and v is elsewhere where another cell holds it
  module _ (by : by_a p ≡ true) where
    entry-a : (a v : ℕ) → a < limit_a S p → v < limit_b S p → booked x p i a v ≡ eqb (cell_at g b i a) (v + 1)
    entry-a a v ha hv =
        entry a v ha hv ∙ ap₂ (λ (j w : ℕ). eqb (cell_at g b i j) (w + 1)) (by-a p by a v).0 (by-a p by a v).1

    free-is : not (any (λ v. booked x p i a v) (limit_b S p)) ≡ eqb (cell_at g b i a) 0
    free-is =
        bool_eq _ _
        (λ e. go (cell_at g b i a) refl (not-true (any (λ v. booked x p i a v) (limit_b S p)) e))
        (λ e. ap not (false-any (λ v. booked x p i a v) (limit_b S p)
        (λ u l. entry-a a u ha l ∙ ne_eqb (cell_at g b i a) (u + 1) (λ q. omega (arith, q, eqb-true (cell_at g b i a) 0 e)))))
      where
        within : cell_at g b i a ≤ limit_b S p
        within = rw ((by-a p by a v).0, (by-a p by (limit_a S p) (limit_b S p)).1) at few

        go : (w : ℕ) → cell_at g b i a ≡ w → any (λ v. booked x p i a v) (limit_b S p) ≡ false → eqb (cell_at g b i a) 0 ≡ true
        go zero q e = eq-eqb (cell_at g b i a) 0 q
        go (suc u) q e =
            let l : u < limit_b S p = omega (arith, q, within) in
            both (entry-a a u ha l ∙ eq-eqb (cell_at g b i a) (u + 1) (omega (arith, q))) (any_false (λ v. booked x p i a v) (limit_b S p) e u l)

    elsewhere-a-is : booked x p i a v ≡ false → not (any other (limit_a S p)) ≡ not (row_has g b i (v + 1))
    unfolding row_has
    elsewhere-a-is absent =
        ap not
        (any_same other (λ j. eqb (cell_at g b i j) (v + 1)) (limit_a S p) (λ j l. go j l (eqb j a) refl)
        ∙ ap (any (λ j. eqb (cell_at g b i j) (v + 1))) (sym (items-a S p by)))
      where
        go : (j : ℕ) → j < limit_a S p → (t : Bool) → eqb j a ≡ t → not t && booked x p i j v ≡ eqb (cell_at g b i j) (v + 1)
        go j l true q = sym absent ∙ ap (λ (j : ℕ). booked x p i j v) (sym (eqb-true j a q)) ∙ entry-a j v l hv
        go j l false q = entry-a j v l hv

  -- indexed by v: v is elsewhere where its cell holds another than a
  module _ (by : by_a p ≡ false) where
    entry-v : (a v : ℕ) → a < limit_a S p → v < limit_b S p → booked x p i a v ≡ eqb (cell_at g b i v) (a + 1)
    entry-v a v ha hv =
        entry a v ha hv ∙ ap₂ (λ (j w : ℕ). eqb (cell_at g b i j) (w + 1)) (by-v p by a v).0 (by-v p by a v).1

    elsewhere-v-is : booked x p i a v ≡ false → not (any other (limit_a S p)) ≡ eqb (cell_at g b i v) 0
    elsewhere-v-is absent =
        bool_eq _ _
        (λ e. go (cell_at g b i v) refl (not-true (any other (limit_a S p)) e))
        (λ e. ap not (false-any other (limit_a S p) (λ u l. ap (λ (t : Bool). not (eqb u a) && t)
        (entry-v u v l hv ∙ ne_eqb (cell_at g b i v) (u + 1) (λ q. omega (arith, q, eqb-true (cell_at g b i v) 0 e))) ∙ and-false (not (eqb u a)))))
      where
        within : cell_at g b i v ≤ limit_a S p
        within = rw ((by-v p by a v).0, (by-v p by (limit_a S p) (limit_b S p)).1) at few

        go : (w : ℕ) → cell_at g b i v ≡ w → any other (limit_a S p) ≡ false → eqb (cell_at g b i v) 0 ≡ true
        go zero q e = eq-eqb (cell_at g b i v) 0 q
        go (suc u) q e = both (and-true (ap not (ne_eqb u a apart)) held) (any_false other (limit_a S p) e u l)
          where
            l : u < limit_a S p
            l = omega (arith, q, within)

            held : booked x p i u v ≡ true
            held = entry-v u v l hv ∙ eq-eqb (cell_at g b i v) (u + 1) (omega (arith, q))

            apart : u ≡ a → ⊥
            apart f = both (ap (λ (u : ℕ). booked x p i u v) (sym f) ∙ held) absent

-- the lowest slot of first..last that fails a question
module _ {S : Settings} {b : List ℕ} (good : Good S b) (p : Pairs) (a v first last : ℕ) (ha : a < limit_a S p) (hv : v < limit_b S p)
    (hl : last < slots S (cells_of p)) where
  slot_lt : (i : ℕ) → i ≤ last → i < slots S (cells_of p)
  slot_lt i h = omega (arith, h, hl)

  pub present-fails : failing (λ i. booked (read_state S b) p i a v) first last
      ≡ failing (λ i. eqb (cell_at (grid_of S (cells_of p)) b i (item_of p a v)) (value_of p a v + 1)) first last
  present-fails = failing-same _ _ first last (λ i _ h. entry good p i (slot_lt i h) a v ha hv a v ha hv)

  pub absent-fails : failing (λ i. not (booked (read_state S b) p i a v)) first last
      ≡ failing (λ i. not (eqb (cell_at (grid_of S (cells_of p)) b i (item_of p a v)) (value_of p a v + 1))) first last
  absent-fails = failing-same _ _ first last (λ i _ h. ap not (entry good p i (slot_lt i h) a v ha hv a v ha hv))

  pub free-fails : by_a p ≡ true → failing (λ i. not (any (λ v. booked (read_state S b) p i a v) (limit_b S p))) first last
      ≡ failing (λ i. eqb (cell_at (grid_of S (cells_of p)) b i a) 0) first last
  free-fails by = failing-same _ _ first last (λ i _ h. free-is good p i (slot_lt i h) a v ha hv by)

  -- after question 11
  module _ (passed : failing (λ i. not (booked (read_state S b) p i a v)) first last ≡ None) where
    absent-at : (i : ℕ) → first ≤ i → i ≤ last → booked (read_state S b) p i a v ≡ false
    absent-at i l h = not-true _ (failing-none (λ i. not (booked (read_state S b) p i a v)) first last passed i l h)

    pub elsewhere-a-fails : by_a p ≡ true → failing (λ i. not (any (λ a'. not (eqb a' a) && booked (read_state S b) p i a' v) (limit_a S p))) first last
        ≡ failing (λ i. not (row_has (grid_of S (cells_of p)) b i (v + 1))) first last
    elsewhere-a-fails by = failing-same _ _ first last (λ i l h. elsewhere-a-is good p i (slot_lt i h) a v ha hv by (absent-at i l h))

    pub elsewhere-v-fails : by_a p ≡ false → failing (λ i. not (any (λ a'. not (eqb a' a) && booked (read_state S b) p i a' v) (limit_a S p))) first last
        ≡ failing (λ i. eqb (cell_at (grid_of S (cells_of p)) b i v) 0) first last
    elsewhere-v-fails by = failing-same _ _ first last (λ i l h. elsewhere-v-is good p i (slot_lt i h) a v ha hv by (absent-at i l h))

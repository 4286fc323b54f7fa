-- What a write changes, cell by cell: one statement, `Writes`, for a store, and its repetition over slots and items.
-- Assumes nothing.
use Prim.Native.Nat.{ℕ, zero, suc, ◌+◌, ◌-◌, ◌/◌, ◌%◌, ◌≤◌, ◌<◌}
use mathlib.Core.Path.{◌≡◌, refl, sym, ◌∙◌, ap, ap₂, subst}
use mathlib.Core.Logic.{◌⊎◌, inl, inr}
use mathlib.Core.Bool.{Bool, true, false, ◌&&◌, cond, true≢false, and-false, and-true as and_one}
use mathlib.Core.List.{List}
use native.Mathlib.Nat.{eq-or-lt_of_le}
use native.Mathlib.Omega.{arith}
use lib.Dec.{leb, ltb, eqb}
use lib.ListN.{length, get_or, take, length-set}
use lib.Seq.{get_or-set_same, get_or-set_other, take-set-le}
use borrow.Author.Tests.{eqb-true, eqb-false, eq-eqb, leb-true, le-leb, ltb-true, lt-ltb}
use Rattle.model.specs.declared.Settings.{Settings}
use Rattle.model.specs.Site.{settings_length}
use Rattle.model.specs.Words.{Region, leaves, hotel_cells, standings, attend_cells, conf_pairs, lunch_triples, ride_cells}
use Rattle.model.specs.Words.{slots, items, width, address, base, diary_length}
use Rattle.model.specs.Reading.{at}
use Rattle.model.proofs.Search.{and_left, and_right, and-true, bool_eq}
use Rattle.model.proofs.Places.{Cell, Same, address-inj, address-lt}
use Rattle.book.specs.Grids.{place, cell_at, grid_of}
use Rattle.book.specs.declared.puts.Content.{Content}
use Rattle.book.proofs.Sweeps.{length-puts}
use Rattle.book.specs.Stores.{times, over, word_in, empty, puts, stored, cleared, swept_row, swept, replaced}
use Rattle.apply.specs.Stores.{filled, flipped, marked, marked_all}

-- the regions by number, so that they can be compared
abbrev pub index : Region → ℕ
index leaves = 0
index hotel_cells = 1
index standings = 2
index attend_cells = 3
index conf_pairs = 4
index lunch_triples = 5
index ride_cells = 6

abbrev region : ℕ → Region
region zero = leaves
region (suc zero) = hotel_cells
region (suc (suc zero)) = standings
region (suc (suc (suc zero))) = attend_cells
region (suc (suc (suc (suc zero)))) = conf_pairs
region (suc (suc (suc (suc (suc zero))))) = lunch_triples
region (suc (suc (suc (suc (suc (suc n)))))) = ride_cells

region-is : (g : Region) → region (index g) ≡ g
region-is leaves = refl
region-is hotel_cells = refl
region-is standings = refl
region-is attend_cells = refl
region-is conf_pairs = refl
region-is lunch_triples = refl
region-is ride_cells = refl

pub index-inj : (g h : Region) → index g ≡ index h → g ≡ h
index-inj g h e = sym (region-is g) ∙ ap region e ∙ region-is h

-- the cell (i, j) of region h is one of region g's with the test d
abbrev pub among : Region → (ℕ → ℕ → Bool) → Region → ℕ → ℕ → Bool
among g d h i j = eqb (index h) (index g) && d i j

-- F writes the cells of region g with the test d: word k becomes f k of the cell's first word and of word k; nothing else changes
pub record Writes (S : Settings) (g : Region) (d : ℕ → ℕ → Bool) (f : ℕ → ℕ → ℕ → ℕ) (F : List ℕ → List ℕ) : Type 0 where
  pub long : (b : List ℕ) → length (F b) ≡ length b
  pub head : (b : List ℕ) → take (settings_length S) (F b) ≡ take (settings_length S) b
  pub other : (b : List ℕ) (h : Region) (i j k : ℕ) → Cell S h i j k → among g d h i j ≡ false → at S (F b) h i j k ≡ at S b h i j k
  pub mine : (b : List ℕ) → length b ≡ diary_length S → (i j k : ℕ) → Cell S g i j k → d i j ≡ true → at S (F b) g i j k
      ≡ f k (at S b g i j 0) (at S b g i j k)

-- a cell that is not among those of a test is not among those of a narrower one
among-less : (g : Region) (d e : ℕ → ℕ → Bool) (h : Region) (i j : ℕ) → (d i j ≡ true → e i j ≡ true) → among g e h i j ≡ false → among g d h i j
    ≡ false
among-less g d e h i j l q = go (eqb (index h) (index g)) (d i j) refl q
  where
    go : (r t : Bool) → d i j ≡ t → r && e i j ≡ false → r && t ≡ false
    go false t p q = refl
    go true false p q = refl
    go true true p q = absurd (true≢false (sym (l p) ∙ q))

-- the first word of a cell
pub first_of : {S : Settings} {g : Region} {i j k : ℕ} → Cell S g i j k → Cell S g i j 0
first_of c = record { slot = c.slot; item = c.item; word = omega (arith, c.word) }

-- a test that agrees on the cells of the region
pub writes_as : {S : Settings} {g : Region} {d : ℕ → ℕ → Bool} {f : ℕ → ℕ → ℕ → ℕ} {F : List ℕ → List ℕ} (e : ℕ → ℕ → Bool)
    → ((i j : ℕ) → i < slots S g → j < items S g → e i j ≡ d i j) → Writes S g d f F → Writes S g e f F
writes_as {S} {g} {d} {f} {F} e same w =
    record {
      long = w.long;
      head = w.head;
      other = λ b h i j k c q. w.other b h i j k c (go h i j k c (eqb (index h) (index g)) refl q);
      mine = λ b l i j k c q. w.mine b l i j k c (sym (same i j c.slot c.item) ∙ q);
    }
  where
    go : (h : Region) (i j k : ℕ) → Cell S h i j k → (t : Bool) → eqb (index h) (index g) ≡ t → t && e i j ≡ false → among g d h i j ≡ false
    go h i j k c false p q = rw p
    go h i j k c true p q =
        let r : h ≡ g = index-inj h g (eqb-true _ _ p) in
        let c' : Cell S g i j k = subst (λ (h : Region). Cell S h i j k) r c in
        rw p (sym (same i j c'.slot c'.item) ∙ q)

-- ---- repetition

-- the turns lo, lo + 1, .., n of them, each writing the cells with its own key
module _ (S : Settings) (g : Region) (d : ℕ → ℕ → Bool) (key : ℕ → ℕ → ℕ) (f : ℕ → ℕ → ℕ → ℕ) (F : ℕ → List ℕ → List ℕ) where
  abbrev turn : ℕ → ℕ → ℕ → Bool
  turn m i j = d i j && eqb (key i j) m

  abbrev turns : ℕ → ℕ → ℕ → ℕ → Bool
  turns lo n i j = d i j && (leb lo (key i j) && ltb (key i j) (lo + n))

  turns-true : (lo n i j : ℕ) → turns lo n i j ≡ true → (d i j ≡ true) × (lo ≤ key i j) × (key i j < lo + n)
  turns-true lo n i j e =
      let h : leb lo (key i j) && ltb (key i j) (lo + n) ≡ true = and_right (d i j) _ e in
      (and_left (d i j) _ e, leb-true _ _ (and_left (leb lo (key i j)) _ h), ltb-true _ _ (and_right (leb lo (key i j)) _ h))

  true-turns : (lo n i j : ℕ) → d i j ≡ true → lo ≤ key i j → key i j < lo + n → turns lo n i j ≡ true
  true-turns lo n i j e l h = and-true e (and-true (le-leb _ _ l) (lt-ltb _ _ h))

  -- one turn more
  module _ (lo n : ℕ) (now : Writes S g (turn lo) f (F lo)) (rest : Writes S g (turns (suc lo) n) f (times F (suc lo) n)) where
    later : (i j : ℕ) → turns (suc lo) n i j ≡ true → turns lo (suc n) i j ≡ true
    later i j e = let h = turns-true (suc lo) n i j e in true-turns lo (suc n) i j h.0 (omega arith) (omega arith)

    first : (i j : ℕ) → turn lo i j ≡ true → turns lo (suc n) i j ≡ true
    first i j e =
        let k : key i j ≡ lo = eqb-true _ _ (and_right (d i j) _ e) in
        true-turns lo (suc n) i j (and_left (d i j) _ e) (omega arith) (omega arith)

    not-later : (i j : ℕ) → key i j ≡ lo → turns (suc lo) n i j ≡ false
    not-later i j e = go (turns (suc lo) n i j) refl
      where
        go : (t : Bool) → turns (suc lo) n i j ≡ t → turns (suc lo) n i j ≡ false
        go false q = q
        go true q = absurd (omega (arith, e, turns-true (suc lo) n i j q))

    not-now : (i j : ℕ) → eqb (key i j) lo ≡ false → turn lo i j ≡ false
    not-now i j e = rw e (and-false (d i j))

    in-region : {t : Bool} → t ≡ false → eqb (index g) (index g) && t ≡ false
    in-region e = rw (eq-eqb (index g) (index g) refl) e

    one_more : (b : List ℕ) → length b ≡ diary_length S → (i j k : ℕ) → Cell S g i j k → (d i j ≡ true) × (lo ≤ key i j) × (key i j < lo + suc n)
        → (t : Bool) → eqb (key i j) lo ≡ t → at S (times F lo (suc n) b) g i j k ≡ f k (at S b g i j 0) (at S b g i j k)
    one_more b l i j k c h true e =
        rest.other (F lo b) g i j k c (in-region (not-later i j (eqb-true _ _ e)))
        ∙ now.mine b l i j k c (and-true h.0 e)
    one_more b l i j k c h false e =
        let ne : key i j ≡ lo → ⊥ = eqb-false _ _ e in
        let low : suc lo ≤ key i j = past lo (key i j) h.1 ne in
        rest.mine (F lo b) (now.long b ∙ l) i j k c (true-turns (suc lo) n i j h.0 low (omega arith))
        ∙ ap₂ (f k) (now.other b g i j 0 (first_of c) (in-region (not-now i j e))) (now.other b g i j k c (in-region (not-now i j e)))
      where
        past : (lo m : ℕ) → lo ≤ m → (m ≡ lo → ⊥) → suc lo ≤ m
        past lo m l ne = omega arith

    turn_more : Writes S g (turns lo (suc n)) f (times F lo (suc n))
    turn_more =
        record {
          long = λ b. rest.long (F lo b) ∙ now.long b;
          head = λ b. rest.head (F lo b) ∙ now.head b;
          other = λ b h i j k c q.
              rest.other (F lo b) h i j k c (among-less g (turns (suc lo) n) (turns lo (suc n)) h i j (later i j) q)
              ∙ now.other b h i j k c (among-less g (turn lo) (turns lo (suc n)) h i j (first i j) q);
          mine = λ b l i j k c q. one_more b l i j k c (turns-true lo (suc n) i j q) (eqb (key i j) lo) refl;
        }

  times-writes : (lo n : ℕ) → ((m : ℕ) → lo ≤ m → m < lo + n → Writes S g (turn m) f (F m)) → Writes S g (turns lo n) f (times F lo n)
  times-writes lo zero w =
      record {
        long = λ b. refl;
        head = λ b. refl;
        other = λ b h i j k c q. refl;
        mine = λ b l i j k c q. absurd (omega (arith, turns-true lo 0 i j q));
      }
  times-writes lo (suc n) w = turn_more lo n (w lo (omega arith) (omega arith)) (times-writes (suc lo) n (λ m l h. w m (omega arith) (omega arith)))

  -- the same from lo to before hi
  pub over-writes : (lo hi : ℕ) → ((m : ℕ) → lo ≤ m → m < hi → Writes S g (turn m) f (F m))
      → Writes S g (λ i j. d i j && (leb lo (key i j) && ltb (key i j) hi)) f (over F lo hi)
  over-writes lo hi w =
      writes_as (λ i j. d i j && (leb lo (key i j) && ltb (key i j) hi))
      (λ i j _ _. ap (λ (t : Bool). d i j && t) (same (key i j)))
      (times-writes lo (hi - lo) (λ m l h. w m l (let q : m < hi = omega arith in q)))
    where
      same : (m : ℕ) → leb lo m && ltb m hi ≡ leb lo m && ltb m (lo + (hi - lo))
      same m =
          bool_eq _ _
          (λ e.
          let l : lo ≤ m = leb-true _ _ (and_left (leb lo m) _ e) in
          let h : m < hi = ltb-true _ _ (and_right (leb lo m) _ e) in
          and-true (le-leb lo m l) (lt-ltb m (lo + (hi - lo)) (omega arith)))
          (λ e.
          let l : lo ≤ m = leb-true _ _ (and_left (leb lo m) _ e) in
          let h : m < lo + (hi - lo) = ltb-true _ _ (and_right (leb lo m) _ e) in
          and-true (le-leb lo m l) (lt-ltb m hi (omega arith)))

-- ---- the words of one cell

pub empty-word : (k : ℕ) → word_in empty k ≡ 0
empty-word zero = refl
empty-word (suc zero) = refl
empty-word (suc (suc k)) = refl

module _ (c : Content) (n : ℕ) where
  puts-head : (h m : ℕ) (b : List ℕ) → h ≤ n → take h (puts c n m b) ≡ take h b
  puts-head h zero b l = refl
  puts-head h (suc m) b l = take-set-le h (puts c n m b) (n + m) (word_in c m) (omega arith) ∙ puts-head h m b l

  puts-out : (m : ℕ) (b : List ℕ) (p : ℕ) → ((k : ℕ) → k < m → p ≡ n + k → ⊥) → get_or (puts c n m b) p 0 ≡ get_or b p 0
  puts-out zero b p off = refl
  puts-out (suc m) b p off = get_or-set_other (puts c n m b) (n + m) p (word_in c m) 0 (off m (omega arith))
      ∙ puts-out m b p (λ k h. off k (omega arith))

  puts-in : (m : ℕ) (b : List ℕ) (k : ℕ) → k < m → n + m ≤ length b → get_or (puts c n m b) (n + k) 0 ≡ word_in c k
  puts-in zero b k h l = absurd (omega arith)
  puts-in (suc m) b k h l = go (eq-or-lt_of_le q) (λ r. puts-in m b k r (omega arith))
    where
      q : k ≤ m
      q = omega arith

      go : (k ≡ m) ⊎ (k < m) → (k < m → get_or (puts c n m b) (n + k) 0 ≡ word_in c k) → get_or (puts c n (suc m) b) (n + k) 0 ≡ word_in c k
      go (inl e) rest = rw e (get_or-set_same (puts c n m b) (n + m) (word_in c m) 0 (omega (arith, length-puts c n m b)))
      go (inr r) rest = get_or-set_other (puts c n m b) (n + m) (n + k) (word_in c m) 0 (λ e. omega arith) ∙ rest r

-- the place of a cell's words
module _ (S : Settings) (g : Region) where
  place_is : (i j k : ℕ) → address S g i j k ≡ place (grid_of S g) i j 0 + k
  unfolding address
  place_is i j k = omega arith

  head-lt : (i j : ℕ) → settings_length S ≤ place (grid_of S g) i j 0
  unfolding base
  head-lt i j = omega arith

  -- a cell is not among those at (i, j): none of its words is there
  apart : {i j : ℕ} (d : ℕ → ℕ → Bool) → d i j ≡ true → i < slots S g → j < items S g
      → (h : Region) (i' j' k' : ℕ) → Cell S h i' j' k' → among g d h i' j' ≡ false → (k : ℕ) → k < width g
      → address S h i' j' k' ≡ place (grid_of S g) i j 0 + k → ⊥
  apart {i} {j} d here hi hj h i' j' k' c q k l e =
      let s : Same h g i' j' k' i j k = address-inj S h g c (record { slot = hi; item = hj; word = l }) (e ∙ sym (place_is i j k)) in
      let t : d i' j' ≡ true = rw (s.slot, s.item) here in
      true≢false (sym (and-true (eq-eqb (index h) (index g) (ap index s.region)) t) ∙ q)

  room : {i j k : ℕ} → Cell S g i j k → (b : List ℕ) → length b ≡ diary_length S → place (grid_of S g) i j 0 + width g ≤ length b
  room {i} {j} {k} c b l =
      let w : 0 < width g = omega (arith, c.word) in
      let n : width g - 1 < width g = omega arith in
      let a : address S g i j (width g - 1) < diary_length S = address-lt S g (record { slot = c.slot; item = c.item; word = n }) in
      omega (arith, a, place_is i j (width g - 1), l)

  module _ (i j : ℕ) (hi : i < slots S g) (hj : j < items S g) (d : ℕ → ℕ → Bool) (only : (i' j' : ℕ) → d i' j' ≡ true → (i' ≡ i) × (j' ≡ j))
      (here : d i j ≡ true) where
    pub stored-writes : (c : Content) → Writes S g d (λ k a o. word_in c k) (stored (grid_of S g) c i j)
    unfolding stored
    stored-writes c =
        record {
          long = λ b. length-puts c (place (grid_of S g) i j 0) (width g) b;
          head = λ b. puts-head c (place (grid_of S g) i j 0) (settings_length S) (width g) b (head-lt i j);
          other = λ b h i' j' k' cell q. puts-out c (place (grid_of S g) i j 0) (width g) b (address S h i' j' k')
              (apart d here hi hj h i' j' k' cell q);
          mine = λ b l i' j' k cell q.
              rw ((only i' j' q).0, (only i' j' q).1, place_is i j k)
              (puts-in c (place (grid_of S g) i j 0) (width g) b k cell.word (room (record { slot = hi; item = hj; word = cell.word }) b l));
        }

    -- the first word of the cell, as the grid reads it
    cell-is : (b : List ℕ) → cell_at (grid_of S g) b i j ≡ at S b g i j 0
    unfolding cell_at address
    cell-is b = refl

    pub cleared-writes : (w : ℕ) → Writes S g d (λ k a o. cond (eqb a w) 0 o) (cleared (grid_of S g) w i j)
    unfolding cleared
    cleared-writes w =
        record {
          long = λ b. long (eqb (cell_at (grid_of S g) b i j) w) b;
          head = λ b. head (eqb (cell_at (grid_of S g) b i j) w) b;
          other = λ b h i' j' k' cell q. other (eqb (cell_at (grid_of S g) b i j) w) b h i' j' k' cell q;
          mine = λ b l i' j' k cell q.
              rw ((only i' j' q).0, (only i' j' q).1) (mine (eqb (cell_at (grid_of S g) b i j) w) b l k
              (record { slot = hi; item = hj; word = cell.word }) (ap (λ (a : ℕ). eqb a w) (cell-is b)));
        }
      where
        long : (t : Bool) (b : List ℕ) → length (cond t (stored (grid_of S g) empty i j b) b) ≡ length b
        long true b = (stored-writes empty).long b
        long false b = refl

        head : (t : Bool) (b : List ℕ) → take (settings_length S) (cond t (stored (grid_of S g) empty i j b) b) ≡ take (settings_length S) b
        head true b = (stored-writes empty).head b
        head false b = refl

        other : (t : Bool) (b : List ℕ) (h : Region) (i' j' k' : ℕ) → Cell S h i' j' k' → among g d h i' j' ≡ false
            → at S (cond t (stored (grid_of S g) empty i j b) b) h i' j' k' ≡ at S b h i' j' k'
        other true b h i' j' k' c q = (stored-writes empty).other b h i' j' k' c q
        other false b h i' j' k' c q = refl

        mine : (t : Bool) (b : List ℕ) → length b ≡ diary_length S → (k : ℕ) → Cell S g i j k → t ≡ eqb (at S b g i j 0) w
            → at S (cond t (stored (grid_of S g) empty i j b) b) g i j k ≡ cond (eqb (at S b g i j 0) w) 0 (at S b g i j k)
        mine true b l k c e = rw (← e) ((stored-writes empty).mine b l i j k c here ∙ empty-word k)
        mine false b l k c e = rw (← e)

-- one bit of a word of bits
module _ (S : Settings) (g : Region) (one_word : width g ≡ 1) (on : Bool) (v i : ℕ) (hi : i < slots S g) (hv : v / 32 < items S g)
    (d : ℕ → ℕ → Bool) (only : (i' j' : ℕ) → d i' j' ≡ true → (i' ≡ i) × (j' ≡ v / 32)) (here : d i (v / 32) ≡ true) where
  abbrev n₀ : ℕ
  n₀ = place (grid_of S g) i (v / 32) 0

  pub marked-writes : Writes S g d (λ k a o. flipped on o (v % 32)) (marked (grid_of S g) on v i)
  unfolding marked replaced cell_at address
  marked-writes =
      record {
        long = λ b. length-set b n₀ _;
        head = λ b. take-set-le (settings_length S) b n₀ _ (head-lt S g i (v / 32));
        other = λ b h i' j' k' cell q.
            get_or-set_other b n₀ (address S h i' j' k') _ 0
            (λ e. apart S g d here hi hv h i' j' k' cell q 0 (omega (arith, one_word))
            (let z : address S h i' j' k' ≡ n₀ + 0 = omega (arith, e) in z));
        mine = λ b l i' j' k cell q.
            let z : k ≡ 0 = omega (arith, cell.word, one_word) in
            rw ((only i' j' q).0, (only i' j' q).1, z)
            (get_or-set_same b n₀ _ 0 (omega (arith, one_word, room S g {k = k} (record { slot = hi; item = hv; word = cell.word }) b l)));
      }

-- ---- the three writes of the engine

module _ (S : Settings) (g : Region) where
  pub filled-writes : (j : ℕ) (c : Content) (from to : ℕ) → to ≤ slots S g → j < items S g
      → Writes S g (λ i' j'. eqb j' j && (leb from i' && ltb i' to)) (λ k a o. word_in c k) (filled (grid_of S g) j c from to)
  unfolding filled
  filled-writes j c from to h hj =
      over-writes S g (λ i' j'. eqb j' j) (λ i' j'. i') (λ k a o. word_in c k) (λ i. stored (grid_of S g) c i j) from to
      (λ m _ l. stored-writes S g m j (omega arith) hj (λ i' j'. eqb j' j && eqb i' m)
      (λ i' j' q. (eqb-true i' m (and_right (eqb j' j) _ q), eqb-true j' j (and_left (eqb j' j) _ q)))
      (and-true (eq-eqb j j refl) (eq-eqb m m refl)) c)

  pub swept-writes : (w from to : ℕ) → to ≤ slots S g
      → Writes S g (λ i' j'. leb from i' && ltb i' to) (λ k a o. cond (eqb a w) 0 o) (swept (grid_of S g) w from to)
  unfolding swept swept_row
  swept-writes w from to h =
      over-writes S g (λ i' j'. true) (λ i' j'. i') (λ k a o. cond (eqb a w) 0 o) (λ i. swept_row (grid_of S g) w i) from to
      (λ m _ l. row m (omega arith))
    where
      row : (i : ℕ) → i < slots S g → Writes S g (λ i' j'. eqb i' i) (λ k a o. cond (eqb a w) 0 o) (swept_row (grid_of S g) w i)
      row i hi =
          writes_as (λ i' j'. eqb i' i)
          (λ i' j' _ hj. rw (le-leb 0 j' (omega arith), lt-ltb j' (items S g) hj) (sym (and_one (eqb i' i))))
          (over-writes S g (λ i' j'. eqb i' i) (λ i' j'. j') (λ k a o. cond (eqb a w) 0 o) (λ j. cleared (grid_of S g) w i j) 0 (items S g)
          (λ m _ l. cleared-writes S g i m hi l (λ i' j'. eqb i' i && eqb j' m)
          (λ i' j' q. (eqb-true i' i (and_left (eqb i' i) _ q), eqb-true j' m (and_right (eqb i' i) _ q)))
          (and-true (eq-eqb i i refl) (eq-eqb m m refl)) w))

  pub marked_all-writes : width g ≡ 1 → (on : Bool) (v from to : ℕ) → to ≤ slots S g → v / 32 < items S g
      → Writes S g (λ i' j'. eqb j' (v / 32) && (leb from i' && ltb i' to)) (λ k a o. flipped on o (v % 32)) (marked_all (grid_of S g) on v from to)
  unfolding marked_all
  marked_all-writes one_word on v from to h hv =
      over-writes S g (λ i' j'. eqb j' (v / 32)) (λ i' j'. i') (λ k a o. flipped on o (v % 32)) (λ i. marked (grid_of S g) on v i) from to
      (λ m _ l. marked-writes S g one_word on v m (omega arith) hv (λ i' j'. eqb j' (v / 32) && eqb i' m)
      (λ i' j' q. (eqb-true i' m (and_right (eqb j' (v / 32)) _ q), eqb-true j' (v / 32) (and_left (eqb j' (v / 32)) _ q)))
      (and-true (eq-eqb (v / 32) (v / 32) refl) (eq-eqb m m refl)))

-- The layout of regions one behind another, over the words W that a cell of each region takes, the number Z of words of each region, and
-- what stands in them: the length, the word at a place, that places differ, and that a list is what stands at its places. Each law is
-- over the list of regions, and none goes through the regions one by one.
-- Assumes nothing.
use Prim.Native.Nat.{ℕ, ◌+◌, ◌*◌, ◌/◌, ◌%◌, ◌≤◌, ◌<◌}
use mathlib.Core.Path.{◌≡◌, refl, sym, ◌∙◌, ap, ap₂}
use mathlib.Core.Logic.{◌⊎◌, inl, inr}
use mathlib.Core.List.{List, [], ◌∷◌, ◌++◌, head-eq_of_cons-eq, tail-eq_of_cons-eq, nil≢cons}
use native.Mathlib.Nat.{zero-add, add_assoc, zero-mul, mul-zero, mod-lt, div-add-mod', div-lt_iff_lt-mul, eq-zero-or-pos}
use native.Mathlib.Omega.{arith}
use lib.Arith.{digits_lt, digits_div, digits_mod}
use lib.ListN.{length, get_or, take, drop, length-append, length-take, length-drop, take-append-drop, get_or-append}
use lib.Seq.{get_or-append-add, ext_get_or, get_or-take, get_or-drop}
use Rattle.model.specs.declared.Settings.{Settings}
use Rattle.model.specs.Words.{Region, leaves, hotel_cells, standings, attend_cells, conf_pairs, lunch_triples, ride_cells}
use Rattle.model.specs.Words.{slots, items, order, before, size_by, total_by, place_by, slot_at, item_at, word_at, Content, blocks_by}

-- the regions after one
after : Region → List Region
after leaves = hotel_cells ∷ standings ∷ attend_cells ∷ conf_pairs ∷ lunch_triples ∷ ride_cells ∷ []
after hotel_cells = standings ∷ attend_cells ∷ conf_pairs ∷ lunch_triples ∷ ride_cells ∷ []
after standings = attend_cells ∷ conf_pairs ∷ lunch_triples ∷ ride_cells ∷ []
after attend_cells = conf_pairs ∷ lunch_triples ∷ ride_cells ∷ []
after conf_pairs = lunch_triples ∷ ride_cells ∷ []
after lunch_triples = ride_cells ∷ []
after ride_cells = []

order-split : (g : Region) → order ≡ before g ++ g ∷ after g
unfolding after
order-split leaves = refl
order-split hotel_cells = refl
order-split standings = refl
order-split attend_cells = refl
order-split conf_pairs = refl
order-split lunch_triples = refl
order-split ride_cells = refl

-- no region stands twice
before-is : (bs : List Region) (g : Region) (cs : List Region) → order ≡ bs ++ g ∷ cs → bs ≡ before g
before-is [] g cs e = cc
before-is (a ∷ []) g cs e = cc
before-is (a ∷ b ∷ []) g cs e = cc
before-is (a ∷ b ∷ c ∷ []) g cs e = cc
before-is (a ∷ b ∷ c ∷ d ∷ []) g cs e = cc
before-is (a ∷ b ∷ c ∷ d ∷ f ∷ []) g cs e = cc
before-is (a ∷ b ∷ c ∷ d ∷ f ∷ h ∷ []) g cs e = cc
before-is (a ∷ b ∷ c ∷ d ∷ f ∷ h ∷ k ∷ bs) g cs e = absurd (no_more bs g cs (tails e))
  where
    tails : order ≡ a ∷ b ∷ c ∷ d ∷ f ∷ h ∷ k ∷ (bs ++ g ∷ cs) → Path (List Region) [] (bs ++ g ∷ cs)
    tails p = cc

    no_more : (bs : List Region) (g : Region) (cs : List Region) → Path (List Region) [] (bs ++ g ∷ cs) → ⊥
    no_more [] g cs e = nil≢cons e
    no_more (b ∷ bs) g cs e = nil≢cons e

-- a cell of a region: slot i, item j, word k
pub record CellBy (W : Region → ℕ) (S : Settings) (g : Region) (i j k : ℕ) : Type 0 where
  pub slot : i < slots S g
  pub item : j < items S g
  pub word : k < W g

module _ {W : Region → ℕ} {S : Settings} {g : Region} {i j k : ℕ} (c : CellBy W S g i j k) where
  pub place-lt : place_by W S g i j k < size_by W S g
  place-lt = digits_lt (digits_lt c.slot c.item) c.word

  cell-of : place_by W S g i j k / W g ≡ i * items S g + j
  cell-of = digits_div (i * items S g + j) c.word

  slot_of : slot_at W S g (place_by W S g i j k) ≡ i
  slot_of = ap (λ (n : ℕ). n / items S g) cell-of ∙ digits_div i c.item

  item_of : item_at W S g (place_by W S g i j k) ≡ j
  item_of = ap (λ (n : ℕ). n % items S g) cell-of ∙ digits_mod i c.item

  word_of : word_at W g (place_by W S g i j k) ≡ k
  word_of = digits_mod (i * items S g + j) c.word

-- a place of a region is a cell's
module _ (W : Region → ℕ) (wide : (g : Region) → 0 < W g) (S : Settings) (g : Region) (n : ℕ) (h : n < size_by W S g) where
  place_at : place_by W S g (slot_at W S g n) (item_at W S g n) (word_at W g n) ≡ n
  place_at = ap (λ (m : ℕ). m * W g + n % W g) (div-add-mod' (n / W g) (items S g)) ∙ div-add-mod' n (W g)

  items-pos : 0 < items S g
  items-pos = go (eq-zero-or-pos (items S g))
    where
      go : (items S g ≡ 0) ⊎ (0 < items S g) → 0 < items S g
      go (inl e) =
          let z : slots S g * items S g * W g ≡ 0 = rw (e, mul-zero, zero-mul) in
          absurd (omega (arith, z, h))
      go (inr p) = p

  cell_at : CellBy W S g (slot_at W S g n) (item_at W S g n) (word_at W g n)
  cell_at =
      record {
        slot = (div-lt_iff_lt-mul items-pos).1 ((div-lt_iff_lt-mul (wide g)).1 h);
        item = mod-lt (n / W g) items-pos;
        word = mod-lt n (wide g);
      }

pub total-append : (Z : Region → ℕ) (bs cs : List Region) → total_by Z (bs ++ cs) ≡ total_by Z bs + total_by Z cs
total-append Z [] cs = sym (zero-add (total_by Z cs))
total-append Z (b ∷ bs) cs = omega (arith, total-append Z bs cs)

-- two places in a list of regions are the same region's, or the one region ends before the other begins
data Order (Z : Region → ℕ) (bs cs : List Region) (g h : Region) : Type 0 where
  same : bs ≡ cs → g ≡ h → Order Z bs cs g h
  first : total_by Z bs + Z g ≤ total_by Z cs → Order Z bs cs g h
  second : total_by Z cs + Z h ≤ total_by Z bs → Order Z bs cs g h

regions-apart : (Z : Region → ℕ) (bs cs : List Region) {g h : Region} (ps qs : List Region) → bs ++ g ∷ ps ≡ cs ++ h ∷ qs → Order Z bs cs g h
regions-apart Z [] [] ps qs e = same refl (head-eq_of_cons-eq e)
regions-apart Z [] (c ∷ cs) {g} ps qs e = first (rw (head-eq_of_cons-eq e) (omega arith))
regions-apart Z (b ∷ bs) [] {g} {h} ps qs e = second (rw (← head-eq_of_cons-eq e) (omega arith))
regions-apart Z (b ∷ bs) (c ∷ cs) {g} {h} ps qs e = go (head-eq_of_cons-eq e) (regions-apart Z bs cs ps qs (tail-eq_of_cons-eq e))
  where
    go : b ≡ c → Order Z bs cs g h → Order Z (b ∷ bs) (c ∷ cs) g h
    go k (same p q) = same (ap₂ (λ (a : Region) (l : List Region). a ∷ l) k p) q
    go k (first l) = first (omega (arith, ap Z k))
    go k (second l) = second (omega (arith, ap Z k))

-- two words of cells are the same
pub record Same (g h : Region) (i j k i' j' k' : ℕ) : Type 0 where
  pub region : g ≡ h
  pub slot : i ≡ i'
  pub item : j ≡ j'
  pub word : k ≡ k'

-- the places of two words are equal only if the words are the same
module _ (W Z : Region → ℕ) (S : Settings) (z : (g : Region) → Z g ≡ size_by W S g) (g h : Region) {i j k i' j' k' : ℕ}
    (c : CellBy W S g i j k) (d : CellBy W S h i' j' k') where
  same_place : g ≡ h → place_by W S g i j k ≡ place_by W S h i' j' k' → Same g h i j k i' j' k'
  same_place e p =
      record {
        region = e;
        slot = sym (slot_of c) ∙ ap₂ (λ (f : Region) (n : ℕ). slot_at W S f n) e p ∙ slot_of d;
        item = sym (item_of c) ∙ ap₂ (λ (f : Region) (n : ℕ). item_at W S f n) e p ∙ item_of d;
        word = sym (word_of c) ∙ ap₂ (λ (f : Region) (n : ℕ). word_at W f n) e p ∙ word_of d;
      }

  pub places-differ : total_by Z (before g) + place_by W S g i j k ≡ total_by Z (before h) + place_by W S h i' j' k' → Same g h i j k i' j' k'
  places-differ e = go (regions-apart Z (before g) (before h) (after g) (after h) (sym (order-split g) ∙ order-split h))
    where
      go : Order Z (before g) (before h) g h → Same g h i j k i' j' k'
      go (same p q) = same_place q (omega (arith, ap (total_by Z) p, e))
      go (first l) = absurd (omega (arith, place-lt c, z g, e))
      go (second l) = absurd (omega (arith, place-lt d, z h, e))

-- a place lies among the words of all the regions
pub place-within : (W Z : Region → ℕ) (S : Settings) → ((g : Region) → Z g ≡ size_by W S g) → (g : Region) {i j k : ℕ} → CellBy W S g i j k
    → total_by Z (before g) + place_by W S g i j k < total_by Z order
place-within W Z S z g c = omega (arith, place-lt c, z g, ap (total_by Z) (order-split g), total-append Z (before g) (g ∷ after g))

-- regions B of Z words each, in which f stands
pub record Arranged (W Z : Region → ℕ) (S : Settings) (B : Region → List ℕ) (f : Content) : Type 0 where
  pub size : (g : Region) → Z g ≡ size_by W S g
  pub long : (g : Region) → length (B g) ≡ Z g
  pub content : (g : Region) (n : ℕ) → n < Z g → get_or (B g) n 0 ≡ f g (slot_at W S g n) (item_at W S g n) (word_at W g n)

module _ {W Z : Region → ℕ} {S : Settings} {B : Region → List ℕ} {f : Content} (r : Arranged W Z S B f) where
  pub length-blocks : (gs : List Region) → length (blocks_by B gs) ≡ total_by Z gs
  length-blocks [] = refl
  length-blocks (g ∷ gs) = length-append (B g) (blocks_by B gs) ∙ ap₂ ◌+◌ (r.long g) (length-blocks gs)

  -- a place of a region, behind the regions of bs
  blocks_at : (bs : List Region) (g : Region) (cs : List Region) (n : ℕ) → n < Z g
      → get_or (blocks_by B (bs ++ g ∷ cs)) (total_by Z bs + n) 0 ≡ get_or (B g) n 0
  blocks_at [] g cs n h =
      ap (λ (k : ℕ). get_or (B g ++ blocks_by B cs) k 0) (zero-add n) ∙ get_or-append (B g) (blocks_by B cs) 0 n (omega (arith, r.long g, h))
  blocks_at (b ∷ bs) g cs n h =
      let e : Z b + total_by Z bs + n ≡ length (B b) + (total_by Z bs + n) = omega (arith, r.long b) in
      ap (λ (k : ℕ). get_or (B b ++ blocks_by B (bs ++ g ∷ cs)) k 0) e
      ∙ get_or-append-add (B b) (blocks_by B (bs ++ g ∷ cs)) (total_by Z bs + n) 0
      ∙ blocks_at bs g cs n h

  -- the word at a place
  pub content-at : (g : Region) {i j k : ℕ} → CellBy W S g i j k → get_or (blocks_by B order) (total_by Z (before g) + place_by W S g i j k) 0 ≡ f g i j k
  content-at g {i} {j} {k} c =
      let l : place_by W S g i j k < Z g = omega (arith, place-lt c, r.size g) in
      ap (λ (gs : List Region). get_or (blocks_by B gs) (total_by Z (before g) + place_by W S g i j k) 0) (order-split g)
      ∙ blocks_at (before g) g (after g) (place_by W S g i j k) l
      ∙ r.content g (place_by W S g i j k) l
      ∙ rw (slot_of c, item_of c, word_of c)

  -- a list that has each region's words at its place is the regions one behind another
  blocks-ext : (gs : List Region) (l : List ℕ) → length l ≡ total_by Z gs
      → ((bs : List Region) (g : Region) (cs : List Region) → gs ≡ bs ++ g ∷ cs → (n : ℕ) → n < Z g → get_or l (total_by Z bs + n) 0 ≡ get_or (B g) n 0)
      → l ≡ blocks_by B gs
  blocks-ext [] [] e q = refl
  blocks-ext [] (a ∷ l) e q = absurd (omega arith)
  blocks-ext (g ∷ gs) l e q =
      sym (take-append-drop (Z g) l)
      ∙ ap₂ (λ (a b : List ℕ). a ++ b)
      (ext_get_or 0 (take (Z g) l) (B g) (omega (arith, length-take (Z g) l, r.long g, e))
      (λ n h.
      let k : n < Z g = omega (arith, length-take (Z g) l) in
      get_or-take (Z g) l n 0 k ∙ ap (λ (m : ℕ). get_or l m 0) (sym (zero-add n)) ∙ q [] g gs refl n k))
      (blocks-ext gs (drop (Z g) l) (omega (arith, length-drop (Z g) l, e))
      (λ bs h cs p n k.
      get_or-drop (Z g) l (total_by Z bs + n) 0
      ∙ ap (λ (m : ℕ). get_or l m 0) (sym (add_assoc (Z g) (total_by Z bs) n))
      ∙ q (g ∷ bs) h cs (ap (λ (r : List Region). g ∷ r) p) n k))

  -- a list in which f stands at every place is the regions one behind another
  pub content-ext : ((g : Region) → 0 < W g) → (l : List ℕ) → length l ≡ total_by Z order
      → ((g : Region) (i j k : ℕ) → CellBy W S g i j k → get_or l (total_by Z (before g) + place_by W S g i j k) 0 ≡ f g i j k) → l ≡ blocks_by B order
  content-ext wide l e q = blocks-ext order l e (λ bs g cs p n h. rw (before-is bs g cs p) (there g n h))
    where
      there : (g : Region) (n : ℕ) → n < Z g → get_or l (total_by Z (before g) + n) 0 ≡ get_or (B g) n 0
      there g n h =
          let m : n < size_by W S g = omega (arith, h, r.size g) in
          ap (λ (p : ℕ). get_or l (total_by Z (before g) + p) 0) (sym (place_at W wide S g n m))
          ∙ q g (slot_at W S g n) (item_at W S g n) (word_at W g n) (cell_at W wide S g n m)
          ∙ sym (r.content g n h)

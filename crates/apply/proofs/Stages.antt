-- A book that has the words of a state, and one write after which it has the words of another.
-- Assumes nothing.
use Prim.Native.Nat.{ℕ, ◌+◌, ◌/◌, ◌%◌, ◌≤◌, ◌<◌}
use mathlib.Core.Path.{◌≡◌, refl, sym, ◌∙◌, ap, ap₂, subst}
use mathlib.Core.Bool.{Bool, true, false, ◌&&◌, cond, and_comm}
use mathlib.Core.List.{List, ◌++◌}
use native.Mathlib.Omega.{arith}
use lib.Dec.{leb, ltb, eqb}
use lib.ListN.{length, take}
use lib.Seq.{take_at}
use borrow.Author.Tests.{eqb-true, eq-eqb, leb-true, le-leb, ltb-true, lt-ltb}
use Rattle.model.specs.declared.Settings.{Settings}
use Rattle.model.specs.declared.Request.{Request}
use Rattle.model.specs.Site.{settings_length, settings_words}
use Rattle.model.specs.State.{State}
use Rattle.model.specs.Kinds.{Kind, row, slots_of}
use Rattle.model.specs.Questions.{always, further}
use Rattle.model.specs.Machine.{slot}
use Rattle.model.specs.Words.{Region, slots, items, width, order, diary_length, word, words, blocks}
use Rattle.model.specs.Reading.{at, settings_of, read_state, state_of}
use Rattle.model.specs.Laws.{diary_laid, diary_lawful}
use Rattle.model.proofs.Search.{bool_eq}
use Rattle.model.proofs.Places.{Seated, Cell, words-at, words-ext, length-words, length-settings}
use Rattle.model.proofs.Keeps.{Yes, said, slots-fit}
use Rattle.model.proofs.ReadBack.{valid-is, seated}
use Rattle.model.proofs.Shown.{valid-settings, words-state_of}
use Rattle.book.specs.Grids.{grid_of}
use Rattle.book.specs.declared.puts.Content.{Content}
use Rattle.book.specs.Stores.{word_in, swept}
use Rattle.apply.specs.Stores.{filled, flipped, marked_all}
use Rattle.apply.proofs.Writes.{index, index-inj, Writes, writes_as, first_of, filled-writes, swept-writes, marked_all-writes}

-- the book b, laid out by S, has the words of x
pub record Carries (S : Settings) (x : State) (b : List ℕ) : Type 0 where
  pub long : length b ≡ diary_length S
  pub head : take (settings_length S) b ≡ settings_words S
  pub same : (h : Region) (i j k : ℕ) → Cell S h i j k → at S b h i j k ≡ word x h i j k

pub carries-all : (x : State) (b : List ℕ) → Carries x.settings x b → b ≡ words x
carries-all x b a = words-ext x b a.same a.long a.head

pub carries_words : (x : State) → Seated x.settings → Carries x.settings x (words x)
unfolding words
carries_words x s =
    record {
      long = length-words x s;
      head = take_at (settings_words x.settings) (blocks x order) (settings_length x.settings) (length-settings x.settings s);
      same = λ h i j k c. words-at x s h c;
    }

-- a book that passes questions 1 and 2 has the words of the state that it shows
pub carries-shown : (b : List ℕ) → diary_laid b ≡ true → diary_lawful b ≡ true → Carries (settings_of b) (state_of b) b
unfolding state_of read_state
carries-shown b q1 q2 =
    subst (λ (l : List ℕ). Carries (settings_of b) (state_of b) l) (words-state_of b q1 q2)
    (carries_words (state_of b) (seated (valid-is (settings_of b) (valid-settings b q1 q2))))

-- two states that differ in the words of one region alone
abbrev pub Frame : Region → State → State → Type 0
Frame g x y = (h : Region) → eqb (index h) (index g) ≡ false → (i j k : ℕ) → word y h i j k ≡ word x h i j k

module _ {S : Settings} {x : State} {b : List ℕ} (a : Carries S x b) (g : Region) (d : ℕ → ℕ → Bool) (f : ℕ → ℕ → ℕ → ℕ) (F : List ℕ → List ℕ)
    (w : Writes S g d f F)
    (y : State) (frame : Frame g x y)
    (here : (i j k : ℕ) → Cell S g i j k → word y g i j k ≡ cond (d i j) (f k (word x g i j 0) (word x g i j k)) (word x g i j k)) where
  at_g : (i j k : ℕ) → Cell S g i j k → (t : Bool) → d i j ≡ t → at S (F b) g i j k ≡ cond t (f k (word x g i j 0) (word x g i j k)) (word x g i j k)
  at_g i j k c true e = w.mine b a.long i j k c e ∙ ap₂ (f k) (a.same g i j 0 (first_of c)) (a.same g i j k c)
  at_g i j k c false e = w.other b g i j k c (rw (eq-eqb (index g) (index g) refl) e) ∙ a.same g i j k c

  at-h : (h : Region) (i j k : ℕ) → Cell S h i j k → (t : Bool) → eqb (index h) (index g) ≡ t → at S (F b) h i j k ≡ word y h i j k
  at-h h i j k c false e = w.other b h i j k c (rw e) ∙ a.same h i j k c ∙ sym (frame h e i j k)
  at-h h i j k c true e =
      let q : g ≡ h = sym (index-inj h g (eqb-true _ _ e)) in
      subst (λ (h : Region). Cell S h i j k → at S (F b) h i j k ≡ word y h i j k) q (λ c. at_g i j k c (d i j) refl ∙ sym (here i j k c)) c

  next : Carries S y (F b)
  next =
      record {
        long = w.long b ∙ a.long;
        head = w.head b ∙ a.head;
        same = λ h i j k c. at-h h i j k c (eqb (index h) (index g)) refl;
      }

-- the three writes, in the slots of a test that holds from `from` to before `to`
module _ {S : Settings} {x : State} {b : List ℕ} (a : Carries S x b) (g : Region) (t : ℕ → Bool) (from to : ℕ) (most : to ≤ slots S g)
    (agree : (i : ℕ) → i < slots S g → t i ≡ leb from i && ltb i to) (y : State) (frame : Frame g x y) where
  pub column : (j : ℕ) (c : Content) → j < items S g
      → ((i j' k : ℕ) → Cell S g i j' k → word y g i j' k ≡ cond (t i && eqb j' j) (word_in c k) (word x g i j' k))
      → Carries S y (filled (grid_of S g) j c from to b)
  column j c hj here =
      next a g (λ i j'. t i && eqb j' j) (λ k _ _. word_in c k) (filled (grid_of S g) j c from to)
      (writes_as (λ i j'. t i && eqb j' j) (λ i j' h _. and_comm (t i) (eqb j' j) ∙ ap (λ (s : Bool). eqb j' j && s) (agree i h))
      (filled-writes S g j c from to most hj))
      y frame here

  pub rows : (w : ℕ)
      → ((i j k : ℕ) → Cell S g i j k → word y g i j k ≡ cond (t i) (cond (eqb (word x g i j 0) w) 0 (word x g i j k)) (word x g i j k))
      → Carries S y (swept (grid_of S g) w from to b)
  rows w here =
      next a g (λ i j. t i) (λ k m o. cond (eqb m w) 0 o) (swept (grid_of S g) w from to)
      (writes_as (λ i j. t i) (λ i j h _. agree i h) (swept-writes S g w from to most))
      y frame here

  pub bits : width g ≡ 1 → (on : Bool) (v : ℕ) → v / 32 < items S g
      → ((i j k : ℕ) → Cell S g i j k → word y g i j k ≡ cond (t i && eqb j (v / 32)) (flipped on (word x g i j k) (v % 32)) (word x g i j k))
      → Carries S y (marked_all (grid_of S g) on v from to b)
  bits one_word on v hv here =
      next a g (λ i j. t i && eqb j (v / 32)) (λ k m o. flipped on o (v % 32)) (marked_all (grid_of S g) on v from to)
      (writes_as (λ i j. t i && eqb j (v / 32)) (λ i j h _. and_comm (t i) (eqb j (v / 32)) ∙ ap (λ (s : Bool). eqb j (v / 32) && s) (agree i h))
      (marked_all-writes S g one_word on v from to most hv))
      y frame here

-- from ≤ i ≤ last, and before last + 1
pub up_to : (from last i : ℕ) → leb from i && leb i last ≡ leb from i && ltb i (last + 1)
up_to from last i =
    ap (λ (t : Bool). leb from i && t)
    (bool_eq (leb i last) (ltb i (last + 1))
    (λ e. let l : i ≤ last = leb-true i last e in lt-ltb i (last + 1) (omega arith))
    (λ e. let l : i < last + 1 = ltb-true i (last + 1) e in le-leb i last (omega arith)))

-- the slots of a request
pub in-slots : (r : Request) (i : ℕ) → slot r i ≡ leb r.first i && ltb i (r.last + 1)
in-slots r i = up_to r.first r.last i

pub last-slot : (x : State) (r : Request) (k : Kind) → Yes x r k (always ++ further k) → r.last + 1 ≤ slots_of x.settings (row k).unit
last-slot x r k y = omega (arith, slots-fit x r k (said x r k 7 y))

-- The head of a book: what the tests of single limits and capacities make of the model's tests.
-- Assumes nothing.
use Prim.Native.Nat.{ℕ, ◌≤◌, ◌<◌}
use mathlib.Core.Path.{◌≡◌, refl, sym, ◌∙◌, ap, subst}
use mathlib.Core.Bool.{Bool, true, false, cond, not, ◌&&◌, and_assoc, and-true}
use mathlib.Core.List.{List}
use native.Mathlib.Omega.{arith}
use lib.Dec.{leb, ltb, eqb}
use lib.ListN.{length, get_or, get_or-eq_default}
use lib.Seq.{ext_get_or}
use borrow.Author.Tests.{ltb-true, ltb-false, le-leb, lt-leb, eqb-true, eq-eqb, ne_eqb}
use Rattle.model.specs.declared.Settings.{Settings}
use Rattle.model.specs.Bounded.{all, within, list}
use Rattle.model.specs.Site.{valid_settings, fixed_words, settings_length}
use Rattle.model.specs.Words.{diary_length, ride_cells, base, size}
use Rattle.model.specs.Reading.{settings_of}
use Rattle.model.specs.Ledger.{book_length}
use Rattle.model.specs.Laws.{well_laid, diary_laid}
use Rattle.model.specs.Calls.{settings_good}
use Rattle.std.specs.Prelude.{MatchBool, None, Some}
use Rattle.std.specs.List.{zip, range_with_len, AllWithin, HoldsAt}
use Rattle.std.proofs.lemmas.List.FromFn.{length-range_with_len, get_or-range_with_len}
use Rattle.std.proofs.lemmas.Slice.Zip.{length-zip, get_or-zip}
use Rattle.model.proofs.Search.{true-any, true-all, and_left, and_right}
use Rattle.model.proofs.Places.{length-list, get_d-list}
use Rattle.model.proofs.ReadBack.{Valid, valid-is as model-valid}
use Rattle.book.specs.Grids.{grid_of, end, Laid}
use Rattle.book.proofs.Goods.{ranges-by}
use Rattle.header.specs.Heads.{seat_good, needed_length}

pub seats-by : (f : ℕ → ℕ) (l : List ℕ) → length l ≡ 16 → ((k : ℕ) → k < 16 → get_or l k 0 ≡ f k) → l ≡ list f 16
seats-by f l n h = ext_get_or 0 l (list f 16) (n ∙ sym (length-list f 16)) (λ k g. h k (omega arith) ∙ sym (get_d-list f 16 k (omega arith)))

-- one number that fails a test of all
pub not-all : (p : ℕ → Bool) (n k : ℕ) → k < n → p k ≡ false → all p n ≡ false
not-all p n k h e = ap not (true-any (λ i. not (p i)) n k h (ap not e))

-- the tests of the limits, joined as the code joins them
pub valid-is : (S : Settings) → length S.capacities ≡ 16
    → (within 1 400 S.dates && within 1 16 S.sessions && within 1 96 S.times) && (within 1 512 S.visitors && within 1 128 S.meetings)
    && (within 1 64 S.rooms && within 1 16 S.dining && within 1 512 S.hotels) && within 1 128 S.transports && ltb S.early S.times
    && all (seat_good S) 16
    ≡ valid_settings S
unfolding valid_settings
valid-is S h =
    tests (within 1 400 S.dates) (within 1 16 S.sessions) (within 1 96 S.times) (within 1 512 S.visitors) (within 1 128 S.meetings)
    (within 1 64 S.rooms) (within 1 16 S.dining) (within 1 512 S.hotels) (within 1 128 S.transports) (ltb S.early S.times)
    (eqb (length S.capacities) 16) (all (seat_good S) 16) (eq-eqb _ _ h)
  where
    tests : (a b c d e f g h i j n s : Bool) → n ≡ true → (a && b && c) && (d && e) && (f && g && h) && i && j && s
        ≡ a && (b && (c && (d && (e && (f && (g && (h && (i && (j && (n && (s && true)))))))))))
    tests a b c d e f g h i j n s q = rw q (simp (and_assoc, and-true))

-- capacities of valid settings are small
pub seats-low : (S : Settings) → valid_settings S ≡ true → (length S.capacities ≡ 16) × ((g : ℕ) → get_or S.capacities g 0 ≤ 1000)
seats-low S e = (v.all16, λ g. go g (ltb g S.dining) refl (ltb g 16) refl)
  where
    v : Valid S
    v = model-valid S e

    go : (g : ℕ) (b : Bool) → ltb g S.dining ≡ b → (c : Bool) → ltb g 16 ≡ c → get_or S.capacities g 0 ≤ 1000
    go g true q c p = (v.seats g (ltb-true g S.dining q)).1
    go g false q true p = omega (arith, v.rest g (ltb-false g S.dining q) (ltb-true g 16 p))
    go g false q false p = omega (arith, get_or-eq_default S.capacities 0 {n = g} (omega (arith, v.all16, ltb-false g 16 p)))

-- the book ends where its last region does
pub book-end : (S : Settings) → end (grid_of S ride_cells) ≡ diary_length S
unfolding diary_length base size
book-end S = omega arith

-- what question 1 leaves to know of a diary
pub laid-valid : (b : List ℕ) → diary_laid b ≡ true → valid_settings (settings_of b) ≡ true
unfolding diary_laid
laid-valid b e = and_right (leb fixed_words (length b)) _ (and_left (leb fixed_words (length b) && valid_settings (settings_of b)) _ e)

pub laid-is : (b : List ℕ) → diary_laid b ≡ true → (S : Settings) → S ≡ settings_of b → Laid S b
unfolding diary_laid
laid-is b e S q =
    record {
      ranges = ranges-by S (ap valid_settings q ∙ laid-valid b e);
      long = eqb-true _ _ (and_right (leb fixed_words (length b) && valid_settings (settings_of b)) _ e) ∙ ap diary_length (sym q);
    }

-- question 1, by what the code finds
pub laid-short : (b : List ℕ) → length b < fixed_words → well_laid b ≡ false
unfolding well_laid
laid-short b h = rw (lt-leb fixed_words (length b) h)

module _ (b : List ℕ) (S : Settings) (is : S ≡ settings_of b) (long : fixed_words ≤ length b) where
  pub laid-bad : valid_settings S ≡ false → well_laid b ≡ false
  unfolding well_laid
  laid-bad v = rw (le-leb fixed_words (length b) long, ← is, v)

  pub laid-good : valid_settings S ≡ true → (n : ℕ) → n ≡ book_length S → well_laid b ≡ eqb (length b) n
  unfolding well_laid
  laid-good v n q = rw (le-leb fixed_words (length b) long, ← is, v, q)

  -- question 24
  pub good_length : (length b ≡ settings_length S → ⊥) → settings_good b ≡ false
  unfolding settings_good
  good_length n = rw (le-leb fixed_words (length b) long, ← is, ne_eqb (length b) (settings_length S) n)

  pub good-valid : length b ≡ settings_length S → settings_good b ≡ valid_settings S
  unfolding settings_good
  good-valid e = rw (le-leb fixed_words (length b) long, ← is, eq-eqb (length b) (settings_length S) e)

pub good-short : (b : List ℕ) → length b < fixed_words → settings_good b ≡ false
unfolding settings_good
good-short b h = rw (lt-leb fixed_words (length b) h)

pub good-is : (b : List ℕ) → settings_good b ≡ true → (length b ≡ settings_length (settings_of b)) × (valid_settings (settings_of b) ≡ true)
unfolding settings_good
good-is b e =
    let l = and_left (leb fixed_words (length b) && eqb (length b) (settings_length (settings_of b))) (valid_settings (settings_of b)) e in (
      eqb-true _ _ (and_right (leb fixed_words (length b)) _ l),
      and_right (leb fixed_words (length b) && eqb (length b) (settings_length (settings_of b))) _ e,
    )

pub needed-none : (b : List ℕ) → settings_good b ≡ false → needed_length b ≡ None
unfolding needed_length
needed-none b e = rw e

pub needed-some : (b : List ℕ) → settings_good b ≡ true → needed_length b ≡ Some (book_length (settings_of b))
unfolding needed_length
needed-some b e = rw e

-- ---- the capacities, each beside its number

abbrev seats : Settings → List (ℕ × ℕ)
seats S = zip (range_with_len 0 16) S.capacities

abbrev pub seat_said : Settings → ℕ × ℕ → Bool
seat_said S y = cond (ltb y.0 S.dining) (within 1 1000 y.1) (eqb y.1 0)

seat-at : (S : Settings) → length S.capacities ≡ 16 → (k : ℕ) → k < 16 → get_or (seats S) k (0, 0) ≡ (k, get_or S.capacities k 0)
seat-at S h k l =
    get_or-zip (range_with_len 0 16) S.capacities k (0, 0) (omega (arith, length-range_with_len 0 16)) (omega (arith, h))
    ∙ ap (λ (i : ℕ). (i, get_or S.capacities k 0)) (get_or-range_with_len 0 16 k 0 l ∙ omega arith)

pub seats-said : (S : Settings) → length S.capacities ≡ 16 → (r : Bool)
    → MatchBool r (AllWithin (λ y. seat_said S y ≡ true) (seats S) 0 (length (seats S)))
    ((k : ℕ) × (k < length (seats S)) × HoldsAt (λ y. seat_said S y ≡ false) (seats S) k)
    → r ≡ all (seat_good S) 16
seats-said S h true good =
    sym (true-all (seat_good S) 16 (λ k l. subst (λ (y : ℕ × ℕ). seat_said S y ≡ true) (seat-at S h k l)
    (good k (0, 0) (omega arith) (omega (arith, l, h, length-zip (range_with_len 0 16) S.capacities, length-range_with_len 0 16)))))
seats-said S h false (k, l, bad) =
    let m : k < 16 = omega (arith, l, h, length-zip (range_with_len 0 16) S.capacities, length-range_with_len 0 16) in
    sym (not-all (seat_good S) 16 k m (subst (λ (y : ℕ × ℕ). seat_said S y ≡ false) (seat-at S h k m) (bad (0, 0))))

-- Frame lines, words of lines and answer lines.
-- Assumes nothing.
use Prim.Native.Nat.{ℕ, ◌+◌, ◌*◌, ◌/◌, ◌%◌, ◌≤◌, ◌<◌}
use native.Mathlib.Omega.{arith}
use mathlib.Core.Path.{◌≡◌, refl, sym, ◌∙◌, ap, ap₂}
use mathlib.Core.Logic.{◌⊎◌, inl, inr}
use mathlib.Core.Bool.{Bool, true, false, ◌&&◌, cond}
use mathlib.Core.List.{List, [], ◌∷◌, ◌++◌}
use lib.Dec.{eqb}
use lib.ListN.{length, take, drop, get_or, set}
use lib.Seq.{take-length}
use Rattle.std.proofs.lemmas.List.{take_more, take_more_set}
use borrow.Author.Tests.{eqb-true, eq-eqb, ne_eqb}
use Rattle.model.specs.Answers.{Answer, done_with, refused_with}
use Rattle.std.specs.Prelude.{Ok, Err}
use Rattle.model.specs.Messages.{request_length, order_length, answer_words}
use Rattle.model.specs.Text.{word_digits, hexadecimal, shown}
use Rattle.model.specs.Lines.{answer_digits, is_frame, line_words, whole_words}
use Rattle.model.proofs.Search.{and_left, and_right, and-true, or_cases, both, never}
pub use Rattle.model.proofs.Search.{never as not_so}
use Rattle.model.proofs.Places.{length-list, get_d-list}
use Rattle.text.specs.Digits.{digits_only, word_in}
use Rattle.text.proofs.Hexes.{digits_more, digits-part}
use Rattle.framing.specs.Frame.{request_digits, order_digits, request_at, request_in}
use Rattle.std.specs.Option.{is_some}
use Rattle.std.specs.Prelude.{Some, None}
use Rattle.std.proofs.lemmas.Bool.{cond-true, cond-false}
use Rattle.std.proofs.lemmas.Option.{cond_some, none-some}

-- the words of a line
pub words-length : (l : List ℕ) → length (line_words l) ≡ length l / 8
unfolding line_words
words-length l = length-list (λ k. shown (take 8 (drop (8 * k) l))) (length l / 8)

pub word-is : (l : List ℕ) (k : ℕ) → k < length l / 8 → shown (take 8 (drop (8 * k) l)) ≡ get_or (line_words l) k 0
unfolding line_words
word-is l k h = sym (get_d-list (λ i. shown (take 8 (drop (8 * i) l))) (length l / 8) k h)

pub words_next : (l words : List ℕ) (k : ℕ) → k < length l / 8 → k < length words → take k words ≡ take k (line_words l)
    → take (k + 1) (set words k (get_or (line_words l) k 0)) ≡ take (k + 1) (line_words l)
words_next l words k h g e =
    let n = words-length l in
    take_more_set words k (get_or (line_words l) k 0) g
    ∙ ap (λ (xs : List ℕ). xs ++ (get_or (line_words l) k 0 ∷ [])) e
    ∙ sym (take_more (line_words l) k 0 (omega arith))

pub words_more : (l words : List ℕ) (k : ℕ) → k < length l / 8 → k < length words → take k words ≡ take k (line_words l)
    → take (k + 1) (set words k (shown (take 8 (drop (8 * k) l)))) ≡ take (k + 1) (line_words l)
words_more l words k h g e = ap (λ (x : ℕ). take (k + 1) (set words k x)) (word-is l k h) ∙ words_next l words k h g e

-- what shows nothing fails its test
pub shows-none : {A : Type 0} (t : Bool) (a : A) → None ≡ cond t (Some a) None → t ≡ false
shows-none true a e = absurd (none-some a e)
shows-none false a e = refl

-- the digits of words, one after the other
module _ (l : List ℕ) where
  pub digits_from : (m : ℕ) {t d : Bool} → t ≡ digits_only (take m l) → d ≡ digits_only (take 8 (drop m l)) → t && d ≡ digits_only (take (m + 8) l)
  digits_from m e f = ap₂ ◌&&◌ e f ∙ sym (digits_more l m 8)

  -- whether eight bytes show a word
  pub shows : (m : ℕ) {d : Bool} → d ≡ is_some (word_in (take 8 (drop m l))) → d ≡ digits_only (take 8 (drop m l))
  shows m e = e ∙ by (digits_only (take 8 (drop m l)))
    where
      by : (t : Bool) → is_some (cond t (Some (shown (take 8 (drop m l)))) None) ≡ t
      by true = refl
      by false = refl

  pub digits_of : (k : ℕ) → digits_only l ≡ true → 8 * k + 8 ≤ length l → digits_only (take 8 (drop (8 * k) l)) ≡ true
  digits_of k e h = digits-part l (8 * k) 8 (length l) h (rw (take-length l) e)

  -- whole words
  pub whole_by : (k : ℕ) {t : Bool} → k ≡ length l / 8 → length l % 8 ≡ 0 → t ≡ digits_only (take (8 * k) l) → t ≡ whole_words l
  whole_by k n w e =
      let s : 8 * k ≡ length l = omega arith in
      e ∙ ap (λ (m : ℕ). digits_only (take m l)) s ∙ ap digits_only (take-length l) ∙ sym (and_yes (digits_only l)) ∙ simp (eq-eqb (length l % 8) 0 w)
    where
      and_yes : (t : Bool) → t && true ≡ t
      and_yes true = refl
      and_yes false = refl

  pub not-whole : (length l % 8 ≡ 0 → ⊥) → false ≡ whole_words l
  not-whole h = sym (and_no (digits_only l)) ∙ simp (ne_eqb (length l % 8) 0 h)
    where
      and_no : (t : Bool) → t && false ≡ false
      and_no true = refl
      and_no false = refl

  -- words in front of a line: not all of them show one, and all of them
  word-shown : (m : ℕ) {t : Bool} → m + 8 ≤ request_digits → digits_only (take request_digits l) ≡ true → t ≡ is_some (word_in (take 8 (drop m l))) → t ≡ true
  word-shown m h d e =
      let f = digits-part l m 8 request_digits h d in
      e ∙ ap is_some (cond-true (digits_only (take 8 (drop m l))) (Some (shown (take 8 (drop m l)))) None f)

  pub none-of : {t0 t1 t2 t3 t4 t5 t6 : Bool} → t0 ≡ is_some (word_in (take 8 (drop 0 l))) → t1 ≡ is_some (word_in (take 8 (drop 8 l)))
      → t2 ≡ is_some (word_in (take 8 (drop 16 l))) → t3 ≡ is_some (word_in (take 8 (drop 24 l))) → t4 ≡ is_some (word_in (take 8 (drop 32 l)))
      → t5 ≡ is_some (word_in (take 8 (drop 40 l))) → t6 ≡ is_some (word_in (take 8 (drop 48 l))) → t0 && t1 && t2 && t3 && t4 && t5 && t6 ≡ false
      → None ≡ request_in l
  none-of {t0} {t1} {t2} {t3} {t4} {t5} {t6} q0 q1 q2 q3 q4 q5 q6 f =
      let none : digits_only (take request_digits l) ≡ true → ⊥
      = λ d. both
      (and-true (and-true (and-true (and-true (and-true (and-true (word-shown 0 (omega arith) d q0) (word-shown 8 (omega arith) d q1)) (word-shown 16 (omega arith) d q2))
      (word-shown 24 (omega arith) d q3)) (word-shown 32 (omega arith) d q4)) (word-shown 40 (omega arith) d q5)) (word-shown 48 (omega arith) d q6)) f in
      sym (cond-false (digits_only (take request_digits l)) (Some (request_at l)) None (never (digits_only (take request_digits l)) none))

  word_some : (m : ℕ) {w : ℕ} → Some w ≡ word_in (take 8 (drop m l)) → (digits_only (take 8 (drop m l)) ≡ true) × (shown (take 8 (drop m l)) ≡ w)
  word_some m {w} e = cond_some (digits_only (take 8 (drop m l))) (shown (take 8 (drop m l))) w (sym e)

  pub request_some : {kind a b first last n info : ℕ} → Some kind ≡ word_in (take 8 (drop 0 l)) → Some a ≡ word_in (take 8 (drop 8 l)) → Some b ≡ word_in (take 8 (drop 16 l))
      → Some first ≡ word_in (take 8 (drop 24 l)) → Some last ≡ word_in (take 8 (drop 32 l)) → Some n ≡ word_in (take 8 (drop 40 l)) → Some info ≡ word_in (take 8 (drop 48 l))
      → Some (record { kind = kind; a = a; b = b; first = first; last = last; n = n; info = info }) ≡ request_in l
  unfolding request_at
  request_some {kind} {a} {b} {first} {last} {n} {info} q0 q1 q2 q3 q4 q5 q6 =
      let w0 = word_some 0 q0 in
      let w1 = word_some 8 q1 in
      let w2 = word_some 16 q2 in
      let w3 = word_some 24 q3 in
      let w4 = word_some 32 q4 in
      let w5 = word_some 40 q5 in
      let w6 = word_some 48 q6 in
      let d = digits_from 48 (digits_from 40 (digits_from 32 (digits_from 24 (digits_from 16 (digits_from 8 (sym w0.0) (sym w1.0)) (sym w2.0)) (sym w3.0)) (sym w4.0)) (sym w5.0)) (sym w6.0) in
      let r : record { kind = kind; a = a; b = b; first = first; last = last; n = n; info = info } ≡ request_at l
      = λ j. record { kind = sym w0.1 j; a = sym w1.1 j; b = sym w2.1 j; first = sym w3.1 j; last = sym w4.1 j; n = sym w5.1 j; info = sym w6.1 j } in
      ap Some r ∙ sym (cond-true (digits_only (take request_digits l)) (Some (request_at l)) None (sym d))

  -- each word of a line of digits
  pub word_by : (k : ℕ) → digits_only l ≡ true → k < length l / 8 → word_in (take 8 (drop (8 * k) l)) ≡ Some (get_or (line_words l) k 0)
  word_by k d h =
      cond-true (digits_only (take 8 (drop (8 * k) l))) (Some (shown (take 8 (drop (8 * k) l)))) None (digits_of k d (omega arith)) ∙ ap Some (word-is l k h)

-- the lengths of frames
module _ (l : List ℕ) where
  abbrev pub FrameLength : Type 0
  FrameLength = (length l ≡ request_digits) ⊎ (length l ≡ order_digits)

  pub is-frame : digits_only l ≡ true → FrameLength → is_frame l ≡ true
  unfolding is_frame
  is-frame h (inl n) = simp (h, n)
  is-frame h (inr n) = simp (h, n)

  pub frame-length : is_frame l ≡ true → FrameLength
  unfolding is_frame
  frame-length h = by-words (or_cases (eqb (length l / 8) request_length) _ (and_right (whole_words l) _ h))
    where
      whole : length l % 8 ≡ 0
      whole = eqb-true (length l % 8) 0 (and_right (digits_only l) _ (and_left (whole_words l) _ h))

      by-words : (eqb (length l / 8) request_length ≡ true) ⊎ (eqb (length l / 8) order_length ≡ true) → FrameLength
      by-words (inl e) = inl (omega (arith, eqb-true (length l / 8) request_length e, whole))
      by-words (inr e) = inr (omega (arith, eqb-true (length l / 8) order_length e, whole))

  pub frame-digits : is_frame l ≡ true → digits_only l ≡ true
  unfolding is_frame
  frame-digits h = and_left (digits_only l) _ (and_left (whole_words l) _ h)

  pub frame-between : is_frame l ≡ true → (request_digits ≤ length l) × (length l ≤ order_digits)
  frame-between h = by_length (frame-length h)
    where
      by_length : FrameLength → (request_digits ≤ length l) × (length l ≤ order_digits)
      by_length (inl n) = (omega arith, omega arith)
      by_length (inr n) = (omega arith, omega arith)

pub no-frame : (l : List ℕ) → (is_frame l ≡ true → ⊥) → is_frame l ≡ false
no-frame l h = not_so (is_frame l) h

-- the words of an answer, written by its kind
pub done-line : {a : Answer} {v : ℕ} → a ≡ done_with v → word_digits 0 ++ (word_digits 0 ++ word_digits v) ≡ hexadecimal (answer_words a)
unfolding hexadecimal
done-line {a} {v} e = sym (ap (λ (b : Answer). hexadecimal (answer_words b)) e)

pub refused-line : {a : Answer} {n p : ℕ} → a ≡ refused_with n p → word_digits n ++ (word_digits p ++ word_digits 0) ≡ hexadecimal (answer_words a)
unfolding hexadecimal
refused-line {a} {n} {p} e = sym (ap (λ (b : Answer). hexadecimal (answer_words b)) e)

pub words-line : (a : Answer) → length (hexadecimal (answer_words a)) ≡ answer_digits
unfolding hexadecimal
words-line (Ok v) = refl
words-line (Err refused) = let n = refused.number in let p = refused.place in refl

-- What stands at the front of the input.
-- Assumes nothing.
use Prim.Native.Nat.{ℕ, suc, ◌+◌, ◌-◌, ◌*◌, ◌≤◌, ◌<◌}
use native.Mathlib.Omega.{arith}
use mathlib.Core.Path.{◌≡◌, refl, sym, ◌∙◌, ap, ap₂}
use mathlib.Core.Logic.{◌⊎◌, inl, inr}
use mathlib.Core.Bool.{Bool, true, false, cond}
use mathlib.Core.List.{List, [], ◌∷◌}
use lib.ListN.{length, take, drop, get_or, get_or-eq_default}
use lib.Seq.{get_or-take, length-take-le, take-take}
use Rattle.model.specs.Messages.{request_length, request_of}
use Rattle.model.specs.Machine.{ordered, call_of}
use Rattle.model.specs.Text.{shown}
use Rattle.model.specs.Lines.{is_frame, line_words}
use Rattle.model.proofs.Search.{and_left, and_right, both}
use Rattle.text.specs.Digits.{is_digit, digits_only}
use Rattle.std.specs.Prelude.{Some, None, position}
use Rattle.std.specs.List.{position_from}
use Rattle.std.proofs.lemmas.Option.{none-some}
use Rattle.std.proofs.lemmas.List.{drop-take}
use Rattle.std.proofs.lemmas.List.Quantifiers.{position-Some}
use Rattle.std.proofs.lemmas.Iterator.Adapters.{position_from-zero}
use borrow.Author.Tests.{eqb-true, eqb-false}
use lib.Dec.{eqb}
use Rattle.framing.specs.Frame.{request_digits, order_digits, word_at, request_at}
use Rattle.framing.specs.Front.{Free, Leads, NoFrame}
use Rattle.framing.proofs.Framing.{FrameLength, words-length, word-is, is-frame, no-frame, frame-length, frame-digits}

-- digits are not byte 10
pub free-digits : (l : List ℕ) → digits_only l ≡ true → Free l
unfolding Free
free-digits [] h = tt
free-digits (b ∷ l) h = (not-ten, free-digits l (and_right (is_digit b) _ h))
  where
    not-ten : b ≡ 10 → ⊥
    not-ten e = both (ap is_digit (sym e) ∙ and_left (is_digit b) _ h) refl

free-at : (l : List ℕ) → ((k : ℕ) → k < length l → get_or l k 0 ≡ 10 → ⊥) → Free l
unfolding Free
free-at [] f = tt
free-at (x ∷ xs) f = (f 0 (omega arith), free-at xs (λ k h. f (suc k) (omega arith)))

free-from : (l : List ℕ) (i : ℕ) → None ≡ position_from (λ b. eqb b 10) i l → Free l
unfolding Free
free-from [] i h = tt
free-from (b ∷ l) i h = by (eqb b 10) refl h (free-from l (i + 1))
  where
    by : (t : Bool) → eqb b 10 ≡ t → None ≡ cond t (Some i) (position_from (λ b. eqb b 10) (i + 1) l) → (None ≡ position_from (λ b. eqb b 10) (i + 1) l → Free l)
        → (b ≡ 10 → ⊥) × Free l
    by true e h f = absurd (none-some i h)
    by false e h f = (eqb-false b 10 e, f h)

-- a part of a line is that part of the input
part_of : (k m n : ℕ) (l : List ℕ) → m + k ≤ n → take k (drop m (take n l)) ≡ take k (drop m l)
part_of k m n l h =
    let s : m + (n - m) ≡ n = omega arith in
    ap (λ (i : ℕ). take k (drop m (take i l))) (sym s) ∙ ap (take k) (drop-take m (n - m) l) ∙ take-take k (n - m) (drop m l) (omega arith)

module _ (l : List ℕ) where
  -- the words of a line
  module _ (n : ℕ) (i : n ≤ length l) where
    word_in : (k : ℕ) → 8 * k + 8 ≤ n → get_or (line_words (take n l)) k 0 ≡ word_at l k
    word_in k h =
        let e = length-take-le n l i in
        sym (word-is (take n l) k (omega arith)) ∙ ap shown (part_of 8 (8 * k) n l h)

    request-in : request_digits ≤ n → request_of (line_words (take n l)) ≡ request_at l
    unfolding request_at
    request-in h =
        λ j. record {
          kind = word_in 0 (omega arith) j;
          a = word_in 1 (omega arith) j;
          b = word_in 2 (omega arith) j;
          first = word_in 3 (omega arith) j;
          last = word_in 4 (omega arith) j;
          n = word_in 5 (omega arith) j;
          info = word_in 6 (omega arith) j;
        }

  pub request-call : request_digits ≤ length l → ordered 0 (request_at l) ≡ call_of (line_words (take request_digits l))
  request-call h =
      let e = length-take-le request_digits l h in
      let z : get_or (line_words (take request_digits l)) request_length 0 ≡ 0
      = get_or-eq_default (line_words (take request_digits l)) 0 {n = request_length} (omega (arith, words-length (take request_digits l))) in
      ap₂ ordered (sym z) (sym (request-in request_digits h (omega arith)))

  pub order-call : order_digits ≤ length l → ordered (word_at l request_length) (request_at l) ≡ call_of (line_words (take order_digits l))
  order-call h = ap₂ ordered (sym (word_in order_digits h request_length (omega arith))) (sym (request-in order_digits h (omega arith)))

  -- a line of digits of one of the two lengths that frames have is a frame
  module _ (n : ℕ) where
    abbrev DigitLine : Type 0
    DigitLine = (n < length l) × (get_or l n 0 ≡ 10) × (digits_only (take n l) ≡ true)

    pub frame-by : (n ≡ request_digits) ⊎ (n ≡ order_digits) → DigitLine → Leads l n × (is_frame (take n l) ≡ true)
    frame-by q h = (
      record { inside = h.0; free = free-digits (take n l) h.2; ends = h.1 },
      is-frame (take n l) h.2 (rw (length-take-le n l (omega (arith, h.0))) q),
    )

  -- and where neither is there, no line is one
  pub none-by : (DigitLine request_digits → ⊥) → (DigitLine order_digits → ⊥) → NoFrame l
  unfolding NoFrame
  none-by h g k e = no-frame (take k l) (λ f. bad f (frame-length (take k l) f))
    where
      line : (n : ℕ) → is_frame (take k l) ≡ true → length (take k l) ≡ n → DigitLine n
      line n f m =
          let s : k ≡ n = sym (length-take-le k l (omega (arith, e.inside))) ∙ m in
          let d : DigitLine k = (e.inside, e.ends, frame-digits (take k l) f) in
          rw s at d

      bad : is_frame (take k l) ≡ true → FrameLength (take k l) → ⊥
      bad f (inl m) = h (line request_digits f m)
      bad f (inr m) = g (line order_digits f m)

  -- a line that is found by its byte 10
  pub line-leads : (n : ℕ) → Some n ≡ position (λ b. eqb b 10) l → Leads l n
  line-leads n e =
      let p = position-Some (λ b. eqb b 10) l n 0 (sym e) in
      let s = length-take-le n l (omega (arith, p.0)) in
      record {
        inside = p.0;
        free = free-at (take n l) (λ k h g. eqb-false (get_or l k 0) 10 (p.2 k (omega arith)) (sym (get_or-take n l k 0 (omega arith)) ∙ g));
        ends = eqb-true (get_or l n 0) 10 p.1;
      }

  pub all-free : None ≡ position (λ b. eqb b 10) l → Free l
  all-free e = free-from l 0 (e ∙ position_from-zero (λ b. eqb b 10) l)

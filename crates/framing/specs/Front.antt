-- What stands at the front of the input: a line, a frame, or no whole line.
-- Assumes nothing.
use Rattle.std.specs.Prelude.{ℕ, ◌<◌, true, false, ◌≡◌, List, [], ◌∷◌, length, take, get_or}
use Rattle.model.specs.Machine.{ordered, call_of}
use Rattle.model.specs.Lines.{is_frame, line_words}
use Rattle.text.specs.Digits.{digits_only}
use Rattle.framing.specs.Frame.{request_digits}
use Rattle.framing.specs.declared.line.Next.{Next}
use Rattle.framing.specs.declared.line.Next.TheVariants.{Frame, Other, Partial}

-- no byte 10
unfoldable pub Free : List ℕ → Type 0
Free [] = Unit {0}
Free (b ∷ bs) = (b ≡ 10 → ⊥) × Free bs

-- the first line of l is its first n bytes, ended by byte 10
pub record Leads (l : List ℕ) (n : ℕ) : Type 0 where
  pub inside : n < length l
  pub free : Free (take n l)
  pub ends : get_or l n 0 ≡ 10

-- no frame is the first line of l
unfoldable pub NoFrame : List ℕ → Type 0
NoFrame l = (k : ℕ) → Leads l k → is_frame (take k l) ≡ false

-- the digits of a request stand in front of l, and more behind them
pub record DigitsAhead (l : List ℕ) : Type 0 where
  pub more : request_digits < length l
  pub digits : digits_only (take request_digits l) ≡ true

-- what stands at the front of l; of a frame, the order and the request of its call
abbrev pub NextOf : List ℕ → Next → Type 0
NextOf l (Frame n o r) = Leads l n × (is_frame (take n l) ≡ true) × (ordered o r ≡ call_of (line_words (take n l)))
NextOf l (Other n) = Leads l n × (is_frame (take n l) ≡ false)
NextOf l Partial = Free l

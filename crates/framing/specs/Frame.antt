-- The words of a frame line in front of the input.
-- Assumes nothing.
use Rattle.std.specs.Prelude.{ℕ, ◌*◌, cond, List, Option, Some, None, take, drop}
use Rattle.model.specs.declared.Request.{Request}
use Rattle.model.specs.Messages.{request_length, order_length}
use Rattle.model.specs.Text.{shown}
use Rattle.text.specs.Digits.{digits_only}

-- the digits of a request's words, and those with the number of its order behind them
abbrev pub request_digits : ℕ
request_digits = 8 * request_length

abbrev pub order_digits : ℕ
order_digits = 8 * order_length

-- word k at the front of the input, and the request of the first seven
abbrev pub word_at : List ℕ → ℕ → ℕ
word_at l k = shown (take 8 (drop (8 * k) l))

unfoldable pub request_at : List ℕ → Request
request_at l =
    record {
      kind = word_at l 0;
      a = word_at l 1;
      b = word_at l 2;
      first = word_at l 3;
      last = word_at l 4;
      n = word_at l 5;
      info = word_at l 6;
    }

-- the request that the first seven words show, if all their bytes are digits
abbrev pub request_in : List ℕ → Option Request
request_in l = cond (digits_only (take request_digits l)) (Some (request_at l)) None

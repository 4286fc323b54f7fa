-- What a settings line gives.
-- Assumes nothing.
use Rattle.std.specs.Prelude.{ℕ, ◌≤◌, ◌≡◌, Bool, ◌&&◌, cond, List, leb, length, take, drop}
use Rattle.model.specs.Ledger.{book_length}
use Rattle.model.specs.Reading.{settings_of}
use Rattle.model.specs.Calls.{settings_good, fresh_book}
use Rattle.model.specs.Lines.{whole_words, line_words, program_words}
use Rattle.std.specs.Prelude.{Err}
use Rattle.model.specs.declared.Refusal.{Refusal}
use Rattle.model.specs.Answers.{Answer, done_with, refused_with}

-- done with the book's length, or refused; `good` says whether the words are settings
unfoldable pub layable : Bool → List ℕ → Answer
layable good w =
    cond good
    (cond (leb (book_length (settings_of w)) program_words) (done_with (book_length (settings_of w))) (refused_with 25 0))
    (refused_with 24 0)

-- the words w were laid at the front of b₀, or refused, which changes nothing
pub record LaidOf (w b₀ : List ℕ) (r : Answer) (b : List ℕ) : Type 0 where
  pub is : r ≡ layable (settings_good w) w
  pub fresh : (n : ℕ) → r ≡ done_with n → (n ≤ length b) × (take n b ≡ fresh_book (settings_of w)) × (drop n b ≡ drop n b₀)
  pub refused : (e : Refusal) → r ≡ Err e → b ≡ b₀

-- the same of the words of a line
pub record LaidBy (l b₀ : List ℕ) (r : Answer) (b : List ℕ) : Type 0 where
  pub is : r ≡ layable (whole_words l && settings_good (line_words l)) (line_words l)
  pub fresh : (n : ℕ) → r ≡ done_with n → (n ≤ length b) × (take n b ≡ fresh_book (settings_of (line_words l))) × (drop n b ≡ drop n b₀)
  pub refused : (e : Refusal) → r ≡ Err e → b ≡ b₀

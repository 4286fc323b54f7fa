-- Parts of a page, as the code makes them.
-- Assumes nothing.
use Rattle.std.specs.Prelude.{ℕ, suc, ◌+◌, ◌*◌, ◌-◌, ◌≤◌, ◌<◌, ◌≡◌, true, List, leb, length, get_or}
use Rattle.model.specs.Answers.{Answer}
use Rattle.model.specs.State.{State}
use Rattle.model.specs.Page.{PageLine, Paged, join_from, attending, session_lines, page_lines, page_bytes, line_width, page_by}
use Rattle.text.specs.Put.{Put}

-- an answer and a page as one record
abbrev pub paged : Answer → List ℕ → Paged
paged a p = record { answer = a; page = p }

-- the page of a date of the book, by question 26
abbrev pub fitted : State → ℕ → List ℕ → Paged
fitted x d p = let ls = page_lines x d in page_by true true true (leb (line_width * length ls) (length p)) ls p

-- a line by its five numbers
abbrev pub line_of : ℕ → ℕ → ℕ → ℕ → ℕ → PageLine
line_of s c m n i = record { session = s; room = c; meeting = m; attending = n; info = i }

-- the lines of the sessions from `from` to before `to`
unfoldable pub between : State → ℕ → ℕ → List PageLine
between x from to = join_from (session_lines x) from (to - from)

-- entry m + 1 says how many attend meeting m in session s
pub record Tally (x : State) (s : ℕ) (t : List ℕ) : Type 0 where
  pub long : length t ≡ 129
  pub each : (m : ℕ) → m < x.settings.meetings → get_or t (suc m) 0 ≡ attending x s m

-- r lines, and no more than so many
pub record Count (ls : List PageLine) (most r : ℕ) : Type 0 where
  pub is : r ≡ length ls
  pub few : r ≤ most

-- the lines were written at `at`, and r is the place behind them
pub record Written (before after : List ℕ) (at : ℕ) (ls : List PageLine) (r : ℕ) : Type 0 where
  pub put : Put before after at (page_bytes ls)
  pub next : r ≡ at + line_width * length ls

-- What a whole book holds: the diary, that is the settings and the seven sets, behind it the tail, and behind that the change count. A
-- book is the words of its diary, then those of its tail, and then the count as its last word.
-- Assumes nothing.
use Rattle.std.specs.Prelude.{ℕ, ◌+◌, List, [], ◌∷◌, ◌++◌, get_or, take, drop}
use Rattle.model.specs.declared.Settings.{Settings}
use Rattle.model.specs.State.{State, empty_state}
use Rattle.model.specs.Words.{diary_length, words}
use Rattle.model.specs.Reading.{settings_of, state_of}
use Rattle.model.specs.Tail.{Tail, tail_length, tail_words, tail_of, empty_tail}

pub record Ledger : Type 0 where
  pub diary : State
  pub tail : Tail
  pub changes : ℕ

-- no entry in any set, an empty tail, and no change (rule 3.8)
unfoldable pub empty_ledger : Settings → Ledger
empty_ledger S = record { diary = empty_state S; tail = empty_tail; changes = 0 }

-- how many words stand behind a diary, and which: those of the tail, and the change count (rule 19.1)
unfoldable pub behind_length : ℕ
behind_length = tail_length + 1

unfoldable pub behind_words : Tail → ℕ → List ℕ
behind_words t n = tail_words t ++ (n ∷ [])

-- how many words a book has (rule 8.5), and the words of the book that shows a ledger (rule 8.13)
unfoldable pub book_length : Settings → ℕ
book_length S = diary_length S + behind_length

unfoldable pub book_words : Ledger → List ℕ
book_words l = words l.diary ++ behind_words l.tail l.changes

-- the parts of a book, by the settings at its head: the diary and what stands behind it; of this the tail, and the change count
unfoldable pub diary_of : List ℕ → List ℕ
diary_of b = take (diary_length (settings_of b)) b

unfoldable pub behind_of : List ℕ → List ℕ
behind_of b = drop (diary_length (settings_of b)) b

unfoldable pub tail_in : List ℕ → List ℕ
tail_in w = take tail_length w

unfoldable pub count_in : List ℕ → ℕ
count_in w = get_or w tail_length 0

-- the ledger that a book shows
unfoldable pub ledger_of : List ℕ → Ledger
ledger_of b = record { diary = state_of (diary_of b); tail = tail_of (tail_in (behind_of b)); changes = count_in (behind_of b) }

-- Lists of requests as words, and what asking gives: parts of the contracts by name.
-- Assumes nothing.
use Rattle.std.specs.Prelude.{ℕ, ◌+◌, ◌*◌, ◌≡◌, List, ◌++◌, take, drop}
use Rattle.model.specs.Answers.{Answer}
use Rattle.model.specs.declared.Asked.{Asked}
use Rattle.model.specs.Machine.{call_of, asked, reply_words, perform}
use Rattle.model.specs.Ledger.{book_words, ledger_of}
use Rattle.model.specs.Calls.{Called, Listed, calls, calls_of, replies_words}

-- an answer, the change count beside it, and a book
abbrev pub as_asked : Asked → List ℕ → Called
as_asked a b = record { reply = asked a.answer a.count; book = b }

-- l with the words ws in place of the three at i
unfoldable pub spliced : List ℕ → ℕ → List ℕ → List ℕ
spliced l i ws = take i l ++ (ws ++ drop (i + 3) l)

-- request i of the list w, k words each, from the book b and the answers a to b' and a'
pub record One (k : ℕ) (w : List ℕ) (i : ℕ) (b a b' a' : List ℕ) : Type 0 where
  pub book : b' ≡ book_words (perform (ledger_of b) (call_of (take k (drop (i * k) w)))).ledger
  pub answers : a' ≡ spliced a (i * 3) (reply_words (perform (ledger_of b) (call_of (take k (drop (i * k) w)))).reply)

-- the first n requests of the list w
pub record All (k : ℕ) (w : List ℕ) (n : ℕ) (b a b' a' : List ℕ) : Type 0 where
  pub book : b' ≡ (calls b (calls_of k n w)).book
  pub answers : a' ≡ replies_words (calls b (calls_of k n w)).replies ++ drop (3 * n) a

abbrev pub as_listed : Answer → List ℕ → List ℕ → Listed
as_listed r b a = record { answer = r; book = b; answers = a }

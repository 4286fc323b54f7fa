-- What the theorems about the change count speak of (section 19): the last word of a book and the book with another, the call and the
-- reply at a place of a list with the ledger that the call is made on, and which calls count as changes.
-- Assumes nothing.
use Rattle.std.specs.Prelude.{ℕ, zero, suc, ◌+◌, ◌-◌, Bool, true, false, not, ◌&&◌, List, [], ◌∷◌, length, get_or, set}
use Rattle.std.specs.Prelude.{Option, None, Some}
use Rattle.model.specs.Answers.{Answer}
use Rattle.std.specs.Prelude.{Ok, Err}
use Rattle.model.specs.Bounded.{is_some, one}
use Rattle.model.specs.Tail.{kept_at}
use Rattle.model.specs.Ledger.{Ledger}
use Rattle.model.specs.Machine.{Call, ordered, party, ask, commit, Reply, told, asked, is_change, perform}

-- the last word of a book, which is its change count (rule 19.1), and the book with another last word, and with its own raised by k
abbrev pub last_word : List ℕ → ℕ
last_word b = get_or b (length b - 1) 0

abbrev pub with_last : List ℕ → ℕ → List ℕ
with_last b n = set b (length b - 1) n

abbrev pub last_raised : ℕ → List ℕ → List ℕ
last_raised k b = with_last b (last_word b + k)

-- the ledger with another change count, and with its own raised by k
abbrev pub with_changes : Ledger → ℕ → Ledger
with_changes l n = record { diary = l.diary; tail = l.tail; changes = n }

abbrev pub raised : ℕ → Ledger → Ledger
raised k l = with_changes l (l.changes + k)

-- what stands at place i of a list, the first at 0
abbrev pub nth : {A : Type 0} → List A → ℕ → Option A
nth [] i = None
nth (a ∷ l) zero = Some a
nth (a ∷ l) (suc i) = nth l i

-- the ledger that call i of a list is made on: the one that the calls before it leave
abbrev pub ledger_at : Ledger → List Call → ℕ → Ledger
ledger_at l [] i = l
ledger_at l (c ∷ cs) zero = l
ledger_at l (c ∷ cs) (suc i) = ledger_at (perform l c).ledger cs i

-- a reply that says that something was done
abbrev pub is_done : Answer → Bool
is_done (Ok v) = true
is_done (Err e) = false

abbrev pub says_done : Reply → Bool
says_done (told a) = is_done a
says_done (asked a n) = false

-- A call counts as a change: a request of kinds 1 to 16 that is done, with an order that is new or without one, committed or not, and a
-- party that is done. An order that is kept is only told its answer once more, and asking does nothing (rule 19.2).
abbrev pub counts : Ledger → Call → Bool
counts l (ordered n r) = not (is_some (kept_at l.tail n)) && is_change r && says_done (perform l (ordered n r)).reply
counts l (party m gs) = says_done (perform l (party m gs)).reply
counts l (ask r) = false
counts l (commit n r) = is_change r && says_done (perform l (commit n r)).reply

-- how many calls of a list count, each where it is made
abbrev pub changes_in : Ledger → List Call → ℕ
changes_in l [] = 0
changes_in l (c ∷ cs) = one (counts l c) + changes_in (perform l c).ledger cs

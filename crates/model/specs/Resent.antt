-- Orders sent again (rule 18.7): what it is for an order to be kept, and lists of calls in which orders are sent again while they are.
-- Assumes nothing.
use Rattle.std.specs.Prelude.{ℕ, zero, suc, ◌+◌, ◌≡◌, Bool, true, false, not, cond, List, [], ◌∷◌, ◌++◌, take, drop}
use Rattle.std.specs.Prelude.{Some}
use Rattle.model.specs.declared.Request.{Request}
use Rattle.model.specs.Answers.{Answer}
use Rattle.model.specs.Bounded.{is_some}
use Rattle.model.specs.Tail.{entry_at, kept_at}
use Rattle.model.specs.Ledger.{Ledger}
use Rattle.model.specs.Machine.{Call, ordered, party, ask, commit, Reply, perform}

-- a ledger keeps order n: its number stands in the ring
abbrev pub IsKept : Ledger → ℕ → Type 0
IsKept l n = is_some (kept_at l.tail n) ≡ true

-- it keeps the order with the request r and the answer a
pub record Kept (l : Ledger) (n : ℕ) (r : Request) (a : Answer) : Type 0 where
  pub place : ℕ
  pub at : kept_at l.tail n ≡ Some place
  pub request : (entry_at l.tail place).request ≡ r
  pub answer : (entry_at l.tail place).answer ≡ a

-- it keeps the order after each call of a list
abbrev pub KeptThrough : Ledger → ℕ → List Call → Type 0
KeptThrough l n [] = Unit {0}
KeptThrough l n (c ∷ cs) = IsKept (perform l c).ledger n × KeptThrough (perform l c).ledger n cs

-- how many orders of a list of calls are not kept where they come: these are the ones that take the next place
abbrev pub is_new : Ledger → Call → Bool
is_new l (ordered zero r) = false
is_new l (ordered (suc n) r) = not (is_some (kept_at l.tail (suc n)))
is_new l (party m gs) = false
is_new l (ask r) = false
is_new l (commit n r) = false

abbrev pub new_orders : Ledger → List Call → ℕ
new_orders l [] = 0
new_orders l (c ∷ cs) = cond (is_new l c) 1 0 + new_orders (perform l c).ledger cs

-- a call, or an order sent again
pub data Sending : Type 0 where
  once : Call → Sending
  again : ℕ → Request → Sending

-- all that is sent, and what is sent without the repeats
abbrev pub all_sent : List Sending → List Call
all_sent [] = []
all_sent (once c ∷ ss) = c ∷ all_sent ss
all_sent (again n r ∷ ss) = ordered n r ∷ all_sent ss

abbrev pub once_sent : List Sending → List Call
once_sent [] = []
once_sent (once c ∷ ss) = c ∷ once_sent ss
once_sent (again n r ∷ ss) = once_sent ss

-- each order that is sent again is kept where it is
abbrev pub WhileKept : Ledger → List Sending → Type 0
WhileKept l [] = Unit {0}
WhileKept l (once c ∷ ss) = WhileKept (perform l c).ledger ss
WhileKept l (again n r ∷ ss) = IsKept l n × WhileKept l ss

-- the replies without those to the repeats
abbrev pub once_replied : List Sending → List Reply → List Reply
once_replied [] replies = []
once_replied (s ∷ ss) [] = []
once_replied (once c ∷ ss) (a ∷ later) = a ∷ once_replied ss later
once_replied (again n r ∷ ss) (a ∷ later) = once_replied ss later

-- the words of the answers without those to the repeats, three an answer
unfoldable pub once_answered : List Sending → List ℕ → List ℕ
once_answered [] w = []
once_answered (once c ∷ ss) w = take 3 w ++ once_answered ss (drop 3 w)
once_answered (again n r ∷ ss) w = once_answered ss (drop 3 w)

-- What a book keeps behind the rides (section 18): the ring of 64 places for orders, and the place where the next one goes. Its words,
-- its reading and its law are defined here; their laws are in proofs/Tail.
-- Assumes nothing.
use Rattle.std.specs.Prelude.{ℕ, zero, suc, ◌+◌, ◌*◌, Bool, not, ◌&&◌, ◌||◌, cond, List, [], ◌∷◌, ◌++◌, ltb, eqb, get_or, drop, set, replicate}
use Rattle.std.specs.Prelude.{Option, None}
use Rattle.model.specs.declared.Request.{Request}
use Rattle.model.specs.Answers.{Answer}
use Rattle.model.specs.Answers.{done_with}
use Rattle.model.specs.Bounded.{lowest, any, all, conj}
use Rattle.model.specs.Messages.{answer_words, told_by, sent_words, request_of}

-- a kept order: its number, the request that came with it, and the answer that the request got (rule 18.2)
pub record Entry : Type 0 where
  pub order : ℕ
  pub request : Request
  pub answer : Answer

-- an entry that keeps no order: its words are zeros
abbrev pub empty_entry : Entry
empty_entry = record { order = 0; request = request_of []; answer = done_with 0 }

-- how many orders are kept
abbrev pub ring_places : ℕ
ring_places = 64

pub record Tail : Type 0 where
  pub ring : List Entry
  pub next : ℕ

-- the entry at a place of the ring
abbrev pub entry_at : Tail → ℕ → Entry
entry_at t i = get_or t.ring i empty_entry

-- the place of an order that is kept; 0 is the number of no order (rules 18.1, 18.3)
abbrev pub kept_at : Tail → ℕ → Option ℕ
kept_at t zero = None
kept_at t (suc n) = lowest (λ i. eqb (entry_at t i).order (suc n)) 0 ring_places

-- the place after a place: behind the last comes the first
abbrev pub place_after : ℕ → ℕ
place_after i = cond (eqb (suc i) ring_places) 0 (suc i)

-- an entry at the next place, in the place of what stood there (rule 18.2)
unfoldable pub keep : Tail → Entry → Tail
keep t e = record { ring = set t.ring t.next e; next = place_after t.next }

-- the answer to an order is kept; without an order nothing is
abbrev pub noted : Tail → ℕ → Request → Answer → Tail
noted t zero r a = t
noted t (suc n) r a = keep t (record { order = suc n; request = r; answer = a })

-- the words of an entry, eleven, and those of the entries one after another
abbrev pub entry_length : ℕ
entry_length = 11

abbrev pub entry_words : Entry → List ℕ
entry_words e = e.order ∷ (sent_words e.request ++ answer_words e.answer)

unfoldable pub ring_words : List Entry → List ℕ
ring_words [] = []
ring_words (e ∷ es) = entry_words e ++ ring_words es

-- how many words a tail has, and which: those of the ring, and the next place (rule 18.4)
abbrev pub ring_length : ℕ
ring_length = 704

unfoldable pub tail_length : ℕ
tail_length = ring_length + 1

unfoldable pub tail_words : Tail → List ℕ
tail_words t = ring_words t.ring ++ (t.next ∷ [])

-- the entry that a list of words begins with, and the tail read from the words behind the rides
abbrev pub entry_of : List ℕ → Entry
entry_of w = record { order = get_or w 0 0; request = request_of (drop 1 w); answer = told_by (get_or w 8 0) (get_or w 9 0) (get_or w 10 0) }

unfoldable pub ring_of : ℕ → List ℕ → List Entry
ring_of zero w = []
ring_of (suc n) w = entry_of w ∷ ring_of n (drop entry_length w)

unfoldable pub tail_of : List ℕ → Tail
tail_of w = record { ring = ring_of ring_places w; next = get_or w ring_length 0 }

-- word j of entry i
abbrev pub word_of : List ℕ → ℕ → ℕ → ℕ
word_of w i j = get_or w (i * entry_length + j) 0

-- The law of those words, in four clauses (rule 18.5). A number other than 0 is none of the numbers before it:
abbrev pub number_differs : List ℕ → ℕ → Bool
number_differs w i = eqb (word_of w i 0) 0 || not (any (λ j. eqb (word_of w j 0) (word_of w i 0)) i)

-- without a number the eleven words are 0,
abbrev pub empty_unless_numbered : List ℕ → ℕ → Bool
empty_unless_numbered w i = not (eqb (word_of w i 0) 0) || all (λ j. eqb (word_of w i j) 0) entry_length

-- the words of the answer are those of one: no place beside number 0, and no value beside another,
abbrev pub answer_told : List ℕ → ℕ → Bool
answer_told w i = cond (eqb (word_of w i 8) 0) (eqb (word_of w i 9) 0) (eqb (word_of w i 10) 0)

-- and the next place is one of the ring's.
abbrev pub next_within : List ℕ → Bool
next_within w = ltb (get_or w ring_length 0) ring_places

unfoldable pub entry_kept : List ℕ → ℕ → Bool
entry_kept w i = conj (number_differs w i ∷ empty_unless_numbered w i ∷ answer_told w i ∷ [])

-- what question 2 asks of those words
unfoldable pub tail_kept : List ℕ → Bool
tail_kept w = all (entry_kept w) ring_places && next_within w

-- the tail of a fresh book; its words are zeros
unfoldable pub empty_tail : Tail
empty_tail = record { ring = replicate ring_places empty_entry; next = 0 }

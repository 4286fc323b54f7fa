-- The change count, computed (rule 19.7): two offices over the book of rule 13.1; calls of every sort, and the count after each; and what a
-- ledger answers at the greatest count and right before it.
-- Assumes nothing.
use Prim.Native.Nat.{ℕ}
use mathlib.Core.Path.{◌≡◌, refl}
use mathlib.Core.List.{List, [], ◌∷◌}
use lib.ListN.{get_or, take}
use Rattle.model.specs.declared.Request.{Request}
use Rattle.model.specs.declared.Guest.{Guest}
use Rattle.model.specs.Answers.{done_with, refused_with}
use Rattle.model.specs.Site.{settings_words}
use Rattle.model.specs.State.{empty_state, reserved}
use Rattle.model.specs.Kinds.{kind_of}
use Rattle.model.specs.Questions.{bookings, stands_on, conf_held, lunch_held, meeting_of, lowest_free, ask, test}
use Rattle.model.specs.Words.{size, word, region, words}
use Rattle.model.specs.Messages.{same_request}
use Rattle.model.specs.Tail.{keep, ring_words, tail_words, empty_tail}
use Rattle.model.specs.Ledger.{Ledger, empty_ledger, behind_words, book_words}
use Rattle.model.specs.Machine.{change, value, step, joined, admit, raise, counted_step, counted_party, Call, ordered, party, commit}
use Rattle.model.specs.Machine.{told, asked, perform, run}
use Rattle.model.specs.Seen.{with_changes}
use Rattle.model.proofs.Rehearsal.{site, send}

-- kind a b first last n info; asked about, and committed at a count
abbrev row : ℕ → ℕ → ℕ → ℕ → ℕ → ℕ → ℕ → Request
row k a b f l n i = record { kind = k; a = a; b = b; first = f; last = l; n = n; info = i }

abbrev guest : ℕ → ℕ → ℕ → Guest
guest v f l = record { visitor = v; first = f; last = l }

-- the count after each call of a list
abbrev counts_after : Ledger → List Call → List ℕ
counts_after l [] = []
counts_after l (c ∷ cs) = (perform l c).ledger.changes ∷ counts_after (perform l c).ledger cs

-- two offices
abbrev offices : List Call
offices =
    Call.ask (row 4 0 1 0 1 0 0)
    ∷ send 1 0 1 0 1 0 0
    ∷ send 1 0 2 1 1 0 0
    ∷ Call.ask (row 4 0 1 0 1 0 0)
    ∷ Call.ask (row 4 0 2 1 1 0 0)
    ∷ commit 2 (row 4 0 2 1 1 0 0)
    ∷ commit 2 (row 4 0 1 0 1 0 0)
    ∷ Call.ask (row 4 0 1 0 1 0 0)
    ∷ Call.ask (row 4 1 1 0 1 0 0)
    ∷ commit 3 (row 18 0 0 0 0 0 0)
    ∷ send 4 1 2 1 1 0 0
    ∷ commit 3 (row 4 1 1 0 1 0 0)
    ∷ send 1 0 1 0 1 0 0
    ∷ []

pub two-offices : (run (empty_ledger site) offices).replies
    ≡ asked (refused_with 9 0) 0
    ∷ told (done_with 0)
    ∷ told (done_with 0)
    ∷ asked (done_with 0) 2
    ∷ asked (done_with 0) 2
    ∷ told (done_with 0)
    ∷ told (refused_with 29 0)
    ∷ asked (refused_with 12 1) 3
    ∷ asked (done_with 0) 3
    ∷ told (done_with 1)
    ∷ told (refused_with 13 1)
    ∷ told (done_with 0)
    ∷ told (done_with 0)
    ∷ []
unfolding run counted_step raise step change value kind_of ask test empty_ledger empty_state reserved bookings stands_on conf_held lunch_held meeting_of lowest_free
two-offices = refl

pub two-offices-count : get_or (book_words (run (empty_ledger site) offices).ledger) 770 0 ≡ 5
unfolding run counted_step raise step change value kind_of ask test empty_ledger empty_state reserved bookings stands_on conf_held lunch_held meeting_of lowest_free
    book_words behind_words tail_words ring_words empty_tail words settings_words region word size
two-offices-count = refl

-- calls of every sort: an order that is new counts if it is done, and one that is kept does not; asking does not look at what is kept; a
-- party counts once; a query, a refusal and a commit at another count do not count; 29 comes before 3; a removal of nobody counts
abbrev sorts : List Call
sorts =
    ordered 7 (row 4 0 1 0 1 0 0)
    ∷ ordered 8 (row 1 0 1 0 1 0 0)
    ∷ ordered 8 (row 1 0 1 0 1 0 0)
    ∷ ordered 7 (row 4 0 1 0 1 0 0)
    ∷ Call.ask (row 4 0 1 0 1 0 0)
    ∷ ordered 8 (row 1 0 2 1 1 0 0)
    ∷ send 1 0 2 1 1 0 0
    ∷ send 8 0 0 1 2 0 0
    ∷ party 0 (guest 1 1 2 ∷ guest 2 2 2 ∷ [])
    ∷ party 0 (guest 2 3 3 ∷ guest 1 1 1 ∷ [])
    ∷ send 17 0 1 1 1 0 0
    ∷ Call.ask (row 14 0 0 0 0 4 7)
    ∷ commit 3 (row 14 0 0 0 0 4 7)
    ∷ commit 4 (row 14 0 0 0 0 4 7)
    ∷ Call.ask (row 3 0 1 0 1 0 0)
    ∷ commit 5 (row 3 0 1 0 1 0 0)
    ∷ commit 5 (row 21 0 0 0 0 0 0)
    ∷ commit 6 (row 21 0 0 0 0 0 0)
    ∷ send 3 0 1 0 1 0 0
    ∷ send 12 0 0 1 1 0 9
    ∷ send 16 0 0 1 1 0 0
    ∷ []

pub every-sort : (run (empty_ledger site) sorts).replies
    ≡ told (refused_with 9 0)
    ∷ told (done_with 0)
    ∷ told (done_with 0)
    ∷ told (refused_with 9 0)
    ∷ asked (done_with 0) 1
    ∷ told (refused_with 28 0)
    ∷ told (done_with 0)
    ∷ told (done_with 0)
    ∷ told (done_with 0)
    ∷ told (refused_with 10 3)
    ∷ told (done_with 0)
    ∷ asked (done_with 0) 4
    ∷ told (refused_with 29 0)
    ∷ told (done_with 0)
    ∷ asked (done_with 2) 5
    ∷ told (done_with 2)
    ∷ told (refused_with 29 0)
    ∷ told (refused_with 3 0)
    ∷ told (done_with 0)
    ∷ told (done_with 0)
    ∷ told (done_with 0)
    ∷ []
unfolding run counted_step counted_party raise admit joined step change value kind_of ask test empty_ledger empty_state reserved bookings stands_on conf_held
    lunch_held meeting_of lowest_free keep empty_tail same_request
every-sort = refl

pub every-sort-counts : counts_after (empty_ledger site) sorts
    ≡ 0 ∷ 1 ∷ 1 ∷ 1 ∷ 1 ∷ 1 ∷ 2 ∷ 3 ∷ 4 ∷ 4 ∷ 4 ∷ 4 ∷ 4 ∷ 5 ∷ 5 ∷ 6 ∷ 6 ∷ 6 ∷ 7 ∷ 8 ∷ 9 ∷ []
unfolding run counted_step counted_party raise admit joined step change value kind_of ask test empty_ledger empty_state reserved bookings stands_on conf_held
    lunch_held meeting_of lowest_free keep empty_tail same_request
every-sort-counts = refl

-- After the first eight of them, with the count right before the greatest: one change more is done, and from then on 30 refuses what would
-- be done as a change, with an order or without, committed or as a party. What another question refuses is refused by that, what only asks
-- is answered, and an order that is kept is told its answer.
abbrev nearly_full : Ledger
nearly_full = with_changes (run (empty_ledger site) (take 8 sorts)).ledger 4294967294

abbrev last : List Call
last =
    Call.ask (row 1 0 1 0 1 0 0)
    ∷ send 1 0 1 0 1 0 0
    ∷ send 1 0 1 0 1 0 0
    ∷ send 15 0 0 0 0 0 0
    ∷ send 18 0 0 0 0 0 0
    ∷ ordered 8 (row 1 0 1 0 1 0 0)
    ∷ ordered 9 (row 3 0 1 0 1 0 0)
    ∷ ordered 9 (row 3 0 1 0 1 0 0)
    ∷ party 0 (guest 1 1 2 ∷ guest 2 2 2 ∷ [])
    ∷ party 0 (guest 1 1 2 ∷ guest 2 3 3 ∷ [])
    ∷ Call.ask (row 3 0 1 0 1 0 0)
    ∷ commit 4294967295 (row 3 0 1 0 1 0 0)
    ∷ commit 4294967294 (row 3 0 1 0 1 0 0)
    ∷ commit 4294967295 (row 15 0 0 0 0 0 0)
    ∷ commit 4294967295 (row 18 0 0 0 0 0 0)
    ∷ []

pub greatest : (run nearly_full last).replies
    ≡ asked (done_with 0) 4294967294
    ∷ told (done_with 0)
    ∷ told (refused_with 30 0)
    ∷ told (refused_with 15 0)
    ∷ told (done_with 1)
    ∷ told (done_with 0)
    ∷ told (refused_with 30 0)
    ∷ told (refused_with 30 0)
    ∷ told (refused_with 30 0)
    ∷ told (refused_with 10 3)
    ∷ asked (refused_with 30 0) 4294967295
    ∷ told (refused_with 30 0)
    ∷ told (refused_with 29 0)
    ∷ told (refused_with 15 0)
    ∷ told (done_with 1)
    ∷ []
unfolding run counted_step counted_party raise admit joined step change value kind_of ask test empty_ledger empty_state reserved bookings stands_on conf_held
    lunch_held meeting_of lowest_free keep empty_tail same_request
greatest = refl

pub greatest-count : (run nearly_full last).ledger.changes ≡ 4294967295
unfolding run counted_step counted_party raise admit joined step change value kind_of ask test empty_ledger empty_state reserved bookings stands_on conf_held
    lunch_held meeting_of lowest_free keep empty_tail same_request
greatest-count = refl

-- A good book stays good, and shows the machine's ledger, behind every line.
-- Assumes nothing.
use Prim.Native.Nat.{ℕ, ◌+◌, ◌-◌}
use mathlib.Core.Path.{◌≡◌, refl, sym, ◌∙◌, ap}
use mathlib.Core.Bool.{Bool, true, false}
use mathlib.Core.List.{List}
use lib.ListN.{take, get_or}
use Rattle.model.specs.declared.Settings.{Settings}
use Rattle.model.specs.declared.Request.{Request}
use Rattle.model.specs.Answers.{Answer}
use Rattle.model.specs.Answers.{refused_with}
use Rattle.model.specs.Site.{valid_settings}
use Rattle.model.specs.Messages.{request_length, request_of}
use Rattle.model.specs.Tail.{kept_at}
use Rattle.model.specs.Machine.{Call, ordered, call_of, told, perform}
use Rattle.model.specs.Reading.{settings_of, state_of, read_state}
use Rattle.model.specs.Ledger.{Ledger, empty_ledger, book_words, ledger_of}
use Rattle.model.specs.Calls.{Called, called, fresh_book}
use Rattle.model.specs.Lines.{is_frame, line_words, line_outcome}
use Rattle.model.proofs.Ledger.{LedgerSound, diary-settings, ledger-sound, words-ledger_of, ledger_of-words}
use Rattle.model.proofs.Calls.{perform-sound, empty-ledger, fresh-words}
use native.Mathlib.Omega.{arith}
use Rattle.framing.specs.Front.{NextOf}
use Rattle.lines.specs.Post.{TakenBy}
use Rattle.framing.specs.declared.line.Next.TheVariants.{Frame, Other}
use Rattle.book.specs.Good.{GoodBook, answered}
use Rattle.book.proofs.Goods.{book-words}
use Rattle.step.proofs.Kept.{order-settings}

-- what a line gives
pub outcome-yes : (x : Ledger) (l : List ℕ) → is_frame l ≡ true → line_outcome x l ≡ perform x (call_of (line_words l))
unfolding line_outcome
outcome-yes x l h = simp h

pub outcome-no : (x : Ledger) (l : List ℕ) → is_frame l ≡ false → line_outcome x l ≡ record { reply = told (refused_with 23 0); ledger = x }
unfolding line_outcome
outcome-no x l h = simp h

line-sound : (x : Ledger) (l : List ℕ) (t : Bool) → is_frame l ≡ t → LedgerSound x
    → LedgerSound (line_outcome x l).ledger × ((line_outcome x l).ledger.diary.settings ≡ x.diary.settings)
line-sound x l true h s =
    let w = line_words l in
    let n = get_or w request_length 0 in
    rw (outcome-yes x l h) (perform-sound x s (call_of w), order-settings x n (request_of w) (kept_at x.tail n))
line-sound x l false h s = rw (outcome-no x l h) (s, refl)

ledger-settings : (b : List ℕ) → (ledger_of b).diary.settings ≡ settings_of b
unfolding ledger_of state_of read_state
ledger-settings b = diary-settings b

-- behind a line
pub record After (S : Settings) (x : Ledger) (l : List ℕ) (b : List ℕ) : Type 0 where
  pub good : GoodBook S b
  pub shows : ledger_of b ≡ (line_outcome x l).ledger

pub after_line : {S : Settings} {b b' : List ℕ} {a : Answer} (l : List ℕ) → GoodBook S b → answered a b' ≡ called (line_outcome (ledger_of b) l)
    → After S (ledger_of b) l b'
after_line {S} {b} {b'} {a} l h e =
    let x = ledger_of b in
    let y = (line_outcome x l).ledger in
    let k = line-sound x l _ refl (ledger-sound b h.laid h.lawful) in
    let w : b' ≡ book_words y = ap (λ (c : Called). c.book) e in
    let q : y.diary.settings ≡ S = k.1 ∙ ledger-settings b ∙ sym h.read in
    record { good = rw (w, ← q) (book-words y k.0); shows = ap ledger_of w ∙ ledger_of-words y k.0 }

-- a fresh book
pub fresh-shows : (S : Settings) → valid_settings S ≡ true → ledger_of (fresh_book S) ≡ empty_ledger S
fresh-shows S v = rw (fresh-words S v) (ledger_of-words (empty_ledger S) (empty-ledger S v))

-- the first line of a chunk
module _ {S : Settings} {b : List ℕ} (l : List ℕ) (h : GoodBook S b) where
  pub taken-frame : {a : Answer} {b' : List ℕ} {o : ℕ} {r : Request} (n : ℕ) → NextOf l (Frame n o r)
      → answered a b' ≡ called (perform (ledger_of b) (ordered o r))
      → TakenBy l b (record { used = n + 1; answer = a }) b'
  taken-frame {a} {b'} {o} {r} n q e =
      let i : n + 1 - 1 ≡ n = omega arith in
      record {
        some = omega arith;
        leads = rw i q.0;
        gives = rw i (e ∙ ap (λ (c : Call). called (perform (ledger_of b) c)) q.2 ∙ sym (ap called (outcome-yes (ledger_of b) (take n l) q.1)));
      }

  pub taken-other : {a : Answer} (n : ℕ) → NextOf l (Other n) → a ≡ refused_with 23 0 → TakenBy l b (record { used = n + 1; answer = a }) b
  taken-other n q e =
      let i : n + 1 - 1 ≡ n = omega arith in
      record {
        some = omega arith;
        leads = rw i q.0;
        gives =
            rw (i, e)
            (ap (λ (w : List ℕ). answered (refused_with 23 0) w) (sym (words-ledger_of b h.laid h.lawful))
            ∙ sym (ap called (outcome-no (ledger_of b) (take n l) q.1)));
      }

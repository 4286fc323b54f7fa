-- The change count is the last word of a book, and any count is lawful: a book with another last word passes questions 1 and 2 as before,
-- and shows the same diary and the same tail.
-- Assumes nothing.
use Prim.Native.Nat.{ℕ, ◌+◌, ◌-◌}
use mathlib.Core.Path.{◌≡◌, refl, sym, ◌∙◌, ap}
use mathlib.Core.Logic.{◌↔◌}
use mathlib.Core.List.{List, [], ◌∷◌, ◌++◌, append_assoc}
use native.Mathlib.Omega.{arith}
use lib.ListN.{length, get_or, set, length-append, length-set}
use lib.Seq.{get_or_at, set_at, set-set, set-get_or, get_or-set_other}
use Rattle.model.specs.Words.{words}
use Rattle.model.specs.Tail.{tail_words}
use Rattle.model.specs.Ledger.{Ledger, behind_words, book_words, ledger_of}
use Rattle.model.specs.Seen.{last_word, with_last, last_raised, with_changes, raised}
use Rattle.model.proofs.Shows.{Shows, Passes, passes-shows, shows-passes}

-- the words of a ledger, the count last
module _ (l : Ledger) where
  front : List ℕ
  front = words l.diary ++ tail_words l.tail

  count-behind : book_words l ≡ front ++ (l.changes ∷ [])
  unfolding book_words behind_words front
  count-behind = sym (append_assoc (words l.diary) (tail_words l.tail) (l.changes ∷ []))

  last-place : length (book_words l) - 1 ≡ length front
  last-place =
      let e : length (book_words l) ≡ length front + 1 = ap length count-behind ∙ length-append front (l.changes ∷ []) in
      omega (arith, e)

  pub last-changes : last_word (book_words l) ≡ l.changes
  last-changes =
      ap (λ (i : ℕ). get_or (book_words l) i 0) last-place
      ∙ ap (λ (w : List ℕ). get_or w (length front) 0) count-behind
      ∙ get_or_at front l.changes [] 0 (length front) refl

pub with-last : (l : Ledger) (n : ℕ) → with_last (book_words l) n ≡ book_words (with_changes l n)
unfolding front
with-last l n =
    ap (λ (i : ℕ). set (book_words l) i n) (last-place l)
    ∙ ap (λ (w : List ℕ). set w (length (front l)) n) (count-behind l)
    ∙ set_at (front l) l.changes [] n (length (front l)) refl
    ∙ sym (count-behind (with_changes l n))

pub raised-words : (l : Ledger) (k : ℕ) → last_raised k (book_words l) ≡ book_words (raised k l)
raised-words l k = ap (λ (n : ℕ). with_last (book_words l) (n + k)) (last-changes l) ∙ with-last l (l.changes + k)

-- every word but the last is as before, and there are as many
pub but_last : (b : List ℕ) (n i : ℕ) → (i ≡ length b - 1 → ⊥) → get_or (with_last b n) i 0 ≡ get_or b i 0
but_last b n i h = get_or-set_other b (length b - 1) i n 0 h

pub as_long : (b : List ℕ) (n : ℕ) → length (with_last b n) ≡ length b
as_long b n = length-set b (length b - 1) n

-- of a book that passes
module _ (b : List ℕ) (q : Passes b) where
  h : Shows b (ledger_of b)
  h = passes-shows b q

  -- the count that it shows is its last word
  pub count-last : (ledger_of b).changes ≡ last_word b
  count-last = sym (last-changes (ledger_of b)) ∙ ap last_word (sym h.is)

  pub words-with : (n : ℕ) → book_words (with_changes (ledger_of b) n) ≡ with_last b n
  words-with n = sym (with-last (ledger_of b) n) ∙ ap (λ (w : List ℕ). with_last w n) (sym h.is)

  pub words-raised : (k : ℕ) → book_words (raised k (ledger_of b)) ≡ last_raised k b
  words-raised k = words-with ((ledger_of b).changes + k) ∙ ap (λ (n : ℕ). with_last b (n + k)) count-last

  -- with any other count it shows the same diary and tail
  pub any-count-shows : (n : ℕ) → Shows (with_last b n) (with_changes (ledger_of b) n)
  any-count-shows n = record { sound = record { diary = h.sound.diary; tail = h.sound.tail }; is = sym (words-with n) }

-- "Any count is lawful": what questions 1 and 2 say of a book they say of it with any other last word
pub any-count : (b : List ℕ) (n : ℕ) → Passes b ↔ Passes (with_last b n)
any-count b n = (to b n, λ q. back q)
  where
    to : (b : List ℕ) (n : ℕ) → Passes b → Passes (with_last b n)
    to b n q = shows-passes (with_last b n) (with_changes (ledger_of b) n) (any-count-shows b q n)

    again : with_last (with_last b n) (last_word b) ≡ b
    again =
        ap (λ (i : ℕ). set (with_last b n) (i - 1) (last_word b)) (as_long b n)
        ∙ set-set b (length b - 1) n (last_word b)
        ∙ set-get_or b (length b - 1) 0

    back : Passes (with_last b n) → Passes b
    back q = rw (sym again) (to (with_last b n) (last_word b) q)

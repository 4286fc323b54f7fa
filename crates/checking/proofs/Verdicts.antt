-- The three answers of the model's check, what the answer done leaves to know, and what a refusal is for a call; question 2 by the two
-- parts of a book.
-- Assumes nothing.
use Prim.Native.Nat.{ℕ, ◌-◌}
use mathlib.Core.Path.{◌≡◌, refl, sym, ◌∙◌, ap, subst}
use mathlib.Core.Bool.{Bool, true, false}
use mathlib.Core.List.{List}
use native.Mathlib.Omega.{arith}
use lib.ListN.{length, take, drop}
use Rattle.model.specs.declared.Settings.{Settings}
use Rattle.model.specs.Answers.{Answer}
use Rattle.model.specs.Answers.{done_with, refused_with}
use Rattle.model.specs.Machine.{Call}
use Rattle.model.specs.Words.{diary_length}
use Rattle.model.specs.Reading.{settings_of}
use Rattle.model.specs.Tail.{tail_length, tail_kept}
use Rattle.model.specs.Laws.{well_laid, diary_laid, lawful, diary_lawful}
use Rattle.model.specs.Ledger.{behind_of}
use Rattle.model.proofs.Ledger.{first_part, lent-tail, tail-in-long, behind-long, laid-diary}
use Rattle.model.specs.Calls.{Called, refusing, call_on, check}
use Rattle.book.specs.Good.{GoodBook}

module _ (b : List ℕ) where
  pub check-one : well_laid b ≡ false → check b ≡ refused_with 1 0
  unfolding check
  check-one e = rw e

  pub check-two : well_laid b ≡ true → lawful b ≡ false → check b ≡ refused_with 2 0
  unfolding check
  check-two e f = rw (e, f)

  pub check_done : well_laid b ≡ true → lawful b ≡ true → check b ≡ done_with 0
  unfolding check
  check_done e f = rw (e, f)

  -- done: the book passes questions 1 and 2
  pub done-good : (n : ℕ) → check b ≡ done_with n → GoodBook (settings_of b) b
  done-good n e = go (well_laid b) refl (lawful b) refl
    where
      go : (p : Bool) → well_laid b ≡ p → (q : Bool) → lawful b ≡ q → GoodBook (settings_of b) b
      go true p true q = record { read = refl; laid = p; lawful = q }
      go true p false q = let h = check-two p q in let z : ◌≡◌ {A = ℕ} 0 1 = cc in absurd (omega arith)
      go false p q r = let h = check-one p in let z : ◌≡◌ {A = ℕ} 0 1 = cc in absurd (omega arith)

pub done_refused : {n p v : ℕ} {A : Type 0} → done_with v ≡ refused_with n p → A
done_refused e = absurd (let z : ◌≡◌ {A = ℕ} 0 1 = cc in omega arith)

-- a call of any sort on a book that question 1 or 2 refuses: it is told so, and the book stays
abbrev refused_by : List ℕ → Call → Answer → Called
refused_by b c a = record { reply = refusing c a; book = b }

pub call-refused : (b : List ℕ) (c : Call) {n p : ℕ} → check b ≡ refused_with n p → refused_by b c (refused_with n p) ≡ call_on b c
unfolding check call_on
call-refused b c {n} {p} e = go (well_laid b) refl (lawful b) refl e
  where
    go : (o : Bool) → well_laid b ≡ o → (t : Bool) → lawful b ≡ t → check b ≡ refused_with n p → refused_by b c (refused_with n p) ≡ call_on b c
    go true q true s e = done_refused (rw (q, s) at e)
    go true q false s e = rw (q, s) (ap (refused_by b c) (sym (rw (q, s) at e)))
    go false q t s e = rw q (ap (refused_by b c) (sym (rw q at e)))

-- question 2 of a book that passes question 1, by its first n words and those behind them, where the diary has n
module _ (b : List ℕ) (one : well_laid b ≡ true) (S : Settings) (is : S ≡ settings_of b) (n : ℕ) (here : n ≡ diary_length S) where
  pub first-laid : diary_laid (take n b) ≡ true
  first-laid = subst (λ (d : List ℕ). diary_laid d ≡ true) (first_part b is here) (laid-diary b one)

  pub two-no : diary_lawful (take n b) ≡ false → lawful b ≡ false
  unfolding lawful
  two-no e = rw (first_part b is here, e)

  pub tail-long : length (take (length b - 1 - n) (drop n b)) ≡ tail_length
  tail-long = ap length (lent-tail b one is here) ∙ tail-in-long (behind_of b) (behind-long b one)

  pub two-yes : diary_lawful (take n b) ≡ true → tail_kept (take (length b - 1 - n) (drop n b)) ≡ lawful b
  unfolding lawful
  two-yes e = rw (first_part b is here, e) (ap tail_kept (lent-tail b one is here))

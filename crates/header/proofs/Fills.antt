-- Laying: the settings, then zeros, are the model's fresh book.
-- Assumes nothing.
use Prim.Native.Nat.{ℕ, ◌-◌, ◌≤◌}
use mathlib.Core.Path.{◌≡◌, refl, sym, ◌∙◌, ap, ap₂}
use mathlib.Core.Bool.{true, false}
use mathlib.Core.List.{List, ◌++◌}
use native.Mathlib.Omega.{arith}
use lib.ListN.{length, take, replicate}
use lib.Seq.{take-length}
use borrow.Author.Tests.{eq-eqb, ne_eqb}
use Rattle.model.specs.Answers.{done_with, refused_with}
use Rattle.model.specs.Site.{settings_length, settings_words}
use Rattle.model.specs.Machine.{told}
use Rattle.model.specs.Words.{diary_length}
use Rattle.model.specs.Ledger.{book_length}
use Rattle.model.specs.Reading.{settings_of}
use Rattle.model.specs.Calls.{settings_good, fresh_book, lay}
use Rattle.model.proofs.ReadBack.{valid-is}
use Rattle.model.proofs.Shown.{head-shown}
use Rattle.header.proofs.Heads.{good-is}

-- good settings are the words that they are read from
pub settings-words : (w : List ℕ) → settings_good w ≡ true → settings_words (settings_of w) ≡ w
settings-words w e =
    let g = good-is w e in
    sym (head-shown w (settings_of w) refl (valid-is (settings_of w) g.1) (omega (arith, g.0)))
    ∙ ap (λ (n : ℕ). take n w) (sym g.0) ∙ take-length w

-- the three answers
module _ (w b : List ℕ) where
  pub lay-bad : settings_good w ≡ false → lay w b ≡ record { reply = told (refused_with 24 0); book = b }
  unfolding lay
  lay-bad e = rw e

  pub lay-misfit : settings_good w ≡ true → (length b ≡ book_length (settings_of w) → ⊥) → lay w b ≡ record { reply = told (refused_with 25 0); book = b }
  unfolding lay
  lay-misfit e n = rw (e, ne_eqb _ _ n)

  pub lay_done : settings_good w ≡ true → length b ≡ book_length (settings_of w) → lay w b
      ≡ record { reply = told (done_with 0); book = w ++ replicate (length b - length w) 0 }
  unfolding lay fresh_book
  lay_done e l =
      let n : book_length (settings_of w) - settings_length (settings_of w) ≡ length b - length w = omega (arith, l, (good-is w e).0) in
      rw (e, eq-eqb _ _ l)
      (ap₂ (λ (h : List ℕ) (n : ℕ). record { reply = told (done_with 0); book = h ++ replicate n 0 }) (settings-words w e) n)

  pub lay-room : settings_good w ≡ true → length b ≡ book_length (settings_of w) → length w ≤ length b
  unfolding book_length diary_length
  lay-room e l = omega (arith, l, (good-is w e).0)

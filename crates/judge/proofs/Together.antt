-- The code's questions one after the other: what is found is put in its place.
-- Assumes nothing.
use Prim.Native.Nat.{ℕ, ◌≤◌, ◌<◌}
use mathlib.Core.Path.{◌≡◌, refl, ◌∙◌, ap}
use mathlib.Core.List.{List}
use borrow.Author.Tests.{le-leb, lt-leb}
use native.Mathlib.Omega.{arith}
use Rattle.std.specs.Prelude.{Option, None, Some, Result, Ok, Err, ok_or}
use Rattle.book.specs.declared.grid.Grid.{Grid}
use Rattle.judge.specs.Chains.{asked, ask_of, found_or, lunch_adds, lunch_fits}
use Rattle.model.specs.declared.Settings.{Settings}
use Rattle.model.specs.declared.Refusal.{Refusal}
use Rattle.model.specs.Answers.{Answer}
use Rattle.model.specs.Answers.{refused_with}
use Rattle.model.specs.Site.{capacity}

-- a question that the code asks, and what the machine finds for it: it is refused there, or goes on
pub stops : (n : ℕ) {f g : Option ℕ} {a : Result (Unit {0}) Refusal} {e : Refusal} (next : Answer) → a ≡ ask_of n f → f ≡ g → a ≡ Err e
    → ◌≡◌ {A = Answer} (Err e) (asked n g next)
stops n {f = None} {g} {a} {e} next p q h = absurd (let z : ◌≡◌ {A = ℕ} 0 1 = cc in omega arith)
stops n {f = Some i} {g} {a} {e} next p q h =
    let z : e ≡ record { number = n; place = i } = cc in
    ap Err z ∙ ap (λ (o : Option ℕ). asked n o next) q

pub goes : (n : ℕ) {f g : Option ℕ} {a : Result (Unit {0}) Refusal} {u : Unit {0}} {next last : Answer} → a ≡ ask_of n f → f ≡ g → a ≡ Ok u
    → next ≡ last → next ≡ asked n g last
goes n {f = None} {g} {a} {u} {next} {last} p q h e = e ∙ ap (λ (o : Option ℕ). asked n o last) q
goes n {f = Some i} p q h e = absurd (let z : ◌≡◌ {A = ℕ} 0 1 = cc in omega arith)

-- kinds 17 and 20: done with what was found, or refused
pub or-refused : (n place : ℕ) (o : Option ℕ) → ok_or o (record { number = n; place = place }) ≡ found_or n place o
or-refused n place None = refl
or-refused n place (Some v) = refl

-- question 8 of kind 14, and the others behind it
module _ (S : Settings) (b : List ℕ) (g : Grid) (d m n first last : ℕ) where
  pub no-seats : n < 1 → refused_with 8 0 ≡ lunch_fits S b g d m n first last
  unfolding lunch_fits
  no-seats h = rw (lt-leb _ _ h) refl

  pub too-many-seats : 1 ≤ n → {most : ℕ} → most ≡ capacity S d → most < n → refused_with 8 0 ≡ lunch_fits S b g d m n first last
  unfolding lunch_fits
  too-many-seats h {most} e k = rw (← e, le-leb _ _ h, lt-leb _ _ k) refl

  pub seats-fit : 1 ≤ n → {most : ℕ} → most ≡ capacity S d → n ≤ most → lunch_adds S b g d m n first last ≡ lunch_fits S b g d m n first last
  unfolding lunch_fits
  seats-fit h {most} e k = rw (← e, le-leb _ _ h, le-leb _ _ k) refl

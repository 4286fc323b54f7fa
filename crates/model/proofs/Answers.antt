-- Refusals that are the same have the same number and the same place, and a `?` passes on what it was handed.
use Rattle.std.specs.Prelude.{ℕ, ◌≡◌, Result, Ok, Err, IsErrAnd}
use Rattle.std.proofs.Common.{ap, ◌∙◌}
use Rattle.model.specs.declared.Refusal.{Refusal}
use Rattle.model.specs.Answers.{Answer, refused_with}
use Rattle.std.proofs.lemmas.Result.{err_from_is_err_and}

abbrev pub number_in : Answer → ℕ
number_in (Ok v) = 0
number_in (Err e) = e.number

abbrev pub place_in : Answer → ℕ
place_in (Ok v) = 0
place_in (Err e) = e.place

pub same-number : (n p m q : ℕ) → refused_with n p ≡ refused_with m q → n ≡ m
same-number n p m q e = ap number_in e

pub same-place : (n p m q : ℕ) → refused_with n p ≡ refused_with m q → p ≡ q
same-place n p m q e = ap place_in e

-- what a `?` passes on is the refusal that it was handed
pub err-is : {T : Type 0} {e : Refusal} (r : Result T Refusal) → IsErrAnd r (λ y. y ≡ e) → r ≡ Err e
err-is r h = let p = err_from_is_err_and r h in p.1 ∙ ap Err p.2

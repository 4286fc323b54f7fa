-- `party`: questions 1, 2 and 27, then the guests.
-- Assumes nothing.
use mathlib.Core.Logic.{◌⊎◌, inl, inr}
use mathlib.Core.Path.{sym, ◌∙◌}
use native.Mathlib.Omega.{arith}
use Rattle.model.proofs.Answers.{err-is}
use Rattle.model.specs.Machine.{party}
use Rattle.checking.proofs.Verdicts.{call-refused, done-good}
use Rattle.parties.proofs.Joining.{unfit, fit}
use Rattle.parties.proofs.party.Goals as goal

-- what follows from either of two
either-way : {A B C : Type 0} → A ⊎ B → (A → C) → (B → C) → C
either-way (inl a) f g = f a
either-way (inr b) f g = g b

pub returns-in_err-check : goal.returns-in_err-check
returns-in_err-check c =
    rw (err-is _ c.from_residual.ensures.1) (call-refused _ (party _ _) (sym c.check.ensures ∙ c.in_err-check.was))

pub returns-then-is_empty : goal.returns-then-is_empty
returns-then-is_empty c =
    rw c.refused.ensures
    (unfit (done-good _ _ (sym c.check.ensures ∙ c.in_ok-check.was)) c.args.meeting c.args.guests.now
    (λ k l. either-way c.then-is_empty.either (λ e. grind (arith, k, c.is_empty.ensures, e)) (λ m. omega (arith, l, m.1))))

pub join-requires : goal.join-requires
join-requires c = record { good_book = rw c.settings-s.ensures (done-good _ _ (sym c.check.ensures ∙ c.in_ok-check.was)) }

pub returns : goal.returns
returns c =
    c.join.ensures
    ∙ fit (done-good _ _ (sym c.check.ensures ∙ c.in_ok-check.was)) c.args.meeting c.args.guests.now
    (grind (arith, c.if-is_empty.ensures)) (omega (arith, c.if-guests-gt-MOST_GUESTS.false))

-- What three words that tell an answer say of it.
-- Assumes nothing.
use Prim.Native.Nat.{ℕ, zero, suc}
use mathlib.Core.Path.{◌≡◌, refl, sym, ◌∙◌, ap}
use mathlib.Core.Bool.{Bool, true, false, cond}
use mathlib.Core.List.{[], ◌∷◌}
use lib.Dec.{eqb}
use borrow.Author.Tests.{ne_eqb}
use Rattle.model.specs.Answers.{Answer}
use Rattle.std.specs.Prelude.{Ok, Err}
use Rattle.model.specs.Answers.{done_with, refused_with}
use Rattle.model.specs.Messages.{answer_words, told_by}
use Rattle.model.proofs.Tells.{Tellable}
use Rattle.model.specs.declared.Told.{Told}
use Rattle.model.specs.Told.{told_of, answer_by, is_answer}

words-told : (a : Answer) → (told_of a).number ∷ (told_of a).place ∷ (told_of a).value ∷ [] ≡ answer_words a
words-told (Ok v) = refl
words-told (Err e) = refl

refused-words : (a : Answer) → ((told_of a).number ≡ 0 → ⊥) → a ≡ refused_with (told_of a).number (told_of a).place
refused-words (Ok v) h = absurd (h refl)
refused-words (Err e) h = refl

-- a refusal that can be told has a number
numbered : (n p : ℕ) → Tellable (refused_with n p) → eqb n 0 ≡ false
numbered n p h = ne_eqb n 0 (λ e. h p (λ i. refused_with (e i) p))

done-words : (a : Answer) → Tellable a → (told_of a).number ≡ 0 → a ≡ done_with (told_of a).value
done-words (Ok v) h e = refl
done-words (Err r) h e = absurd (h r.place (λ i. refused_with (e i) r.place))

back-words : (a : Answer) → Tellable a → answer_by (told_of a) ≡ a
back-words (Ok v) h = refl
back-words (Err r) h = go r.number h
  where
    go : (n : ℕ) → Tellable (refused_with n r.place) → told_by n r.place 0 ≡ refused_with n r.place
    go zero h = absurd (h r.place refl)
    go (suc n) h = refl

is-words : (a : Answer) → Tellable a → is_answer (told_of a) ≡ true
is-words (Ok v) h = refl
is-words (Err r) h = ap (λ (b : Bool). cond b (eqb r.place 0) true) (numbered r.number r.place h)

module _ {t : Told} (a : Answer) (e : t ≡ told_of a) where
  pub told-list : t.number ∷ t.place ∷ t.value ∷ [] ≡ answer_words a
  told-list = ap (λ (t : Told). t.number ∷ t.place ∷ t.value ∷ []) e ∙ words-told a

  pub told-no : (t.number ≡ 0 → ⊥) → a ≡ refused_with t.number t.place
  told-no h =
      refused-words a (λ q. h (ap (λ (t : Told). t.number) e ∙ q)) ∙ ap (λ (t : Told). refused_with t.number t.place) (sym e)

  module _ (h : Tellable a) where
    pub told-yes : t.number ≡ 0 → a ≡ done_with t.value
    told-yes q = done-words a h (sym (ap (λ (t : Told). t.number) e) ∙ q) ∙ ap (λ (t : Told). done_with t.value) (sym e)

    pub told-answer : answer_by t ≡ a
    told-answer = ap answer_by e ∙ back-words a h

    pub told_is : is_answer t ≡ true
    told_is = ap is_answer e ∙ is-words a h

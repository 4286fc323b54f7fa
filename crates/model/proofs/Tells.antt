-- The words of an answer tell it: no refusal of the machine has the number 0.
-- Assumes nothing.
use Prim.Native.Nat.{ℕ, zero, suc, ◌<◌}
use mathlib.Core.Path.{◌≡◌, refl, sym, ◌∙◌, ap}
use mathlib.Core.Bool.{Bool, true, false, cond}
use Rattle.std.specs.Prelude.{Option, None, Some}
use mathlib.Core.List.{List, [], ◌∷◌, ◌++◌}
use native.Mathlib.Omega.{arith}
use lib.Dec.{eqb}
use lib.ListN.{length, get_or}
use borrow.Author.Tests.{eqb-true}
use Rattle.model.proofs.Answers.{number_in}
use Rattle.model.specs.declared.Request.{Request}
use Rattle.model.specs.Answers.{Answer}
use Rattle.std.specs.Prelude.{Ok, Err}
use Rattle.model.specs.Answers.{done_with, refused_with}
use Rattle.model.specs.State.{State}
use Rattle.model.specs.Kinds.{Kind, kind_of}
use Rattle.model.specs.Questions.{Question, number, always, further, ask, judge, refusal, Refusal}
use Rattle.model.specs.Messages.{answer_words, told_by}
use Rattle.model.specs.Tail.{entry_at, kept_at}
use Rattle.model.specs.Machine.{step, step_kind, finish, counted_step, ordered, kept_answer, answer_order, perform, told, reply_words}
use Rattle.model.specs.Ledger.{Ledger}
use Rattle.model.proofs.Search.{never}

-- an answer that three words can tell: a refusal has a number other than 0
abbrev pub Tellable : Answer → Type 0
Tellable a = (p : ℕ) → a ≡ refused_with 0 p → ⊥

abbrev number_of : Answer → ℕ
number_of (Ok v) = 1
number_of (Err refused) = let n = refused.number in let p = refused.place in n

pub done-tellable : (v : ℕ) → Tellable (done_with v)
done-tellable v p e =
    let z : number_of (done_with v) ≡ number_of (refused_with 0 p) = ap number_of e in
    omega (arith, z)

pub refused-tellable : (n p : ℕ) → 0 < n → Tellable (refused_with n p)
refused-tellable n p h q e =
    let z : number_of (refused_with n p) ≡ number_of (refused_with 0 q) = ap number_of e in
    omega (arith, h, z)

-- an answer has three words, and so has the reply to a request, with an order or without
pub answer-long : (a : Answer) → length (answer_words a) ≡ 3
answer-long (Ok v) = refl
answer-long (Err refused) = let n = refused.number in let p = refused.place in refl

pub reply-long : (l : Ledger) (n : ℕ) (r : Request) → length (reply_words (perform l (ordered n r)).reply) ≡ 3
reply-long l n r = go (kept_at l.tail n)
  where
    go : (o : Option ℕ) → length (reply_words (answer_order l n r o).reply) ≡ 3
    go None = answer-long (counted_step l.diary l.changes r).answer
    go (Some i) = answer-long (kept_answer (entry_at l.tail i) r)

-- replies that tell the same tell the same answer
pub same-told : {a a' : Answer} → told a ≡ told a' → a ≡ a'
same-told e = cc

-- what three words tell can be told, and is told by them
pub told-tellable : (n p v : ℕ) → Tellable (told_by n p v)
told-tellable zero p v = done-tellable v
told-tellable (suc n) p v = refused-tellable (suc n) p (omega arith)

pub told-words : (n p v : ℕ) → cond (eqb n 0) (eqb p 0) (eqb v 0) ≡ true → answer_words (told_by n p v) ≡ n ∷ p ∷ v ∷ []
told-words zero p v e = ap (λ (p : ℕ). 0 ∷ p ∷ v ∷ []) (sym (eqb-true p 0 e))
told-words (suc n) p v e =
    let f : eqb (suc n) 0 ≡ false = never _ (λ q. omega (arith, eqb-true (suc n) 0 q)) in
    ap (λ (v : ℕ). suc n ∷ p ∷ v ∷ []) (sym (eqb-true v 0 (sym (ap (λ (b : Bool). cond b (eqb p 0) (eqb v 0)) f) ∙ e)))

-- the answer that a list of words begins with
abbrev pub read : List ℕ → Answer
read w = told_by (get_or w 0 0) (get_or w 1 0) (get_or w 2 0)

pub told_back : (a : Answer) → Tellable a → (l : List ℕ) → read (answer_words a ++ l) ≡ a
told_back (Ok v) h l = refl
told_back (Err refused) h l = go refused.number h
  where
    go : (n : ℕ) → Tellable (refused_with n refused.place) → read (answer_words (refused_with n refused.place) ++ l) ≡ refused_with n refused.place
    go zero h = absurd (h refused.place refl)
    go (suc n) h = refl

some_number : (q : Question) → 0 < number q
some_number Question.unused_zero = omega arith
some_number Question.a_below = omega arith
some_number Question.b_below = omega arith
some_number Question.slots_fit = omega arith
some_number Question.seats_fit = omega arith
some_number Question.on_leave = omega arith
some_number (Question.stands w) = omega arith
some_number Question.stands_that_date = omega arith
some_number (Question.absent p) = omega arith
some_number (Question.free p) = omega arith
some_number (Question.elsewhere p) = omega arith
some_number Question.room_left = omega arith
some_number (Question.present p) = omega arith
some_number Question.has_conf = omega arith
some_number Question.has_lunch = omega arith
some_number Question.no_bookings = omega arith
some_number Question.not_held = omega arith
some_number Question.stands_yet = omega arith
some_number Question.attends_one = omega arith
some_number Question.room_free = omega arith

module _ (x : State) (r : Request) where
  judged-number : (k : Kind) (qs : List Question) (f : Refusal) → judge x r k qs ≡ Some f → 0 < f.number
  judged-number k [] f e = absurd (let z : ◌≡◌ {A = ℕ} 0 1 = cc in omega arith)
  judged-number k (q ∷ qs) f e = go (ask x r k q) e (judged-number k qs f)
    where
      go : (o : Option ℕ) → refusal q o (judge x r k qs) ≡ Some f → (judge x r k qs ≡ Some f → 0 < f.number) → 0 < f.number
      go None h later = later h
      go (Some p) h later = let z : number q ≡ f.number = cc in omega (arith, some_number q, z)

  refused-number : (n p : ℕ) → (step x r).answer ≡ refused_with n p → 0 < n
  unfolding step
  refused-number n p e = of-kind (kind_of r.kind) e
    where
      of-kind : (o : Option Kind) → (step_kind x r o).answer ≡ refused_with n p → 0 < n
      of-kind None h = let z : 3 ≡ n = ap number_in h in omega (arith, z)
      of-kind (Some k) h = go (judge x r k (always ++ further k)) refl h
        where
          go : (o : Option Refusal) → judge x r k (always ++ further k) ≡ o → (finish x r k o).answer ≡ refused_with n p → 0 < n
          go None q h = absurd (let z : ◌≡◌ {A = ℕ} 0 1 = cc in omega arith)
          go (Some f) q h = let z : f.number ≡ n = ap number_in h in omega (arith, judged-number k (always ++ further k) f q, z)

pub step-tellable : (x : State) (r : Request) → Tellable (step x r).answer
step-tellable x r p e = let h : 0 < 0 = refused-number x r 0 p e in omega (arith, h)

-- the questions of a request have numbers up to 22
most-number : (q : Question) → number q < 23
most-number Question.unused_zero = omega arith
most-number Question.a_below = omega arith
most-number Question.b_below = omega arith
most-number Question.slots_fit = omega arith
most-number Question.seats_fit = omega arith
most-number Question.on_leave = omega arith
most-number (Question.stands w) = omega arith
most-number Question.stands_that_date = omega arith
most-number (Question.absent p) = omega arith
most-number (Question.free p) = omega arith
most-number (Question.elsewhere p) = omega arith
most-number Question.room_left = omega arith
most-number (Question.present p) = omega arith
most-number Question.has_conf = omega arith
most-number Question.has_lunch = omega arith
most-number Question.no_bookings = omega arith
most-number Question.not_held = omega arith
most-number Question.stands_yet = omega arith
most-number Question.attends_one = omega arith
most-number Question.room_free = omega arith

module _ (x : State) (r : Request) where
  judged-most : (k : Kind) (qs : List Question) (f : Refusal) → judge x r k qs ≡ Some f → f.number < 23
  judged-most k [] f e = absurd (let z : ◌≡◌ {A = ℕ} 0 1 = cc in omega arith)
  judged-most k (q ∷ qs) f e = go (ask x r k q) e (judged-most k qs f)
    where
      go : (o : Option ℕ) → refusal q o (judge x r k qs) ≡ Some f → (judge x r k qs ≡ Some f → f.number < 23) → f.number < 23
      go None h later = later h
      go (Some p) h later = let z : number q ≡ f.number = cc in omega (arith, most-number q, z)

  pub refused-most : (n p : ℕ) → (step x r).answer ≡ refused_with n p → n < 23
  unfolding step
  refused-most n p e = of-kind (kind_of r.kind) e
    where
      of-kind : (o : Option Kind) → (step_kind x r o).answer ≡ refused_with n p → n < 23
      of-kind None h = let z : 3 ≡ n = ap number_in h in omega (arith, z)
      of-kind (Some k) h = go (judge x r k (always ++ further k)) refl h
        where
          go : (o : Option Refusal) → judge x r k (always ++ further k) ≡ o → (finish x r k o).answer ≡ refused_with n p → n < 23
          go None q h = absurd (let z : ◌≡◌ {A = ℕ} 0 1 = cc in omega arith)
          go (Some f) q h = let z : f.number ≡ n = ap number_in h in omega (arith, judged-most k (always ++ further k) f q, z)

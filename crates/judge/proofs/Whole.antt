-- Questions 3 to 7, asked of the words of a request, and the machine's answer from them on.
-- Assumes nothing.
use Prim.Native.Nat.{ℕ, zero, suc}
use mathlib.Core.Path.{◌≡◌, refl, sym, ◌∙◌, ap}
use mathlib.Core.Bool.{Bool, true, false, cond}
use Rattle.std.specs.Prelude.{Option, None, Some, Result, Ok, Err}
use native.Mathlib.Omega.{arith}
use mathlib.Core.List.{List, [], ◌∷◌, ◌++◌}
use Rattle.book.specs.Good.{Good}
use Rattle.kinds.specs.declared.table.Row.{Row}
use Rattle.kinds.specs.Rows.{Ready, row_of, first_no, fields_no, passed, zero_unused, slots_fit}
use Rattle.kinds.proofs.Limits.{fields-is, ready_by}
use Rattle.judge.specs.Chains.{asked, asked_all, answer_for}
use Rattle.model.specs.declared.Settings.{Settings}
use Rattle.model.specs.declared.Request.{Request}
use Rattle.model.specs.Answers.{Answer}
use Rattle.model.specs.Answers.{done_with, refused_with}
use Rattle.model.specs.State.{State}
use Rattle.model.specs.Kinds.{Kind, kind_of, row, limit, slots_of}
use Rattle.model.specs.declared.Refusal.{Refusal}
use Rattle.model.specs.Questions.{Question, number, ask, test, judge, always, further, refusal, below}
use Rattle.model.specs.Machine.{value, finish, step_kind, step}
use Rattle.model.specs.Reading.{settings_of, read_state, state_of}

-- ---- the machine's answer as the questions one after the other

abbrev answer_of : Option Refusal → ℕ → Answer
answer_of None v = done_with v
answer_of (Some f) v = refused_with f.number f.place

refusal-asked : (q : Question) (o : Option ℕ) (later : Option Refusal) (v : ℕ)
    → answer_of (refusal q o later) v ≡ asked (number q) (o) (answer_of later v)
refusal-asked q None later v = refl
refusal-asked q (Some i) later v = refl

judge-asked : (x : State) (r : Request) (k : Kind) (qs : List Question) (v : ℕ) → answer_of (judge x r k qs) v ≡ asked_all x r k qs (done_with v)
judge-asked x r k [] v = refl
judge-asked x r k (q ∷ qs) v =
    refusal-asked q (ask x r k q) (judge x r k qs) v ∙ ap (asked (number q) ((ask x r k q))) (judge-asked x r k qs v)

finish-asked : (x : State) (r : Request) (k : Kind) (o : Option Refusal) → (finish x r k o).answer ≡ answer_of o (value x r k)
finish-asked x r k None = refl
finish-asked x r k (Some f) = refl

-- the code's number of the first no, and 0 for none, before what follows
abbrev unless : ℕ → Answer → Answer
unless zero next = next
unless (suc n) next = refused_with (suc n) 0

unless-some : (n : ℕ) (next : Answer) → (n ≡ 0 → ⊥) → unless n next ≡ refused_with n 0
unless-some zero next h = absurd (h refl)
unless-some (suc n) next h = refl

-- the four tests of a request as a whole, in the code's terms and in the model's
whole_four : (t4 t5 t6 t7 : Bool) (next : Answer)
    → unless (first_no 4 t4 (first_no 5 t5 (first_no 6 t6 (first_no 7 t7 0)))) next
    ≡ asked 4 ((cond t4 None (Some 0)))
    (asked 5 ((cond t5 None (Some 0)))
    (asked 6 ((cond t6 None (Some 0)))
    (asked 7 ((cond t7 None (Some 0))) next)))
whole_four false t5 t6 t7 next = refl
whole_four true false t6 t7 next = refl
whole_four true true false t7 next = refl
whole_four true true true false next = refl
whole_four true true true true next = refl

module _ (b : List ℕ) (r : Request) (k : Kind) where
  fields-are : unless (fields_no (row_of (settings_of b) (row k)) r) (answer_for (state_of b) r k)
      ≡ asked_all (state_of b) r k (always ++ further k) (done_with (value (state_of b) r k))
  unfolding slots_fit ask test state_of read_state
  fields-are =
      ap (λ (n : ℕ). unless n (answer_for (state_of b) r k)) (fields-is (settings_of b) (row k) r)
      ∙ whole_four (zero_unused (row k) r.a r.b r.n r.info) (below (limit (settings_of b) (row k).a) r.a)
      (below (limit (settings_of b) (row k).b) r.b) (slots_fit (slots_of (settings_of b) (row k).unit) (row k).one r.first r.last)
      (answer_for (state_of b) r k)

  -- the answer of a request of the kind from question 4 on
  step_is : kind_of r.kind ≡ Some k → unless (fields_no (row_of (settings_of b) (row k)) r) (answer_for (state_of b) r k) ≡ (step (state_of b) r).answer
  unfolding step
  step_is e =
      fields-are
      ∙ sym (judge-asked (state_of b) r k (always ++ further k) (value (state_of b) r k))
      ∙ sym (finish-asked (state_of b) r k (judge (state_of b) r k (always ++ further k)))
      ∙ ap (λ (o : Option Kind). (step_kind (state_of b) r o).answer) (sym e)

-- where the code goes on, questions 4 to 7 have no no
pub none-no : {n : ℕ} {a : Result (Unit {0}) Refusal} {u : Unit {0}} → a ≡ passed n → a ≡ Ok u → n ≡ 0
none-no {n = zero} e q = refl
none-no {n = suc n} e q = absurd (let z : ◌≡◌ {A = ℕ} 0 1 = cc in omega arith)

-- a request of kind k on a good book, where n is the first no of questions 4 to 7 by the kind's row w, and 0 for none
module _ {S : Settings} {b : List ℕ} (good : Good S b) (r : Request) (k : Kind) (is : kind_of r.kind ≡ Some k)
    {w : Row} {n : ℕ} (row_is : w ≡ row_of S (row k)) (no : n ≡ fields_no w r) where
  first-is : n ≡ fields_no (row_of S (row k)) r
  first-is = no ∙ ap (λ (w : Row). fields_no w r) row_is

  from-four : unless n (answer_for (state_of b) r k) ≡ (step (state_of b) r).answer
  from-four =
      ap (λ (n : ℕ). unless n (answer_for (state_of b) r k)) (first-is ∙ ap (λ (S : Settings). fields_no (row_of S (row k)) r) good.read)
      ∙ step_is b r k is

  pub refused-by : (n ≡ 0 → ⊥) → refused_with n 0 ≡ (step (state_of b) r).answer
  refused-by h = sym (unless-some n (answer_for (state_of b) r k) h) ∙ from-four

  -- where the code is refused by the fields, so is the machine
  pub refused-fields : {a : Result (Unit {0}) Refusal} {e : Refusal} → a ≡ passed n → a ≡ Err e → refused_with e.number e.place ≡ (step (state_of b) r).answer
  refused-fields {a} {e} p q = go n refl
    where
      go : (m : ℕ) → n ≡ m → refused_with e.number e.place ≡ (step (state_of b) r).answer
      go zero z = absurd (let z : ◌≡◌ {A = ℕ} 0 1 = cc in omega arith)
      go (suc m) z =
          let f : e ≡ record { number = suc m; place = 0 } = cc in
          ap Err (f ∙ ap (λ (m : ℕ). record { number = m; place = 0 }) (sym z)) ∙ refused-by (λ y. omega (arith, y, z))

  pub ready : n ≡ 0 → Ready S (row k) r
  ready z = ready_by S (row k) r (sym first-is ∙ z)

  -- past question 7 the answer is that of the kind's own questions
  pub past-seven : n ≡ 0 → answer_for (state_of b) r k ≡ (step (state_of b) r).answer
  past-seven z = ap (λ (n : ℕ). unless n (answer_for (state_of b) r k)) (sym z) ∙ from-four

-- and where no kind has the number
pub step-none : (b : List ℕ) (r : Request) → kind_of r.kind ≡ None → refused_with 3 0 ≡ (step (state_of b) r).answer
unfolding step
step-none b r e = ap (λ (o : Option Kind). (step_kind (state_of b) r o).answer) (sym e)

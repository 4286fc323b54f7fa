-- The change count (section 19): what raises it, what question 30 refuses, and that what is counted is otherwise the step or the party.
-- Assumes nothing.
use Prim.Native.Nat.{ℕ, suc, ◌<◌}
use mathlib.Core.Path.{◌≡◌, refl, ◌∙◌, ap}
use mathlib.Core.Bool.{Bool, true, false, cond}
use mathlib.Core.List.{List}
use native.Mathlib.Omega.{arith}
use lib.Dec.{eqb}
use borrow.Author.Tests.{ne_eqb}
use Rattle.model.specs.declared.Request.{Request}
use Rattle.model.specs.declared.Guest.{Guest}
use Rattle.model.specs.Answers.{Answer}
use Rattle.std.specs.Prelude.{Ok, Err}
use Rattle.model.specs.Answers.{done_with, refused_with}
use Rattle.model.specs.State.{State}
use Rattle.model.specs.Ledger.{Ledger}
use Rattle.model.specs.Machine.{Outcome, step, admit, Counted, most_changes, raise, is_change, counted_step, counted_party}
use Rattle.model.proofs.Tells.{Tellable, done-tellable, refused-tellable, step-tellable}

-- the answer of a ledger to a request without an order
abbrev pub answer_to : Ledger → Request → Answer
answer_to l r = (counted_step l.diary l.changes r).answer

pub refused-done : {k p v : ℕ} → refused_with k p ≡ done_with v → ⊥
refused-done e = let z : ◌≡◌ {A = ℕ} 0 1 = cc in omega arith

-- a request that is no change is its step, and leaves the count
pub uncounted : (x : State) (n : ℕ) (r : Request) → is_change r ≡ false
    → counted_step x n r ≡ record { answer = (step x r).answer; state = (step x r).state; changes = n }
unfolding counted_step
uncounted x n r e = rw e

-- a change that is refused is refused the same, and leaves diary and count
pub counted-refused : (x : State) (n : ℕ) (r : Request) (k p : ℕ) → is_change r ≡ true → (step x r).answer ≡ refused_with k p
    → counted_step x n r ≡ record { answer = refused_with k p; state = x; changes = n }
unfolding counted_step raise
counted-refused x n r k p c e = rw (c, e)

-- a change that is done raises the count, where this can rise
pub raise-done : (x : State) (n : ℕ) (o : Outcome) (v : ℕ) → n < most_changes
    → raise x n o (done_with v) ≡ record { answer = done_with v; state = o.state; changes = suc n }
unfolding raise
raise-done x n o v h =
    let f : eqb n most_changes ≡ false = ne_eqb n most_changes (λ e. omega (arith, h, e)) in
    rw f

pub counted-done : (x : State) (n : ℕ) (r : Request) (v : ℕ) → is_change r ≡ true → n < most_changes → (step x r).answer ≡ done_with v
    → counted_step x n r ≡ record { answer = done_with v; state = (step x r).state; changes = suc n }
unfolding counted_step
counted-done x n r v c h e = rw c (ap (raise x n (step x r)) e ∙ raise-done x n (step x r) v h)

-- and is refused by 30 where it cannot
pub counted-full : (x : State) (r : Request) (v : ℕ) → is_change r ≡ true → (step x r).answer ≡ done_with v
    → counted_step x most_changes r ≡ record { answer = refused_with 30 0; state = x; changes = most_changes }
unfolding counted_step raise
counted-full x r v c e = rw (c, e)

-- a diary after what is counted is the one before or the outcome's: what holds of both holds of it
pub raise-state : (P : State → Type 0) (x : State) (n : ℕ) (o : Outcome) (a : Answer) → P x → P o.state → P (raise x n o a).state
unfolding raise
raise-state P x n o (Ok v) h g = go (eqb n most_changes)
  where
    go : (t : Bool)
        → P (cond {A = Counted} t (record { answer = refused_with 30 0; state = x; changes = n }) (record { answer = done_with v; state = o.state; changes = suc n })
        ).state
    go true = h
    go false = g
raise-state P x n o (Err refused) h g = let k = refused.number in let p = refused.place in h

pub counted-state : (P : State → Type 0) (x : State) (n : ℕ) (r : Request) → P x → P (step x r).state → P (counted_step x n r).state
unfolding counted_step
counted-state P x n r h g = go (is_change r)
  where
    o : Outcome
    o = step x r

    go : (t : Bool) → P (cond t (raise x n o o.answer) (record { answer = o.answer; state = o.state; changes = n })).state
    go true = raise-state P x n o o.answer h g
    go false = g

pub counted-party-state : (P : State → Type 0) (x : State) (n m : ℕ) (gs : List Guest) → P x → P (admit x m gs).state → P (counted_party x n m gs).state
unfolding counted_party
counted-party-state P x n m gs h g = raise-state P x n (admit x m gs) (admit x m gs).answer h g

-- the answer is the outcome's, or 30: three words can tell it
raise-tellable : (x : State) (n : ℕ) (o : Outcome) (a : Answer) → Tellable a → Tellable (raise x n o a).answer
unfolding raise
raise-tellable x n o (Ok v) h = go (eqb n most_changes)
  where
    go : (t : Bool)
        → Tellable
        (cond {A = Counted} t (record { answer = refused_with 30 0; state = x; changes = n }) (record { answer = done_with v; state = o.state; changes = suc n })
        ).answer
    go true = refused-tellable 30 0 (omega arith)
    go false = done-tellable v
raise-tellable x n o (Err refused) h = let k = refused.number in let p = refused.place in h

pub counted-tellable : (x : State) (n : ℕ) (r : Request) → Tellable (counted_step x n r).answer
unfolding counted_step
counted-tellable x n r = go (is_change r)
  where
    o : Outcome
    o = step x r

    go : (t : Bool) → Tellable (cond t (raise x n o o.answer) (record { answer = o.answer; state = o.state; changes = n })).answer
    go true = raise-tellable x n o o.answer (step-tellable x r)
    go false = step-tellable x r

-- what is done, counted, is done by the step, and the diary is the step's
done-raised : (x : State) (n : ℕ) (o : Outcome) (a : Answer) (v : ℕ) → (raise x n o a).answer ≡ done_with v → (a ≡ done_with v) × ((raise x n o a).state ≡ o.state)
unfolding raise
done-raised x n o (Ok w) v e = go (eqb n most_changes) refl e
  where
    go : (t : Bool) → eqb n most_changes ≡ t → (raise x n o (done_with w)).answer ≡ done_with v → (done_with w ≡ done_with v) × ((raise x n o (done_with w)).state ≡ o.state)
    go true q e = absurd (let z : refused_with 30 0 ≡ done_with v = rw q at e in refused-done z)
    go false q e = (rw q at e, rw q)
done-raised x n o (Err refused) v e = let k = refused.number in let p = refused.place in absurd (refused-done e)

pub done-counted : (x : State) (n : ℕ) (r : Request) (v : ℕ) → (counted_step x n r).answer ≡ done_with v
    → ((step x r).answer ≡ done_with v) × ((counted_step x n r).state ≡ (step x r).state)
unfolding counted_step
done-counted x n r v e = go (is_change r) refl e
  where
    go : (t : Bool) → is_change r ≡ t → (counted_step x n r).answer ≡ done_with v → ((step x r).answer ≡ done_with v) × ((counted_step x n r).state ≡ (step x r).state)
    go true q e =
        let h = done-raised x n (step x r) (step x r).answer v (rw q at e) in
        (h.0, rw q h.1)
    go false q e = (rw q at e, rw q)

-- at the greatest count a change leaves diary and count, whatever its answer
pub full-stays : (x : State) (n : ℕ) (r : Request) → is_change r ≡ true → n ≡ most_changes
    → counted_step x n r ≡ record { answer = (counted_step x n r).answer; state = x; changes = n }
unfolding counted_step raise
full-stays x n r c e = rw (c, e) (go (step x r).answer)
  where
    go : (a : Answer) → raise x most_changes (step x r) a ≡ record { answer = (raise x most_changes (step x r) a).answer; state = x; changes = most_changes }
    go (Ok v) = refl
    go (Err refused) = let k = refused.number in let p = refused.place in refl

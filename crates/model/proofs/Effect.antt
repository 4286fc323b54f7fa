-- What a request does to a diary with a change count: it leaves both, or it is a change that is done and raises the count by one. From
-- this: sending again, two requests exchanged, and lists whose requests are all done.
-- Assumes nothing.
use Prim.Native.Nat.{ℕ, zero, suc, ◌+◌, ◌-◌, ◌≤◌}
use mathlib.Core.Path.{◌≡◌, refl, sym, ◌∙◌, ap, ap₂, subst}
use mathlib.Core.Bool.{Bool, true, false, ◌&&◌, false≢true}
use Rattle.std.specs.Prelude.{Option, None, Some}
use mathlib.Core.List.{List, [], ◌∷◌, ◌++◌}
use native.Mathlib.Omega.{arith}
use lib.Dec.{leb, eqb}
use lib.ListN.{length, get_or, drop, replicate}
use lib.Seq.{get_or-drop}
use borrow.Author.Tests.{eqb-true, eq-eqb, ne_eqb, le-leb, leb-false}
use Rattle.model.specs.declared.Settings.{Settings}
use Rattle.model.specs.declared.Request.{Request}
use Rattle.model.specs.Answers.{Answer}
use Rattle.std.specs.Prelude.{Ok, Err}
use Rattle.model.specs.Answers.{done_with, refused_with}
use Rattle.model.specs.Bounded.{within, every, one}
use Rattle.model.specs.State.{State}
use Rattle.model.specs.Kinds.{Kind, kinds, kind_of, Kind.which_meeting, Kind.count_leave, Kind.seats_left, Kind.free_room}
use Rattle.model.specs.Questions.{Refusal, judge, always, further}
use Rattle.model.specs.Machine.{change, finish, step_kind, step, Outcome, steps, most_changes, is_change, Counted, raise, counted_step}
use Rattle.model.specs.Seen.{is_done}
use Rattle.model.proofs.Search.{never, both, and-true, and_left, and_right}
use Rattle.model.proofs.Frame.{Group, stays, removal, meetings, queries, group, step-settings}
use Rattle.model.proofs.Counting.{refused-done, counted-state, uncounted, counted-refused, counted-full}
use Rattle.model.proofs.Runs.{CountedSteps, counted_steps}
use Rattle.model.proofs.Done.{refused-keeps}
use Rattle.model.proofs.Repeat.{repeat-state}
use Rattle.model.proofs.Locality.{Apart, apart-sym, exchange-answer, exchange-state, Exchanged}

-- ---- a request that is no change leaves every set

past-changes : (n : ℕ) → within 1 16 (suc n) ≡ false → 17 + (suc n - 17) ≡ suc n
past-changes n e =
    let b : leb (suc n) 16 ≡ false = never _ (λ t. both (and-true (le-leb 1 (suc n) (omega arith)) t) e) in
    omega (arith, leb-false (suc n) 16 b)

module _ (x : State) (r : Request) where
  finished : (k : Kind) → change x r k ≡ x → (step_kind x r (Some k)).state ≡ x
  finished k e = go (judge x r k (always ++ further k))
    where
      go : (o : Option Refusal) → (finish x r k o).state ≡ x
      go None = e
      go (Some f) = refl

  only-asks : (i : ℕ) → (step_kind x r (get_or (drop 17 kinds) i None)).state ≡ x
  unfolding change
  only-asks zero = finished which_meeting refl
  only-asks (suc zero) = finished count_leave refl
  only-asks (suc (suc zero)) = finished seats_left refl
  only-asks (suc (suc (suc zero))) = finished free_room refl
  only-asks (suc (suc (suc (suc i)))) = refl

  pub query-keeps : is_change r ≡ false → (step x r).state ≡ x
  unfolding step kind_of
  query-keeps e = go r.kind e
    where
      go : (n : ℕ) → within 1 16 n ≡ false → (step_kind x r (kind_of n)).state ≡ x
      go zero e = refl
      go (suc n) e =
          ap (λ (m : ℕ). (step_kind x r (get_or kinds m None)).state) (sym (past-changes n e))
          ∙ ap (λ (o : Option Kind). (step_kind x r o).state) (sym (get_or-drop 17 kinds (suc n - 17) None))
          ∙ only-asks (suc n - 17)

-- ---- what is counted, by its answer

-- what is done, counted, is done by the step or the party; the diary is the one that it leaves, and the count one more
pub record Risen (x : State) (n : ℕ) (o : Outcome) (a : Answer) (v : ℕ) : Type 0 where
  pub done : a ≡ done_with v
  pub state : (raise x n o a).state ≡ o.state
  pub changes : (raise x n o a).changes ≡ suc n

pub risen : (x : State) (n : ℕ) (o : Outcome) (a : Answer) (v : ℕ) → (raise x n o a).answer ≡ done_with v → Risen x n o a v
unfolding raise
risen x n o (Ok w) v e = go (eqb n most_changes) refl e
  where
    go : (t : Bool) → eqb n most_changes ≡ t → (raise x n o (done_with w)).answer ≡ done_with v → Risen x n o (done_with w) v
    go true q e = absurd (let z : refused_with 30 0 ≡ done_with v = rw q at e in refused-done z)
    go false q e = record { done = rw q at e; state = rw q; changes = rw q }
risen x n o (Err refused) v e = let k = refused.number in let p = refused.place in absurd (refused-done e)

-- what is refused, counted, leaves diary and count
pub refused-raised : (x : State) (n : ℕ) (o : Outcome) (a : Answer) (k p : ℕ) → (raise x n o a).answer ≡ refused_with k p
    → raise x n o a ≡ record { answer = refused_with k p; state = x; changes = n }
unfolding raise
refused-raised x n o (Ok w) k p e = go (eqb n most_changes) refl e
  where
    go : (t : Bool) → eqb n most_changes ≡ t → (raise x n o (done_with w)).answer ≡ refused_with k p
        → raise x n o (done_with w) ≡ record { answer = refused_with k p; state = x; changes = n }
    go true q e =
        let z : refused_with 30 0 ≡ refused_with k p = rw q at e in
        rw q (ap (λ (a : Answer). record { answer = a; state = x; changes = n }) z)
    go false q e = absurd (let z : done_with w ≡ refused_with k p = rw q at e in refused-done (sym z))
refused-raised x n o (Err refused) k p e = let j = refused.number in let i = refused.place in ap (λ (a : Answer). record { answer = a; state = x; changes = n }) e

-- ---- what a request does

-- It is of a kind that only asks, or of none; it is refused; it would be done, but the count is the greatest; or it is done and raises it.
pub data Effect (x : State) (n : ℕ) (r : Request) : Type 0 where
  only_asks : is_change r ≡ false → Effect x n r
  is_refused : (k p : ℕ) → is_change r ≡ true → (step x r).answer ≡ refused_with k p → Effect x n r
  is_full : (v : ℕ) → is_change r ≡ true → (step x r).answer ≡ done_with v → n ≡ most_changes → Effect x n r
  raises : (v : ℕ) → is_change r ≡ true → (step x r).answer ≡ done_with v → (n ≡ most_changes → ⊥) → Effect x n r

pub effect : (x : State) (n : ℕ) (r : Request) → Effect x n r
effect x n r = go (is_change r) refl (step x r).answer refl (eqb n most_changes) refl
  where
    go : (c : Bool) → is_change r ≡ c → (a : Answer) → (step x r).answer ≡ a → (t : Bool) → eqb n most_changes ≡ t → Effect x n r
    go false c a e t q = only_asks c
    go true c (Err refused) e t q = let k = refused.number in let p = refused.place in is_refused k p c e
    go true c (Ok v) e true q = is_full v c e (eqb-true n most_changes q)
    go true c (Ok v) e false q = raises v c e (λ z. false≢true (sym q ∙ eq-eqb n most_changes z))

-- the four in equations
module _ (x : State) (n : ℕ) (r : Request) where
  pub only-asked : is_change r ≡ false → counted_step x n r ≡ record { answer = (step x r).answer; state = x; changes = n }
  only-asked c = uncounted x n r c ∙ ap (λ (z : State). record { answer = (step x r).answer; state = z; changes = n }) (query-keeps x r c)

  pub full : (v : ℕ) → is_change r ≡ true → (step x r).answer ≡ done_with v → n ≡ most_changes
      → counted_step x n r ≡ record { answer = refused_with 30 0; state = x; changes = n }
  full v c e q =
      ap (λ (m : ℕ). counted_step x m r) q
      ∙ counted-full x r v c e
      ∙ ap (λ (m : ℕ). record { answer = refused_with 30 0; state = x; changes = m }) (sym q)

  pub raised_by : (v : ℕ) → is_change r ≡ true → (step x r).answer ≡ done_with v → (n ≡ most_changes → ⊥)
      → counted_step x n r ≡ record { answer = done_with v; state = (step x r).state; changes = suc n }
  unfolding counted_step raise
  raised_by v c e h = rw (c, e, ne_eqb n most_changes h)

-- what leaves diary and count does so, with the same answer, on any diary that would answer the same, after a change as well
record Quiet (x : State) (n : ℕ) (r : Request) : Type 0 where
  now : counted_step x n r ≡ record { answer = (counted_step x n r).answer; state = x; changes = n }
  then : (y : State) → (step y r).answer ≡ (step x r).answer → (n ≡ most_changes → ⊥)
      → counted_step y (suc n) r ≡ record { answer = (counted_step x n r).answer; state = y; changes = suc n }

abbrev answered : State → ℕ → Answer → Counted
answered x n a = record { answer = a; state = x; changes = n }

quiet_by : (x : State) (n : ℕ) (r : Request) (a : Answer) → counted_step x n r ≡ answered x n a
    → ((y : State) → (step y r).answer ≡ (step x r).answer → (n ≡ most_changes → ⊥) → counted_step y (suc n) r ≡ answered y (suc n) a) → Quiet x n r
quiet_by x n r a e f =
    let q : a ≡ (counted_step x n r).answer = sym (ap (λ (o : Counted). o.answer) e) in
    record { now = e ∙ ap (answered x n) q; then = λ y s h. f y s h ∙ ap (answered y (suc n)) q }

quiet-asks : (x : State) (n : ℕ) (r : Request) → is_change r ≡ false → Quiet x n r
quiet-asks x n r c = quiet_by x n r _ (only-asked x n r c) (λ y s h. only-asked y (suc n) r c ∙ ap (answered y (suc n)) s)

quiet-refused : (x : State) (n : ℕ) (r : Request) (k p : ℕ) → is_change r ≡ true → (step x r).answer ≡ refused_with k p → Quiet x n r
quiet-refused x n r k p c e = quiet_by x n r (refused_with k p) (counted-refused x n r k p c e) (λ y s h. counted-refused y (suc n) r k p c (s ∙ e))

quiet-full : (x : State) (n : ℕ) (r : Request) (v : ℕ) → is_change r ≡ true → (step x r).answer ≡ done_with v → n ≡ most_changes → Quiet x n r
quiet-full x n r v c e q = quiet_by x n r (refused_with 30 0) (full x n r v c e q) (λ y s h. absurd (h q))

-- ---- one request after another

-- r' right after r
abbrev after : State → ℕ → Request → Request → Counted
after x n r r' = counted_step (counted_step x n r).state (counted_step x n r).changes r'

-- after what leaves diary and count all is as before
quiet-first : (x : State) (n : ℕ) (r r' : Request) → Quiet x n r → after x n r r' ≡ counted_step x n r'
quiet-first x n r r' q = ap (λ (o : Counted). counted_step o.state o.changes r') q.now

after-raise : (x : State) (n : ℕ) (r r' : Request) (v : ℕ) → is_change r ≡ true → (step x r).answer ≡ done_with v → (n ≡ most_changes → ⊥)
    → after x n r r' ≡ counted_step (step x r).state (suc n) r'
after-raise x n r r' v c e h = ap (λ (o : Counted). counted_step o.state o.changes r') (raised_by x n r v c e h)

-- two requests that share no date, unless both are done as changes and the count can rise by one only
pub record Swaps (x : State) (n : ℕ) (r r' : Request) : Type 0 where
  pub second : (after x n r r').answer ≡ (counted_step x n r').answer
  pub first : (after x n r' r).answer ≡ (counted_step x n r).answer
  pub state : (after x n r r').state ≡ (after x n r' r).state
  pub changes : (after x n r r').changes ≡ (after x n r' r).changes

-- the count can rise by one only, and both are changes that are done
pub record OneLeft (x : State) (n : ℕ) (r r' : Request) : Type 0 where
  pub left : suc n ≡ most_changes
  pub one : is_change r ≡ true
  pub other : is_change r' ≡ true
  pub first : (v : ℕ) × ((step x r).answer ≡ done_with v)
  pub second : (v : ℕ) × ((step x r').answer ≡ done_with v)

flip : {x : State} {n : ℕ} {r r' : Request} → Swaps x n r r' → Swaps x n r' r
flip s = record { second = s.first; first = s.second; state = sym s.state; changes = sym s.changes }

module _ (x : State) (n : ℕ) (r r' : Request) (apart : Apart x.settings r r') where
  quiet-both : Quiet x n r → Quiet x n r' → Swaps x n r r'
  quiet-both q p =
      let a : after x n r r' ≡ counted_step x n r' = quiet-first x n r r' q in
      let b : after x n r' r ≡ counted_step x n r = quiet-first x n r' r p in
      record {
        second = ap (λ (o : Counted). o.answer) a;
        first = ap (λ (o : Counted). o.answer) b;
        state = ap (λ (o : Counted). o.state) (a ∙ p.now) ∙ sym (ap (λ (o : Counted). o.state) (b ∙ q.now));
        changes = ap (λ (o : Counted). o.changes) (a ∙ p.now) ∙ sym (ap (λ (o : Counted). o.changes) (b ∙ q.now));
      }

  -- r is done as a change, and r' leaves diary and count
  quiet_one : (v : ℕ) → is_change r ≡ true → (step x r).answer ≡ done_with v → (n ≡ most_changes → ⊥) → Quiet x n r' → Swaps x n r r'
  quiet_one v c e h p =
      let a : after x n r r' ≡ answered (step x r).state (suc n) (counted_step x n r').answer
      = after-raise x n r r' v c e h ∙ p.then (step x r).state (exchange-answer x r r' apart) h in
      let b : after x n r' r ≡ answered (step x r).state (suc n) (done_with v) = quiet-first x n r' r p ∙ raised_by x n r v c e h in
      record {
        second = ap (λ (o : Counted). o.answer) a;
        first = ap (λ (o : Counted). o.answer) (b ∙ sym (raised_by x n r v c e h));
        state = ap (λ (o : Counted). o.state) a ∙ sym (ap (λ (o : Counted). o.state) b);
        changes = ap (λ (o : Counted). o.changes) a ∙ sym (ap (λ (o : Counted). o.changes) b);
      }

module _ (x : State) (n : ℕ) where
  -- one done change right after another
  both-raise : (r r' : Request) → Apart x.settings r r' → (v w : ℕ) → is_change r ≡ true → (step x r).answer ≡ done_with v → is_change r' ≡ true
      → (step x r').answer ≡ done_with w → (n ≡ most_changes → ⊥) → (suc n ≡ most_changes → ⊥)
      → after x n r r' ≡ answered (step (step x r).state r').state (suc (suc n)) (done_with w)
  both-raise r r' apart v w c e c' e' h h' =
      after-raise x n r r' v c e h ∙ raised_by (step x r).state (suc n) r' w c' (exchange-answer x r r' apart ∙ e') h'

  pub swaps : (r r' : Request) → Apart x.settings r r' → (OneLeft x n r r' → ⊥) → Swaps x n r r'
  swaps r r' apart spare = go (effect x n r) (effect x n r')
    where
      back : Apart x.settings r' r
      back = apart-sym x.settings r r' apart

      right : Quiet x n r → Effect x n r' → Swaps x n r r'
      right q (only_asks c) = quiet-both x n r r' apart q (quiet-asks x n r' c)
      right q (is_refused k p c e) = quiet-both x n r r' apart q (quiet-refused x n r' k p c e)
      right q (is_full v c e f) = quiet-both x n r r' apart q (quiet-full x n r' v c e f)
      right q (raises v c e h) = flip (quiet_one x n r' r back v c e h q)

      left : (v : ℕ) → is_change r ≡ true → (step x r).answer ≡ done_with v → (n ≡ most_changes → ⊥) → Effect x n r' → Swaps x n r r'
      left v c e h (only_asks c') = quiet_one x n r r' apart v c e h (quiet-asks x n r' c')
      left v c e h (is_refused k p c' e') = quiet_one x n r r' apart v c e h (quiet-refused x n r' k p c' e')
      left v c e h (is_full w c' e' f) = absurd (h f)
      left v c e h (raises w c' e' g) =
          let h' : suc n ≡ most_changes → ⊥
          = λ z. spare (record { left = z; one = c; other = c'; first = (v, e); second = (w, e') }) in
          let a = both-raise r r' apart v w c e c' e' h h' in
          let b = both-raise r' r back w v c' e' c e h h' in
          record {
            second = ap (λ (o : Counted). o.answer) a ∙ sym (ap (λ (o : Counted). o.answer) (raised_by x n r' w c' e' h));
            first = ap (λ (o : Counted). o.answer) b ∙ sym (ap (λ (o : Counted). o.answer) (raised_by x n r v c e h));
            state = ap (λ (o : Counted). o.state) a ∙ exchange-state x r r' apart ∙ sym (ap (λ (o : Counted). o.state) b);
            changes = ap (λ (o : Counted). o.changes) a ∙ sym (ap (λ (o : Counted). o.changes) b);
          }

      go : Effect x n r → Effect x n r' → Swaps x n r r'
      go (only_asks c) f = right (quiet-asks x n r c) f
      go (is_refused k p c e) f = right (quiet-refused x n r k p c e) f
      go (is_full v c e q) f = right (quiet-full x n r v c e q) f
      go (raises v c e h) f = left v c e h f

-- of two changes that share no date, where the count can rise by one only, the one that comes first is done, and 30 refuses the other
pub one_only : (x : State) (n : ℕ) (r r' : Request) → Apart x.settings r r' → OneLeft x n r r'
    → ((counted_step x n r).answer ≡ (step x r).answer) × ((after x n r r').answer ≡ refused_with 30 0)
one_only x n r r' apart h =
    let room : n ≡ most_changes → ⊥ = λ z. omega (arith, z, h.left) in (
      ap (λ (o : Counted). o.answer) (raised_by x n r h.first.0 h.one h.first.1 room) ∙ sym h.first.1,
      ap (λ (o : Counted). o.answer)
          (after-raise x n r r' h.first.0 h.one h.first.1 room
          ∙ full (step x r).state (suc n) r' h.second.0 h.other (exchange-answer x r r' apart ∙ h.second.1) h.left),
    )

-- ---- lists

-- two neighbours exchanged in a list of requests on a diary with a count: the answers before and after them stay, each of the two has the
-- answer that it would have right after those before, and diary and count are the same
pub record ExchangedAt (x : State) (n : ℕ) (cs : List Request) (r r' : Request) (one other : CountedSteps) : Type 0 where
  pub answers : Exchanged (counted_steps x n cs).answers (counted_step (counted_steps x n cs).state (counted_steps x n cs).changes r).answer
      (counted_step (counted_steps x n cs).state (counted_steps x n cs).changes r').answer one.answers other.answers
  pub state : one.state ≡ other.state
  pub changes : one.changes ≡ other.changes

pub counted-settings : (x : State) (n : ℕ) (r : Request) → (counted_step x n r).state.settings ≡ x.settings
counted-settings x n r = counted-state (λ (z : State). z.settings ≡ x.settings) x n r refl (step-settings x r)

pub exchange-counted : (x : State) (n : ℕ) (cs ds : List Request) (r r' : Request) → Apart x.settings r r'
    → (OneLeft (counted_steps x n cs).state (counted_steps x n cs).changes r r' → ⊥)
    → ExchangedAt x n cs r r' (counted_steps x n (cs ++ r ∷ r' ∷ ds)) (counted_steps x n (cs ++ r' ∷ r ∷ ds))
unfolding counted_steps
exchange-counted x n [] ds r r' apart spare =
    let s = swaps x n r r' apart spare in
    let rest : counted_steps (after x n r' r).state (after x n r' r).changes ds ≡ counted_steps (after x n r r').state (after x n r r').changes ds
    = sym (ap₂ (λ (z : State) (k : ℕ). counted_steps z k ds) s.state s.changes) in
    record {
      answers =
          record {
            later = (counted_steps (after x n r r').state (after x n r r').changes ds).answers;
            first =
                ap (λ (a : Answer). (counted_step x n r).answer ∷ a ∷ (counted_steps (after x n r r').state (after x n r r').changes ds).answers)
                s.second;
            second =
                ap (λ (a : Answer). (counted_step x n r').answer ∷ a ∷ (counted_steps (after x n r' r).state (after x n r' r).changes ds).answers)
                s.first
                ∙ ap (λ (u : CountedSteps). (counted_step x n r').answer ∷ (counted_step x n r).answer ∷ u.answers) rest;
          };
      state = sym (ap (λ (u : CountedSteps). u.state) rest);
      changes = sym (ap (λ (u : CountedSteps). u.changes) rest);
    }
exchange-counted x n (c ∷ cs) ds r r' apart spare =
    let o : Counted = counted_step x n c in
    let rest = exchange-counted o.state o.changes cs ds r r'
    (subst (λ (S : Settings). Apart S r r') (sym (counted-settings x n c)) apart) spare in
    record {
      answers =
          record {
            later = rest.answers.later;
            first = ap (λ (l : List Answer). o.answer ∷ l) rest.answers.first;
            second = ap (λ (l : List Answer). o.answer ∷ l) rest.answers.second;
          };
      state = rest.state;
      changes = rest.changes;
    }

-- changes that are all done with 0 raise the count by as many as they are, where it can rise so far
pub all_done : (x : State) (n : ℕ) (rs : List Request) → every is_change rs ≡ true → (steps x rs).answers ≡ replicate (length rs) (done_with 0)
    → n + length rs ≤ most_changes
    → counted_steps x n rs ≡ record { answers = replicate (length rs) (done_with 0); state = (steps x rs).state; changes = n + length rs }
unfolding steps counted_steps
all_done x n [] c e h =
    let q : n ≡ n + 0 = omega arith in
    ap (λ (m : ℕ). record { answers = []; state = x; changes = m }) q
all_done x n (r ∷ rs) c e h =
    let d : (step x r).answer ≡ done_with 0 = ap (λ (l : List Answer). get_or l 0 (done_with 1)) e in
    let later : (steps (step x r).state rs).answers ≡ replicate (length rs) (done_with 0) = ap (λ (l : List Answer). drop 1 l) e in
    let now : counted_step x n r ≡ answered (step x r).state (suc n) (done_with 0)
    = raised_by x n r 0 (and_left (is_change r) _ c) d (λ z. omega (arith, z, h)) in
    let rest = all_done (step x r).state (suc n) rs (and_right (is_change r) _ c) later (omega (arith, h)) in
    let q : suc n + length rs ≡ n + suc (length rs) = omega arith in
    ap (λ (o : Counted). record {
      answers = o.answer ∷ (counted_steps o.state o.changes rs).answers;
      state = (counted_steps o.state o.changes rs).state;
      changes = (counted_steps o.state o.changes rs).changes;
    }) now
    ∙ ap (λ (u : CountedSteps). record { answers = done_with 0 ∷ u.answers; state = u.state; changes = u.changes }) rest
    ∙ ap (λ (m : ℕ). record { answers = done_with 0 ∷ replicate (length rs) (done_with 0); state = (steps (step x r).state rs).state; changes = m }) q

-- ---- sending again

module _ (x : State) (n : ℕ) (r : Request) where
  -- the count rises by one exactly for a change that is done
  pub counted-by-one : (counted_step x n r).changes ≡ n + one (is_change r && is_done (counted_step x n r).answer)
  counted-by-one = go (effect x n r)
    where
      same : (a : Answer) (m : ℕ) (y : State) → counted_step x n r ≡ answered y m a → m ≡ n + one (is_change r && is_done a)
          → (counted_step x n r).changes ≡ n + one (is_change r && is_done (counted_step x n r).answer)
      same a m y e h =
          ap (λ (o : Counted). o.changes) e ∙ h
          ∙ sym (ap (λ (o : Counted). n + one (is_change r && is_done o.answer)) e)

      none_more : (t : Bool) → t ≡ false → n ≡ n + one t
      none_more t q = rw q (omega arith)

      off : (c : Bool) → c && false ≡ false
      off true = refl
      off false = refl

      go : Effect x n r → (counted_step x n r).changes ≡ n + one (is_change r && is_done (counted_step x n r).answer)
      go (only_asks c) = same _ n x (only-asked x n r c) (none_more _ (ap (λ (t : Bool). t && is_done (step x r).answer) c))
      go (is_refused k p c e) = same _ n x (counted-refused x n r k p c e) (none_more _ (off (is_change r)))
      go (is_full v c e q) = same _ n x (full x n r v c e q) (none_more _ (off (is_change r)))
      go (raises v c e h) = same (done_with v) (suc n) _ (raised_by x n r v c e h) (rw c (omega arith))

  -- "Sending a request twice leaves the sets that sending it once leaves."
  pub repeat-counted : (counted_step (counted_step x n r).state (counted_step x n r).changes r).state ≡ (counted_step x n r).state
  repeat-counted = go (effect x n r)
    where
      quiet : Quiet x n r → (after x n r r).state ≡ (counted_step x n r).state
      quiet q = ap (λ (o : Counted). o.state) (quiet-first x n r r q)

      go : Effect x n r → (after x n r r).state ≡ (counted_step x n r).state
      go (only_asks c) = quiet (quiet-asks x n r c)
      go (is_refused k p c e) = quiet (quiet-refused x n r k p c e)
      go (is_full v c e q) = quiet (quiet-full x n r v c e q)
      go (raises v c e h) =
          let y : State = (step x r).state in
          ap (λ (o : Counted). o.state) (after-raise x n r r v c e h)
          ∙ counted-state (λ (z : State). z ≡ y) y (suc n) r refl (repeat-state x r)
          ∙ sym (ap (λ (o : Counted). o.state) (raised_by x n r v c e h))

  -- while the count can rise, the answer is that of the step
  pub below-most : (n ≡ most_changes → ⊥) → (counted_step x n r).answer ≡ (step x r).answer
  below-most h = go (effect x n r)
    where
      go : Effect x n r → (counted_step x n r).answer ≡ (step x r).answer
      go (only_asks c) = ap (λ (o : Counted). o.answer) (only-asked x n r c)
      go (is_refused k p c e) = ap (λ (o : Counted). o.answer) (counted-refused x n r k p c e) ∙ sym e
      go (is_full v c e q) = absurd (h q)
      go (raises v c e h) = ap (λ (o : Counted). o.answer) (raised_by x n r v c e h) ∙ sym e

  -- and so is the diary
  pub below-state : (n ≡ most_changes → ⊥) → (counted_step x n r).state ≡ (step x r).state
  below-state h = go (effect x n r)
    where
      go : Effect x n r → (counted_step x n r).state ≡ (step x r).state
      go (only_asks c) = ap (λ (o : Counted). o.state) (uncounted x n r c)
      go (is_refused k p c e) = ap (λ (o : Counted). o.state) (counted-refused x n r k p c e) ∙ sym (refused-keeps x r k p e)
      go (is_full v c e q) = absurd (h q)
      go (raises v c e h) = ap (λ (o : Counted). o.state) (raised_by x n r v c e h)

-- ---- the kinds that count as changes

abbrev changing : Group → Bool
changing stays = true
changing removal = true
changing meetings = true
changing queries = false

asked-kind : (i : ℕ) (k : Kind) → get_or (drop 17 kinds) i None ≡ Some k → changing (group k) ≡ false
asked-kind zero k e = let z : which_meeting ≡ k = cc in ap (λ (j : Kind). changing (group j)) (sym z)
asked-kind (suc zero) k e = let z : count_leave ≡ k = cc in ap (λ (j : Kind). changing (group j)) (sym z)
asked-kind (suc (suc zero)) k e = let z : seats_left ≡ k = cc in ap (λ (j : Kind). changing (group j)) (sym z)
asked-kind (suc (suc (suc zero))) k e = let z : free_room ≡ k = cc in ap (λ (j : Kind). changing (group j)) (sym z)
asked-kind (suc (suc (suc (suc i)))) k e = absurd (let z : ◌≡◌ {A = ℕ} 0 1 = cc in omega arith)

-- a request of a kind that is no query is a change
pub is-change : (r : Request) (k : Kind) → kind_of r.kind ≡ Some k → changing (group k) ≡ true → is_change r ≡ true
unfolding kind_of
is-change r k q g = go r.kind q (is_change r) refl
  where
    go : (n : ℕ) → kind_of n ≡ Some k → (t : Bool) → within 1 16 n ≡ t → t ≡ true
    go n q true e = refl
    go zero q false e = absurd (let z : ◌≡◌ {A = ℕ} 0 1 = cc in omega arith)
    go (suc n) q false e =
        both g
        (asked-kind (suc n - 17) k
        (get_or-drop 17 kinds (suc n - 17) None ∙ ap (λ (m : ℕ). get_or kinds m None) (past-changes n e) ∙ q))

-- A date by its tables, and by its words.
-- Assumes nothing.
use Prim.Native.Nat.{ℕ, ◌+◌, ◌*◌, ◌≤◌, ◌<◌}
use mathlib.Core.Path.{◌≡◌, refl, sym, ◌∙◌, ap}
use mathlib.Core.Bool.{Bool, true, false, not, cond}
use mathlib.Core.List.{List}
use native.Mathlib.Decide.{ℕ_discrete}
use native.Mathlib.Numerals.{add-one}
use native.Mathlib.Omega.{arith}
use lib.ListN.{length, get_or}
use borrow.Author.Tests.{not-false}
use Rattle.rules.specs.Rows.{Barred, BarredDate, Most, Guests, Triple, Lunches}
use Rattle.pool.specs.Pool.{member}
use Rattle.checking.specs.Days.{Session, Guested, Met, Eaten, stands_in}
use Rattle.rules.proofs.Barring.{cell-member, member-cell, most-low}

module _ (leave : List ℕ) (limit : ℕ) (t : List Bool) (b : Barred leave limit t) where
  pub guested : (row : List ℕ) → Guests row limit t → Guested row leave limit
  guested row g =
      record { range = g.range; on_leave = λ i v h e. cell-member leave limit t b (get_or row i 0) (g.range i h) (g.free i h) v e; once = g.once }

  pub guests : (row : List ℕ) → Guested row leave limit → Guests row limit t
  guests row g =
      record { range = g.range; free = λ i h. member-cell leave limit t b (get_or row i 0) (g.range i h) (λ v e. g.on_leave i v h e); once = g.once }

  -- a column's bound, and leave
  module _ (meetings : ℕ) (bounds : List ℕ) (m : Most t limit meetings bounds) where
    bound : (i : ℕ) → i < limit → get_or bounds i 0 ≡ cond (not (member leave i)) 0 meetings
    bound i h = m i h ∙ ap (λ (x : Bool). cond {A = ℕ} x 0 meetings) (b.each i h)

    bound-leave : (i w : ℕ) → i < limit → w ≤ get_or bounds i 0 → (w ≡ 0 → ⊥) → member leave i ≡ true
    bound-leave i w h l n = go (member leave i) refl
      where
        go : (x : Bool) → member leave i ≡ x → member leave i ≡ true
        go true e = e
        go false e = absurd (n (omega (arith, bound i h ∙ ap (λ (x : Bool). cond {A = ℕ} (not x) 0 meetings) e)))

    leave-bound : (i w : ℕ) → i < limit → w ≤ meetings → ((w ≡ 0 → ⊥) → member leave i ≡ true) → w ≤ get_or bounds i 0
    leave-bound i w h l f = go (ℕ_discrete w 0)
      where
        go : Dec (w ≡ 0) → w ≤ get_or bounds i 0
        go (yes e) = omega arith
        go (no n) = omega (arith, bound i h ∙ ap (λ (x : Bool). cond {A = ℕ} (not x) 0 meetings) (f n))

    module _ (stand attend conf : List ℕ) (rooms : ℕ) (long : length attend ≤ limit) where
      pub met : Session stand attend conf bounds rooms meetings → Met stand attend conf leave rooms meetings
      met s = record {
        pad = s.pad;
        range = λ i h. omega (arith, s.attends i h, most-low t limit meetings bounds m i (omega arith));
        on_leave = λ i h n. bound-leave i (get_or attend i 0) (omega arith) (s.attends i h) n;
        attended = s.attended;
        within = s.within;
        stands = s.stands;
        beside = s.beside;
      }

      pub session : Met stand attend conf leave rooms meetings → Session stand attend conf bounds rooms meetings
      session s = record {
        pad = s.pad;
        attends = λ i h. leave-bound i (get_or attend i 0) (omega arith) (s.range i h) (s.on_leave i h);
        attended = s.attended;
        within = s.within;
        stands = s.stands;
        beside = s.beside;
      }

-- lunches
module _ (stand : List ℕ) (n width meetings : ℕ) (t : List Bool) (b : BarredDate stand n width t) (all : meetings ≤ width * 32) (lunch : List ℕ)
    (dining : ℕ) (caps : List ℕ) where
  absent : (j : ℕ) → j < meetings → get_or t (j + 1) false ≡ not (stands_in stand n width j)
  absent j h = ap (λ (k : ℕ). get_or t k false) (add-one j) ∙ b j (omega arith)

  pub eaten : Lunches lunch meetings dining caps t → (j : ℕ) → j < meetings
      → Eaten dining caps (stands_in stand n width j) (get_or lunch (j * 3) 0) (get_or lunch (j * 3 + 1) 0) (get_or lunch (j * 3 + 2) 0)
  eaten l j h =
      let r = l.each j h in
      record {
        range =
            r.range;
        fit =
            r.fit;
        some = r.some;
        stood = λ k. not-false (stands_in stand n width j) (sym (absent j h) ∙ r.stands k);
        beside = r.beside;
      }

  pub triple : (j : ℕ) → j < meetings
      → Eaten dining caps (stands_in stand n width j) (get_or lunch (j * 3) 0) (get_or lunch (j * 3 + 1) 0) (get_or lunch (j * 3 + 2) 0)
      → Triple dining caps (get_or t (j + 1) false) (get_or lunch (j * 3) 0) (get_or lunch (j * 3 + 1) 0) (get_or lunch (j * 3 + 2) 0)
  triple j h r = record { range = r.range; fit = r.fit; some = r.some; stands = λ k. absent j h ∙ ap not (r.stood k); beside = r.beside }

-- The dates of slots in order, and the slots of a run of dates as those between two cuts.
-- Assumes nothing.
use Prim.Native.Nat.{ℕ, ◌+◌, ◌*◌, ◌-◌, ◌/◌, ◌≤◌, ◌<◌}
use mathlib.Core.Path.{◌≡◌, refl, ap}
use mathlib.Core.Bool.{Bool, true, false, ◌&&◌}
use native.Mathlib.Omega.{arith}
use native.Mathlib.Nat.{le-div_iff_mul-le, sub-zero}
use lib.Dec.{leb, ltb}
use borrow.Author.Tests.{leb-true, ltb-true, leb-false, ltb-false, le-leb}
use Rattle.units.specs.Units.{each_of, late_of, day_of, CutOf, Cut}
use Rattle.model.specs.declared.Settings.{Settings}
use Rattle.model.specs.Bounded.{within}
use Rattle.model.specs.Kinds.{Unit, dates, sessions, times, slots_of, date_of}
use Rattle.model.proofs.Local.{div_mono}
use Rattle.model.proofs.Search.{bool_eq, and-true, and_left, and_right, within-true, true-within}

-- that a slot is on date d or later is asked by a product
pub asked-by-product : (each late i d : ℕ) → 1 ≤ each → leb d (day_of each late i) ≡ leb (d * each) (i - late)
unfolding day_of
asked-by-product each late i d h =
    bool_eq _ _
    (λ e. le-leb _ _ ((le-div_iff_mul-le {k = each} h).0 (leb-true _ _ e)))
    (λ e. le-leb _ _ ((le-div_iff_mul-le {k = each} h).1 (leb-true _ _ e)))

-- a later slot is on no earlier date
day-mono : (each late i j : ℕ) → i ≤ j → day_of each late i ≤ day_of each late j
unfolding day_of
day-mono each late i j h = div_mono (i - late) (j - late) each (omega arith)

-- what one slot says of those before it, and of those from it on
pub turn_low : (each late d m : ℕ) → leb d (day_of each late m) ≡ false → (i : ℕ) → i < m + 1 → day_of each late i < d
turn_low each late d m e i h = omega (arith, leb-false d (day_of each late m) e, day-mono each late i m (omega arith))

pub turn-high : (each late d m : ℕ) → leb d (day_of each late m) ≡ true → (i : ℕ) → m ≤ i → d ≤ day_of each late i
turn-high each late d m e i h = omega (arith, leb-true d (day_of each late m) e, day-mono each late m i h)

-- date d begins at a slot if the slot before it, where there is one, is before d, and the slot itself, where it is one, is not
pub begins-at : (each late n d at : ℕ) → at ≤ n → (0 < at → leb d (day_of each late (at - 1)) ≡ false)
    → (at < n → leb d (day_of each late at) ≡ true) → CutOf (day_of each late) n d at
begins-at each late n d at h low high =
    record {
      most = h;
      before = λ i l. turn_low each late d (at - 1) (low (omega arith)) i (omega arith);
      after = λ i l k. turn-high each late d at (high (omega arith)) i l;
    }

-- the cut of a unit
pub unit-cut : (S : Settings) (u : Unit) {d r : ℕ}
    → CutOf (day_of (each_of S u) (late_of S u)) (S.dates * each_of S u) d r → Cut S u d r
unfolding day_of
unit-cut S dates h =
    record {
      most = omega (arith, h.most);
      before = λ i l. omega (arith, h.before i l);
      after = λ i l k. omega (arith, h.after i l (omega (arith, k)));
    }
unit-cut S sessions h =
    record {
      most = h.most;
      before = λ i l. omega (arith, h.before i l, same i);
      after = λ i l k. omega (arith, h.after i l k, same i);
    }
  where
    same : (i : ℕ) → (i - 0) / S.sessions ≡ i / S.sessions
    same i = ap (λ (n : ℕ). n / S.sessions) (sub-zero i)
unit-cut S times h = h

-- a slot is on a date of from..to exactly if it lies between the cuts
pub between-cuts : (S : Settings) (u : Unit) (from to lo hi : ℕ) → Cut S u from lo → Cut S u (to + 1) hi
    → (i : ℕ) → i < slots_of S u → within from to (date_of S u i) ≡ leb lo i && ltb i hi
between-cuts S u from to lo hi a b i h =
    bool_eq _ _
    (λ e. let w : (from ≤ date_of S u i) × (date_of S u i ≤ to) = within-true from to (date_of S u i) e in
    and-true (low (leb lo i) refl w.0) (high (ltb i hi) refl w.1))
    (λ e. let l : lo ≤ i = leb-true lo i (and_left (leb lo i) (ltb i hi) e) in
    let k : i < hi = ltb-true i hi (and_right (leb lo i) (ltb i hi) e) in
    true-within from to (date_of S u i) (a.after i l h) (omega (arith, b.before i k)))
  where
    low : (t : Bool) → leb lo i ≡ t → from ≤ date_of S u i → leb lo i ≡ true
    low true q w = q
    low false q w = absurd (omega (arith, a.before i (leb-false lo i q), w))

    high : (t : Bool) → ltb i hi ≡ t → date_of S u i ≤ to → ltb i hi ≡ true
    high true q w = q
    high false q w = absurd (omega (arith, b.after i (ltb-false i hi q) h, w))

-- The slots of one date: exactly those from its cut to the next date's.
-- Assumes nothing.
use Prim.Native.Nat.{ℕ, ◌+◌, ◌-◌, ◌≤◌, ◌<◌}
use mathlib.Core.Path.{◌≡◌, refl, sym, ◌∙◌}
use mathlib.Core.Bool.{Bool, true, false, ◌&&◌}
use native.Mathlib.Omega.{arith}
use lib.Dec.{leb, ltb}
use borrow.Author.Tests.{leb-true, leb-false, ltb-true}
use Rattle.model.specs.declared.Settings.{Settings}
use Rattle.model.specs.Kinds.{Unit, slots_of, date_of}
use Rattle.model.proofs.Search.{and_left, and_right, true-within}
use Rattle.units.specs.Units.{OnDates}

module _ {S : Settings} {u : Unit} {d from to : ℕ} (o : OnDates S u d d from to) where
  pub run-order : from ≤ to
  run-order = go (leb from to) refl
    where
      go : (b : Bool) → leb from to ≡ b → from ≤ to
      go true e = leb-true from to e
      go false e =
          let l : to < from = leb-false from to e in
          absurd (omega (arith, o.begins.before to l, o.ends.after to (omega arith) (omega (arith, l, o.begins.most))))

  -- a slot of the run is on the date
  pub run-slot : (p : ℕ) → p < to - from → from + p < slots_of S u
  run-slot p h = omega (arith, o.ends.most)

  pub run-date : (p : ℕ) → p < to - from → date_of S u (from + p) ≡ d
  run-date p h = omega (arith, o.begins.after (from + p) (omega arith) (run-slot p h), o.ends.before (from + p) (omega arith))

  -- a slot of the date is in the run
  module _ (i : ℕ) (h : i < slots_of S u) (e : date_of S u i ≡ d) where
    inside : leb from i && ltb i to ≡ true
    inside = sym (o.exactly i h) ∙ true-within d d (date_of S u i) (omega (arith, e)) (omega (arith, e))

    pub run-from : from + (i - from) ≡ i
    run-from = let l = leb-true from i (and_left (leb from i) (ltb i to) inside) in omega arith

    pub run_inside : i - from < to - from
    run_inside =
        let l = leb-true from i (and_left (leb from i) (ltb i to) inside) in
        let k = ltb-true i to (and_right (leb from i) (ltb i to) inside) in
        omega arith

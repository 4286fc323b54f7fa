-- A date without entries keeps the laws.
-- Assumes nothing.
use Prim.Native.Nat.{ℕ, ◌+◌, ◌*◌, ◌<◌}
use mathlib.Core.Path.{◌≡◌, refl, ◌∙◌}
use mathlib.Core.Bool.{Bool, true, false, cond}
use mathlib.Core.List.{List}
use native.Mathlib.Omega.{arith}
use lib.Dec.{ltb, eqb}
use lib.ListN.{get_or, get_or-eq_default}
use borrow.Author.Tests.{ltb-true, ltb-false}
use Rattle.model.specs.declared.Settings.{Settings}
use Rattle.model.specs.Bounded.{sum}
use Rattle.model.specs.Words.{groups}
use Rattle.rules.specs.Rows.{Blank, Padded, row_at, seats_in}
use Rattle.checking.specs.Days.{Guested, Met, Day, Empty}
use Rattle.checking.proofs.Addresses.{row-at}
use Rattle.rules.proofs.Parts.{row-long}
use Rattle.model.proofs.Sums.{sum-empty}

row-blank : (cells : List ℕ) → Blank cells → (width i : ℕ) → Blank (row_at width i cells)
row-blank cells z width i j = go (ltb j width) refl
  where
    go : (b : Bool) → ltb j width ≡ b → get_or (row_at width i cells) j 0 ≡ 0
    go true e = row-at width i cells j (ltb-true j width e) ∙ z (i * width + j)
    go false e = get_or-eq_default (row_at width i cells) 0 {n = j} (omega (arith, row-long width i cells, ltb-false j width e))

nobody : (row leave : List ℕ) (limit : ℕ) → Blank row → Guested row leave limit
nobody row leave limit z =
    record {
      range = λ i h. omega (arith, z i);
      on_leave = λ i v h e. absurd (omega (arith, e, z i));
      once = λ i j l h e. z i;
    }

module _ (S : Settings) (n q : ℕ) (caps leave hotel stand attend conf lunch ride : List ℕ) (z : Empty hotel attend conf lunch ride) where
  no-meeting : (p : ℕ) → Padded (row_at (groups S.meetings) p stand) S.meetings
      → Met (row_at (groups S.meetings) p stand) (row_at S.visitors p attend) (row_at (S.rooms * 2) p conf) leave S.rooms S.meetings
  no-meeting p pad =
      let a : Blank (row_at S.visitors p attend) = row-blank attend z.attends S.visitors p in
      let c : Blank (row_at (S.rooms * 2) p conf) = row-blank conf z.confs (S.rooms * 2) p in
      record {
        pad = pad;
        range = λ i h. omega (arith, a i);
        on_leave = λ i h w. absurd (w (a i));
        attended = λ i m h e. absurd (omega (arith, e, a i));
        within = λ j h. omega (arith, c (j * 2));
        stands = λ j m h e. absurd (omega (arith, e, c (j * 2)));
        beside = λ j h e. c (j * 2 + 1);
      }

  no-seats : (g : ℕ) → sum (seats_in lunch g) S.meetings ≡ 0
  no-seats g = sum-empty (seats_in lunch g) 0 S.meetings (λ j _ _. go (eqb (get_or lunch (j * 3) 0) g) (z.lunches (j * 3 + 1)))
    where
      go : (b : Bool) {w : ℕ} → w ≡ 0 → cond b w 0 ≡ 0
      go true e = e
      go false e = refl

  pub day-empty : Padded leave S.visitors → ((p : ℕ) → p < n → Padded (row_at (groups S.meetings) p stand) S.meetings)
      → Day S n q caps leave hotel stand attend conf lunch ride
  day-empty pad pads =
      record {
        pad = pad;
        slept = nobody hotel leave S.visitors z.hotels;
        met = λ p h. no-meeting p (pads p h);
        eaten = λ j h.
            record {
              range = omega (arith, z.lunches (j * 3));
              fit = omega (arith, z.lunches (j * 3 + 1));
              some = λ w. absurd (w (z.lunches (j * 3)));
              stood = λ w. absurd (w (z.lunches (j * 3)));
              beside = λ _. z.lunches (j * 3 + 2);
            };
        sums = λ g h. omega (arith, no-seats g);
        ridden = λ i h. nobody (row_at S.transports i ride) leave S.visitors (row-blank ride z.rides S.transports i);
      }

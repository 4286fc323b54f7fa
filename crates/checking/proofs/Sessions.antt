-- A session by its cells.
-- Assumes nothing.
use Prim.Native.Nat.{ℕ, ◌+◌, ◌*◌, ◌≤◌, ◌<◌}
use mathlib.Core.Bool.{Bool}
use mathlib.Core.List.{List}
use native.Mathlib.Omega.{arith}
use lib.ListN.{length, get_or}
use Rattle.rules.specs.Rows.{Barred, Attended, Blank, Paired, Padded}
use Rattle.checking.specs.Days.{Session}
use Rattle.rules.proofs.Barring.{cell-member, member-cell}

-- a session
module _ (stand attend conf bounds : List ℕ) (rooms meetings : ℕ) (t : List Bool) (b : Barred stand meetings t)
    (low : (j : ℕ) → j < length attend → get_or bounds j 0 ≤ meetings) where
  pub session-by : Padded stand meetings → Attended attend bounds t → Paired conf rooms meetings t → Session stand attend conf bounds rooms meetings
  session-by p a c = record {
    pad = p;
    attends = λ i h. (a i h).0;
    attended = λ i m h e. cell-member stand meetings t b (get_or attend i 0) (omega (arith, (a i h).0, low i h)) (a i h).1 m e;
    within = λ j h. (c j h).range;
    stands = λ j m h e. cell-member stand meetings t b (get_or conf (j * 2) 0) (c j h).range (c j h).stands m e;
    beside = λ j h. (c j h).beside;
  }

  pub session-attended : Session stand attend conf bounds rooms meetings → Attended attend bounds t
  session-attended s i h =
      (s.attends i h, member-cell stand meetings t b (get_or attend i 0) (omega (arith, s.attends i h, low i h)) (λ m e. s.attended i m h e))

  pub session-paired : Session stand attend conf bounds rooms meetings → Paired conf rooms meetings t
  session-paired s j h = record {
    range = s.within j h;
    stands = member-cell stand meetings t b (get_or conf (j * 2) 0) (s.within j h) (λ m e. s.stands j m h e);
    beside = s.beside j h;
  }

pub session-blank : (stand attend conf bounds : List ℕ) (rooms meetings : ℕ) → Padded stand meetings → Blank attend → Blank conf
    → Session stand attend conf bounds rooms meetings
session-blank stand attend conf bounds rooms meetings p a c = record {
  pad = p;
  attends = λ i h. omega (arith, a i);
  attended = λ i m h e. absurd (omega (arith, e, a i));
  within = λ j h. omega (arith, c (j * 2));
  stands = λ j m h e. absurd (omega (arith, e, c (j * 2)));
  beside = λ j h e. c (j * 2 + 1);
}

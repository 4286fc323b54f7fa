-- Rides under early times, computed: the site and the requests of rule 13.5, three dates of four times, the first of which belongs to the
-- date before (rules 1.7, 2.2).
-- Assumes nothing.
use Prim.Native.Nat.{ℕ}
use mathlib.Core.Path.{◌≡◌, refl}
use mathlib.Core.Bool.{true, false, ◌&&◌}
use mathlib.Core.List.{List, [], ◌∷◌, map}
use lib.Dec.{eqb}
use Rattle.model.specs.declared.Settings.{Settings}
use Rattle.model.specs.Answers.{Answer}
use Rattle.model.specs.Answers.{done_with, refused_with}
use Rattle.model.specs.Bounded.{list}
use Rattle.model.specs.Site.{date_of_time}
use Rattle.model.specs.State.{State, empty_state, reserved}
use Rattle.model.specs.Kinds.{kind_of}
use Rattle.model.specs.Questions.{bookings, stands_on, ask, test}
use Rattle.model.specs.Machine.{with_leave, with_ride, change, value, step, raise, counted_step, Call, told, run}
use Rattle.model.specs.Ledger.{empty_ledger}
use Rattle.model.specs.Laws.{laws}
use Rattle.model.proofs.Rehearsal.{send}

abbrev pub site : Settings
site =
    record {
      dates = 3;
      sessions = 1;
      times = 4;
      visitors = 2;
      meetings = 1;
      rooms = 1;
      dining = 1;
      hotels = 1;
      transports = 2;
      early = 1;
      capacities = 4 ∷ 0 ∷ 0 ∷ 0 ∷ 0 ∷ 0 ∷ 0 ∷ 0 ∷ 0 ∷ 0 ∷ 0 ∷ 0 ∷ 0 ∷ 0 ∷ 0 ∷ 0 ∷ [];
    }

pub dates-of-times : list (date_of_time site) 12 ≡ 0 ∷ 0 ∷ 0 ∷ 0 ∷ 0 ∷ 1 ∷ 1 ∷ 1 ∷ 1 ∷ 2 ∷ 2 ∷ 2 ∷ []
dates-of-times = refl

abbrev pub requests : List Call
requests =
    send 1 0 0 0 0 0 0
    ∷ send 6 0 0 3 5 0 0
    ∷ send 6 0 0 4 4 0 0
    ∷ send 1 0 1 1 2 0 0
    ∷ send 6 1 1 4 5 0 0
    ∷ send 6 1 1 8 11 0 0
    ∷ send 2 0 0 0 0 0 0
    ∷ send 2 0 0 1 1 0 0
    ∷ send 3 0 1 2 2 0 0
    ∷ []

abbrev pub answers : List Answer
answers =
    done_with 0
    ∷ refused_with 9 5
    ∷ done_with 0
    ∷ done_with 0
    ∷ refused_with 9 4
    ∷ done_with 0
    ∷ refused_with 18 0
    ∷ done_with 0
    ∷ done_with 3
    ∷ []

pub early-rides : (run (empty_ledger site) requests).replies ≡ map told answers
unfolding run counted_step raise step change value kind_of ask test empty_ledger empty_state reserved bookings stands_on
early-rides = refl

-- the law of rides: a ride at 4 is kept by leave on date 0 and broken by leave on date 1 alone
abbrev riding : ℕ → State
riding d = with_ride (with_leave (empty_state site) (λ c v. eqb c d && eqb v 0)) (λ t k v. eqb t 4 && eqb k 0 && eqb v 0)

pub early-law : (laws (riding 0) ≡ true) × (laws (riding 1) ≡ false)
unfolding laws empty_state reserved stands_on
early-law = (refl, refl)

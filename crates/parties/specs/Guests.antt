-- The guests of a party, and parts of the contracts by name.
-- Assumes nothing.
use Rattle.std.specs.Prelude.{ℕ, ◌≡◌, List, Result, Ok, Err}
use Rattle.model.specs.declared.Settings.{Settings}
use Rattle.model.specs.declared.Request.{Request}
use Rattle.model.specs.declared.Guest.{Guest}
use Rattle.model.specs.declared.Refusal.{Refusal}
use Rattle.model.specs.Answers.{done_with}
use Rattle.model.specs.State.{State}
use Rattle.model.specs.Machine.{Outcome, joined, all_or_none, raise, stepped}
use Rattle.model.specs.Reading.{state_of}
use Rattle.model.specs.Ledger.{ledger_of}
use Rattle.model.specs.Calls.{Called, called}
use Rattle.book.specs.Good.{Good}

-- the request of a kind for a guest: of kind 10 it is the model's
abbrev pub guest_request : ℕ → ℕ → Guest → Request
guest_request k m g = record { kind = k; a = m; b = g.visitor; first = g.first; last = g.last; n = 0; info = 0 }

-- the guests are all added, and lead to the state y
abbrev pub all_added : State → Outcome
all_added y = record { answer = done_with 0; state = y }

-- the diary b is the diary a with the guests added, each as kind 10 adds them
pub record Within (S : Settings) (a : List ℕ) (m : ℕ) (gs : List Guest) (b : List ℕ) : Type 0 where
  pub good : Good S b
  pub outcome : joined (state_of a) m gs ≡ all_added (state_of b)

-- the diary a becomes b by an adding of guests: all are added, or one is refused and a is as it was
abbrev pub Adds : Settings → List ℕ → ℕ → List Guest → Result (Unit {0}) Refusal → List ℕ → Type 0
Adds S a m gs (Ok done) b = Within S a m gs b
Adds S a m gs (Err e) b = ((joined (state_of a) m gs).answer ≡ Err e) × (b ≡ a)

-- a diary b with the guests added becomes b': the diary that it was before them
abbrev pub TakenBack : Settings → ℕ → List Guest → List ℕ → List ℕ → Type 0
TakenBack S m gs b b' = (a : List ℕ) → Good S a → Within S a m gs b → b' ≡ a

-- all the guests on a diary, or none
abbrev pub all_in : State → ℕ → List Guest → Outcome
all_in x m gs = all_or_none x (joined x m gs)

-- what they make of the book a, with question 30 behind them and the change count
abbrev pub of_party : List ℕ → ℕ → List Guest → Called
of_party a m gs =
    let o = all_in (ledger_of a).diary m gs in
    called (stepped (ledger_of a).tail (raise (ledger_of a).diary (ledger_of a).changes o o.answer))

-- A state with one set replaced has the same words in every other region.
-- Assumes nothing.
use Prim.Native.Nat.{ℕ}
use mathlib.Core.Path.{refl}
use mathlib.Core.Bool.{Bool, true≢false}
use Rattle.std.specs.Prelude.{Option}
use Rattle.model.specs.State.{State, Lunch}
use Rattle.model.specs.Machine.{with_leave, with_standing, with_hotel, with_ride, with_attend, with_conf, with_lunch}
use Rattle.model.specs.Words.{leaves, hotel_cells, standings, attend_cells, conf_pairs, lunch_triples, ride_cells, word}
use Rattle.apply.proofs.Stages.{Frame}

module _ (x : State) where
  pub leave-frame : (F : ℕ → ℕ → Bool) → Frame leaves x (with_leave x F)
  unfolding word
  leave-frame F leaves e i j k = absurd (true≢false e)
  leave-frame F hotel_cells e i j k = refl
  leave-frame F standings e i j k = refl
  leave-frame F attend_cells e i j k = refl
  leave-frame F conf_pairs e i j k = refl
  leave-frame F lunch_triples e i j k = refl
  leave-frame F ride_cells e i j k = refl

  pub standing-frame : (F : ℕ → ℕ → Bool) → Frame standings x (with_standing x F)
  unfolding word
  standing-frame F leaves e i j k = refl
  standing-frame F hotel_cells e i j k = refl
  standing-frame F standings e i j k = absurd (true≢false e)
  standing-frame F attend_cells e i j k = refl
  standing-frame F conf_pairs e i j k = refl
  standing-frame F lunch_triples e i j k = refl
  standing-frame F ride_cells e i j k = refl

  pub hotel-frame : (F : ℕ → ℕ → ℕ → Bool) → Frame hotel_cells x (with_hotel x F)
  unfolding word
  hotel-frame F leaves e i j k = refl
  hotel-frame F hotel_cells e i j k = absurd (true≢false e)
  hotel-frame F standings e i j k = refl
  hotel-frame F attend_cells e i j k = refl
  hotel-frame F conf_pairs e i j k = refl
  hotel-frame F lunch_triples e i j k = refl
  hotel-frame F ride_cells e i j k = refl

  pub ride-frame : (F : ℕ → ℕ → ℕ → Bool) → Frame ride_cells x (with_ride x F)
  unfolding word
  ride-frame F leaves e i j k = refl
  ride-frame F hotel_cells e i j k = refl
  ride-frame F standings e i j k = refl
  ride-frame F attend_cells e i j k = refl
  ride-frame F conf_pairs e i j k = refl
  ride-frame F lunch_triples e i j k = refl
  ride-frame F ride_cells e i j k = absurd (true≢false e)

  pub attend-frame : (F : ℕ → ℕ → ℕ → Bool) → Frame attend_cells x (with_attend x F)
  unfolding word
  attend-frame F leaves e i j k = refl
  attend-frame F hotel_cells e i j k = refl
  attend-frame F standings e i j k = refl
  attend-frame F attend_cells e i j k = absurd (true≢false e)
  attend-frame F conf_pairs e i j k = refl
  attend-frame F lunch_triples e i j k = refl
  attend-frame F ride_cells e i j k = refl

  pub conf-frame : (F : ℕ → ℕ → ℕ → Option ℕ) → Frame conf_pairs x (with_conf x F)
  unfolding word
  conf-frame F leaves e i j k = refl
  conf-frame F hotel_cells e i j k = refl
  conf-frame F standings e i j k = refl
  conf-frame F attend_cells e i j k = refl
  conf-frame F conf_pairs e i j k = absurd (true≢false e)
  conf-frame F lunch_triples e i j k = refl
  conf-frame F ride_cells e i j k = refl

  pub lunch-frame : (F : ℕ → ℕ → ℕ → Option Lunch) → Frame lunch_triples x (with_lunch x F)
  unfolding word
  lunch-frame F leaves e i j k = refl
  lunch-frame F hotel_cells e i j k = refl
  lunch-frame F standings e i j k = refl
  lunch-frame F attend_cells e i j k = refl
  lunch-frame F conf_pairs e i j k = refl
  lunch-frame F lunch_triples e i j k = absurd (true≢false e)
  lunch-frame F ride_cells e i j k = refl

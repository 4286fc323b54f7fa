-- The answer of each kind as the code finds it is the answer of the model's questions, asked one after the other.
-- Assumes nothing.
use Prim.Native.Nat.{ℕ}
use mathlib.Core.Path.{◌≡◌, refl, sym, ◌∙◌, ap, ap₂, subst}
use mathlib.Core.Bool.{Bool, true, false, cond}
use Rattle.std.specs.Prelude.{Option, None, Some}
use mathlib.Core.List.{List}
use native.Mathlib.Omega.{arith}
use Rattle.book.specs.declared.grid.Grids.{Grids}
use Rattle.book.specs.Grids.{grids_of}
use Rattle.book.specs.Good.{Good}
use Rattle.kinds.specs.declared.table.Row.{Row}
use Rattle.kinds.specs.Rows.{Ready, row_of, fields_no}
use Rattle.questions.specs.Asked.{first_with, first_without, first_row_with, holds_in, room_left, not_held}
use Rattle.judge.specs.Chains.{asked, tested, found_or, asked_all, answer_for, in_words}
use Rattle.judge.specs.Chains.{add_stay, stay_adds, attend_adds, conf_adds, lunch_adds, lunch_fits, standing_ends, erase_all, erase_pair}
use Rattle.questions.proofs.Pairs.{present-fails, absent-fails, free-fails, elsewhere-a-fails, elsewhere-v-fails}
use Rattle.model.specs.declared.Settings.{Settings}
use Rattle.model.specs.declared.Request.{Request}
use Rattle.model.specs.Answers.{Answer}
use Rattle.model.specs.Answers.{done_with}
use Rattle.model.specs.Bounded.{failing, found, is_some, within}
use Rattle.model.specs.Site.{capacity}
use Rattle.model.specs.State.{hotels, rides, attends, confs, lunches}
use Rattle.model.specs.Kinds.{Kind, kind_of, row}
use Rattle.model.specs.Kinds.{Kind.add_leave, Kind.end_leave, Kind.remove_visitor, Kind.add_hotel, Kind.erase_hotel, Kind.add_ride, Kind.erase_ride}
use Rattle.model.specs.Kinds.{Kind.add_standing, Kind.end_standing, Kind.add_attend, Kind.erase_attend, Kind.add_conf, Kind.erase_conf}
use Rattle.model.specs.Kinds.{Kind.add_lunch, Kind.erase_lunch, Kind.erase_conf_and_lunch}
use Rattle.model.specs.Kinds.{Kind.which_meeting, Kind.count_leave, Kind.seats_left, Kind.free_room}
use Rattle.model.specs.Questions.{ask, test, further, meeting_of, lowest_free, in_a, in_b}
use Rattle.model.specs.Questions.{Question.on_leave, Question.stands, Question.seats_fit, Question.stands_that_date, Question.room_left as room_is_left}
use Rattle.model.specs.Machine.{value, step as machine}
use Rattle.model.specs.Reading.{settings_of, read_state, state_of}
use Rattle.judge.proofs.Whole.{ready, past-seven}
use Rattle.model.proofs.Search.{failing-at, none-failing}

-- a question whose search agrees, before others and as the last; a question that is the same
step : (n : ℕ) {o u : Option ℕ} {next later : Answer} → o ≡ u → next ≡ later → asked n (o) next ≡ asked n (u) later
step n e f = ap₂ (λ (o : Option ℕ) (a : Answer). asked n (o) a) e f

-- a question that finds nothing leaves what the next may use
then : (n : ℕ) {o u : Option ℕ} {next later : Answer} → o ≡ u → (u ≡ None → next ≡ later) → asked n (o) next ≡ asked n (u) later
then n {o} {u} {next} {later} e f = ap (λ (o : Option ℕ). asked n (o) next) e ∙ go u f
  where
    go : (u : Option ℕ) → (u ≡ None → next ≡ later) → asked n (u) next ≡ asked n (u) later
    go None f = f refl
    go (Some i) f = refl

last : (n : ℕ) {o u : Option ℕ} → o ≡ u → asked n (o) (done_with 0) ≡ asked n (u) (done_with 0)
last n e = ap (λ (o : Option ℕ). asked n (o) (done_with 0)) e

same : (n : ℕ) (o : Option ℕ) {next later : Answer} → next ≡ later → asked n (o) next ≡ asked n (o) later
same n o f = ap (asked n (o)) f

-- a question of the request as a whole
pub whole_is : (n : ℕ) (t : Bool) (next : Answer) → tested n t next ≡ asked n ((cond t None (Some 0))) next
whole_is n true next = refl
whole_is n false next = refl

-- a search of one slot
one-slot : (t : ℕ → Bool) (i : ℕ) → failing t i i ≡ cond (t i) None (Some i)
one-slot t i = go (t i) refl
  where
    go : (b : Bool) → t i ≡ b → failing t i i ≡ cond b None (Some i)
    go true e = none-failing t i i (λ j l h. let q : j ≡ i = omega (arith, l, h) in rw q e)
    go false e = failing-at t i i i (omega arith) (omega arith) e (λ j l h. absurd (omega (arith, l, h)))

-- what is found is the value, and where nothing is the question is answered no
found-is : (n place : ℕ) (o : Option ℕ) → found_or n place (o)
    ≡ asked n ((cond (is_some o) None (Some place))) (done_with (found o (λ k. k)))
found-is n place None = refl
found-is n place (Some k) = refl

-- kind by kind, for a book under its own settings
module _ (b : List ℕ) (good : Good (settings_of b) b) (r : Request) where
  abbrev S : Settings
  S = settings_of b

  done : ◌≡◌ {A = Answer} (done_with 0) (done_with 0)
  done = refl

  meeting-is : r.first ≡ r.last → (n : ℕ) (f : ℕ → Option ℕ)
      → found_or n r.first ((f r.first))
      ≡ asked n ((failing (λ i. is_some (f i)) r.first r.last)) (done_with (found (f r.first) (λ k. k)))
  meeting-is e n f =
      found-is n r.first (f r.first)
      ∙ ap (λ (o : Option ℕ). asked n (o) (done_with (found (f r.first) (λ k. k))))
      (sym (one-slot (λ i. is_some (f i)) r.first) ∙ ap (λ (l : ℕ). failing (λ i. is_some (f i)) r.first l) e)

  kind-is : (k : Kind) → Ready (settings_of b) (row k) r → in_words (settings_of b) (grids_of (settings_of b)) b r k
      ≡ asked_all (state_of b) r k (further k) (done_with (value (state_of b) r k))
  unfolding state_of read_state ask test value in_words holds_in room_left not_held first_with first_without first_row_with
      add_stay stay_adds attend_adds conf_adds lunch_adds lunch_fits standing_ends erase_all erase_pair
  kind-is add_leave h = refl
  kind-is end_leave h = refl
  kind-is remove_visitor h = refl
  kind-is add_hotel h =
      same 9 (ask (state_of b) r add_hotel on_leave)
      (then 11 (sym (absent-fails good hotels r.a r.b r.first r.last h.a h.b h.slot))
      (λ passed. step 12 (sym (free-fails good hotels r.a r.b r.first r.last h.a h.b h.slot refl))
      (last 13 (sym (elsewhere-a-fails good hotels r.a r.b r.first r.last h.a h.b h.slot passed refl)))))
  kind-is erase_hotel h = last 15 (sym (present-fails good hotels r.a r.b r.first r.last h.a h.b h.slot))
  kind-is add_ride h =
      same 9 (ask (state_of b) r add_ride on_leave)
      (then 11 (sym (absent-fails good rides r.a r.b r.first r.last h.a h.b h.slot))
      (λ passed. step 12 (sym (free-fails good rides r.a r.b r.first r.last h.a h.b h.slot refl))
      (last 13 (sym (elsewhere-a-fails good rides r.a r.b r.first r.last h.a h.b h.slot passed refl)))))
  kind-is erase_ride h = last 15 (sym (present-fails good rides r.a r.b r.first r.last h.a h.b h.slot))
  kind-is add_standing h = refl
  kind-is end_standing h = refl
  kind-is add_attend h =
      same 9 (ask (state_of b) r add_attend on_leave)
      (same 10 (ask (state_of b) r add_attend (stands in_a))
      (then 11 (sym (absent-fails good attends r.a r.b r.first r.last h.a h.b h.slot))
      (λ passed. last 13 (sym (elsewhere-v-fails good attends r.a r.b r.first r.last h.a h.b h.slot passed refl)))))
  kind-is erase_attend h = last 15 (sym (present-fails good attends r.a r.b r.first r.last h.a h.b h.slot))
  kind-is add_conf h =
      same 10 (ask (state_of b) r add_conf (stands in_b))
      (step 11 (sym (absent-fails good confs r.a r.b r.first r.last h.a h.b h.slot))
      (last 12 (sym (free-fails good confs r.a r.b r.first r.last h.a h.b h.slot refl))))
  kind-is erase_conf h = refl
  kind-is add_lunch h =
      whole_is 8 (within 1 (capacity (settings_of b) r.a) r.n) _
      ∙ same 8 (ask (state_of b) r add_lunch seats_fit)
      (same 10 (ask (state_of b) r add_lunch stands_that_date)
      (then 11 (sym (absent-fails good lunches r.a r.b r.first r.last h.a h.b h.slot))
      (λ passed. step 13 (sym (elsewhere-v-fails good lunches r.a r.b r.first r.last h.a h.b h.slot passed refl))
      (same 14 (ask (state_of b) r add_lunch room_is_left) done))))
  kind-is erase_lunch h = last 15 (sym (present-fails good lunches r.a r.b r.first r.last h.a h.b h.slot))
  kind-is erase_conf_and_lunch h = refl
  kind-is which_meeting h = meeting-is (h.one refl) 21 (λ i. meeting_of (state_of b) i r.b)
  kind-is count_leave h = refl
  kind-is seats_left h = refl
  kind-is free_room h = found-is 22 0 (lowest_free (state_of b) r.first r.last)

-- for a good book: the kind's own answer, as the code finds it past question 7, is the machine's
pub answered-by : {S : Settings} {g : Grids} {b : List ℕ} (good : Good S b) → g ≡ grids_of S → (r : Request) (k : Kind) → kind_of r.kind ≡ Some k
    → {w : Row} {n : ℕ} → w ≡ row_of S (row k) → n ≡ fields_no w r → n ≡ 0 → in_words S g b r k ≡ (machine (state_of b) r).answer
answered-by {S} {g} {b} good grids r k is row_is first z =
    ap (λ (g : Grids). in_words S g b r k) grids
    ∙ subst (λ (S : Settings). Ready S (row k) r → in_words S (grids_of S) b r k ≡ answer_for (state_of b) r k)
    (sym good.read) (kind-is b (record { read = refl; laid = good.laid; lawful = good.lawful }) r k)
    (ready good r k is row_is first z)
    ∙ past-seven good r k is row_is first z

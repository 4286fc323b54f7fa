-- A refusal changes no set; and kind 3, whose value is the number of bookings that go.
-- Assumes nothing.
use Prim.Native.Nat.{ℕ}
use mathlib.Core.Path.{◌≡◌, sym, ◌∙◌, ap, ap₂}
use Rattle.std.specs.Prelude.{Some}
use mathlib.Core.List.{List}
use Rattle.model.specs.declared.Settings.{Settings}
use Rattle.model.specs.declared.Request.{Request}
use Rattle.model.specs.Answers.{Answer}
use Rattle.model.specs.Answers.{done_with, refused_with}
use Rattle.model.specs.State.{State}
use Rattle.model.specs.Kinds.{kind_of, Kind.remove_visitor}
use Rattle.model.specs.Questions.{bookings}
use Rattle.model.specs.Machine.{Outcome, change, value, step}
use Rattle.model.specs.Words.{words}
use Rattle.model.specs.Reading.{state_of}
use Rattle.model.proofs.Done.{Accepted, accepted-step, done-of, refused-keeps}
use Rattle.book.specs.Good.{Good, answered, in_words}
use Rattle.judge.specs.Chains.{answer_for}
use Rattle.apply.specs.Removals.{without}
use Rattle.step.proofs.Kept.{good-diary}

-- a refused request leaves the words of a good diary
pub refused-book : {S : Settings} {b : List ℕ} → Good S b → (r : Request) {n p : ℕ} → (step (state_of b) r).answer ≡ refused_with n p
    → answered (refused_with n p) b ≡ in_words (step (state_of b) r)
refused-book {S} {b} good r {n} {p} e =
    ap (answered (refused_with n p)) (sym (good-diary good))
    ∙ sym (ap₂ (λ (a : Answer) (x : State). in_words (record { answer = a; state = x })) e (refused-keeps (state_of b) r n p e))

-- kind 3 past question 7, which is its last
pub removal-done : (b : List ℕ) (r : Request) → kind_of r.kind ≡ Some remove_visitor
    → answer_for (state_of b) r remove_visitor ≡ (step (state_of b) r).answer → {c : List ℕ} {m : ℕ}
    → c ≡ words (without (state_of b) r.b r.first r.last) → m ≡ bookings (state_of b) r.b r.first r.last
    → answered (done_with m) c ≡ in_words (step (state_of b) r)
unfolding change value
removal-done b r is e w v =
    let h : Accepted (state_of b) r remove_visitor = done-of (state_of b) r remove_visitor (bookings (state_of b) r.b r.first r.last) is (sym e) in
    ap₂ answered (ap done_with v ∙ e) (w ∙ ap words (sym (ap (λ (o : Outcome). o.state) (accepted-step (state_of b) r remove_visitor h))))

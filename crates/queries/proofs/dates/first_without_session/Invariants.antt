-- The meeting stands on each date passed, and the next one begins at `from`.
-- Assumes nothing.
use Rattle.book.specs.Lent.{reading}
use Prim.Native.Nat.{ℕ, ◌≤◌, ◌<◌}
use mathlib.Core.Path.{◌≡◌}
use mathlib.Core.Bool.{true}
use Rattle.model.specs.Questions.{stands_on}
use Rattle.model.specs.Reading.{state_of}
use Rattle.model.specs.Kinds.{sessions}
use Rattle.units.specs.Units.{Cut}
use Rattle.queries.proofs.dates.first_without_session.Given as goal

abbrev pub invariant-loop-d : goal.invariant-loop-d
invariant-loop-d l = (l.fn.first.0 ≤ l.d) × Cut l.diary.site.settings sessions l.d l.from.0
    × ((d : ℕ) → l.fn.first.0 ≤ d → d < l.d → stands_on (state_of (reading l.diary.words.now)) d l.meeting ≡ true)

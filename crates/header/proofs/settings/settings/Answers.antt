-- Word by word.
-- Assumes nothing.
use Prim.Native.Nat.{ℕ}
use mathlib.Core.Path.{◌∙◌, ap}
use Rattle.model.specs.Bounded.{list}
use Rattle.model.specs.Reading.{settings_of}
use Rattle.header.specs.Heads.{seat_of}
use Rattle.header.proofs.settings.settings.Goals as goal

pub returns : goal.returns
unfolding settings_of
returns c =
    λ i. record {
      dates = c.word.ensures i;
      sessions = c.word-2.ensures i;
      times = c.word-3.ensures i;
      visitors = c.word-4.ensures i;
      meetings = c.word-5.ensures i;
      rooms = c.word-6.ensures i;
      dining = c.word-dining.ensures i;
      hotels = c.word-7.ensures i;
      transports = c.word-8.ensures i;
      early = c.word-9.ensures i;
      capacities = (c.seats.ensures ∙ ap (λ (n : ℕ). list (seat_of c.args.words.now n) 16) c.word-dining.ensures) i;
    }

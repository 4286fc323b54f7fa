-- Done or refused.
-- Assumes nothing.
use Rattle.std.specs.Prelude.{Bool, true, false}
use Rattle.model.specs.Answers.{Answer}
use Rattle.std.specs.Prelude.{Ok, Err}

abbrev pub accepted : Answer → Bool
accepted (Ok v) = true
accepted (Err e) = false

-- `answers`: the length is stated over a variable and taken at the number.
-- Assumes nothing.
use Rattle.std.proofs.Common.{ℕ, ◌≡◌, sym, length, replicate}
use Rattle.std.proofs.lemmas.List.{length-replicate}
use Rattle.frames.specs.Run.{answers_room}
use Rattle.frames.proofs.answers.Goals as goal

all : (n : ℕ) → n ≡ length (replicate {A = ℕ} n 0)
all n = sym (length-replicate n 0)

pub returns : goal.returns
returns c = all answers_room

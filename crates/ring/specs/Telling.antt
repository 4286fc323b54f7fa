-- What a call gives that tells its answer as three words.
-- Assumes nothing.
use Rattle.std.specs.Prelude.{ℕ, ◌≡◌, List}
use Rattle.model.specs.declared.Told.{Told}
use Rattle.model.specs.Answers.{Answer}
use Rattle.model.specs.Told.{told_of}
use Rattle.model.specs.Calls.{Called}
use Rattle.book.specs.Good.{answered}

-- t tells the answer of the call c, and b is the book that it leaves
pub record Telling (t : Told) (b : List ℕ) (c : Called) : Type 0 where
  pub answer : Answer
  pub told : t ≡ told_of answer
  pub is : answered answer b ≡ c

-- An answer is done with a value, or refused with the number of a question and a place (rule 6.1); a charge likewise (rule 20.5).
-- Assumes nothing.
use Rattle.std.specs.Prelude.{ℕ, Result, Ok, Err}
use Rattle.model.specs.declared.Refusal.{Refusal}

abbrev pub Answer : Type 0
Answer = Result ℕ Refusal

abbrev pub Charged : Type 0
Charged = Result ℕ Refusal

abbrev pub done_with : ℕ → Answer
done_with v = Ok v

abbrev pub refused_with : ℕ → ℕ → Answer
refused_with n p = Err (record { number = n; place = p })

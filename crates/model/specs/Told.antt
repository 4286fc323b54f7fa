-- An answer as three words: the struct of them, the answer that it tells, and whether its words are those of an answer (rule 6.2).
-- Assumes nothing.
use Rattle.std.specs.Prelude.{Bool, cond, eqb, Ok, Err}
use Rattle.model.specs.declared.Told.{Told}
use Rattle.model.specs.Answers.{Answer}
use Rattle.model.specs.Messages.{told_by}

-- the words of an answer (answer_words), as the code hands them on
abbrev pub told_of : Answer → Told
told_of (Ok v) = record { number = 0; place = 0; value = v }
told_of (Err e) = record { number = e.number; place = e.place; value = 0 }

-- the answer that three words tell, and whether they are the words of an answer
abbrev pub answer_by : Told → Answer
answer_by t = told_by t.number t.place t.value

abbrev pub is_answer : Told → Bool
is_answer t = cond (eqb t.number 0) (eqb t.place 0) (eqb t.value 0)

-- What a caller in C or Rust hands over and is handed: the words of a request and of the model's answer, and what was lent, afterwards.
-- Assumes nothing.
use Rattle.std.specs.Prelude.{ℕ, ◌≡◌, List, [], ◌∷◌}
use Rattle.capi.specs.declared.AskedWords.{AskedWords}
use Rattle.capi.specs.declared.ChargedWords.{ChargedWords}
use Rattle.model.specs.declared.Told.{Told}
use Rattle.model.specs.Messages.{answer_words}
use Rattle.model.specs.Machine.{reply_words}
use Rattle.model.specs.Calls.{Called, Listed}
use Rattle.model.specs.Page.{Paged}

-- the three words of the struct, in the order of its fields
abbrev pub words_of : Told → List ℕ
words_of r = r.number ∷ r.place ∷ r.value ∷ []

-- and the four words of what asking gives
abbrev pub asked_words_of : AskedWords → List ℕ
asked_words_of r = r.number ∷ r.place ∷ r.value ∷ r.count ∷ []

-- the answer r, all that the call replies, and the book b are those of the model's call
pub record Tells (c : Called) (r : Told) (b : List ℕ) : Type 0 where
  pub answer : words_of r ≡ reply_words c.reply
  pub book : b ≡ c.book

-- the same of asking: the answer and the count, and the book
pub record TellsAsked (c : Called) (r : AskedWords) (b : List ℕ) : Type 0 where
  pub answer : asked_words_of r ≡ reply_words c.reply
  pub book : b ≡ c.book

-- the answer r, the book b and the lent words a of the answers are those of the model's list
pub record TellsList (l : Listed) (r : Told) (b a : List ℕ) : Type 0 where
  pub answer : words_of r ≡ answer_words l.answer
  pub book : b ≡ l.book
  pub answers : a ≡ l.answers

-- the answer r and the lent page p are those of the model's page
pub record TellsPage (c : Paged) (r : Told) (p : List ℕ) : Type 0 where
  pub answer : words_of r ≡ answer_words c.answer
  pub page : p ≡ c.page

-- the three words of a charge, in the order of the struct's fields
abbrev pub charge_of : ChargedWords → List ℕ
charge_of r = r.number ∷ r.place ∷ r.value ∷ []

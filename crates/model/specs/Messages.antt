-- The words of a request and of an answer (sections 4 and 6).
-- Assumes nothing.
use Rattle.std.specs.Prelude.{ℕ, zero, suc, Bool, ◌&&◌, List, [], ◌∷◌, eqb, get_or}
use Rattle.model.specs.declared.Request.{Request}
use Rattle.model.specs.Answers.{Answer}
use Rattle.std.specs.Prelude.{Ok, Err}
use Rattle.model.specs.Answers.{done_with, refused_with}

-- the three words of an answer: number, place, value; number and place are 0 when it is done, the value is 0 when it is refused
-- (rule 6.2)
abbrev pub answer_words : Answer → List ℕ
answer_words (Ok v) = 0 ∷ 0 ∷ v ∷ []
answer_words (Err e) = e.number ∷ e.place ∷ 0 ∷ []

-- the answer that three words tell: refused has a number other than 0
abbrev pub told_by : ℕ → ℕ → ℕ → Answer
told_by zero p v = done_with v
told_by (suc n) p v = refused_with (suc n) p

-- how many words a request has, and how many with the number of its order behind them (section 4, rule 18.1)
abbrev pub request_length : ℕ
request_length = 7

abbrev pub order_length : ℕ
order_length = 8

-- the seven words of a request, and the request that a list of words begins with (section 4)
abbrev pub sent_words : Request → List ℕ
sent_words r = r.kind ∷ r.a ∷ r.b ∷ r.first ∷ r.last ∷ r.n ∷ r.info ∷ []

abbrev pub request_of : List ℕ → Request
request_of w =
    record {
      kind = get_or w 0 0;
      a = get_or w 1 0;
      b = get_or w 2 0;
      first = get_or w 3 0;
      last = get_or w 4 0;
      n = get_or w 5 0;
      info = get_or w 6 0;
    }

-- two requests have the same seven words (rule 5.28)
unfoldable pub same_request : Request → Request → Bool
same_request p q =
    eqb p.kind q.kind
    && eqb p.a q.a
    && eqb p.b q.b
    && eqb p.first q.first
    && eqb p.last q.last
    && eqb p.n q.n
    && eqb p.info q.info

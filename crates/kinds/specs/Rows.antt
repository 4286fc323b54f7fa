-- The code's table of kinds, from the model's at a site, and questions 4 to 7 over a row of it.
-- Assumes nothing.
use Rattle.std.specs.Prelude.{ℕ, zero, suc, ◌≤◌, ◌<◌, ◌≡◌, Bool, true, false, not, ◌&&◌, ◌||◌, leb, ltb, eqb}
use Rattle.std.specs.Option.{is_some}
use Rattle.std.specs.Prelude.{Option, None, Some, Result, Ok, Err}
use Rattle.kinds.specs.declared.table.Row.{Row}
use Rattle.model.specs.declared.Settings.{Settings}
use Rattle.model.specs.declared.Request.{Request}
use Rattle.model.specs.declared.Refusal.{Refusal}
use Rattle.model.specs.Kinds.{used, limit, slots_of}
use Rattle.model.specs.Kinds.{Row as ModelRow}
use Rattle.model.specs.Questions.{zero_unless}

-- a row of the model's table as the code has it at a site
abbrev pub row_of : Settings → ModelRow → Row
row_of S w = record { a = limit S w.a; b = limit S w.b; slots = slots_of S w.unit; n = w.n; info = w.info; one = w.one }

-- the code's rows from limits
abbrev pub plain : Option ℕ → Option ℕ → ℕ → Row
plain a b n = record { a = a; b = b; slots = n; n = false; info = false; one = false }

abbrev pub single : Option ℕ → Option ℕ → ℕ → Row
single a b n = record { a = a; b = b; slots = n; n = false; info = false; one = true }

abbrev pub noted : Option ℕ → Option ℕ → ℕ → Bool → Row
noted a b n t = record { a = a; b = b; slots = n; n = t; info = true; one = false }

-- question 4, and what a word leaves over for it; question 5 or 6 of a field and a word; question 7 of a number of slots
abbrev pub left_over : Bool → ℕ → ℕ
left_over true w = 0
left_over false w = w

unfoldable pub unused_zero : Row → ℕ → ℕ → ℕ → ℕ → Bool
unused_zero w a b n info =
    zero_unless (is_some w.a) a && zero_unless (is_some w.b) b && zero_unless w.n n && zero_unless w.info info

-- question 4 in the model's terms
abbrev pub zero_unused : ModelRow → ℕ → ℕ → ℕ → ℕ → Bool
zero_unused w a b n info =
    zero_unless (used w.a) a && zero_unless (used w.b) b && zero_unless w.n n && zero_unless w.info info

abbrev pub below : Option ℕ → ℕ → Bool
below None w = true
below (Some l) w = ltb w l

unfoldable pub slots_fit : ℕ → Bool → ℕ → ℕ → Bool
slots_fit n one first last = leb first last && ltb last n && (not one || eqb first last)

-- the number of the first no, or 0
abbrev pub first_no : ℕ → Bool → ℕ → ℕ
first_no n true next = next
first_no n false next = n

-- questions 4 to 7
unfoldable pub fields_no : Row → Request → ℕ
fields_no w r =
    first_no 4 (unused_zero w r.a r.b r.n r.info)
    (first_no 5 (below w.a r.a)
    (first_no 6 (below w.b r.b)
    (first_no 7 (slots_fit w.slots w.one r.first r.last) 0)))

-- what the code does with the number of the first no: refused, or on to the next
abbrev pub passed : ℕ → Result (Unit {0}) Refusal
passed zero = Ok tt
passed (suc n) = Err (record { number = suc n; place = 0 })

-- what questions 5 to 7 leave of a request
abbrev pub Below : Option ℕ → ℕ → Type 0
Below None w = Unit {0}
Below (Some l) w = w < l

pub record Ready (S : Settings) (w : ModelRow) (r : Request) : Type 0 where
  pub a : Below (limit S w.a) r.a
  pub b : Below (limit S w.b) r.b
  pub order : r.first ≤ r.last
  pub slot : r.last < slots_of S w.unit
  pub one : w.one ≡ true → r.first ≡ r.last

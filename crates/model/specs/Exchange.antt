-- Two offices, two dates (section 21): when two requests share no date, which requests questions 3 to 7 let pass, and two lists merged.
-- Assumes nothing.
use Rattle.std.specs.Prelude.{ℕ, ◌≡◌, Bool, true, false, not, cond, List, [], ◌∷◌, ◌++◌, replicate}
use Rattle.std.specs.Prelude.{None, Some}
use Rattle.model.specs.declared.Settings.{Settings}
use Rattle.model.specs.declared.Request.{Request}
use Rattle.model.specs.State.{State}
use Rattle.model.specs.Kinds.{Kind, kind_of, row, date_of}
use Rattle.model.specs.Questions.{always, judge}
use Rattle.model.specs.Machine.{slot}
use Rattle.model.specs.Seen.{nth}

-- Two requests share no date: no slot of the one is on the date of a slot of the other. The slots of each are of the unit of its kind, and
-- a time is on the date that rule 2.2 gives it. A request of no kind has no slots, nor has one whose first is after its last (rule 21.1).
abbrev pub NoDateShared : Settings → Request → Request → Type 0
NoDateShared S r r' =
    (k k' : Kind) → kind_of r.kind ≡ Some k → kind_of r'.kind ≡ Some k' → (i i' : ℕ) → slot r i ≡ true → slot r' i' ≡ true
    → date_of S (row k).unit i ≡ date_of S (row k').unit i' → ⊥

-- no request of the one list shares a date with one of the other
abbrev pub NoDatesShared : Settings → List Request → List Request → Type 0
NoDatesShared S rs rs' = (i i' : ℕ) (r r' : Request) → nth rs i ≡ Some r → nth rs' i' ≡ Some r' → NoDateShared S r r'

-- the request passes questions 3 to 7, which ask the settings alone: it is of some kind, and those of every kind are answered yes
pub record PastSeven (x : State) (r : Request) : Type 0 where
  pub kind : Kind
  pub known : kind_of r.kind ≡ Some kind
  pub judged : judge x r kind always ≡ None

-- Two lists merged by a list of choices: true takes the next of the first, false the next of the second. Where that list has no more, the
-- rest of the other follows; behind the last choice comes what is left, the first list's before the second's.
abbrev pub merge : {A : Type 0} → List Bool → List A → List A → List A
merge [] l m = l ++ m
merge (true ∷ w) [] m = m
merge (true ∷ w) (a ∷ l) m = a ∷ merge w l m
merge (false ∷ w) l [] = l
merge (false ∷ w) l (b ∷ m) = b ∷ merge w l m

-- k goes through l and m, each in its order: these are the merges (`merge-interleaved`, `interleaved-merge`, proofs/Merged)
pub data Interleaved {A : Type 0} : List A → List A → List A → Type 0 where
  neither : Interleaved [] [] []
  first : (a : A) (l m k : List A) → Interleaved l m k → Interleaved (a ∷ l) m (a ∷ k)
  second : (a : A) (l m k : List A) → Interleaved l m k → Interleaved l (a ∷ m) (a ∷ k)

-- from which list each of a merge of n and m is, true for the first; and what a list has at the places of one of the two
abbrev pub sides : List Bool → ℕ → ℕ → List Bool
sides w n m = merge w (replicate n true) (replicate m false)

abbrev pub same : Bool → Bool → Bool
same true t = t
same false t = not t

abbrev pub picked : {A : Type 0} → Bool → List Bool → List A → List A
picked t [] l = []
picked t (s ∷ w) [] = []
picked t (s ∷ w) (a ∷ l) = cond (same t s) (a ∷ picked t w l) (picked t w l)

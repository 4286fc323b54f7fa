-- The words of an entry stored one by one, and an entry kept at the next place.
-- Assumes nothing.
use Rattle.std.specs.Prelude.{ℕ, suc, ◌+◌, ◌*◌, List, [], ◌∷◌, get_or, set}
use Rattle.model.specs.declared.Request.{Request}
use Rattle.model.specs.Tail.{entry_length, ring_length, place_after}

-- words stored at j, j + 1, .. behind a place
abbrev pub stored_from : List ℕ → ℕ → ℕ → List ℕ → List ℕ
stored_from w at j [] = w
stored_from w at j (v ∷ vs) = stored_from (set w (at + j) v) at (suc j) vs

-- the eleven words of an entry, from a place on
unfoldable pub entry_put : List ℕ → ℕ → ℕ → Request → ℕ → ℕ → ℕ → List ℕ
entry_put w at n r number place value =
    stored_from (set w at n) at 1
    (r.kind ∷ r.a ∷ r.b ∷ r.first ∷ r.last ∷ r.n ∷ r.info ∷ number ∷ place ∷ value ∷ [])

-- an entry at the next place, and the place after it
unfoldable pub entry_kept_at : List ℕ → ℕ → Request → ℕ → ℕ → ℕ → List ℕ
entry_kept_at w n r number place value =
    let next = get_or w ring_length 0 in
    set (entry_put w (next * entry_length) n r number place value) ring_length (place_after next)

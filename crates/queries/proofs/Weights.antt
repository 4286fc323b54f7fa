-- Weights of what a lunch cell holds: 1 for one dining room's number plus 1, and 0 for all else.
-- Assumes nothing.
use Prim.Native.Nat.{ℕ, zero, suc, ◌+◌, ◌*◌, ◌<◌}
use mathlib.Core.Path.{◌≡◌, refl, sym, ◌∙◌, ap, subst}
use mathlib.Core.List.{List}
use native.Mathlib.Decide.{ℕ_discrete}
use native.Mathlib.Omega.{arith}
use lib.ListN.{length, get_or, replicate}
use lib.Seq.{get_or-set_same, get_or-set_other}
use Rattle.model.specs.declared.Settings.{Settings}
use Rattle.model.specs.Words.{lunch_triples}
use Rattle.model.specs.Reading.{state_of}
use Rattle.model.specs.State.{lunches}
use Rattle.book.specs.Grids.{cell_at, word_at, grid_of}
use Rattle.book.specs.Good.{Good}
use Rattle.book.proofs.Entries.{word-is}
use Rattle.book.proofs.Goods.{good-laid, good-cell}
use Rattle.queries.specs.Shown.{Seats, weights_of}
use Rattle.queries.proofs.Shows.{seats-own, seats-other}

zeros : (n k : ℕ) → ◌≡◌ {A = ℕ} (get_or (replicate n 0) k 0) 0
zeros zero k = refl
zeros (suc n) zero = refl
zeros (suc n) (suc k) = zeros n k

weight-own : (room k : ℕ) → room < 16 → k ≡ room + 1 → get_or (weights_of room) k 0 ≡ 1
weight-own room k h e =
    let n : length {A = ℕ} (replicate 17 0) ≡ 17 = refl in
    ap (λ (k : ℕ). get_or (weights_of room) k 0) e ∙ get_or-set_same (replicate 17 0) (room + 1) 1 0 (omega (arith, n))

weight-other : (room k : ℕ) → (k ≡ room + 1 → ⊥) → get_or (weights_of room) k 0 ≡ 0
weight-other room k n = get_or-set_other (replicate 17 0) (room + 1) k 1 0 n ∙ zeros 17 k

module _ (S : Settings) (b : List ℕ) (good : Good S b) (d g m : ℕ) (h : d < S.dates) (l : g < S.dining) (k : m < S.meetings) where
  -- a lunch cell has a weight
  pub weight-lt : (c : ℕ) → c ≡ cell_at (grid_of S lunch_triples) b d m → c < 17
  weight-lt c e = omega (arith, e, good-cell good lunches d m h k, (good-laid good).ranges.dining)

  -- the meeting's seats in a dining room: the word of its seats, times the weight of what its cell holds
  pub weighed : (v c : ℕ) → v ≡ word_at (grid_of S lunch_triples) b d m 1 → c ≡ cell_at (grid_of S lunch_triples) b d m
      → Seats (state_of b) d g m (v * get_or (weights_of g) c 0)
  weighed v c q e = go (ℕ_discrete c (g + 1))
    where
      go : Dec (c ≡ g + 1) → Seats (state_of b) d g m (v * get_or (weights_of g) c 0)
      go (yes t) =
          let p : v ≡ v * get_or (weights_of g) c 0 = rw (weight-own g c (omega (arith, (good-laid good).ranges.dining)) t) (omega arith) in
          subst (Seats (state_of b) d g m) p (seats-own S b good d g m h l k v (sym e ∙ t) (q ∙ word-is S b lunch_triples d m 1))
      go (no n) =
          let p : 0 ≡ v * get_or (weights_of g) c 0 = rw (weight-other g c n) (omega arith) in
          subst (Seats (state_of b) d g m) p (seats-other S b good d g m h l k (λ t. n (e ∙ t)))

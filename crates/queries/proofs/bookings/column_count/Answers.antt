-- The cells of the column, counted one by one.
-- Assumes nothing.
use Prim.Native.Nat.{ℕ, ◌-◌}
use mathlib.Core.Path.{refl, ◌∙◌}
use mathlib.Core.Bool.{not}
use native.Mathlib.Omega.{arith}
use lib.Dec.{eqb}
use Rattle.std.proofs.Common.{rules}
use Rattle.std.specs.List.{range_with_len}
use Rattle.std.proofs.lemmas.Iterator.{YieldsList-from_range, YieldsList-from_map}
use Rattle.std.proofs.lemmas.Iterator.Consumers.{sum_by_from_yields_List, fits_by_from_yields_list}
use Rattle.model.specs.Bounded.{one}
use Rattle.book.specs.Grids.{cell_at}
use Rattle.book.specs.Lent.{reading}
use Rattle.model.proofs.ReadBack.{one-le}
use Rattle.model.proofs.Sums.{sum-most}
use Rattle.queries.specs.Shown.{column_count}
use Rattle.queries.proofs.Ranges.{sum-range}
use Rattle.queries.proofs.bookings.column_count.Goals as goal

pub sum-requires-clause-fits : goal.sum-requires-clause-fits
sum-requires-clause-fits c =
    let a = c.args in
    let f : ℕ → ℕ = λ k. one (not (eqb (cell_at a.g.grid (reading a.g.words.now) k a.item) 0)) in
    fits_by_from_yields_list f (range_with_len a.lo (a.hi - a.lo)) c.map.result _ (YieldsList-from_map _ f (YieldsList-from_range a.lo a.hi (a.hi - a.lo) c.map.ensures.source refl) c.map.ensures.closure (λ x r q k. search rules))
    (omega (arith, sum-range f a.lo (a.hi - a.lo), sum-most f 1 a.lo (a.hi - a.lo) (λ k. one-le _), c.requires.lo_le_hi))

pub returns : goal.returns
unfolding column_count
returns c =
    let a = c.args in
    let f : ℕ → ℕ = λ k. one (not (eqb (cell_at a.g.grid (reading a.g.words.now) k a.item) 0)) in
    sum_by_from_yields_List f (range_with_len a.lo (a.hi - a.lo)) c.map.result _ c.sum.ensures.ran (YieldsList-from_map _ f (YieldsList-from_range a.lo a.hi (a.hi - a.lo) c.map.ensures.source refl) c.map.ensures.closure (λ x r q k. search rules))
    ∙ sum-range f a.lo (a.hi - a.lo)

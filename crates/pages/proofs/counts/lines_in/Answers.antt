-- The rooms, one by one.
-- Assumes nothing.
use Prim.Native.Nat.{ℕ, ◌-◌}
use mathlib.Core.Path.{◌≡◌, refl, ◌∙◌}
use mathlib.Core.Bool.{not}
use native.Mathlib.Omega.{arith}
use lib.Dec.{eqb}
use Rattle.std.proofs.Common.{rules}
use Rattle.std.specs.List.{range_with_len}
use Rattle.std.proofs.lemmas.Iterator.{YieldsList-from_range, YieldsList-from_map}
use Rattle.std.proofs.lemmas.Iterator.Consumers.{sum_by_from_yields_List, fits_by_from_yields_list}
use Rattle.model.specs.Bounded.{one, sum_from}
use Rattle.model.proofs.ReadBack.{one-le}
use Rattle.model.proofs.Sums.{sum-most}
use Rattle.book.specs.Grids.{cell_at}
use Rattle.book.specs.Lent.{reading}
use Rattle.book.proofs.Goods.{good-laid}
use Rattle.queries.proofs.Ranges.{sum-range}
use Rattle.pages.proofs.Shows.{session-count, session-few}
use Rattle.pages.proofs.counts.lines_in.Goals as goal

pub sum-requires-clause-fits : goal.sum-requires-clause-fits
sum-requires-clause-fits c =
    let a = c.args in
    let conf = c.conf-conf.result in
    let f : ℕ → ℕ = λ k. one (not (eqb (cell_at conf.grid (reading conf.words.now) a.session.0 k) 0)) in
    let n = a.diary.site.settings.rooms in
    fits_by_from_yields_list f (range_with_len 0 (n - 0)) c.map.result _
    (YieldsList-from_map _ f (YieldsList-from_range 0 n (n - 0) c.map.ensures.source refl) c.map.ensures.closure (λ x r q k. search rules))
    (omega (arith, sum-range f 0 (n - 0), sum-most f 1 0 (n - 0) (λ k. one-le _), (good-laid a.diary.good).ranges.rooms))

pub returns : goal.returns
returns c =
    let a = c.args in
    let conf = c.conf-conf.result in
    let f : ℕ → ℕ = λ k. one (not (eqb (cell_at conf.grid (reading conf.words.now) a.session.0 k) 0)) in
    let n = a.diary.site.settings.rooms in
    let is : c.sum.result ≡ sum_from f 0 (n - 0)
    = sum_by_from_yields_List f (range_with_len 0 (n - 0)) c.map.result _ c.sum.ensures.ran
    (YieldsList-from_map _ f (YieldsList-from_range 0 n (n - 0) c.map.ensures.source refl) c.map.ensures.closure (λ x r q k. search rules))
    ∙ sum-range f 0 (n - 0) in
    let e = (rw (c.conf-conf.ensures.grid, c.conf-conf.ensures.words, a.diary.site.sited) at is)
    ∙ session-count a.diary.good a.session.0 c.requires in
    record { is = e; few = omega (arith, e, session-few a.diary.good a.session.0) }

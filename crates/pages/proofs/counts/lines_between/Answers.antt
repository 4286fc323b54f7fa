-- The sessions, one by one.
-- Assumes nothing.
use Prim.Native.Nat.{ℕ, ◌-◌}
use mathlib.Core.Path.{◌≡◌, refl, ◌∙◌}
use native.Mathlib.Omega.{arith}
use lib.ListN.{length}
use Rattle.std.proofs.Common.{rules}
use Rattle.std.specs.List.{range_with_len}
use Rattle.std.proofs.lemmas.Iterator.{YieldsList-from_range, YieldsList-from_map}
use Rattle.std.proofs.lemmas.Iterator.Consumers.{sum_by_from_yields_List, fits_by_from_yields_list}
use Rattle.model.specs.Reading.{state_of}
use Rattle.model.specs.Page.{session_lines}
use Rattle.book.specs.Lent.{reading}
use Rattle.queries.proofs.Ranges.{sum-range}
use Rattle.pages.specs.Pages.{between}
use Rattle.pages.proofs.Joins.{join-length}
use Rattle.pages.proofs.Shows.{between-few}
use Rattle.pages.proofs.counts.lines_between.Goals as goal

pub sum-requires-clause-fits : goal.sum-requires-clause-fits
unfolding between
sum-requires-clause-fits c =
    let a = c.args in
    let x = state_of (reading a.diary.words.now) in
    let f : ℕ → ℕ = λ i. length (session_lines x i) in
    let n = a.to.0 - a.from.0 in
    fits_by_from_yields_list f (range_with_len a.from.0 n) c.map.result _
    (YieldsList-from_map _ f (YieldsList-from_range a.from.0 a.to.0 n c.map.ensures.source refl) c.map.ensures.closure (λ x r q k. search rules))
    (omega (arith, sum-range f a.from.0 n, join-length (session_lines x) a.from.0 n, between-few a.diary.good a.from.0 a.to.0 c.requires.1))

pub returns : goal.returns
unfolding between
returns c =
    let a = c.args in
    let x = state_of (reading a.diary.words.now) in
    let f : ℕ → ℕ = λ i. length (session_lines x i) in
    let n = a.to.0 - a.from.0 in
    let is : c.sum.result ≡ length (between x a.from.0 a.to.0)
    = sum_by_from_yields_List f (range_with_len a.from.0 n) c.map.result _ c.sum.ensures.ran
    (YieldsList-from_map _ f (YieldsList-from_range a.from.0 a.to.0 n c.map.ensures.source refl) c.map.ensures.closure (λ x r q k. search rules))
    ∙ sum-range f a.from.0 n ∙ join-length (session_lines x) a.from.0 n in
    record { is = is; few = omega (arith, is, between-few a.diary.good a.from.0 a.to.0 c.requires.1) }

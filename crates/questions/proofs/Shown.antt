-- Searches over the cells of one grid find what the state shows: questions 9, 10, 16, 17 and 20.
-- Assumes nothing.
use Prim.Native.Nat.{ℕ, ◌+◌, ◌/◌, ◌%◌, ◌<◌}
use mathlib.Core.Path.{◌≡◌, sym, ◌∙◌, ap}
use mathlib.Core.Bool.{not}
use mathlib.Core.List.{List}
use native.Mathlib.Omega.{arith}
use lib.Dec.{eqb}
use Rattle.model.proofs.Search.{failing-same}
use Rattle.book.specs.declared.grid.Grids.{Grids}
use Rattle.book.specs.Grids.{cell_at, grids_of}
use Rattle.book.specs.Rows.{row_has}
use Rattle.book.specs.Good.{Good}
use Rattle.questions.specs.Asked.{first_with, first_row_without, first_not_member, slots_fail, holds_in}
use Rattle.questions.specs.Asked.{OnLeave, Stands, HasConf, HasLunch}
use Rattle.model.specs.declared.Settings.{Settings}
use Rattle.model.specs.Bounded.{bit}
use Rattle.model.specs.Kinds.{dates}
use Rattle.model.specs.Site.{all_sessions}
use Rattle.queries.proofs.Shows.{leave-is, standing-is, conf-held-is, lunch-held-is}

module _ {S : Settings} {b : List ℕ} (good : Good S b) where
  module _ {g : Grids} (e : g ≡ grids_of S) (first last : ℕ) where
    pub leave-fail : (v : ℕ) → v < S.visitors → last < S.dates
        → first_not_member g.leave b v first last ≡ slots_fail S b (OnLeave dates) v 0 first last
    unfolding first_not_member holds_in
    leave-fail v k h =
        (failing-same _ _ first last (λ i l j.
        ap (λ (g : Grids). bit (cell_at g.leave b i (v / 32)) (v % 32)) e ∙ sym (leave-is S b good i v (omega (arith, j, h)) k)))

    -- the sets of a meeting
    module _ (m : ℕ) (k : m < S.meetings) where
      pub stands-fail : last < all_sessions S → first_not_member g.standing b m first last ≡ slots_fail S b Stands m 0 first last
      unfolding first_not_member holds_in
      stands-fail h =
          (failing-same _ _ first last (λ i l j.
          ap (λ (g : Grids). bit (cell_at g.standing b i (m / 32)) (m % 32)) e ∙ sym (standing-is S b good i m (omega (arith, j, h)) k)))

      pub conf-fail : last < all_sessions S → first_row_without g.conf b (m + 1) first last ≡ slots_fail S b HasConf m 0 first last
      unfolding first_row_without holds_in
      conf-fail h =
          (failing-same _ _ first last (λ i l j.
          ap (λ (g : Grids). row_has g.conf b i (m + 1)) e ∙ sym (conf-held-is S b good i m (omega (arith, j, h)) k)))

      pub lunch-fail : last < S.dates → first_with g.lunch b m 0 first last ≡ slots_fail S b HasLunch m 0 first last
      unfolding first_with holds_in
      lunch-fail h =
          (failing-same _ _ first last (λ i l j.
          ap (λ (g : Grids). not (eqb (cell_at g.lunch b i m) 0)) e ∙ sym (lunch-held-is S b good i m (omega (arith, j, h)) k)))

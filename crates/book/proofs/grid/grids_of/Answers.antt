-- Each region starts where the one before it ends, and the first behind the settings.
-- Assumes nothing.
use Prim.Native.Nat.{ℕ, ◌+◌, ◌*◌, ◌/◌}
use mathlib.Core.Path.{◌≡◌, ◌∙◌}
use native.Mathlib.Omega.{arith}
use Rattle.model.specs.declared.Settings.{Settings}
use Rattle.model.specs.Site.{settings_length}
use Rattle.model.specs.Words.{leaves, hotel_cells, standings, attend_cells, conf_pairs, lunch_triples, ride_cells, base}
use Rattle.book.specs.declared.grid.Grid.{Grid}
use Rattle.book.specs.Grids.{end, grid_of}
use Rattle.book.proofs.Regions.{base-next, grid-by, grid-behind, small-by}
use Rattle.book.proofs.grid.grids_of.Goals as goal

abbrev grid : ℕ → ℕ → ℕ → ℕ → Grid
grid n s i w = record { base = n; slots = s; items = i; width = w }

module _ (S : Settings) (n : ℕ) (e : n ≡ settings_length S) where
  abbrev leave : Grid
  leave = grid n S.dates ((S.visitors + 31) / 32) 1

  is_leave : leave ≡ grid_of S leaves
  unfolding base
  is_leave = grid-by S leaves n (e ∙ omega arith)

  module _ {hotel : Grid} (h : hotel ≡ grid (end leave) S.dates S.hotels 1) where
    is_hotel : hotel ≡ grid_of S hotel_cells
    is_hotel = grid-behind S leaves hotel_cells (base-next S).0 is_leave h

    module _ {standing : Grid} (s : standing ≡ grid (end hotel) (S.dates * S.sessions) ((S.meetings + 31) / 32) 1) where
      is_standing : standing ≡ grid_of S standings
      is_standing = grid-behind S hotel_cells standings (base-next S).1 is_hotel s

      module _ {attend : Grid} (a : attend ≡ grid (end standing) (S.dates * S.sessions) S.visitors 1) where
        is_attend : attend ≡ grid_of S attend_cells
        is_attend = grid-behind S standings attend_cells (base-next S).2 is_standing a

        module _ {conf : Grid} (c : conf ≡ grid (end attend) (S.dates * S.sessions) S.rooms 2) where
          is_conf : conf ≡ grid_of S conf_pairs
          is_conf = grid-behind S attend_cells conf_pairs (base-next S).3 is_attend c

          module _ {lunch : Grid} (l : lunch ≡ grid (end conf) S.dates S.meetings 3) where
            is_lunch : lunch ≡ grid_of S lunch_triples
            is_lunch = grid-behind S conf_pairs lunch_triples (base-next S).4 is_conf l

            is_ride : {ride : Grid} → ride ≡ grid (end lunch) (S.dates * S.times) S.transports 1 → ride ≡ grid_of S ride_cells
            is_ride r = grid-behind S lunch_triples ride_cells (base-next S).5 is_lunch r

pub behind-hotel-requires : goal.behind-hotel-requires
behind-hotel-requires c = small-by c.args.s c.requires leaves (is_leave c.args.s _ c.settings_len.ensures)

pub behind-standing-requires : goal.behind-standing-requires
behind-standing-requires c = small-by c.args.s c.requires hotel_cells (is_hotel c.args.s _ c.settings_len.ensures c.behind-hotel.ensures)

pub behind-attend-requires : goal.behind-attend-requires
behind-attend-requires c =
    small-by c.args.s c.requires standings (is_standing c.args.s _ c.settings_len.ensures c.behind-hotel.ensures c.behind-standing.ensures)

pub behind-conf-requires : goal.behind-conf-requires
behind-conf-requires c =
    small-by c.args.s c.requires attend_cells
    (is_attend c.args.s _ c.settings_len.ensures c.behind-hotel.ensures c.behind-standing.ensures c.behind-attend.ensures)

pub behind-lunch-requires : goal.behind-lunch-requires
behind-lunch-requires c =
    small-by c.args.s c.requires conf_pairs
    (is_conf c.args.s _ c.settings_len.ensures c.behind-hotel.ensures c.behind-standing.ensures c.behind-attend.ensures c.behind-conf.ensures)

pub behind-ride-requires : goal.behind-ride-requires
behind-ride-requires c =
    small-by c.args.s c.requires lunch_triples
    (is_lunch c.args.s _ c.settings_len.ensures c.behind-hotel.ensures c.behind-standing.ensures c.behind-attend.ensures c.behind-conf.ensures
    c.behind-lunch.ensures)

pub returns : goal.returns
returns c =
    let s = c.args.s in
    let n = c.settings_len.ensures in
    let h = c.behind-hotel.ensures in
    let t = c.behind-standing.ensures in
    let a = c.behind-attend.ensures in
    let r = c.behind-conf.ensures in
    let l = c.behind-lunch.ensures in
    λ i. record {
      leave = is_leave s _ n i;
      hotel = is_hotel s _ n h i;
      standing = is_standing s _ n h t i;
      attend = is_attend s _ n h t a i;
      conf = is_conf s _ n h t a r i;
      lunch = is_lunch s _ n h t a r l i;
      ride = is_ride s _ n h t a r l c.behind-ride.ensures i;
    }

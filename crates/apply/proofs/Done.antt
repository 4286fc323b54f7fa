-- After the writes of each kind the book has the words of the machine's state.
-- Assumes nothing.
use Prim.Native.Nat.{ℕ, ◌+◌}
use mathlib.Core.Path.{◌≡◌, ◌∙◌, ap}
use mathlib.Core.Bool.{true, false}
use mathlib.Core.List.{List}
use Rattle.model.specs.declared.Settings.{Settings}
use Rattle.model.specs.declared.Request.{Request}
use Rattle.model.specs.Kinds.{Kind.add_leave, Kind.end_leave, Kind.add_hotel, Kind.erase_hotel, Kind.add_ride, Kind.erase_ride}
use Rattle.model.specs.Kinds.{Kind.add_standing, Kind.end_standing, Kind.add_attend, Kind.erase_attend, Kind.add_conf, Kind.erase_conf}
use Rattle.model.specs.Kinds.{Kind.add_lunch, Kind.erase_lunch, Kind.erase_conf_and_lunch}
use Rattle.book.specs.declared.grid.Grids.{Grids}
use Rattle.book.specs.declared.puts.Content.{Content}
use Rattle.book.specs.Stores.{empty, swept}
use Rattle.apply.specs.Stores.{full, filled, marked_all, standing_ended, meeting_erased}
use Rattle.apply.proofs.Columns.{write-add_hotel, write-erase_hotel, write-add_ride, write-erase_ride, write-add_attend, write-erase_attend}
use Rattle.apply.proofs.Columns.{write-add_conf, write-add_lunch, write-erase_lunch}
use Rattle.apply.proofs.Erasures.{write-add_leave, write-end_leave, write-add_standing, write-end_standing, write-erase_conf}
use Rattle.apply.proofs.Erasures.{write-erase_conf_and_lunch}
use Rattle.apply.proofs.Arms.{Known, done, arm}

module _ {S : Settings} {b : List ℕ} {G : Grids} {r : Request} where
  pub done-add_leave : Known S b G r add_leave → marked_all G.leave true r.b r.first (r.last + 1) b ≡ done b r
  done-add_leave w = arm w (λ S g. marked_all g.leave true r.b r.first (r.last + 1) b) (λ x _ z l y. write-add_leave x z r b l y)

  pub done-end_leave : Known S b G r end_leave → marked_all G.leave false r.b r.first (r.last + 1) b ≡ done b r
  done-end_leave w = arm w (λ S g. marked_all g.leave false r.b r.first (r.last + 1) b) (λ x _ z l y. write-end_leave x z r b l y)

  pub done-add_hotel : Known S b G r add_hotel → {c : Content} → c ≡ full r.b 0 0 → filled G.hotel r.a c r.first (r.last + 1) b ≡ done b r
  done-add_hotel w e = ap (λ (c : Content). filled G.hotel r.a c r.first (r.last + 1) b) e
      ∙ arm w (λ S g. filled g.hotel r.a (full r.b 0 0) r.first (r.last + 1) b) (λ x _ z l y. write-add_hotel x z r b l y)

  pub done-erase_hotel : Known S b G r erase_hotel → filled G.hotel r.a empty r.first (r.last + 1) b ≡ done b r
  done-erase_hotel w = arm w (λ S g. filled g.hotel r.a empty r.first (r.last + 1) b) (λ x _ z l y. write-erase_hotel x z r b l y)

  pub done-add_ride : Known S b G r add_ride → {c : Content} → c ≡ full r.b 0 0 → filled G.ride r.a c r.first (r.last + 1) b ≡ done b r
  done-add_ride w e = ap (λ (c : Content). filled G.ride r.a c r.first (r.last + 1) b) e
      ∙ arm w (λ S g. filled g.ride r.a (full r.b 0 0) r.first (r.last + 1) b) (λ x _ z l y. write-add_ride x z r b l y)

  pub done-erase_ride : Known S b G r erase_ride → filled G.ride r.a empty r.first (r.last + 1) b ≡ done b r
  done-erase_ride w = arm w (λ S g. filled g.ride r.a empty r.first (r.last + 1) b) (λ x _ z l y. write-erase_ride x z r b l y)

  pub done-add_standing : Known S b G r add_standing → marked_all G.standing true r.a r.first (r.last + 1) b ≡ done b r
  done-add_standing w = arm w (λ S g. marked_all g.standing true r.a r.first (r.last + 1) b) (λ x _ z l y. write-add_standing x z r b l y)

  pub done-end_standing : Known S b G r end_standing → standing_ended G r.a r.first r.last b ≡ done b r
  done-end_standing w = arm w (λ S g. standing_ended g r.a r.first r.last b) (λ x _ z l y. write-end_standing x z r b l y)

  pub done-add_attend : Known S b G r add_attend → {c : Content} → c ≡ full r.a 0 0 → filled G.attend r.b c r.first (r.last + 1) b ≡ done b r
  done-add_attend w e = ap (λ (c : Content). filled G.attend r.b c r.first (r.last + 1) b) e
      ∙ arm w (λ S g. filled g.attend r.b (full r.a 0 0) r.first (r.last + 1) b) (λ x _ z l y. write-add_attend x z r b l y)

  pub done-erase_attend : Known S b G r erase_attend → filled G.attend r.b empty r.first (r.last + 1) b ≡ done b r
  done-erase_attend w = arm w (λ S g. filled g.attend r.b empty r.first (r.last + 1) b) (λ x _ z l y. write-erase_attend x z r b l y)

  pub done-add_conf : Known S b G r add_conf → {c : Content} → c ≡ full r.b r.info 0 → filled G.conf r.a c r.first (r.last + 1) b ≡ done b r
  done-add_conf w e = ap (λ (c : Content). filled G.conf r.a c r.first (r.last + 1) b) e
      ∙ arm w (λ S g. filled g.conf r.a (full r.b r.info 0) r.first (r.last + 1) b) (λ x _ z l y. write-add_conf x z r b l y)

  pub done-erase_conf : Known S b G r erase_conf → swept G.conf (r.b + 1) r.first (r.last + 1) b ≡ done b r
  done-erase_conf w = arm w (λ S g. swept g.conf (r.b + 1) r.first (r.last + 1) b) (λ x _ z l y. write-erase_conf x z r b l y)

  pub done-add_lunch : Known S b G r add_lunch → {c : Content} → c ≡ full r.a r.n r.info → filled G.lunch r.b c r.first (r.last + 1) b ≡ done b r
  done-add_lunch w e = ap (λ (c : Content). filled G.lunch r.b c r.first (r.last + 1) b) e
      ∙ arm w (λ S g. filled g.lunch r.b (full r.a r.n r.info) r.first (r.last + 1) b) (λ x _ z l y. write-add_lunch x z r b l y)

  pub done-erase_lunch : Known S b G r erase_lunch → filled G.lunch r.b empty r.first (r.last + 1) b ≡ done b r
  done-erase_lunch w = arm w (λ S g. filled g.lunch r.b empty r.first (r.last + 1) b) (λ x _ z l y. write-erase_lunch x z r b l y)

  pub done-erase_conf_and_lunch : Known S b G r erase_conf_and_lunch → meeting_erased S G r.b r.first r.last b ≡ done b r
  done-erase_conf_and_lunch w = arm w (λ S g. meeting_erased S g r.b r.first r.last b) (λ x _ z l y. write-erase_conf_and_lunch x z r b l y)

-- The sign of a turn: which signs say that the input ended, and which that all was written.
-- Assumes nothing.
use Rattle.std.proofs.Common.{◌≡◌, true, false, Result, Ok, Err, ◌⊎◌, inl, inr, refl, ap}
use Rattle.std.specs.Prelude.{⊤}
use Rattle.std.specs.declared.io.Error.{Error}
use Rattle.model.proofs.Search.{both}
use Rattle.lines.specs.declared.stream.Phase.{Phase}
use Rattle.lines.specs.declared.stream.Phase.TheVariants.{Opening, Later, Over}
use Rattle.frames.specs.declared.Sign.{Sign}
use Rattle.frames.specs.declared.Sign.TheVariants.{More, Ended, Unread, Unwritten}
use Rattle.frames.specs.Run.{signed, is_end, goes_on, is_put}

-- the program goes on behind no other sign
pub going_more : (g : Sign) → goes_on g ≡ true → g ≡ More
going_more More h = refl
going_more Ended h = both h refl
going_more (Unread e) h = both h refl
going_more (Unwritten e) h = both h refl

pub put_more : {g : Sign} → g ≡ More → is_put g ≡ true
put_more e = ap is_put e

pub put_end : (g : Sign) → is_end g ≡ true → is_put g ≡ true
put_end More h = both h refl
put_end Ended h = refl
put_end (Unread e) h = both h refl
put_end (Unwritten e) h = both h refl

pub end_unput : (g : Sign) → is_put g ≡ false → is_end g ≡ false
end_unput More h = both refl h
end_unput Ended h = both refl h
end_unput (Unread e) h = both refl h
end_unput (Unwritten e) h = refl

-- a turn ends the run where nothing is left to read, or behind a refused settings line
pub ended_by : (g : Sign) (p : Phase) (q : Result ⊤ Error) → is_end (signed g p q) ≡ true → (g ≡ Ended) ⊎ (p ≡ Over)
ended_by More p (Err e) h = both h refl
ended_by More Opening (Ok t) h = both h refl
ended_by More Later (Ok t) h = both h refl
ended_by More Over (Ok t) h = inr refl
ended_by Ended p q h = inl refl
ended_by (Unread e) p q h = both h refl
ended_by (Unwritten e) p q h = both h refl

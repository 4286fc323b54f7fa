-- `caviar_book_len`: what `book_len` ensures, in the model's words, and 0 where it is none.
-- Assumes nothing.
use Prim.Native.Nat.{ℕ}
use mathlib.Core.Path.{◌≡◌, refl, ◌∙◌, ap}
use mathlib.Core.Bool.{Bool, true, false, cond}
use Rattle.std.specs.Prelude.{Option, None, Some}
use Rattle.std.specs.Option.{unwrap_or}
use Rattle.model.specs.Reading.{settings_of}
use Rattle.model.specs.Ledger.{book_length}
use Rattle.model.specs.Calls.{settings_good}
use Rattle.header.specs.Heads.{needed_length}
use Rattle.capi.proofs.caviar_book_len.Goals as goal

or-0 : (t : Bool) (n : ℕ) → unwrap_or (cond t (Some n) None) 0 ≡ cond t n 0
or-0 true n = refl
or-0 false n = refl

pub returns : goal.returns
unfolding needed_length
returns c =
    let w = c.args.settings.now in
    c.unwrap_or.ensures ∙ ap (λ (o : Option ℕ). unwrap_or o 0) c.book_len.ensures ∙ or-0 (settings_good w) (book_length (settings_of w))

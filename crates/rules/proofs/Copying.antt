-- A table copied as far as the limit.
-- Assumes nothing.
use Rattle.std.proofs.Common.{ℕ, ◌≡◌, ◌+◌, Bool, false, List, ◌++◌, length, take, drop, sym, ◌∙◌, ap, arith, ext_get_or, get_or-drop, take-append-drop, length-drop}
use Rattle.rules.specs.Rows.{Past}

-- two tables that bar what is past the limit are the same there
same-past : (table seen : List Bool) (limit : ℕ) → length seen ≡ length table → Past limit table → Past limit seen
    → drop (limit + 1) seen ≡ drop (limit + 1) table
same-past table seen limit l p q =
    ext_get_or false (drop (limit + 1) seen) (drop (limit + 1) table) (grind (arith, length-drop))
    (λ v h. get_or-drop (limit + 1) seen v false ∙ q (limit + 1 + v) (omega arith) (grind (arith, length-drop))
    ∙ sym (p (limit + 1 + v) (omega arith) (grind (arith, length-drop))) ∙ sym (get_or-drop (limit + 1) table v false))

pub copied : (table : List Bool) (limit : ℕ) (seen : List Bool) → length seen ≡ length table → Past limit table → Past limit seen
    → take (limit + 1) table ++ drop (limit + 1) seen ≡ table
copied table limit seen l p q = ap (λ s. take (limit + 1) table ++ s) (same-past table seen limit l p q) ∙ take-append-drop (limit + 1) table

-- Limits at a site: questions 4 to 7 with the model's limits, and what they leave of a request.
-- Assumes nothing.
use Prim.Native.Nat.{ℕ, zero, suc, ◌+◌}
use mathlib.Core.Path.{◌≡◌, refl, ◌∙◌, sym}
use mathlib.Core.Bool.{Bool, true, false, not, ◌&&◌, ◌||◌, false≢true}
use Rattle.std.specs.Prelude.{Option, None, Some}
use native.Mathlib.Omega.{arith}
use lib.Dec.{leb, ltb, eqb}
use Rattle.std.specs.Option.{is_some}
use borrow.Author.Tests.{ltb-true, leb-true, eqb-true, ne_eqb}
use Rattle.kinds.specs.declared.table.Row.{Row}
use Rattle.kinds.specs.Rows.{left_over, row_of, below, unused_zero, zero_unused, slots_fit, first_no, fields_no, Below, Ready}
use Rattle.model.specs.declared.Settings.{Settings}
use Rattle.model.specs.declared.Request.{Request}
use Rattle.model.specs.Kinds.{used, limit, slots_of, unused, visitor, meeting, room, dining_room, hotel_room, transport}
use Rattle.model.specs.Kinds.{Field as ModelField, Row as ModelRow}
use Rattle.model.specs.Questions.{zero_unless, below as model_below}
use Rattle.model.proofs.Search.{and_left, and_right}

-- question 4 by a sum: it is 0 exactly when each word that is left over is
sum-zero : (x y : ℕ) → eqb (x + y) 0 ≡ eqb x 0 && eqb y 0
sum-zero zero y = let e : 0 + y ≡ y = omega arith in rw e
sum-zero (suc x) y = rw (ne_eqb (suc x + y) 0 (λ e. omega (arith, e)), ne_eqb (suc x) 0 (λ e. omega (arith, e)))

left-zero : (t : Bool) (w : ℕ) → eqb (left_over t w) 0 ≡ zero_unless t w
left-zero true w = refl
left-zero false w = refl

pub unused_by : (w : Row) (a b n i : ℕ)
    → eqb (left_over (is_some w.a) a + left_over (is_some w.b) b + left_over w.n n + left_over w.info i) 0 ≡ unused_zero w a b n i
unfolding unused_zero
unused_by w a b n i = rw (
  sum-zero (left_over (is_some w.a) a + left_over (is_some w.b) b + left_over w.n n) (left_over w.info i),
  sum-zero (left_over (is_some w.a) a + left_over (is_some w.b) b) (left_over w.n n),
  sum-zero (left_over (is_some w.a) a) (left_over (is_some w.b) b),
  left-zero (is_some w.a) a,
  left-zero (is_some w.b) b,
  left-zero w.n n,
  left-zero w.info i,
)

used-is : (S : Settings) (f : ModelField) → is_some (limit S f) ≡ used f
used-is S unused = refl
used-is S visitor = refl
used-is S meeting = refl
used-is S room = refl
used-is S dining_room = refl
used-is S hotel_room = refl
used-is S transport = refl

unused-is : (S : Settings) (w : ModelRow) (a b n i : ℕ) → unused_zero (row_of S w) a b n i ≡ zero_unused w a b n i
unfolding unused_zero
unused-is S w a b n i = rw (used-is S w.a, used-is S w.b)

below-is : (o : Option ℕ) (w : ℕ) → below o w ≡ model_below o w
below-is None w = refl
below-is (Some l) w = refl

-- questions 4 to 7 with the model's limits
pub fields-is : (S : Settings) (w : ModelRow) (r : Request) → fields_no (row_of S w) r
    ≡ first_no 4 (zero_unused w r.a r.b r.n r.info)
    (first_no 5 (model_below (limit S w.a) r.a)
    (first_no 6 (model_below (limit S w.b) r.b)
    (first_no 7 (slots_fit (slots_of S w.unit) w.one r.first r.last) 0)))
unfolding fields_no
fields-is S w r = rw (unused-is S w r.a r.b r.n r.info, below-is (limit S w.a) r.a, below-is (limit S w.b) r.b)

no_zero : (n : ℕ) (t : Bool) (next : ℕ) → first_no (suc n) t next ≡ 0 → (t ≡ true) × (next ≡ 0)
no_zero n true next e = (refl, e)
no_zero n false next e = absurd (omega (arith, e))

below_by : (o : Option ℕ) (w : ℕ) → model_below o w ≡ true → Below o w
below_by None w e = tt
below_by (Some l) w e = ltb-true w l e

one-by : (t : Bool) (i j : ℕ) → not t || eqb i j ≡ true → t ≡ true → i ≡ j
one-by true i j e f = eqb-true i j e
one-by false i j e f = absurd (false≢true f)

pub ready_by : (S : Settings) (w : ModelRow) (r : Request) → fields_no (row_of S w) r ≡ 0 → Ready S w r
unfolding slots_fit
ready_by S w r e =
    let e5 = (no_zero 3 (zero_unused w r.a r.b r.n r.info) _ (sym (fields-is S w r) ∙ e)).1 in
    let e6 = no_zero 4 (model_below (limit S w.a) r.a) _ e5 in
    let e7 = no_zero 5 (model_below (limit S w.b) r.b) _ e6.1 in
    let e8 = (no_zero 6 (slots_fit (slots_of S w.unit) w.one r.first r.last) 0 e7.1).0 in
    let fit = and_left (leb r.first r.last && ltb r.last (slots_of S w.unit)) _ e8 in
    record {
      a = below_by (limit S w.a) r.a e6.0;
      b = below_by (limit S w.b) r.b e7.0;
      order = leb-true r.first r.last (and_left (leb r.first r.last) _ fit);
      slot = ltb-true r.last (slots_of S w.unit) (and_right (leb r.first r.last) _ fit);
      one = one-by w.one r.first r.last (and_right (leb r.first r.last && ltb r.last (slots_of S w.unit)) _ e8);
    }

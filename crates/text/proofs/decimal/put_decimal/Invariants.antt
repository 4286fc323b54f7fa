-- `decimal::put_decimal`: the places from the last one to that before which the iterator stands are written, and `left` is the number
-- without them.
-- Assumes nothing.
use Prim.Native.Nat.{◌+◌, ◌/◌, ◌^◌, ◌≤◌}
use mathlib.Core.Path.{◌≡◌}
use Rattle.model.specs.Text.{decimal_field}
use Rattle.text.specs.Put.{Put}
use Rattle.text.proofs.decimal.put_decimal.Given as goal

abbrev pub invariant-loop-p : goal.invariant-loop-p
invariant-loop-p l =
    let p = l.p-iterator.count in
    let front = l.p-iterator.iter.iter in
    record {
      starts : front.start ≡ l.at;
      within : l.at ≤ front.end;
      ends : front.end + p ≡ l.at + l.width;
      left : l.left ≡ l.n / 10 ^ p;
      written : Put l.initial.out l.out front.end (decimal_field p l.n);
    }

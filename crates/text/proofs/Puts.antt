-- Writing behind what was written.
-- Assumes nothing.
use Prim.Native.Nat.{ℕ, suc, ◌+◌, ◌-◌, ◌≤◌, ◌<◌}
use native.Mathlib.Nat.{add_assoc, add-zero}
use native.Mathlib.Numerals.{add-one}
use native.Mathlib.Omega.{arith}
use mathlib.Core.Path.{◌≡◌, refl, sym, ◌∙◌, ap}
use mathlib.Core.List.{List, [], ◌∷◌, ◌++◌, append_assoc, append-nil}
use lib.ListN.{length, take, drop, set, length-append, length-set}
use lib.Seq.{take-suc-set, take-set-lt, length-take-le, drop-drop, drop-set-lt, set-append_left}
use Rattle.text.specs.Put.{Put}

-- what is the same behind some bytes is the same behind more of them
pub drop-further : (a b : List ℕ) (m k : ℕ) → drop m a ≡ drop m b → drop (m + k) a ≡ drop (m + k) b
drop-further a b m k e = sym (drop-drop k m a) ∙ ap (drop k) e ∙ drop-drop k m b

pub drop-behind : (a b : List ℕ) {m n : ℕ} → m ≤ n → drop m a ≡ drop m b → drop n a ≡ drop n b
drop-behind a b {m} {n} h e =
    let s : m + (n - m) ≡ n = omega arith in
    rw s at (drop-further a b m (n - m) e)

-- two writes, one behind the other, are one write of both
pub join : {a b c : List ℕ} {at : ℕ} {xs ys : List ℕ} → Put a b at xs → Put b c (at + length xs) ys → Put a c at (xs ++ ys)
join {a} {b} {c} {at} {xs} {ys} p q =
    record {
      kept = q.kept ∙ p.kept;
      wrote =
          ap (λ (n : ℕ). take n c) (ap (λ (n : ℕ). at + n) (length-append xs ys) ∙ sym (add_assoc at (length xs) (length ys)))
          ∙ q.wrote
          ∙ ap (λ (l : List ℕ). l ++ ys) p.wrote
          ∙ append_assoc (take at a) xs ys;
      past =
          let e = ap (λ (n : ℕ). at + n) (length-append xs ys) ∙ sym (add_assoc at (length xs) (length ys)) in
          ap (λ (n : ℕ). drop n c) e ∙ q.past ∙ drop-further b a (at + length xs) (length ys) p.past ∙ ap (λ (n : ℕ). drop n a) (sym e);
    }

pub put-none : (out : List ℕ) (at : ℕ) → Put out out at []
put-none out at = record { kept = refl; wrote = ap (λ (n : ℕ). take n out) (add-zero at) ∙ sym (append-nil (take at out)); past = refl }

-- one more byte before those that were written
pub put-before : {out₀ out : List ℕ} {at : ℕ} {bytes : List ℕ} (b : ℕ) → at < length out₀ → Put out₀ out (at + 1) bytes
    → Put out₀ (set out at b) at (b ∷ bytes)
put-before {out₀} {out} {at} {bytes} b h p =
    let k = length bytes in
    let e : at + suc k ≡ at + 1 + k = omega arith in
    let t = length-take-le (at + 1) out₀ (omega arith) in
    let f : take (at + 1) (set out₀ at b) ≡ take at out₀ ++ (b ∷ []) = rw add-one (take-suc-set out₀ at b h) in
    record {
      kept = length-set out at b ∙ p.kept;
      wrote =
          ap (λ (n : ℕ). take n (set out at b)) e
          ∙ take-set-lt (at + 1 + k) out at b (omega arith)
          ∙ ap (λ (l : List ℕ). set l at b) p.wrote
          ∙ set-append_left (take (at + 1) out₀) bytes at b (omega arith)
          ∙ ap (λ (l : List ℕ). l ++ bytes) (sym (take-set-lt (at + 1) out₀ at b (omega arith)) ∙ f)
          ∙ append_assoc (take at out₀) (b ∷ []) bytes;
      past = drop-set-lt (at + suc k) out at b (omega arith) ∙ rw e p.past;
    }

-- the bytes by another name
pub put_as : {a b : List ℕ} {at : ℕ} {xs ys : List ℕ} → xs ≡ ys → Put a b at xs → Put a b at ys
put_as {a} {b} {at} e p = rw e at p

-- two writes, where the first has n bytes
pub join-at : {a b c : List ℕ} {at n : ℕ} {xs ys : List ℕ} → length xs ≡ n → Put a b at xs → Put b c (at + n) ys → Put a c at (xs ++ ys)
join-at {a} {b} {c} {at} {n} {xs} {ys} e p q = join p (rw e q)

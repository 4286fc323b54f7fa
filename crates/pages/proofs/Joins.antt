-- Lists one behind another, the bytes of lines, and lines written behind lines.
-- Assumes nothing.
use Prim.Native.Nat.{ℕ, zero, suc, ◌+◌, ◌*◌, ◌-◌, ◌≤◌, ◌<◌}
use native.Mathlib.Nat.{zero-add, add-zero, add-suc, suc-add}
use native.Mathlib.Omega.{arith}
use mathlib.Core.Path.{◌≡◌, refl, sym, ◌∙◌, ap, ap₂}
use mathlib.Core.List.{List, [], ◌∷◌, ◌++◌, append_assoc, append-nil}
use lib.ListN.{length, take, drop, length-append, take-append-drop}
use Rattle.model.specs.Bounded.{sum_from}
use Rattle.model.specs.Text.{decimal_field}
use Rattle.model.specs.Page.{PageLine, join_from, line_bytes, page_bytes}
use Rattle.model.proofs.Page.{join-same}
use Rattle.text.specs.Put.{Put}
use Rattle.text.proofs.Puts.{join-at, put-none, put_as}
use Rattle.text.proofs.Decimals.{field-length}
use Rattle.pages.specs.Pages.{Written, line_of}

-- lists of a run
module _ {A : Type 0} (f : ℕ → List A) where
  -- two runs, and one list more
  join-split : (i m n : ℕ) → join_from f i (m + n) ≡ join_from f i m ++ join_from f (i + m) n
  join-split i zero n = simp (zero-add, add-zero)
  join-split i (suc m) n = simp (suc-add, add-suc, append_assoc, join-split (suc i) m n)

  pub join-next : (lo i : ℕ) → lo ≤ i → join_from f lo (i + 1 - lo) ≡ join_from f lo (i - lo) ++ f i
  join-next lo i h =
      let e : i + 1 - lo ≡ i - lo + 1 = omega arith in
      let k : lo + (i - lo) ≡ i = omega arith in
      rw (e, join-split lo (i - lo) 1) (simp (k, append-nil))

  pub join-start : (lo : ℕ) → [] ≡ join_from f lo (lo - lo)
  join-start lo = let e : lo - lo ≡ 0 = omega arith in rw e

  -- lists that are all empty
  join-empty : (i n : ℕ) → ((j : ℕ) → i ≤ j → j < i + n → f j ≡ []) → join_from f i n ≡ []
  join-empty i zero h = refl
  join-empty i (suc n) h = rw (h i (omega arith) (omega arith)) (join-empty (suc i) n (λ j l k. h j (omega arith) (omega arith)))

  -- what is empty outside a run is the lists of the run
  pub join-part : (g : ℕ → List A) (lo hi n : ℕ) → lo ≤ hi → hi ≤ n → ((j : ℕ) → j < lo → f j ≡ []) → ((j : ℕ) → hi ≤ j → j < n → f j ≡ [])
      → ((j : ℕ) → lo ≤ j → j < hi → f j ≡ g j) → join_from f 0 n ≡ join_from g lo (hi - lo)
  join-part g lo hi n l h below above same =
      let m : n ≡ lo + ((hi - lo) + (n - hi)) = omega arith in
      rw (
        m,
        join-split 0 lo ((hi - lo) + (n - hi)),
        join-empty 0 lo (λ j _ k. below j (omega arith)),
        zero-add lo,
        join-split lo (hi - lo) (n - hi),
        join-same f g lo (hi - lo) (λ j k i. same j k (omega arith)),
        join-empty (lo + (hi - lo)) (n - hi) (λ j k i. above j (omega arith) (omega arith)),
        append-nil,
      )

  -- how many all of them have
  pub join-length : (i n : ℕ) → sum_from (λ j. length (f j)) i n ≡ length (join_from f i n)
  join-length i zero = refl
  join-length i (suc n) = omega (arith, length-append (f i) (join_from f (suc i) n), join-length (suc i) n)

  -- some of the lists are no longer than all of them
  join-le : (i n m : ℕ) → n ≤ m → length (join_from f i n) ≤ length (join_from f i m)
  join-le i n m h =
      let e : n + (m - n) ≡ m = omega arith in
      omega (arith, length-append (join_from f i n) (join_from f (i + n) (m - n)), rw e at (ap length (join-split i n (m - n))))

  join-room : (lo i hi : ℕ) → lo ≤ i → i < hi → length (join_from f lo (i - lo)) + length (f i) ≤ length (join_from f lo (hi - lo))
  join-room lo i hi h k =
      omega (
        arith,
        length-append (join_from f lo (i - lo)) (f i),
        ap length (join-next lo i h),
        join-le lo (i + 1 - lo) (hi - lo) (omega arith),
      )

-- the bytes of a line and of lines
pub line-length : (l : PageLine) → length (line_bytes l) ≡ 31
line-length l = simp (length-append, field-length)

pub bytes-length : (ls : List PageLine) → length (page_bytes ls) ≡ 31 * length ls
unfolding page_bytes
bytes-length [] = refl
bytes-length (l ∷ ls) = omega (arith, length-append (line_bytes l) (page_bytes ls), line-length l, bytes-length ls)

bytes-append : (ls ms : List PageLine) → page_bytes (ls ++ ms) ≡ page_bytes ls ++ page_bytes ms
unfolding page_bytes
bytes-append [] ms = refl
bytes-append (l ∷ ls) ms = simp (append_assoc, bytes-append ls ms)

pub bytes_one : (l : PageLine) → line_bytes l ≡ page_bytes (l ∷ [])
unfolding page_bytes
bytes_one l = sym (append-nil (line_bytes l))

bytes-none : [] ≡ page_bytes []
unfolding page_bytes
bytes-none = refl

-- what is written first stands before the rest of the page
pub put_front : {p q bs : List ℕ} {n : ℕ} → length bs ≡ n → Put p q 0 bs → q ≡ bs ++ drop n p
put_front {p} {q} {bs} {n} e w =
    let k : 0 + length bs ≡ n = omega (arith, e) in
    let front : take n q ≡ bs = rw k at w.wrote in
    let rest : drop n q ≡ drop n p = rw k at w.past in
    sym (take-append-drop n q) ∙ ap₂ (λ (x y : List ℕ). x ++ y) front rest

-- three writes
pub join-two : {p q r s : List ℕ} {at m n : ℕ} {xs ys zs : List ℕ} → length xs ≡ m → length ys ≡ n → Put p q at xs → Put q r (at + m) ys
    → Put r s (at + (m + n)) zs → Put p s at (xs ++ (ys ++ zs))
join-two {at = at} {m = m} {n = n} e f u v w =
    let k : at + (m + n) ≡ at + m + n = omega arith in
    join-at e u (join-at f v (rw k at w))

-- the five fields of a line and byte 10, of which the first three are written at once
pub line-by : (s c m n i : ℕ) {p q r u v : List ℕ} {at : ℕ} → Put p q at (decimal_field 5 s ++ (decimal_field 4 c ++ decimal_field 4 m))
    → Put q r (at + 13) (decimal_field 6 n) → Put r u (at + 19) (decimal_field 11 i) → Put u v (at + 30) (10 ∷ []) → Put p v at
    (line_bytes (line_of s c m n i))
line-by s c m n i {at = at} a b d e =
    let front = decimal_field 5 s ++ (decimal_field 4 c ++ decimal_field 4 m) in
    let rest = decimal_field 6 n ++ (decimal_field 11 i ++ (10 ∷ [])) in
    let long : length front ≡ 13 = simp (length-append, field-length) in
    let f : at + 19 ≡ at + 13 + 6 = omega arith in
    let g : at + 30 ≡ at + 13 + (6 + 11) = omega arith in
    put_as (simp append_assoc) (join-at long a (join-two (field-length 6 n) (field-length 11 i) b (rw f at d) (rw g at e)))

-- no line, one line, and lines behind lines
pub written_none : (p : List ℕ) (at : ℕ) {ls : List PageLine} → [] ≡ ls → Written p p at ls at
written_none p at {ls} e =
    record { put = put_as (bytes-none ∙ ap page_bytes e) (put-none p at); next = let n = ap length e in omega (arith, n) }

pub written_one : {p q : List ℕ} {at : ℕ} {l : PageLine} {ls : List PageLine} → l ∷ [] ≡ ls → Put p q at (line_bytes l) → Written p q at ls (at + 31)
written_one {p} {q} {at} {l} {ls} e w =
    record { put = put_as (bytes_one l ∙ ap page_bytes e) w; next = let n = ap length e in omega (arith, n) }

pub written-more : {p q r : List ℕ} {at n m : ℕ} {ls ms both : List PageLine} → both ≡ ls ++ ms → Written p q at ls n → Written q r n ms m
    → Written p r at both m
written-more {p} {q} {r} {at} {n} {m} {ls} {ms} {both} e v w =
    let k : n ≡ at + 31 * length ls = v.next in
    let u : Put q r (at + 31 * length ls) (page_bytes ms) = rw k at w.put in
    record {
      put = put_as (sym (bytes-append ls ms) ∙ ap page_bytes (sym e)) (join-at (bytes-length ls) v.put u);
      next = omega (arith, w.next, k, ap length e, length-append ls ms);
    }

-- a page with room for the lines of a run has room for the next of them
pub still-room : (f : ℕ → List PageLine) (lo i hi : ℕ) {p q : List ℕ} {at next : ℕ} → lo ≤ i → i < hi
    → at + 31 * length (join_from f lo (hi - lo)) ≤ length p → Written p q at (join_from f lo (i - lo)) next → next + 31 * length (f i) ≤ length q
still-room f lo i hi h k r w = omega (arith, r, w.next, w.put.kept, join-room f lo i hi h k)

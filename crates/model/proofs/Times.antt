-- The dates of times (rules 1.7 and 2.2): where a date begins, and how many times it has. That later times are on no earlier date is
-- `date-mono` (proofs/Local).
-- Assumes nothing.
use Prim.Native.Nat.{ℕ, zero, suc, ◌+◌, ◌*◌, ◌-◌, ◌/◌, ◌≤◌, ◌<◌}
use mathlib.Core.Path.{◌≡◌, refl, sym, ◌∙◌, ap}
use mathlib.Core.Bool.{Bool, true, false, ◌&&◌}
use native.Mathlib.Omega.{arith}
use native.Mathlib.Nat.{zero-div, mul-le-mul_right, le-div_iff_mul-le, div-lt_iff_lt-mul}
use lib.Dec.{leb, ltb, eqb}
use borrow.Author.Tests.{leb-true, ltb-true, ltb-false, eqb-true, le-leb, lt-leb, lt-ltb, le-ltb, eq-eqb}
use Rattle.model.specs.declared.Settings.{Settings}
use Rattle.model.specs.Bounded.{sum, sum_from, one, count}
use Rattle.model.specs.Site.{all_times, date_of_time}
use Rattle.model.proofs.Search.{bool_eq, and-true, and_left, and_right}
use Rattle.model.proofs.Sums.{sum-cut, sum-split, sum-empty}

-- the early times of date 0 are on date 0
pub on-first : (S : Settings) (t : ℕ) → t ≤ S.early → date_of_time S t ≡ 0
on-first S t h =
    let e : t - S.early ≡ 0 = omega arith in
    ap (λ (n : ℕ). n / S.times) e ∙ zero-div S.times

-- the first time of a date
abbrev pub beginning : Settings → ℕ → ℕ
beginning S zero = 0
beginning S (suc d) = suc d * S.times + S.early

-- the times of a date
abbrev pub times_on : Settings → ℕ → ℕ
times_on S d = count (λ t. eqb (date_of_time S t) d) (all_times S)

-- as many numbers as there are from lo to before hi
ones : (f : ℕ → ℕ) (i n : ℕ) → ((j : ℕ) → i ≤ j → j < i + n → f j ≡ 1) → sum_from f i n ≡ n
ones f i zero h = refl
ones f i (suc n) h = omega (arith, h i (omega arith) (omega arith), ones f (suc i) n (λ j l k. h j (omega arith) (omega arith)))

run_of : (p : ℕ → Bool) (lo hi n : ℕ) → lo ≤ hi → hi ≤ n → ((t : ℕ) → t < n → p t ≡ leb lo t && ltb t hi) → count p n ≡ hi - lo
run_of p lo hi n a b h =
    let f : ℕ → ℕ = λ t. one (p t) in
    let e : n ≡ lo + ((hi - lo) + (n - hi)) = omega arith in
    let low : sum f lo ≡ 0 = sum-empty f 0 lo (λ t _ l. is t (omega arith) false (rw (lt-leb lo t (omega arith)) refl)) in
    let mid : sum_from f lo (hi - lo) ≡ hi - lo
    = ones f lo (hi - lo) (λ t l k. is t (omega arith) true (rw (le-leb lo t l, lt-ltb t hi (omega arith)) refl)) in
    let high : sum_from f (lo + (hi - lo)) (n - hi) ≡ 0
    = sum-empty f (lo + (hi - lo)) (n - hi) (λ t l k. is t (omega arith) false (rw (le-leb lo t (omega arith), le-ltb t hi (omega arith)) refl)) in
    ap (sum f) e ∙ sum-cut f lo ((hi - lo) + (n - hi)) ∙ omega (arith, low, sum-split f lo (hi - lo) (n - hi), mid, high)
  where
    is : (t : ℕ) → t < n → (b : Bool) → leb lo t && ltb t hi ≡ b → one (p t) ≡ one b
    is t l b q = ap one (h t l ∙ q)

module _ (S : Settings) (Some : 1 ≤ S.times) where
  -- every time of the book is on one of its dates
  pub time-date-lt : (t : ℕ) → t < all_times S → date_of_time S t < S.dates
  time-date-lt t h = (div-lt_iff_lt-mul {k = S.times} Some).1 (omega (arith, h))

  -- a time is on date d or later from its first time on
  product : (d : ℕ) → suc d * S.times ≡ S.times + d * S.times
  product d = omega arith

  from_first : (d t : ℕ) → d ≤ date_of_time S t → beginning S d ≤ t
  from_first zero t h = omega arith
  from_first (suc d) t h = omega (arith, Some, product d, (le-div_iff_mul-le {k = S.times} Some).0 h)

  first_on : (d t : ℕ) → beginning S d ≤ t → d ≤ date_of_time S t
  first_on zero t h = omega arith
  first_on (suc d) t h = (le-div_iff_mul-le {k = S.times} Some).1 (omega (arith, h))

  -- the times of date d are those from its first one to before the first one of the next date
  pub date-is : (d t : ℕ) → eqb (date_of_time S t) d ≡ leb (beginning S d) t && ltb t (beginning S (suc d))
  date-is d t =
      bool_eq _ _
      (λ e. let q : date_of_time S t ≡ d = eqb-true _ _ e in
      and-true (le-leb _ _ (from_first d t (omega (arith, q)))) (lt-ltb _ _ (before (suc d) (omega (arith, q)))))
      (λ e. let l : beginning S d ≤ t = leb-true _ _ (and_left _ (ltb t (beginning S (suc d))) e) in
      let k : t < beginning S (suc d) = ltb-true _ _ (and_right (leb (beginning S d) t) _ e) in
      eq-eqb (date_of_time S t) d (omega (arith, first_on d t l, on-time (suc d) k)))
    where
      before : (c : ℕ) → date_of_time S t < c → t < beginning S c
      before c h = by (ltb t (beginning S c)) refl
        where
          by : (b : Bool) → ltb t (beginning S c) ≡ b → t < beginning S c
          by true q = ltb-true _ _ q
          by false q = absurd (omega (arith, h, first_on c t (ltb-false t (beginning S c) q)))

      on-time : (c : ℕ) → t < beginning S c → date_of_time S t < c
      on-time c h = by (ltb (date_of_time S t) c) refl
        where
          by : (b : Bool) → ltb (date_of_time S t) c ≡ b → date_of_time S t < c
          by true q = ltb-true _ _ q
          by false q = absurd (omega (arith, h, from_first c t (ltb-false (date_of_time S t) c q)))

  -- How many times a date has: date 0 its own and the early ones of the next, the last date its own without its early ones, a date between
  -- them as many as it has of its own, and so has a date that is alone.
  module _ (less : S.early < S.times) where
    pub times-first : 2 ≤ S.dates → times_on S 0 ≡ S.times + S.early
    times-first h =
        let two : 2 * S.times ≤ all_times S = mul-le-mul_right S.times h in
        run_of _ 0 (beginning S 1) (all_times S) (omega arith) (omega (arith, two, less)) (λ t _. date-is 0 t) ∙ omega arith

    pub times-between : (d : ℕ) → suc (suc d) < S.dates → times_on S (suc d) ≡ S.times
    times-between d h =
        let most : suc (suc (suc d)) * S.times ≤ all_times S = mul-le-mul_right S.times h in
        let e : suc (suc (suc d)) * S.times ≡ S.times + suc (suc d) * S.times = product (suc (suc d)) in
        run_of _ (beginning S (suc d)) (beginning S (suc (suc d))) (all_times S) (omega (arith, product (suc d)))
        (omega (arith, most, e, less)) (λ t _. date-is (suc d) t)
        ∙ omega (arith, product (suc d))

    pub times-last : (d : ℕ) → S.dates ≡ suc (suc d) → times_on S (suc d) ≡ S.times - S.early
    times-last d h =
        let n : all_times S ≡ suc (suc d) * S.times = ap (λ (k : ℕ). k * S.times) h in
        run_of _ (beginning S (suc d)) (all_times S) (all_times S) (omega (arith, n, product (suc d), less)) (omega arith)
        (λ t l. date-is (suc d) t ∙ ap (λ (b : Bool). leb (beginning S (suc d)) t && b)
        (lt-ltb t (beginning S (suc (suc d))) (omega (arith, l, n)) ∙ sym (lt-ltb t (all_times S) l)))
        ∙ omega (arith, n, product (suc d), less)

    pub times-alone : S.dates ≡ 1 → times_on S 0 ≡ S.times
    times-alone h =
        let n : all_times S ≡ 1 * S.times = ap (λ (k : ℕ). k * S.times) h in
        run_of _ 0 (all_times S) (all_times S) (omega arith) (omega arith)
        (λ t l. date-is 0 t ∙ ap (λ (b : Bool). leb 0 t && b) (lt-ltb t (beginning S 1) (omega (arith, l, n)) ∙ sym (lt-ltb t (all_times S) l)))
        ∙ omega (arith, n)

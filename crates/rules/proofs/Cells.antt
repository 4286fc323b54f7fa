-- Single cells: unused bits, pairs and triples.
-- Assumes nothing.
use Prim.Native.Nat.{ℕ, ◌+◌, ◌*◌, ◌/◌, ◌%◌, ◌^◌, ◌-◌, ◌≤◌, ◌<◌, min}
use mathlib.Core.Path.{◌≡◌, refl, sym, subst}
use mathlib.Core.Bool.{Bool, true, false, not, ◌&&◌, ◌||◌, true≢false, false≢true}
use mathlib.Core.List.{List}
use native.Mathlib.Nat.{div-eq_of_lt, div-lt_iff_lt-mul}
use native.Mathlib.Omega.{arith}
use lib.Dec.{leb, eqb}
use lib.ListN.{length, get_or}
use borrow.Author.Tests.{leb-true, leb-false, eqb-true, eqb-false, eq-eqb, ne_eqb}
use lib.Pow.{pow_pos}
use Rattle.rules.specs.Rows.{Decides, Pair, Triple, Padded}
use Rattle.model.specs.Words.{groups}
use Rattle.rules.proofs.Answers.{decide}

-- a pair that is within the limit
pub pair-said : (limit : ℕ) (t : List Bool) (w info : ℕ) → w ≤ limit
    → Decides (not (get_or t w false || (eqb w 0 && not (eqb info 0)))) (Pair limit t w info)
pair-said limit t w info h = decide _ (yes-pair (get_or t w false) refl (eqb w 0) refl (eqb info 0) refl) (λ p. no-pair p)
  where
    yes-pair : (s : Bool) → get_or t w false ≡ s → (z : Bool) → eqb w 0 ≡ z → (i : Bool) → eqb info 0 ≡ i → not (s || (z && not i)) ≡ true
        → Pair limit t w info
    yes-pair true e z f i g q = absurd (false≢true q)
    yes-pair false e true f true g q = record { range = h; stands = e; beside = λ _. eqb-true info 0 g }
    yes-pair false e true f false g q = absurd (false≢true q)
    yes-pair false e false f i g q = record { range = h; stands = e; beside = λ z. absurd (eqb-false w 0 f z) }

    no-pair : Pair limit t w info → not (get_or t w false || (eqb w 0 && not (eqb info 0))) ≡ true
    no-pair p = rw p.stands (go (eqb w 0) refl)
      where
        go : (z : Bool) → eqb w 0 ≡ z → not (z && not (eqb info 0)) ≡ true
        go true f = rw (eq-eqb info 0 (p.beside (eqb-true w 0 f)))
        go false f = refl

-- a triple that is within its limits, by the flag of the rest
module _ (dining : ℕ) (caps : List ℕ) (absent : Bool) (w seats info : ℕ) where
  abbrev pub wrong : Bool
  wrong = eqb w 0 && not (eqb info 0) || (not (eqb w 0) && (eqb seats 0 || absent))

  pub triple-by : w ≤ dining → seats ≤ get_or caps w 0 → wrong ≡ false → Triple dining caps absent w seats info
  triple-by h l e = go (eqb w 0) refl (eqb info 0) refl (eqb seats 0) refl absent refl e
    where
      go : (z : Bool) → eqb w 0 ≡ z → (i : Bool) → eqb info 0 ≡ i → (n : Bool) → eqb seats 0 ≡ n → (a : Bool) → absent ≡ a
          → z && not i || (not z && (n || a)) ≡ false → Triple dining caps absent w seats info
      go true p true q n r a s f =
          record {
            range =
                h;
            fit = l;
            some = λ k. absurd (k (eqb-true w 0 p));
            stands = λ k. absurd (k (eqb-true w 0 p));
            beside = λ k. eqb-true info 0 q;
          }
      go true p false q n r a s f = absurd (true≢false f)
      go false p i q true r a s f = absurd (true≢false f)
      go false p i q false r true s f = absurd (true≢false f)
      go false p i q false r false s f =
          record {
            range =
                h;
            fit =
                l;
            some =
                λ k. let nz : seats ≡ 0 → ⊥ = eqb-false seats 0 r in omega (arith, nz);
            stands = λ k. s;
            beside = λ k. absurd (eqb-false w 0 p k);
          }

  pub triple-is : Triple dining caps absent w seats info → wrong ≡ false
  triple-is t = go (eqb w 0) refl
    where
      go : (z : Bool) → eqb w 0 ≡ z → z && not (eqb info 0) || (not z && (eqb seats 0 || absent)) ≡ false
      go true p = rw (eq-eqb info 0 (t.beside (eqb-true w 0 p)))
      go false p =
          let n : eqb seats 0 ≡ false = ne_eqb seats 0 (λ q. omega (arith, q, t.some (eqb-false w 0 p))) in
          rw (n, t.stands (eqb-false w 0 p))

pub shift-lt : (w k : ℕ) → w / 2 ^ k ≡ 0 → w < 2 ^ k
shift-lt w k e = omega (arith, (div-lt_iff_lt-mul {k = 2 ^ k} {x = w} {y = 1} (pow_pos k)).0 (omega arith))

-- unused bits: only the last word can have any
module _ (row : List ℕ) (n : ℕ) (known : (j : ℕ) → get_or row j 0 < 2 ^ 32) (long : length row ≡ groups n) where
  full : (j : ℕ) → j * 32 + 32 ≤ n → get_or row j 0 < 2 ^ min 32 (n - j * 32)
  full j h = let e : min 32 (n - j * 32) ≡ 32 = omega arith in rw e (known j)

  pub pad-none : n % 32 ≡ 0 → Padded row n
  pad-none z j h = full j (omega arith)

  pub pad-by : (n % 32 ≡ 0 → ⊥) → get_or row (length row - 1) 0 / 2 ^ (n % 32) ≡ 0 → Padded row n
  pad-by z e j h = go (leb (j * 32 + 32) n) refl
    where
      go : (b : Bool) → leb (j * 32 + 32) n ≡ b → get_or row j 0 < 2 ^ min 32 (n - j * 32)
      go true q = full j (leb-true _ n q)
      go false q =
          let l : n < j * 32 + 32 = leb-false (j * 32 + 32) n q in
          let last : j ≡ length row - 1 = omega (arith, long) in
          let m : min 32 (n - j * 32) ≡ n % 32 = omega (arith, long) in
          rw m (subst (λ (k : ℕ). get_or row k 0 < 2 ^ (n % 32)) (sym last) (shift-lt (get_or row (length row - 1) 0) (n % 32) e))

  pub pad-is : 1 ≤ n → (n % 32 ≡ 0 → ⊥) → Padded row n → get_or row (length row - 1) 0 / 2 ^ (n % 32) ≡ 0
  pad-is h z p =
      let m : min 32 (n - (length row - 1) * 32) ≡ n % 32 = omega (arith, long) in
      div-eq_of_lt (rw m at (p (length row - 1) (omega (arith, long))))

-- What a cell and a word of bits hold after an entry is added to a set, or entries are taken out. A cell's word is what is read at
-- the lowest number of a test: `found (lowest p 0 n) f`.
-- Assumes nothing.
use Prim.Native.Nat.{ℕ, suc, ◌+◌, ◌*◌, ◌/◌, ◌%◌, ◌<◌}
use mathlib.Core.Path.{◌≡◌, refl, sym, ◌∙◌, ap}
use mathlib.Core.Bool.{Bool, true, false, not, ◌&&◌, ◌||◌, cond, true≢false, false≢true, or-false, or-true, and-false, and-true as and_one}
use Rattle.std.specs.Prelude.{Option, None, Some}
use native.Mathlib.Omega.{arith}
use lib.Dec.{eqb}
use Rattle.std.proofs.lemmas.Bool.{false_from_ne_true}
use borrow.Author.Tests.{eqb-true, eqb-false, eq-eqb, ne_eqb}
use Rattle.model.specs.Bounded.{lowest, found, is_some, pack_from}
use Rattle.model.specs.Words.{cell}
use Rattle.model.specs.Machine.{plus, minus}
use Rattle.model.proofs.Search.{Lowest, lowest-is, lowest_by, lowest-same}
use Rattle.pool.proofs.Masks.{pack-same, put-pack, clear-pack}
use Rattle.apply.specs.Stores.{flipped}

-- p and f before, q and h after
module _ (p q : ℕ → Bool) (n : ℕ) (f h : ℕ → ℕ) where
  kept : ((u : ℕ) → q u ≡ p u) → ((u : ℕ) → q u ≡ true → h u ≡ f u) → found (lowest q 0 n) h ≡ found (lowest p 0 n) f
  kept e r = go (lowest q 0 n) refl (lowest-is q 0 n)
    where
      go : (o : Option ℕ) → lowest q 0 n ≡ o → Lowest q 0 n o → found (lowest q 0 n) h ≡ found (lowest p 0 n) f
      go None k l = rw (← lowest-same q p 0 n (λ u _ _. e u), k)
      go (Some u) k l = rw (← lowest-same q p 0 n (λ u _ _. e u), k) (r u l.holds)

  gone : ((u : ℕ) → q u ≡ false) → found (lowest q 0 n) h ≡ 0
  gone e = ap (λ (o : Option ℕ). found o h) (lowest_by q 0 n None (λ u _ _. e u))

  single : (v : ℕ) → v < n → q v ≡ true → ((u : ℕ) → q u ≡ true → u ≡ v) → found (lowest q 0 n) h ≡ h v
  single v l e only =
      ap (λ (o : Option ℕ). found o h)
      (lowest_by q 0 n (Some v)
      (record {
        low = omega arith;
        high = omega arith;
        holds = e;
        first = λ u _ k. false_from_ne_true (q u) (λ t. absurd (omega (arith, only u t, k)));
      }))

  -- one entry is added to an empty cell, where t holds
  pub added : (t : Bool) (v w : ℕ) → ((u : ℕ) → q u ≡ p u || (t && eqb u v)) → (t ≡ false → (u : ℕ) → h u ≡ f u)
      → (t ≡ true → (v < n) × (h v ≡ w)) → (t ≡ true → (u : ℕ) → p u ≡ true → ⊥)
      → found (lowest q 0 n) h ≡ cond t w (found (lowest p 0 n) f)
  added true v w is off fit free =
      single v (fit refl).0 (is v ∙ rw (eq-eqb v v refl) (or-true (p v)))
      (λ u e. eqb-true u v (sym (is u ∙ rw (false_from_ne_true (p u) (free refl u))) ∙ e))
      ∙ (fit refl).1
  added false v w is off fit free = kept (λ u. is u ∙ or-false (p u)) (λ u _. off refl u)

  -- a cell is emptied, where t holds
  pub emptied : (t : Bool) → (t ≡ true → (u : ℕ) → q u ≡ false) → (t ≡ false → (u : ℕ) → q u ≡ p u) → (t ≡ false → (u : ℕ) → h u ≡ f u)
      → found (lowest q 0 n) h ≡ cond t 0 (found (lowest p 0 n) f)
  emptied true out same off = gone (out refl)
  emptied false out same off = kept (same refl) (λ u _. off refl u)

  -- a cell of at most one entry loses the entry v, where t holds: it is emptied if it holds v, else it stays
  pub swept_of : (t : Bool) (v : ℕ) → ((u : ℕ) → q u ≡ p u && not (t && eqb u v)) → ((u : ℕ) → q u ≡ true → h u ≡ f u)
      → ((u w : ℕ) → p u ≡ true → p w ≡ true → u ≡ w)
      → found (lowest q 0 n) h ≡ cond t (cond (eqb (cell p n) (v + 1)) 0 (found (lowest p 0 n) f)) (found (lowest p 0 n) f)
  swept_of false v is r one = kept (λ u. is u ∙ and_one (p u)) r
  swept_of true v is r one = go (lowest p 0 n) (lowest-is p 0 n)
    where
      off : (u : ℕ) → p u ≡ false → q u ≡ false
      off u e = is u ∙ rw e

      go : (o : Option ℕ) → Lowest p 0 n o → found (lowest q 0 n) h ≡ cond (eqb (found o suc) (v + 1)) 0 (found o f)
      go None l =
          ap (λ (o : Option ℕ). found o h) (lowest_by q 0 n None (λ u a b. off u (l u a b)))
          ∙ sym (ap (λ (t : Bool). cond t 0 0) (ne_eqb 0 (v + 1) (λ e. omega (arith, e))))
      go (Some w) l = at (eqb w v) refl
        where
          at : (t : Bool) → eqb w v ≡ t → found (lowest q 0 n) h ≡ cond (eqb (suc w) (v + 1)) 0 (f w)
          at true e =
              let k : w ≡ v = eqb-true w v e in
              rw (eq-eqb (suc w) (v + 1) (omega (arith, k))) (gone (λ u. false_from_ne_true (q u) (λ z. out u (p u) refl z)))
            where
              out : (u : ℕ) (t : Bool) → p u ≡ t → q u ≡ true → ⊥
              out u false k z = true≢false (sym z ∙ off u k)
              out u true k z =
                  let j : u ≡ v = one u w k l.holds ∙ eqb-true w v e in
                  true≢false (sym z ∙ is u ∙ rw (k, eq-eqb u v j))
          at false e =
              let ne : suc w ≡ v + 1 → ⊥ = λ z. eqb-false w v e (omega (arith, z)) in
              let qw : q w ≡ true = is w ∙ rw (l.holds, e) in
              rw (ne_eqb (suc w) (v + 1) ne)
              (ap (λ (o : Option ℕ). found o h)
              (lowest_by q 0 n (Some w) (record { low = l.low; high = l.high; holds = qw; first = λ u a b. off u (l.first u a b) }))
              ∙ r w qw)

-- an entry with something beside it: set, and taken out
pub some_or : {A : Type 0} (t : Bool) (w : A) (o : Option A) → is_some (cond t (Some w) o) ≡ is_some o || t
some_or true w o = sym (or-true (is_some o))
some_or false w o = sym (or-false (is_some o))

pub some-less : {A : Type 0} (t : Bool) (o : Option A) → is_some (cond t None o) ≡ is_some o && not t
some-less true o = sym (and-false (is_some o))
some-less false o = sym (and_one (is_some o))

pub less-same : {A : Type 0} (t : Bool) (o : Option A) → is_some (cond t None o) ≡ true → cond t None o ≡ o
less-same true o e = absurd (false≢true e)
less-same false o e = refl

-- a member set or taken out where t holds
abbrev pub turned : Bool → Bool → Bool → Bool
turned true old t = plus old t
turned false old t = minus old t

turned-off : (on old : Bool) → turned on old false ≡ old
turned-off true old = or-false old
turned-off false old = and_one old

flip-pack : (on : Bool) (p : ℕ → Bool) (i k : ℕ) → flipped on (pack_from p i 32) k ≡ pack_from (λ v. turned on (p v) (eqb v (i + k))) i 32
flip-pack true p i k = put-pack p i k
flip-pack false p i k = clear-pack p i k

-- the word j of a row of bits after member v was set or taken out, where t holds
pub turned-bits : (on : Bool) (p : ℕ → Bool) (t : Bool) (v j : ℕ)
    → pack_from (λ u. turned on (p u) (t && eqb u v)) (j * 32) 32
    ≡ cond (t && eqb j (v / 32)) (flipped on (pack_from p (j * 32) 32) (v % 32)) (pack_from p (j * 32) 32)
turned-bits on p false v j = pack-same (λ u. turned on (p u) false) p (j * 32) (j * 32) 32 (λ k _. turned-off on (p (j * 32 + k)))
turned-bits on p true v j = go (eqb j (v / 32)) refl
  where
    go : (t : Bool) → eqb j (v / 32) ≡ t → pack_from (λ u. turned on (p u) (eqb u v)) (j * 32) 32
        ≡ cond t (flipped on (pack_from p (j * 32) 32) (v % 32)) (pack_from p (j * 32) 32)
    go true e =
        let k : j ≡ v / 32 = eqb-true _ _ e in
        let z : j * 32 + v % 32 ≡ v = omega arith in
        sym (flip-pack on p (j * 32) (v % 32) ∙ ap (λ (m : ℕ). pack_from (λ u. turned on (p u) (eqb u m)) (j * 32) 32) z)
    go false e =
        pack-same (λ u. turned on (p u) (eqb u v)) p (j * 32) (j * 32) 32
        (λ k l. ap (turned on (p (j * 32 + k))) (ne_eqb (j * 32 + k) v (λ z. eqb-false _ _ e (far k l z))) ∙ turned-off on (p (j * 32 + k)))
      where
        far : (k : ℕ) → k < 32 → j * 32 + k ≡ v → j ≡ v / 32
        far k l z = omega arith

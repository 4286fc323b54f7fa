-- What calls of `read` and `write` do one after the other, where the bytes are known.
-- Assumes nothing.
use Rattle.std.proofs.Common.{ℕ, ◌≡◌, ◌+◌, ◌-◌, List, [], ◌++◌, length, take, drop, Option, None, Some, IfSome, sym, ap, ◌∙◌, subst, append-nil, take-add}
use Rattle.std.specs.Io.KnownBytes.{Keeps, Appends, Consumes}
use Rattle.std.proofs.KnownBytes.{Appends-trans, Appends-kept}
use Rattle.std.proofs.lemmas.List.{take_rest}
use Rattle.std.proofs.Math.Seq.{take-append-add, take-nil}

-- behind the m bytes that were sent, a call took n of the rest
pub Appends-further : (a b c : Option (List ℕ)) (m n s : ℕ) (l : List ℕ) → s ≡ m + n → Appends a b (take m l)
    → Appends b c (take n (take (length l - m) (drop m l))) → Appends a c (take s l)
Appends-further a b c m n s l e p q =
    let r : Appends b c (take n (drop m l)) = subst (λ (k : List ℕ). Appends b c (take n k)) (take_rest l m) q in
    let j : take m l ++ take n (drop m l) ≡ take s l = sym (ap (λ (k : ℕ). take k l) e ∙ take-add m n l) in
    subst (Appends a c) j (Appends-trans a b c (take m l) (take n (drop m l)) p r)

-- or took none
pub Appends-kept_at : (a b c : Option (List ℕ)) (m s : ℕ) (l : List ℕ) → s ≡ m → Appends a b (take m l) → Keeps b c → Appends a c (take s l)
Appends-kept_at a b c m s l e p q = subst (λ (k : ℕ). Appends a c (take k l)) (sym e) (Appends-kept a b c (take m l) p q)

-- a part of bytes behind others
pub Appends-part : (a b c : Option (List ℕ)) (o l : List ℕ) → Appends a b o → (n : ℕ) × Appends b c (take n l) → (n : ℕ) × Appends a c (take n (o ++ l))
Appends-part a b c o l p (n, q) =
    (length o + n, subst (Appends a c) (sym (take-append-add o l n)) (Appends-trans a b c o (take n l) p q))

-- a part of no bytes is all of them
pub Appends-none : (a b : Option (List ℕ)) (l : List ℕ) → l ≡ [] → (n : ℕ) × Appends a b (take n l) → Appends a b l
Appends-none a b l e (n, q) = subst (Appends a b) (ap (take n) e ∙ take-nil n ∙ sym e) q

-- nothing more was handed on
pub Appends-still : (a b c : Option (List ℕ)) (o l : List ℕ) → l ≡ [] → (n : ℕ) × Appends a b (take n o) → (n : ℕ) × Appends b c (take n l)
    → (n : ℕ) × Appends a c (take n (o ++ l))
Appends-still a b c o l e (n, p) q = (n, subst (Appends a c) same (Appends-trans a b c (take n o) l p (Appends-none b c l e q)))
  where
    same : take n o ++ l ≡ take n (o ++ l)
    same =
        ap (λ (k : List ℕ). take n o ++ k) e
        ∙ append-nil (take n o)
        ∙ ap (take n) (sym (ap (λ (k : List ℕ). o ++ k) e ∙ append-nil o))

-- what holds whatever is left holds of all that was there
pub Consumes-rest : (a b : Option (List ℕ)) (bs : List ℕ) (P : List ℕ → Type 0) → Consumes a b bs → ((rest : List ℕ) → P (bs ++ rest)) → IfSome a P
Consumes-rest None b bs P p h = tt
Consumes-rest (Some x) None bs P p h = absurd p
Consumes-rest (Some x) (Some y) bs P p h = subst P (sym p) (h y)

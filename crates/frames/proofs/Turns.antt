-- The program's turns, one after the other.
-- Assumes nothing.
use Rattle.std.proofs.Common.{ℕ, ◌≡◌, ◌<◌, Bool, true, false, List, [], ◌++◌, length, take, Option, IfSome, Result, Ok, Err, OnOk, ◌⊎◌, inl, inr, refl, sym, ap, ◌∙◌, subst, append-nil}
use Rattle.std.specs.Prelude.{⊤}
use Rattle.std.specs.Io.KnownBytes.{Appends, Consumes, IsAtEnd}
use Rattle.std.specs.declared.io.Error.{Error}
use Rattle.std.proofs.KnownBytes.{Consumes-trans, Consumes-nil, Appends-trans, Appends-nil, Consumes-whole}
use Rattle.model.specs.Lines.{frames}
use Rattle.model.proofs.Search.{both}
use Rattle.lines.specs.Stream.{Turn as Written}
use Rattle.lines.specs.Post.{Begun}
use Rattle.lines.specs.declared.stream.Phase.TheVariants.{Over}
use Rattle.lines.proofs.Program.{Ran, ran-none, ran-more, ran_ends, ran_over}
use Rattle.frames.specs.declared.Turn.{Turn}
use Rattle.frames.specs.declared.Sign.TheVariants.{More, Ended}
use Rattle.frames.specs.Run.{heard, count_of, is_end, is_put, Turned, Carried, Finished, Driven}
use Rattle.frames.proofs.Signs.{put_more, put_end, end_unput, ended_by}
use Rattle.frames.proofs.Moves.{Appends-part, Appends-still, Consumes-rest}

-- Since the program began: what was read and handed to `write`; what the reader had left and the writer held then, r and w, and what they
-- have and hold now, r' and w'; and why no more is read, where that is so and a turn has room for k bytes.
pub record Since (r r' w w' : Option (List ℕ)) (k : ℕ) (t : Turn) (b : List ℕ) : Type 0 where
  pub input : List ℕ
  pub output : List ℕ
  pub ran : Ran input output t.stream b
  pub taken : Consumes r r' input
  pub given : is_put t.sign ≡ true → Appends w w' output
  pub part : (n : ℕ) × Appends w w' (take n output)
  pub last : 0 < k → is_end t.sign ≡ true → IsAtEnd r' ⊎ (t.stream.phase ≡ Over)

pub since_none : (r w : Option (List ℕ)) {k : ℕ} {t : Turn} (b : List ℕ) → Begun t.stream → t.sign ≡ More → Since r r w w k t b
since_none r w b g m =
    record {
      input = [];
      output = [];
      ran = ran-none b g;
      taken = Consumes-nil r;
      given = λ h. Appends-nil w;
      part = (0, Appends-nil w);
      last = λ z h. both h (ap is_end m);
    }

pub since-more : {r r₁ r₂ w w₁ w₂ : Option (List ℕ)} {k : ℕ} {b b' chunk out₀ out : List ℕ} {t t' : Turn} → Since r r₁ w w₁ k t b → t.sign ≡ More
    → Turned t.stream b out₀ chunk t' b' out → Carried r₁ r₂ w₁ w₂ t' chunk out → k ≡ length chunk → Since r r₂ w w₂ k t' b'
since-more {r} {r₁} {r₂} {w} {w₁} {w₂} {k} {chunk = chunk} {out = out} {t' = t'} v m d c e =
    record {
      input = v.input ++ take (count_of t'.got) chunk;
      output = v.output ++ take t'.wrote out;
      ran = ran-more (take (count_of t'.got) chunk) v.ran d.moved;
      taken = Consumes-trans r r₁ r₂ _ _ v.taken c.taken;
      given = λ h. Appends-trans w w₁ w₂ _ _ (v.given (put_more m)) (c.whole h);
      part = Appends-part w w₁ w₂ _ _ (v.given (put_more m)) c.part;
      last = λ z h. by_end z (ended_by (heard t'.got) t'.stream.phase t'.put (ap is_end (sym d.sign) ∙ h));
    }
  where
    by_end : 0 < k → (heard t'.got ≡ Ended) ⊎ (t'.stream.phase ≡ Over) → IsAtEnd r₂ ⊎ (t'.stream.phase ≡ Over)
    by_end z (inl h) = inl (c.last (subst (λ (n : ℕ). 0 < n) e z) h)
    by_end z (inr h) = inr h

module _ (w₂ : Option (List ℕ)) {r r₁ w w₁ : Option (List ℕ)} {k wrote : ℕ} {t : Turn} {b b' out : List ℕ} (q : Result ⊤ Error)
    (v : Since r r₁ w w₁ k t b) (f : Finished t.sign t.stream b wrote b' out)
    (whole : OnOk q (Appends w₁ w₂ (take wrote out))) (part : (n : ℕ) × Appends w₁ w₂ (take n (take wrote out))) where
  all_out : is_end t.sign ≡ true → v.output ++ take wrote out ≡ frames v.input
  all_out h = ran_ends v.ran (f.last h)

  given : (q : Result ⊤ Error) → OnOk q (Appends w₁ w₂ (take wrote out)) → is_put t.sign ≡ true → OnOk q (Appends w w₂ (v.output ++ take wrote out))
  given (Ok u) a h = Appends-trans w w₁ w₂ _ _ (v.given h) a
  given (Err x) a h = tt

  parts : (p : Bool) → is_put t.sign ≡ p → (n : ℕ) × Appends w w₂ (take n (v.output ++ take wrote out))
  parts true h = Appends-part w w₁ w₂ _ _ (v.given h) part
  parts false h =
      let z : take wrote out ≡ [] = ap (λ (n : ℕ). take n out) (f.none (end_unput t.sign h)).0 in
      Appends-still w w₁ w₂ _ _ z v.part part

  -- the end, by the number of bytes that `finish` wrote
  ended : Driven r r₁ w w₂ (record { sign = t.sign; wrote = wrote; put = q }) out
  ended =
      record {
        input = v.input;
        output = v.output;
        whole = all_out;
        lines = λ h. ((f.none h).0, sym (ap (λ (t : Written). t.out) v.ran.same));
        taken = v.taken;
        given = given q whole;
        part = parts (is_put t.sign) refl;
      }

  -- and by the number of those that were handed to `write`
  pub driven : {handed : ℕ} → handed ≡ wrote → Driven r r₁ w w₂ (record { sign = t.sign; wrote = handed; put = q }) out
  driven e = subst (λ (n : ℕ). Driven r r₁ w w₂ (record { sign = t.sign; wrote = n; put = q }) out) (sym e) ended

  -- what is left of the input is not answered behind a refused settings line
  over : t.stream.phase ≡ Over → (rest : List ℕ) → frames v.input ≡ frames (v.input ++ rest)
  over h rest = ap frames (sym (append-nil v.input)) ∙ sym (ran_over v.ran h []) ∙ ran_over v.ran h rest

  gained : (q : Result ⊤ Error) → OnOk q (Appends w₁ w₂ (take wrote out)) → is_end t.sign ≡ true → OnOk q (Appends w w₂ (frames v.input))
  gained (Ok u) a h = subst (Appends w w₂) (all_out h) (given (Ok u) a (put_end t.sign h))
  gained (Err x) a h = tt

  by_last : (q : Result ⊤ Error) → OnOk q (Appends w w₂ (frames v.input)) → IsAtEnd r₁ ⊎ (t.stream.phase ≡ Over) → OnOk q (IfSome r (λ bytes. Appends w w₂ (frames bytes)))
  by_last (Ok u) a (inl h) = Consumes-whole r r₁ v.input (λ bytes. Appends w w₂ (frames bytes)) v.taken h a
  by_last (Ok u) a (inr h) =
      Consumes-rest r r₁ v.input (λ bytes. Appends w w₂ (frames bytes)) v.taken (λ rest. subst (Appends w w₂) (over h rest) a)
  by_last (Err x) a h = tt

  -- where nothing failed, the writer has gained the answers of all that the reader had left
  pub answered : 0 < k → is_end t.sign ≡ true → OnOk q (IfSome r (λ bytes. Appends w w₂ (frames bytes)))
  answered z h = by_last q (gained q whole h) (v.last z h)

-- The functions of the stream, as turns.
-- Assumes nothing.
use Prim.Native.Nat.{ℕ, ◌+◌, ◌-◌, ◌*◌, ◌≤◌, ◌<◌}
use native.Mathlib.Omega.{arith}
use mathlib.Core.Path.{◌≡◌, refl, sym, ◌∙◌, ap}
use mathlib.Core.Bool.{Bool, true, false}
use mathlib.Core.List.{List, [], ◌∷◌, ◌++◌, append-nil}
use lib.Dec.{eqb}
use lib.ListN.{length, take, drop, length-append, length-drop}
use borrow.Author.Tests.{eqb-true, eqb-false}
use lib.Seq.{take_at, drop_at, take_all, length-take-le}
use Rattle.std.proofs.lemmas.List.{take_rest}
use Rattle.model.specs.declared.Settings.{Settings}
use Rattle.model.specs.Bounded.{found}
use Rattle.model.specs.Reading.{settings_of}
use Rattle.model.specs.Ledger.{Ledger, ledger_of}
use Rattle.model.specs.Lines.{answer_bytes, line_outcome}
use Rattle.model.proofs.Search.{both}
use Rattle.std.specs.Prelude.{Option, Some, None}
use Rattle.std.proofs.lemmas.Option.{none-some}
use Rattle.book.specs.Good.{GoodBook}
use Rattle.lines.specs.Stream.{held_most, kept, Turn, opening, later, over, silent, behind, opened, told, ended, longer, byte, run, closed}
use Rattle.framing.specs.Front.{Free, Leads}
use Rattle.lines.specs.Post.{held_of, Holds, point_at, point_of, Going, Moved, Begun, size_of, point_behind, end_point, EndedOf, is_later, Told}
use Rattle.lines.specs.declared.stream.Held.{Held}
use Rattle.lines.specs.declared.stream.Phase.{Phase}
use Rattle.lines.specs.declared.stream.Phase.TheVariants.{Opening, Later, Over}
use Rattle.lines.specs.declared.stream.Stream.{Stream}
use Rattle.lines.specs.declared.stream.Ended.{Ended}
use Rattle.lines.proofs.Whole.{byte-end, byte-in}
use Rattle.lines.proofs.Turns.{grown, Kept, later-kept, run-free, run-leads, run_alone, run_out, rest-none, ends-le, ends-one}
use Rattle.lines.proofs.Keeping.{holds-own}
use Rattle.text.proofs.Puts.{drop-behind}

-- a good book by its own settings
own : {S : Settings} {b : List ℕ} → GoodBook S b → GoodBook (settings_of b) b
own g = record { read = refl; laid = g.laid; lawful = g.lawful }

-- the front of a book was replaced by as many words
front : (size : ℕ) (b last : List ℕ) → size ≤ length b → length last ≡ length (take size b)
    → (take size (last ++ drop size b) ≡ last) × (size ≤ length (last ++ drop size b)) × (drop size (last ++ drop size b) ≡ drop size b)
front size b last h e =
    let n = length-take-le size b h in
    (take_at last (drop size b) size (e ∙ n), omega (arith, length-append last (drop size b)), drop_at last (drop size b) size (e ∙ n))

-- a later line that is held is over: it is answered as a chunk of one line
pub responded : {last out out' : List ℕ} {used wrote : ℕ} (b l : List ℕ) (size : ℕ) → size ≤ length b → Free l
    → Told (settings_of (take size b)) (take size b) (l ++ (10 ∷ [])) out 0 last out' used wrote → length last ≡ length (take size b)
    → EndedOf (told (line_outcome (ledger_of (take size b)) l)) (record { size = Some size; wrote = wrote }) b (last ++ drop size b) out out'
responded {last} {out} {out'} {used} {wrote} b l size h f v k =
    let n = front size b last h k in
    let c = l ++ (10 ∷ []) in
    let y = ledger_of last in
    record {
      short = omega (arith, v.short, ends-one l f);
      book-past = n.2;
      out-past = v.past;
      sized = record { fits = n.1; good = λ m z. let e : size ≡ m = cc in rw (← e, n.0) (own v.good) };
      same =
          ap (λ (d : List ℕ). record { out = take wrote out'; point = later (ledger_of d) [] }) n.0
          ∙ ap (λ (o : List ℕ). record { out = o; point = later y [] }) (sym (append-nil (take wrote out')))
          ∙ ap (behind (take wrote out')) (sym (run_out y (drop used c) (rest-none l used v.free)))
          ∙ v.same
          ∙ run_alone (ledger_of (take size b)) l f;
    }

-- any line is over
ended-opening : (l : List ℕ) → ended (opening l) ≡ opened l
unfolding ended
ended-opening l = refl

ended-later : (x : Ledger) (l : List ℕ) → ended (later x l) ≡ told (line_outcome x l)
unfolding ended
ended-later x l = refl

ended-over : ended over ≡ silent over
unfolding ended
ended-over = refl

pub ended-as : {t u : Turn} {e : Ended} {b₀ b out₀ out : List ℕ} → t ≡ u → EndedOf t e b₀ b out₀ out → EndedOf u e b₀ b out₀ out
ended-as q v = record { short = v.short; sized = v.sized; same = v.same ∙ q; book-past = v.book-past; out-past = v.out-past }

module _ {p : Phase} (x : Ledger) (l : List ℕ) where
  pub turn-opening : p ≡ Opening → opened l ≡ ended (point_at p x l)
  turn-opening h = sym (ap (λ (q : Phase). ended (point_at q x l)) h ∙ ended-opening l)

  pub turn-later : p ≡ Later → told (line_outcome x l) ≡ ended (point_at p x l)
  turn-later h = sym (ap (λ (q : Phase). ended (point_at q x l)) h ∙ ended-later x l)

  pub turn-over : {b out : List ℕ} → p ≡ Over → EndedOf (ended (point_at p x l)) (record { size = None; wrote = 0 }) b b out out
  turn-over h =
      record {
        short = omega arith;
        book-past = refl;
        out-past = refl;
        sized = record { fits = omega arith; good = λ m z. absurd (none-some m z) };
        same = sym (ap (λ (q : Phase). ended (point_at q x l)) h ∙ ended-over);
      }

-- nothing more is read
longer-over : (b : ℕ) → longer over b ≡ over
unfolding longer
longer-over b = refl

over_by : (b : ℕ) (c : List ℕ) (t : Bool) → eqb b 10 ≡ t → run over c ≡ silent over
    → behind (byte over b).out (run (byte over b).point c) ≡ silent over
over_by b c true h r = ap (λ (t : Turn). behind t.out (run t.point c)) (byte-end over (eqb-true b 10 h) ∙ ended-over) ∙ r
over_by b c false h r = ap (λ (t : Turn). behind t.out (run t.point c)) (byte-in over (eqb-false b 10 h) ∙ ap silent (longer-over b)) ∙ r

run-over : (c : List ℕ) → run over c ≡ silent over
unfolding run
run-over [] = refl
run-over (b ∷ c) = over_by b c _ refl (run-over c)

-- the book's length behind the end of a line
pub size-is : (e : Ended) {o : Option ℕ} → e.size ≡ o → found o (λ n. n) ≡ size_of e
size-is e m = sym (ap (λ (o : Option ℕ). found o (λ n. n)) m)

-- the rest of a chunk
pub rest_over : {b out : List ℕ} {h : Held} (e : Ended) (c : List ℕ) → e.size ≡ None → Holds h []
    → Moved (behind (take e.wrote out) (run (end_point e b) c)) (record { held = h; phase = Over; size = 0 })
    b b out out e.wrote e.wrote (e.wrote + answer_bytes * length c)
rest_over {b} {out} {h} e c m k =
    record {
      more = omega arith;
      short = omega arith;
      book-past = refl;
      out-past = refl;
      going =
          record {
            holds = holds-own k;
            sized = record { fits = omega arith; none = λ z. refl; good = λ z. absurd (not-later z) };
          };
      same =
          ap (λ (o : List ℕ). record { out = o; point = over }) (sym (append-nil (take e.wrote out)))
          ∙ ap (behind (take e.wrote out)) (sym (ap (λ (t : Option ℕ). run (point_behind t b) c) m ∙ run-over c));
    }
  where
    not-later : Over ≡ Later → ⊥
    not-later z = cc

grown-later : (x : Ledger) (l : List ℕ) → grown (later x []) l ≡ later x (kept l)
unfolding grown
grown-later x l = refl

pub rest-later : {last out out' : List ℕ} {h : Held} {used wrote : ℕ} (b : List ℕ) (e : Ended) (c : List ℕ) (size : ℕ) → e.size ≡ Some size
    → size ≤ length b
    → Told (settings_of (take size b)) (take size b) c out e.wrote last out' used wrote
    → length last ≡ length (take size b)
    → Holds h (kept (take (length c - used) (drop used c)))
    → Moved (behind (take e.wrote out) (run (end_point e b) c)) (record { held = h; phase = Later; size = size })
    b (last ++ drop size b) out out' e.wrote wrote (e.wrote + answer_bytes * length c)
rest-later {last} {out} {out'} {h} {used} {wrote} b e c size m f v k q =
    let x = ledger_of last in
    let r = drop used c in
    let n = front size b last f k in
    let w = v.short in
    let held : held_of h ≡ kept r = q.same ∙ ap kept (take_rest c used) in
    record {
      more = v.more;
      short = omega (arith, ends-le c);
      book-past = n.2;
      out-past = v.past;
      going =
          record {
            holds = holds-own q;
            sized = record { fits = n.1; none = λ z. both refl z; good = λ z. rw n.0 (own v.good) };
          };
      same =
          ap (λ (d : List ℕ). record { out = take wrote out'; point = later (ledger_of d) (held_of h) }) n.0
          ∙ ap (λ (l : List ℕ). record { out = take wrote out'; point = later x l }) held
          ∙ ap (λ (o : List ℕ). record { out = o; point = later x (kept r) }) (sym (append-nil (take wrote out')))
          ∙ ap (behind (take wrote out')) (sym (run-free r (later x []) (later-kept x) v.free ∙ ap silent (grown-later x r)))
          ∙ v.same
          ∙ ap (λ (t : Option ℕ). behind (take e.wrote out) (run (point_behind t b) c)) (sym m);
    }

-- a chunk
grown-at : (p : Phase) (x : Ledger) (h l : List ℕ) → point_at p x (kept (h ++ l)) ≡ grown (point_at p x h) l
unfolding grown
grown-at Opening x h l = refl
grown-at Later x h l = refl
grown-at Over x h l = refl

kept-at : (p : Phase) (x : Ledger) (h : List ℕ) → kept h ≡ h → Kept (point_at p x h)
unfolding Kept
kept-at Opening x h k = k
kept-at Later x h k = k
kept-at Over x h k = tt

module _ (s : Stream) (b : List ℕ) where
  abbrev x : Ledger
  x = ledger_of (take s.size b)

  point-kept : Going s b → Kept (point_of s b)
  point-kept g =
      kept-at s.phase x (held_of s.held)
      (take_all held_most (held_of s.held)
      (omega (arith, g.holds.few, g.holds.long, length-take-le s.held.len s.held.bytes (omega (arith, g.holds.few, g.holds.long)))))

  held-point : {h : Held} (l : List ℕ) → Holds h (kept (held_of s.held ++ l)) → point_at s.phase x (held_of h) ≡ grown (point_of s b) l
  held-point l k = ap (point_at s.phase x) k.same ∙ grown-at s.phase x (held_of s.held) l

  -- no line ends in it
  pub all_held : {out : List ℕ} {h : Held} (l : List ℕ) → Going s b → Holds h (kept (held_of s.held ++ l)) → Free l
      → Moved (run (point_of s b) l) (record { held = h; phase = s.phase; size = s.size }) b b out out 0 0 (answer_bytes * length l)
  all_held {out} {h} l g k f =
      record {
        more = omega arith;
        short = omega arith;
        book-past = refl;
        out-past = refl;
        going = record { holds = holds-own k; sized = g.sized };
        same = ap silent (held-point l k) ∙ sym (run-free l (point_of s b) (point-kept g) f);
      }

  -- a line ends in it
  pub line-held : {b₁ b₂ out out₁ out₂ : List ℕ} {t : Stream} {h : Held} {wrote : ℕ} (c : List ℕ) (n : ℕ) (d : Ended) → Going s b
      → Holds h (kept (held_of s.held ++ take n c)) → Leads c n → EndedOf (ended (point_at s.phase x (held_of h))) d b b₁ out out₁
      → Moved (behind (take d.wrote out₁) (run (end_point d b₁) (take (length c - (n + 1)) (drop (n + 1) c))))
      t b₁ b₂ out₁ out₂ d.wrote wrote (d.wrote + answer_bytes * length (take (length c - (n + 1)) (drop (n + 1) c)))
      → t.size ≡ size_of d → Moved (run (point_of s b) c) t b b₂ out out₂ 0 wrote (answer_bytes * length c)
  line-held {b₁} {b₂} {out} {out₁} {out₂} {t} {h} {wrote} c n d g k y v m q =
      let r = drop (n + 1) c in
      let z = ap length (take_rest c (n + 1)) in
      record {
        more = omega arith;
        short = omega (arith, m.short, v.short, length-drop (n + 1) c, y.inside);
        book-past = m.book-past ∙ ap (λ (k : ℕ). drop k b₁) q ∙ v.book-past ∙ ap (λ (k : ℕ). drop k b) (sym q);
        out-past = m.out-past ∙ drop-behind out₁ out m.more v.out-past;
        going = m.going;
        same =
            m.same
            ∙ ap (λ (u : List ℕ). behind (take d.wrote out₁) (run (end_point d b₁) u)) (take_rest c (n + 1))
            ∙ ap (λ (u : Turn). behind u.out (run u.point r)) (v.same ∙ ap ended (held-point (take n c) k))
            ∙ sym (run-leads (point_of s b) c n (point-kept g) y);
      }

-- the end of the input
closed-opening : (l : List ℕ) → ended (opening l) ≡ closed (opening l)
unfolding ended closed
closed-opening l = refl

closed-over : ended over ≡ closed over
unfolding ended closed
closed-over = refl

closed-cons : (x : Ledger) (l : List ℕ) → 0 < length l → ended (later x l) ≡ closed (later x l)
unfolding ended closed
closed-cons x [] h = absurd (omega arith)
closed-cons x (b ∷ l) h = refl

closed_none : (x : Ledger) → silent (later x []) ≡ closed (later x [])
unfolding closed
closed_none x = refl

pub ended-closed : (p : Phase) (x : Ledger) (l : List ℕ) → (is_later p ≡ true → 0 < length l) → ended (point_at p x l) ≡ closed (point_at p x l)
ended-closed Opening x l h = closed-opening l
ended-closed Later x l h = closed-cons x l (h refl)
ended-closed Over x l h = closed-over

later-is : (p : Phase) → is_later p ≡ true → p ≡ Later
later-is Opening h = both h refl
later-is Later h = refl
later-is Over h = both h refl

-- no later line has begun
pub closed-silent : {out : List ℕ} (s : Stream) (b : List ℕ) → Going s b → is_later s.phase ≡ true → s.held.len ≡ 0
    → EndedOf (closed (point_of s b)) (record { size = Some s.size; wrote = 0 }) b b out out
closed-silent s b g h z =
    let l = later-is s.phase h in
    let x = ledger_of (take s.size b) in
    let n : held_of s.held ≡ [] = ap (λ (k : ℕ). take k s.held.bytes) z in
    record {
      short = omega arith;
      book-past = refl;
      out-past = refl;
      sized = record { fits = g.sized.fits; good = λ m q. let e : s.size ≡ m = cc in rw (← e) (g.sized.good l) };
      same = closed_none x ∙ sym (ap (λ (p : Phase). closed (point_at p x (held_of s.held))) l ∙ ap (λ (k : List ℕ). closed (later x k)) n);
    }

pub held-some : (h : Held) → Holds h (held_of h) → (h.len ≡ 0 → ⊥) → 0 < length (held_of h)
held-some h k n = omega (arith, k.few, k.long, length-take-le h.len h.bytes (omega (arith, k.few, k.long)))

-- the stream before the first byte
pub begun : {s : Stream} (b : List ℕ) → Begun s → Going s b × (point_of s b ≡ opening [])
begun {s} b g =
    let h = g.holds in (
      record {
        holds = holds-own h;
        sized = record { fits = rw g.size (omega arith); none = λ z. g.size; good = λ z. absurd (not-later (sym g.phase ∙ z)) };
      },
      ap (λ (p : Phase). point_at p (ledger_of (take s.size b)) (held_of s.held)) g.phase ∙ ap opening h.same,
    )
  where
    not-later : Opening ≡ Later → ⊥
    not-later z = cc

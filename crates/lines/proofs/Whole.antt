-- What the stream writes for a whole input is `frames` of it; a run over two parts of an input is a run over both.
-- Assumes nothing.
use Prim.Native.Nat.{ℕ, ◌%◌, ◌<◌}
use native.Mathlib.Omega.{arith}
use mathlib.Core.Path.{◌≡◌, refl, sym, ◌∙◌, ap}
use mathlib.Core.Bool.{Bool, true, false, ◌&&◌}
use mathlib.Core.List.{List, [], ◌∷◌, ◌++◌, append_assoc, append-nil}
use mathlib.Core.Logic.{◌⊎◌, inl, inr, ⊎_elim}
use native.Mathlib.Decide.{dec_lt}
use lib.Dec.{leb, eqb}
use lib.ListN.{length}
use lib.Seq.{take_all, length-take-le}
use borrow.Author.Tests.{eqb-true, eqb-false, ne_eqb}
use Rattle.model.specs.Bounded.{every, is_some}
use Rattle.model.specs.Site.{fixed_words, settings_length, valid_settings}
use Rattle.model.proofs.Search.{and_left, and_right}
use Rattle.model.proofs.Places.{settings-length}
use Rattle.model.proofs.ReadBack.{valid-is}
use Rattle.model.specs.Machine.{Performed}
use Rattle.model.specs.Ledger.{Ledger, empty_ledger, book_length}
use Rattle.model.specs.Reading.{settings_of}
use Rattle.model.specs.Calls.{settings_good}
use Rattle.model.specs.Answers.{refused_with}
use Rattle.model.specs.Text.{digit_value}
use Rattle.model.specs.Lines.{whole_words, line_words, lines_of, answer_line, reply_line, line_outcome, answer_lines, program_words, output, frames}
use Rattle.framing.proofs.Framing.{words-length, not_so, frame-between, no-frame}
use Rattle.lines.proofs.Keeping.{kept_append, free-join}
use Rattle.framing.specs.Front.{Free}
use Rattle.lines.specs.Stream.{held_most, kept, Point, opening, later, over, Turn, silent, behind, opened, told}
use Rattle.lines.specs.Stream.{ended, longer, byte, run, closed}

free_snoc : (l : List ℕ) (b : ℕ) → Free l → (b ≡ 10 → ⊥) → Free (l ++ (b ∷ []))
unfolding Free
free_snoc l b f h = free-join l (b ∷ []) f (h, tt)

-- the lines of an input whose first line is l
lines_cons : (l bs : List ℕ) → Free l → lines_of (l ++ (10 ∷ bs)) ≡ l ∷ lines_of bs
unfolding lines_of Free
lines_cons [] bs f = refl
lines_cons (b ∷ l) bs f = rw (ne_eqb b 10 f.0, lines_cons l bs f.1)

lines_none : [] ≡ lines_of []
unfolding lines_of
lines_none = refl

lines-last : (b : ℕ) (l : List ℕ) → Free (b ∷ l) → lines_of (b ∷ l) ≡ (b ∷ l) ∷ []
unfolding lines_of Free
lines-last b [] f = rw (ne_eqb b 10 f.0)
lines-last b (c ∷ l) f = rw (ne_eqb b 10 f.0, lines-last c l f.1)

-- Long lines

pub settings-short : (l : List ℕ) → whole_words l && settings_good (line_words l) ≡ true → length l < held_most
unfolding settings_good
settings-short l h =
    let w = line_words l in
    let whole = eqb-true (length l % 8) 0 (and_right (every (λ b. is_some (digit_value b)) l) _ (and_left (whole_words l) _ h)) in
    let good = and_right (whole_words l) _ h in
    let valid = valid-is (settings_of w) (and_right (leb fixed_words (length w) && eqb (length w) (settings_length (settings_of w))) _ good) in
    let long = eqb-true (length w) (settings_length (settings_of w)) (and_right (leb fixed_words (length w)) _ (and_left _ (valid_settings (settings_of w)) good))
    in
    omega (arith, words-length l, settings-length (settings_of w), valid.few)

-- what a line gives is what is kept of it gives
module _ (l : List ℕ) where
  same-or-long : (kept l ≡ l) ⊎ ((held_most < length l) × (length (kept l) ≡ held_most))
  same-or-long = go (dec_lt held_most (length l))
    where
      go : Dec (held_most < length l) → (kept l ≡ l) ⊎ ((held_most < length l) × (length (kept l) ≡ held_most))
      go (yes h) = inr (h, length-take-le held_most l (omega arith))
      go (no h) = inl (take_all held_most l (omega arith))

  pub outcome-kept : (x : Ledger) → line_outcome x (kept l) ≡ line_outcome x l
  unfolding line_outcome
  outcome-kept x =
      ⊎_elim (λ e. ap (line_outcome x) e)
      (λ h.
      simp (no-frame (kept l) (λ e. omega (arith, (frame-between (kept l) e).1)), no-frame l (λ e. omega (arith, (frame-between l e).1))))
      same-or-long

  pub opened-kept : opened (kept l) ≡ opened l
  unfolding opened
  opened-kept =
      ⊎_elim (λ e. ap opened e)
      (λ h.
      simp (
        not_so (whole_words (kept l) && settings_good (line_words (kept l))) (λ e. omega (arith, settings-short (kept l) e)),
        not_so (whole_words l && settings_good (line_words l)) (λ e. omega (arith, settings-short l e)),
      ))
      same-or-long

-- Runs

pub run-append : (p : Point) (a b : List ℕ) → run p (a ++ b) ≡ behind (run p a).out (run (run p a).point b)
unfolding run
run-append p [] b = refl
run-append p (c ∷ a) b =
    ap (behind (byte p c).out) (run-append (byte p c).point a b)
    ∙ ap (λ (o : List ℕ). record { out = o; point = (run (run (byte p c).point a).point b).point })
    (sym (append_assoc (byte p c).out (run (byte p c).point a).out (run (run (byte p c).point a).point b).out))

-- a run over bytes, and the end of the input
unfoldable pub whole : Point → List ℕ → Turn
whole p bs = behind (run p bs).out (closed (run p bs).point)

whole-none : (p : Point) → closed p ≡ whole p []
unfolding whole run
whole-none p = refl

pub whole_append : (p : Point) (a b : List ℕ) → whole p (a ++ b) ≡ behind (run p a).out (whole (run p a).point b)
unfolding whole
whole_append p a b =
    ap (λ (t : Turn). behind t.out (closed t.point)) (run-append p a b)
    ∙ ap (λ (o : List ℕ). record { out = o; point = (closed (run (run p a).point b).point).point })
    (append_assoc (run p a).out (run (run p a).point b).out (closed (run (run p a).point b).point).out)

whole-cons : (p : Point) (b : ℕ) (bs : List ℕ) → whole p (b ∷ bs) ≡ behind (byte p b).out (whole (byte p b).point bs)
unfolding whole run
whole-cons p b bs =
    ap (λ (o : List ℕ). record { out = o; point = (closed (run (byte p b).point bs).point).point })
    (append_assoc (byte p b).out (run (byte p b).point bs).out (closed (run (byte p b).point bs).point).out)

-- a byte 10, and any other
pub byte-end : (p : Point) {b : ℕ} → b ≡ 10 → byte p b ≡ ended p
unfolding byte
byte-end p h = rw h

pub byte-in : (p : Point) {b : ℕ} → (b ≡ 10 → ⊥) → byte p b ≡ silent (longer p b)
unfolding byte
byte-in p {b} h = rw (ne_eqb b 10 h)

whole-end : (p : Point) (b : ℕ) (bs : List ℕ) → b ≡ 10 → (whole p (b ∷ bs)).out ≡ (ended p).out ++ (whole (ended p).point bs).out
whole-end p b bs h =
    ap (λ (t : Turn). t.out) (whole-cons p b bs) ∙ ap (λ (t : Turn). t.out ++ (whole t.point bs).out) (byte-end p h)

whole_in : (p : Point) (b : ℕ) (bs : List ℕ) → (b ≡ 10 → ⊥) → (whole p (b ∷ bs)).out ≡ (whole (longer p b) bs).out
whole_in p b bs h =
    ap (λ (t : Turn). t.out) (whole-cons p b bs) ∙ ap (λ (t : Turn). t.out ++ (whole t.point bs).out) (byte-in p h)

answers-none : (x : Ledger) → [] ≡ answer_lines x []
unfolding answer_lines
answers-none x = refl

answers-cons : (x : Ledger) (l : List ℕ) (ls : List (List ℕ))
    → answer_lines x (l ∷ ls) ≡ reply_line (line_outcome x l).reply ++ answer_lines (line_outcome x l).ledger ls
unfolding answer_lines
answers-cons x l ls = refl

answers-last : (x : Ledger) (l : List ℕ) → answer_lines x (l ∷ []) ≡ reply_line (line_outcome x l).reply
unfolding answer_lines
answers-last x l = append-nil (reply_line (line_outcome x l).reply)

pub ended-later : (x : Ledger) (l : List ℕ) → ended (later x (kept l)) ≡ told (line_outcome x l)
unfolding ended
ended-later x l = ap told (outcome-kept l x)

longer-later : (x : Ledger) (l : List ℕ) (b : ℕ) → longer (later x (kept l)) b ≡ later x (kept (l ++ (b ∷ [])))
unfolding longer
longer-later x l b = ap (later x) (kept_append l (b ∷ []))

pub free-none : Free []
unfolding Free
free-none = tt

-- nothing is read after a refused settings line
pub whole-over : (bs : List ℕ) → (whole over bs).out ≡ []
unfolding whole run closed ended longer
whole-over [] = refl
whole-over (b ∷ bs) = over_by (eqb b 10) refl (whole-over bs)
  where
    over_by : (t : Bool) → eqb b 10 ≡ t → (whole over bs).out ≡ [] → (whole over (b ∷ bs)).out ≡ []
    over_by true h e = whole-end over b bs (eqb-true b 10 h) ∙ e
    over_by false h e = whole_in over b bs (eqb-false b 10 h) ∙ e

-- a later line of which l was read, and the rest of the input
later-none : (x : Ledger) (l : List ℕ) → Free l → (closed (later x (kept l))).out ≡ answer_lines x (lines_of (l ++ []))
unfolding closed lines_of
later-none x [] f = answers-none x
later-none x (b ∷ l) f =
    ap (λ (o : Performed). reply_line o.reply) (outcome-kept (b ∷ l) x)
    ∙ sym (ap (λ (k : List ℕ). answer_lines x (lines_of k)) (append-nil (b ∷ l)) ∙ ap (answer_lines x) (lines-last b l f) ∙ answers-last x (b ∷ l))

later-whole : (bs : List ℕ) (x : Ledger) (l : List ℕ) → Free l → (whole (later x (kept l)) bs).out ≡ answer_lines x (lines_of (l ++ bs))
later-whole [] x l f = ap (λ (t : Turn). t.out) (sym (whole-none (later x (kept l)))) ∙ later-none x l f
later-whole (b ∷ bs) x l f = by (eqb b 10) refl (later-whole bs)
  where
    by : (t : Bool) → eqb b 10 ≡ t
        → ((y : Ledger) (k : List ℕ) → Free k → (whole (later y (kept k)) bs).out ≡ answer_lines y (lines_of (k ++ bs)))
        → (whole (later x (kept l)) (b ∷ bs)).out ≡ answer_lines x (lines_of (l ++ (b ∷ bs)))
    by true h more =
        let e = eqb-true b 10 h in
        whole-end (later x (kept l)) b bs e
        ∙ ap (λ (t : Turn). t.out ++ (whole t.point bs).out) (ended-later x l)
        ∙ ap (λ (o : List ℕ). reply_line (line_outcome x l).reply ++ o) (more (line_outcome x l).ledger [] free-none)
        ∙ sym (ap (λ (c : ℕ). answer_lines x (lines_of (l ++ (c ∷ bs)))) e ∙ ap (answer_lines x) (lines_cons l bs f) ∙ answers-cons x l (lines_of bs))
    by false h more =
        let n = eqb-false b 10 h in
        whole_in (later x (kept l)) b bs n
        ∙ ap (λ (p : Point). (whole p bs).out) (longer-later x l b)
        ∙ more x (l ++ (b ∷ [])) (free_snoc l b f n)
        ∙ ap (λ (k : List ℕ). answer_lines x (lines_of k)) (append_assoc l (b ∷ []) bs)

-- the settings line l, and the lines behind it
abbrev is_settings : List ℕ → Bool
is_settings l = whole_words l && settings_good (line_words l)

abbrev fitting : List ℕ → Bool
fitting l = leb (book_length (settings_of (line_words l))) program_words

settings-by : (l bs : List ℕ) (t u : Bool) → is_settings l ≡ t → fitting l ≡ u
    → (opened l).out ++ (whole (opened l).point bs).out ≡ output (l ∷ lines_of bs)
unfolding opened output
settings-by l bs true true h k = simp (h, k) (later-whole bs (empty_ledger (settings_of (line_words l))) [] free-none)
settings-by l bs true false h k =
    simp (h, k) (ap (λ (o : List ℕ). answer_line (refused_with 25 0) ++ o) (whole-over bs) ∙ append-nil (answer_line (refused_with 25 0)))
settings-by l bs false u h k = simp h (ap (λ (o : List ℕ). answer_line (refused_with 24 0) ++ o) (whole-over bs) ∙ append-nil (answer_line (refused_with 24 0)))

alone-by : (l : List ℕ) (t u : Bool) → is_settings l ≡ t → fitting l ≡ u → (opened l).out ≡ output (l ∷ [])
unfolding opened output answer_lines
alone-by l true true h k = simp (h, k)
alone-by l true false h k = simp (h, k)
alone-by l false u h k = simp h

opened-empty : (opened []).out ≡ output []
unfolding opened output settings_good line_words
opened-empty = refl

ended-opening : (l : List ℕ) → ended (opening (kept l)) ≡ opened l
unfolding ended
ended-opening l = opened-kept l

longer-opening : (l : List ℕ) (b : ℕ) → longer (opening (kept l)) b ≡ opening (kept (l ++ (b ∷ [])))
unfolding longer
longer-opening l b = ap opening (kept_append l (b ∷ []))

-- the settings line of which l was read, and the rest of the input
opening-none : (l : List ℕ) → Free l → (closed (opening (kept l))).out ≡ output (lines_of (l ++ []))
unfolding closed
opening-none [] f = opened-empty ∙ ap output lines_none
opening-none (b ∷ l) f =
    ap (λ (t : Turn). t.out) (opened-kept (b ∷ l))
    ∙ alone-by (b ∷ l) _ _ refl refl
    ∙ sym (ap (λ (k : List ℕ). output (lines_of k)) (append-nil (b ∷ l)) ∙ ap output (lines-last b l f))

opening-whole : (bs l : List ℕ) → Free l → (whole (opening (kept l)) bs).out ≡ output (lines_of (l ++ bs))
opening-whole [] l f = ap (λ (t : Turn). t.out) (sym (whole-none (opening (kept l)))) ∙ opening-none l f
opening-whole (b ∷ bs) l f = by (eqb b 10) refl (opening-whole bs)
  where
    by : (t : Bool) → eqb b 10 ≡ t → ((k : List ℕ) → Free k → (whole (opening (kept k)) bs).out ≡ output (lines_of (k ++ bs)))
        → (whole (opening (kept l)) (b ∷ bs)).out ≡ output (lines_of (l ++ (b ∷ bs)))
    by true h more =
        let e = eqb-true b 10 h in
        whole-end (opening (kept l)) b bs e
        ∙ ap (λ (t : Turn). t.out ++ (whole t.point bs).out) (ended-opening l)
        ∙ settings-by l bs _ _ refl refl
        ∙ sym (ap (λ (c : ℕ). output (lines_of (l ++ (c ∷ bs)))) e ∙ ap output (lines_cons l bs f))
    by false h more =
        let n = eqb-false b 10 h in
        whole_in (opening (kept l)) b bs n
        ∙ ap (λ (p : Point). (whole p bs).out) (longer-opening l b)
        ∙ more (l ++ (b ∷ [])) (free_snoc l b f n)
        ∙ ap (λ (k : List ℕ). output (lines_of k)) (append_assoc l (b ∷ []) bs)

-- the whole input
pub whole-frames : (i : List ℕ) → (whole (opening []) i).out ≡ frames i
unfolding frames
whole-frames i = opening-whole i [] free-none

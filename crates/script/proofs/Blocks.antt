-- Lines one behind the other in a text, and their records one behind the other in the output.
-- Assumes nothing.
use Rattle.std.proofs.Common.{ℕ, zero, suc, ◌≡◌, ◌≢◌, ◌+◌, ◌-◌, ◌*◌, ◌≤◌, ◌<◌, ◌==◌, Bool, true, false, Some, None, Result, Ok, Err, List, [], ◌∷◌, ◌++◌, length, take, drop, length-drop, length-append, drop_of_length-le, append_assoc, add-one, refl, sym, ap, ◌∙◌, subst, arith}
use native.Mathlib.Nat.{eq-zero-or-pos}
use mathlib.Core.Path.{subst⁻¹}
use mathlib.Core.List.{append-nil}
use mathlib.Core.Logic.{⊎_elim}
use lib.Seq.{length-take-le, take_at, take_all, drop-drop}
use borrow.Author.Count.{below_more}
use borrow.Author.Tests.{lt-ltb, ne_eqb}
use mir.Val.{bool_byte}
use Rattle.script_line.specs.Lines.{Meaning}
use Rattle.script_line.specs.Records.{heard}
use Rattle.script_line.specs.declared.Cause.{Cause}
use Rattle.script_line.specs.declared.Cause.TheVariants.{LongLine}
use Rattle.script.specs.declared.Stop.{Stop}
use Rattle.script.specs.Texts.{line_length, Standing, Ends, Ended, Reads, Good, record_in, records_of, behind_lines, first_line, line_meaning, Stops}

-- a line feed ends the first line of a text, or the whole text is that line
module _ (text : List ℕ) where
  pub ended-line : (last : Bool) → line_length text < length text → Ended last text
  ended-line true h = tt
  ended-line false h = h

  pub whole-line : length text ≤ line_length text → text ≡ first_line text
  unfolding first_line
  whole-line h = sym (take_all (line_length text) text h)

  pub none-behind : length text ≤ line_length text → [] ≡ drop (line_length text + 1) text
  none-behind h = sym (drop_of_length-le text (omega arith))

  pub long-line : length text ≤ line_length text → 200 < length text → line_meaning (first_line text) ≡ Err LongLine
  unfolding line_meaning
  long-line e h = rw (sym (whole-line e)) (simp (lt-ltb _ _ h))

pub ended-last : {last : Bool} (text : List ℕ) → last ≡ true → Ended last text
ended-last text e = rw e tt

-- nothing that is left ends any text
pub ends-none : (last : Bool) {left : List ℕ} → left ≡ [] → Ends last left
unfolding line_length
ends-none true e = e
ends-none false e = rw e (refl, omega arith)

-- one line more behind the others
behind_more : (n : ℕ) (text : List ℕ) → drop (suc (line_length (behind_lines n text))) (behind_lines n text) ≡ behind_lines (suc n) text
unfolding behind_lines
behind_more zero text = refl
behind_more (suc n) text = behind_more n (drop (suc (line_length text)) text)

records-more : (n : ℕ) (text : List ℕ) → records_of n text ++ record_in (line_meaning (first_line (behind_lines n text))) ≡ records_of (suc n) text
unfolding records_of behind_lines
records-more zero text = sym (append-nil (record_in (line_meaning (first_line text))))
records-more (suc n) text =
    let rest = drop (suc (line_length text)) text in
    append_assoc (record_in (line_meaning (first_line text))) (records_of n rest) _ ∙ ap (λ l. record_in (line_meaning (first_line text)) ++ l) (records-more n rest)

-- a part of the output behind the records that stand takes the place of what was there
module _ (m : ℕ) (out : List ℕ) {before : List ℕ} (front : before ≡ take (m * 24) out) (room : m * 24 ≤ length out) where
  front-long : length before ≡ m * 24
  front-long = ap length front ∙ length-take-le (m * 24) out room

  pub front-kept : (rest : List ℕ) → take (m * 24) (before ++ rest) ≡ take (m * 24) out
  front-kept rest = take_at before rest (m * 24) front-long ∙ front

  -- the new record stands behind those before it
  front-grows : (part rest : List ℕ) → length part ≡ 24 → take ((m + 1) * 24) (before ++ (part ++ rest)) ≡ take (m * 24) out ++ part
  front-grows part rest h =
      let long : length (before ++ part) ≡ (m + 1) * 24 = omega (arith, length-append before part, front-long) in
      ap (take ((m + 1) * 24)) (sym (append_assoc before part rest)) ∙ take_at (before ++ part) rest ((m + 1) * 24) long ∙ ap (λ l. l ++ part) front

-- a record or nothing is not bad
good-record : {x : Meaning} (s : List ℕ) → Ok (Some s) ≡ x → Good x
unfolding Good
good-record s e = rw (sym e) tt

good-blank : {x : Meaning} → Ok None ≡ x → Good x
unfolding Good
good-blank e = rw (sym e) tt

-- a line more, with its record if it gave one
module _ {last : Bool} {at m lines next : ℕ} {text out : List ℕ} (room : m * 24 + 24 ≤ length out) (past : at < next) (within : next ≤ length text)
    (on : drop next text ≡ drop (suc (line_length (drop at text))) (drop at text)) (finished : Ended last (drop at text)) (s : Standing last at m lines text out) where
  line-is : {x : Meaning} → x ≡ line_meaning (first_line (drop at text)) → x ≡ line_meaning (first_line (behind_lines lines text))
  line-is e = e ∙ ap (λ t. line_meaning (first_line t)) s.left

  further : drop next text ≡ behind_lines (lines + 1) text
  further = on ∙ ap (λ t. drop (suc (line_length t)) t) s.left ∙ behind_more lines text ∙ sym (ap (λ n. behind_lines n text) (add-one lines))

  all-made : {made : List ℕ} → made ≡ take (m * 24) out ++ record_in (line_meaning (first_line (behind_lines lines text))) → made ≡ records_of (lines + 1) text
  all-made e =
      e ∙ ap (λ l. l ++ record_in (line_meaning (first_line (behind_lines lines text)))) s.made ∙ records-more lines text ∙ sym (ap (λ n. records_of n text) (add-one lines))

  module _ (long : ℕ) (same : long ≡ length out) where
    line-reads : Good (line_meaning (first_line (behind_lines lines text))) → Reads last long lines text
    line-reads g = record {
      some = omega (arith, past, within, ap length s.left, length-drop at text);
      ended = subst (Ended last) s.left finished;
      roomy = omega (arith, room, same, ap length s.made, length-take-le (m * 24) out s.fits);
      good = g;
    }

    all-read : Good (line_meaning (first_line (behind_lines lines text))) → (i : ℕ) → i < lines + 1 → Reads last long i text
    all-read g = below_more (λ i. Reads last long i text) lines (λ i h. subst⁻¹ (λ (n : ℕ). Reads last n i text) same (s.reads i h)) (line-reads g)

  pub standing-record : (now part : List ℕ) → length now ≡ length out → take ((m + 1) * 24) now ≡ take (m * 24) out ++ part → Ok (Some part) ≡ line_meaning (first_line (drop at text))
      → Standing last next (m + 1) (lines + 1) text now
  unfolding record_in
  standing-record now part same front e = record {
    read = within;
    fits = omega (arith, room, same);
    lined = omega (arith, s.lined);
    few = omega (arith, s.few);
    left = further;
    reads = all-read _ same (good-record part (line-is e));
    made = all-made (front ∙ ap (λ x. take (m * 24) out ++ record_in x) (line-is e));
  }

  pub standing-blank : (now : List ℕ) → length now ≡ length out → take (m * 24) now ≡ take (m * 24) out → Ok None ≡ line_meaning (first_line (drop at text)) → Standing last next m (lines + 1) text now
  unfolding record_in
  standing-blank now same front e = record {
    read = within;
    fits = omega (arith, s.fits, same);
    lined = omega (arith, s.lined);
    few = omega (arith, s.few);
    left = further;
    reads = all-read _ same (good-blank (line-is e));
    made = all-made (front ∙ sym (append-nil (take (m * 24) out)) ∙ ap (λ x. take (m * 24) out ++ record_in x) (line-is e));
  }

-- what is behind the records is of no account
standing-kept : {last : Bool} {at m lines : ℕ} {text out now : List ℕ} → length now ≡ length out → take (m * 24) now ≡ take (m * 24) out → Standing last at m lines text out → Standing last at m lines text now
standing-kept {last} {text = text} same front s = record {
  read = s.read;
  fits = omega (arith, s.fits, same);
  lined = s.lined;
  few = s.few;
  left = s.left;
  reads = λ k h. subst⁻¹ (λ (n : ℕ). Reads last n k text) same (s.reads k h);
  made = front ∙ s.made;
}

-- what is left of what is left of a text is left of the text
rest-on : (text left : List ℕ) (k : ℕ) → length left ≤ length text → drop (length text - length left) text ≡ left → drop (length text - length (drop k left)) text ≡ drop k left
rest-on text left k within rest = ⊎_elim (λ e. inner (omega arith)) (λ e. last (omega arith)) (eq-zero-or-pos (k - length left))
  where
    inner : k ≤ length left → drop (length text - length (drop k left)) text ≡ drop k left
    inner h =
        let n : length text - length (drop k left) ≡ length text - length left + k = omega (arith, length-drop k left) in
        ap (λ i. drop i text) n ∙ sym (drop-drop k (length text - length left) text) ∙ ap (drop k) rest

    last : length left < k → drop (length text - length (drop k left)) text ≡ drop k left
    last h =
        let e : drop k left ≡ [] = drop_of_length-le left (omega arith) in
        let n : length text ≤ length text - length (drop k left) = omega (arith, ap length e) in
        drop_of_length-le text n ∙ sym e

-- so many lines are read, and this is left of the text
pub record Composing (last : Bool) (records lines : ℕ) (text left out : List ℕ) : Type 0 where
  pub standing : Standing last (length text - length left) records lines text out
  pub within : length left ≤ length text
  pub rest : drop (length text - length left) text ≡ left

module _ {last : Bool} {records lines : ℕ} {text left behind out : List ℕ} (room : records * 24 + 24 ≤ length out) (some : 0 < length left)
    (finished : Ended last left) (on : behind ≡ drop (line_length left + 1) left) (s : Composing last records lines text left out) where
  shorter : length behind < length left
  shorter = omega (arith, ap length on, length-drop (line_length left + 1) left)

  rest-behind : drop (length text - length behind) text ≡ behind
  rest-behind = rw on (rest-on text left (line_length left + 1) s.within s.rest)

  on-text : drop (length text - length behind) text ≡ drop (suc (line_length (drop (length text - length left) text))) (drop (length text - length left) text)
  on-text = rw s.rest (rest-behind ∙ on ∙ ap (λ n. drop n left) (add-one (line_length left)))

  module _ {before : List ℕ} (space : List ℕ) (front : before ≡ take (records * 24) out) (back : length space + records * 24 ≡ length out) (part : List ℕ) (same : length (before ++ (part ++ drop 24 space)) ≡ length out) where
    long : length part ≡ 24
    long = omega (arith, room, back, same, ap length front, length-take-le (records * 24) out (omega arith), length-append before (part ++ drop 24 space), length-append part (drop 24 space), length-drop 24 space)

    composing-record : Ok (Some part) ≡ line_meaning (first_line left) → Composing last (records + 1) (lines + 1) text behind (before ++ (part ++ drop 24 space))
    composing-record e = record {
      standing =
          let fits : records * 24 ≤ length out = omega arith in
          standing-record room (omega (arith, shorter, s.within)) (omega arith) on-text (rw s.rest finished) s.standing (before ++ (part ++ drop 24 space)) part same (front-grows records out front fits part (drop 24 space) long) (rw s.rest e);
      within = omega (arith, shorter, s.within);
      rest = rest-behind;
    }

    composing-blank : Ok None ≡ line_meaning (first_line left) → Composing last records (lines + 1) text behind (before ++ (part ++ drop 24 space))
    composing-blank e = record {
      standing =
          let fits : records * 24 ≤ length out = omega arith in
          standing-blank room (omega (arith, shorter, s.within)) (omega arith) on-text (rw s.rest finished) s.standing (before ++ (part ++ drop 24 space)) same (front-kept records out front fits (part ++ drop 24 space)) (rw s.rest e);
      within = omega (arith, shorter, s.within);
      rest = rest-behind;
    }

    -- the line gave a record, or none
    pub composing-line : (made : Bool) {n : ℕ} → n ≡ bool_byte made → heard (Ok made) part ≡ line_meaning (first_line left) → Composing last (records + n) (lines + 1) text behind (before ++ (part ++ drop 24 space))
    composing-line true f e = rw f (composing-record e)
    composing-line false f e = let z : records + 0 ≡ records = omega arith in rw (f, z) (composing-blank e)

-- the same lines, where no record is put behind those that stand
pub composing-kept : {last : Bool} {records lines : ℕ} {text left out now : List ℕ} → length now ≡ length out → take (records * 24) now ≡ take (records * 24) out → Composing last records lines text left out → Composing last records lines text left now
composing-kept same front s = record { standing = standing-kept same front s.standing; within = s.within; rest = s.rest }

-- no line is read yet
pub composing-none : (last : Bool) (text out : List ℕ) → Composing last 0 0 text text out
unfolding behind_lines records_of
composing-none last text out =
    let none : length text - length text ≡ 0 = omega arith in record {
      standing = record {
        read = omega arith;
        fits = omega arith;
        lined = omega arith;
        few = omega arith;
        left = ap (λ n. drop n text) none;
        reads = λ k h. absurd (omega arith);
        made = refl;
      };
      within = omega arith;
      rest = ap (λ n. drop n text) none;
    }

-- where and why composing ends
pub composed : {x y : Result Stop Cause} {last : Bool} {records lines : ℕ} {text left out : List ℕ} → x ≡ y → Composing last records lines text left out → Stops y last left out records
    → Standing last (length text - length left) records lines text out × Stops x last (drop (length text - length left) text) out records
composed e s h = (s.standing, rw (e, s.rest) h)

pub nothing : (s : List ℕ) → true ≡ (length s == 0) → s ≡ []
nothing [] e = refl
nothing (b ∷ s) e = let n : length (b ∷ s) ≢ 0 = omega arith in let z : ◌≡◌ {A = Bool} true false = e ∙ ne_eqb _ 0 n in cc

pub something : (s : List ℕ) → false ≡ (length s == 0) → 0 < length s
something [] e = cc
something (b ∷ s) e = omega arith

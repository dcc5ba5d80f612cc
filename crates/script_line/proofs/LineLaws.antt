-- Laws of what a line means: its letter, its applet's number, its event value, and what its arguments give.
-- Assumes nothing.
use Rattle.std.proofs.Common.{ℕ, ◌≡◌, ◌≢◌, ◌/◌, ◌%◌, ◌≤◌, ◌<◌, true, false, Some, None, Ok, Err, List, [], ◌∷◌, ◌++◌, length, get_or, drop, replicate, refl, sym, ap, ◌∙◌, arith}
use Rattle.std.proofs.lemmas.List.{drop-replicate}
use borrow.Author.Tests.{eq-eqb, ne_eqb, le-ltb, lt-ltb}
use Rattle.lists.specs.Lists.{empty?, padded}
use Rattle.script_line.specs.Words.{Number, ended?, skipped, word, behind, decimal_of, signed_of}
use Rattle.script_line.specs.Lines.{bytes_of, installed, helped, only_if_last, event_of, arguments_of, record_of, record_by, small, applet_of, named_by, lettered, form_of, by_letter, meaning_of}
use Rattle.script_line.proofs.ByteLaws.{one-byte, more-bytes, behind-one}
use Rattle.script_line.specs.declared.Cause.{Cause}
use Rattle.script_line.specs.declared.Cause.TheVariants.{UnknownLetter, MissingApplet, MissingNumber, LargeNumber, MissingHelp, BadHelp, ExtraWord}
use Rattle.script_line.specs.declared.Kind.{Kind}
use Rattle.script_line.specs.declared.Kind.TheVariants.{Install, Entry, Event}
use Rattle.script_line.specs.declared.Form.TheVariants.{Applet, Bytes, Alone}

filled : (s : List ℕ) → 0 < length s → empty? s ≡ false
unfolding empty?
filled [] h = absurd (omega arith)
filled (b ∷ s) h = refl

none : {s : List ℕ} → s ≡ [] → empty? s ≡ true
unfolding empty?
none e = rw e refl

-- what follows with nothing left, or with more
pub last-yes : (l s : List ℕ) → skipped s ≡ [] → only_if_last l s ≡ Ok l
unfolding only_if_last
last-yes l s e = simp (none e)

pub last-no : (l s : List ℕ) → skipped s ≢ [] → only_if_last l s ≡ Err ExtraWord
unfolding only_if_last empty?
last-no l s n = go (skipped s) refl
  where
    go : (t : List ℕ) → skipped s ≡ t → only_if_last l s ≡ Err ExtraWord
    go [] e = absurd (n e)
    go (b ∷ t) e = rw e refl

pub applet-none : (s : List ℕ) → skipped s ≡ [] → applet_of s ≡ Err MissingApplet
unfolding applet_of
applet-none s e = simp (none e)

pub event-none : (s : List ℕ) → skipped s ≡ [] → arguments_of Event s ≡ Err MissingNumber
unfolding arguments_of
event-none s e = simp (none e)

-- a word w comes next
module _ (s : List ℕ) (more : 0 < length (skipped s)) {w : List ℕ} (e : w ≡ word (skipped s)) where
  applet-by : {x : Number} → x ≡ decimal_of w → applet_of s ≡ small x
  unfolding applet_of
  applet-by d = simp (filled _ more) (ap (λ t. small (decimal_of t)) (sym e) ∙ ap small (sym d))

  pub applet-large : {v : ℕ} → Ok v ≡ decimal_of w → 255 < v → applet_of s ≡ Err LargeNumber
  unfolding small
  applet-large d h = applet-by d ∙ simp (lt-ltb _ _ h)

  pub applet-is : {v : ℕ} → Ok v ≡ decimal_of w → v ≤ 255 → applet_of s ≡ Ok v
  unfolding small
  applet-is d h = applet-by d ∙ simp (le-ltb _ _ h)

  pub applet-bad : {c : Cause} → Err c ≡ decimal_of w → applet_of s ≡ Err c
  unfolding small
  applet-bad d = applet-by d

  event-by : {x : Number} → x ≡ signed_of w → arguments_of Event s ≡ event_of x (behind (skipped s))
  unfolding arguments_of
  event-by d = simp (filled _ more) (ap (λ t. event_of (signed_of t) (behind (skipped s))) (sym e) ∙ ap (λ n. event_of n (behind (skipped s))) (sym d))

  pub event-bad : {c : Cause} → Err c ≡ signed_of w → arguments_of Event s ≡ Err c
  unfolding event_of
  event-bad d = event-by d

  pub event-is : {v : ℕ} → Ok v ≡ signed_of w → {t : List ℕ} → t ≡ behind (skipped s) → arguments_of Event s ≡ only_if_last (v / 256 % 256 ∷ v % 256 ∷ []) t
  unfolding event_of
  event-is {v} d k = event-by d ∙ ap (only_if_last (v / 256 % 256 ∷ v % 256 ∷ [])) (sym k)

-- the help byte comes first
module _ (s l : List ℕ) (e : bytes_of 20 s ≡ Ok l) where
  pub help-missing : length l < 1 → arguments_of Entry s ≡ Err MissingHelp
  unfolding arguments_of helped
  help-missing h = let z : length l ≡ 0 = omega arith in ap helped e ∙ simp (eq-eqb _ _ z)

  module _ (some : 1 ≤ length l) where
    more : length l ≢ 0
    more z = omega arith

    pub help-bad : 1 < get_or l 0 0 → arguments_of Entry s ≡ Err BadHelp
    unfolding arguments_of helped
    help-bad h = ap helped e ∙ simp (ne_eqb _ _ more, lt-ltb _ _ h)

    pub help-is : get_or l 0 0 ≤ 1 → arguments_of Entry s ≡ Ok l
    unfolding arguments_of helped
    help-is h = ap helped e ∙ simp (ne_eqb _ _ more, le-ltb _ _ h)

pub help-none : (s : List ℕ) {c : Cause} → bytes_of 20 s ≡ Err c → arguments_of Entry s ≡ Err c
unfolding arguments_of helped
help-none s e = ap helped e

-- the bytes of an install, and 0 behind them
pub install-is : (s : List ℕ) {l : List ℕ} → bytes_of 12 s ≡ Ok l → arguments_of Install s ≡ Ok (l ++ drop (length l) (replicate 12 0))
unfolding arguments_of installed padded
install-is s {l} e = rw e (ap (λ t. Ok (l ++ t)) (sym (drop-replicate (length l) 12 0)))

pub install-bad : (s : List ℕ) {c : Cause} → bytes_of 12 s ≡ Err c → arguments_of Install s ≡ Err c
unfolding arguments_of installed
install-bad s e = rw e refl

-- what follows a letter, by what its applet's number and its arguments are
module _ (letter : ℕ) (s : List ℕ) where
  module _ (kind : Kind) {a : ℕ} (e : applet_of s ≡ Ok a) {t : List ℕ} (i : t ≡ behind (skipped s)) where
    by-applet : lettered (Some (Applet kind)) letter s ≡ record_by letter a (arguments_of kind t)
    unfolding lettered named_by
    by-applet = rw (e, sym i) refl

    pub applet-record : {l : List ℕ} → arguments_of kind t ≡ Ok l → lettered (Some (Applet kind)) letter s ≡ Ok (Some (record_of letter a l))
    unfolding record_by
    applet-record f = by-applet ∙ rw f refl

    pub applet-wrong : {c : Cause} → arguments_of kind t ≡ Err c → lettered (Some (Applet kind)) letter s ≡ Err c
    unfolding record_by
    applet-wrong f = by-applet ∙ rw f refl

  pub applet-fails : (kind : Kind) {c : Cause} → applet_of s ≡ Err c → lettered (Some (Applet kind)) letter s ≡ Err c
  unfolding lettered named_by
  applet-fails kind e = rw e refl

  pub bytes-record : {l : List ℕ} → bytes_of 20 s ≡ Ok l → lettered (Some Bytes) letter s ≡ Ok (Some (record_of letter 0 l))
  unfolding lettered record_by
  bytes-record e = rw e refl

  pub bytes-wrong : {c : Cause} → bytes_of 20 s ≡ Err c → lettered (Some Bytes) letter s ≡ Err c
  unfolding lettered record_by
  bytes-wrong e = rw e refl

  pub alone-record : skipped s ≡ [] → lettered (Some Alone) letter s ≡ Ok (Some (record_of letter 0 []))
  unfolding lettered record_by
  alone-record e = rw (last-yes [] s e) refl

  pub alone-wrong : skipped s ≢ [] → lettered (Some Alone) letter s ≡ Err ExtraWord
  unfolding lettered record_by
  alone-wrong n = rw (last-no [] s n) refl

pub unknown : (letter : ℕ) (s : List ℕ) → lettered None letter s ≡ Err UnknownLetter
unfolding lettered
unknown letter s = refl

-- what a line means, by its first word
pub means-blank : (s start : List ℕ) → start ≡ skipped s → length start < 1 → meaning_of s ≡ Ok None
unfolding meaning_of
means-blank s [] e h = simp (none (sym e))
means-blank s (b ∷ r) e h = absurd (omega arith)

by-start : (s : List ℕ) {b : ℕ} {r : List ℕ} → skipped s ≡ b ∷ r → meaning_of s ≡ by_letter (b ∷ r)
unfolding meaning_of empty?
by-start s e = rw e refl

pub means-letter : (s start : List ℕ) → start ≡ skipped s → 1 ≤ length start → {t : List ℕ} → t ≡ drop 1 start → true ≡ ended? t
    → meaning_of s ≡ lettered (form_of (get_or start 0 0)) (get_or start 0 0) t
unfolding by_letter
means-letter s [] e h k f = absurd (omega arith)
means-letter s (b ∷ r) e h k f =
    let end = f ∙ ap ended? k in
    by-start s (sym e) ∙ simp (eq-eqb _ _ (one-byte s (sym e) end)) (ap (lettered (form_of b) b) (behind-one s (sym e) end ∙ sym k))

pub means-word : (s start : List ℕ) → start ≡ skipped s → 1 ≤ length start → {t : List ℕ} → t ≡ drop 1 start → false ≡ ended? t → meaning_of s ≡ Err UnknownLetter
unfolding by_letter
means-word s [] e h k f = absurd (omega arith)
means-word s (b ∷ r) e h k f = by-start s (sym e) ∙ simp (ne_eqb _ _ (more-bytes s (sym e) (f ∙ ap ended? k)))

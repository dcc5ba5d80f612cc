-- The record that a line means is one that the floor program takes.
-- Assumes nothing.
use Rattle.std.proofs.Common.{ℕ, suc, ◌≡◌, ◌+◌, ◌-◌, ◌≤◌, ◌<◌, Option, Some, None, Ok, Err, List, [], ◌∷◌, ◌++◌, length, get_or, replicate, length-append, refl, sym, ap, ◌∙◌, arith}
use native.Mathlib.Nat.{eq-zero-or-pos}
use mathlib.Core.Logic.{⊎_elim}
use lib.Dec.{eqb, ltb}
use lib.ListN.{get_or-eq_default, length-replicate, get_or-replicate}
use lib.Seq.{get_or-append-add}
use borrow.Author.Tests.{eqb-false, ltb-false}
use Rattle.lists.specs.Lists.{padded, empty?}
use Rattle.lists.proofs.Padded.{length-padded, get-padded}
use Rattle.lists.proofs.Ifs.{if-holds}
use Rattle.script_line.specs.Words.{Number, space?, skipped, word, behind, byte_of, signed_of}
use Rattle.script_line.specs.Lines.{Said, Place, between, in_word, in_text, behind_text, with_byte, with_number, bytes_from, bytes_of, installed, helped, only_if_last, event_of, arguments_of, record_of, record_by, named_by, applet_of, lettered, form_of, by_letter, Meaning, meaning_of}
use Rattle.script_line.specs.Records.{Fills, Suits, Taken}
use Rattle.script_line.specs.declared.Kind.{Kind}
use Rattle.script_line.specs.declared.Kind.TheVariants.{Install, Entry, Event, Nothing}
use Rattle.script_line.specs.declared.Form.{Form}
use Rattle.script_line.specs.declared.Form.TheVariants.{Applet, Bytes, Alone}

-- P holds of the bytes, where there are any
unfoldable SaidSo : (List ℕ → Type 0) → Said → Type 0
SaidSo P (Ok l) = P l
SaidSo P (Err c) = Unit

module _ (n : ℕ) where
  unfoldable Few : Said → Type 0
  unfolding SaidSo
  Few x = SaidSo (λ l. length l ≤ n) x

  byte-few : (l : List ℕ) (b : ℕ) (more : List ℕ → Said) → length l ≤ n → ((k : List ℕ) → length k ≤ n → Few (more k)) → Few (with_byte n l b more)
  unfolding with_byte Few SaidSo
  byte-few l b more h f =
      if-holds Few (eqb (length l) n) (λ _. tt)
      (λ e. f (l ++ b ∷ []) (⊎_elim (λ z. let q : length l ≡ n = omega arith in absurd (eqb-false (length l) n e q)) (λ p. omega (arith, length-append l (b ∷ []))) (eq-zero-or-pos (n - length l))))

  number-few : (l : List ℕ) (v : Number) (more : List ℕ → Said) → length l ≤ n → ((k : List ℕ) → length k ≤ n → Few (more k)) → Few (with_number n l v more)
  unfolding with_number Few SaidSo
  number-few l (Ok v) more h f = byte-few l v more h f
  number-few l (Err c) more h f = tt

  -- no more bytes are read than there is room for
  bytes-few : (s : List ℕ) (l : List ℕ) (p : Place) → length l ≤ n → Few (bytes_from n l p s)
  unfolding bytes_from Few SaidSo
  bytes-few [] l between h = h
  bytes-few [] l in_word h = h
  bytes-few [] l in_text h = tt
  bytes-few [] l behind_text h = h
  bytes-few (b ∷ s) l between h =
      if-holds Few (eqb b 0x23) (λ _. h) (λ _. if-holds Few (space? b) (λ _. bytes-few s l between h)
      (λ _. if-holds Few (eqb b 0x22) (λ _. bytes-few s l in_text h) (λ _. number-few l (byte_of (word (b ∷ s))) _ h (λ k g. bytes-few s k in_word g))))
  bytes-few (b ∷ s) l in_word h =
      if-holds Few (eqb b 0x23) (λ _. h) (λ _. if-holds Few (space? b) (λ _. bytes-few s l between h) (λ _. bytes-few s l in_word h))
  bytes-few (b ∷ s) l in_text h =
      if-holds Few (eqb b 0x22) (λ _. bytes-few s l behind_text h) (λ _. byte-few l b _ h (λ k g. bytes-few s k in_text g))
  bytes-few (b ∷ s) l behind_text h =
      if-holds Few (eqb b 0x23) (λ _. h) (λ _. if-holds Few (space? b) (λ _. bytes-few s l between h) (λ _. tt))

-- the bytes are few, and are what a letter of this kind takes
record Filled (kind : Kind) (l : List ℕ) : Type 0 where
  few : length l ≤ 20
  fills : Fills kind (length l) (get_or (padded 21 0 l) 0 0)

installed-filled : (x : Said) → Few 12 x → SaidSo (Filled Install) (installed x)
unfolding Few SaidSo installed
installed-filled (Ok l) h = let e = length-padded 12 0 l h in record { few = omega arith; fills = e }
installed-filled (Err c) h = tt

helped-filled : (x : Said) → Few 20 x → SaidSo (Filled Entry) (helped x)
unfolding Few SaidSo helped
helped-filled (Ok l) h =
    if-holds (SaidSo (Filled Entry)) (eqb (length l) 0) (λ _. tt)
    (λ e. if-holds (SaidSo (Filled Entry)) (ltb 1 (get_or l 0 0)) (λ _. tt)
    (λ f. let n = eqb-false (length l) 0 e in let p : 0 < length l = omega arith in let q : get_or l 0 0 ≤ 1 = ltb-false _ _ f in
    record { few = h; fills = (p, rw (get-padded 21 0 l 0 0 p) q) }))
helped-filled (Err c) h = tt

last-filled : (kind : Kind) (l s : List ℕ) → Filled kind l → SaidSo (Filled kind) (only_if_last l s)
unfolding SaidSo only_if_last
last-filled kind l s f = if-holds (SaidSo (Filled kind)) (empty? (skipped s)) (λ _. f) (λ _. tt)

event-filled : (v : Number) (s : List ℕ) → SaidSo (Filled Event) (event_of v s)
unfolding SaidSo event_of
event-filled (Ok v) s = last-filled Event _ s (record { few = omega arith; fills = refl })
event-filled (Err c) s = tt

arguments-filled : (kind : Kind) (s : List ℕ) → SaidSo (Filled kind) (arguments_of kind s)
unfolding SaidSo arguments_of
arguments-filled Install s = installed-filled (bytes_of 12 s) (bytes-few 12 s [] between (omega arith))
arguments-filled Entry s = helped-filled (bytes_of 20 s) (bytes-few 20 s [] between (omega arith))
arguments-filled Event s = if-holds (SaidSo (Filled Event)) (empty? (skipped s)) (λ _. tt) (λ _. event-filled (signed_of (word (skipped s))) (behind (skipped s)))
arguments-filled Nothing s = last-filled Nothing [] s (record { few = omega arith; fills = refl })

-- behind the arguments every place is 0
zero-behind : (l : List ℕ) (m i : ℕ) → get_or (l ++ replicate m 0) (length l + i) 0 ≡ 0
zero-behind l m i =
    get_or-append-add l (replicate m 0) i 0
    ∙ ⊎_elim (λ e. get_or-eq_default (replicate m 0) 0 (omega (arith, length-replicate {A = ℕ} m 0))) (λ p. get_or-replicate m i 0 0 (omega arith)) (eq-zero-or-pos (m - i))

record-taken : (letter applet : ℕ) (l : List ℕ) → length l ≤ 20 → Suits (form_of letter) applet (length l) (get_or (padded 21 0 l) 0 0) → Taken (record_of letter applet l)
unfolding record_of padded
record-taken letter applet l h x = record {
  long = ap (λ k. suc (suc (suc k))) (length-padded 21 0 l (omega arith));
  few = h;
  suits = x;
  rest = λ k w.
      let j : k ≡ suc (suc (suc (length l + (k - (length l + 3))))) = omega arith in
      ap (λ i. get_or (letter ∷ applet ∷ length l ∷ (l ++ replicate (21 - length l) 0)) i 0) j ∙ zero-behind l (21 - length l) (k - (length l + 3));
}

-- a record that is meant is taken
unfoldable Fine : Meaning → Type 0
Fine (Ok None) = Unit
Fine (Ok (Some s)) = Taken s
Fine (Err c) = Unit

named-fine : (kind : Kind) (letter applet : ℕ) → Some (Applet kind) ≡ form_of letter → (x : Said) → SaidSo (Filled kind) x → Fine (record_by letter applet x)
unfolding SaidSo Fine record_by
named-fine kind letter applet e (Ok l) f = record-taken letter applet l f.few (rw (sym e) f.fills)
named-fine kind letter applet e (Err c) f = tt

alone-fine : (letter : ℕ) (s : List ℕ) → Some Alone ≡ form_of letter → Fine (record_by letter 0 (only_if_last [] s))
unfolding Fine record_by only_if_last
alone-fine letter s e = if-holds (λ x. Fine (record_by letter 0 x)) (empty? (skipped s)) (λ _. record-taken letter 0 [] (omega arith) (rw (sym e) (refl, refl))) (λ _. tt)

bytes-fine : (letter : ℕ) → Some Bytes ≡ form_of letter → (x : Said) → Few 20 x → Fine (record_by letter 0 x)
unfolding SaidSo Few Fine record_by
bytes-fine letter e (Ok l) h = record-taken letter 0 l h (rw (sym e) refl)
bytes-fine letter e (Err c) h = tt

by-applet : (kind : Kind) (letter : ℕ) → Some (Applet kind) ≡ form_of letter → (v : Number) (s : List ℕ) → Fine (named_by kind letter v s)
unfolding Fine named_by
by-applet kind letter e (Ok a) s = named-fine kind letter a e (arguments_of kind s) (arguments-filled kind s)
by-applet kind letter e (Err c) s = tt

by_form : (f : Option Form) (letter : ℕ) → f ≡ form_of letter → (s : List ℕ) → Fine (lettered f letter s)
unfolding Fine lettered
by_form (Some (Applet kind)) letter e s = by-applet kind letter e (applet_of s) (behind (skipped s))
by_form (Some Bytes) letter e s = bytes-fine letter e (bytes_of 20 s) (bytes-few 20 s [] between (omega arith))
by_form (Some Alone) letter e s = alone-fine letter s e
by_form None letter e s = tt

fine : (line : List ℕ) → Fine (meaning_of line)
unfolding Fine meaning_of by_letter
fine line =
    if-holds Fine (empty? (skipped line)) (λ _. tt)
    (λ _. if-holds Fine (eqb (length (word (skipped line))) 1) (λ _. by_form (form_of (get_or (skipped line) 0 0)) (get_or (skipped line) 0 0) refl (behind (skipped line))) (λ _. tt))

-- the floor program takes every record that a line means
pub meant-is-taken : (line s : List ℕ) → meaning_of line ≡ Ok (Some s) → Taken s
unfolding Fine
meant-is-taken line s e = let f : Fine (Ok (Some s)) = rw e at (fine line) in f

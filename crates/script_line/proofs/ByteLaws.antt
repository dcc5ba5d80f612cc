-- Laws of the bytes and texts of a line.
-- Assumes nothing.
use Rattle.std.proofs.Common.{ℕ, suc, ◌≡◌, ◌≢◌, ◌+◌, ◌<◌, ◌≤◌, Bool, true, false, Option, Some, None, List, [], ◌∷◌, ◌++◌, Ok, Err, length, get_or, take, drop, drop-cons, drop_of_length-le, length-drop, add-one, refl, sym, ap, ◌∙◌, arith}
use Rattle.std.specs.List.{prefix_len}
use Rattle.std.proofs.lemmas.List.Sums.{prefix_len-le-length}
use Rattle.std.proofs.lemmas.List.Folds.{length-prefix_len}
use lib.Dec.{eqb}
use borrow.Author.Tests.{eqb-true, eqb-false, eq-eqb, ne_eqb, lt-ltb}
use Rattle.script_line.specs.Words.{space?, in_word?, ended?, skipped, word, behind, nibble_of, joined, byte_of}
use Rattle.script_line.specs.Lines.{between, in_word, in_text, behind_text, with_byte, with_number, bytes_from}
use Rattle.script_line.specs.declared.Cause.{Cause}
use Rattle.script_line.specs.declared.Cause.TheVariants.{BadByte, ManyBytes, OpenQuote, MissingSpace}

module _ (n : ℕ) (l : List ℕ) where
  -- reading on in a word is reading on behind it
  in-word : (s : List ℕ) → bytes_from n l in_word s ≡ bytes_from n l between (behind s)
  unfolding bytes_from behind in_word?
  in-word [] = refl
  in-word (b ∷ s) = go (eqb b 0x23) refl (space? b) refl (in-word s)
    where
      go : (t : Bool) → eqb b 0x23 ≡ t → (u : Bool) → space? b ≡ u → bytes_from n l in_word s ≡ bytes_from n l between (behind s)
          → bytes_from n l in_word (b ∷ s) ≡ bytes_from n l between (behind (b ∷ s))
      go true e u f more = simp e
      go false e true f more = simp (e, f)
      go false e false f more = let k : 1 + prefix_len in_word? s ≡ suc (prefix_len in_word? s) = omega arith in simp (e, f) (rw k more)

  -- spaces before a word are of no account
  pub skip-bytes : (s : List ℕ) → bytes_from n l between (skipped s) ≡ bytes_from n l between s
  unfolding bytes_from skipped
  skip-bytes [] = refl
  skip-bytes (b ∷ s) = go (eqb b 0x23) refl (space? b) refl (skip-bytes s)
    where
      go : (t : Bool) → eqb b 0x23 ≡ t → (u : Bool) → space? b ≡ u → bytes_from n l between (skipped s) ≡ bytes_from n l between s
          → bytes_from n l between (skipped (b ∷ s)) ≡ bytes_from n l between (b ∷ s)
      go true e u f more = simp e
      go false e true f more = simp (e, f) more
      go false e false f more = simp (e, f)

  closed-yes : (s : List ℕ) → ended? s ≡ true → bytes_from n l behind_text s ≡ bytes_from n l between s
  unfolding bytes_from ended?
  closed-yes [] h = refl
  closed-yes (b ∷ s) h = go (eqb b 0x23) refl
    where
      go : (t : Bool) → eqb b 0x23 ≡ t → bytes_from n l behind_text (b ∷ s) ≡ bytes_from n l between (b ∷ s)
      go true e = simp e
      go false e = let f : space? b ≡ true = simp e at h in simp (e, f)

  closed-no : (s : List ℕ) → ended? s ≡ false → bytes_from n l behind_text s ≡ Err MissingSpace
  unfolding bytes_from ended?
  closed-no [] h = cc
  closed-no (b ∷ s) h = go (eqb b 0x23) refl
    where
      go : (t : Bool) → eqb b 0x23 ≡ t → bytes_from n l behind_text (b ∷ s) ≡ Err MissingSpace
      go true e = let z : ◌≡◌ {A = Bool} true false = simp e at h in cc
      go false e = let f : space? b ≡ false = simp e at h in simp (e, f)

-- the text that a quote closes, by the byte at a place of it
module _ (n : ℕ) (l s : List ℕ) {at : ℕ} where
  here : at < length s → drop at s ≡ get_or s at 0 ∷ drop (at + 1) s
  here h = rw add-one (drop-cons s at 0 h)

  pub text-open : length s ≤ at → bytes_from n l in_text (drop at s) ≡ Err OpenQuote
  unfolding bytes_from
  text-open h = rw (drop_of_length-le s h) refl

  text-ends : at < length s → get_or s at 0 ≡ 0x22 → bytes_from n l in_text (drop at s) ≡ bytes_from n l behind_text (drop (at + 1) s)
  unfolding bytes_from
  text-ends h e = rw (here h, e) refl

  pub text-closed : at < length s → get_or s at 0 ≡ 0x22 → {t : List ℕ} → t ≡ drop (at + 1) s → true ≡ ended? t → bytes_from n l in_text (drop at s) ≡ bytes_from n l between t
  text-closed h e {t} k a = text-ends h e ∙ ap (bytes_from n l behind_text) (sym k) ∙ closed-yes n l t (sym a)

  pub text-unclosed : at < length s → get_or s at 0 ≡ 0x22 → {t : List ℕ} → t ≡ drop (at + 1) s → false ≡ ended? t → bytes_from n l in_text (drop at s) ≡ Err MissingSpace
  text-unclosed h e {t} k a = text-ends h e ∙ ap (bytes_from n l behind_text) (sym k) ∙ closed-no n l t (sym a)

  pub text-full : at < length s → get_or s at 0 ≢ 0x22 → length l ≡ n → bytes_from n l in_text (drop at s) ≡ Err ManyBytes
  unfolding bytes_from with_byte
  text-full h q f = rw (here h) (simp (ne_eqb _ _ q, eq-eqb _ _ f))

  pub text-more : at < length s → get_or s at 0 ≢ 0x22 → length l ≢ n → bytes_from n l in_text (drop at s) ≡ bytes_from n (l ++ get_or s at 0 ∷ []) in_text (drop (at + 1) s)
  unfolding bytes_from with_byte
  text-more h q f = rw (here h) (simp (ne_eqb _ _ q, ne_eqb _ _ f))

-- what is left behind spaces starts with a byte of a word
record InWord (b : ℕ) : Type 0 where
  no-hash : eqb b 0x23 ≡ false
  no-space : space? b ≡ false

starts-word : (s : List ℕ) {b : ℕ} {t : List ℕ} → skipped s ≡ b ∷ t → InWord b
unfolding skipped
starts-word [] e = cc
starts-word (x ∷ s) {b} {t} e = go (eqb x 0x23) refl (space? x) refl (starts-word s)
  where
    go : (u : Bool) → eqb x 0x23 ≡ u → (v : Bool) → space? x ≡ v → (skipped s ≡ b ∷ t → InWord b) → InWord b
    go true f v g more = let z : ◌≡◌ {A = List ℕ} [] (b ∷ t) = simp f at e in cc
    go false f true g more = more (simp (f, g) at e)
    go false f false g more = let z : x ∷ s ≡ b ∷ t = simp (f, g) at e in let q : x ≡ b = cc in record { no-hash = rw (sym q) f; no-space = rw (sym q) g }

-- a word ends where it has no byte more
pub ended-is : (s : List ℕ) → eqb (prefix_len in_word? s) 0 ≡ ended? s
unfolding ended? in_word?
ended-is [] = refl
ended-is (b ∷ s) = go (eqb b 0x23) refl (space? b) refl
  where
    go : (t : Bool) → eqb b 0x23 ≡ t → (u : Bool) → space? b ≡ u → eqb (prefix_len in_word? (b ∷ s)) 0 ≡ ended? (b ∷ s)
    go true e u f = simp e
    go false e true f = simp (e, f)
    go false e false f = let k : 1 + prefix_len in_word? s ≢ 0 = omega arith in simp (e, f) (ne_eqb _ 0 k)

-- nothing of a word stands where a word ends
none-in-word : (s : List ℕ) → true ≡ ended? s → prefix_len in_word? s ≡ 0
none-in-word s h = eqb-true _ 0 (ended-is s ∙ sym h)

some-in-word : (s : List ℕ) → false ≡ ended? s → prefix_len in_word? s ≢ 0
some-in-word s h = eqb-false _ 0 (ended-is s ∙ sym h)

-- a byte of a word, and one that is none
word-longer : (b : ℕ) (s : List ℕ) → in_word? b ≡ true → prefix_len in_word? (b ∷ s) ≡ suc (prefix_len in_word? s)
word-longer b s h = let k : 1 + prefix_len in_word? s ≡ suc (prefix_len in_word? s) = omega arith in simp h k

word-none : (b : ℕ) (s : List ℕ) → in_word? b ≡ false → prefix_len in_word? (b ∷ s) ≡ 0
word-none b s h = simp h

in-word-yes : {b : ℕ} → InWord b → in_word? b ≡ true
unfolding in_word?
in-word-yes w = simp (w.no-hash, w.no-space)

-- the word that starts with a byte of a word has one byte where it ends behind that, and more where it does not
module _ (s : List ℕ) {b : ℕ} {r : List ℕ} (e : skipped s ≡ b ∷ r) where
  in-word-first : in_word? b ≡ true
  in-word-first = in-word-yes (starts-word s e)

  pub one-byte : true ≡ ended? r → length (word (b ∷ r)) ≡ 1
  unfolding word
  one-byte h = length-prefix_len in_word? (b ∷ r) ∙ word-longer b r in-word-first ∙ ap suc (none-in-word r h)

  pub more-bytes : false ≡ ended? r → length (word (b ∷ r)) ≢ 1
  unfolding word
  more-bytes h z = let n = some-in-word r h in omega (arith, length-prefix_len in_word? (b ∷ r), word-longer b r in-word-first, z, n)

  pub behind-one : true ≡ ended? r → behind (b ∷ r) ≡ r
  unfolding behind
  behind-one h = ap (λ n. drop n (b ∷ r)) (word-longer b r in-word-first ∙ ap suc (none-in-word r h))

pub skipped-shorter : (s : List ℕ) → length (skipped s) ≤ length s
unfolding skipped
skipped-shorter [] = omega arith
skipped-shorter (b ∷ s) = go (eqb b 0x23) refl (space? b) refl (skipped-shorter s)
  where
    go : (t : Bool) → eqb b 0x23 ≡ t → (u : Bool) → space? b ≡ u → length (skipped s) ≤ length s → length (skipped (b ∷ s)) ≤ length (b ∷ s)
    go true e u f more = simp e (omega arith)
    go false e true f more = simp (e, f) (omega arith)
    go false e false f more = simp (e, f) (omega arith)

-- what is in no word is no digit
no-digit : (b : ℕ) → in_word? b ≡ false → nibble_of b ≡ None
unfolding in_word? space? nibble_of
no-digit b h = go (eqb b 0x23) refl (eqb b 0x20) refl (eqb b 0x09) refl
  where
    small : {c : ℕ} → eqb b c ≡ true → c < 0x30 → nibble_of b ≡ None
    small {c} e f = let l : b < 0x30 = omega (arith, eqb-true b c e) in simp (lt-ltb _ _ l)

    go : (t : Bool) → eqb b 0x23 ≡ t → (u : Bool) → eqb b 0x20 ≡ u → (v : Bool) → eqb b 0x09 ≡ v → nibble_of b ≡ None
    go true e u f v g = small e (omega arith)
    go false e true f v g = small f (omega arith)
    go false e false f true g = small g (omega arith)
    go false e false f false g = let z : ◌≡◌ {A = Bool} true false = simp (e, f, g) at h in cc

joined-none : (x : Option ℕ) → joined x None ≡ Err BadByte
unfolding joined
joined-none (Some h) = refl
joined-none None = refl

-- the byte of a word, by its first bytes
module _ (s : List ℕ) {high : ℕ} {r : List ℕ} (e : skipped s ≡ high ∷ r) where
  byte-short : length r ≡ 0 → byte_of (word (high ∷ r)) ≡ Err BadByte
  unfolding byte_of word
  byte-short h =
      let n : prefix_len in_word? r ≤ length r = prefix_len-le-length in_word? r in
      let k : length (word (high ∷ r)) ≢ 2 = λ z. omega (arith, n, h, length-prefix_len in_word? (high ∷ r), word-longer high r (in-word-first s e), z) in
      simp (ne_eqb _ _ k)

module _ (s : List ℕ) {high low : ℕ} {left : List ℕ} (e : skipped s ≡ high ∷ low ∷ left) where
  byte-long : false ≡ ended? left → byte_of (word (high ∷ low ∷ left)) ≡ Err BadByte
  unfolding byte_of word
  byte-long h = go (in_word? low) refl
    where
      first : prefix_len in_word? (high ∷ low ∷ left) ≡ suc (prefix_len in_word? (low ∷ left))
      first = word-longer high (low ∷ left) (in-word-first s e)

      not-two : prefix_len in_word? (low ∷ left) ≢ 1 → byte_of (word (high ∷ low ∷ left)) ≡ Err BadByte
      not-two n =
          let k : length (word (high ∷ low ∷ left)) ≢ 2 = λ z. n (omega (arith, length-prefix_len in_word? (high ∷ low ∷ left), first, z)) in
          simp (ne_eqb _ _ k)

      go : (t : Bool) → in_word? low ≡ t → byte_of (word (high ∷ low ∷ left)) ≡ Err BadByte
      go true f = let n = some-in-word left h in not-two (λ z. n (omega (arith, word-longer low left f, z)))
      go false f = not-two (λ z. omega (arith, word-none low left f, z))

  byte-two : true ≡ ended? left → byte_of (word (high ∷ low ∷ left)) ≡ joined (nibble_of high) (nibble_of low)
  unfolding byte_of word
  byte-two h = go (in_word? low) refl
    where
      first : prefix_len in_word? (high ∷ low ∷ left) ≡ suc (prefix_len in_word? (low ∷ left))
      first = word-longer high (low ∷ left) (in-word-first s e)

      go : (t : Bool) → in_word? low ≡ t → byte_of (word (high ∷ low ∷ left)) ≡ joined (nibble_of high) (nibble_of low)
      go true f =
          let n : prefix_len in_word? (high ∷ low ∷ left) ≡ 2 = first ∙ ap suc (word-longer low left f ∙ ap suc (none-in-word left h)) in
          ap (λ n. byte_of (take n (high ∷ low ∷ left))) n
      go false f =
          let n : prefix_len in_word? (high ∷ low ∷ left) ≡ 1 = first ∙ ap suc (word-none low left f) in
          ap (λ n. byte_of (take n (high ∷ low ∷ left))) n ∙ sym (ap (joined (nibble_of high)) (no-digit low f) ∙ joined-none (nibble_of high))

-- an item of a line, by what is left of the line behind its spaces
module _ (n : ℕ) (s : List ℕ) where
  pub item-none : (start : List ℕ) → start ≡ skipped s → length start < 1 → bytes_from n [] between s ≡ Ok []
  unfolding bytes_from
  item-none [] e h = sym (skip-bytes n [] s) ∙ ap (bytes_from n [] between) (sym e)
  item-none (b ∷ t) e h = absurd (omega arith)

  pub item-text : (start : List ℕ) → start ≡ skipped s → 0 < length start → get_or start 0 0 ≡ 0x22 → {t : List ℕ} → t ≡ drop 1 start → bytes_from n [] between s ≡ bytes_from n [] in_text t
  unfolding bytes_from space?
  item-text [] e h q k = absurd (omega arith)
  item-text (b ∷ r) e h q k = sym (skip-bytes n [] s) ∙ ap (bytes_from n [] between) (sym e) ∙ rw (q, k) refl

  item-word : (start : List ℕ) {b : ℕ} {r : List ℕ} → start ≡ skipped s → start ≡ b ∷ r → b ≢ 0x22
      → bytes_from n [] between s ≡ with_number n [] (byte_of (word (b ∷ r))) (λ k. bytes_from n k in_word r)
  unfolding bytes_from
  item-word start {b} {r} e f q =
      let w = starts-word s (sym e ∙ f) in
      sym (skip-bytes n [] s) ∙ ap (bytes_from n [] between) (sym e ∙ f) ∙ simp (w.no-hash, w.no-space, ne_eqb b 0x22 q)

  item-wrong : {b : ℕ} {r : List ℕ} {c : Cause} → b ∷ r ≡ skipped s → b ≢ 0x22 → byte_of (word (b ∷ r)) ≡ Err c → bytes_from n [] between s ≡ Err c
  unfolding with_number
  item-wrong {b} {r} e q f = item-word (b ∷ r) e refl q ∙ rw f refl

  pub item-short : (start : List ℕ) → start ≡ skipped s → length start ≡ 1 → get_or start 0 0 ≢ 0x22 → bytes_from n [] between s ≡ Err BadByte
  item-short [] e h q = absurd (omega arith)
  item-short (b ∷ r) e h q = item-wrong e q (byte-short s (sym e) (omega arith))

  pub item-long : (start : List ℕ) → start ≡ skipped s → 2 ≤ length start → get_or start 0 0 ≢ 0x22 → {t : List ℕ} → t ≡ drop 2 start → false ≡ ended? t → bytes_from n [] between s ≡ Err BadByte
  item-long [] e h q k f = absurd (omega arith)
  item-long (b ∷ []) e h q k f = absurd (omega arith)
  item-long (b ∷ x ∷ r) e h q k f = item-wrong e q (byte-long s (sym e) (f ∙ ap ended? k))

  -- a word of two bytes
  module _ (start : List ℕ) (e : start ≡ skipped s) (h : 2 ≤ length start) (q : get_or start 0 0 ≢ 0x22) {t : List ℕ} (k : t ≡ drop 2 start) (end : true ≡ ended? t) where
    pub item-bad : {c : Cause} → Err c ≡ joined (nibble_of (get_or start 0 0)) (nibble_of (get_or start 1 0)) → bytes_from n [] between s ≡ Err c
    item-bad f = go start e h q k f
      where
        go : (start : List ℕ) → start ≡ skipped s → 2 ≤ length start → get_or start 0 0 ≢ 0x22 → t ≡ drop 2 start → {c : Cause} → Err c ≡ joined (nibble_of (get_or start 0 0)) (nibble_of (get_or start 1 0)) → bytes_from n [] between s ≡ Err c
        go [] e h q k f = absurd (omega arith)
        go (b ∷ []) e h q k f = absurd (omega arith)
        go (b ∷ x ∷ r) e h q k f = item-wrong e q (byte-two s (sym e) (end ∙ ap ended? k) ∙ sym f)

    pub item-full : {v : ℕ} → Ok v ≡ joined (nibble_of (get_or start 0 0)) (nibble_of (get_or start 1 0)) → n ≡ 0 → bytes_from n [] between s ≡ Err ManyBytes
    unfolding with_number with_byte behind
    item-full f z = go start e h q k f
      where
        go : (start : List ℕ) → start ≡ skipped s → 2 ≤ length start → get_or start 0 0 ≢ 0x22 → t ≡ drop 2 start → {v : ℕ} → Ok v ≡ joined (nibble_of (get_or start 0 0)) (nibble_of (get_or start 1 0)) → bytes_from n [] between s ≡ Err ManyBytes
        go [] e h q k f = absurd (omega arith)
        go (b ∷ []) e h q k f = absurd (omega arith)
        go (b ∷ x ∷ r) e h q k f = item-word (b ∷ x ∷ r) e refl q ∙ rw (byte-two s (sym e) (end ∙ ap ended? k) ∙ sym f) (simp (eq-eqb 0 n (sym z)))

    pub item-byte : {v : ℕ} → Ok v ≡ joined (nibble_of (get_or start 0 0)) (nibble_of (get_or start 1 0)) → 0 < n → bytes_from n [] between s ≡ bytes_from n (v ∷ []) between t
    unfolding with_number with_byte behind
    item-byte f z = go start e h q k f
      where
        go : (start : List ℕ) → start ≡ skipped s → 2 ≤ length start → get_or start 0 0 ≢ 0x22 → t ≡ drop 2 start → {v : ℕ} → Ok v ≡ joined (nibble_of (get_or start 0 0)) (nibble_of (get_or start 1 0)) → bytes_from n [] between s ≡ bytes_from n (v ∷ []) between t
        go [] e h q k f = absurd (omega arith)
        go (b ∷ []) e h q k f = absurd (omega arith)
        go (b ∷ x ∷ r) e h q k {v} f =
            let m : 0 ≢ n = λ i. omega arith in
            let in-two : in_word? x ≡ true = two (in_word? x) refl in
            let past : behind (x ∷ r) ≡ t = behind-two in-two ∙ sym k in
            item-word (b ∷ x ∷ r) e refl q ∙ rw (byte-two s (sym e) (end ∙ ap ended? k) ∙ sym f) (simp (ne_eqb 0 n m) (in-word n (v ∷ []) (x ∷ r) ∙ ap (bytes_from n (v ∷ []) between) past))
          where
            two : (u : Bool) → in_word? x ≡ u → in_word? x ≡ true
            two true g = g
            two false g = let z : Ok v ≡ Err BadByte = f ∙ ap (joined (nibble_of b)) (no-digit x g) ∙ joined-none (nibble_of b) in cc

            behind-two : in_word? x ≡ true → behind (x ∷ r) ≡ r
            behind-two g = ap (λ n. drop n (x ∷ r)) (word-longer x r g ∙ ap suc (none-in-word r (end ∙ ap ended? k)))

pub two-shorter : (s start : List ℕ) → start ≡ skipped s → 2 ≤ length start → length (drop 2 start) < length s
two-shorter s start e h = omega (arith, length-drop 2 start, ap length e, skipped-shorter s)

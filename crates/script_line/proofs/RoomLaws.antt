-- Laws of bytes put into a room, one behind the other: what they say together, and what stands behind them.
-- Assumes nothing.
use Rattle.std.proofs.Common.{ℕ, ◌≡◌, ◌≢◌, ◌+◌, ◌-◌, ◌≤◌, ◌<◌, Bool, true, false, Ok, Err, List, [], ◌∷◌, ◌++◌, length, take, drop, replicate, set, length-append, length-drop, drop_of_length-le, append_assoc, refl, sym, ap, ◌∙◌, arith}
use Rattle.std.specs.Prelude.{if◌then◌else◌}
use Rattle.std.proofs.lemmas.List.{append-nil, drop-append-le, drop-drop, drop-replicate, drop-set-lt, length-take-le, take-append-drop, take-append-le, take_at, drop_at, take_more_set}
use Rattle.std.proofs.Math.Seq.{take-append-add, drop-append-add}
use lib.Dec.{eqb}
use borrow.Author.Tests.{eqb-true, eqb-false, eq-eqb, ne_eqb}
use borrow.Rule.Slice.PartMut.{put_mid, post_of}
use Rattle.lists.specs.Lists.{padded}
use Rattle.script_line.specs.Words.{Number, space?, word, byte_of}
use Rattle.script_line.specs.Lines.{Said, Place, between, in_word, in_text, behind_text, with_byte, with_number, bytes_from, bytes_of, arguments_of, record_of}
use Rattle.script_line.specs.Records.{Held, HeldSoFar}
use Rattle.script_line.specs.declared.Cause.{Cause}
use Rattle.script_line.specs.declared.Kind.TheVariants.{Install, Event}
use Rattle.script_line.proofs.LineLaws.{install-is}

-- the bytes l, and behind them those that were said
unfoldable pub after : List ℕ → Said → Said
after l (Ok k) = Ok (l ++ k)
after l (Err c) = Err c

if-after : (l : List ℕ) (t : Bool) {x y : Said} (u v : Said) → x ≡ after l u → y ≡ after l v → (if t then x else y) ≡ after l (if t then u else v)
if-after l true u v a b = a
if-after l false u v a b = b

-- what is read behind l is what is read alone, with l before it
module _ (n : ℕ) (l : List ℕ) where
  byte-after : (k : List ℕ) (b : ℕ) (x y : List ℕ → Said) → ((j : List ℕ) → x (l ++ j) ≡ after l (y j)) → with_byte (length l + n) (l ++ k) b x ≡ after l (with_byte n k b y)
  unfolding with_byte after
  byte-after k b x y f = go (eqb (length k) n) refl
    where
      go : (t : Bool) → eqb (length k) n ≡ t → with_byte (length l + n) (l ++ k) b x ≡ after l (with_byte n k b y)
      go true e = let z : length (l ++ k) ≡ length l + n = omega (arith, length-append l k, eqb-true _ _ e) in simp (e, eq-eqb _ _ z)
      go false e =
          let m = eqb-false _ _ e in
          let z : length (l ++ k) ≢ length l + n = λ w. m (omega (arith, length-append l k, w)) in
          simp (e, ne_eqb _ _ z) (ap x (append_assoc l k (b ∷ [])) ∙ f (k ++ b ∷ []))

  number-after : (k : List ℕ) (v : Number) (x y : List ℕ → Said) → ((j : List ℕ) → x (l ++ j) ≡ after l (y j)) → with_number (length l + n) (l ++ k) v x ≡ after l (with_number n k v y)
  unfolding with_number after
  number-after k (Ok v) x y f = byte-after k v x y f
  number-after k (Err c) x y f = refl

  bytes-after : (s k : List ℕ) (p : Place) → bytes_from (length l + n) (l ++ k) p s ≡ after l (bytes_from n k p s)
  unfolding bytes_from after
  bytes-after [] k between = refl
  bytes-after [] k in_word = refl
  bytes-after [] k in_text = refl
  bytes-after [] k behind_text = refl
  bytes-after (b ∷ s) k between =
      if-after l (eqb b 0x23) _ _ refl (if-after l (space? b) _ _ (bytes-after s k between)
      (if-after l (eqb b 0x22) _ _ (bytes-after s k in_text) (number-after k (byte_of (word (b ∷ s))) _ _ (λ j. bytes-after s j in_word))))
  bytes-after (b ∷ s) k in_word =
      if-after l (eqb b 0x23) _ _ refl (if-after l (space? b) _ _ (bytes-after s k between) (bytes-after s k in_word))
  bytes-after (b ∷ s) k in_text =
      if-after l (eqb b 0x22) _ _ (bytes-after s k behind_text) (byte-after k b _ _ (λ j. bytes-after s j in_text))
  bytes-after (b ∷ s) k behind_text =
      if-after l (eqb b 0x23) _ _ refl (if-after l (space? b) _ _ (bytes-after s k between) refl)

  pub read-after : (s : List ℕ) {x : Said} → bytes_from n [] between s ≡ x → bytes_from (length l + n) l between s ≡ after l x
  read-after s {x} e = ap (λ k. bytes_from (length l + n) k between s) (sym (append-nil l)) ∙ bytes-after s [] between ∙ ap (after l) e

-- no byte is read yet
pub read-none : (x : Said) (p : Place) (s room : List ℕ) → x ≡ bytes_from (length room) [] p s → HeldSoFar x p s 0 room room
read-none x p s room e = record { few = omega arith; on = e; kept = refl }

-- a byte more at the place behind those read so far
module _ {x : Said} {p : Place} {s before room : List ℕ} {i : ℕ} (r : HeldSoFar x p s i before room) (long : length room ≡ length before) (some : i < length room) where
  pub byte-more : (q : Place) (t : List ℕ) (b : ℕ) → bytes_from (length before) (take i room) p s ≡ bytes_from (length before) (take i room ++ b ∷ []) q t → HeldSoFar x q t (i + 1) before (set room i b)
  byte-more q t b e = record {
    few = omega arith;
    on = r.on ∙ e ∙ ap (λ k. bytes_from (length before) k q t) (sym (take_more_set room i b some));
    kept = drop-set-lt (i + 1) room i b (omega arith) ∙ sym (drop-drop 1 i room) ∙ ap (drop 1) r.kept ∙ drop-drop 1 i before;
  }

-- the next bytes go into what is left of the room, the part from c on
module _ {x : Said} {s before room : List ℕ} {c : ℕ} (r : HeldSoFar x between s c before room) (long : length room ≡ length before) {part : List ℕ} (here : part ≡ drop c room) where
  shorter : length (take c room) ≡ c
  shorter = let h : c ≤ length room = omega (arith, r.few) in length-take-le c room h

  part-long : length part ≡ length room - c
  part-long = omega (arith, ap length here, length-drop c room)

  whole : length (take c room) + length part ≡ length before
  whole = omega (arith, shorter, part-long, r.few)

  on-after : {y : Said} → bytes_of (length part) s ≡ y → x ≡ after (take c room) y
  on-after {y} e = r.on ∙ ap (λ m. bytes_from m (take c room) between s) (sym whole) ∙ read-after (length part) (take c room) s e

  pub said-wrong : {e : Cause} → bytes_of (length part) s ≡ Err e → x ≡ Err e
  unfolding after
  said-wrong e = on-after e

  module _ (now : List ℕ) where
    all-behind : now ++ post_of c (length room - c) room ≡ now
    all-behind = ap (λ t. now ++ t) (drop_of_length-le (drop c room) (omega (arith, length-drop c room))) ∙ append-nil now

    put-front : (k : ℕ) → take (c + k) (put_mid c (length room - c) room now) ≡ take c room ++ take k now
    put-front k =
        ap (λ i. take (i + k) (put_mid c (length room - c) room now)) (sym shorter)
        ∙ take-append-add (take c room) (now ++ post_of c (length room - c) room) k ∙ ap (λ l. take c room ++ take k l) all-behind

    put-back : (k : ℕ) → drop (c + k) (put_mid c (length room - c) room now) ≡ drop k now
    put-back k =
        ap (λ i. drop (i + k) (put_mid c (length room - c) room now)) (sym shorter)
        ∙ drop-append-add (take c room) (now ++ post_of c (length room - c) room) k ∙ ap (drop k) all-behind

    pub read-more : {t : List ℕ} {k : ℕ} → HeldSoFar (bytes_of (length part) s) between t k part now → HeldSoFar x between t (c + k) before (put_mid c (length room - c) room now)
    read-more {t} {k} q = record {
      few = omega (arith, q.few, part-long, r.few);
      on =
          on-after q.on ∙ sym (bytes-after (length part) (take c room) t (take k now) between) ∙ ap (λ m. bytes_from m (take c room ++ take k now) between t) whole
          ∙ ap (λ l. bytes_from (length before) l between t) (sym (put-front k));
      kept = put-back k ∙ q.kept ∙ ap (drop k) (here ∙ r.kept) ∙ drop-drop k c before;
    }

    pub read-all : bytes_of (length part) s ≡ Ok [] → now ≡ part → Held x c before (put_mid c (length room - c) room now)
    unfolding after
    read-all e f =
        let same : room ≡ put_mid c (length room - c) room now = sym (take-append-drop c room) ∙ ap (λ l. take c room ++ l) (sym (f ∙ here) ∙ sym all-behind) in
        record {
          few = r.few;
          said = on-after e ∙ ap Ok (append-nil (take c room)) ∙ ap (λ l. Ok (take c l)) same;
          kept = ap (drop c) (sym same) ∙ r.kept;
        }

-- the record that the bytes of a room of zeros make behind its head
pub sealed-is : (letter applet n : ℕ) (room : List ℕ) → n ≤ length room → length room ≡ 20 → drop n room ≡ drop n (replicate 20 0)
    → letter ∷ applet ∷ n ∷ (room ++ 0 ∷ []) ≡ record_of letter applet (take n room)
unfolding record_of padded
sealed-is letter applet n room few long kept =
    let counted : length (take n room) ≡ n = length-take-le n room few in
    let split : room ++ 0 ∷ [] ≡ take n room ++ drop n (room ++ 0 ∷ []) = sym (take-append-drop n (room ++ 0 ∷ [])) ∙ ap (λ l. l ++ drop n (room ++ 0 ∷ [])) (take-append-le n room (0 ∷ []) few) in
    let zeros : drop n (room ++ 0 ∷ []) ≡ drop n (replicate 21 0) =
    drop-append-le n room (0 ∷ []) few ∙ ap (λ l. l ++ 0 ∷ []) kept ∙ sym (drop-append-le n (replicate 20 0) (0 ∷ []) (omega arith)) in
    rw counted (ap (λ l. letter ∷ applet ∷ n ∷ l) (split ∙ ap (λ l. take n room ++ l) (zeros ∙ drop-replicate n 21 0)))

-- twelve bytes of an install, where a room of zeros has those that are written at its front
pub install-held : (s now : List ℕ) {n : ℕ} → length now ≡ 12 → Held (bytes_of 12 s) n (replicate 12 0) now → Held (arguments_of Install s) 12 (replicate 20 0) (now ++ replicate 8 0)
install-held s now {n} long g =
    let few : n ≤ length now = omega (arith, g.few) in
    let counted : length (take n now) ≡ n = length-take-le n now few in
    let whole : take n now ++ drop (length (take n now)) (replicate 12 0) ≡ now = rw counted (ap (λ l. take n now ++ l) (sym g.kept) ∙ take-append-drop n now) in
    record {
      few = omega arith;
      said = install-is s g.said ∙ ap Ok (whole ∙ sym (take_at now (replicate 8 0) 12 long));
      kept = drop_at now (replicate 8 0) 12 long;
    }

-- two bytes of an event value at the front of a room of zeros
pub event-held : (s now : List ℕ) → length now ≡ 2 → Ok now ≡ arguments_of Event s → Held (arguments_of Event s) 2 (replicate 20 0) (now ++ replicate 18 0)
event-held s now long e = record {
  few = omega arith;
  said = sym e ∙ ap Ok (sym (take_at now (replicate 18 0) 2 long));
  kept = drop_at now (replicate 18 0) 2 long;
}

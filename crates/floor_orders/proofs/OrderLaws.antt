-- Laws of records: which letters make a call, and the parts of a record.
-- Assumes nothing.
use Prim.Native.Nat.{ℕ, ◌+◌, ◌≤◌, ◌<◌}
use Prim.Native.Char.{code}
use native.Mathlib.Omega.{arith}
use mathlib.Core.Path.{◌≡◌, refl, sym, ap, ◌∙◌}
use mathlib.Core.Bool.{Bool, true, false, ◌&&◌, false≢true}
use mathlib.Core.List.{List, [], ◌∷◌}
use lib.ListN.{length, drop, length-drop}
use lib.Seq.{length-take-le}
use borrow.Author.Tests.{eq-eqb, ne_eqb, le-leb, lt-leb, eqb-true, leb-true}
use Rattle.std.proofs.lemmas.Option.{same_Some, none-some}
use Rattle.lists.specs.Tests.{◌≤?◌}
use Rattle.std.specs.Prelude.{Some, None, ◌==◌}
use Rattle.std.specs.List.{list_all}
use Rattle.lists.specs.Lists.{every?}
use Rattle.lists.proofs.Truth.{and_left, and_right}
use Rattle.rules.specs.Bytes.{byte}
use Rattle.rules.specs.Calls.{Call}
use Rattle.rules.specs.Floor.{Order, call, no_call, only_if, order_by, filled, order_of}
use Rattle.floor_orders.specs.Orders.{arguments_of, marks_help, makes_call, call_letter}

-- a letter that takes just what meets a test makes a call where the test holds
pub made-if : (b : Bool) (c : Call) → b ≡ makes_call (only_if b c)
unfolding makes_call
made-if true c = refl
made-if false c = refl

unmade : (o : Order) → makes_call o ≡ false → o ≡ no_call
unfolding makes_call
unmade (call c) e = absurd (false≢true (sym e))
unmade no_call e = refl

-- what is so of a letter is so of what equals it
pub by-letter : (a : ℕ) (l : List ℕ) {x : ℕ} (y : ℕ) {b : Bool} → x ≡ y → b ≡ makes_call (order_by y a (length l) l) → b ≡ makes_call (order_by x a (length l) l)
by-letter a l y e h = rw e h

-- no argument and no applet
pub then-none : (n a : ℕ) → n ≡ 0 → (a == 0) ≡ (n == 0 && a == 0)
then-none n a e = rw (eq-eqb n 0 e) refl

pub else-some : (n a : ℕ) → (n ≡ 0 → ⊥) → (n == 0) ≡ (n == 0 && a == 0)
else-some n a h = rw (ne_eqb n 0 h) refl

-- none of the fourteen letters
abbrev pub NoLetter : ℕ → Type 0
NoLetter x =
    (((((((((((((Unit {0} × (x ≡ code "I" → ⊥)) × (x ≡ code "M" → ⊥)) × (x ≡ code "E" → ⊥)) × (x ≡ code "C" → ⊥)) × (x ≡ code "P" → ⊥)) × (x ≡ code "S" → ⊥)) × (x ≡ code "O" → ⊥))
    × (x ≡ code "N" → ⊥)) × (x ≡ code "W" → ⊥)) × (x ≡ code "R" → ⊥)) × (x ≡ code "T" → ⊥)) × (x ≡ code "D" → ⊥)) × (x ≡ code "L" → ⊥)) × (x ≡ code "U" → ⊥)

-- such a letter makes no call
pub unknown : (x a n : ℕ) (l : List ℕ) → NoLetter x → order_by x a n l ≡ no_call
unfolding order_by
unknown x a n l h =
    rw (ne_eqb x (code "I") h.0.0.0.0.0.0.0.0.0.0.0.0.0.1, ne_eqb x (code "M") h.0.0.0.0.0.0.0.0.0.0.0.0.1, ne_eqb x (code "E") h.0.0.0.0.0.0.0.0.0.0.0.1, ne_eqb x (code "C") h.0.0.0.0.0.0.0.0.0.0.1, ne_eqb x (code "P") h.0.0.0.0.0.0.0.0.0.1, ne_eqb x (code "S") h.0.0.0.0.0.0.0.0.1, ne_eqb x (code "O") h.0.0.0.0.0.0.0.1, ne_eqb x (code "N") h.0.0.0.0.0.0.1, ne_eqb x (code "W") h.0.0.0.0.0.1, ne_eqb x (code "R") h.0.0.0.0.1, ne_eqb x (code "T") h.0.0.0.1, ne_eqb x (code "D") h.0.0.1, ne_eqb x (code "L") h.0.1, ne_eqb x (code "U") h.1) refl

pub help-first : (l : List ℕ) → marks_help l ≡ (1 ≤? length l && byte l 0 ≤? 1)
unfolding marks_help
help-first [] = refl
help-first (x ∷ l) = rw (le-leb 1 (length (x ∷ l)) (omega arith)) refl

each : (l : List ℕ) → list_all (λ x. x == 0) l ≡ every? (λ x. x == 0) l
unfolding every?
each [] = refl
each (x ∷ l) = ap (λ b. x == 0 && b) (each l)

module _ (s : List ℕ) where
  -- a record that is filled, and one that is not
  pub unfilled-length : (length s ≡ 24 → ⊥) → false ≡ filled s
  unfolding filled
  unfilled-length h = rw (ne_eqb (length s) 24 h) refl

  pub unfilled-count : length s ≡ 24 → 20 < byte s 2 → false ≡ filled s
  unfolding filled
  unfilled-count e h = rw (eq-eqb (length s) 24 e, lt-leb (byte s 2) 20 h) refl

  pub filled-rest : (b : Bool) → length s ≡ 24 → byte s 2 ≤ 20 → b ≡ list_all (λ x. x == 0) (drop (byte s 2 + 3) s) → b ≡ filled s
  unfolding filled
  filled-rest b e h r = rw (eq-eqb (length s) 24 e, le-leb (byte s 2) 20 h) (r ∙ each (drop (byte s 2 + 3) s))

  -- it has as many arguments as it counts
  counted : filled s ≡ true → length (arguments_of s) ≡ byte s 2
  unfolding filled arguments_of
  counted f =
      let front = and_left (length s == 24 && byte s 2 ≤? 20) _ f in
      let whole = eqb-true (length s) 24 (and_left (length s == 24) (byte s 2 ≤? 20) front) in
      let few = leb-true (byte s 2) 20 (and_right (length s == 24) (byte s 2 ≤? 20) front) in
      length-take-le (byte s 2) (drop 3 s) (omega (arith, whole, few, length-drop 3 s))

  pub letter-of-call
      : {x a : ℕ} {l : List ℕ} → true ≡ filled s → x ≡ byte s 0 → a ≡ byte s 1 → l ≡ arguments_of s
      → true ≡ makes_call (order_by x a (length l) l) → Some x ≡ call_letter s
  unfolding call_letter order_of arguments_of
  letter-of-call f ex ea el made =
      let so = sym f in
      let m : true ≡ makes_call (order_by (byte s 0) (byte s 1) (byte s 2) (arguments_of s)) = made ∙ rw (ex, ea, el, counted so) refl in
      rw (so, sym m) (ap Some ex)

  pub letter-of-none
      : {x a : ℕ} {l : List ℕ} → true ≡ filled s → x ≡ byte s 0 → a ≡ byte s 1 → l ≡ arguments_of s
      → false ≡ makes_call (order_by x a (length l) l) → None ≡ call_letter s
  unfolding call_letter order_of arguments_of
  letter-of-none f ex ea el made =
      let so = sym f in
      let m : false ≡ makes_call (order_by (byte s 0) (byte s 1) (byte s 2) (arguments_of s)) = made ∙ rw (ex, ea, el, counted so) refl in
      rw (so, sym m) refl

  pub letter-unfilled : false ≡ filled s → None ≡ call_letter s
  unfolding call_letter order_of makes_call
  letter-unfilled f = rw (sym f) refl

  -- a record with a letter makes a call, and the letter is its first byte
  lettered : {x : ℕ} → Some x ≡ call_letter s → (makes_call (order_of s) ≡ true) × (x ≡ byte s 0)
  unfolding call_letter
  lettered {x} e = go (makes_call (order_of s)) refl
    where
      go : (d : Bool) → makes_call (order_of s) ≡ d → (d ≡ true) × (x ≡ byte s 0)
      go true m = let h : Some x ≡ Some (byte s 0) = e ∙ rw m refl in (refl, same_Some x (byte s 0) h)
      go false m = absurd (none-some x (sym (e ∙ rw m refl)))

  -- a record whose call is known by the letter y makes the call that y stands for
  pub order_is
      : {a : ℕ} {l : List ℕ} (y : ℕ) (b : Bool) (c : Call) → Some y ≡ call_letter s → a ≡ byte s 1 → l ≡ arguments_of s
      → order_by y a (byte s 2) l ≡ only_if b c → order_of s ≡ call c
  unfolding arguments_of
  order_is y b c ey ea el h = go (filled s) refl
    where
      is : (d : Bool) → makes_call (only_if d c) ≡ true → only_if d c ≡ call c
      is true e = refl
      is false e = absurd (false≢true (unfold makes_call in e))

      by : filled s ≡ true → order_of s ≡ only_if b c
      by f = unfold order_of in rw f (rw (sym ((lettered ey).1), sym ea, sym el) h)

      go : (f : Bool) → filled s ≡ f → order_of s ≡ call c
      go true f = by f ∙ is b (sym (ap makes_call (by f)) ∙ (lettered ey).0)
      go false f = absurd (none-some _ (letter-unfilled (sym f) ∙ sym ey))

  -- and one whose call is known by no letter makes none
  pub order-none : None ≡ call_letter s → order_of s ≡ no_call
  unfolding call_letter
  order-none e = unmade (order_of s) (go (makes_call (order_of s)) refl)
    where
      go : (d : Bool) → makes_call (order_of s) ≡ d → d ≡ false
      go true m = absurd (none-some (byte s 0) (e ∙ rw m refl))
      go false m = refl

  -- no other letter makes a call
  pub letter-known : {x : ℕ} → Some x ≡ call_letter s → NoLetter x → ⊥
  letter-known {x} ex h = go (filled s) refl
    where
      none : filled s ≡ true → order_of s ≡ no_call
      none f = unfold order_of in rw f (unknown (byte s 0) (byte s 1) (byte s 2) _ (rw ((lettered ex).1) at h))

      go : (f : Bool) → filled s ≡ f → ⊥
      go true f = false≢true (sym (ap makes_call (none f) ∙ unfold makes_call in refl) ∙ (lettered ex).0)
      go false f = none-some _ (letter-unfilled (sym f) ∙ sym ex)

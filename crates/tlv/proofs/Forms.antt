-- Either form of a tag is the same object: what is found in a run goes by the numbers and values that were written, not by how.
-- Assumes nothing.
use Prim.Native.Nat.{ℕ, ◌+◌, ◌-◌, ◌*◌, ◌/◌, ◌%◌, ◌≤◌}
use native.Mathlib.Omega.{arith}
use mathlib.Core.Path.{◌≡◌, refl, sym, ap, ◌∙◌}
use mathlib.Core.Bool.{Bool, true, false}
use mathlib.Core.List.{List, [], ◌∷◌, ◌++◌, map, append_assoc}
use lib.ListN.{length, take, drop, length-append, length-drop}
use lib.Seq.{take-append_seam}
use borrow.Author.Tests.{le-leb, le-ltb, lt-leb, eq-eqb, ne_eqb}
use borrow.Author.Rules.{rules}
use Rattle.lists.specs.Tests.{◌<?◌, ◌≤?◌}
use Rattle.std.specs.Prelude.{if◌then◌else◌, ◌==◌, Option, Some, None, Result, Ok}
use Rattle.lists.specs.Lists.{Every, keep, gather, in?, some?}
use Rattle.lists.proofs.Picks.{picks}
use Rattle.lists.proofs.Among.{in-others, in-none}
use Rattle.lists.proofs.Mapped.{map-keep, map-drop}
use Rattle.lists.proofs.Parts.{get_or-here, length-here, first-here, rest-here}
use Rattle.rules.specs.declared.Malformed.{Malformed}
use Rattle.rules.specs.declared.Element.{Element}
use Rattle.rules.specs.declared.Span.{Span}
use Rattle.rules.specs.Bytes.{byte, element, tag_size, tag_number, long_length, length_at, valued, element_by, element_at, Tagged, Run, run_on, run_at, is_run, first_value, occurring, found, part_of, rest, outer_by, outer_of}
use Rattle.rules.specs.Commands.{length_bytes}
use Rattle.tlv.specs.Written.{Object, Written, Has, Writable, flag, tag_bytes, element_bytes, run_bytes, outer_bytes, objects, value_of, value_at}
use Rattle.tlv.proofs.Runs.{run_step}

-- A TAG, in either form
record TagHere (s : List ℕ) (at size number : ℕ) : Type 0 where
  sized : tag_size (byte s at) ≡ Ok size
  numbered : tag_number s at ≡ number

one_byte : (t : ℕ) → (t ≡ 0x00 → ⊥) → (t ≡ 0x80 → ⊥) → (t ≡ 0xFF → ⊥) → (t ≡ 0x7F → ⊥) → Ok 1 ≡ tag_size t
unfolding tag_size
one_byte t a b c d = search (picks, in-others, in-none, rules) depth 8

tag-here : (s : List ℕ) (at : ℕ) (in_three f : Bool) (n : ℕ) (r : List ℕ) → Has in_three n → drop at s ≡ tag_bytes in_three f n ++ r
    → TagHere s at (length (tag_bytes in_three f n)) n
unfolding Has tag_bytes tag_size tag_number in? some?
tag-here s at true f n r h here =
    let a : byte s at ≡ 0x7F = first-here s at 0 here in
    let b : byte s (at + 1) ≡ flag f + n / 256 = get_or-here s at here 1 0 in
    let c : byte s (at + 2) ≡ n % 256 = get_or-here s at here 2 0 in
    record { sized = ap tag_size a; numbered = rw (a, b, c) (bits f) }
  where
    bits : (f : Bool) → ((flag f + n / 256) * 256 + n % 256) % 0x8000 ≡ n
    bits true = omega arith
    bits false = omega arith
tag-here s at false f n r h here =
    let a : byte s at ≡ flag f + n = first-here s at 0 here in
    record { sized = ap tag_size a ∙ sym (size f h.0 h.1); numbered = rw (a, ne_eqb (flag f + n) 0x7F (no-long f h.0 h.1)) (bits f h.0 h.1) }
  where
    no-long : (f : Bool) → 1 ≤ n → n ≤ 0x7E → flag f + n ≡ 0x7F → ⊥
    no-long true i j q = omega arith
    no-long false i j q = omega arith

    size : (f : Bool) → 1 ≤ n → n ≤ 0x7E → Ok 1 ≡ tag_size (flag f + n)
    size true i j = one_byte (0x80 + n) (λ q. omega arith) (λ q. omega arith) (λ q. omega arith) (λ q. omega arith)
    size false i j = one_byte (0x00 + n) (λ q. omega arith) (λ q. omega arith) (λ q. omega arith) (λ q. omega arith)

    bits : (f : Bool) → 1 ≤ n → n ≤ 0x7E → (flag f + n) % 0x80 ≡ n
    bits true i j = omega arith
    bits false i j = omega arith

tag-some : (in_three f : Bool) (n : ℕ) → 1 ≤ length (tag_bytes in_three f n)
unfolding tag_bytes
tag-some true f n = omega arith
tag-some false f n = omega arith

-- A LENGTH
length-bytes : (s : List ℕ) (at n : ℕ) (r : List ℕ) → n ≤ 0xFF → drop at s ≡ length_bytes n ++ r → length_at s at ≡ Ok (record { len = n; next = at + length (length_bytes n) })
unfolding length_bytes length_at long_length
length-bytes s at n r h = go (n <? 0x80) refl
  where
    go : (b : Bool) → (n <? 0x80) ≡ b → drop at s ≡ (if b then n ∷ [] else 0x81 ∷ n ∷ []) ++ r → length_at s at ≡ Ok (record { len = n; next = at + length (if b then n ∷ [] else 0x81 ∷ n ∷ []) })
    go true e here =
        let l : (length s ≤? at) ≡ false = lt-leb (length s) at (omega (arith, length-drop at s, ap length here)) in
        rw (l, first-here s at 0 here, e) refl
    go false e here =
        let l : (length s ≤? at) ≡ false = lt-leb (length s) at (omega (arith, length-drop at s, ap length here)) in
        let m : (length s ≤? at + 1) ≡ false = lt-leb (length s) (at + 1) (omega (arith, length-drop at s, ap length here)) in
        rw (l, first-here s at 0 here, m, get_or-here s at here 1 0, e) refl

-- AN ELEMENT, and what follows it
record ElementHere (s : List ℕ) (at : ℕ) (e : Written) (r : List ℕ) (start : ℕ) : Type 0 where
  whole : element_at s at ≡ Ok (Some (element e.object.number (record { len = length e.object.value; next = start })))
  part : take (length e.object.value) (drop start s) ≡ e.object.value
  behind : drop (start + length e.object.value) s ≡ r
  within : start + length e.object.value ≤ length s

element-here : (s : List ℕ) (at : ℕ) (e : Written) (r : List ℕ) → Writable e → at ≤ length s → drop at s ≡ element_bytes e ++ r
    → ElementHere s at e r (at + length (tag_bytes e.in_three e.flagged e.object.number) + length (length_bytes (length e.object.value)))
unfolding element_at element_by valued element_bytes
element-here s at e r w h here =
    let v = e.object.value in
    let t = tag_bytes e.in_three e.flagged e.object.number in
    let m = length_bytes (length v) in
    let a : drop at s ≡ t ++ (m ++ (v ++ r)) = here ∙ append_assoc (t ++ m) v r ∙ append_assoc t m (v ++ r) in
    let b : drop (at + length t) s ≡ m ++ (v ++ r) = rest-here s at t (m ++ (v ++ r)) a in
    let c : drop (at + length t + length m) s ≡ v ++ r = rest-here s (at + length t) m (v ++ r) b in
    let g = tag-here s at e.in_three e.flagged e.object.number (m ++ (v ++ r)) w.had a in
    let some = tag-some e.in_three e.flagged e.object.number in
    let long = length-here s at a h ∙ ap (λ n. at + n) (length-append t (m ++ (v ++ r)) ∙ ap (λ n. length t + n) (length-append m (v ++ r) ∙ ap (λ n. length m + n) (length-append v r))) in
    let p : (length s ≤? at) ≡ false = lt-leb (length s) at (omega arith) in
    let i : length_at s (at + length t) ≡ Ok (record { len = length v; next = at + length t + length m }) = length-bytes s (at + length t) (length v) (v ++ r) w.short b in
    let j : (at + length t + length m + length v ≤? length s) ≡ true = le-leb (at + length t + length m + length v) (length s) (omega arith) in
    record {
      whole = rw (p, g.sized, g.numbered, i, j) refl;
      part = ap (take (length v)) c ∙ take-append_seam v r;
      behind = rest-here s (at + length t + length m) v r c;
      within = omega arith;
    }

-- A RUN: the objects read are those written
abbrev object_in : List ℕ → Tagged → Object
object_in s e = record { number = e.number; value = part_of s (Some e.value) }

record ReadAs (s : List ℕ) (run : Run) (l : List Written) : Type 0 where
  same : map (object_in s) run.elements ≡ objects l
  full : run.fills ≡ true

run-here : (l : List Written) (s : List ℕ) (at : ℕ) → Every Writable l → at ≤ length s → drop at s ≡ run_bytes l → ReadAs s (run_at s at) l
unfolding run_bytes gather Every element_at part_of
run-here [] s at w h here =
    let e : (length s ≤? at) ≡ true = le-leb (length s) at (omega (arith, length-drop at s, ap length here)) in
    let k : run_at s at ≡ record { elements = []; fills = true } = run_step s at ∙ rw e refl in
    record { same = ap (λ (r : Run). map (object_in s) r.elements) k; full = ap (λ (r : Run). r.fills) k }
run-here (e ∷ l) s at w h here =
    let i = element-here s at e (gather element_bytes l) w.0 h here in
    let more = run-here l s _ w.1 i.within i.behind in
    let k = run_step s at ∙ ap (λ (x : Result (Option Element) Malformed). run_on x (run_at s)) i.whole in
    record {
      same = ap (λ (r : Run). map (object_in s) r.elements) k ∙ rw (i.part, more.same) refl;
      full = ap (λ (r : Run). r.fills) k ∙ more.full;
    }

-- A SEARCH, by the objects read
first-value : (s : List ℕ) (l : List Tagged) → value_at s (first_value l) ≡ map (λ (o : Object). o.value) (take 1 (map (object_in s) l))
unfolding first_value value_at
first-value s [] = refl
first-value s (e ∷ l) = refl

occurring-value : (s : List ℕ) (tag n : ℕ) (l : List Tagged) → value_at s (occurring tag n l) ≡ value_of tag n (map (object_in s) l)
unfolding occurring value_of
occurring-value s tag n l =
    let kept = keep (λ (e : Tagged). e.number == tag) l in
    first-value s (drop (n - 1) kept)
    ∙ ap (λ (r : List Object). map (λ (o : Object). o.value) (take 1 r))
    (map-drop (object_in s) (n - 1) kept ∙ ap (drop (n - 1)) (map-keep (object_in s) (λ (o : Object). o.number == tag) l))

module _ (l : List Written) (w : Every Writable l) where
  read : ReadAs (run_bytes l) (run_at (run_bytes l) 0) l
  read = run-here l (run_bytes l) 0 w (omega arith) refl

  pub written-is-run : is_run (run_bytes l) ≡ true
  unfolding is_run
  written-is-run = read.full

  -- WHAT IS FOUND IS WHAT WAS WRITTEN, by number and occurrence, in whichever form each tag is
  written-value : (tag n : ℕ) → value_at (run_bytes l) (occurring tag n (run_at (run_bytes l) 0).elements) ≡ value_of tag n (objects l)
  written-value tag n = occurring-value (run_bytes l) tag n (run_at (run_bytes l) 0).elements ∙ ap (value_of tag n) read.same

  pub what-is-written-is-found : (tag n : ℕ) → 1 ≤ tag → tag ≤ 0x7FFF → 1 ≤ n → value_at (run_bytes l) (found (run_bytes l) tag n) ≡ value_of tag n (objects l)
  unfolding found
  what-is-written-is-found tag n a b c =
      rw (ne_eqb n 0 (λ q. absurd (omega arith)), ne_eqb tag 0 (λ q. absurd (omega arith)), le-ltb 0x7FFF tag b) (written-value tag n)

-- EITHER FORM IS THE SAME OBJECT: runs of the same objects have the same to be found
pub either-form-is-the-same-object : (l k : List Written) → Every Writable l → Every Writable k → objects l ≡ objects k
    → (tag n : ℕ) → value_at (run_bytes l) (found (run_bytes l) tag n) ≡ value_at (run_bytes k) (found (run_bytes k) tag n)
unfolding found value_at
either-form-is-the-same-object l k w v same tag n = go (n == 0) (tag == 0) (0x7FFF <? tag)
  where
    seen : List Written → Option Span
    seen l = occurring tag n (run_at (run_bytes l) 0).elements

    go : (a b c : Bool)
        → value_at (run_bytes l) (if a then None else if b then None else if c then None else seen l)
        ≡ value_at (run_bytes k) (if a then None else if b then None else if c then None else seen k)
    go true b c = refl
    go false true c = refl
    go false false true = refl
    go false false false = written-value l w tag n ∙ ap (value_of tag n) same ∙ sym (written-value k v tag n)

-- THE OUTER TAG AND LENGTH around a run
pub outer-here : (tag : ℕ) (l : List Written) → Every Writable l → length (run_bytes l) ≤ 0xFF
    → outer_of (outer_bytes tag l) ≡ Ok (record { tag = tag; start = 1 + length (length_bytes (length (run_bytes l))) })
unfolding outer_of outer_by outer_bytes
outer-here tag l w h =
    let v = run_bytes l in
    let m = length_bytes (length v) in
    let s : List ℕ = tag ∷ (m ++ v) in
    let z : (length s == 0) ≡ false = ne_eqb (length s) 0 (λ q. absurd (omega arith)) in
    let e : (1 + length m + length v == length s) ≡ true = eq-eqb (1 + length m + length v) (length s) (omega (arith, length-append m v)) in
    let r : rest s (1 + length m) ≡ v = rest-here s 1 m v refl in
    rw (z, length-bytes s 1 (length v) v h refl, e, r, written-is-run l w) refl

pub rest-outer : (tag : ℕ) (l : List Written) → rest (outer_bytes tag l) (1 + length (length_bytes (length (run_bytes l)))) ≡ run_bytes l
unfolding outer_bytes
rest-outer tag l = rest-here (outer_bytes tag l) 1 (length_bytes (length (run_bytes l))) (run_bytes l) refl

-- Runs, one element at a time, and what a search finds in them: a value that lies within the bytes.
-- Assumes nothing.
use Prim.Native.Nat.{ℕ, zero, suc, ◌+◌, ◌-◌, ◌≤◌, ◌<◌}
use native.Mathlib.Omega.{arith}
use mathlib.Core.Path.{◌≡◌, refl, sym, ap, ◌∙◌, subst}
use mathlib.Core.Bool.{Bool, true, false}
use mathlib.Core.List.{List, [], ◌∷◌}
use lib.ListN.{length, drop}
use lib.Seq.{drop-nil}
use borrow.Author.Tests.{ne_eqb}
use Rattle.lists.specs.Tests.{◌<?◌}
use Rattle.std.specs.Prelude.{if◌then◌else◌, ◌==◌, Option, Some, None, Result, Ok, Err}
use Rattle.lists.specs.Lists.{Every, keep}
use Rattle.lists.proofs.Ifs.{if-holds}
use Rattle.lists.proofs.Every.{every-keep, every_drop}
use Rattle.rules.specs.declared.Malformed.{Malformed}
use Rattle.rules.specs.declared.Element.{Element}
use Rattle.rules.specs.declared.Span.{Span}
use Rattle.rules.specs.Bytes.{element_at, Tagged, Run, tagged, run_on, run_by, run_at, first_value, occurring, found}
use Rattle.elements.proofs.Ends.{element-inside}
use Rattle.tlv.specs.Parts.{IsWithin}

-- what a reader gives at a position
abbrev Read : Type 0
Read = Result (Option Element) Malformed

-- what follows an element matters only where one stands
on_same : (r : Read) (f g : ℕ → Run) → ((e : Element) → r ≡ Ok (Some e) → f e.next ≡ g e.next) → run_on r f ≡ run_on r g
on_same (Ok (Some e)) f g h = ap (λ (r : Run). run_on (Ok (Some e)) (λ _. r)) (h e refl)
on_same (Ok None) f g h = refl
on_same (Err e) f g h = refl

-- how many steps a run may take does not matter, past the number of its bytes
run-enough : (j k : ℕ) (s : List ℕ) (at : ℕ) → length s - at < j → length s - at < k → run_by j s at ≡ run_by k s at
unfolding run_by
run-enough zero k s at a b = absurd (omega arith)
run-enough (suc j) zero s at a b = absurd (omega arith)
run-enough (suc j) (suc k) s at a b =
    on_same (element_at s at) (λ p. run_by j s p) (λ p. run_by k s p)
    (λ e q. let i = element-inside s at refl q in run-enough j k s e.next (omega arith) (omega arith))

-- a run is the element that stands there, and the run from past it
pub run_step : (s : List ℕ) (at : ℕ) → run_at s at ≡ run_on (element_at s at) (run_at s)
unfolding run_at run_by
run_step s at =
    on_same (element_at s at) (λ p. run_by (length s) s p) (λ p. run_at s p)
    (λ e q. let i = element-inside s at refl q in run-enough (length s) (suc (length s)) s e.next (omega arith) (omega arith))

-- what is said of the run from a position is said of what stands there and the run from past it
module _ {X : Type 0} (F : Run → X) (s : List ℕ) (at : ℕ) {x z : X} {r : Read} where
  pub run-case : {o y : Option Element} → F (run_at s at) ≡ x → r ≡ element_at s at → r ≡ Ok o → o ≡ y → z ≡ F (run_on (Ok y) (run_at s)) → z ≡ x
  run-case here stands known inner e = e ∙ ap (λ o. F (run_on (Ok o) (run_at s))) (sym inner) ∙ ap (λ w. F (run_on w (run_at s))) (sym known ∙ stands) ∙ ap F (sym (run_step s at)) ∙ here

  pub run-broken : {m : Malformed} → F (run_at s at) ≡ x → r ≡ element_at s at → r ≡ Err m → z ≡ F (run_on (Err m) (run_at s)) → z ≡ x
  run-broken here stands known e = e ∙ ap (λ w. F (run_on w (run_at s))) (sym known ∙ stands) ∙ ap F (sym (run_step s at)) ∙ here

-- a search over an element and others: it is the one looked for, one of an occurrence before, or of another tag
occurring-on : (tag n : ℕ) (e : Tagged) (l : List Tagged) → 1 ≤ n
    → occurring tag n (e ∷ l) ≡ (if e.number == tag then if n == 1 then Some e.value else occurring tag (n - 1) l else occurring tag n l)
unfolding occurring keep first_value
occurring-on tag n e l h = go (keep (λ (x : Tagged). x.number == tag) l) (e.number == tag) n h
  where
    go : (k : List Tagged) (b : Bool) (n : ℕ) → 1 ≤ n
        → first_value (drop (n - 1) (if b then e ∷ k else k)) ≡ (if b then if n == 1 then Some e.value else first_value (drop (n - 1 - 1) k) else first_value (drop (n - 1) k))
    go k false n h = refl
    go k true zero h = absurd (omega arith)
    go k true (suc zero) h = refl
    go k true (suc (suc n)) h =
        let a : suc (suc n) - 1 ≡ suc n = omega arith in
        let z : suc n - 1 ≡ n = omega arith in
        rw (ne_eqb (suc (suc n)) 1 (λ q. absurd (omega arith)), a, z) refl

-- what is left to find from a position, by what stands there
unfoldable pub left_by : List ℕ → (tag left : ℕ) → Read → Option Span
left_by s tag left (Ok (Some e)) =
    if e.number == tag then
    if left == 1 then Some (record { start = e.start; len = e.len }) else occurring tag (left - 1) (run_at s e.next).elements
    else occurring tag left (run_at s e.next).elements
left_by s tag left (Ok None) = None
left_by s tag left (Err e) = None

none_left : (tag n : ℕ) → occurring tag n [] ≡ None
unfolding occurring keep first_value
none_left tag n = ap first_value (drop-nil (n - 1))

left-on : (s : List ℕ) (tag left : ℕ) (r : Read) → 1 ≤ left → occurring tag left (run_on r (run_at s)).elements ≡ left_by s tag left r
unfolding left_by
left-on s tag left (Ok (Some e)) h = occurring-on tag left (tagged e) (run_at s e.next).elements h
left-on s tag left (Ok None) h = none_left tag left
left-on s tag left (Err e) h = none_left tag left

module _ (s : List ℕ) (at tag left : ℕ) {x z : Option Span} {r : Read} (here : occurring tag left (run_at s at).elements ≡ x) (some : 1 ≤ left) (stands : r ≡ element_at s at) where
  pub left-case : {o y : Option Element} → r ≡ Ok o → o ≡ y → z ≡ left_by s tag left (Ok y) → z ≡ x
  left-case {y = y} known inner e = run-case (λ k. occurring tag left k.elements) s at here stands known inner (e ∙ sym (left-on s tag left (Ok y) some))

  pub left-broken : {m : Malformed} → r ≡ Err m → z ≡ None → z ≡ x
  left-broken {m = m} known e = run-broken (λ k. occurring tag left k.elements) s at here stands known (e ∙ sym (none_left tag left))

-- what is found lies within the bytes
abbrev Within : List ℕ → Span → Type 0
Within s value = value.start + value.len ≤ length s

unfoldable FoundIn : List ℕ → Option Span → Type 0
FoundIn s (Some value) = Within s value
FoundIn s None = Unit {0}

run-within : (k : ℕ) (s : List ℕ) (at : ℕ) → Every (λ (e : Tagged). Within s e.value) (run_by k s at).elements
unfolding run_by Every
run-within zero s at = tt
run-within (suc k) s at = go (element_at s at) refl (run-within k s)
  where
    go : (r : Read) → element_at s at ≡ r → ((next : ℕ) → Every (λ (e : Tagged). Within s e.value) (run_by k s next).elements)
        → Every (λ (e : Tagged). Within s e.value) (run_on r (λ next. run_by k s next)).elements
    go (Ok (Some e)) q on = let i = element-inside s at refl q in (omega arith, on e.next)
    go (Ok None) q on = tt
    go (Err e) q on = tt

occurring-within : (s : List ℕ) (tag n : ℕ) (l : List Tagged) → Every (λ (e : Tagged). Within s e.value) l → FoundIn s (occurring tag n l)
unfolding occurring first_value Every FoundIn
occurring-within s tag n l h =
    let p : Tagged → Bool = λ (e : Tagged). e.number == tag in
    go (drop (n - 1) (keep p l)) (every_drop (λ (e : Tagged). Within s e.value × (p e ≡ true)) (n - 1) (keep p l) (every-keep (λ (e : Tagged). Within s e.value) p l h))
  where
    go : (k : List Tagged) → Every (λ (e : Tagged). Within s e.value × ((e.number == tag) ≡ true)) k → FoundIn s (first_value k)
    go [] w = tt
    go (e ∷ k) w = w.0.0

pub found_inside : (s : List ℕ) (tag n : ℕ) {f : Option Span} {p : Span} → f ≡ found s tag n → f ≡ Some p → p.start + p.len ≤ length s
unfolding found run_at FoundIn
found_inside s tag n e q =
    subst (FoundIn s) (sym e ∙ q)
    (if-holds (FoundIn s) (n == 0) (λ _. tt)
    (λ _. if-holds (FoundIn s) (tag == 0) (λ _. tt)
    (λ _. if-holds (FoundIn s) (0x7FFF <? tag) (λ _. tt) (λ _. occurring-within s tag n _ (run-within (suc (length s)) s 0)))))

pub found-within : (s : List ℕ) (tag n : ℕ) {f : Option Span} → f ≡ found s tag n → IsWithin s f
found-within s tag n {f = None} e = tt
found-within s tag n {f = Some p} e = found_inside s tag n e refl

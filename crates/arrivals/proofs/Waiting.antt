-- Those who wait, as a set: kept and looked up again, once a round is opened, and when one leaves it.
-- Assumes nothing.
use Prim.Native.Nat.{ℕ, ◌≤◌}
use native.Mathlib.Omega.{arith}
use mathlib.Core.Path.{◌≡◌, refl, sym, ap, ◌∙◌}
use mathlib.Core.Bool.{Bool, true, false, not, ◌&&◌}
use mathlib.Core.List.{List}
use Rattle.std.specs.Prelude.{if◌then◌else◌, ◌==◌}
use Rattle.lists.specs.Lists.{Every, keep, in?}
use Rattle.lists.specs.Tables.{table}
use Rattle.lists.proofs.Truth.{and-true, and-false}
use Rattle.lists.proofs.Alike.{keep-each}
use Rattle.lists.proofs.Every.{every-so}
use Rattle.lists.proofs.Chosen.{in-keep, each_in}
use Rattle.sets.specs.Sets as sets
use Rattle.sets.specs.Sets.{has?, set_of, set_both, switched_set}
use Rattle.sets.proofs.Bits.{has-set, set-alike, one_of}
use Rattle.rules.specs.Holds.{Bounds, Tables, Arrival, Round, document}
use Rattle.rules.specs.Applets.{numbers, present, applet}
use Rattle.rules.specs.Arrivals.{wants}
use Rattle.rules.specs.Rounds.{opened}
use Rattle.runs.specs.Sound.{SoundTables, SoundRound}
use Rattle.runs.proofs.Looked.{has-its-number}
use Rattle.applets.specs.ByNumber.{roll_of}
use Rattle.applets.proofs.Numbers.{present-in}
use Rattle.arrivals.specs.Whom.{IsFor}
use Rattle.arrivals.specs.Rounds.{view_round, stored_round}
use Rattle.arrivals.proofs.Rounds.{arrival-back}

-- the numbers of applets are 1 to 8
within : Every (λ n. (1 ≤ n) × (n ≤ 8)) (numbers document)
unfolding Every table
within = (
  (omega arith, omega arith),
  ((omega arith, omega arith), ((omega arith, omega arith), ((omega arith, omega arith), ((omega arith, omega arith), ((omega arith, omega arith), ((omega arith, omega arith), ((omega arith, omega arith), tt))))))),
)

among : (k : ℕ) → 1 ≤ k → k ≤ 8 → in? k (numbers document) ≡ true
among k low high = one_of (λ n. in? n (numbers document) ≡ true) (unfold sets.numbers table in each_in (numbers document)) k low high

-- who waits, by the set
pub waits-has : (s k : ℕ) → 1 ≤ k → k ≤ 8 → in? k (keep (has? s) (numbers document)) ≡ has? s k
waits-has s k low high = in-keep (has? s) k (numbers document) ∙ ap (λ (b : Bool). b && has? s k) (among k low high)

-- what is kept of those who wait is looked up again
waiting-back : (w : List ℕ) → w ≡ keep (λ n. in? n w) (numbers document) → keep (has? (set_of (λ n. in? n w))) (numbers document) ≡ w
waiting-back w e =
    keep-each _ _ (numbers document) (every-so (λ n. (1 ≤ n) × (n ≤ 8)) _ (λ n h. has-set (λ n. in? n w) n h.0 h.1) (numbers document) within) ∙ sym e

pub round-back : (r : Round) → SoundRound document r → view_round (stored_round r) ≡ r
unfolding view_round stored_round
round-back r s = rw (arrival-back r.arrived, waiting-back r.waiting s.waiting) refl

-- AN ARRIVAL: of those present, all whom it is for wait
module _ (t : Tables) (sound : SoundTables t) (e : t.bounds ≡ document) (a : Arrival) {s : ℕ} (f : IsFor t a s) where
  each : (k : ℕ) → 1 ≤ k → k ≤ 8 → (has? s k && has? (roll_of t.applets).present k) ≡ in? k (opened t a).waiting
  unfolding opened
  each k low high =
      ap (λ (b : Bool). has? s k && b) (present-in t sound e k)
      ∙ go (present t k) refl
      ∙ sym (in-keep (λ n. present t n && wants t a (applet t n)) k (numbers t.bounds) ∙ ap (λ (b : Bool). b && (present t k && wants t a (applet t k))) (ap (λ (b : Bounds). in? k (numbers b)) e ∙ among k low high))
    where
      go : (b : Bool) → present t k ≡ b → (has? s k && b) ≡ (b && wants t a (applet t k))
      go true p = and-true (has? s k) ∙ unfold applet in f.each k low high (unfold applet in has-its-number t k p)
      go false p = and-false (has? s k)

  pub waiting-opened : {present : ℕ} → present ≡ (roll_of t.applets).present → set_both s present ≡ set_of (λ n. in? n (opened t a).waiting)
  waiting-opened p = ap (set_both s) p ∙ set-alike _ _ each

-- ONE LEAVES
pub waiting-left : (w : List ℕ) (n : ℕ) → switched_set (set_of (λ k. in? k w)) n false ≡ set_of (λ k. in? k (keep (λ j. not (j == n)) w))
waiting-left w n = set-alike _ _ one
  where
    one : (k : ℕ) → 1 ≤ k → k ≤ 8 → (if k == n then false else has? (set_of (λ k. in? k w)) k) ≡ in? k (keep (λ j. not (j == n)) w)
    one k low high =
        go (k == n) (has-set (λ k. in? k w) k low high) ∙ sym (in-keep (λ j. not (j == n)) k w)
      where
        go : (b : Bool) {x y : Bool} → x ≡ y → (if b then false else x) ≡ (y && not b)
        go true {y = y} q = sym (and-false y)
        go false {y = y} q = q ∙ sym (and-true y)

-- What a call changes of the shown events: some download is listened for otherwise than before; and who listens, by the sets.
-- Assumes nothing.
use Prim.Native.Nat.{ℕ, zero, suc, ◌+◌, ◌≤◌, ◌<◌}
use native.Mathlib.Omega.{arith}
use mathlib.Core.Path.{◌≡◌, refl, sym, ap, ap₂, ◌∙◌}
use mathlib.Core.Bool.{Bool, true, false, not, beq, ◌&&◌, ◌||◌}
use mathlib.Core.List.{List, [], ◌∷◌}
use lib.ListN.{length, get_or}
use lib.Dec.{eqb, leb, ltb}
use borrow.Author.Tests.{eq-eqb, ne_eqb, eqb-true, eqb-false, le-leb, lt-leb, lt-ltb, le-ltb, leb-true, leb-false}
use Rattle.std.specs.Prelude.{if◌then◌else◌}
use Rattle.lists.specs.Lists.{Every, some?, alike?, same?, empty?}
use Rattle.lists.specs.Tables.{table}
use Rattle.lists.proofs.Truth.{and-swap, beq-self}
use Rattle.lists.proofs.Every.{rises?, rises-head, rises-tail}
use Rattle.lists.proofs.Walk.{some_alike}
use Rattle.lists.proofs.Tables.{table_at}
use Rattle.sets.specs.Sets.{set_of, has?, meets}
use Rattle.sets.proofs.Bits.{has-set, some-each}
use Rattle.rules.specs.Holds.{Applet, Tables, document}
use Rattle.rules.specs.Events.{codes, call_control}
use Rattle.rules.specs.Applets.{registered}
use Rattle.rules.specs.Commands.{listened, shown_from, shown_events}
use Rattle.rules.specs.Desk.{events_change}
use Rattle.rules.proofs.Listed.{codes-rise}
use Rattle.runs.specs.Sound.{SoundTables}
use Rattle.applets.specs.ByNumber.{at, selectable_set, registered_set}
use Rattle.applets.proofs.Numbers.{some-by}
use Rattle.events_shown.specs.Turns.{listens, some_from, any_code, is_listened}

abbrev Below : ℕ → List ℕ → Type 0
Below c l = Every (λ (d : ℕ). c < d) l

below-shown : (t : Tables) (c e : ℕ) (l : List ℕ) → Below c l → Below c (shown_from t e l)
unfolding shown_from Every
below-shown t c e [] b = tt
below-shown t c e (d ∷ l) b = go (listened t e) (below-shown t c (suc e) l b.1)
  where
    go : (x : Bool) → Below c (shown_from t (suc e) l) → Below c (if x then d ∷ shown_from t (suc e) l else shown_from t (suc e) l)
    go true r = (b.0, r)
    go false r = r

-- a list that begins with c is no list of larger numbers
first-apart : (c : ℕ) (k l : List ℕ) → Below c l → same? (c ∷ k) l ≡ false
unfolding same? alike? Every
first-apart c k [] b = refl
first-apart c k (d ∷ l) b = rw (ne_eqb c d (λ z. omega (arith, b.0))) refl

second-apart : (c : ℕ) (k l : List ℕ) → Below c l → same? l (c ∷ k) ≡ false
unfolding same? alike? Every
second-apart c k [] b = refl
second-apart c k (d ∷ l) b = rw (ne_eqb d c (λ z. omega (arith, b.0))) refl

-- the event is listened for before and not after, or the reverse
abbrev other : Tables → Tables → ℕ → Bool
other t u e = not (beq (listened t e) (listened u e))

differs-is : (t u : Tables) (e : ℕ) (l : List ℕ) → rises? l ≡ true → not (same? (shown_from t e l) (shown_from u e l)) ≡ some_from (other t u) (length l) e
unfolding shown_from same? alike? some_from
differs-is t u e [] r = refl
differs-is t u e (c ∷ l) r =
    go (listened t e) (listened u e) (differs-is t u (suc e) l (rises-tail c l r)) (rises-head c l r)
  where
    go : (x y : Bool) → not (same? (shown_from t (suc e) l) (shown_from u (suc e) l)) ≡ some_from (other t u) (length l) (suc e) → Below c l
        → not (same? (if x then c ∷ shown_from t (suc e) l else shown_from t (suc e) l) (if y then c ∷ shown_from u (suc e) l else shown_from u (suc e) l))
        ≡ (not (beq x y) || some_from (other t u) (length l) (suc e))
    go true true i b = rw (eq-eqb c c refl) i
    go true false i b = ap not (first-apart c (shown_from t (suc e) l) (shown_from u (suc e) l) (below-shown u c (suc e) l b))
    go false true i b = ap not (second-apart c (shown_from u (suc e) l) (shown_from t (suc e) l) (below-shown t c (suc e) l b))
    go false false i b = i

from-alike : (p q : ℕ → Bool) (n e : ℕ) → ((j : ℕ) → e ≤ j → j < e + n → p j ≡ q j) → some_from p n e ≡ some_from q n e
unfolding some_from
from-alike p q zero e h = refl
from-alike p q (suc n) e h = rw (h e (omega arith) (omega arith), from-alike p q n (suc e) (λ j k m. h j (omega arith) (omega arith))) refl

some-only : (c : Bool) (p : ℕ → Bool) (n e : ℕ) → some_from (λ (e : ℕ). c && p e) n e ≡ (c && some_from p n e)
unfolding some_from
some-only true p zero e = refl
some-only false p zero e = refl
some-only true p (suc n) e = ap (λ (b : Bool). p e || b) (some-only true p n (suc e))
some-only false p (suc n) e = some-only false p n (suc e)

-- the shown events change if some download is listened for otherwise than before
pub changes-at : (t u : Tables) (c : Bool) (p : ℕ → Bool) → ((e : ℕ) → 5 ≤ e → e < 18 → other t u e ≡ (c && p e)) → events_change t u ≡ (c && some_from p 13 5)
unfolding events_change shown_events codes
changes-at t u c p h = differs-is t u 5 codes codes-rise ∙ from-alike _ _ 13 5 h ∙ some-only c p 13 5

pub events-same : (t u : Tables) → ((e : ℕ) → 5 ≤ e → e < 18 → listened u e ≡ listened t e) → events_change t u ≡ false
events-same t u h = changes-at t u false (λ e. true) (λ e g k. rw (h e g k, beq-self (listened t e)) refl)

-- a place is among n from s on
pub found_from : (e n s : ℕ) → some_from (λ (j : ℕ). eqb j e) n s ≡ (leb s e && ltb e (s + n))
unfolding some_from
found_from e zero s = go (leb s e) refl
  where
    go : (b : Bool) → leb s e ≡ b → false ≡ (b && ltb e (s + 0))
    go true h = let q = leb-true s e h in sym (le-ltb e (s + 0) (omega arith))
    go false h = refl
found_from e (suc n) s = go (eqb s e) refl (found_from e n (suc s))
  where
    go : (b : Bool) → eqb s e ≡ b → some_from (λ (j : ℕ). eqb j e) n (suc s) ≡ (leb (suc s) e && ltb e (suc s + n)) → (b || some_from (λ (j : ℕ). eqb j e) n (suc s)) ≡ (leb s e && ltb e (s + suc n))
    go true h i = let q = eqb-true s e h in rw (le-leb s e (omega arith), lt-ltb e (s + suc n) (omega arith)) refl
    go false h i =
        let q : suc s + n ≡ s + suc n = omega arith in
        i ∙ rw q (ap (λ (b : Bool). b && ltb e (s + suc n)) (next (leb s e) refl))
      where
        next : (b : Bool) → leb s e ≡ b → leb (suc s) e ≡ b
        next true g = let x = leb-true s e g in let y = eqb-false s e h in le-leb (suc s) e (omega (arith, y))
        next false g = let x = leb-false s e g in lt-leb (suc s) e (omega arith)

-- a download is not call control, so each applet keeps it itself
pub registered-is : (t : Tables) (e : ℕ) (x : Applet) → 5 ≤ e → registered t e x ≡ get_or x.events e false
unfolding registered
registered-is t e x h = rw (ne_eqb e call_control (λ z. absurd (omega arith))) refl

pub listened-is : (t : Tables) (e : ℕ) → 5 ≤ e → listened t e ≡ some? (listens e) t.applets
unfolding listened
listened-is t e h = some_alike _ _ t.applets (λ x. ap (λ (b : Bool). x.selectable && b) (registered-is t e x h))

-- WHO LISTENS: the set of an event meets that of the selectable applets
pub listened-meets : (t : Tables) → SoundTables t → t.bounds ≡ document → (e : ℕ) → 5 ≤ e → listened t e ≡ meets (registered_set t.applets e) (selectable_set t.applets)
unfolding registered_set selectable_set
listened-meets t s b e h =
    listened-is t e h
    ∙ some-by t s b (listens e) refl
    ∙ some-each _ _ at-is
  where
    at-is : (k : ℕ) → 1 ≤ k → k ≤ 8
        → listens e (at t.applets k) ≡ (has? (set_of (λ n. get_or (at t.applets n).events e false)) k && has? (set_of (λ n. (at t.applets n).selectable)) k)
    at-is k a b =
        and-swap (at t.applets k).selectable (get_or (at t.applets k).events e false)
        ∙ ap₂ (λ (x y : Bool). x && y) (sym (has-set (λ n. get_or (at t.applets n).events e false) k a b)) (sym (has-set (λ n. (at t.applets n).selectable) k a b))

-- SOME CODE IS SHOWN: its event is listened for
some-shown : (t : Tables) (e : ℕ) (l : List ℕ) → some_from (listened t) (length l) e ≡ not (empty? (shown_from t e l))
unfolding some_from shown_from empty?
some-shown t e [] = refl
some-shown t e (c ∷ l) = go (listened t e) (some-shown t (suc e) l)
  where
    go : (b : Bool) → some_from (listened t) (length l) (suc e) ≡ not (empty? (shown_from t (suc e) l))
        → (b || some_from (listened t) (length l) (suc e)) ≡ not (empty? (if b then c ∷ shown_from t (suc e) l else shown_from t (suc e) l))
    go true i = refl
    go false i = i

pub codes-shown : (t : Tables) → SoundTables t → t.bounds ≡ document → any_code (is_listened (table 20 (registered_set t.applets)) (selectable_set t.applets)) ≡ not (empty? (shown_events t))
unfolding shown_events codes
codes-shown t s b = from-alike _ _ 13 5 (λ e h k. sym (listened-at e h k)) ∙ some-shown t 5 codes
  where
    listened-at : (e : ℕ) → 5 ≤ e → e < 18 → listened t e ≡ is_listened (table 20 (registered_set t.applets)) (selectable_set t.applets) e
    listened-at e h k =
        listened-meets t s b e h
        ∙ ap (λ (g : ℕ). meets g (selectable_set t.applets)) (sym (table_at 20 (registered_set t.applets) e 0 (omega arith)))

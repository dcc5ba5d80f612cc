-- THE LOWEST NUMBER: of the lines that hold and list the call, the lowest number is given; none otherwise. Of every list of lines.
-- Assumes nothing.
use Prim.Native.Nat.{ℕ, zero, suc, ◌≤◌, ◌<◌}
use native.Mathlib.Omega.{arith}
use mathlib.Core.Path.{◌≡◌, refl, subst, sym}
use mathlib.Core.Bool.{Bool, true, false, not, ◌&&◌, ◌||◌}
use mathlib.Core.List.{List, [], ◌∷◌}
use lib.ListN.{length}
use borrow.Author.Tests.{eqb-true, ltb-true}
use Rattle.lists.specs.Tests.{◌<?◌}
use Rattle.std.specs.Prelude.{if◌then◌else◌, ◌==◌}
use Rattle.lists.specs.Lists.{Every, some?, first}
use Rattle.lists.proofs.Decided.{clashing, both, same}
use Rattle.lists.proofs.Truth.{and-false}
use Rattle.lists.proofs.Every.{every-so, every_first}
use Rattle.lists.proofs.Firsts.{first_passes}
use Rattle.rules.specs.Holds.{Bounds, Model}
use Rattle.rules.specs.Timers.{is_owner, at_limit, none_free, not_its_timer}
use Rattle.rules.specs.Commands.{is_menu, read_menu, Menu}
use Rattle.rules.specs.Calls.{Call}
use Rattle.rules.specs.Refusals.{Line, line, first_holding, lines, refusal}
use Rattle.rules.specs.Beside.{fresh_by, fresh_card, read_by, menu_reader, allocate_by, bank_allocate, release_by, bank_release}
use Rattle.runs.proofs.Accepted.{lines_rise, lines-rise, lines-above}

-- the line has this number, and holds
abbrev pub holds_with : (number : ℕ) → Line → Bool
holds_with n x = x.number == n && x.holds

-- where the line holds, a number is given, and no higher one than the line's
abbrev pub Under : (given : ℕ) → Line → Type 0
Under given x = x.holds ≡ true → (1 ≤ given) × (given ≤ x.number)

-- What is given: if it is a number, it is that of a line that holds; and where a line holds, a number is given, and no higher one
-- than that line's. So no lower line holds, and 0 is given just where none holds.
pub record IsLowest (l : List Line) (given : ℕ) : Type 0 where
  pub holds : 1 ≤ given → some? (holds_with given) l ≡ true
  pub least : Every (Under given) l

-- what is given is the number of a line that holds
lowest-holds : (l : List Line) → 1 ≤ first_holding l → some? (holds_with (first_holding l)) l ≡ true
unfolding first_holding some?
lowest-holds [] h = absurd (omega arith)
lowest-holds (x ∷ l) h = go x.holds h (lowest-holds l)
  where
    go : (b : Bool) → 1 ≤ (if b then x.number else first_holding l) → (1 ≤ first_holding l → some? (holds_with (first_holding l)) l ≡ true)
        → (x.number == (if b then x.number else first_holding l) && b || some? (holds_with (if b then x.number else first_holding l)) l) ≡ true
    go true h r = rw (same x.number) refl
    go false h r = rw (and-false (x.number == first_holding l)) (r h)

-- no lower line holds, where the numbers rise
lowest-least : (n : ℕ) (l : List Line) → lines_rise n l ≡ true → Every (Under (first_holding l)) l
unfolding lines_rise Every first_holding
lowest-least n [] e = tt
lowest-least n (x ∷ l) e =
    let h = both (n <? x.number) (lines_rise x.number l) e in
    let p : n < x.number = ltb-true n x.number h.0 in
    go p x.holds (lines-above x.number l h.1) (lowest-least x.number l h.1)
  where
    go : n < x.number → (b : Bool) → Every (λ (y : Line). x.number < y.number) l → Every (Under (first_holding l)) l
        → (b ≡ true → (1 ≤ (if b then x.number else first_holding l)) × ((if b then x.number else first_holding l) ≤ x.number))
        × Every (Under (if b then x.number else first_holding l)) l
    go p true a i = ((λ z. (omega arith, omega arith)), every-so (λ (y : Line). x.number < y.number) (Under x.number) (λ y q z. (omega arith, omega arith)) l a)
    go p false a i = ((λ z. clashing z refl), i)

-- THE LOWEST IS GIVEN, of every list of lines whose numbers rise from 1 on ..
pub lowest-is-lowest : (l : List Line) → lines_rise 0 l ≡ true → IsLowest l (first_holding l)
lowest-is-lowest l e = record { holds = lowest-holds l; least = lowest-least 0 l e }

-- .. and no second number is that.
no-higher : (l : List Line) (g k : ℕ) → IsLowest l g → IsLowest l k → 1 ≤ g → (1 ≤ k) × (k ≤ g)
no-higher l g k p q h =
    let x = first (holds_with g) (line 0 false) l in
    let e = both (x.number == g) x.holds (first_passes (holds_with g) (line 0 false) l (p.holds h)) in
    let r = every_first (Under k) (holds_with g) (line 0 false) l (p.holds h) q.least e.1 in
    let z : x.number ≡ g = eqb-true x.number g e.0 in
    (r.0, omega (arith, r.1))

pub one-lowest : (l : List Line) (g k : ℕ) → IsLowest l g → IsLowest l k → g ≡ k
one-lowest l zero zero p q = refl
one-lowest l zero (suc k) p q = absurd (omega (arith, (no-higher l (suc k) 0 q p (omega arith)).0))
one-lowest l (suc g) zero p q = absurd (omega (arith, (no-higher l (suc g) 0 p q (omega arith)).0))
one-lowest l (suc g) (suc k) p q = omega (arith, (no-higher l (suc g) (suc k) p q (omega arith)).1, (no-higher l (suc k) (suc g) q p (omega arith)).1)

-- 0 is given just where no line holds.
pub none-holds-gives-0 : (l : List Line) → Every (λ (x : Line). x.holds ≡ false) l → first_holding l ≡ 0
unfolding Every first_holding
none-holds-gives-0 [] e = refl
none-holds-gives-0 (x ∷ l) e = rw e.0 (none-holds-gives-0 l e.1)

-- A CALL ON THE CARD is refused with the lowest number of its lines.
pub call-gets-the-lowest : (m : Model) (c : Call) → IsLowest (lines m c) (refusal m c)
unfolding refusal
call-gets-the-lowest m c = lowest-is-lowest (lines m c) (lines-rise m c)

-- THE CALLS BESIDE THE CARD: the lines that list them, ..
abbrev pub fresh_lines : Bounds → (title : List ℕ) → List Line
fresh_lines b title = line 12 (b.title <? length title) ∷ []

abbrev pub reader_lines : Bounds → (bytes : List ℕ) → List Line
reader_lines b bytes = line 1 (not (is_menu b bytes)) ∷ []

abbrev pub allocate_lines : (owners : List ℕ) (applet limit : ℕ) → List Line
allocate_lines owners n limit = line 2 (not (is_owner n)) ∷ line 13 (at_limit owners n limit) ∷ line 14 (none_free owners) ∷ []

abbrev pub release_lines : (owners : List ℕ) (applet timer : ℕ) → List Line
release_lines owners n timer = line 2 (not (is_owner n)) ∷ line 15 (not_its_timer owners n timer) ∷ []

-- .. their numbers rise too, ..
pub fresh-lines-rise : (b : Bounds) (title : List ℕ) → lines_rise 0 (fresh_lines b title) ≡ true
unfolding lines_rise
fresh-lines-rise b title = refl

pub reader-lines-rise : (b : Bounds) (bytes : List ℕ) → lines_rise 0 (reader_lines b bytes) ≡ true
unfolding lines_rise
reader-lines-rise b bytes = refl

pub allocate-lines-rise : (owners : List ℕ) (n limit : ℕ) → lines_rise 0 (allocate_lines owners n limit) ≡ true
unfolding lines_rise
allocate-lines-rise owners n limit = refl

pub release-lines-rise : (owners : List ℕ) (n timer : ℕ) → lines_rise 0 (release_lines owners n timer) ≡ true
unfolding lines_rise
release-lines-rise owners n timer = refl

-- .. and each is refused with the lowest: a fresh card, the menu reader, and the two calls of the bank alone.
pub fresh-gets-the-lowest : (b : Bounds) (title : List ℕ) → IsLowest (fresh_lines b title) (fresh_card b title).refusal
unfolding fresh_card fresh_by
fresh-gets-the-lowest b title =
    subst (IsLowest (fresh_lines b title)) (sym (number (first_holding (fresh_lines b title)))) (lowest-is-lowest _ (fresh-lines-rise b title))
  where
    number : (k : ℕ) → (fresh_by k b title).refusal ≡ k
    number zero = refl
    number (suc k) = refl

pub reader-gets-the-lowest : (b : Bounds) (bytes : List ℕ) → IsLowest (reader_lines b bytes) (menu_reader b bytes).refusal
unfolding menu_reader read_by
reader-gets-the-lowest b bytes =
    subst (IsLowest (reader_lines b bytes)) (sym (number (first_holding (reader_lines b bytes)) (read_menu b bytes))) (lowest-is-lowest _ (reader-lines-rise b bytes))
  where
    number : (k : ℕ) (x : Menu) → (read_by k x).refusal ≡ k
    number zero x = refl
    number (suc k) x = refl

pub allocate-gets-the-lowest : (owners : List ℕ) (n limit : ℕ) → IsLowest (allocate_lines owners n limit) (bank_allocate owners n limit).answer.refusal
unfolding bank_allocate allocate_by
allocate-gets-the-lowest owners n limit =
    subst (IsLowest (allocate_lines owners n limit)) (sym (number (first_holding (allocate_lines owners n limit)))) (lowest-is-lowest _ (allocate-lines-rise owners n limit))
  where
    number : (k : ℕ) → (allocate_by k owners n).answer.refusal ≡ k
    number zero = refl
    number (suc k) = refl

pub release-gets-the-lowest : (owners : List ℕ) (n limit timer : ℕ) → IsLowest (release_lines owners n timer) (bank_release owners n limit timer).answer.refusal
unfolding bank_release release_by
release-gets-the-lowest owners n limit timer =
    subst (IsLowest (release_lines owners n timer)) (sym (number (first_holding (release_lines owners n timer)))) (lowest-is-lowest _ (release-lines-rise owners n timer))
  where
    number : (k : ℕ) → (release_by k owners timer).answer.refusal ≡ k
    number zero = refl
    number (suc k) = refl

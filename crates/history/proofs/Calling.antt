-- Whom an arrival is for, and whose turn is to come: each once, in order. Whom next names is the first of these, and no other answer does.
-- Assumes nothing.
use Prim.Native.Nat.{ℕ, suc, ◌-◌, ◌≤◌, ◌<◌}
use native.Mathlib.Omega.{arith}
use mathlib.Core.Path.{◌≡◌, refl, sym, ap, ◌∙◌}
use mathlib.Core.Bool.{Bool, true, false, not, ◌&&◌, ◌||◌}
use mathlib.Core.Logic.{inl, inr}
use mathlib.Core.List.{List, [], ◌∷◌, map}
use lib.ListN.{get_or, take}
use borrow.Author.Tests.{eqb-true, eqb-false, eq-eqb, ne_eqb, ltb-true, ltb-false, lt-ltb}
use Rattle.lists.specs.Tests.{◌<?◌}
use Rattle.std.specs.Prelude.{if◌then◌else◌, ◌==◌}
use Rattle.lists.specs.Lists.{Ordered, some?, keep, in?, times, count}
use Rattle.lists.proofs.Decided.{clashing, both, or-either, same, refuted}
use Rattle.lists.proofs.Every.{every-so, every-keep, every_first, every-get_or}
use Rattle.lists.proofs.Firsts.{first_passes}
use Rattle.lists.proofs.Ifs.{if-holds}
use Rattle.lists.proofs.Counts.{count-keep, count_map}
use Rattle.lists.proofs.Times.{count-one, some_alike}
use Rattle.lists.proofs.Places.{get_or-blank}
use Rattle.lists.proofs.Order.{ordered-keep, ordered-imply, ordered-insert, ordered_of, ordered-from, one_list, each-there}
use Rattle.rules.specs.Holds.{Applet, Row, Tables, Round, Arrival, event, choice, help, expiry, status, nothing}
use Rattle.rules.specs.Events.{call_control}
use Rattle.rules.specs.Applets.{has_number, nobody, present, applet, registered, in_order}
use Rattle.rules.specs.Timers.{owner_of}
use Rattle.rules.specs.Held.{no_row}
use Rattle.rules.specs.Arrivals.{wants}
use Rattle.rules.specs.Rounds.{turns}
use Rattle.rules.proofs.Listed.{count-in_order, every-in_order}
use Rattle.runs.specs.Sound.{SoundTables, SoundRow, NobodyOrPresent}
use Rattle.runs.proofs.Looked.{has-its-number, absent-nobody, number-from}
use Rattle.history.specs.Histories.{History, stands}
use Rattle.history.specs.Deeds.{installs}
use Rattle.history.specs.Named.{is_selectable, is_registered, priority_of, is_later, rows_named}
use Rattle.history.specs.Called.{is_chosen, is_helped, is_named, is_callable, arrived, waits, is_due, is_before, Names, nobody as none-due, first}
use Rattle.history.proofs.Agree.{number_of, AgreeTables, AgreeRound}
use Rattle.history.proofs.Present.{Ranked}

-- EACH THAT PASSES, once, in order, and no other.
pub record EachInOrder (h : History) (p : ℕ → Bool) (l : List ℕ) : Type 0 where
  pub once : (n : ℕ) → times n l ≡ (if p n then 1 else 0)
  pub in_order : Ordered (λ n m. is_before h n m ≡ true) l

-- those whom an arrival is for and who are selectable, in order
unfoldable pub callable : Tables → Arrival → List ℕ
callable t a = map number_of (in_order (keep (λ (x : Applet). x.selectable && wants t a x) t.applets))

-- a smaller number, or the same and l
first_of : (a b : ℕ) (l : Bool) → (a <? b || a == b && l) ≡ true → (a ≤ b) × (a ≡ b → l ≡ true)
first_of a b l e = go (a <? b) (a == b) refl refl e
  where
    go : (x y : Bool) → (a <? b) ≡ x → (a == b) ≡ y → (x || y && l) ≡ true → (a ≤ b) × (a ≡ b → l ≡ true)
    go true y p q r = let z : a < b = ltb-true a b p in (omega arith, λ w. absurd (omega arith))
    go false true p q r = let z : a ≡ b = eqb-true a b q in (omega arith, λ w. r)
    go false false p q r = clashing r refl

module _ (h : History) where
  -- x is called before y, by the priorities that they have
  abbrev Before : Applet → Applet → Type 0
  Before x y = (x.priority <? y.priority || x.priority == y.priority && is_later x.number y.number h) ≡ true

  abbrev Older : Applet → Applet → Type 0
  Older x y = is_later y.number x.number h ≡ true

  -- an older one comes behind one whose priority number is no larger
  behind : (x y : Applet) → Older x y → (x.priority <? y.priority) ≡ false → Before y x
  behind x y o e = go (y.priority <? x.priority) (y.priority == x.priority) refl refl
    where
      go : (a b : Bool) → (y.priority <? x.priority) ≡ a → (y.priority == x.priority) ≡ b
          → (a || b && is_later y.number x.number h) ≡ true
      go true b p q = refl
      go false true p q = o
      go false false p q = clashing (eq-eqb y.priority x.priority (omega (arith, ltb-false y.priority x.priority p, ltb-false x.priority y.priority e))) q

  in_order_lem : (l : List Applet) → Ordered Older l → Ordered Before (in_order l)
  unfolding in_order Ordered
  in_order_lem [] o = tt
  in_order_lem (x ∷ l) o =
      ordered-insert Before (λ (y : Applet). x.priority <? y.priority) x
      (λ y z r f. lt-ltb x.priority z.priority (omega (arith, (first_of y.priority z.priority _ r).0, ltb-true x.priority y.priority f)))
      (in_order l)
      (every-in_order _ l (every-so (Older x) _ (λ y r. ((λ f. or-either _ _ f), behind x y r)) l o.0))
      (in_order_lem l o.1)

-- a timer is nobody's, or of one that is there
pub timer-owner : (t : Tables) → SoundTables t → (k : ℕ) → NobodyOrPresent t (owner_of t.timers k)
unfolding owner_of
timer-owner t s k = if-holds (NobodyOrPresent t) (k == 0) (λ z. inl refl) (λ z. every-get_or (NobodyOrPresent t) 0 (inl refl) t.timers (k - 1) s.each-timer)

module _ (t : Tables) (h : History) (s : SoundTables t) (g : AgreeTables t h) where
  wants-named : (a : Arrival) (n : ℕ) → present t n ≡ true → wants t a (applet t n) ≡ is_named h a n
  unfolding wants is_named registered is_chosen is_helped
  wants-named (event e) n p = go (e == call_control) refl
    where
      go : (c : Bool) → (e == call_control) ≡ c
          → (if c then t.control == (applet t n).number else get_or (applet t n).events e false) ≡ is_named h (event e) n
      go true q =
          ap (λ (z : ℕ). t.control == z) (has-its-number t n p)
          ∙ g.control n (number-from t s n p)
          ∙ rw (eqb-true e call_control q) refl
      go false q = g.events n e q
  wants-named (choice i) n p =
      ap (λ (z : ℕ). some? (λ (r : Row). r.identifier == i && r.owner == z && r.enabled) t.rows) (has-its-number t n p)
      ∙ some_alike (is_chosen i n) t.rows (rows_named h) (g.rows (is_chosen i n))
  wants-named (help i) n p =
      ap (λ (z : ℕ). some? (λ (r : Row). r.identifier == i && r.owner == z && r.enabled && r.help) t.rows) (has-its-number t n p)
      ∙ some_alike (is_helped i n) t.rows (rows_named h) (g.rows (is_helped i n))
  wants-named (expiry k) n p =
      ap (λ (z : ℕ). owner_of t.timers k == z) (has-its-number t n p)
      ∙ g.timers k n (number-from t s n p)
  wants-named status n p = ap (λ (s : ℕ). not (s == 0)) (g.poll n)
  wants-named nothing n p = refl

  -- .. and so is what a question about a registration is told
  pub told : (n e : ℕ) → present t n ≡ true → registered t e (applet t n) ≡ is_registered n e h
  unfolding wants is_named
  told n e p = wants-named (event e) n p

  -- an applet that is selectable is there
  absent-locked : (n : ℕ) → present t n ≡ false → is_selectable n h ≡ false
  absent-locked n p = sym (g.selectability n) ∙ ap (λ (x : Applet). x.selectable) (absent-nobody t n p)

  -- no row, no timer and no call control is of one that is not there ..
  no-row : (n : ℕ) → present t n ≡ false → (p : Row → Bool) → ((r : Row) → p r ≡ true → r.owner ≡ n) → some? p (rows_named h) ≡ false
  no-row n q p its =
      sym (some_alike p t.rows (rows_named h) (g.rows p))
      ∙ refuted (some? p t.rows) (λ y. clashing (every_first (SoundRow t) p no_row t.rows y s.each_row).owner (rw (its _ (first_passes p no_row t.rows y)) q))

  no-owner : (n o : ℕ) → present t n ≡ false → 1 ≤ n → NobodyOrPresent t o → (o == n) ≡ false
  no-owner n o q k (inl e) = ne_eqb o n (λ z. absurd (omega arith))
  no-owner n o q k (inr e) = ne_eqb o n (λ z. clashing (rw z at e) q)

  -- .. so that whatever arrives, it is not registered for it
  absent-unnamed : (a : Arrival) (n : ℕ) → 1 ≤ n → present t n ≡ false → is_named h a n ≡ false
  unfolding is_named is_chosen is_helped
  absent-unnamed (event e) n k q = go (e == call_control) refl
    where
      go : (c : Bool) → (e == call_control) ≡ c → is_registered n e h ≡ false
      go true z = rw (eqb-true e call_control z) (sym (g.control n k) ∙ no-owner n t.control q k s.control)
      go false z = sym (g.events n e z) ∙ ap (λ (x : Applet). get_or x.events e false) (absent-nobody t n q) ∙ get_or-blank false 20 e
  absent-unnamed (choice i) n k q = no-row n q _ (λ r y. eqb-true _ n (both (r.identifier == i) _ (both _ _ y).0).1)
  absent-unnamed (help i) n k q = no-row n q _ (λ r y. eqb-true _ n (both (r.identifier == i) _ (both _ _ (both _ _ y).0).0).1)
  absent-unnamed (expiry j) n k q = sym (g.timers j n k) ∙ no-owner n (owner_of t.timers j) q k (timer-owner t s j)
  absent-unnamed status n k q = ap (λ (s : ℕ). not (s == 0)) (sym (g.poll n) ∙ ap (λ (x : Applet). x.poll) (absent-nobody t n q))
  absent-unnamed nothing n k q = refl

  -- whom an arrival is for, by the card and by the history
  pub wants-as-named : (a : Arrival) (n : ℕ) → 1 ≤ n → (present t n && wants t a (applet t n)) ≡ is_named h a n
  wants-as-named a n k = go (present t n) refl
    where
      go : (c : Bool) → present t n ≡ c → (c && wants t a (applet t n)) ≡ is_named h a n
      go true q = wants-named a n q
      go false q = sym (absent-unnamed a n k q)

  pub callable-there : (a : Arrival) (n : ℕ) → is_callable h a n ≡ true → present t n ≡ true
  unfolding is_callable
  callable-there a n e = go (present t n) refl
    where
      go : (c : Bool) → present t n ≡ c → c ≡ true
      go true p = refl
      go false p = clashing (both (is_selectable n h) (is_named h a n) e).0 (absent-locked n p)

  -- those applets that pass, in order
  listed : (q : Applet → Bool) (p : ℕ → Bool) → ((n : ℕ) → (present t n && q (applet t n)) ≡ p n) → EachInOrder h p (map number_of (in_order (keep q t.applets)))
  unfolding times present applet is_before
  listed q p e =
      record {
        once =
            λ n. count_map (λ k. k == n) number_of (in_order (keep q t.applets))
            ∙ count-in_order (has_number n) (keep q t.applets)
            ∙ count-keep (has_number n) q t.applets
            ∙ count-one (has_number n) nobody q t.applets (s.numbers_apart n)
            ∙ ap (λ (b : Bool). if b then 1 else 0) (e n);
        in_order =
            ordered_of number_of (λ n m. is_before h n m ≡ true) (in_order (keep q t.applets))
            (ordered-imply (Before h) _ (Ranked h) (λ x y p q r. rw (← p, ← q) r) (in_order (keep q t.applets))
            (every-in_order (Ranked h) (keep q t.applets) (every-so _ (Ranked h) (λ x r. r.0) _ (every-keep (Ranked h) q t.applets g.priorities)))
            (in_order_lem h (keep q t.applets) (ordered-keep (Older h) q t.applets (ordered-from number_of (λ n m. is_later m n h ≡ true) t.applets g.order))));
      }

  -- THOSE WHOM AN ARRIVAL IS FOR and who are selectable ..
  pub callable-in-order : (a : Arrival) → EachInOrder h (is_callable h a) (callable t a)
  unfolding callable is_callable
  callable-in-order a = listed (λ x. x.selectable && wants t a x) (is_callable h a) (λ n. go n (present t n) refl)
    where
      go : (n : ℕ) (c : Bool) → present t n ≡ c → (c && ((applet t n).selectable && wants t a (applet t n))) ≡ (is_selectable n h && is_named h a n)
      go n true p = rw (wants-named a n p, g.selectability n) refl
      go n false p = rw (absent-locked n p) refl

  -- .. and those of them whose turn is to come.
  pub turns-in-order : (r : Round) → AgreeRound r h → r.is_open ≡ true → EachInOrder h (is_due h) (turns t r)
  unfolding turns is_due is_callable
  turns-in-order r o is_open_lem = listed _ (is_due h) (λ n. go n (present t n) refl)
    where
      go : (n : ℕ) (c : Bool) → present t n ≡ c
          → (c && (((applet t n).selectable && wants t r.arrived (applet t n)) && in? (applet t n).number r.waiting))
          ≡ (is_selectable n h && is_named h (arrived h) n && waits n h)
      go n true p = rw (wants-named r.arrived n p, g.selectability n, has-its-number t n p, o.arrival is_open_lem, o.waiting is_open_lem n (number-from t s n p)) refl
      go n false p = rw (absent-locked n p) refl

-- WHOM NEXT NAMES is the first of those who are due.
pub first-named : (h : History) (l : List ℕ) → EachInOrder h (is_due h) l → Names h (take 1 l)
unfolding times count Ordered
first-named h [] e = none-due (λ n. go (is_due h n) (e.once n))
  where
    go : (b : Bool) → ◌≡◌ {A = ℕ} 0 (if b then 1 else 0) → b ≡ false
    go true q = absurd (omega arith)
    go false q = refl
first-named h (n ∷ l) e = first n (is-due (is_due h n) (rw (same n) at (e.once n))) (λ m due other. each-there (λ m. is_before h n m ≡ true) m l e.in_order.0 (omega (arith, rw (ne_eqb n m (λ z. eqb-false m n other (sym z)), due) at (e.once m))))
  where
    is-due : (b : Bool) → suc (count (λ k. k == n) l) ≡ (if b then 1 else 0) → b ≡ true
    is-due true q = refl
    is-due false q = absurd (omega arith)

-- No second answer does.
later-one-way : (n m : ℕ) (h : History) → is_later n m h ≡ true → is_later m n h ≡ true → ⊥
unfolding is_later stands
later-one-way n m [] p q = clashing p refl
later-one-way n m (e ∷ h) p q = go (installs n e) (installs m e) p q (later-one-way n m h)
  where
    go : (a b : Bool) → (if b then false else if a then true else is_later n m h) ≡ true
        → (if a then false else if b then true else is_later m n h) ≡ true → (is_later n m h ≡ true → is_later m n h ≡ true → ⊥) → ⊥
    go true b p q f = clashing q refl
    go false true p q f = clashing p refl
    go false false p q f = f p q

pub before-one-way : (h : History) (n m : ℕ) → is_before h n m ≡ true → is_before h m n ≡ true → ⊥
unfolding is_before
before-one-way h n m p q =
    let i = first_of (priority_of n h) (priority_of m h) (is_later n m h) p in
    let j = first_of (priority_of m h) (priority_of n h) (is_later m n h) q in
    let e : priority_of n h ≡ priority_of m h = omega arith in
    later-one-way n m h (i.1 e) (j.1 (sym e))

pub one-list-only : (h : History) (p : ℕ → Bool) (l k : List ℕ) → EachInOrder h p l → EachInOrder h p k → l ≡ k
one-list-only h p l k a b = one_list (λ n m. is_before h n m ≡ true) (before-one-way h) l k a.in_order b.in_order (λ n. a.once n ∙ sym (b.once n))

pub one_answer : (h : History) {l k : List ℕ} → Names h l → Names h k → l ≡ k
one_answer h (none-due e) (none-due f) = refl
one_answer h (none-due e) (first m due before) = clashing due (e m)
one_answer h (first n due before) (none-due f) = clashing due (f n)
one_answer h (first n due before) (first m due' before') = go (m == n) refl
  where
    go : (b : Bool) → (m == n) ≡ b → n ∷ [] ≡ m ∷ []
    go true z = ap (λ (k : ℕ). k ∷ []) (sym (eqb-true m n z))
    go false z = absurd (before-one-way h n m (before m due' z) (before' n due (ne_eqb n m (λ w. eqb-false m n z (sym w)))))

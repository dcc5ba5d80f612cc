-- The applets by their numbers: what a table or a set says of one number, what changes where one applet does, who passes, and a sum.
-- Assumes nothing.
use Prim.Native.Nat.{ℕ, zero, suc, ◌-◌, ◌≤◌, ◌<◌}
use native.Mathlib.Omega.{arith}
use mathlib.Core.Path.{◌≡◌, refl, sym, ap, ◌∙◌}
use mathlib.Core.Logic.{◌⊎◌, inl, inr}
use mathlib.Core.Bool.{Bool, true, false}
use mathlib.Core.List.{List, [], ◌∷◌, map}
use lib.ListN.{get_or, get_or-eq_default}
use borrow.Author.Tests.{ltb-true, ltb-false}
use Rattle.lists.specs.Tests.{◌<?◌}
use Rattle.std.specs.Prelude.{if◌then◌else◌, ◌==◌}
use Rattle.lists.specs.Lists.{Every, some?, change, count, sum}
use Rattle.lists.specs.Tables.{table}
use Rattle.lists.proofs.Decided.{clashing}
use Rattle.lists.proofs.Every.{every-so, every-both, every-fails, every_first}
use Rattle.lists.proofs.Firsts.{first-missed}
use Rattle.lists.proofs.Keyed.{first-change, first-map, keys-map, some-keys}
use Rattle.lists.proofs.Mapped.{map-length}
use Rattle.lists.proofs.Owned.{sum-numbers}
use Rattle.lists.proofs.Tables.{table_at, table-alike, table-length}
use Rattle.sets.specs.Sets.{numbers, is_number, has?, set_of}
use Rattle.sets.proofs.Bits.{one_of, set-alike, has-set, has-none, is-number, no_number}
use Rattle.rules.specs.Holds.{Applet, Bounds, Tables, document}
use Rattle.rules.specs.Applets.{has_number, nobody, present, applet, in_order}
use Rattle.runs.specs.Sound.{SoundApplet, SoundTables}
use Rattle.runs.proofs.Looked.{each-found, absent-nobody, number-from, number-to}
use Rattle.applets.specs.ByNumber.{at, by_number, bare, grant_of, roll_of, selectable_set, registered_set, made_table, poll_table}
use Rattle.applets.proofs.Order.{map-map, map-order}

module _ (l : List Applet) where
  pub at_bare : (n : ℕ) → at (map bare l) n ≡ bare (at l n)
  at_bare n = first-map (λ (x : Applet). x.number) nobody bare (λ x. refl) refl n l

  -- what a table by number says of one number
  module _ {A : Type 0} (f : Applet → A) (d : A) (n : ℕ) (low : 1 ≤ n) (high : n ≤ 8) where
    pub by_number_lem : get_or (table 8 (λ i. f (at l (suc i)))) (n - 1) d ≡ f (at l n)
    by_number_lem =
        let back : suc (n - 1) ≡ n = omega arith in
        table_at 8 (λ i. f (at l (suc i))) (n - 1) d (omega arith) ∙ ap (λ (k : ℕ). f (at l k)) back

-- what installs fix does not look at what calls change
module _ (l : List Applet) where
  bare-present : (k : ℕ) → some? (has_number k) (map bare l) ≡ some? (has_number k) l
  bare-present k = some-keys (λ (x : Applet). x.number) k (map bare l) l (keys-map (λ (x : Applet). x.number) nobody bare (λ x. refl) l)

  roll-bare : roll_of (map bare l) ≡ roll_of l
  unfolding roll_of grant_of
  roll-bare =
      rw (
        set-alike _ _ (λ k a b. bare-present k),
        map-length bare l,
        map-map l,
        map-order bare (λ x. refl) l,
        map-map (in_order l),
        table-alike 8 _ _ (λ i h. ap grant_of (at_bare l (suc i))),
      )
      refl

pub roll-same : (u l : List Applet) → map bare u ≡ map bare l → roll_of u ≡ roll_of l
roll-same u l e = sym (roll-bare u) ∙ ap roll_of e ∙ roll-bare l

-- none of them passes
pub none-some : {A : Type 0} (p : A → Bool) (l : List A) → Every (λ x. p x ≡ false) l → some? p l ≡ false
unfolding Every some?
none-some p [] e = refl
none-some p (x ∷ l) e = rw e.0 (none-some p l e.1)

-- what is never changed stays so in a list with one applet changed
bare-change : (p : Applet → Bool) (f : Applet → Applet) → ((x : Applet) → bare (f x) ≡ bare x) → (l : List Applet) → map bare (change p f l) ≡ map bare l
unfolding change
bare-change p f same [] = refl
bare-change p f same (x ∷ l) = go (p x) (bare-change p f same l)
  where
    go : (b : Bool) → map bare (change p f l) ≡ map bare l → map bare (if b then f x ∷ l else x ∷ change p f l) ≡ bare x ∷ map bare l
    go true e = ap (λ (y : Applet). y ∷ map bare l) (same x)
    go false e = ap (λ (k : List Applet). bare x ∷ k) e

-- one applet that is there, changed
module _ (l : List Applet) (n : ℕ) (f : Applet → Applet) (there : some? (has_number n) l ≡ true) (same : (x : Applet) → bare (f x) ≡ bare x) where
  abbrev u : List Applet
  u = change (has_number n) f l

  pub at-change : (k : ℕ) → at u k ≡ (if n == k then f (at l k) else at l k)
  at-change k = first-change (λ (x : Applet). x.number) nobody f (λ x. ap (λ (y : Applet). y.number) (same x)) k n l there

  pub roll-kept : roll_of u ≡ roll_of l
  roll-kept = roll-same u l (bare-change (has_number n) f same l)

  -- a field that the change leaves
  module _ {A : Type 0} (g : Applet → A) (stays : (x : Applet) → g (f x) ≡ g x) where
    pub field-kept : (k : ℕ) → g (at u k) ≡ g (at l k)
    field-kept k = ap g (at-change k) ∙ go (n == k) (at l k)
      where
        go : (b : Bool) (x : Applet) → g (if b then f x else x) ≡ g x
        go true x = stays x
        go false x = refl

    table_kept : table 8 (λ i. g (at u (suc i))) ≡ table 8 (λ i. g (at l (suc i)))
    table_kept = table-alike 8 _ _ (λ i a. field-kept (suc i))

  pub selectable-kept : ((x : Applet) → (f x).selectable ≡ x.selectable) → selectable_set u ≡ selectable_set l
  unfolding selectable_set
  selectable-kept h = set-alike _ _ (λ k a b. field-kept (λ (x : Applet). x.selectable) h k)

  pub registered-kept : (e : ℕ) → ((x : Applet) → get_or (f x).events e false ≡ get_or x.events e false) → registered_set u e ≡ registered_set l e
  unfolding registered_set
  registered-kept e h = set-alike _ _ (λ k a b. field-kept (λ (x : Applet). get_or x.events e false) h k)

  pub made_kept : ((x : Applet) → (f x).made ≡ x.made) → made_table u ≡ made_table l
  unfolding made_table
  made_kept h = table_kept (λ (x : Applet). x.made) h

  pub poll-kept : ((x : Applet) → (f x).poll ≡ x.poll) → poll_table u ≡ poll_table l
  unfolding poll_table
  poll-kept h = table_kept (λ (x : Applet). x.poll) h

-- one of the applets passes where the one with some number does
module _ (t : Tables) (s : SoundTables t) (e : t.bounds ≡ document) (p : Applet → Bool) (nobody-not : p nobody ≡ false) where
  none-there : some? (λ k. p (at t.applets k)) numbers ≡ false → some? p t.applets ≡ false
  none-there h =
      none-some p t.applets
      (every-so (λ (x : Applet). (applet t x.number ≡ x) × SoundApplet t.bounds x) (λ (x : Applet). p x ≡ false) one t.applets
      (every-both (λ (x : Applet). applet t x.number ≡ x) (SoundApplet t.bounds) t.applets (each-found t s) s.each-applet))
    where
      one : (x : Applet) → (applet t x.number ≡ x) × SoundApplet t.bounds x → p x ≡ false
      one x (found, o) =
          let is : at t.applets x.number ≡ x = unfold applet in found in
          let eight : t.bounds.applets ≡ 8 = ap (λ (b : Bounds). b.applets) e in
          ap p (sym is) ∙ one_of (λ (k : ℕ). p (at t.applets k) ≡ false) (every-fails _ numbers h) x.number o.number-from (omega (arith, o.number-to))

  none-by : some? p t.applets ≡ false → (k : ℕ) → p (at t.applets k) ≡ false
  none-by h k = go (some? (has_number k) t.applets) refl
    where
      go : (b : Bool) → some? (has_number k) t.applets ≡ b → p (at t.applets k) ≡ false
      go true q = every_first (λ (x : Applet). p x ≡ false) (has_number k) nobody t.applets q (every-fails p t.applets h)
      go false q = ap p (first-missed (has_number k) nobody t.applets q) ∙ nobody-not

  pub some-by : some? p t.applets ≡ some? (λ k. p (at t.applets k)) numbers
  some-by = go (some? p t.applets) (some? (λ k. p (at t.applets k)) numbers) refl refl
    where
      go : (a b : Bool) → some? p t.applets ≡ a → some? (λ k. p (at t.applets k)) numbers ≡ b → a ≡ b
      go true true q r = refl
      go true false q r = clashing q (none-there r)
      go false true q r = clashing r (none-some _ numbers (unfold numbers Every in (none-by q 1, (none-by q 2, (none-by q 3, (none-by q 4, (none-by q 5, (none-by q 6, (none-by q 7, (none-by q 8, tt))))))))))
      go false false q r = refl

-- A TABLE BY NUMBER holds of every number what the applet with it has
module _ (t : Tables) (s : SoundTables t) (e : t.bounds ≡ document) where
  nobody-at : (n : ℕ) → (present t n ≡ true → ⊥) → at t.applets n ≡ nobody
  unfolding applet
  nobody-at n not_there = go (present t n) refl
    where
      go : (b : Bool) → present t n ≡ b → at t.applets n ≡ nobody
      go true q = absurd (not_there q)
      go false q = absent-nobody t n q

  pub by-any : {A : Type 0} (f : Applet → A) (n : ℕ) → by_number (f nobody) (table 8 (λ i. f (at t.applets (suc i)))) n ≡ f (at t.applets n)
  by-any f zero = ap f (sym (nobody-at 0 (λ q. omega (arith, number-from t s 0 q))))
  by-any f (suc i) = go (i <? 8) refl
    where
      go : (b : Bool) → (i <? 8) ≡ b → get_or (table 8 (λ j. f (at t.applets (suc j)))) i (f nobody) ≡ f (at t.applets (suc i))
      go true q = table_at 8 _ i (f nobody) (ltb-true i 8 q)
      go false q =
          let h = ltb-false i 8 q in
          let eight : t.bounds.applets ≡ 8 = ap (λ (b : Bounds). b.applets) e in
          get_or-eq_default (table 8 (λ j. f (at t.applets (suc j)))) (f nobody) {n = i} (omega (arith, table-length 8 (λ j. f (at t.applets (suc j)))))
          ∙ ap f (sym (nobody-at (suc i) (λ k. omega (arith, number-to t s (suc i) k, eight))))

-- a sum over the applets goes by their numbers, where nobody counts nothing
once-each : Every (λ n. count (λ k. n == k) numbers ≡ 1) numbers
unfolding numbers Every count
once-each = (refl, (refl, (refl, (refl, (refl, (refl, (refl, (refl, tt))))))))

pub sum_by : (t : Tables) → SoundTables t → t.bounds ≡ document → (f : Applet → ℕ) → f nobody ≡ 0 → sum f t.applets ≡ sum (λ k. f (at t.applets k)) numbers
sum_by t s e f nothing = sum-numbers (λ (x : Applet). x.number) nobody f nothing numbers t.applets s.numbers_apart (every-so (SoundApplet t.bounds) _ one t.applets s.each-applet)
  where
    one : (x : Applet) → SoundApplet t.bounds x → count (λ k. x.number == k) numbers ≡ 1
    one x o =
        let eight : t.bounds.applets ≡ 8 = ap (λ (b : Bounds). b.applets) e in
        one_of (λ n. count (λ k. n == k) numbers ≡ 1) once-each x.number o.number-from (omega (arith, o.number-to))

-- whether an applet is there, by the set of those present
pub present-in : (t : Tables) → SoundTables t → t.bounds ≡ document → (n : ℕ) → has? (roll_of t.applets).present n ≡ present t n
unfolding roll_of present
present-in t s e n = go (is_number n) refl
  where
    outside : is_number n ≡ false → (b : Bool) → present t n ≡ b → false ≡ b
    outside o true q = absurd (split (no_number n o))
      where
        split : (n ≡ 0) ⊎ (8 < n) → ⊥
        split (inl z) = omega (arith, number-from t s n q)
        split (inr g) =
            let eight : t.bounds.applets ≡ 8 = ap (λ (b : Bounds). b.applets) e in
            omega (arith, number-to t s n q)
    outside o false q = refl

    go : (b : Bool) → is_number n ≡ b → has? (set_of (λ k. some? (has_number k) t.applets)) n ≡ some? (has_number n) t.applets
    go true q = let k = is-number n q in has-set (λ k. some? (has_number k) t.applets) n k.0 k.1
    go false q = sym (has-none _ n q) ∙ outside q (present t n) refl

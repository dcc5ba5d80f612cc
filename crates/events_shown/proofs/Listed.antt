-- The loop that gathers the codes of the shown events, and that the sets show those that the rules show.
-- Assumes nothing.
use Prim.Native.Nat.{ℕ, suc, ◌+◌, ◌≤◌, ◌<◌}
use native.Mathlib.Omega.{arith}
use native.Mathlib.Numerals.{add-one}
use mathlib.Core.Path.{◌≡◌, refl, sym, ap, ◌∙◌}
use mathlib.Core.Bool.{Bool, true, false}
use mathlib.Core.List.{List, [], ◌∷◌, ◌++◌, append-nil}
use lib.ListN.{length, take, get_or, set, length-append}
use lib.Seq.{take-suc, length-take-le}
use Rattle.std.specs.Prelude.{if◌then◌else◌}
use Rattle.lists.specs.Lists.{padded}
use Rattle.lists.specs.Tables.{table}
use Rattle.lists.proofs.Padded.{push}
use Rattle.lists.proofs.Tables.{table_at}
use Rattle.sets.specs.Sets.{meets}
use Rattle.rules.specs.Holds.{Tables, document}
use Rattle.rules.specs.Events.{codes}
use Rattle.rules.specs.Commands.{listened, shown_from, shown_events}
use Rattle.runs.specs.Sound.{SoundTables}
use Rattle.applets.specs.ByNumber.{selectable_set, registered_set}
use Rattle.events_shown.specs.declared.Codes.{Codes}
use Rattle.events_shown.specs.Listed.{codes_from, codes_of}
use Rattle.events_shown.specs.Turns.{is_listened}
use Rattle.events_shown.proofs.Shown.{listened-meets}

codes-snoc : (p : ℕ → Bool) (e : ℕ) (l : List ℕ) (x n : ℕ) → n ≡ e + length l → codes_from p e (l ++ (x ∷ [])) ≡ codes_from p e l ++ (if p n then x ∷ [] else [])
unfolding codes_from
codes-snoc p e [] x n q = let z : n ≡ e = omega arith in rw z refl
codes-snoc p e (c ∷ l) x n q = go (p e) _ (codes-snoc p (suc e) l x n (omega arith))
  where
    go : (b : Bool) (r : List ℕ) {k : List ℕ} → k ≡ codes_from p (suc e) l ++ r → (if b then c ∷ k else k) ≡ (if b then c ∷ codes_from p (suc e) l else codes_from p (suc e) l) ++ r
    go true r h = ap (λ (m : List ℕ). c ∷ m) h
    go false r h = h

pub few-codes : (p : ℕ → Bool) (e : ℕ) (l : List ℕ) → length (codes_from p e l) ≤ length l
unfolding codes_from
few-codes p e [] = omega arith
few-codes p e (c ∷ l) = go (p e) (few-codes p (suc e) l)
  where
    go : (b : Bool) → length (codes_from p (suc e) l) ≤ length l → length (if b then c ∷ codes_from p (suc e) l else codes_from p (suc e) l) ≤ suc (length l)
    go true h = omega arith
    go false h = omega arith

-- a loop that has gathered those of the first i codes whose places pass
module _ (p : ℕ → Bool) (l : List ℕ) where
  pub record Gathered (i : ℕ) (at : List ℕ) (k : ℕ) : Type 0 where
    pub few : k ≤ i
    pub form : at ≡ padded 13 0 (codes_from p 5 (take i l))
    pub many : k ≡ length (codes_from p 5 (take i l))

  one_code : (i : ℕ) → i < length l → codes_from p 5 (take (i + 1) l) ≡ codes_from p 5 (take i l) ++ (if p (5 + i) then get_or l i 0 ∷ [] else [])
  one_code i h = rw (add-one i, take-suc l i 0 h) (codes-snoc p 5 (take i l) (get_or l i 0) (5 + i) (omega (arith, length-take-le i l (omega arith))))

  pub gathered-yes : (i : ℕ) (at : List ℕ) (k : ℕ) → i < length l → k < 13 → p (5 + i) ≡ true → Gathered i at k → Gathered (i + 1) (set at k (get_or l i 0)) (k + 1)
  gathered-yes i at k h f e o =
      let y : codes_from p 5 (take (i + 1) l) ≡ codes_from p 5 (take i l) ++ (get_or l i 0 ∷ []) = one_code i h ∙ rw e refl in
      record {
        few = omega (arith, o.few);
        form = rw y (push 13 0 (codes_from p 5 (take i l)) at k (get_or l i 0) o.form o.many f);
        many = omega (arith, o.many, simp length-append at (ap length y));
      }

  pub gathered-no : (i : ℕ) (at : List ℕ) (k : ℕ) → i < length l → p (5 + i) ≡ false → Gathered i at k → Gathered (i + 1) at k
  gathered-no i at k h e o =
      let y : codes_from p 5 (take (i + 1) l) ≡ codes_from p 5 (take i l) = one_code i h ∙ rw e (append-nil _) in
      record { few = omega (arith, o.few); form = rw y o.form; many = rw y o.many }

pub gathered-all : (p : ℕ → Bool) (at : List ℕ) (k : ℕ) → Gathered p codes 13 at k → ◌≡◌ {A = Codes} (record { at = at; count = k }) (codes_of (codes_from p 5 codes))
unfolding codes_of codes
gathered-all p at k o = rw (o.form, o.many) refl

-- WHAT IS SHOWN, by the sets
module _ (t : Tables) (sound : SoundTables t) (b : t.bounds ≡ document) {g : List ℕ} (is : g ≡ table 20 (registered_set t.applets)) where
  shown-from : (e : ℕ) (l : List ℕ) → 5 ≤ e → e + length l ≤ 20 → codes_from (is_listened g (selectable_set t.applets)) e l ≡ shown_from t e l
  unfolding codes_from shown_from
  shown-from e [] h f = refl
  shown-from e (c ∷ l) h f =
      let own : get_or g e 0 ≡ registered_set t.applets e = ap (λ (k : List ℕ). get_or k e 0) is ∙ table_at 20 (registered_set t.applets) e 0 (omega arith) in
      let heard : is_listened g (selectable_set t.applets) e ≡ listened t e = ap (λ (k : ℕ). meets k (selectable_set t.applets)) own ∙ sym (listened-meets t sound b e h) in
      rw (heard, shown-from (suc e) l (omega arith) (omega arith)) refl

  pub events-by : codes_from (is_listened g (selectable_set t.applets)) 5 codes ≡ shown_events t
  unfolding shown_events codes
  events-by = shown-from 5 codes (omega arith) (omega arith)

-- The table of refusals for an install, by the roll of the applets present.
-- Assumes nothing.
use Prim.Native.Nat.{ℕ, suc, ◌+◌}
use mathlib.Core.Path.{◌≡◌, refl, sym, ap, ◌∙◌}
use mathlib.Core.Bool.{Bool, not}
use mathlib.Core.List.{List, [], ◌∷◌}
use Rattle.lists.specs.Tests.{◌<?◌}
use Rattle.std.specs.Prelude.{◌==◌}
use Rattle.lists.specs.Lists.{some?, keep, sum, gather, in?, repeats?, padded}
use Rattle.lists.specs.Tables.{table}
use Rattle.lists.proofs.Alike.{repeats-alike}
use Rattle.lists.proofs.Sums.{some-gather}
use Rattle.lists.proofs.Walk.{some_alike}
use Rattle.sets.specs.Sets.{numbers, has?}
use Rattle.rules.specs.declared.Pair.{Pair}
use Rattle.rules.specs.declared.Grant.{Grant}
use Rattle.rules.specs.declared.Roll.{Roll}
use Rattle.rules.specs.declared.Request.{Request}
use Rattle.rules.specs.Holds.{Applet, Bounds, Tables, document}
use Rattle.rules.specs.Applets.{is_number, entries, looked_at, out_of_range, requested, too_many, clash}
use Rattle.rules.specs.Rows.{no_pair}
use Rattle.rules.specs.Calls.{install}
use Rattle.rules.specs.Refusals.{Line, line, admin_lines, first_holding}
use Rattle.runs.specs.Sound.{SoundTables}
use Rattle.applets.specs.ByNumber.{at, grant_of, roll_of}
use Rattle.applets.proofs.Numbers.{some-by, sum_by, present-in}
use Rattle.admission.specs.Refuses.{RefusesInstall, limit, taken}
use Rattle.admission.proofs.Requests.{in_taken, requested-padded}

-- the lines of install, as the roll tells them
unfoldable pub lines_by : Roll → (number : ℕ) → Request → List Line
lines_by s n q =
    line 2 (not (is_number document n))
    ∷ line 3 (has? s.present n)
    ∷ line 4 (out_of_range document q)
    ∷ line 5 (12 <? sum limit s.grants + q.entries)
    ∷ line 6 (repeats? (requested (looked_at q)) (taken s.grants))
    ∷ []

module _ (t : Tables) (s : SoundTables t) (e : t.bounds ≡ document) where
  abbrev grants : List Grant
  grants = table 8 (λ i. grant_of (at t.applets (suc i)))

  limits-sum : sum limit grants ≡ sum entries t.applets
  unfolding grant_of table sum numbers
  limits-sum = sym (sum_by t s e entries refl)

  asked : (i : ℕ) → in? i (taken grants) ≡ in? i (gather (λ (x : Applet). requested x.limits.pairs) t.applets)
  unfolding in?
  asked i =
      in_taken i grants
      ∙ unfold table some? numbers grant_of in some_alike (λ k. in? i (requested (grant_of (at t.applets k)).pairs)) _ numbers (λ k. ap (in? i) (requested-padded 4 (at t.applets k).limits.pairs))
      ∙ sym (some-by t s e (λ (x : Applet). in? i (requested x.limits.pairs)) (unfold requested keep some? in refl))
      ∙ sym (some-gather (λ k. k == i) (λ (x : Applet). requested x.limits.pairs) t.applets)

  lines_are : (n : ℕ) (q : Request) → first_holding (lines_by (roll_of t.applets) n q) ≡ first_holding (admin_lines t (install n q))
  unfolding lines_by admin_lines too_many clash roll_of
  lines_are n q =
      five
      (ap (λ (b : Bounds). not (is_number b n)) (sym e))
      (present-in t s e n)
      (ap (λ (b : Bounds). out_of_range b q) (sym e))
      (ap (λ (k : ℕ). 12 <? k + q.entries) limits-sum ∙ ap (λ (b : Bounds). b.rows <? sum entries t.applets + q.entries) (sym e))
      (repeats-alike (requested (looked_at q)) (taken grants) _ asked)
    where
      five : {a b c d f k l m o p : Bool} → a ≡ k → b ≡ l → c ≡ m → d ≡ o → f ≡ p → first_holding (line 2 a ∷ line 3 b ∷ line 4 c ∷ line 5 d ∷ line 6 f ∷ []) ≡ first_holding (line 2 k ∷ line 3 l ∷ line 4 m ∷ line 5 o ∷ line 6 p ∷ [])
      five u v w x y = rw (u, v, w, x, y) refl

pub refusing : (s : Roll) (n : ℕ) (q : Request) {r : ℕ} → r ≡ first_holding (lines_by s n q) → RefusesInstall s n q r
refusing s n q r t sound e is = r ∙ ap (λ (k : Roll). first_holding (lines_by k n q)) is ∙ lines_are t sound e n q

-- so much is there, and so much is asked for
pub limits-are : {there more entries asked : ℕ} (g : List Grant) → entries ≡ there + more → there ≡ sum limit g → more ≡ asked → (12 <? sum limit g + asked) ≡ (12 <? entries)
limits-are g e is asks = rw (e, is, asks) refl

-- the pairs looked at, with blanks behind, request the same
pub clash-is : (q : Request) (others : List ℕ) {b : Bool} {ps : List Pair} → ps ≡ padded 4 no_pair (looked_at q) → b ≡ repeats? (requested ps) others → b ≡ repeats? (requested (looked_at q)) others
clash-is q others e f = f ∙ ap (λ (k : List ℕ). repeats? k others) (ap requested e ∙ requested-padded 4 (looked_at q))

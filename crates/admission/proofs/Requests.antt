-- Laws of requested identifiers: what a search among the pairs says of them, and a loop that looks for one requested twice.
-- Assumes nothing.
use Prim.Native.Nat.{ℕ, zero, suc, ◌+◌, ◌-◌, ◌≤◌, ◌<◌}
use mathlib.Core.Path.{◌≡◌, refl, sym, ap, ◌∙◌}
use mathlib.Core.Bool.{Bool, true, false, not, ◌&&◌, ◌||◌}
use mathlib.Core.List.{List, [], ◌∷◌, ◌++◌, map, append-nil}
use lib.ListN.{length, take, drop, get_or, replicate, drop_of_length-le}
use borrow.Author.Tests.{eqb-true, ne_eqb}
use Rattle.std.specs.Prelude.{if◌then◌else◌, ◌==◌}
use Rattle.std.proofs.lemmas.List.{drop-replicate}
use Rattle.lists.specs.Lists.{some?, keep, padded, in?, repeats?}
use Rattle.lists.proofs.Keep.{keep_append}
use Rattle.lists.proofs.Mapped.{map-append}
use Rattle.lists.proofs.Parts.{part-rest}
use Rattle.lists.proofs.Sums.{some-gather}
use Rattle.lists.proofs.Truth.{or-false, or_assoc}
use Rattle.lists.proofs.Walk.{drop-step, some_alike, take-taken}
use Rattle.rules.specs.declared.Pair.{Pair}
use Rattle.rules.specs.declared.Grant.{Grant}
use Rattle.rules.specs.declared.Request.{Request}
use Rattle.rules.specs.Applets.{requested, looked_at}
use Rattle.rules.specs.Rows.{no_pair}
use Rattle.admission.specs.Refuses.{taken, asks_for, has_requested}

-- blanks request nothing
none-blank : (n : ℕ) → requested (replicate n no_pair) ≡ []
unfolding requested keep
none-blank zero = refl
none-blank (suc n) = none-blank n

pub requested-padded : (cap : ℕ) (ps : List Pair) → requested (padded cap no_pair ps) ≡ requested ps
unfolding requested padded
requested-padded cap ps =
    let blanks = replicate (cap - length ps) no_pair in
    ap (keep (λ i. not (i == 0))) (map-append (λ (p : Pair). p.identifier) ps blanks)
    ∙ keep_append (λ i. not (i == 0)) (map (λ (p : Pair). p.identifier) ps) (map (λ (p : Pair). p.identifier) blanks)
    ∙ ap (λ (l : List ℕ). requested ps ++ l) (none-blank (cap - length ps))
    ∙ append-nil (requested ps)

-- the pairs that are looked at, put into an array of blanks
pub looked-put : (q : Request) {k n : ℕ} {front : List Pair} → n ≡ k → k ≡ length (looked_at q) → k ≤ 4 → front ≡ take n q.pairs → front ++ drop n (replicate 4 no_pair) ≡ padded 4 no_pair (looked_at q)
unfolding looked_at padded
looked-put q {k} {n} same long few front =
    rw (front, same, long, take-taken q.entries q.pairs) (ap (λ (l : List Pair). take q.entries q.pairs ++ l) (drop-replicate (length (looked_at q)) 4 no_pair))

-- who requests an identifier
pub in_taken : (i : ℕ) (l : List Grant) → in? i (taken l) ≡ some? (λ (g : Grant). in? i (requested g.pairs)) l
unfolding in?
in_taken i l = some-gather (λ k. k == i) (λ (g : Grant). requested g.pairs) l

-- one that is not zero is requested if a pair asks for it
module _ (i : ℕ) (other : i ≡ 0 → ⊥) where
  pub in-requested : (ps : List Pair) → in? i (requested ps) ≡ some? (asks_for i) ps
  unfolding in? requested keep some?
  in-requested [] = refl
  in-requested (p ∷ ps) = go (p.identifier == 0) refl (in-requested ps)
    where
      go : (b : Bool) → (p.identifier == 0) ≡ b → in? i (requested ps) ≡ some? (asks_for i) ps → in? i (if not b then p.identifier ∷ requested ps else requested ps) ≡ ((p.identifier == i) || some? (asks_for i) ps)
      go true e r = let z = eqb-true p.identifier 0 e in rw (ne_eqb p.identifier i (λ q. other (sym q ∙ z))) r
      go false e r = ap (λ (b : Bool). (p.identifier == i) || b) r

  pub has-asked : (l : List Grant) → in? i (taken l) ≡ some? (has_requested i) l
  has-asked l = in_taken i l ∙ some_alike _ _ l (λ g. in-requested g.pairs)

-- a loop that looks for an identifier requested twice: what is found so far and what is left of the pairs decide
module _ (ps : List Pair) (others : List ℕ) where
  pub record Repeated (found : Bool) (i : ℕ) : Type 0 where
    pub left : repeats? (requested ps) others ≡ (found || repeats? (requested (drop i ps)) others)

  pub behind-all : (n i : ℕ) → length ps ≡ n → take (n - i) (drop i ps) ≡ drop i ps
  behind-all n i e = rw (← e) (part-rest ps i)

  next : (p : Pair) (k : List Pair) → repeats? (requested (p ∷ k)) others ≡ (not (p.identifier == 0) && (in? p.identifier (requested k) || in? p.identifier others) || repeats? (requested k) others)
  unfolding requested keep repeats?
  next p k = go (p.identifier == 0)
    where
      go : (z : Bool) → repeats? (if not z then p.identifier ∷ requested k else requested k) others ≡ (not z && (in? p.identifier (requested k) || in? p.identifier others) || repeats? (requested k) others)
      go true = refl
      go false = refl

  pub repeated-more
      : (i : ℕ) (d : Pair) {x found : Bool} {behind : List Pair}
      → i < length ps
      → behind ≡ drop (i + 1) ps
      → x ≡ (not ((get_or ps i d).identifier == 0) && (in? (get_or ps i d).identifier (requested behind) || in? (get_or ps i d).identifier others))
      → Repeated found i
      → Repeated (found || x) (i + 1)
  repeated-more i d {x} {found} h b e' o =
      let rest = repeats? (requested (drop (i + 1) ps)) others in
      let e = rw b at e' in
      record {
        left =
            o.left
            ∙ ap (λ (b : Bool). found || b) (ap (λ (k : List Pair). repeats? (requested k) others) (drop-step ps i d h) ∙ next (get_or ps i d) (drop (i + 1) ps) ∙ ap (λ (b : Bool). b || rest) (sym e))
            ∙ sym (or_assoc found x rest);
      }

  pub repeated-all : (i : ℕ) {found : Bool} → length ps ≤ i → Repeated found i → found ≡ repeats? (requested ps) others
  unfolding requested keep repeats?
  repeated-all i {found} h o = sym (o.left ∙ rw (drop_of_length-le ps h) (or-false found))

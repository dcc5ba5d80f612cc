-- Where a search for a byte ends: at the first place of it, or at the end where there is none; and what a read by an option gives.
-- Assumes nothing.
use Rattle.std.proofs.Common.{ℕ, ◌≡◌, ◌==◌, Bool, true, false, not, Option, Some, None, List, length, get_or, nat_lt, refl, sym, ap, ◌∙◌, arith}
use denote.Ref.{Bor}
use Rattle.std.specs.List.{position, position_or_len, slice_get}
use Rattle.std.specs.Option.{unwrap_or, option_map}
use Rattle.std.proofs.lemmas.List.Sums.{prefix_len-le-length}
use Rattle.std.proofs.lemmas.Option.{cond_some, unwrap_or-slice_get}
use borrow.Author.Tests.{ltb-false}

module _ (byte : ℕ) (s : List ℕ) where
  pub position-is : {n : ℕ} → Some n ≡ position (λ b. b == byte) s → n ≡ position_or_len (λ b. b == byte) s
  position-is e = sym (cond_some _ _ _ (sym e)).1

  pub position-end : None ≡ position (λ b. b == byte) s → length s ≡ position_or_len (λ b. b == byte) s
  position-end e = go (nat_lt (position_or_len (λ b. b == byte) s) (length s)) refl
    where
      go : (b : Bool) → nat_lt (position_or_len (λ b. b == byte) s) (length s) ≡ b → length s ≡ position_or_len (λ b. b == byte) s
      go true h = let z : ◌≡◌ {A = Option ℕ} None (Some (position_or_len (λ b. b == byte) s)) = simp h at e in cc
      go false h = omega (arith, ltb-false _ _ h, prefix_len-le-length (λ b. not (b == byte)) s)

-- what stands at an index, or what is given in its place
pub read-or : {X : Type 0} (l : List X) (n : ℕ) (d : X) (o : Option (Bor X)) (r e : Bor X) → option_map (λ x. x.now) o ≡ slice_get l n → r ≡ unwrap_or o e → e.now ≡ d → r.now ≡ get_or l n d
read-or l n d None r e at is q = ap (λ x. x.now) is ∙ q ∙ ap (λ x. unwrap_or x d) at ∙ unwrap_or-slice_get l n d
read-or l n d (Some x) r e at is q = ap (λ x. x.now) is ∙ ap (λ x. unwrap_or x d) at ∙ unwrap_or-slice_get l n d

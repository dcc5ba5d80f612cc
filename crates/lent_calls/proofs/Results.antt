-- What the method of a lent call hands back, a struct of what was lent and an answer; whether the call stores the first; and that it ends with the
-- second. Assumes nothing.
use mathlib.Core.Path.{◌≡◌, refl, sym}
use Prim.Native.Nat.{ℕ, zero}
use mathlib.Core.List.{[], ◌∷◌, List}
use lib.ListN.{get_or}
use seplogic.Ra.Ura.{Ura}
use base.Fraction.{full_share}
use lib.Dec.{T}
use mir.Syntax.{Ty, ty_struct, tcons, tnil, Body as Code, seq, assign, return, place, deref, field, rv_opd, copy}
use mir.Val.{Val, vptr, vstruct, vcons, vnil, has_ty, WT}
use base.Logic.{SProp, ent, sep, emp, via, comm∗, emp∗, fst∗}
use base.Fml.{fat, froom}
use prog.Wp.{Calls, Loops, Env, no_local}
use types.Logic.{Logic}
use contract.Monad.{fact}
use types.Kit.{Item, ‵, prop, runs, Post as Ends, Seq, Step, ◌$◌, rewrite, suffices}
use types.Run.{look, init, store_raw, stop, hop, fld, from, load, of_opd, assigns}
use types.Part.{whole, sub, look_in}
use denote.RattleType.{RattleType}
use denote.Laws.{Is}
use denote.Memory.{cell_at, lone}
use denote.Steps.{owned}
use denote.Struct.Struct.{Plains}
use denote.Struct.Declared.{Declared, row, fields}
use denote.Struct.Laws as LL
use denote.Triple.Walked.{says, needs}
use Rattle.lent_calls.proofs.Pars.{at}

-- ---- a struct, with its laws
pub record Plainly : Type 2 where
  pub type : Declared
  pub laws : LL.Laws type
  pub plains : Plains (fields type)

abbrev pub row_of : Plainly → RattleType
row_of B = row B.type

abbrev pub ty_of : Plainly → Ty
ty_of B = lone (row_of B).mir

abbrev pub val_of : (B : Plainly) → B.type.D → Val
val_of B = LL.val B.type B.laws

abbrev pub vals_of : (B : Plainly) → B.type.D → List Val
vals_of B h = val_of B h ∷ []

-- ---- what a call asks of the lent struct: nothing, or a fact
pub data Asking (X : Type 0) : Type 1 where
  nought : Asking X
  asks : (X → Type 0) → Asking X

abbrev pub Met : {X : Type 0} → Asking X → X → Type 0
Met nought h = Unit {0}
Met (asks φ) h = φ h

module _ {M : Type 1} (𝓤 : Ura M) {X : Type 0} where
  abbrev pub asked : Asking X → X → SProp 𝓤
  asked nought h = emp 𝓤
  asked (asks φ) h = fact 𝓤 (φ h)

  pub learns : (a : Asking X) (h : X) (P : SProp 𝓤) {Q : SProp 𝓤} → (Met a h → ent 𝓤 P Q) → ent 𝓤 (sep 𝓤 P (asked a h)) Q
  learns nought h P k = via 𝓤 P (fst∗ 𝓤 P (emp 𝓤)) (k tt)
  learns (asks φ) h P k = needs 𝓤 (φ h) P k

pub shown : {M : Type 1} {𝓤 : Ura M} {𝓛 : Logic 𝓤} {K : Type 0} {Γ : List (Item 𝓤)} → K → {X : Type 0} (a : Asking X) (h : X) {P : SProp 𝓤} → Met a h → Step K 𝓛 Γ (prop P) Γ (prop (sep 𝓤 P (asked 𝓤 a h)))
shown {𝓤 = 𝓤} t nought h {P} m = suffices t P (also P)
  where
    also : (P : SProp 𝓤) → ent 𝓤 P (sep 𝓤 P (emp 𝓤))
    also P = via 𝓤 (sep 𝓤 (emp 𝓤) P) (emp∗ 𝓤 P) (comm∗ 𝓤 (emp 𝓤) P)
shown t (asks φ) h m = says t m

-- ---- A KIND OF RESULT: what methods of a struct hand back, a struct of it and an answer.
pub record Kind (B : Plainly) : Type 2 where
  pub answers : Plainly
  pub results : Plainly
  pub it : results.type.D → B.type.D
  pub answer : results.type.D → answers.type.D
  pub spelled : (r : results.type.D) (v : Val) → Is (row_of results) r (v ∷ []) → v ≡ vstruct (vcons (val_of B (it r)) (vcons (val_of answers (answer r)) vnil))
  pub has-it : (r : results.type.D) (v : Val) → Is (row_of results) r (v ∷ []) → Is (row_of B) (it r) (vals_of B (it r))
  pub has-answer : (r : results.type.D) (v : Val) → Is (row_of results) r (v ∷ []) → Is (row_of answers) (answer r) (vals_of answers (answer r))
  pub result-typed : {M : Type 1} {𝓤 : Ura M} (𝓛 : Logic 𝓤) (r : results.type.D) (v : Val) → Is (row_of results) r (v ∷ [])
      → T (has_ty (ty_struct results.type.name (tcons (ty_of B) (tcons (ty_of answers) tnil))) v) × WT v

abbrev pub result_ty_of : {B : Plainly} → Kind B → Ty
result_ty_of {B} k = ty_struct k.results.type.name (tcons (ty_of B) (tcons (ty_of k.answers) tnil))

-- ---- WHETHER THE CALL STORES what its method hands back of what was lent, or leaves what was lent, which is just that
pub data Storing (Same : Type 0) : Type 0 where
  stores : Storing Same
  leaves : Same → Storing Same

abbrev pub storing : {Same : Type 0} → Storing Same → Plainly → ℕ → Code → Code
storing stores B i rest = seq (assign (place 1 (deref (ty_of B) ∷ [])) (rv_opd (copy (place i (field 0 ∷ []))))) rest
storing (leaves same) B i rest = rest

module _ {B : Plainly} (k : Kind B) {M : Type 1} {𝓤 : Ura M} (𝓛 : Logic 𝓤) where
  -- what the method hands back stands where the reference points, stored or not: its cell stands at 3 in the context, the result at 8, and the reference at 12
  open 𝓛 use {H}

  pub stands : (C : Calls 𝓤 H) (Λ : Loops 𝓤 H) {Same : Type 0} (s : Storing Same) {K : Type 0} → K → {E : Env 𝓤 H} {q : Ends 𝓤 H} {rest : Code} {e₀ : Ty × ℕ} {ρ : Ty} (i la l₁ b o : ℕ) (h : B.type.D) (r : k.results.type.D) (v : Val) → Is (row_of k.results) r (v ∷ [])
      → get_or (e₀ ∷ (ρ, l₁) ∷ E) i (no_local 𝓤 H) ≡ (result_ty_of k, la) → (Same → k.it r ≡ h) → {p₀ p₁ p₂ p₄ p₅ p₆ p₇ p₉ pa pb : Item 𝓤} {Γ : List (Item 𝓤)}
      → Step K 𝓛 (p₀ ∷ p₁ ∷ p₂ ∷ ‵ (cell_at full_share (row_of B).mir (vals_of B (k.it r)) b o) ∷ p₄ ∷ p₅ ∷ p₆ ∷ p₇ ∷ ‵ (fat full_share (result_ty_of k) la 0 (vstruct (vcons (val_of B (k.it r)) (vcons (val_of k.answers (k.answer r)) vnil)))) ∷ p₉ ∷ pa ∷ pb ∷ ‵ (fat full_share ρ l₁ 0 (vptr b o)) ∷ Γ) (runs C Λ (e₀ ∷ (ρ, l₁) ∷ E) rest q)
      (p₀ ∷ p₁ ∷ p₂ ∷ ‵ (cell_at full_share (row_of B).mir (vals_of B h) b o) ∷ p₄ ∷ p₅ ∷ p₆ ∷ p₇ ∷ ‵ (fat full_share (result_ty_of k) la 0 (vstruct (vcons (val_of B (k.it r)) (vcons (val_of k.answers (k.answer r)) vnil)))) ∷ p₉ ∷ pa ∷ pb ∷ ‵ (fat full_share ρ l₁ 0 (vptr b o)) ∷ Γ) (runs C Λ (e₀ ∷ (ρ, l₁) ∷ E) (storing s B i rest) q)
  stands C Λ stores t i la l₁ b o h r v is q same =
      assigns t (of_opd t (load t (at t q (fld t refl (stop t))) (look_in t 8 (sub t 0 refl (whole t))))) (from t (hop t (look t 12 refl) (stop t)))
      (store_raw t 3 refl ((LL.lawful B.type B.laws 𝓛).typed (k.it r) _ (k.has-it r v is)).0)
  stands C Λ (leaves s) t i la l₁ b o h r v is q same = rewrite t 3 (λ (h : B.type.D). ‵ (cell_at full_share (row_of B).mir (vals_of B h) b o)) (sym (same s)) refl

  -- the answer in _0: the result stands at 8 in the context, and room for the answer at 14
  pub answers-back : (C : Calls 𝓤 H) (Λ : Loops 𝓤 H) {K : Type 0} → K → {E : Env 𝓤 H} {q : Ends 𝓤 H} (i la l₀ : ℕ) (r : k.results.type.D) (v : Val) → Is (row_of k.results) r (v ∷ [])
      → get_or ((ty_of k.answers, l₀) ∷ E) i (no_local 𝓤 H) ≡ (result_ty_of k, la) → {p₀ p₁ p₂ p₃ p₄ p₅ p₆ p₇ p₉ pa pb pc pd : Item 𝓤} {Γ : List (Item 𝓤)}
      → Seq K 𝓛 (‵ ((row_of k.answers).own_val (k.answer r) (vals_of k.answers (k.answer r))) ∷ p₀ ∷ p₁ ∷ p₂ ∷ p₃ ∷ p₄ ∷ p₅ ∷ p₆ ∷ p₇ ∷ ‵ (fat full_share (result_ty_of k) la 0 (vstruct (vcons (val_of B (k.it r)) (vcons (val_of k.answers (k.answer r)) vnil)))) ∷ p₉ ∷ pa ∷ pb ∷ pc ∷ pd ∷ ‵ (fat full_share (ty_of k.answers) l₀ zero (val_of k.answers (k.answer r))) ∷ Γ) (runs C Λ ((ty_of k.answers, l₀) ∷ E) return q)
      → Seq K 𝓛 (p₀ ∷ p₁ ∷ p₂ ∷ p₃ ∷ p₄ ∷ p₅ ∷ p₆ ∷ p₇ ∷ ‵ (fat full_share (result_ty_of k) la 0 (vstruct (vcons (val_of B (k.it r)) (vcons (val_of k.answers (k.answer r)) vnil)))) ∷ p₉ ∷ pa ∷ pb ∷ pc ∷ pd ∷ ‵ (froom (ty_of k.answers) l₀ zero) ∷ Γ) (runs C Λ ((ty_of k.answers, l₀) ∷ E) (seq (assign (place 0 []) (rv_opd (copy (place i (field 1 ∷ []))))) return) q)
  answers-back C Λ t i la l₀ r v is q s =
      assigns t (of_opd t (load t (at t q (fld t refl (stop t))) (look_in t 8 (sub t 1 refl (whole t))))) (from t (stop t)) (init t 14 refl ((LL.lawful k.answers.type k.answers.laws 𝓛).typed (k.answer r) _ (k.has-answer r v is)).0) $
      owned t (row_of k.answers) (Is (row_of k.answers)) (LL.makes k.answers.type k.answers.plains 𝓛) (k.answer r) _ (k.has-answer r v is) $ s

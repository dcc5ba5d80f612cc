-- The parameters of a lent call beside what is lent, as one block: their machine types and values, the slots of the call and of the method that it calls,
-- and the steps of a walk for the whole block: allocated, stored, read as a call's arguments, freed. By induction over the list of parameters.
-- Assumes nothing.
use mathlib.Core.Path.{◌≡◌, refl, sym, ap, subst, ◌∙◌}
use Prim.Native.Nat.{ℕ, zero, suc}
use mathlib.Core.List.{[], ◌∷◌, List, ◌++◌}
use lib.ListN.{get_or}
use seplogic.Ra.Ura.{Ura}
use base.Fraction.{full_share}
use lib.Dec.{T}
use mir.Syntax.{Ty, ty_int, w8, Local, local, value_local, place, Step as PStep, Opd as Operand, copy}
use mir.Val.{Val, vint, has_ty, WT}
use base.Logic.{ent, sep, emp, via, emp∗}
use base.Fml.{ftrue, fat, froom, fdies}
use prog.Wp.{Env, Spot, no_local, walk}
use types.Logic.{Logic, sem}
use contract.Lifetimes.{Lfts}
use types.Kit.{Item, ‵, ◌⊛◌, ⋆, Goal, allocs, passes, frees, Seq, Step, step, ◌$◌, ◌∵◌, !, qed, move, drop, use1, split, join, fjoin, done}
use types.Run.{Walks, Finds, Opds, look, init, forget, stop, load, and_then, no_more, alloc1, pass1, pass0, free1}
use denote.RattleType.{RattleType, Denots, Valss, flat, owns}
use denote.Laws.{Is, Ises, Are, Tells, Spells, valss, Tellss, Copy}
use denote.Builtin.{u8}
use denote.Plain.{uint_Tells, uint_Lawful, uint_copy}
use denote.Signature.{Slot, plain, types_at}
use denote.Steps.{nothing}
use denote.Triple.End.{Fins, all}
use denote.Triple.Walked.{Stays, stay_none, fits_of, has_of, AllGo, Goes-none}
use denote.Exit.{yes, Exit, unchanged, Last, left}

-- A parameter that the call passes on and keeps: as the call's and as the method's, of a lifetime less. It is owned twice, once for each.
pub record Par (n : ℕ) : Type 2 where
  pub X : Type 0
  pub ty : Ty
  pub val : X → Val
  pub inner : Lfts n → RattleType
  pub outer : Lfts (suc n) → RattleType
  pub into : (κs : Lfts n) → X → (inner κs).Denot
  pub back : (κs : Lfts n) → (inner κs).Denot → X
  pub same : (κs : Lfts n) (x : X) → back κs (into κs x) ≡ x
  pub out : (κs : Lfts (suc n)) → (outer κs).Denot → X
  pub tells : (κs : Lfts (suc n)) → Tells (outer κs) (Is (outer κs)) (λ a. val (out κs a) ∷ [])
  pub last : (κs : Lfts (suc n)) (a : (outer κs).Denot) → Last ((outer κs).exit yes) a
  pub silent : (κs : Lfts (suc n)) (a : (outer κs).Denot) (f : Last ((outer κs).exit yes) a) → left ((outer κs).exit yes) a f ≡ ftrue
  pub typed : {M : Type 1} {𝓤 : Ura M} (𝓛 : Logic 𝓤) (κs : Lfts (suc n)) (a : (outer κs).Denot) → Is (outer κs) a (val (out κs a) ∷ []) → T (has_ty ty (val (out κs a))) × WT (val (out κs a))
  pub shares : {M : Type 1} {𝓤 : Ura M} (𝓛 : Logic 𝓤) (κs : Lfts (suc n)) (a : (outer κs).Denot) (vs : List Val)
      → ent 𝓤 (sem 𝓛 ((outer κs).own_val a vs)) (sep 𝓤 (sem 𝓛 ((outer κs).own_val a vs)) (sem 𝓛 ((inner κs.1).own_val (into κs.1 (out κs a)) vs)))

-- A parameter of a type that can be copied and names no lifetime.
pub quiet : {D : Type 0} (e : Exit D) → e ≡ unchanged → (a : D) (f : Last e a) → left e a f ≡ ftrue
quiet {D} e q = subst (λ (e : Exit D). (a : D) (f : Last e a) → left e a f ≡ ftrue) (sym q) (λ a f. refl)

pub quiet-last : {D : Type 0} (e : Exit D) → e ≡ unchanged → (a : D) → Last e a
quiet-last {D} e q a = subst (λ (e : Exit D). Last e a) (sym q) tt

abbrev pub passed : {n : ℕ} (R : RattleType) (τ : Ty) (vals : R.Denot → Val) → Tells R (Is R) (λ a. vals a ∷ []) → R.exit yes ≡ unchanged
    → ((M : Type 1) (𝓤 : Ura M) (𝓛 : Logic 𝓤) → (a : R.Denot) → Is R a (vals a ∷ []) → T (has_ty τ (vals a)) × WT (vals a))
    → ((M : Type 1) (𝓤 : Ura M) (𝓛 : Logic 𝓤) → Copy 𝓛 R) → Par n
passed R τ vals tl still lawful copies = record {
  X = R.Denot;
  ty = τ;
  val = vals;
  inner = λ _. R;
  outer = λ _. R;
  into = λ _ x. x;
  back = λ _ x. x;
  same = λ _ x. refl;
  out = λ _ x. x;
  tells = λ _. tl;
  last = λ _. quiet-last (R.exit yes) still;
  silent = λ _. quiet (R.exit yes) still;
  typed = λ {𝓤 = 𝓤} 𝓛 κs a is. lawful _ 𝓤 𝓛 a is;
  shares = λ {𝓤 = 𝓤} 𝓛 κs a vs. (copies _ 𝓤 𝓛).twice a vs;
}

-- A byte.
abbrev pub byte : {n : ℕ} → Par n
byte {n} = passed u8 (ty_int w8) (vint w8) (uint_Tells w8) refl (λ _ 𝓤 𝓛 a is. ((uint_Lawful 𝓛 w8).typed a _ is).0) (λ _ 𝓤 𝓛. uint_copy 𝓛 w8)

-- the place of the local behind the block, and of those behind it
abbrev pub shift : ℕ → ℕ → ℕ
shift i zero = i
shift i (suc j) = shift (suc i) j

module _ {n : ℕ} where
  abbrev pub Xs : List (Par n) → Type 0
  Xs [] = Unit {0}
  Xs (p ∷ ps) = p.X × Xs ps

  abbrev pub inners : List (Par n) → List (Slot n)
  inners [] = []
  inners (p ∷ ps) = plain p.inner ∷ inners ps

  abbrev pub outers : List (Par n) → List (Slot (suc n))
  outers [] = []
  outers (p ∷ ps) = plain p.outer ∷ outers ps

  abbrev pub intos : (ps : List (Par n)) (κs : Lfts n) → Xs ps → Denots (types_at (inners ps) κs)
  intos [] κs x = tt
  intos (p ∷ ps) κs x = (p.into κs x.0, intos ps κs x.1)

  abbrev pub backs : (ps : List (Par n)) (κs : Lfts n) → Denots (types_at (inners ps) κs) → Xs ps
  backs [] κs a = tt
  backs (p ∷ ps) κs a = (p.back κs a.0, backs ps κs a.1)

  pub sames : (ps : List (Par n)) (κs : Lfts n) (x : Xs ps) → backs ps κs (intos ps κs x) ≡ x
  sames [] κs x = refl
  sames (p ∷ ps) κs x = λ i. (p.same κs x.0 i, sames ps κs x.1 i)

  abbrev pub outs : (ps : List (Par n)) (κs : Lfts (suc n)) → Denots (types_at (outers ps) κs) → Xs ps
  outs [] κs a = tt
  outs (p ∷ ps) κs a = (p.out κs a.0, outs ps κs a.1)

  abbrev pub vals : (ps : List (Par n)) → Xs ps → List Val
  vals [] x = []
  vals (p ∷ ps) x = p.val x.0 ∷ vals ps x.1

  abbrev pub inner-vals : (ps : List (Par n)) (κs : Lfts n) → Xs ps → Valss (types_at (inners ps) κs)
  inner-vals [] κs x = tt
  inner-vals (p ∷ ps) κs x = (p.val x.0 ∷ [], inner-vals ps κs x.1)

  abbrev pub spells : (ps : List (Par n)) (κs : Lfts (suc n)) → Spells (types_at (outers ps) κs)
  spells [] κs = tt
  spells (p ∷ ps) κs = ((λ a. p.val (p.out κs a) ∷ []), spells ps κs)

  abbrev pub outer_vals : (ps : List (Par n)) (κs : Lfts (suc n)) → Denots (types_at (outers ps) κs) → Valss (types_at (outers ps) κs)
  outer_vals ps κs a = valss (types_at (outers ps) κs) (spells ps κs) a

  pub tellss : (ps : List (Par n)) (κs : Lfts (suc n)) → Tellss (types_at (outers ps) κs) (Ises (types_at (outers ps) κs)) (spells ps κs)
  tellss [] κs = tt
  tellss (p ∷ ps) κs = (p.tells κs, tellss ps κs)

  pub inner-flat : (ps : List (Par n)) (κs : Lfts n) (x : Xs ps) → vals ps x ≡ flat (types_at (inners ps) κs) (inner-vals ps κs x)
  inner-flat [] κs x = refl
  inner-flat (p ∷ ps) κs x = ap (λ (vs : List Val). p.val x.0 ∷ vs) (inner-flat ps κs x.1)

  pub outer-flat : (ps : List (Par n)) (κs : Lfts (suc n)) (a : Denots (types_at (outers ps) κs)) → vals ps (outs ps κs a) ≡ flat (types_at (outers ps) κs) (outer_vals ps κs a)
  outer-flat [] κs a = refl
  outer-flat (p ∷ ps) κs a = ap (λ (vs : List Val). p.val (p.out κs a.0) ∷ vs) (outer-flat ps κs a.1)

  -- what is had of the parameters at exit
  abbrev pub stays : (ps : List (Par n)) → Stays (outers ps) (all yes (outers ps))
  stays [] = tt
  stays (p ∷ ps) = (stay_none p.outer yes, stays ps)

  abbrev pub fins : (ps : List (Par n)) (κs : Lfts (suc n)) (a : Denots (types_at (outers ps) κs)) → Fins κs (outers ps) (all yes (outers ps)) a
  fins [] κs a = tt
  fins (p ∷ ps) κs a = (p.last κs a.0, fins ps κs a.1)

  pub fit : (ps : List (Par n)) (κs : Lfts (suc n)) (a : Denots (types_at (outers ps) κs)) → fits_of κs (outers ps) (all yes (outers ps)) (stays ps) a (fins ps κs a)
  fit [] κs a = tt
  fit (p ∷ ps) κs a = (tt, fit ps κs a.1)

  -- ---- the block in the function's code
  abbrev pub locs : List (Par n) → List Local
  locs [] = []
  locs (p ∷ ps) = local p.ty value_local ∷ locs ps

  -- the parameters as a call's arguments, from place i on; and the first place behind them
  abbrev pub args : List (Par n) → ℕ → List Operand
  args [] i = []
  args (p ∷ ps) i = copy (place i []) ∷ args ps (suc i)

  abbrev pub behind : List (Par n) → ℕ → ℕ
  behind [] i = i
  behind (p ∷ ps) i = behind ps (suc i)

  abbrev pub count : List (Par n) → ℕ
  count [] = zero
  count (p ∷ ps) = suc (count ps)

  abbrev pub Blocks : List (Par n) → Type 0
  Blocks [] = Unit {0}
  Blocks (p ∷ ps) = ℕ × Blocks ps

  abbrev pub envs : (ps : List (Par n)) → Blocks ps → List (Ty × ℕ)
  envs [] bs = []
  envs (p ∷ ps) bs = (p.ty, bs.0) ∷ envs ps bs.1

  -- each parameter's local stands where the code looks for it
  abbrev pub Sees : (ℕ → Ty × ℕ) → ℕ → (ps : List (Par n)) → Blocks ps → Type 0
  Sees at i [] bs = Unit {0}
  Sees at i (p ∷ ps) bs = (at i ≡ (p.ty, bs.0)) × Sees at (suc i) ps bs.1

  module _ (d : Ty × ℕ) where
    pub sees : (ps : List (Par n)) (bs : Blocks ps) (rest : List (Ty × ℕ)) (at : ℕ → Ty × ℕ) (i : ℕ) → ((j : ℕ) → at (shift i j) ≡ get_or (envs ps bs ++ rest) j d) → Sees at i ps bs
    sees [] bs rest at i h = tt
    sees (p ∷ ps) bs rest at i h = (h zero, sees ps bs.1 rest at (suc i) (λ j. h (suc j)))

    pub sees-behind : (ps : List (Par n)) (bs : Blocks ps) (rest : List (Ty × ℕ)) (at : ℕ → Ty × ℕ) (i : ℕ) → ((j : ℕ) → at (shift i j) ≡ get_or (envs ps bs ++ rest) j d) → (j : ℕ) → at (shift (behind ps i) j) ≡ get_or rest j d
    sees-behind [] bs rest at i h = h
    sees-behind (p ∷ ps) bs rest at i h = sees-behind ps bs.1 rest at (suc i) (λ j. h (suc j))

shift_suc : (i j : ℕ) → shift (suc i) j ≡ suc (shift i j)
shift_suc i zero = refl
shift_suc i (suc j) = shift_suc (suc i) j

shift-0 : (j : ℕ) → shift 0 j ≡ j
shift-0 zero = refl
shift-0 (suc j) = shift_suc 0 j ∙ ap suc (shift-0 j)

pub from-2 : (d e f : Ty × ℕ) (E : List (Ty × ℕ)) (j : ℕ) → get_or (e ∷ f ∷ E) (shift 2 j) d ≡ get_or E j d
from-2 d e f E j = ap (λ (k : ℕ). get_or (e ∷ f ∷ E) k d) (shift_suc 1 j ∙ ap suc (shift_suc 0 j ∙ ap suc (shift-0 j)))

-- ---- the block in a walk
module _ {n : ℕ} {M : Type 1} {𝓤 : Ura M} where
  abbrev pub Rooms : (ps : List (Par n)) → Blocks ps → Item 𝓤
  Rooms [] bs = ‵ ftrue
  Rooms (p ∷ ps) bs = (‵ (froom p.ty bs.0 zero) ⊛ ‵ (fdies p.ty bs.0)) ⊛ Rooms ps bs.1

  abbrev pub Cells : (ps : List (Par n)) → Blocks ps → Xs ps → Item 𝓤
  Cells [] bs x = ‵ ftrue
  Cells (p ∷ ps) bs x = (‵ (fat full_share p.ty bs.0 zero (p.val x.0)) ⊛ ‵ (fdies p.ty bs.0)) ⊛ Cells ps bs.1 x.1

module _ {M : Type 1} {𝓤 : Ura M} {𝓛 : Logic 𝓤} {K : Type 0} where
  -- a local that stands where an equation says
  open 𝓛 use {H}

  pub at : K → {Γ : List (Item 𝓤)} {E : Env 𝓤 H} {i : ℕ} {e : Ty × ℕ} {st : List PStep} {sp : Spot 𝓤 H} → get_or E i (no_local 𝓤 H) ≡ e → Walks K 𝓛 Γ E (e.0, e.1, zero) st sp → Finds K 𝓛 Γ E (place i st) sp
  at t {Γ} {E} {i} {e} {st} q w = record { go = λ Kt h. subst (λ (f : Ty × ℕ). ent 𝓤 (⋆ 𝓛 Γ) (walk 𝓤 H E (f.0, f.1, zero) st Kt)) (sym q) (w.go Kt h) }

  -- the same context, told otherwise
  pub regrouped : K → {Γ : List (Item 𝓤)} {E : Env 𝓤 H} {xs : List Operand} {vs : List Val} (Δ : List (Item 𝓤)) → ent 𝓤 (⋆ 𝓛 Γ) (⋆ 𝓛 Δ) → ent 𝓤 (⋆ 𝓛 Δ) (⋆ 𝓛 Γ) → Opds K 𝓛 Δ E xs vs → Opds K 𝓛 Γ E xs vs
  regrouped t {Γ} Δ out back o = record { go = λ Kt h. via 𝓤 (⋆ 𝓛 Δ) out (o.go Kt (via 𝓤 (⋆ 𝓛 Γ) back h)) }

  pub swapped : K → {i j : Item 𝓤} {Γ : List (Item 𝓤)} {E : Env 𝓤 H} {xs : List Operand} {vs : List Val} → Opds K 𝓛 (j ∷ i ∷ Γ) E xs vs → Opds K 𝓛 (i ∷ j ∷ Γ) E xs vs
  swapped t {i} {j} {Γ} o = regrouped t (j ∷ i ∷ Γ) (qed 𝓛 (i ∷ j ∷ Γ) ∵ move ! (1 ∷ 0 ∷ []) $ done !) (qed 𝓛 (j ∷ i ∷ Γ) ∵ move ! (1 ∷ 0 ∷ []) $ done !) o

module _ {n : ℕ} {M : Type 1} {𝓤 : Ura M} {𝓛 : Logic 𝓤} {K : Type 0} where
  open 𝓛 use {H}

  pub alloc_all : K → (ps : List (Par n)) {Γ : List (Item 𝓤)} {ls : List Local} {Kt : Env 𝓤 H → Goal 𝓤 H}
      → ((bs : Blocks ps) → Seq K 𝓛 (Rooms ps bs ∷ Γ) (allocs ls (λ E. Kt (envs ps bs ++ E)))) → Seq K 𝓛 Γ (allocs (locs ps ++ ls) Kt)
  alloc_all t [] k = nothing t $ k tt
  alloc_all t (p ∷ ps) k = alloc1 t (λ b. join t $ alloc_all t ps (λ bs. move t (1 ∷ 0 ∷ []) $ join t $ k (b, bs)))

  pub pass_all : K → (ps : List (Par n)) (bs : Blocks ps) (κs : Lfts (suc n)) (a : Denots (types_at (outers ps) κs)) → Are (types_at (outers ps) κs) (Ises (types_at (outers ps) κs)) a (outer_vals ps κs a)
      → (E : Env 𝓤 H) {Γ : List (Item 𝓤)} {g : Goal 𝓤 H} → Step K 𝓛 (Cells ps bs (outs ps κs a) ∷ Γ) g (Rooms ps bs ∷ Γ) (passes (envs ps bs ++ E) (vals ps (outs ps κs a)) g)
  pass_all t [] bs κs a are E = pass0 t
  pass_all t (p ∷ ps) bs κs a are E = step (λ s. split t $ split t $ pass1 t (init t 0 refl (p.typed 𝓛 κs a.0 are.0)) $ join t $ move t (1 ∷ 0 ∷ []) $ pass_all t ps bs.1 κs a.1 are.1 E $ move t (1 ∷ 0 ∷ []) $ join t $ s)

  pub free_all : K → (ps : List (Par n)) (bs : Blocks ps) (x : Xs ps) (E : Env 𝓤 H) {Γ : List (Item 𝓤)} {g : Goal 𝓤 H} → Step K 𝓛 Γ (frees E g) (Cells ps bs x ∷ Γ) (frees (envs ps bs ++ E) g)
  free_all t [] bs x E = drop t
  free_all t (p ∷ ps) bs x E = step (λ s. split t $ split t $ forget t 0 refl $ free1 t $ free_all t ps bs.1 x.1 E $ s)

  pub read_all : K → (ps : List (Par n)) (bs : Blocks ps) (x : Xs ps) (i : ℕ) {Γ : List (Item 𝓤)} {E : Env 𝓤 H} → Sees (λ k. get_or E k (no_local 𝓤 H)) i ps bs → Opds K 𝓛 (Cells ps bs x ∷ Γ) E (args ps i) (vals ps x)
  read_all t [] bs x i s = no_more t
  read_all t (p ∷ ps) bs x i {Γ} s =
      let c : Item 𝓤 = ‵ (fat full_share p.ty bs.0 zero (p.val x.0)) in
      let d : Item 𝓤 = ‵ (fdies p.ty bs.0) in
      let R : Item 𝓤 = Cells ps bs.1 x.1 in
      regrouped t (R ∷ c ∷ d ∷ Γ)
      (qed 𝓛 (((c ⊛ d) ⊛ R) ∷ Γ) ∵ split ! $ split ! $ move ! (2 ∷ []) $ done !)
      (qed 𝓛 (R ∷ c ∷ d ∷ Γ) ∵ move ! (1 ∷ 2 ∷ 0 ∷ []) $ join ! $ join ! $ done !)
      (and_then t (load t (at t s.0 (stop t)) (look t 1 refl)) (read_all t ps bs.1 x.1 (suc i) s.1))

-- what is owned of the parameters, for the call's exit and for the method
module _ {n : ℕ} {M : Type 1} {𝓤 : Ura M} (𝓛 : Logic 𝓤) where
  pub share-all : (ps : List (Par n)) (κs : Lfts (suc n)) (a : Denots (types_at (outers ps) κs)) → ent 𝓤 (sem 𝓛 (owns (types_at (outers ps) κs) a (outer_vals ps κs a)))
      (sep 𝓤 (sem 𝓛 (has_of κs (outers ps) (all yes (outers ps)) (stays ps) a (fins ps κs a) (outer_vals ps κs a))) (sem 𝓛 (owns (types_at (inners ps) κs.1) (intos ps κs.1 (outs ps κs a)) (inner-vals ps κs.1 (outs ps κs a)))))
  share-all [] κs a = emp∗ 𝓤 (emp 𝓤)
  share-all (p ∷ ps) κs a =
      let v : List Val = p.val (p.out κs a.0) ∷ [] in
      let h = has_of κs (outers ps) (all yes (outers ps)) (stays ps) a.1 (fins ps κs a.1) (outer_vals ps κs a.1) in
      let i = owns (types_at (inners ps) κs.1) (intos ps κs.1 (outs ps κs a.1)) (inner-vals ps κs.1 (outs ps κs a.1)) in
      qed 𝓛 (‵ ((p.outer κs).own_val a.0 v) ∷ ‵ (owns (types_at (outers ps) κs) a.1 (outer_vals ps κs a.1)) ∷ []) ∵
      use1 𝓛 (‵ ((p.outer κs).own_val a.0 v) ⊛ ‵ ((p.inner κs.1).own_val (p.into κs.1 (p.out κs a.0)) v)) (p.shares 𝓛 κs a.0 v) $ split ! $ move ! (2 ∷ []) $
      use1 𝓛 (‵ h ⊛ ‵ i) (share-all ps κs a.1) $ split ! $
      -- [had of the rest; the rest's; had; its]
      move ! (3 ∷ 1 ∷ []) $ fjoin ! $ move ! (2 ∷ 1 ∷ []) $ fjoin ! $ done !

  pub goes-all : (ps : List (Par n)) → AllGo 𝓛 (suc n) (outers ps) (all yes (outers ps)) (stays ps)
  goes-all [] = tt
  goes-all (p ∷ ps) = (Goes-none 𝓛 (suc n) p.outer yes p.silent, goes-all ps)

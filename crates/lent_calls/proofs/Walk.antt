-- THE WALK OF A LENT CALL, `let before = *it; let after = before.call(..); *it = after.it; after.answer`, with the store or without it, once for every struct that is lent, every method of it
-- and every list of parameters that are passed on and kept. The borrow is opened, the struct is copied and passed to the method with the parameters, what comes back is
-- stored or is what stands there, and the borrow is closed. Assumes nothing.
use mathlib.Core.Path.{◌≡◌, refl, subst}
use Prim.Native.Nat.{ℕ, suc}
use mathlib.Core.List.{[], ◌∷◌, List, ◌++◌}
use lib.ListN.{get_or}
use seplogic.Ra.Ura.{Ura}
use base.Fraction.{full_share}
use mir.Syntax.{Callee, Ty, tnil, ty_ref, ty_named, named, mut, Fn, local, value_local, seq, assign, call, return, place, deref, field, rv_opd, copy}
use mir.Val.{Val, vptr}
use base.Logic.{SProp, ent, snd∗, ex_e, id⊢}
use base.Fml.{GName, Fml, flft, fobs, fbor, fat, fsep}
use prog.Model.{Model}
use prog.Routine.{Routine, Env as Names}
use prog.Wp.{Calls, Loops, WpFn, Tables, Env, Closed, no_local}
use types.Logic.{Logic, sem}
use contract.Monad.{fact}
use contract.Running.{Running, tables}
use contract.Lifetimes.{Lfts, Shares, toks}
use types.Kit.{Item, ‵, raw, ◌⊛◌, ⋆, some, later, ◌$◌, ◌∵◌, !, qed, by, move, keep, drop, use1, use2, split, join, pick, fsplit, fsplit3, fjoin, fjoin3, feq_i, rewrite, suffices, frame, await, done}
use types.Run.{Opds, look, look_raw, init, forget, stop, hop, from, load, and_then, of_opd, assigns, land, returns, enter, alloc1, alloc0, params1, pass1, free1, free0}
use types.SemTy.{Body}
use sound.WpLaws.{FmC, fm_of, WpFn-mono}
use borrow.Fn.Run.{Over, known_at_lem, any_entry}
use denote.RattleType.{Denots, owns, flat}
use denote.Laws.{Is, Ises, Are, shows}
use denote.Memory.{mem}
use denote.Builtin.{RefMutOf}
use denote.Ref.{MutBor, MutRef, mut_vals, mut_Tells}
use denote.Signature.{plain, types_at}
use denote.Steps.{opens, closes, owned, peeks, heard}
use denote.Struct.Steps.{spelt}
use denote.Struct.Laws as LL
use denote.Triple.Statement.{Contract, Triple}
use denote.Triple.Call.{calls_at}
use denote.Triple.Entry.{on_entry}
use denote.Triple.End.{all}
use denote.Triple.Spec.{Meets, triple_of}
use denote.Triple.Walked.{says, Stays, stay_ref, has_of, walk_of, AllGo, Goes-ref, Walks, ends_at, walked, walk_Meets}
use denote.Triple.Clauses.{Ended, Clauses, closing, ensured, lasts}
use denote.Exit.{yes}
use Rattle.lent_calls.proofs.Pars.{Par, shift, Xs, inners, outers, intos, backs, sames, outs, vals, inner-vals, outer_vals, spells, tellss, inner-flat, outer-flat, stays, fins, fit, locs, args, behind, count, Blocks, envs, sees, sees-behind, from-2, Cells, alloc_all, pass_all, free_all, at, swapped, read_all, share-all, goes-all}
use Rattle.lent_calls.proofs.Results.{Plainly, row_of, ty_of, vals_of, Asking, Met, asked, learns, shown, Kind, result_ty_of, val_of, Storing, storing, stands, answers-back}

-- ---- A LENT CALL: the struct that it is lent, the kind of its method's results, its parameters beside the struct, the method's name, what both ask of the struct,
-- what the method promises, whether what it hands back is stored, and what the call promises; and that the call's promise follows from the method's.
pub record LentCall : Type 2 where
  pub it : Plainly
  pub kind : Kind it
  pub n : ℕ
  pub params : List (Par n)
  pub name : Callee
  pub asking : Asking it.type.D
  pub said : it.type.D → Xs params → kind.results.type.D → Type 0
  pub storing : Storing ((h : it.type.D) (x : Xs params) (r : kind.results.type.D) → Met asking h → said h x r → kind.it r ≡ h)
  pub promise : it.type.D → Xs params → kind.answers.type.D → it.type.D → Type 0
  pub keeps : (h : it.type.D) (x : Xs params) (r : kind.results.type.D) → Met asking h → said h x r → promise h x (kind.answer r) (kind.it r)

module _ (D : LentCall) where
  abbrev B : Plainly
  B = D.it

  abbrev k : Kind B
  k = D.kind

  abbrev P : Plainly
  P = k.answers

  abbrev ps : List (Par D.n)
  ps = D.params

  abbrev Held : Type 0
  Held = B.type.D

  abbrev ref_ty : Ty
  ref_ty = ty_ref (named 0) mut (ty_named (B.type.name, []) tnil)

  -- the code
  abbrev pub function : Fn
  function = record {
    lifetimes = suc D.n;
    outlives = [];
    ty_params = [];
    givens = 0;
    params = suc (count ps);
    locals = local (ty_of P) value_local ∷ local ref_ty value_local ∷ (locs ps ++ (local (ty_of B) value_local ∷ local (result_ty_of k) value_local ∷ []));
    body =
        seq (assign (place (behind ps 2) []) (rv_opd (copy (place 1 (deref (ty_of B) ∷ [])))))
        (seq (call D.name (copy (place (behind ps 2) []) ∷ args ps 2) (place (suc (behind ps 2)) []))
        (storing D.storing B (suc (behind ps 2)) (seq (assign (place 0 []) (rv_opd (copy (place (suc (behind ps 2)) (field 1 ∷ []))))) return)));
  }

  -- the two signatures, and the promises as clauses
  abbrev method : Ended
  method = record {
    signature = record { lifetimes = D.n; outlives = []; params = plain (λ κs. row_of B) ∷ inners ps; result = plain (λ κs. row_of k.results) };
    kept = (yes, all yes (inners ps));
  }

  abbrev lent : Ended
  lent = record {
    signature = record { lifetimes = suc D.n; outlives = []; params = RefMutOf (0 ∷ []) tt (plain (λ κs. row_of B)) (λ κs. tt) ∷ outers ps; result = plain (λ κs. row_of P) };
    kept = (yes, all yes (outers ps));
  }

  abbrev stayed : Stays lent.signature.params lent.kept
  stayed = (stay_ref (0 ∷ []) tt (plain (λ _. row_of B)), stays ps)

  module _ {M : Type 1} (𝓤 : Ura M) where
    abbrev takes : Clauses 𝓤 method
    takes κs a = record { ghost = Unit {0}; requires = λ _. asked 𝓤 D.asking a.0; ensures = λ _ r _. fact 𝓤 (D.said a.0 (backs ps κs a.1) r) }

    abbrev lends : Clauses 𝓤 lent
    lends κs a = record { ghost = Unit {0}; requires = λ _. asked 𝓤 D.asking a.0.now; ensures = λ _ w end. fact 𝓤 (D.promise a.0.now (outs ps κs a.1) w end.0.now) }

  module _ {M : Type 1} {𝓤 : Ura M} (𝓛 : Logic 𝓤) where
    abbrev pub Method : Contract 𝓤
    Method = triple_of 𝓛 method.signature (closing 𝓛 method (takes 𝓤))

    -- of what the method ensures, the promise alone
    method-says : (κs : Lfts D.n) (h : Held) (x : Xs ps) (r : k.results.type.D) → ent 𝓤 (ensured 𝓛 method (takes 𝓤) κs (h, intos ps κs x) tt r) (fact 𝓤 (D.said h x r))
    method-says κs h x r =
        subst (λ (y : Xs ps). ent 𝓤 (ensured 𝓛 method (takes 𝓤) κs (h, intos ps κs x) tt r) (fact 𝓤 (D.said h y r))) (sames ps κs x)
        (ex_e 𝓤 _ (λ ws. snd∗ 𝓤 (sem 𝓛 (lasts method κs (h, intos ps κs x) ws)) (fact 𝓤 (D.said h (backs ps κs (intos ps κs x)) r))))

  module _ {M : Type 1} {𝓤 : Ura M} (𝓛 : Logic 𝓤) (κs : Lfts (suc D.n)) (qs : Shares (suc D.n)) (b o : ℕ) (γ : GName) (h : Held) (a : Denots (types_at (outers ps) κs)) where
    open 𝓛 use {H}

    abbrev x : Xs ps
    x = outs ps κs a

    abbrev ref : MutBor Held
    ref = record { ref_ptr = (b, o); ghost_name = γ; now = h }

    abbrev Post : Val → SProp 𝓤
    Post = (walk_of 𝓛 lent stayed (lends 𝓤)).post ((κs, qs, tt, (ref, a), (vptr b o ∷ [], outer_vals ps κs a)), tt)

    -- the tokens of the method's lifetimes; what is had of the parameters at exit, and what the method takes of them
    abbrev Tokens : SProp 𝓤
    Tokens = toks 𝓛 D.n κs.1 qs.1

    abbrev Had : Fml
    Had = has_of κs (outers ps) (all yes (outers ps)) (stays ps) a (fins ps κs a) (outer_vals ps κs a)

    abbrev Taken : Fml
    Taken = owns (types_at (inners ps) κs.1) (intos ps κs.1 x) (inner-vals ps κs.1 x)

    exits : (c : Held) (w : P.type.D) (v : Val) → D.promise h x w c
        → ent 𝓤 (⋆ 𝓛 (‵ (fobs γ ((row_of B).coded.code c)) ∷ ‵ (fbor κs.0 (Body (mem (row_of B)) b o γ)) ∷ ‵ (flft κs.0 qs.0) ∷ ‵ ((row_of P).own_val w (v ∷ [])) ∷ raw Tokens ∷ ‵ Had ∷ [])) (Post v)
    exits c w v p =
        qed 𝓛 (‵ (fobs γ ((row_of B).coded.code c)) ∷ ‵ (fbor κs.0 (Body (mem (row_of B)) b o γ)) ∷ ‵ (flft κs.0 qs.0) ∷ ‵ ((row_of P).own_val w (v ∷ [])) ∷ raw Tokens ∷ ‵ Had ∷ []) ∵
        suffices ! _ (ends_at 𝓛 lent stayed (lends 𝓤) ((κs, qs, tt, (ref, a), (vptr b o ∷ [], outer_vals ps κs a)), tt) v w (c, fins ps κs a) (tt, fit ps κs a)) $
        says ! p $ move ! (2 ∷ 4 ∷ []) $ join ! $ frame ! $ feq_i ! (List Val) (vptr b o ∷ []) (vptr b o ∷ []) refl $ fjoin3 ! $ move ! (0 ∷ 2 ∷ []) $ fjoin ! $ done !

    abbrev to-method : (Method 𝓛).Ghost
    to-method = ((κs.1, qs.1, tt, (h, intos ps κs.1 x), (vals_of B h, inner-vals ps κs.1 x)), tt)

    goes-method : Met D.asking h → Is (row_of B) h (vals_of B h) → ent 𝓤 (⋆ 𝓛 (raw Tokens ∷ ‵ Taken ∷ [])) ((Method 𝓛).pre to-method)
    goes-method met was = qed 𝓛 (raw Tokens ∷ ‵ Taken ∷ []) ∵ shown ! D.asking h met $ frame ! $ owned ! (row_of B) (Is (row_of B)) (LL.makes B.type B.plains 𝓛) h _ was $ fjoin ! $ done !

    -- the locals, and where the code finds them
    module _ (l₀ l₁ : ℕ) (bs : Blocks ps) (lb la : ℕ) where
      abbrev rest : Env 𝓤 H
      rest = (ty_of B, lb) ∷ (result_ty_of k, la) ∷ []

      abbrev E : Env 𝓤 H
      E = (ty_of P, l₀) ∷ (ref_ty, l₁) ∷ (envs ps bs ++ rest)

      finds : (j : ℕ) → get_or E (shift (behind ps 2) j) (no_local 𝓤 H) ≡ get_or rest j (no_local 𝓤 H)
      finds = sees-behind (no_local 𝓤 H) ps bs rest (λ i. get_or E i (no_local 𝓤 H)) 2 (from-2 (no_local 𝓤 H) (ty_of P, l₀) (ref_ty, l₁) (envs ps bs ++ rest))

      reads : {K : Type 0} → K → {i : Item 𝓤} {Γ : List (Item 𝓤)} → Opds K 𝓛 (i ∷ Cells ps bs x ∷ Γ) E (args ps 2) (flat (types_at (inners ps) κs.1) (inner-vals ps κs.1 x))
      reads {K} t {i} {Γ} =
          subst (λ (vs : List Val). Opds K 𝓛 (i ∷ Cells ps bs x ∷ Γ) E (args ps 2) vs) (inner-flat ps κs.1 x)
          (swapped t (read_all t ps bs x 2 (sees (no_local 𝓤 H) ps bs rest (λ j. get_or E j (no_local 𝓤 H)) 2 (from-2 (no_local 𝓤 H) (ty_of P, l₀) (ref_ty, l₁) (envs ps bs ++ rest)))))

    module _ (C : Calls 𝓤 H) (Λ : Loops 𝓤 H) (fm : FmC 𝓤 H 𝓛.laws C) (known : Triple 𝓤 (C D.name) (Method 𝓛)) where
      walk : Met D.asking h → Are (types_at (outers ps) κs) (Ises (types_at (outers ps) κs)) a (outer_vals ps κs a)
          → ent 𝓤 (on_entry 𝓛 lent.signature κs qs (ref, a) (vptr b o ∷ [], outer_vals ps κs a)) (WpFn 𝓤 H C Λ function (vptr b o ∷ vals ps x) Post)
      walk met are =
          qed 𝓛 ((‵ (flft κs.0 qs.0) ⊛ raw Tokens) ∷ ‵ (fsep ((MutRef (named 0) κs.0 (row_of B)).own_val ref (vptr b o ∷ [])) (owns (types_at (outers ps) κs) a (outer_vals ps κs a))) ∷ []) ∵
          split ! $ move ! (2 ∷ []) $ fsplit ! $ move ! (1 ∷ []) $ use1 𝓛 (‵ Had ⊛ ‵ Taken) (share-all 𝓛 ps κs a) $ split ! $ move ! (2 ∷ []) $ fsplit3 ! $ drop ! $ move ! (0 ∷ 1 ∷ 4 ∷ []) $
          -- [obs; the borrow; the token; had; taken; tokens]
          enter ! C Λ function (vptr b o ∷ vals ps x) _ $
          alloc1 ! (λ l₀. alloc1 ! (λ l₁. alloc_all ! ps (λ bs. alloc1 ! (λ lb. alloc1 ! (λ la. alloc0 ! $
          -- [0 after; 2 before; 4 the block; 5 _1; 7 _0; 9 obs; 10 the borrow; 11 the token; 12 had; 13 taken; 14 tokens]
          params1 ! $ pass1 ! (init ! 5 refl (tt, tt)) $ move ! (4 ∷ []) $ pass_all ! ps bs κs a are (rest l₀ l₁ bs lb la) $
          move ! (9 ∷ 10 ∷ 11 ∷ []) $ opens ! tt (row_of B) {h = h} b o (λ vs. spelt ! (row_of B) (Is (row_of B)) (shows 𝓛 (row_of B)) (vals_of B) (LL.tells B.type B.laws) full_share h vs b o $
          move ! (1 ∷ []) $ peeks ! (row_of B) (Is (row_of B)) (shows 𝓛 (row_of B)) h (vals_of B h) (λ was. move ! (1 ∷ 0 ∷ []) $
          -- [0 the cell; 1 what it owns; 2 the open borrow; 3 obs; 4 auth; 5 the block; 6 after; 8 before; 10 _1; 12 _0; 14 had; 15 taken; 16 tokens]
          assigns ! (of_opd ! (load ! (from ! (hop ! (look ! 10 refl) (stop !))) (look_raw ! 0 refl))) (at ! (finds l₀ l₁ bs lb la 0) (stop !)) (init ! 8 refl ((LL.lawful B.type B.laws 𝓛).typed h _ was).0) $
          move ! (16 ∷ 15 ∷ []) $ use2 𝓛 (raw ((Method 𝓛).pre to-method)) (goes-method met was) $ move ! (0 ∷ 6 ∷ []) $
          -- [0 what the method asks; 1 the block; 2 the cell; 3 what it owns; 4 the open borrow; 5 obs; 6 auth; 7 after; 9 before; 11 _1; 13 _0; 15 had]
          calls_at ! fm (Method 𝓛) known to-method (and_then ! (load ! (at ! (finds l₀ l₁ bs lb la 0) (stop !)) (look ! 9 refl)) (reads l₀ l₁ bs lb la !)) (λ v.
          use1 𝓛 (later (some (λ (r : k.results.type.D). (raw Tokens ⊛ ‵ ((row_of k.results).own_val r (v ∷ []))) ⊛ raw (ensured 𝓛 method (takes 𝓤) κs.1 (h, intos ps κs.1 x) tt r)))) (id⊢ 𝓤 _) $ await ! tt $ pick ! (λ r.
          split ! $ move ! (1 ∷ []) $ use1 𝓛 (raw (fact 𝓤 (D.said h x r))) (method-says 𝓛 κs.1 h x r) $ heard ! (D.said h x r) (λ s. split ! $ move ! (1 ∷ []) $
          peeks ! (row_of k.results) (Is (row_of k.results)) (shows 𝓛 (row_of k.results)) r (v ∷ []) (λ is.
          -- [0 what the result owns; 1 tokens; 2 the block; 3 the cell; 4 what it owns; 5 the open borrow; 6 obs; 7 auth; 8 after; 10 before; 12 _1; 14 _0; 16 had]
          land ! (at ! (finds l₀ l₁ bs lb la 1) (stop !)) (init ! 8 refl (k.result-typed 𝓛 r v is)) $
          rewrite ! 8 (λ (u : Val). ‵ (fat full_share (result_ty_of k) la 0 u)) (k.spelled r v is) refl $
          stands k 𝓛 C Λ D.storing ! (suc (behind ps 2)) la l₁ b o h r v is (finds l₀ l₁ bs lb la 1) (λ same. same h x r met s) $
          answers-back k 𝓛 C Λ ! (suc (behind ps 2)) la l₀ r v is (finds l₀ l₁ bs lb la 1) (
          -- [0 what the answer owns; 1 what the result owns; 2 tokens; 3 the block; 4 the cell; 5 what it owns; 6 the open borrow; 7 obs; 8 auth; 9 after; 11 before; 13 _1; 15 _0; 17 had]
          owned ! (row_of B) (Is (row_of B)) (LL.makes B.type B.plains 𝓛) (k.it r) _ (k.has-it r v is) $ move ! (5 ∷ 0 ∷ 7 ∷ 8 ∷ 9 ∷ []) $
          closes ! tt (row_of B) (k.it r) (vals_of B (k.it r)) b o $
          -- [0 obs; 1 the borrow; 2 the token; 3 what the answer owns; 4 what the result owns; 5 tokens; 6 the block; 7 what it owned; 8 after; 10 before; 12 _1; 14 _0; 16 had]
          returns ! (look ! 14 refl) $ forget ! 8 refl $ forget ! 10 refl $ forget ! 12 refl $ forget ! 14 refl $
          move ! (14 ∷ 15 ∷ []) $ free1 ! $ move ! (12 ∷ 13 ∷ []) $ free1 ! $ move ! (6 ∷ []) $ free_all ! ps bs x (rest l₀ l₁ bs lb la) $ move ! (9 ∷ 10 ∷ []) $ free1 ! $ move ! (7 ∷ 8 ∷ []) $ free1 ! $ free0 ! $
          -- [0 obs; 1 the borrow; 2 the token; 3 what the answer owns; 4 what the result owns; 5 tokens; 6 what it owned; 7 had]
          keep ! (0 ∷ 1 ∷ 2 ∷ 3 ∷ 5 ∷ 7 ∷ []) $ by ! (exits (k.it r) (k.answer r) (val_of P (k.answer r)) (D.keeps h x r met s))))))))))))))

  module _ {M : Type 1} {𝓤 : Ura M} (𝓛 : Logic 𝓤) where
    open 𝓛 use {H}

    walks : (C : Calls 𝓤 H) (Λ : Loops 𝓤 H) → FmC 𝓤 H 𝓛.laws C → Triple 𝓤 (C D.name) (Method 𝓛) → Walks 𝓛 lent stayed (WpFn 𝓤 H C Λ function) (lends 𝓤)
    walks C Λ fm known = walked 𝓛 lent stayed (lends 𝓤) (WpFn 𝓤 H C Λ function) (λ κs. (mut_vals, spells ps κs)) (λ κs. (mut_Tells (named 0) κs.0 (row_of B), tellss ps κs))
        (λ κs qs bounds a _ are. learns 𝓤 D.asking a.0.now _ (λ met.
        subst (λ (vs : List Val). ent 𝓤 (on_entry 𝓛 lent.signature κs qs a (mut_vals a.0, outer_vals ps κs a.1))
        (WpFn 𝓤 H C Λ function (vptr a.0.ref_ptr.0 a.0.ref_ptr.1 ∷ vs) ((walk_of 𝓛 lent stayed (lends 𝓤)).post ((κs, qs, bounds, a, (mut_vals a.0, outer_vals ps κs a.1)), tt)))) (outer-flat ps κs a.1)
        (walk 𝓛 κs qs a.0.ref_ptr.0 a.0.ref_ptr.1 a.0.ghost_name a.0.now a.1 C Λ fm known met are.1)))

    goes : AllGo 𝓛 (suc D.n) lent.signature.params lent.kept stayed
    goes = (Goes-ref 𝓛 (suc D.n) 0 tt (plain (λ _. row_of B)), goes-all 𝓛 ps)

    -- THE LENT CALL meets its promise, where the method meets its own.
    pub meets : (𝓣 : Tables 𝓤 H) → Triple 𝓤 (𝓣.C D.name) (Method 𝓛) → Meets 𝓛 lent.signature (WpFn 𝓤 H 𝓣.C 𝓣.Λ function) (closing 𝓛 lent (lends 𝓤))
    meets 𝓣 known =
        walk_Meets 𝓛 lent stayed goes (lends 𝓤) (WpFn 𝓤 H 𝓣.C 𝓣.Λ function) (WpFn-mono 𝓤 H 𝓛.laws 𝓣 function) (walks 𝓣.C 𝓣.Λ (fm_of 𝓤 H 𝓛.laws 𝓣) known)

-- ITS ROUTINE meets its promise, over the routine of the method.
pub opened : (D : LentCall) {M : Type 1} {𝓤 : Ura M} (𝓛 : Logic 𝓤) (𝓜 : Model 𝓤 𝓛.H) (𝓡 : Running 𝓤 𝓛.H 𝓜) (γ : Names) (key : Callee) → Closed 𝓤 𝓛.H (tables 𝓤 𝓛.H 𝓜 𝓡 γ).C (tables 𝓤 𝓛.H 𝓜 𝓡 γ).Λ key (function D)
    → (g : Routine) → γ D.name ≡ g → Triple 𝓤 (𝓡.run g) (Method D 𝓛)
    → Triple 𝓤 (𝓡.run (γ key)) (triple_of 𝓛 (lent D).signature (closing 𝓛 (lent D) (lends D 𝓤)))
opened D {𝓤 = 𝓤} 𝓛 𝓜 𝓡 γ key closed g is-g met =
    any_entry 𝓛 𝓜 𝓡 γ (triple_of 𝓛 (lent D).signature (closing 𝓛 (lent D) (lends D 𝓤))) key (function D) closed
    (meets D 𝓛 (Over 𝓛 𝓜 𝓡 γ) (known_at_lem 𝓛 𝓜 𝓡 γ (Method D 𝓛) D.name g is-g met))

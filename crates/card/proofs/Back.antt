-- The card that holds a sound model is read back as that model.
-- Assumes nothing.
use Prim.Native.Nat.{ℕ, suc, ◌-◌, ◌≤◌, ◌<◌}
use native.Mathlib.Omega.{arith}
use mathlib.Core.Path.{◌≡◌, refl, sym, ap, ap₂, subst, ◌∙◌}
use mathlib.Core.Bool.{false}
use mathlib.Core.List.{List, [], ◌∷◌, map}
use lib.ListN.{length, take, get_or}
use Rattle.lists.specs.Lists.{Every, padded}
use Rattle.lists.proofs.Every.{every-so, every-both}
use Rattle.lists.proofs.Mapped.{map-length}
use Rattle.lists.proofs.Padded.{take-padded}
use Rattle.sets.specs.Sets.{has?}
use Rattle.lists.specs.Tables.{table}
use Rattle.sets.proofs.Bits.{has-set}
use Rattle.lists.proofs.Tables.{table_at, table-alike, table-list}
use Rattle.rules.specs.Holds.{Applet, Bounds, Tables, Model, document}
use Rattle.rules.specs.Applets.{nobody, applet}
use Rattle.rules.specs.Rows.{no_pair}
use Rattle.rules.proofs.Held.{rows_back, desk-back}
use Rattle.runs.specs.Sound.{SoundApplet, SoundRound, Sound}
use Rattle.runs.proofs.Looked.{each-found}
use Rattle.applets.specs.ByNumber.{at, grant_of, applet_by, roll_of, selectable_set, registered_set, made_table, poll_table}
use Rattle.applets.proofs.Numbers.{by_number_lem}
use Rattle.arrivals.proofs.Waiting.{round-back}
use Rattle.card.specs.View.{stored, applet_of, view}

-- each by its number
own-all : (f : ℕ → Applet) (l : List Applet) → Every (λ (x : Applet). f x.number ≡ x) l → map f (map (λ (x : Applet). x.number) l) ≡ l
unfolding Every
own-all f [] e = refl
own-all f (x ∷ l) e = ap₂ (λ (y : Applet) (k : List Applet). y ∷ k) e.0 (own-all f l e.1)

module _ (m : Model) (b : Bounds) (n : ℕ) (low : 1 ≤ n) (high : n ≤ 8) where
  abbrev l : List Applet
  l = m.tables.applets

  abbrev x : Applet
  x = at l n

  grant-back : get_or (table 8 (λ i. grant_of (at l (suc i)))) (n - 1) (grant_of nobody) ≡ grant_of x
  grant-back = by_number_lem l grant_of (grant_of nobody) n low high

  events-by : (e : ℕ) → e < 20 → has? (get_or (table 20 (registered_set l)) e 0) n ≡ get_or x.events e false
  unfolding registered_set
  events-by e h = ap (λ (k : ℕ). has? k n) (table_at 20 (registered_set l) e 0 h) ∙ has-set (λ (k : ℕ). get_or (at l k).events e false) n low high

  events-back : length x.events ≡ 20 → table 20 (λ (e : ℕ). has? (get_or (table 20 (registered_set l)) e 0) n) ≡ x.events
  events-back long = table-alike 20 _ _ events-by ∙ ap (λ (k : ℕ). table k (λ (e : ℕ). get_or x.events e false)) (sym long) ∙ table-list x.events false

  by_itself : (y : Applet) → y.number ≡ n → applet_by n (grant_of y) y.made y.selectable y.events y.poll ≡ y
  unfolding applet_by grant_of
  by_itself y is = rw (sym is, take-padded 4 no_pair y.limits.pairs) refl

  own : SoundApplet b x → x.number ≡ n → applet_of (stored m) n ≡ x
  unfolding applet_of stored roll_of selectable_set made_table poll_table
  own s is =
      rw (grant-back, by_number_lem l (λ (y : Applet). y.made) 0 n low high, by_number_lem l (λ (y : Applet). y.poll) 0 n low high, has-set (λ (k : ℕ). (at l k).selectable) n low high, events-back s.events) (by_itself x is)

module _ (m : Model) (sound : Sound m) (e : m.tables.bounds ≡ document) where
  abbrev t : Tables
  t = m.tables

  each : Every (λ (x : Applet). applet_of (stored m) x.number ≡ x) t.applets
  each =
      every-so (λ (x : Applet). (applet t x.number ≡ x) × SoundApplet t.bounds x) (λ (x : Applet). applet_of (stored m) x.number ≡ x) one t.applets
      (every-both (λ (x : Applet). applet t x.number ≡ x) (SoundApplet t.bounds) t.applets (each-found t sound.tables) sound.tables.each-applet)
    where
      one : (x : Applet) → (applet t x.number ≡ x) × SoundApplet t.bounds x → applet_of (stored m) x.number ≡ x
      one x (found, s) =
          let is : at t.applets x.number ≡ x = unfold applet in found in
          let eight : t.bounds.applets ≡ 8 = ap (λ (b : Bounds). b.applets) e in
          own m t.bounds x.number s.number-from (omega (arith, s.number-to)) (rw is s) (ap (λ (y : Applet). y.number) is) ∙ is

  numbers-back : take (length t.applets) (padded 8 0 (map (λ (x : Applet). x.number) t.applets)) ≡ map (λ (x : Applet). x.number) t.applets
  numbers-back =
      ap (λ (k : ℕ). take k (padded 8 0 (map (λ (x : Applet). x.number) t.applets))) (sym (map-length (λ (x : Applet). x.number) t.applets))
      ∙ take-padded 8 0 (map (λ (x : Applet). x.number) t.applets)

  applets-back : (view (stored m)).tables.applets ≡ t.applets
  unfolding view stored roll_of
  applets-back = ap (map (applet_of (stored m))) numbers-back ∙ own-all (applet_of (stored m)) t.applets each

  pub view-stored : view (stored m) ≡ m
  unfolding view stored
  view-stored = rw (applets-back, rows_back m.tables.rows, desk-back m.desk, round-back m.round (subst (λ (b : Bounds). SoundRound b m.round) e sound.round), sym e) refl

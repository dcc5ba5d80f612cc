-- What the card shows is what its history wants shown: the rows, the codes, and the system interval.
-- Assumes nothing.
use Prim.Native.Nat.{ℕ, suc, ◌≤◌}
use native.Mathlib.Omega.{arith}
use mathlib.Core.Path.{◌≡◌, refl, sym, ap, ◌∙◌}
use mathlib.Core.Bool.{Bool, true, false, ◌&&◌}
use mathlib.Core.List.{List, [], ◌∷◌, map, map_congr_left}
use Rattle.std.specs.Prelude.{Ok}
use Rattle.lists.specs.Lists.{Every, some?, count, keep, in?, smallest}
use Rattle.lists.proofs.Alike.{keep-alike}
use Rattle.lists.proofs.Counts.{count-is, count-keep, count-missed, count-some}
use Rattle.lists.proofs.Every.{every-so}
use Rattle.lists.proofs.Mapped.{map-length}
use Rattle.lists.proofs.Owned.{every-there}
use Rattle.lists.proofs.Smallest.{smallest-by-key}
use Rattle.lists.proofs.Times.{count-all}
use Rattle.lists.proofs.Walk.{some_first}
use Rattle.rules.specs.declared.Envelope.TheVariants.{Download}
use Rattle.rules.specs.Holds.{Applet, Row, Tables, event, status}
use Rattle.rules.specs.Events.{codes, first_download, kind_of_code, named}
use Rattle.rules.specs.Applets.{has_number, nobody, present, applet, registered, polls, in_order}
use Rattle.rules.specs.Arrivals.{arrival_of, download, wants}
use Rattle.rules.specs.Commands.{selectable, shown_menu, listened, shown_from, shown_events, interval}
use Rattle.rules.proofs.Listed.{count-in_order}
use Rattle.runs.specs.Sound.{SoundTables}
use Rattle.history.specs.Histories.{History}
use Rattle.history.specs.Named.{is_selectable, poll_of, one_to_eight, rows_named}
use Rattle.history.specs.Called.{is_named, is_callable}
use Rattle.history.specs.Handed.{is_shown, codes_named, interval_named}
use Rattle.history.proofs.Agree.{number_of, AgreeTables}
use Rattle.history.proofs.Calling.{callable, callable-in-order, callable-there}
use Rattle.history.proofs.Eight.{among-eight, length-due}

-- where as many pass, one passes or none does
some-counted : {A B : Type 0} (p : A → Bool) (l : List A) (q : B → Bool) (k : List B) → count p l ≡ count q k → some? p l ≡ some? q k
some-counted p l q k e = go (some? p l) (some? q k) refl refl
  where
    go : (a b : Bool) → some? p l ≡ a → some? q k ≡ b → a ≡ b
    go true true f g = refl
    go true false f g = absurd (omega (arith, count-some p l f, count-missed q k g))
    go false true f g = absurd (omega (arith, count-missed p l f, count-some q k g))
    go false false f g = refl

-- each code of the list arrives as the event of its place, of which the first is e
Placed : ℕ → List ℕ → Type 0
Placed e [] = Unit
Placed e (c ∷ l) = (arrival_of (Ok (Download c)) ≡ event e) × Placed (suc e) l

placed : Placed first_download codes
unfolding Placed codes arrival_of download kind_of_code named
placed = (refl, (refl, (refl, (refl, (refl, (refl, (refl, (refl, (refl, (refl, (refl, (refl, (refl, tt)))))))))))))

module _ (t : Tables) (h : History) (s : SoundTables t) (g : AgreeTables t h) (few : (n : ℕ) → present t n ≡ true → (1 ≤ n) × (n ≤ 8)) where
  -- The rows.
  selectable-named : (n : ℕ) → selectable t n ≡ is_selectable n h
  unfolding selectable applet
  selectable-named n = some_first (has_number n) (λ (x : Applet). x.selectable) t.applets nobody (s.numbers_apart n) refl ∙ g.selectability n

  pub rows-shown : shown_menu t ≡ keep (is_shown h) t.rows
  unfolding shown_menu is_shown
  rows-shown = keep-alike _ (is_shown h) t.rows (λ (r : Row). ap (λ (b : Bool). r.enabled && b) (selectable-named r.owner))

  pub rows-wanted : (p : Row → Bool) → count p (keep (is_shown h) t.rows) ≡ count p (keep (is_shown h) (rows_named h))
  rows-wanted p = count-keep p (is_shown h) t.rows ∙ g.rows (λ r. is_shown h r && p r) ∙ sym (count-keep p (is_shown h) (rows_named h))

  -- The codes.
  abbrev Wanted : ℕ → Applet → Bool
  Wanted e x = x.selectable && registered t e x

  listened-named : (e : ℕ) → listened t e ≡ some? (is_callable h (event e)) one_to_eight
  unfolding listened callable wants
  listened-named e =
      some-counted (Wanted e) t.applets (is_callable h (event e)) one_to_eight
      (count-is (Wanted e) t.applets
      ∙ sym (count-all (keep (Wanted e) t.applets))
      ∙ sym (count-in_order (λ x. true) (keep (Wanted e) t.applets))
      ∙ count-all (in_order (keep (Wanted e) t.applets))
      ∙ sym (map-length number_of (in_order (keep (Wanted e) t.applets)))
      ∙ length-due (callable t (event e)) (is_callable h (event e)) (callable-in-order t h s g (event e)).once (λ n q. few n (callable-there t h s g (event e) n q)))

  from_named : (e : ℕ) (l : List ℕ) → Placed e l → shown_from t e l ≡ keep (λ code. some? (is_callable h (arrival_of (Ok (Download code)))) one_to_eight) l
  unfolding Placed shown_from keep
  from_named e [] p = refl
  from_named e (c ∷ l) p = rw (p.0, listened-named e, from_named (suc e) l p.1) refl

  pub codes-shown : shown_events t ≡ codes_named h
  unfolding shown_events codes_named
  codes-shown = from_named first_download codes placed

  -- The system interval.
  found_among : Every (λ (x : Applet). in? x.number one_to_eight ≡ true) t.applets
  unfolding present
  found_among =
      every-so (λ (x : Applet). some? (has_number x.number) t.applets ≡ true) _
      (λ x q. among-eight x.number (few x.number q).0 (few x.number q).1) t.applets (every-there number_of t.applets)

  abbrev Polled : ℕ → Bool
  Polled n = (applet t n).selectable && polls (applet t n)

  pub interval-shown : interval t ≡ interval_named h
  unfolding interval interval_named is_callable is_named applet
  interval-shown =
      smallest-by-key number_of nobody t.applets s.numbers_apart one_to_eight found_among (λ (x : Applet). x.selectable && polls x) (λ (x : Applet). x.poll) refl
      ∙ ap smallest (map_congr_left {l = keep Polled one_to_eight} (λ n q. g.poll n)
      ∙ ap (map (λ n. poll_of n h)) (keep-alike Polled (is_callable h status) one_to_eight (λ n. rw (g.selectability n, g.poll n) refl)))

-- The tables' own interval, by the table of requests and the set of the selectable applets.
-- Assumes nothing.
use Prim.Native.Nat.{ℕ, suc}
use native.Mathlib.Omega.{arith}
use mathlib.Core.Path.{◌≡◌, refl, sym, ap, ap₂, ◌∙◌}
use mathlib.Core.Bool.{Bool, true, ◌&&◌}
use mathlib.Core.List.{List, map}
use lib.ListN.{get_or}
use Rattle.std.specs.Prelude.{if◌then◌else◌}
use Rattle.lists.specs.Lists.{Every, some?, in?, smallest}
use Rattle.lists.specs.Tables.{table}
use Rattle.lists.proofs.Every.{every-so}
use Rattle.lists.proofs.Least.{least_of, kept-given}
use Rattle.lists.proofs.Smallest.{smallest-by-key}
use Rattle.lists.proofs.Tables.{table_at, table-alike}
use Rattle.sets.specs.Sets.{numbers, has?}
use Rattle.sets.proofs.Bits.{one_of, has-set}
use Rattle.rules.specs.Holds.{Applet, Bounds, Tables, document}
use Rattle.rules.specs.Applets.{nobody, polls}
use Rattle.rules.specs.Commands.{interval}
use Rattle.runs.specs.Sound.{SoundApplet, SoundTables}
use Rattle.applets.specs.ByNumber.{at, selectable_set, poll_table}
use Rattle.polling.specs.Polls.{interval_of}

each_in : Every (λ n. in? n numbers ≡ true) numbers
unfolding numbers Every in? some?
each_in = (refl, (refl, (refl, (refl, (refl, (refl, (refl, (refl, tt))))))))

module _ (t : Tables) (s : SoundTables t) (e : t.bounds ≡ document) where
  abbrev l : List Applet
  l = t.applets

  numbered : Every (λ (x : Applet). in? x.number numbers ≡ true) l
  numbered = every-so (SoundApplet t.bounds) _ one l s.each-applet
    where
      one : (x : Applet) → SoundApplet t.bounds x → in? x.number numbers ≡ true
      one x o =
          let eight : t.bounds.applets ≡ 8 = ap (λ (b : Bounds). b.applets) e in
          one_of (λ n. in? n numbers ≡ true) each_in x.number o.number-from (omega (arith, o.number-to))

  -- what counts in each place
  requests : table 8 (λ i. if has? (selectable_set l) (suc i) then get_or (poll_table l) i 0 else 0) ≡ map (λ n. if (at l n).selectable then (at l n).poll else 0) numbers
  unfolding selectable_set poll_table numbers table
  requests = table-alike 8 _ _ (λ i h. ap₂ (λ (b : Bool) (k : ℕ). if b then k else 0) (has-set (λ n. (at l n).selectable) (suc i) (omega arith) (omega arith)) (table_at 8 (λ i. (at l (suc i)).poll) i 0 h))

  pub interval-by : interval_of (poll_table l) (selectable_set l) ≡ interval t
  unfolding interval_of interval
  interval-by =
      ap least_of requests
      ∙ ap smallest (kept-given (λ n. (at l n).selectable) (λ n. (at l n).poll) numbers)
      ∙ sym (smallest-by-key (λ (x : Applet). x.number) nobody l s.numbers_apart numbers numbered (λ (x : Applet). x.selectable && polls x) (λ (x : Applet). x.poll) refl)

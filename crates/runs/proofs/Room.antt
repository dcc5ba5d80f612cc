-- How many applets and rows there are: no more than the bounds, with a place left for an accepted install and an accepted new entry.
-- Assumes nothing.
use Prim.Native.Nat.{ℕ, ◌+◌, ◌-◌, ◌≤◌, ◌<◌}
use native.Mathlib.Omega.{arith}
use mathlib.Core.Path.{◌≡◌, ap, ◌∙◌}
use mathlib.Core.Bool.{Bool, true}
use mathlib.Core.List.{List}
use lib.ListN.{length}
use Rattle.std.specs.Prelude.{◌==◌}
use Rattle.lists.specs.Lists.{Every, count, sum}
use Rattle.lists.proofs.Decided.{turned}
use Rattle.lists.proofs.Every.{every-so}
use Rattle.lists.proofs.Counts.{few-apart, count-some, count-alike}
use Rattle.lists.proofs.Sums.{sum-turned, sum_alike, sum_ones, sum-within, sum_both, sum_first}
use Rattle.rules.specs.Holds.{Applet, Row, Bounds, Tables}
use Rattle.rules.specs.Applets.{has_number, present, applet, nobody, entries}
use Rattle.runs.specs.Sound.{SoundApplet, SoundRow, SoundTables}
use Rattle.runs.proofs.Looked.{each-found}

-- applets with numbers of their own in 1..n are at most n
pub few-numbers : (b : Bounds) (l : List Applet) → Every (SoundApplet b) l → ((n : ℕ) → count (has_number n) l ≤ 1) → length l ≤ b.applets
few-numbers b l e h =
    few-apart (λ (x : Applet). x.number) l h b.applets
    (every-so (SoundApplet b) (λ (x : Applet). (1 ≤ x.number) × (x.number ≤ b.applets)) (λ x s. (s.number-from, s.number-to)) l e)

module _ (t : Tables) (s : SoundTables t) where
  abbrev of : Applet → Row → Bool
  of x r = r.owner == x.number

  abbrev made : Applet → ℕ
  made x = x.made

  owner-once : (r : Row) → SoundRow t r → count (λ x. of x r) t.applets ≡ 1
  unfolding present
  owner-once r q =
      let e = count-alike (λ x. of x r) (has_number r.owner) (λ x. turned r.owner x.number) t.applets in
      omega (arith, e, s.numbers_apart r.owner, count-some (has_number r.owner) t.applets q.owner)

  each-made : Every (λ x. count (of x) t.rows ≡ made x) t.applets
  each-made = every-so _ _ (λ x e. s.rows_made x.number ∙ ap made e) t.applets (each-found t s)

  -- there are as many rows as entries made
  pub rows-counted : length t.rows ≡ sum made t.applets
  rows-counted =
      let ones = sum_ones (λ (r : Row). count (λ x. of x r) t.applets) t.rows (every-so (SoundRow t) _ owner-once t.rows s.each_row) in
      omega (arith, ones, sum-turned of t.applets t.rows, sum_alike (λ x. count (of x) t.rows) made t.applets each-made)

  -- while an applet has an entry to make, there is room for a row
  pub entry-room : (n : ℕ) → present t n ≡ true → (applet t n).made < entries (applet t n) → length t.rows < t.bounds.rows
  unfolding present applet
  entry-room n here more =
      let fits = every-so (SoundApplet t.bounds) (λ x. made x + (entries x - made x) ≤ entries x) (λ x q. omega (arith, q.made)) t.applets s.each-applet in
      let left = sum_first (λ x. entries x - made x) (has_number n) nobody t.applets here in
      omega (
        arith,
        rows-counted,
        sum_both made (λ x. entries x - made x) t.applets,
        sum-within (λ x. made x + (entries x - made x)) entries t.applets fits,
        left,
        s.total,
      )

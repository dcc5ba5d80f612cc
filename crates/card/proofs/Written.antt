-- What a hand-out writes: the menu, the event list, or a command for polling, and never two of them.
-- Assumes nothing.
use Prim.Native.Nat.{ℕ, ◌+◌, ◌≤◌, ◌<◌}
use native.Mathlib.Omega.{arith}
use mathlib.Core.Path.{◌≡◌, refl, sym, ap, ◌∙◌}
use mathlib.Core.Bool.{Bool}
use mathlib.Core.List.{List, [], ◌∷◌, ◌++◌}
use lib.ListN.{length, take, drop, length-append}
use Rattle.std.specs.Prelude.{if◌then◌else◌}
use Rattle.lists.specs.Wrote.{Wrote, put_at}
use Rattle.lists.proofs.Padded.{length-padded, take-padded}
use Rattle.lists.proofs.Writing.{wrote_none}
use Rattle.rules.specs.declared.Rows.{Rows}
use Rattle.rules.specs.declared.Due.{Due}
use Rattle.rules.specs.Events.{codes, first_download}
use Rattle.rules.specs.Commands.{menu_of, menu_bytes, command_bytes, detail_bytes, length_bytes, event_bytes, interval_bytes, off_bytes}
use Rattle.rules.specs.Step.{front}
use Rattle.rules.proofs.Listed.{length_most}
use Rattle.commands.specs.Fits.{Fits, shown_of}
use Rattle.commands.proofs.Lines.{rows_under}
use Rattle.commands.proofs.Whole.{menu-most, duration-length}
use Rattle.events_shown.specs.declared.Codes.{Codes}
use Rattle.events_shown.specs.Listed.{codes_from, codes_of}
use Rattle.events_shown.proofs.Listed.{few-codes}
use Rattle.polling.specs.Polls.{interval_of}

-- THE MENU of the shown rows
pub menu-wrote
    : (s : Rows) → Fits s → (set : ℕ) (title : List ℕ) {b x : List ℕ} {n : ℕ}
    → length title ≤ 20
    → Wrote b 0 (menu_bytes (menu_of title (shown_of set s))) x n
    → Wrote b 0 (menu_bytes (menu_of title (shown_of set s))) x n × (n < 256)
menu-wrote s fits set title h w = (w, omega (arith, w.next, menu-most title (shown_of set s) (rows_under s fits set) h))

-- THE EVENT LIST of the codes that are gathered
events-most : (l : List ℕ) → length l ≤ 13 → length (event_bytes l) ≤ 27
unfolding event_bytes command_bytes detail_bytes
events-most l h =
    let v = detail_bytes 5 0 ++ 0x99 ∷ length l ∷ l in
    omega (arith, length-append (0xD0 ∷ length_bytes (length v)) v, length_most (length v))

module _ (p : ℕ → Bool) {k : Codes} (is : k ≡ codes_of (codes_from p first_download codes)) {n : ℕ} (many : n ≡ k.count) where
  abbrev l : List ℕ
  l = codes_from p first_download codes

  few : length l ≤ 13
  unfolding codes
  few = few-codes p first_download codes

  taken : take n k.at ≡ l
  unfolding codes_of
  taken = rw many (ap (λ (x : Codes). take x.count x.at) is ∙ take-padded 13 0 l)

  pub codes-room : n ≤ length k.at
  unfolding codes_of
  codes-room = omega (arith, ap (λ (x : Codes). x.count) is, ap (λ (x : Codes). length x.at) is, few, length-padded 13 0 l few)

  pub codes-count : n ≡ length (take n k.at)
  unfolding codes_of
  codes-count = many ∙ ap (λ (x : Codes). x.count) is ∙ ap length (sym taken)

  pub codes-wrote : {b x : List ℕ} {m : ℕ} → Wrote b 0 (event_bytes (take n k.at)) x m → Wrote b 0 (event_bytes l) x m × (m < 256)
  codes-wrote w = let v = rw taken at w in (v, omega (arith, v.next, events-most l few))

-- POLL INTERVAL
interval-most : (s : ℕ) → length (interval_bytes s) ≡ 15
unfolding interval_bytes command_bytes detail_bytes length_bytes
interval-most s = rw (duration-length s) (omega (arith, duration-length s))

pub interval-wrote
    : (polls : List ℕ) (set : ℕ) {s n : ℕ} {b x : List ℕ}
    → s ≡ interval_of polls set
    → Wrote b 0 (interval_bytes s) x n
    → Wrote b 0 (interval_bytes (interval_of polls set)) x n × (n < 256)
interval-wrote polls set e w = let v = rw e at w in (v, omega (arith, v.next, interval-most (interval_of polls set)))

-- A command that is written, below 256 bytes
abbrev pub Handed : (before s after : List ℕ) (n : ℕ) → Type 0
Handed b s x n = Wrote b 0 s x n × (n < 256)

off-most : length off_bytes ≡ 11
unfolding off_bytes command_bytes detail_bytes length_bytes
off-most = refl

pub off-wrote : {b x : List ℕ} {n : ℕ} → Wrote b 0 off_bytes x n → Handed b off_bytes x n
off-wrote w = (w, omega (arith, w.next, off-most))

pub in-front : {b s x : List ℕ} {n : ℕ} → Wrote b 0 s x n → x ≡ front s b
unfolding put_at front
in-front {b} {s} w = let z : 0 + length s ≡ length s = omega arith in w.after ∙ ap (λ (n : ℕ). s ++ drop n b) z

pub unwritten : {b x : List ℕ} {n : ℕ} → Handed b [] x n → x ≡ b
unfolding put_at
unwritten w = w.0.after

-- what is written, by what is handed out
abbrev pub handed_by : Due → (menu events interval off : List ℕ) → List ℕ
handed_by f menu events interval off = if f.menu then menu else if f.events then events else if f.interval then interval else if f.off then off else []

pub nothing-wrote : (b : List ℕ) → Handed b [] b 0
nothing-wrote b = (wrote_none b 0, omega arith)

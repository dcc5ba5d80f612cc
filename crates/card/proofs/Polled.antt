-- The system interval of a card that calls have left, by its table of requests and its set of selectable applets; and the marks of polling
-- after a call. Assumes nothing.
use Prim.Native.Nat.{ℕ, ◌≤◌}
use mathlib.Core.Path.{◌≡◌, ap, ap₂, ◌∙◌}
use native.Mathlib.Omega.{arith}
use mathlib.Core.Bool.{not, ◌&&◌}
use mathlib.Core.List.{List}
use Rattle.std.specs.Prelude.{◌==◌}
use Rattle.lists.proofs.Every.{every-so, every_map, every-keep}
use Rattle.lists.proofs.Smallest.{smallest-under}
use Rattle.rules.specs.Holds.{Applet, Tables, document}
use Rattle.rules.specs.Applets.{longest_poll, polls}
use Rattle.rules.specs.Commands.{interval}
use Rattle.rules.specs.Desk.{is_polled}
use Rattle.runs.specs.Sound.{SoundApplet, SoundTables}
use Rattle.applets.specs.ByNumber.{poll_table, selectable_set}
use Rattle.polling.specs.declared.Polling.{Polling}
use Rattle.polling.specs.Polls.{interval_of, polling_after}
use Rattle.polling.proofs.ByApplets.{interval-by}
use Rattle.card.specs.declared.Card.{Card}
use Rattle.card.specs.View.{view, Left}
use Rattle.card.proofs.Left.{left-sound, left-bounds}
use Rattle.card.proofs.Replied.{polls-form, selectable-form}
use Rattle.card.proofs.Marks.{PollingMarks}

module _ (c : Card) (left : Left c) where
  abbrev t : Tables
  t = (view c).tables

  pub interval-now : interval_of c.polls c.selectable ≡ interval t
  interval-now = ap₂ interval_of (polls-form c left) (selectable-form c left) ∙ interval-by t (left-sound c left).tables (left-bounds c left)

  pub interval-few : interval_of c.polls c.selectable ≤ longest_poll
  unfolding interval
  interval-few =
      omega (
        arith,
        interval-now,
        smallest-under longest_poll _
            (every_map (λ n. n ≤ longest_poll) (λ (x : Applet). x.poll) _
            (every-so _ (λ (x : Applet). x.poll ≤ longest_poll) (λ x q. q.0.poll) _ (every-keep (SoundApplet t.bounds) (λ (x : Applet). x.selectable && polls x) t.applets (left-sound c left).tables.each-applet))),
      )

  pub polled-now : not (interval_of c.polls c.selectable == 0) ≡ is_polled t
  unfolding is_polled
  polled-now = ap (λ (s : ℕ). not (s == 0)) interval-now

  -- after a call that leaves the tables u, by what their table and set would be
  pub Marks-then
      : (u : Tables) → SoundTables u → u.bounds ≡ document → {polls : List ℕ} {s : ℕ} {p : Polling}
      → polls ≡ poll_table u.applets
      → s ≡ selectable_set u.applets
      → p ≡ polling_after c.desk.session c.desk.due.interval c.desk.due.off (interval_of c.polls c.selectable) (interval_of polls s)
      → PollingMarks c.desk t u p
  Marks-then u sound bounds e f g =
      g ∙ ap₂ (polling_after c.desk.session c.desk.due.interval c.desk.due.off) interval-now (ap₂ interval_of e f ∙ interval-by u sound bounds)

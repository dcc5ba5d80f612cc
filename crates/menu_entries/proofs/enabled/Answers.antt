-- `menu_entries::enabled` meets its contract: where the applet has the row, it has the mark; else nothing changes.
-- Assumes nothing.
use mathlib.Core.Path.{sym, ap, ◌∙◌}
use mathlib.Core.List.{List}
use Rattle.std.specs.List.{position}
use Rattle.rules.specs.declared.Row as held
use Rattle.menu_entries.proofs.Changes.{is_row, none-marked, one-marked}
use Rattle.menu_entries.proofs.enabled.Goals as goal
use Rattle.menu_entries.proofs.enabled.Goals.{in-Some, in_default}

pub returns : goal.returns
returns c =
    elim c.match-found.branch [
      | in-Some w ↦ rw (c.is_some.ensures, w.found-is, w.next-is, w.turns-is) (one-marked c.args.rows c.args.applet c.args.identifier w.in-Some.i c.requires (sym w.in-Some.is ∙ c.row_at-found.ensures ∙ ap (λ (l : List held.Row). position (is_row c.args.applet c.args.identifier) l) c.listed.ensures) _ c.args.on)
      | in_default w ↦ rw (c.is_some.ensures, w.found-is, w.in_default.is, w.next-is, w.turns-is) (none-marked c.args.rows c.args.applet c.args.identifier c.requires (sym w.in_default.is ∙ c.row_at-found.ensures ∙ ap (λ (l : List held.Row). position (is_row c.args.applet c.args.identifier) l) c.listed.ensures) c.args.on)
    ]

-- `menu_entries::changed` meets its contract: where the applet has the row and the text fits, it has the new text; else nothing changes.
-- Assumes nothing.
use Prim.Native.Nat.{ℕ}
use mathlib.Core.Path.{sym, ap, ◌∙◌}
use lib.ListN.{take}
use Rattle.std.specs.List.{position}
use Rattle.menu_entries.proofs.Changes.{is_row, none-reworded, unfit-reworded, old-tidy, one-reworded}
use Rattle.menu_entries.proofs.changed.Goals as goal
use Rattle.menu_entries.proofs.changed.Goals.{in-Some+then-fits, in-Some+else-fits, in_default}

pub turns_text-turns-requires : goal.turns_text-turns-requires
turns_text-turns-requires c = old-tidy c.args.rows c.args.applet c.args.identifier c.in-Some.i c.requires (sym c.in-Some.is ∙ c.row_at-found.ensures ∙ ap (λ (n : ℕ). position (is_row c.args.applet c.args.identifier) (take n c.args.rows.at)) c.from.ensures) _

pub returns : goal.returns
returns c =
    elim c.match-found.branch [
      | in-Some+then-fits w ↦ rw (c.is_some.ensures, w.found-is, w.at-is, w.turns-is, w.if-fits.true) (one-reworded c.args.rows c.args.applet c.args.identifier w.in-Some.i c.requires (sym w.in-Some.is ∙ c.row_at-found.ensures ∙ ap (λ (n : ℕ). position (is_row c.args.applet c.args.identifier) (take n c.args.rows.at)) c.from.ensures) _ c.args.help c.args.text.now _ w.reworded.ensures w.turns_text-turns.ensures)
      | in-Some+else-fits w ↦ rw (c.is_some.ensures, w.found-is, w.at-is, w.turns-is, w.if-fits.false) (unfit-reworded c.args.rows c.args.applet c.args.identifier w.in-Some.i c.requires (sym w.in-Some.is ∙ c.row_at-found.ensures ∙ ap (λ (n : ℕ). position (is_row c.args.applet c.args.identifier) (take n c.args.rows.at)) c.from.ensures) c.args.help c.args.text.now)
      | in_default w ↦ rw (c.is_some.ensures, w.found-is, w.in_default.is, w.at-is, w.turns-is) (none-reworded c.args.rows c.args.applet c.args.identifier c.requires (sym w.in_default.is ∙ c.row_at-found.ensures ∙ ap (λ (n : ℕ). position (is_row c.args.applet c.args.identifier) (take n c.args.rows.at)) c.from.ensures) c.args.fits c.args.help c.args.text.now)
    ]

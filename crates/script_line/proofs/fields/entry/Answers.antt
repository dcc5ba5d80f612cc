use Rattle.std.proofs.Common.{rules, ap, sym, ◌∙◌, take}
use Rattle.std.proofs.lemmas.Result.{err_from_is_err_and}
use Rattle.script_line.specs.Lines.{bytes_of}
use Rattle.script_line.proofs.LineLaws.{help-none, help-missing, help-bad, help-is}
use Rattle.script_line.proofs.fields.entry.Goals as goal

pub returns-in_err-count : goal.returns-in_err-count
returns-in_err-count c =
    let p = err_from_is_err_and c.from_residual.result c.from_residual.ensures.1 in
    rw (p.1, p.2) (help-none c.args.line.now (rw c.requires at c.in_err-count.ensures))

pub returns-in-empty : goal.returns-in-empty
returns-in-empty c =
    let s = c.args.line.now in
    help-missing s (take c.in_ok-count.count c.bytes.new.room) (ap (λ n. bytes_of n s) (sym c.requires) ∙ c.in_ok-count.ensures.said) c.in-empty.len_below

pub returns-in-len1-up : goal.returns-in-len1-up
returns-in-len1-up c =
    let s = c.args.line.now in
    help-bad s (take c.in_ok-count.count c.bytes.new.room) (ap (λ n. bytes_of n s) (sym c.requires) ∙ c.in_ok-count.ensures.said) c.in-len1-up.len_at_least (search rules)

pub returns-in_default : goal.returns-in_default
returns-in_default c =
    let s = c.args.line.now in
    let g = c.in_ok-count.ensures in
    record {
      few = g.few;
      said = help-is s (take c.in_ok-count.count c.bytes.new.room) (ap (λ n. bytes_of n s) (sym c.requires) ∙ g.said) c.in-len1-up.len_at_least (search rules);
      kept = g.kept;
    }

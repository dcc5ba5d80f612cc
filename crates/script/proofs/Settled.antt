-- No second answer meets the contract of `compose`: the text, whether it is the last and the output's length decide the lines, the place and the records.
-- Assumes nothing.
use Prim.Native.Nat.{ℕ, ◌-◌, ◌*◌}
use native.Mathlib.Omega.{arith}
use native.Mathlib.Nat.{eq-zero-or-pos}
use mathlib.Core.Path.{◌≡◌, sym, ap, ◌∙◌, subst}
use mathlib.Core.Bool.{Bool, true, false}
use mathlib.Core.List.{List}
use mathlib.Core.Logic.{⊎_elim}
use lib.ListN.{length, take, drop, length-drop}
use lib.Seq.{length-take-le}
use Rattle.std.specs.Prelude.{Result, Ok, Err}
use Rattle.script_line.specs.declared.Cause.{Cause}
use Rattle.script.specs.declared.Stop.{Stop}
use Rattle.script.specs.declared.Stop.TheVariants.{End, Full}
use Rattle.script.specs.declared.Progress.{Progress}
use Rattle.script.specs.Texts.{line_length, Standing, Reads, Good, Stops, Composed, behind_lines, records_of, first_line, line_meaning}

module _ {at records lines : ℕ} {text out : List ℕ} where
  -- where composing stops, no line is read
  stops-not-reads : (last : Bool) (x : Result Stop Cause) → Standing last at records lines text out → Stops x last (drop at text) out records → Reads last (length out) lines text → ⊥
  unfolding Good
  stops-not-reads true (Ok End) s e r = omega (arith, ap length e, ap length s.left, r.some)
  stops-not-reads false (Ok End) s e r = let w = subst (λ (t : List ℕ). line_length t ≡ length t) s.left e.0 in omega (arith, w, r.ended)
  stops-not-reads last (Ok Full) s e r = omega (arith, e.1, r.roomy, ap length s.made, length-take-le (records * 24) out s.fits)
  stops-not-reads last (Err c) s e r = rw (ap (λ t. line_meaning (first_line t)) (sym s.left) ∙ e.0) at r.good

module _ (last : Bool) (text : List ℕ) (r q : Progress) (out old : List ℕ) (long : length out ≡ length old) (a : Composed r last text out) (b : Composed q last text old) where
  pub lines-once : r.lines ≡ q.lines
  lines-once = ⊎_elim
      (λ e. ⊎_elim (λ f. omega arith) (λ g. absurd (stops-not-reads last q.stop b.0 b.1 (subst (λ (n : ℕ). Reads last n q.lines text) long (a.0.reads q.lines (omega arith))))) (eq-zero-or-pos (r.lines - q.lines)))
      (λ g. absurd (stops-not-reads last r.stop a.0 a.1 (subst (λ (n : ℕ). Reads last n r.lines text) (sym long) (b.0.reads r.lines (omega arith)))))
      (eq-zero-or-pos (q.lines - r.lines))

  pub records-once : take (r.records * 24) out ≡ take (q.records * 24) old
  records-once = a.0.made ∙ ap (λ n. records_of n text) lines-once ∙ sym b.0.made

  pub place-once : r.at ≡ q.at
  place-once =
      let e : drop r.at text ≡ drop q.at text = a.0.left ∙ ap (λ n. behind_lines n text) lines-once ∙ sym b.0.left in
      omega (arith, ap length e, length-drop r.at text, length-drop q.at text, a.0.read, b.0.read)

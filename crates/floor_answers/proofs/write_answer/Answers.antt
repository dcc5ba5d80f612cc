-- `floor_answers::write_answer` meets its contract: a case for each sort of answer.
-- Assumes nothing.
use Prim.Native.Char.{code}
use mathlib.Core.Path.{refl, ◌≡◌, ap, ◌∙◌}
use mathlib.Core.Logic.{inl, inr, ⊎_elim}
use Rattle.lists.specs.Lists.{some?, in?}
use Rattle.lists.specs.Text.{ascii}
use Rattle.floor_lines.specs.Texts.{refusal_text}
use Rattle.floor_answers.specs.Shown.{shown_by}
use Rattle.floor_answers.proofs.AnswerLaws.{no-call-line, refused-line, accepted-line, shown-at, shown-none, one-called}
use Rattle.floor_answers.proofs.write_answer.Goals as goal
use Rattle.floor_answers.proofs.write_answer.Goals.{in-77, in-78, in-87, in_default-call}

pub returns-in_default : goal.returns-in_default
unfolding refusal_text
returns-in_default c k e = no-call-line k c.args.letter c.args.answer _ c.in_default.is (c.write_line.ensures k e)

pub returns-then-refusal-ne0 : goal.returns-then-refusal-ne0
unfolding refusal_text
returns-then-refusal-ne0 c k e = refused-line k c.args.letter c.args.answer _ c.in-Some.is c.if-refusal-ne0.true (c.write_line-then-refusal-ne0.ensures k e)

pub returns : goal.returns
unfolding refusal_text shown_by in? some? ascii
returns c k e =
    let x = c.in-Some.call in
    let a = c.args.answer in
    let out = c.args.out.now in
    let shown : c.match-call-2.shown.now ≡ shown_by x a out = elim c.match-call-2.branch [
      | in-77 w ↦ ⊎_elim (λ h. shown-at x a out (code "M") h (ap (λ s. s.now) w.shown-is) refl) (λ h. shown-at x a out (code "T") h (ap (λ s. s.now) w.shown-is) refl) w.in-77.is
      | in-78 w ↦ shown-at x a out (code "N") w.in-78.is (ap (λ s. s.now) w.shown-is) (w.first-shown.ensures ∙ one-called a.called)
      | in-87 w ↦ shown-at x a out (code "W") w.in-87.is (ap (λ s. s.now) w.shown-is) w.first-shown-in-87.ensures
      | in_default-call w ↦
          let r = w.in_default-call.in_default-call-own.rest in
          ap (λ s. s.now) w.shown-is ∙ shown-none x a out (λ h. r.0.0.1 (inl h)) (λ h. r.0.0.1 (inr h)) r.0.1 r.1
    ] in
    accepted-line k c.args.letter a out c.in-Some.is c.if-refusal-ne0.false shown (c.write_line-2.ensures k e)

-- A fresh card, by its parts; calls may be made on it.
-- Assumes nothing.
use Prim.Native.Nat.{ℕ, zero, suc, ◌≤◌}
use native.Mathlib.Omega.{arith}
use mathlib.Core.Path.{◌≡◌, refl, sym, ap, ◌∙◌}
use mathlib.Core.Bool.{false}
use mathlib.Core.List.{List, [], ◌∷◌}
use lib.ListN.{length, take, replicate}
use lib.Seq.{take_all}
use borrow.Author.Tests.{ne_eqb}
use Rattle.lists.specs.Tests.{◌<?◌}
use Rattle.std.specs.Prelude.{if◌then◌else◌, ◌==◌}
use Rattle.lists.specs.Lists.{padded, first}
use Rattle.lists.specs.Tables.{table}
use Rattle.sets.specs.Sets.{numbers, valued, set_of}
use Rattle.rules.specs.declared.Answer.{Answer}
use Rattle.rules.specs.declared.Roll.{Roll}
use Rattle.rules.specs.declared.Round.{Round}
use Rattle.rules.specs.declared.Rows.{Rows}
use Rattle.rules.specs.Holds.{document, fresh, nothing_due, no_round}
use Rattle.rules.specs.Held.{stored_rows, stored_desk, stored_answer}
use Rattle.rules.specs.Calls.{refused_with}
use Rattle.rules.specs.Refusals.{line, first_holding}
use Rattle.rules.specs.Beside.{fresh_card, fresh_by}
use Rattle.rules.specs.Runs.{card_after}
use Rattle.refusals.proofs.Calls.{title-short}
use Rattle.applets.specs.ByNumber.{roll_of, selectable_set, registered_set, made_table, poll_table}
use Rattle.arrivals.specs.Rounds.{stored_round}
use Rattle.card.specs.declared.Card.{Card}
use Rattle.card.specs.declared.Reply.{Reply}
use Rattle.card.specs.View.{stored, Left}
use Rattle.card.specs.Replies.{fresh_reply}
use Rattle.card.proofs.Replied.{card-is}

module _ (title : List ℕ) where
  -- a card with no applet and no row, part by part
  pub fresh-is
      : {a : Roll} {r : Rows} {t : List ℕ} {q : Round}
      → a ≡ roll_of []
      → r ≡ stored_rows []
      → t ≡ padded 20 0 title
      → q ≡ stored_round no_round
      → ◌≡◌ {A = Card}
      (record {
        roll = a;
        selectable = 0;
        registered = replicate 20 0;
        made = replicate 8 0;
        polls = replicate 8 0;
        control = 0;
        rows = r;
        bank = record { owner = replicate 8 0 };
        desk = record { due = nothing_due; session = false; outstanding = false; title_len = length title; title = t; profile = replicate 32 0 };
        round = q;
      })
      (stored (fresh document title))
  unfolding selectable_set registered_set made_table poll_table set_of valued numbers table first stored_desk
  fresh-is p q s o = card-is (fresh document title) o p refl refl refl refl refl q refl (rw s refl)

  module _ {r n : ℕ} (e : r ≡ first_holding (line 12 (20 <? length title) ∷ [])) (kept : n ≡ (if r == 0 then length title else 0)) where
    -- what is kept of the title: all, or nothing where it is refused
    by-refusal : (k : ℕ) → r ≡ k → (n ≡ length (take n title)) × (length (take n title) ≤ 20) × (fresh document (take n title) ≡ (fresh_by k document title).card)
    unfolding fresh_by
    by-refusal zero h =
        let all : n ≡ length title = kept ∙ ap (λ (k : ℕ). if k == 0 then length title else 0) h in
        let same : take n title ≡ title = take_all n title (omega (arith, all)) in
        rw same (all, title-short (length title) e h, refl)
    by-refusal (suc k) h =
        let none : n ≡ 0 = kept ∙ ap (λ (k : ℕ). if k == 0 then length title else 0) h ∙ rw (ne_eqb (suc k) 0 (λ z. omega arith)) refl in
        rw none (refl, omega arith, refl)

    pub kept-long : n ≡ length (take n title)
    kept-long = (by-refusal r refl).0

    pub kept-short : length (take n title) ≤ 20
    kept-short = (by-refusal r refl).1

    refusal_is : (k : ℕ) → (fresh_by k document title).refusal ≡ k
    unfolding fresh_by
    refusal_is zero = refl
    refusal_is (suc k) = refl

    pub freshens : {k : Card} {a : Answer} → k ≡ stored (fresh document (take n title)) → a ≡ stored_answer (refused_with r)
        → ◌≡◌ {A = Reply} (record { card = k; answer = a }) (fresh_reply (fresh_card document title))
    unfolding fresh_card fresh_reply
    freshens {k} {a} p q =
        ap (λ (x : Card). record { card = x; answer = a }) (p ∙ ap stored (by-refusal r refl).2)
        ∙ ap (λ (x : Answer). record { card = stored (fresh_by r document title).card; answer = x }) (q ∙ ap (λ (i : ℕ). stored_answer (refused_with i)) (sym (refusal_is r)))
        ∙ ap (λ (i : ℕ). fresh_reply (fresh_by i document title)) e

  -- a fresh card is one that no call was made on
  pub fresh-left : Left (fresh_reply (fresh_card document title)).card
  unfolding fresh_reply card_after
  fresh-left = record { title = title; calls = []; is = refl }

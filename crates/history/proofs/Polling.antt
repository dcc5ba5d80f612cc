-- Of polling: what was last handed out says the system interval, unless one of the two commands is due; and which of them may be due.
-- Assumes nothing.
use Prim.Native.Nat.{ℕ}
use mathlib.Core.Path.{◌≡◌, refl, ap, subst, ◌∙◌}
use mathlib.Core.Bool.{Bool, true, false, not, ◌&&◌}
use mathlib.Core.List.{List, [], ◌∷◌}
use borrow.Author.Tests.{eqb-true}
use Rattle.std.specs.Prelude.{if◌then◌else◌, ◌==◌}
use Rattle.lists.specs.Lists.{first}
use Rattle.lists.proofs.Decided.{clashing}
use Rattle.lists.proofs.Truth.{not-not}
use Rattle.rules.specs.Commands.{interval_bytes, off_bytes}
use Rattle.history.specs.Handed.{last_polling}
use Rattle.history.proofs.Types.{the-interval, the-off}

-- the command for an interval in seconds; POLLING OFF for none
unfoldable pub polling_for : (seconds : ℕ) → List ℕ
polling_for s = if s == 0 then off_bytes else interval_bytes s

-- THE INVARIANT, over the interval, the session, the two marks and the commands handed out since the profile. Only a session has a mark.
pub record PollingRight (seconds : ℕ) (session interval off : Bool) (commands : List (List ℕ)) : Type 0 where
  pub last : session ≡ true → interval ≡ false → off ≡ false → last_polling commands ≡ polling_for seconds
  pub interval-due : interval ≡ true → (session ≡ true) × ((seconds == 0) ≡ false)
  pub off-due : off ≡ true → (session ≡ true) × ((seconds == 0) ≡ true)

module _ (n : ℕ) (session interval off : Bool) (k : List (List ℕ)) (r : PollingRight n session interval off k) where
  -- NEVER ARE BOTH DUE
  pub never_both : (interval && off) ≡ false
  never_both = go interval off refl refl
    where
      go : (a b : Bool) → interval ≡ a → off ≡ b → (a && b) ≡ false
      go true true p q = clashing (r.off-due q).1 (r.interval-due p).1
      go true false p q = refl
      go false b p q = refl

  -- a command of another kind, or none, is handed out
  pub polling-passed : (c : List ℕ) → last_polling (c ∷ k) ≡ last_polling k → PollingRight n session interval off (c ∷ k)
  polling-passed c e = record { last = λ s p q. e ∙ r.last s p q; interval-due = r.interval-due; off-due = r.off-due }

  -- POLL INTERVAL is handed out, or POLLING OFF
  pub interval-handed : interval ≡ true → PollingRight n session false off (interval_bytes n ∷ k)
  unfolding polling_for
  interval-handed e = record { last = λ s p q. the-interval k n ∙ rw (r.interval-due e).1 refl; interval-due = λ p. clashing p refl; off-due = r.off-due }

  pub off-handed : off ≡ true → PollingRight n session interval false (off_bytes ∷ k)
  unfolding polling_for
  off-handed e = record { last = λ s p q. the-off k ∙ rw (r.off-due e).1 refl; interval-due = r.interval-due; off-due = λ p. clashing p refl }

  -- in a session the interval becomes another, or stays
  pub interval-changed : session ≡ true → (m : ℕ)
      → PollingRight m session (if not (n == m) then not (m == 0) else interval) (if not (n == m) then not (not (m == 0)) else off) k
  interval-changed s m = go (n == m) refl
    where
      go : (b : Bool) → (n == m) ≡ b → PollingRight m session (if not b then not (m == 0) else interval) (if not b then not (not (m == 0)) else off) k
      go true e = subst (λ (z : ℕ). PollingRight z session interval off k) (eqb-true n m e) r
      go false e =
          record {
            last = λ s p q. clashing (ap not p) q;
            interval-due = λ p. (s, not-not (m == 0) ∙ ap not p);
            off-due = λ p. (s, not-not (m == 0) ∙ p);
          }

  -- outside a session nobody is told
  pub interval-unseen : session ≡ false → (m : ℕ) → PollingRight m session interval off k
  interval-unseen e m = record { last = λ s p q. clashing s e; interval-due = λ p. clashing (r.interval-due p).0 e; off-due = λ p. clashing (r.off-due p).0 e }

-- before a session nothing of it is due
pub polling-unbegun : (n : ℕ) → PollingRight n false false false []
polling-unbegun n = record { last = λ s p q. clashing s refl; interval-due = λ p. clashing p refl; off-due = λ p. clashing p refl }

-- a session begins: nothing is handed out since, and POLL INTERVAL is due if there is an interval
pub polling-begun : (n : ℕ) → PollingRight n true (not (n == 0)) false []
unfolding last_polling first polling_for
polling-begun n =
    record {
      last = λ s p q. rw (not-not (n == 0) ∙ ap not p) refl;
      interval-due = λ p. (refl, not-not (n == 0) ∙ ap not p);
      off-due = λ p. clashing p refl;
    }

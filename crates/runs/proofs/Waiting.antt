-- Every call keeps the round sound; and whom a next names.
-- Assumes nothing.
use Prim.Native.Nat.{ℕ, ◌≤◌}
use native.Mathlib.Omega.{arith}
use mathlib.Core.Path.{◌≡◌, refl, sym, ap}
use mathlib.Core.Bool.{not}
use mathlib.Core.List.{List, [], ◌∷◌, map}
use lib.ListN.{take, get_or}
use borrow.Author.Tests.{ne_eqb}
use Rattle.std.specs.Prelude.{if◌then◌else◌, ◌==◌}
use Rattle.lists.specs.Lists.{Every, some?, keep, in?}
use Rattle.lists.proofs.Decided.{clashing}
use Rattle.lists.proofs.Every.{every-so, every_map, every-keep}
use Rattle.lists.proofs.Keep.{keep-none}
use Rattle.lists.proofs.Chosen.{chosen, chosen-again}
use Rattle.rules.specs.Holds.{Applet, Bounds, Tables, Arrival, Round, Model, no_round}
use Rattle.rules.specs.Applets.{numbers, in_order}
use Rattle.rules.specs.Calls.{Call, admin, event, entry, timer, arrival, next, proactive, system_command, install, delete, lock, unlock}
use Rattle.rules.specs.Rounds.{opened, without, turns, named, round_with}
use Rattle.rules.specs.Step.{admin_round, round_after}
use Rattle.rules.proofs.Listed.{every-in_order}
use Rattle.runs.specs.Sound.{SoundTables, SoundRound}

pub none-sound : (b : Bounds) → SoundRound b no_round
unfolding in? some?
none-sound b = record { closed = λ e. refl; waiting = sym (keep-none _ (λ n. refl) (numbers b)) }

opened-sound : (t : Tables) (a : Arrival) → SoundRound t.bounds (opened t a)
unfolding opened
opened-sound t a = record { closed = λ e. clashing refl e; waiting = chosen _ (numbers t.bounds) }

without-sound : (b : Bounds) (n : ℕ) (r : Round) → SoundRound b r → SoundRound b (without n r)
unfolding keep
without-sound b n r s =
    record {
      closed = λ e. ap (without n) (s.closed e);
      waiting = chosen-again (λ k. not (k == n)) (numbers b) s.waiting;
    }

turn-sound : (b : Bounds) (l : List ℕ) (r : Round) → SoundRound b r → SoundRound b (round_with l r)
unfolding round_with
turn-sound b [] r s = none-sound b
turn-sound b (n ∷ l) r s = without-sound b n r s

pub round-sound : (m : Model) (c : Call) → SoundRound m.tables.bounds m.round → SoundRound m.tables.bounds (round_after m c)
unfolding round_after admin_round
round-sound m (admin (install n r)) s = s
round-sound m (admin (delete n)) s = without-sound _ n m.round s
round-sound m (admin (lock n)) s = s
round-sound m (admin (unlock n)) s = s
round-sound m (event c) s = s
round-sound m (entry c) s = s
round-sound m (timer c) s = s
round-sound m (arrival c) s = opened-sound m.tables _
round-sound m next s = turn-sound _ (named m.tables m.round) m.round s
round-sound m (proactive c) s = s
round-sound m (system_command buffer) s = s

-- Whom a next names: one whose number is not 0, or nobody.
pub one-called : (t : Tables) → SoundTables t → (r : Round) → (if get_or (named t r) 0 0 == 0 then [] else get_or (named t r) 0 0 ∷ []) ≡ named t r
unfolding named turns
one-called t s r =
    go (map (λ (x : Applet). x.number) (in_order (keep _ t.applets)))
    (every_map (λ n. 1 ≤ n) (λ (x : Applet). x.number) _
    (every-in_order (λ (x : Applet). 1 ≤ x.number) _
    (every-so _ (λ (x : Applet). 1 ≤ x.number) (λ x h. h.0) _
    (every-keep (λ (x : Applet). 1 ≤ x.number) _ t.applets (every-so _ (λ (x : Applet). 1 ≤ x.number) (λ x h. h.number-from) t.applets s.each-applet)))))
  where
    go : (l : List ℕ) → Every (λ n. 1 ≤ n) l → (if get_or (take 1 l) 0 0 == 0 then [] else get_or (take 1 l) 0 0 ∷ []) ≡ take 1 l
    go [] e = refl
    go (n ∷ l) e = unfold Every in rw (ne_eqb n 0 (λ z. omega (arith, e.0))) refl

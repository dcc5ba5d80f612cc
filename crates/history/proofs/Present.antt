-- Which applets are there, which are selectable, their priorities and the order of their installation: as the history names it.
-- Assumes nothing.
use Prim.Native.Nat.{ℕ}
use mathlib.Core.Path.{◌≡◌, refl, sym, ap, subst, ◌∙◌}
use mathlib.Core.Bool.{Bool, true, false, not, ◌||◌}
use mathlib.Core.List.{List, [], ◌∷◌, map}
use Rattle.std.specs.Prelude.{if◌then◌else◌, ◌==◌}
use Rattle.lists.specs.Lists.{Every, Ordered, some?, keep, first, change}
use Rattle.lists.proofs.Decided.{same, turned}
use Rattle.lists.proofs.Every.{every-so, every_append, every-keep, every_map, every-fails}
use Rattle.lists.proofs.Times.{if-map}
use Rattle.lists.proofs.Mapped.{map-append, map-keep}
use Rattle.lists.proofs.Keyed.{some_more, some-less, first-less, some-keys, keys-change}
use Rattle.lists.proofs.Order.{ordered-keep, ordered-snoc, ordered-imply, every-zip, every-changes}
use Rattle.rules.specs.Holds.{Applet, with_selectable}
use Rattle.rules.specs.Applets.{has_number, nobody, present, applet, newcomer}
use Rattle.rules.specs.Calls.{admin, event, entry, timer, arrival, next, proactive, system_command, install, delete, lock, unlock, allocate, release}
use Rattle.rules.specs.Refusals.{admin_lines, lines}
use Rattle.rules.specs.Step.{admin_tables, timer_tables, tables_after}
use Rattle.runs.proofs.Accepted.{accepted as none-holds}
use Rattle.runs.proofs.Filled.{is-here}
use Rattle.runs.proofs.Filled as filled
use Rattle.history.specs.Histories.{History}
use Rattle.history.specs.Named.{is_present, is_selectable, priority_of, is_later}
use Rattle.history.proofs.Open.{reading}
use Rattle.history.proofs.Agree.{number_of, Kept}
use Rattle.history.proofs.Applets.{with-more, with-changed, registered-kept, event-kept, entry_kept, registered-each, event-each, entry-each, registered-numbers, event-numbers, entry-numbers, at_turn}

-- the numbers settle who is present
pub presence-kept : Kept (λ t h. (n : ℕ) → present t n ≡ is_present n h)
unfolding tables_after admin_tables timer_tables present is_present newcomer reading
presence-kept m h (admin (install b r)) ok s g n =
    some_more number_of nobody n m.tables.applets (newcomer b r)
    ∙ ap (λ (x : Bool). if b == n then true else x) (g.presence n)
presence-kept m h (admin (delete b)) ok s g n =
    some-less number_of nobody n b m.tables.applets
    ∙ ap (λ (x : Bool). if b == n then false else x) (g.presence n)
presence-kept m h (admin (lock b)) ok s g n =
    some-keys number_of n _ m.tables.applets (keys-change number_of nobody (with_selectable false) (λ x. refl) (has_number b) m.tables.applets)
    ∙ g.presence n
presence-kept m h (admin (unlock b)) ok s g n =
    some-keys number_of n _ m.tables.applets (keys-change number_of nobody (with_selectable true) (λ x. refl) (has_number b) m.tables.applets)
    ∙ g.presence n
presence-kept m h (event c) ok s g n = some-keys number_of n _ m.tables.applets (event-numbers m.tables c) ∙ g.presence n
presence-kept m h (entry c) ok s g n = some-keys number_of n _ m.tables.applets (entry-numbers m.tables c) ∙ g.presence n
presence-kept m h (timer (allocate b)) ok s g n = g.presence n
presence-kept m h (timer (release b k)) ok s g n = g.presence n
presence-kept m h (arrival c) ok s g n = g.presence n
presence-kept m h next ok s g n =
    at_turn (λ u. present u n ≡ is_present n h) m.tables m.round (g.presence n) (λ b there. some-keys number_of n _ m.tables.applets (registered-numbers m.tables b _ false) ∙ g.presence n)
presence-kept m h (proactive c) ok s g n = g.presence n
presence-kept m h (system_command buffer) ok s g n = g.presence n

-- the entry says only the first of two
pub or-none : {A : Type 0} (b : Bool) (x y : A) → (if b || false then x else y) ≡ (if b then x else y)
or-none true x y = refl
or-none false x y = refl

-- the mark that the history names, where the entry decides it for applet b
decided : (b n : ℕ) {x y : Bool} (v : Bool) → x ≡ y → (if b == n then v else x) ≡ (if b == n then v else y)
decided b n v e = ap (λ (z : Bool). if b == n then v else z) e

locked : (l : List Applet) (b n : ℕ) (v : Bool) → some? (has_number b) l ≡ true
    → (first (has_number n) nobody (change (has_number b) (with_selectable v) l)).selectable ≡ (if b == n then v else (first (has_number n) nobody l).selectable)
locked l b n v h =
    ap (λ (x : Applet). x.selectable) (with-changed l (with_selectable v) (λ x. refl) b n h)
    ∙ if-map (λ (x : Applet). x.selectable) (b == n) _ _

pub selectability-kept : Kept (λ t h. (n : ℕ) → (applet t n).selectable ≡ is_selectable n h)
unfolding tables_after admin_tables timer_tables applet present newcomer is_selectable admin_lines lines Every reading
selectability-kept m h (admin (install b r)) ok s g n =
    ap (λ (x : Applet). x.selectable) (with-more m.tables b r n (filled.installs m b r ok).new)
    ∙ if-map (λ (x : Applet). x.selectable) (b == n) (newcomer b r) (applet m.tables n)
    ∙ decided b n true (g.selectability n)
    ∙ sym (or-none (b == n) true (is_selectable n h))
selectability-kept m h (admin (delete b)) ok s g n =
    ap (λ (x : Applet). x.selectable) (first-less number_of nobody n b m.tables.applets)
    ∙ if-map (λ (x : Applet). x.selectable) (b == n) nobody (applet m.tables n)
    ∙ decided b n false (g.selectability n)
selectability-kept m h (admin (lock b)) ok s g n =
    locked m.tables.applets b n false (is-here m.tables b (none-holds m (admin (lock b)) ok).0)
    ∙ decided b n false (g.selectability n)
    ∙ sym (or-none (b == n) false (is_selectable n h))
selectability-kept m h (admin (unlock b)) ok s g n =
    locked m.tables.applets b n true (is-here m.tables b (none-holds m (admin (unlock b)) ok).0)
    ∙ decided b n true (g.selectability n)
selectability-kept m h (event c) ok s g n = event-kept (λ x. x.selectable) (λ e v x. refl) (λ d x. refl) m n c ok ∙ g.selectability n
selectability-kept m h (entry c) ok s g n = entry_kept (λ x. x.selectable) (λ x. refl) m n c ok ∙ g.selectability n
selectability-kept m h (timer (allocate b)) ok s g n = g.selectability n
selectability-kept m h (timer (release b k)) ok s g n = g.selectability n
selectability-kept m h (arrival c) ok s g n = g.selectability n
selectability-kept m h next ok s g n =
    at_turn (λ u. (applet u n).selectable ≡ is_selectable n h) m.tables m.round (g.selectability n) (λ b there. registered-kept (λ x. x.selectable) (λ e v x. refl) m.tables b n _ false there ∙ g.selectability n)
selectability-kept m h (proactive c) ok s g n = g.selectability n
selectability-kept m h (system_command buffer) ok s g n = g.selectability n

-- each applet has the priority that the history names
abbrev pub Ranked : History → Applet → Type 0
Ranked h x = x.priority ≡ priority_of x.number h

pub priorities-kept : Kept (λ t h. Every (Ranked h) t.applets)
unfolding tables_after admin_tables timer_tables present newcomer priority_of Every reading
priorities-kept m h (admin (install b r)) ok s g =
    every_append _ m.tables.applets _
    (every-zip (Ranked h) (λ x. has_number b x ≡ false) _ (λ x p q. p ∙ rw (turned b x.number, q) refl) m.tables.applets g.priorities (every-fails (has_number b) m.tables.applets (filled.installs m b r ok).new))
    (rw (same b) refl, tt)
priorities-kept m h (admin (delete b)) ok s g = every-so _ (Ranked h) (λ x p. p.0) (keep (λ x. not (has_number b x)) m.tables.applets) (every-keep (Ranked h) _ m.tables.applets g.priorities)
priorities-kept m h (admin (lock b)) ok s g = every-changes (Ranked h) (has_number b) (with_selectable false) (λ x p. p) m.tables.applets g.priorities
priorities-kept m h (admin (unlock b)) ok s g = every-changes (Ranked h) (has_number b) (with_selectable true) (λ x p. p) m.tables.applets g.priorities
priorities-kept m h (event c) ok s g = event-each (Ranked h) (λ e v x p. p) (λ d x p. p) m.tables c g.priorities
priorities-kept m h (entry c) ok s g = entry-each (Ranked h) (λ x p. p) m.tables c g.priorities
priorities-kept m h (timer (allocate b)) ok s g = g.priorities
priorities-kept m h (timer (release b k)) ok s g = g.priorities
priorities-kept m h (arrival c) ok s g = g.priorities
priorities-kept m h next ok s g =
    at_turn (λ u. Every (Ranked h) u.applets) m.tables m.round g.priorities (λ b there. registered-each (Ranked h) (λ e v x p. p) m.tables b _ false g.priorities)
priorities-kept m h (proactive c) ok s g = g.priorities
priorities-kept m h (system_command buffer) ok s g = g.priorities

-- in the order of installation
abbrev Older : History → ℕ → ℕ → Type 0
Older h n k = is_later k n h ≡ true

same-order : (h : History) {l k : List ℕ} → k ≡ l → Ordered (Older h) l → Ordered (Older h) k
same-order h e o = subst (Ordered (Older h)) (sym e) o

pub order-kept : Kept (λ t h. Ordered (Older h) (map number_of t.applets))
unfolding tables_after admin_tables timer_tables present newcomer is_later reading
order-kept m h (admin (install b r)) ok s g =
    subst (Ordered _) (sym (map-append number_of m.tables.applets (newcomer b r ∷ [])))
    (ordered-snoc _ (map number_of m.tables.applets) b
    (ordered-imply (Older h) _ (λ n. (b == n) ≡ false) (λ n k p q o. rw (p, q) o) (map number_of m.tables.applets) others g.order)
    (every-so (λ n. (b == n) ≡ false) _ (λ n p. rw (p, same b) refl) (map number_of m.tables.applets) others))
  where
    others : Every (λ n. (b == n) ≡ false) (map number_of m.tables.applets)
    others =
        every_map (λ n. (b == n) ≡ false) number_of m.tables.applets
        (every-so (λ x. has_number b x ≡ false) _ (λ x q. turned b x.number ∙ q) m.tables.applets (every-fails (has_number b) m.tables.applets (filled.installs m b r ok).new))
order-kept m h (admin (delete b)) ok s g =
    subst (Ordered (Older h)) (sym (map-keep number_of (λ n. not (n == b)) m.tables.applets)) (ordered-keep (Older h) (λ n. not (n == b)) (map number_of m.tables.applets) g.order)
order-kept m h (admin (lock b)) ok s g = same-order h (keys-change number_of nobody (with_selectable false) (λ x. refl) (has_number b) m.tables.applets) g.order
order-kept m h (admin (unlock b)) ok s g = same-order h (keys-change number_of nobody (with_selectable true) (λ x. refl) (has_number b) m.tables.applets) g.order
order-kept m h (event c) ok s g = same-order h (event-numbers m.tables c) g.order
order-kept m h (entry c) ok s g = same-order h (entry-numbers m.tables c) g.order
order-kept m h (timer (allocate b)) ok s g = g.order
order-kept m h (timer (release b k)) ok s g = g.order
order-kept m h (arrival c) ok s g = g.order
order-kept m h next ok s g =
    at_turn (λ u. Ordered (Older h) (map number_of u.applets)) m.tables m.round g.order (λ b there. same-order h (registered-numbers m.tables b _ false) g.order)
order-kept m h (proactive c) ok s g = g.order
order-kept m h (system_command buffer) ok s g = g.order

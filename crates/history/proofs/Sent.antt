-- A send of a menu command, an event list or a command for polling is refused: by its type, if its bytes are not refused before.
-- Assumes nothing.
use Prim.Native.Nat.{ℕ, suc, ◌+◌}
use native.Mathlib.Omega.{arith}
use mathlib.Core.Path.{◌≡◌, refl, sym, ap, ◌∙◌}
use mathlib.Core.Logic.{◌⊎◌, inl, inr}
use mathlib.Core.Bool.{Bool, true, false, ◌||◌}
use mathlib.Core.List.{List, [], ◌∷◌, ◌++◌}
use lib.ListN.{length, drop}
use lib.Dec.{eqb-suc-zero}
use borrow.Author.Tests.{le-leb, lt-leb}
use Rattle.lists.specs.Tests.{◌<?◌, ◌≤?◌}
use Rattle.std.specs.Prelude.{Option, Some, Result, Ok, Err, if◌then◌else◌, ◌==◌}
use Rattle.lists.specs.Lists.{Every, some?, keep, in?}
use Rattle.lists.proofs.Decided.{clashing, refuted}
use Rattle.rules.specs.declared.Malformed.{Malformed}
use Rattle.rules.specs.declared.Command.{Command}
use Rattle.rules.specs.declared.Element.{Element}
use Rattle.rules.specs.declared.Outer.{Outer}
use Rattle.rules.specs.Holds.{Model, document}
use Rattle.rules.specs.Bytes.{malformed, byte, tag_size, tag_number, long_length, length_at, valued, element_by, element_at, run_on, run_by, run_at, is_run, first_value, occurring, found, rest, outer_by, outer_of}
use Rattle.rules.specs.Envelopes.{with_byte, type_in, of_type, command_by, with_outer, command_of, bad_command, system_type}
use Rattle.rules.specs.Commands.{length_bytes, command_bytes, detail_bytes, is_menu}
use Rattle.rules.specs.Calls.{proactive, send}
use Rattle.rules.specs.Refusals.{proactive_lines, lines, refusal}
use Rattle.runs.proofs.Accepted.{accepted}
use Rattle.history.specs.Handed.{is_event_list, is_polling}
use Rattle.history.proofs.Types.{Typed, is-menu, is-list, is-polling}

-- refused for what it says
abbrev barred : Result Command Malformed → Bool
barred c = bad_command c || system_type c

-- a command whose value says so, behind a length of one byte or two
behind : (v s : List ℕ) (b : ℕ) → barred (command_by 0xD0 v) ≡ true → byte s 0 ≡ 0xD0 → rest s b ≡ v
    → barred (with_outer s (outer_by s (Ok (record { len = length v; next = b }))) command_by) ≡ true
unfolding outer_by with_outer
behind v s b k e f = go (b + length v == length s) (is_run (rest s b))
  where
    go : (x y : Bool) → barred (with_outer s (if x then if y then Ok (record { tag = byte s 0; start = b }) else Err malformed else Err malformed) command_by) ≡ true
    go true true = rw (e, f) k
    go true false = refl
    go false y = refl

short : (v : List ℕ) → (length v <? 0x80) ≡ true → outer_of (0xD0 ∷ length v ∷ v) ≡ outer_by (0xD0 ∷ length v ∷ v) (Ok (record { len = length v; next = 2 }))
unfolding outer_of length_at
short v e =
    let z : (length (0xD0 ∷ length v ∷ v) == 0) ≡ false = eqb-suc-zero (suc (length v)) in
    let a : (length (0xD0 ∷ length v ∷ v) ≤? 1) ≡ false = lt-leb (suc (suc (length v))) 1 (omega arith) in
    rw (z, a, e) refl

long : (v : List ℕ) → (length v <? 0x80) ≡ false
    → outer_of (0xD0 ∷ 0x81 ∷ length v ∷ v) ≡ outer_by (0xD0 ∷ 0x81 ∷ length v ∷ v) (Ok (record { len = length v; next = 3 }))
unfolding outer_of length_at long_length
long v e =
    let z : (length (0xD0 ∷ 0x81 ∷ length v ∷ v) == 0) ≡ false = eqb-suc-zero (suc (suc (length v))) in
    let a : (length (0xD0 ∷ 0x81 ∷ length v ∷ v) ≤? 1) ≡ false = lt-leb (suc (suc (suc (length v)))) 1 (omega arith) in
    let b : (length (0xD0 ∷ 0x81 ∷ length v ∷ v) ≤? (1 + 1)) ≡ false = lt-leb (suc (suc (suc (length v)))) 2 (omega arith) in
    rw (z, a, b, e) refl

said : (v : List ℕ) → barred (command_by 0xD0 v) ≡ true → barred (command_of (command_bytes v)) ≡ true
unfolding command_of command_bytes length_bytes
said v k = go (length v <? 0x80) refl
  where
    go : (b : Bool) → (length v <? 0x80) ≡ b → barred (command_of (0xD0 ∷ (if b then length v ∷ [] else 0x81 ∷ length v ∷ []) ++ v)) ≡ true
    go true e = ap (λ (o : Result Outer Malformed). barred (with_outer (0xD0 ∷ length v ∷ v) o command_by)) (short v e) ∙ behind v (0xD0 ∷ length v ∷ v) 2 k refl refl
    go false e = ap (λ (o : Result Outer Malformed). barred (with_outer (0xD0 ∷ 0x81 ∷ length v ∷ v) o command_by)) (long v e) ∙ behind v (0xD0 ∷ 0x81 ∷ length v ∷ v) 3 k refl refl

-- the details stand first in the value, and say the type
details : (n type q : ℕ) (l : List ℕ) → element_at (0x81 ∷ 0x03 ∷ n ∷ type ∷ q ∷ l) 0 ≡ Ok (Some (record { number = 0x01; start = 2; len = 3; next = 5 }))
unfolding element_at element_by tag_size in? some? tag_number length_at valued
details n type q l =
    let a : (length (0x81 ∷ 0x03 ∷ n ∷ type ∷ q ∷ l) ≤? 0) ≡ false = lt-leb (suc (suc (suc (suc (suc (length l)))))) 0 (omega arith) in
    let b : (length (0x81 ∷ 0x03 ∷ n ∷ type ∷ q ∷ l) ≤? 1) ≡ false = lt-leb (suc (suc (suc (suc (suc (length l)))))) 1 (omega arith) in
    let c : (5 ≤? length (0x81 ∷ 0x03 ∷ n ∷ type ∷ q ∷ l)) ≡ true = le-leb 5 (suc (suc (suc (suc (suc (length l)))))) (omega arith) in
    rw (a, b, c) refl

typed : (n type q : ℕ) (l : List ℕ)
    → type_in (0x81 ∷ 0x03 ∷ n ∷ type ∷ q ∷ l) (found (0x81 ∷ 0x03 ∷ n ∷ type ∷ q ∷ l) 0x01 1) ≡ Ok type
unfolding found run_at run_by keep first_value occurring type_in
typed n type q l =
    let v : List ℕ = 0x81 ∷ 0x03 ∷ n ∷ type ∷ q ∷ l in
    ap (λ (e : Result (Option Element) Malformed). type_in v (occurring 0x01 1 (run_on e (λ next. run_by (length v) v next)).elements)) (details n type q l)

barred-by-type : (type : ℕ) → ((v : List ℕ) → barred (of_type v type) ≡ true) → (s : List ℕ) → Typed type s → barred (command_of s) ≡ true
unfolding detail_bytes with_byte command_by
barred-by-type type k s x =
    let v : List ℕ = detail_bytes type x.qualifier ++ x.rest in
    ap (λ (z : List ℕ). barred (command_of z)) (sym x.written)
    ∙ said v (ap (λ (b : Result ℕ Malformed). barred (with_byte b (of_type v))) (typed 0x01 type x.qualifier (drop 5 v)) ∙ k v)

module _ (m : Model) (n : ℕ) (bytes : List ℕ) (ok : refusal m (proactive (send n bytes)) ≡ 0) where
  not-barred : barred (command_of bytes) ≡ false
  unfolding lines proactive_lines Every
  not-barred =
      let h = accepted m (proactive (send n bytes)) ok in
      ap (λ (b : Bool). b || system_type (command_of bytes)) h.0 ∙ h.1.1.1.1.0

  not-typed : (type : ℕ) → ((v : List ℕ) → barred (of_type v type) ≡ true) → Typed type bytes → ⊥
  not-typed type k x = clashing (barred-by-type type k bytes x) not-barred

  pub sends-no-menu : is_menu document bytes ≡ false
  unfolding of_type system_type in? some?
  sends-no-menu = refuted (is_menu document bytes) (λ e. not-typed 0x25 (λ v. refl) (is-menu bytes e))

  pub sends-no-list : is_event_list bytes ≡ false
  unfolding of_type system_type in? some?
  sends-no-list = refuted (is_event_list bytes) (λ e. not-typed 0x05 (λ v. refl) (is-list bytes e))

  pub sends-no-polling : is_polling bytes ≡ false
  unfolding of_type system_type in? some?
  sends-no-polling = refuted (is_polling bytes) (λ e. go (is-polling bytes e))
    where
      go : Typed 0x04 bytes ⊎ Typed 0x03 bytes → ⊥
      go (inl x) = not-typed 0x04 (λ v. refl) x
      go (inr x) = not-typed 0x03 (λ v. refl) x

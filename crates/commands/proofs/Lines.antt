-- The bytes of rows, row by row, and how many a command has.
-- Assumes nothing.
use Prim.Native.Nat.{ℕ, zero, suc, ◌+◌, ◌*◌, ◌≤◌, ◌<◌}
use native.Mathlib.Omega.{arith}
use mathlib.Core.Path.{◌≡◌, refl, sym, ap, ◌∙◌}
use mathlib.Core.Bool.{Bool, true, false, ◌||◌}
use mathlib.Core.List.{List, [], ◌∷◌, ◌++◌, map, append_assoc, append-nil}
use lib.ListN.{length, take, get_or, length-append, length-take, get_or-map}
use lib.Seq.{take_all, get_or-take}
use borrow.Author.Tests.{eqb-true, eqb-false}
use Rattle.std.specs.Prelude.{if◌then◌else◌, ◌==◌}
use Rattle.lists.specs.Lists.{Every, some?, keep, gather, empty?}
use Rattle.lists.proofs.Truth.{or-false}
use Rattle.lists.proofs.Every.{every-so, every-keep}
use Rattle.lists.proofs.Firsts.{some-append}
use Rattle.lists.proofs.Keep.{keep-yes, keep-no, length-keep}
use Rattle.lists.proofs.Padded.{take-padded, get-padded, length-padded, get_d_any}
use Rattle.lists.proofs.Mapped.{map-length, map-append}
use Rattle.rules.specs.declared.Row as held
use Rattle.rules.specs.declared.Rows.{Rows}
use Rattle.rules.specs.Holds.{Row}
use Rattle.rules.specs.Held.{view_row, stored_row, no_row, view_rows, TidyRows}
use Rattle.rules.specs.Commands.{Item, item_bytes, items_bytes}
use Rattle.menu.proofs.Tidy.{blank, long, at-is, count-is, row_back}
use Rattle.menu_shown.specs.Chosen.{is_shown}
use Rattle.commands.specs.Fits.{item_of, items_of, rows_bytes, Short, Fits, shown_of}

-- P holds at each place of the list
every-at : {A : Type 0} (P : A → Type 0) (l : List A) (i : ℕ) (d : A) → i < length l → Every P l → P (get_or l i d)
unfolding Every
every-at P [] i d h a = absurd (omega arith)
every-at P (x ∷ l) zero d h a = a.0
every-at P (x ∷ l) (suc i) d h a = every-at P l i d (omega arith) a.1

gather_append : {A B : Type 0} (f : A → List B) (l k : List A) → gather f (l ++ k) ≡ gather f l ++ gather f k
unfolding gather
gather_append f [] k = refl
gather_append f (x ∷ l) k = ap (λ (r : List _). f x ++ r) (gather_append f l k) ∙ sym (append_assoc (f x) (gather f l) (gather f k))

-- the bytes of one row more
rows_snoc : (l : List Row) (r : Row) → rows_bytes (l ++ r ∷ []) ≡ rows_bytes l ++ item_bytes (item_of r)
unfolding rows_bytes gather
rows_snoc l r = rw (map-append item_of l (r ∷ []), gather_append item_bytes (items_of l) (item_of r ∷ [])) (ap (λ (k : List ℕ). gather item_bytes (items_of l) ++ k) (append-nil (item_bytes (item_of r))))

length-item : (x : Item) → length (item_bytes x) ≡ 3 + length x.text
unfolding item_bytes
length-item x = omega arith

-- those kept of the first i rows take no more than all that are kept, and a row at most 18 bytes
pub rows-part : (p : Row → Bool) (l : List Row) (i : ℕ) → length (rows_bytes (keep p (take i l))) ≤ length (rows_bytes (keep p l))
unfolding rows_bytes gather keep
rows-part p [] zero = omega arith
rows-part p [] (suc i) = omega arith
rows-part p (x ∷ l) zero = omega arith
rows-part p (x ∷ l) (suc i) = go (p x) (rows-part p l i)
  where
    go : (b : Bool) → length (rows_bytes (keep p (take i l))) ≤ length (rows_bytes (keep p l)) → length (rows_bytes (if b then x ∷ keep p (take i l) else keep p (take i l))) ≤ length (rows_bytes (if b then x ∷ keep p l else keep p l))
    go true h = omega (arith, length-append (item_bytes (item_of x)) (rows_bytes (keep p l)), length-append (item_bytes (item_of x)) (rows_bytes (keep p (take i l))))
    go false h = h

rows-most : (l : List Row) → Every Short l → length (rows_bytes l) ≤ 18 * length l
unfolding rows_bytes gather Every
rows-most [] a = omega arith
rows-most (x ∷ l) a = omega (arith, rows-most l a.1, length-append (item_bytes (item_of x)) (rows_bytes l), length-item (item_of x), a.0)

-- what a read behind the end of the array would give
abbrev pub no_held : held.Row
no_held = record { identifier = 0; owner = 0; help = false; enabled = false; text = []; len = 0 }

-- a row of the part of the array that counts
module _ (s : Rows) {part : List held.Row} (is : part ≡ take s.count s.at) where
  pub under : (i : ℕ) → i < length part → i < s.count
  under i h = omega (arith, ap length is, length-take s.count s.at, h)

  pub past : TidyRows s → (i : ℕ) → length part ≤ i → s.count ≤ i
  past t i h = omega (arith, ap length is, length-take s.count s.at, long s t, t.few, h)

  pub row-in : (i : ℕ) → i < length part → get_or part i no_held ≡ get_or s.at i no_held
  row-in i h = ap (λ (x : List held.Row). get_or x i no_held) is ∙ get_or-take s.count s.at i no_held (under i h)

-- rows in their one form: what stands at a place of the array
module _ (s : Rows) (fits : Fits s) where
  abbrev l : List Row
  l = view_rows s

  row_at : (i : ℕ) → i < s.count → get_or s.at i no_held ≡ stored_row (get_or l i no_row)
  row_at i h =
      let k : i < length (map stored_row l) = omega (arith, map-length stored_row l, count-is s fits.tidy) in
      ap (λ (x : List held.Row). get_or x i no_held) (at-is s fits.tidy)
      ∙ get-padded 12 blank (map stored_row l) i no_held k
      ∙ get_d_any (map stored_row l) i no_held (stored_row no_row) k
      ∙ get_or-map stored_row l i no_row

  short-at : (i : ℕ) → i < s.count → length (get_or l i no_row).text ≤ 15
  short-at i h = every-at Short l i no_row (omega (arith, count-is s fits.tidy)) fits.short

  pub len-at : (i : ℕ) → i < s.count → (get_or s.at i no_held).len ≤ 15
  unfolding stored_row
  len-at i h = rw (row_at i h) (short-at i h)

  pub text-length : (i : ℕ) → i < s.count → length (get_or s.at i no_held).text ≡ 15
  unfolding stored_row
  text-length i h = rw (row_at i h) (length-padded 15 0 (get_or l i no_row).text (short-at i h))

  -- the text that the code lends is as long as its length says
  pub text_at : (i : ℕ) → i < s.count → length (take (get_or s.at i no_held).len (get_or s.at i no_held).text) ≡ (get_or s.at i no_held).len
  unfolding stored_row
  text_at i h = rw (row_at i h) (ap length (take-padded 15 0 (get_or l i no_row).text))

  -- the rows that are shown, by a set
  module _ (set : ℕ) where
    abbrev done : ℕ → List Row
    done i = keep (is_shown set) (take i l)

    abbrev pub item_at : ℕ → Item
    item_at i = record { identifier = (get_or s.at i no_held).identifier; text = take (get_or s.at i no_held).len (get_or s.at i no_held).text }

    shown-at : (i : ℕ) {b : Bool} → i < s.count → is_shown set (view_row (get_or s.at i no_held)) ≡ b → is_shown set (get_or l i no_row) ≡ b
    shown-at i h e = ap (is_shown set) (sym (row_back (get_or l i no_row)) ∙ ap view_row (sym (row_at i h))) ∙ e

    within : (i : ℕ) → i < s.count → i < length l
    within i h = omega (arith, count-is s fits.tidy)

    done-yes : (i : ℕ) → i < s.count → is_shown set (view_row (get_or s.at i no_held)) ≡ true → done (i + 1) ≡ done i ++ (get_or l i no_row ∷ [])
    done-yes i h e = keep-yes (is_shown set) l i no_row (within i h) (shown-at i h e)

    -- one row more is looked at, and it is shown, or not
    pub rows_next : (i : ℕ) → i < s.count → is_shown set (view_row (get_or s.at i no_held)) ≡ true → rows_bytes (done (i + 1)) ≡ rows_bytes (done i) ++ item_bytes (item_at i)
    unfolding stored_row
    rows_next i h e = ap rows_bytes (done-yes i h e) ∙ rows_snoc (done i) (get_or l i no_row) ∙ rw (row_at i h, take-padded 15 0 (get_or l i no_row).text) refl

    pub rows_same : (i : ℕ) → i < s.count → is_shown set (view_row (get_or s.at i no_held)) ≡ false → done (i + 1) ≡ done i
    rows_same i h e = keep-no (is_shown set) l i no_row (within i h) (shown-at i h e)

    pub rows_step : (i : ℕ) → i < s.count → is_shown set (view_row (get_or s.at i no_held)) ≡ true → length (rows_bytes (done (i + 1))) ≡ length (rows_bytes (done i)) + (3 + (get_or s.at i no_held).len)
    rows_step i h e = omega (arith, ap length (rows_next i h e), length-append (rows_bytes (done i)) (item_bytes (item_at i)), length-item (item_at i), text_at i h)

    pub help-next : (i : ℕ) → i < s.count → is_shown set (view_row (get_or s.at i no_held)) ≡ true → some? (λ (r : Row). r.help) (done (i + 1)) ≡ (some? (λ (r : Row). r.help) (done i) || (get_or s.at i no_held).help)
    unfolding stored_row some?
    help-next i h e =
        ap (some? (λ (r : Row). r.help)) (done-yes i h e)
        ∙ some-append (λ (r : Row). r.help) (done i) (get_or l i no_row ∷ [])
        ∙ rw (row_at i h, or-false (get_or l i no_row).help) refl

    -- a loop that has measured the shown of the first i rows
    pub record Measured (i bytes : ℕ) (help : Bool) : Type 0 where
      pub size : bytes ≡ length (rows_bytes (done i))
      pub mark : help ≡ some? (λ (r : Row). r.help) (done i)

    pub measured-none : Measured 0 0 false
    unfolding rows_bytes gather keep some?
    measured-none = record { size = refl; mark = refl }

    pub measured-yes : (i : ℕ) {n : ℕ} {b : Bool} → i < s.count → is_shown set (view_row (get_or s.at i no_held)) ≡ true → Measured i n b → Measured (i + 1) (n + (3 + (get_or s.at i no_held).len)) (b || (get_or s.at i no_held).help)
    measured-yes i h e o =
        record { size = omega (arith, rows_step i h e, o.size); mark = ap (λ (x : Bool). x || (get_or s.at i no_held).help) o.mark ∙ sym (help-next i h e) }

    pub measured-no : (i : ℕ) {n : ℕ} {b : Bool} → i < s.count → is_shown set (view_row (get_or s.at i no_held)) ≡ false → Measured i n b → Measured (i + 1) n b
    measured-no i h e o = record { size = rw (rows_same i h e) o.size; mark = rw (rows_same i h e) o.mark }

    pub rows_whole : (i : ℕ) → s.count ≤ i → done i ≡ shown_of set s
    rows_whole i h = ap (keep (is_shown set)) (take_all i l (omega (arith, count-is s fits.tidy)))

    pub rows_under : length (rows_bytes (shown_of set s)) ≤ 216
    rows_under =
        omega (arith, rows-most (shown_of set s) (every-so _ _ (λ r q. q.0) (shown_of set s) (every-keep Short (is_shown set) l fits.short)), length-keep (is_shown set) l, count-is s fits.tidy, fits.tidy.few)

-- the items: none, or those of the rows
pub items-none : (l : List Row) → length (rows_bytes l) ≡ 0 → items_bytes (items_of l) ≡ 0x8F ∷ 0x00 ∷ []
unfolding items_bytes empty? rows_bytes gather
items-none [] e = refl
items-none (r ∷ l) e = absurd (omega (arith, length-append (item_bytes (item_of r)) (rows_bytes l), length-item (item_of r)))

pub items-some : (l : List Row) → (length (rows_bytes l) ≡ 0 → ⊥) → items_bytes (items_of l) ≡ rows_bytes l
unfolding items_bytes empty? rows_bytes gather
items-some [] e = absurd (e refl)
items-some (r ∷ l) e = refl

pub items-length : (l : List Row) → length (items_bytes (items_of l)) ≡ (if length (rows_bytes l) == 0 then 2 else length (rows_bytes l))
items-length l = go (length (rows_bytes l) == 0) refl
  where
    go : (b : Bool) → (length (rows_bytes l) == 0) ≡ b → length (items_bytes (items_of l)) ≡ (if b then 2 else length (rows_bytes l))
    go true e = ap length (items-none l (eqb-true (length (rows_bytes l)) 0 e))
    go false e = ap length (items-some l (eqb-false (length (rows_bytes l)) 0 e))

pub items-under : (l : List Row) → length (rows_bytes l) ≤ 216 → length (items_bytes (items_of l)) ≤ 216
items-under l h = go (length (rows_bytes l) == 0) refl
  where
    go : (b : Bool) → (length (rows_bytes l) == 0) ≡ b → length (items_bytes (items_of l)) ≤ 216
    go true e = omega (arith, ap length (items-none l (eqb-true (length (rows_bytes l)) 0 e)))
    go false e = omega (arith, ap length (items-some l (eqb-false (length (rows_bytes l)) 0 e)))

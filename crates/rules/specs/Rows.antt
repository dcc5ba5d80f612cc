-- Rows and identifiers (document 01, "Rows, identifiers, timers").
use Rattle.std.specs.Prelude.{ℕ, ◌+◌, ◌-◌, Bool, true, not, ◌&&◌, ◌||◌, List, length, get_or}
use Rattle.lists.specs.Tests.{◌<?◌, ◌≤?◌}
use Rattle.std.specs.Prelude.{if◌then◌else◌, ◌==◌}
use Rattle.lists.specs.Lists.{some?, keep, first, change, insert_at}
use Rattle.lists.specs.Tables.{table}
use Rattle.rules.specs.declared.Pair.{Pair}
use Rattle.rules.specs.Holds.{Applet, Row}
use Rattle.rules.specs.Applets.{entries}

-- the row has this identifier
abbrev pub has_identifier : ℕ → Row → Bool
has_identifier i r = r.identifier == i

-- the index of position p in a list of n rows: p from 1 to n shifts the rows from p on; 0, or more than n, means last
unfoldable pub place : (position rows : ℕ) → ℕ
place p n = if p == 0 then n else if n <? p then n else p - 1

-- a row has this identifier
unfoldable pub in_use : ℕ → List Row → Bool
in_use i rows = some? (has_identifier i) rows

-- the smallest of 128..255 not in use (255 if all were, but a card has fewer rows)
unfoldable pub smallest_free : List Row → ℕ
smallest_free rows = first (λ i. not (in_use i rows)) 255 (table 128 (λ k. 128 + k))

-- requested identifier 0 takes the smallest of 128..255 not in use
unfoldable pub identifier_for : (requested : ℕ) → List Row → ℕ
identifier_for requested rows = if requested == 0 then smallest_free rows else requested

abbrev pub no_pair : Pair
no_pair = record { position = 0; identifier = 0 }

-- a new entry takes the applet's next requested pair
unfoldable pub next_pair : Applet → Pair
next_pair x = get_or x.limits.pairs x.made no_pair

-- refusal 10: all the applet's entries are already made
unfoldable pub all_made : Applet → Bool
all_made x = entries x ≤? x.made

-- refusal 12: the text is empty or over the applet's limit
unfoldable pub bad_text : Applet → (text : List ℕ) → Bool
bad_text x text = length text == 0 || x.limits.text <? length text

-- the identifier of the row that the applet's next entry makes
unfoldable pub next_identifier : Applet → List Row → ℕ
next_identifier x rows = identifier_for (next_pair x).identifier rows

-- the rows with the applet's next entry
unfoldable pub with_entry : Applet → (help : Bool) (text : List ℕ) → List Row → List Row
with_entry x help text rows =
    insert_at (place (next_pair x).position (length rows))
    (record { identifier = next_identifier x rows; owner = x.number; text = text; help = help; enabled = true })
    rows

-- the row has this identifier, and is this applet's
abbrev pub its_row : (applet identifier : ℕ) → Row → Bool
its_row n i r = r.identifier == i && r.owner == n

-- refusal 11: the identifier is not a row of this applet
unfoldable pub not_its_row : (applet identifier : ℕ) → List Row → Bool
not_its_row n i rows = not (some? (its_row n i) rows)

-- change gives a row a new text and help mark
unfoldable pub with_text : (applet identifier : ℕ) (help : Bool) (text : List ℕ) → List Row → List Row
with_text n i help text rows =
    change (its_row n i)
    (λ (r : Row). record { identifier = r.identifier; owner = r.owner; text = text; help = help; enabled = r.enabled })
    rows

-- enable and disable
unfoldable pub with_enabled : (applet identifier : ℕ) → Bool → List Row → List Row
with_enabled n i b rows =
    change (its_row n i)
    (λ (r : Row). record { identifier = r.identifier; owner = r.owner; text = r.text; help = r.help; enabled = b })
    rows

-- deleting an applet removes its rows
unfoldable pub without_rows : (applet : ℕ) → List Row → List Row
without_rows n rows = keep (λ (r : Row). not (r.owner == n)) rows

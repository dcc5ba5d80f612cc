-- The place of an event in document 01's list, where a value names one.
use Rattle.std.specs.Prelude.{ℕ}
use Rattle.rules.specs.declared.Kind.{Kind}
use Rattle.rules.specs.declared.Kind.TheVariants.{Event, Issuer, Reserved, Unsupported}

-- the place of an event; 0 for what is none
unfoldable pub place_of : Kind → ℕ
place_of (Event e) = e
place_of Issuer = 0
place_of Reserved = 0
place_of Unsupported = 0

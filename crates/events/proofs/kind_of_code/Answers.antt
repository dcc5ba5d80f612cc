-- `events::kind_of_code` meets its contract: an arm computes, and `_` goes by the table.
-- Assumes nothing.
use mathlib.Core.Path.{sym, ap}
use mathlib.Core.List.{map}
use lib.IntN.{pos}
use mir.Syntax.{w8}
use Rattle.rules.specs.Events.{kind_of_code, codes, named, first_download}
use Rattle.events.proofs.Table.{missed}
use Rattle.events.proofs.kind_of_code.Goals as goal

pub returns-in-0 : goal.returns-in-0
unfolding kind_of_code named
returns-in-0 c = ap kind_of_code (sym c.in-0.is)

pub returns-in-1 : goal.returns-in-1
unfolding kind_of_code named
returns-in-1 c = ap kind_of_code (sym c.in-1.is)

pub returns-in-2 : goal.returns-in-2
unfolding kind_of_code named
returns-in-2 c = ap kind_of_code (sym c.in-2.is)

pub returns-in-3 : goal.returns-in-3
unfolding kind_of_code named
returns-in-3 c = ap kind_of_code (sym c.in-3.is)

pub returns-in-4 : goal.returns-in-4
unfolding kind_of_code named
returns-in-4 c = ap kind_of_code (sym c.in-4.is)

pub returns-in-5 : goal.returns-in-5
unfolding kind_of_code named
returns-in-5 c = ap kind_of_code (sym c.in-5.is)

pub returns-in-6 : goal.returns-in-6
unfolding kind_of_code named
returns-in-6 c = ap kind_of_code (sym c.in-6.is)

pub returns-in-7 : goal.returns-in-7
unfolding kind_of_code named
returns-in-7 c = ap kind_of_code (sym c.in-7.is)

pub returns-in-8 : goal.returns-in-8
unfolding kind_of_code named
returns-in-8 c = ap kind_of_code (sym c.in-8.is)

pub returns-in-11 : goal.returns-in-11
unfolding kind_of_code named
returns-in-11 c = ap kind_of_code (sym c.in-11.is)

pub returns-in-12 : goal.returns-in-12
unfolding kind_of_code named
returns-in-12 c = ap kind_of_code (sym c.in-12.is)

pub returns-in-14 : goal.returns-in-14
unfolding kind_of_code named
returns-in-14 c = ap kind_of_code (sym c.in-14.is)

pub returns-in-15 : goal.returns-in-15
unfolding kind_of_code named
returns-in-15 c = ap kind_of_code (sym c.in-15.is)

pub returns-in_default : goal.returns-in_default
unfolding kind_of_code codes named
returns-in_default c = sym (missed w8 (pos c.args.code) Unit first_download (map pos codes) c.in_default.in_default-own.rest)

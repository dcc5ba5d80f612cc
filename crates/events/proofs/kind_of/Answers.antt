-- `events::kind_of` meets its contract: an arm of one number computes, and the others go by the tests and the table.
-- Assumes nothing.
use mathlib.Core.Path.{sym, ap}
use mathlib.Core.Bool.{true, false}
use mathlib.Core.List.{map}
use lib.Signed.{lt_z}
use mir.Syntax.{w16}
use Rattle.lists.proofs.Signed.{tested}
use Rattle.rules.specs.Events.{supported, value_of, kind_of, named, minus}
use Rattle.events.proofs.Table.{of-bits, missed}
use Rattle.events.proofs.kind_of.Goals as goal

pub returns-in-1 : goal.returns-in-1
unfolding kind_of named
returns-in-1 c = ap kind_of (sym (of-bits w16 _ 1 c.ranges.value c.in-1.in-1-own.keys1))

pub returns-in-7 : goal.returns-in-7
unfolding kind_of named
returns-in-7 c = ap kind_of (sym (of-bits w16 _ 7 c.ranges.value c.in-7.in-7-own.keys2))

pub returns-in-8 : goal.returns-in-8
unfolding kind_of named
returns-in-8 c = ap kind_of (sym (of-bits w16 _ 8 c.ranges.value c.in-8.in-8-own.keys3))

pub returns-in-9 : goal.returns-in-9
unfolding kind_of named
returns-in-9 c = ap kind_of (sym (of-bits w16 _ 9 c.ranges.value c.in-9.in-9-own.keys4))

pub returns-in-11 : goal.returns-in-11
unfolding kind_of named
returns-in-11 c = ap kind_of (sym (of-bits w16 _ 11 c.ranges.value c.in-11.in-11-own.keys5))

pub returns-in-12 : goal.returns-in-12
unfolding kind_of named
returns-in-12 c = ap kind_of (sym (of-bits w16 _ 12 c.ranges.value c.in-12.in-12-own.keys6))

pub returns-in-13 : goal.returns-in-13
unfolding kind_of named
returns-in-13 c = ap kind_of (sym (of-bits w16 _ 13 c.ranges.value c.in-13.in-13-own.keys7))

pub returns-in-14 : goal.returns-in-14
unfolding kind_of named
returns-in-14 c = ap kind_of (sym (of-bits w16 _ 14 c.ranges.value c.in-14.in-14-own.keys8))

pub returns-in-15 : goal.returns-in-15
unfolding kind_of named
returns-in-15 c = ap kind_of (sym (of-bits w16 _ 15 c.ranges.value c.in-15.in-15-own.keys9))

pub returns-in-16 : goal.returns-in-16
unfolding kind_of named
returns-in-16 c = ap kind_of (sym (of-bits w16 _ 16 c.ranges.value c.in-16.in-16-own.keys10))

pub returns-in-17 : goal.returns-in-17
unfolding kind_of named
returns-in-17 c = ap kind_of (sym (of-bits w16 _ 17 c.ranges.value c.in-17.in-17-own.keys11))

pub returns-in-18 : goal.returns-in-18
unfolding kind_of named
returns-in-18 c = ap kind_of (sym (of-bits w16 _ 18 c.ranges.value c.in-18.in-18-own.keys12))

pub returns-in-20 : goal.returns-in-20
unfolding kind_of named
returns-in-20 c = ap kind_of (sym (of-bits w16 _ 20 c.ranges.value c.in-20.in-20-own.keys13))

pub returns-in-21 : goal.returns-in-21
unfolding kind_of named
returns-in-21 c = ap kind_of (sym (of-bits w16 _ 21 c.ranges.value c.in-21.in-21-own.keys14))

pub returns-in-25 : goal.returns-in-25
unfolding kind_of named
returns-in-25 c = ap kind_of (sym (of-bits w16 _ 25 c.ranges.value c.in-25.in-25-own.keys15))

pub returns-in-26 : goal.returns-in-26
unfolding kind_of named
returns-in-26 c = ap kind_of (sym (of-bits w16 _ 26 c.ranges.value c.in-26.in-26-own.keys16))

pub returns-in-28 : goal.returns-in-28
unfolding kind_of named
returns-in-28 c = ap kind_of (sym (of-bits w16 _ 28 c.ranges.value c.in-28.in-28-own.keys17))

pub returns-in-29 : goal.returns-in-29
unfolding kind_of named
returns-in-29 c = ap kind_of (sym (of-bits w16 _ 29 c.ranges.value c.in-29.in-29-own.keys18))

pub returns-in-minus1 : goal.returns-in-minus1
unfolding kind_of named
returns-in-minus1 c = ap kind_of (sym (of-bits w16 _ 65535 c.ranges.value c.in-minus1.in-minus1-own.keys19))

pub returns-in-123 : goal.returns-in-123
unfolding kind_of named
returns-in-123 c = ap kind_of (sym (of-bits w16 _ 123 c.ranges.value c.in-123.in-123-own.keys20))

pub returns-in-minus32768-to-minus129 : goal.returns-in-minus32768-to-minus129
unfolding kind_of
returns-in-minus32768-to-minus129 c = simp (tested w16 _ (λ v. lt_z v (minus 128)) true c.ranges.value c.in-minus32768-to-minus129.if-value-ltminus128-own.true)

pub returns-in-minus128-to-minus65 : goal.returns-in-minus128-to-minus65
unfolding kind_of
returns-in-minus128-to-minus65 c =
    let f = c.ranges.value in
    simp (tested w16 _ (λ v. lt_z v (minus 128)) false f c.in-minus128-to-minus65.if-value-ltminus128-own.false, tested w16 _ (λ v. lt_z v (minus 64)) true f c.in-minus128-to-minus65.if-value-ltminus64-own.true)

pub returns-in_default : goal.returns-in_default
unfolding kind_of named
returns-in_default c =
    let f = c.ranges.value in
    simp (tested w16 _ (λ v. lt_z v (minus 128)) false f c.in_default.if-value-ltminus128-own.false, tested w16 _ (λ v. lt_z v (minus 64)) false f c.in_default.if-value-ltminus64-own.false)
    (sym (missed w16 c.args.value Unit 0 (map value_of supported) c.in_default.in_default-own.rest))

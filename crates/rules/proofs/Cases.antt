-- Document 01's table of proved cases and its easy slips, and those of polling, rounds and tags, hold, by computation. Assumes nothing.
use mathlib.Core.Path.{refl}
use Rattle.rules.specs.Cases.{Cases, Slips, Polled, Rounds}
use Rattle.rules.specs.TagCases.{Tags}
use Rattle.rules.proofs.Compute.{compute}

pub cases : Cases
unfolding compute
cases =
    record {
      row-at-2 = refl;
      row-at-3 = refl;
      row-at-4 = refl;
      row-at-20 = refl;
      row-at-0 = refl;
      control-owned = refl;
      control-freed = refl;
      timer-between = refl;
      timer-in-bank = refl;
      timers-taken = refl;
      bank-taken = refl;
      third-of-four = refl;
      one-more-with-1 = refl;
      one-more-with-0 = refl;
      length-7F = refl;
      length-80 = refl;
      envelope-7F = refl;
      envelope-80 = refl;
      text-15 = refl;
      text-16 = refl;
    }

pub slips : Slips
unfolding compute
slips =
    record {
      equal-texts = refl;
      locked-rows-count = refl;
      locked-not-called = refl;
      one-shot-stays = refl;
      one-shot-used-up = refl;
    }

pub polled-cases : Polled
unfolding compute
polled-cases =
    record {
      taken-1 = refl;
      taken-15300 = refl;
      taken-choice = refl;
      refused-15301 = refl;
      refused-below = refl;
      absent-first = refl;
      none-not-smallest = refl;
      choice-is-none = refl;
      status-calls = refl;
      status-locked = refl;
      handed_out = refl;
      smallest-locked = refl;
      other-locked = refl;
      sharer-locked = refl;
      only-locked = refl;
      unlocked-again = refl;
      smallest-deleted = refl;
      only-deleted = refl;
      locked-request = refl;
      request-unlocked = refl;
      off-gone = refl;
      seconds-count = refl;
      same_bytes = refl;
      in-seconds = refl;
      in-minutes = refl;
      rounded-down = refl;
      the-longest = refl;
      interval-bytes = refl;
      off-bytes = refl;
    }

pub rounds-cases : Rounds
unfolding compute
rounds-cases =
    record {
      none_open = refl;
      empty-opens = refl;
      empty-next = refl;
      empty-ends = refl;
      settled-then = refl;
      last-named = refl;
      last-deleted = refl;
      settled-opens = refl;
      outstanding-first = refl;
      next-outstanding = refl;
      locked-waiting = refl;
      unlocked-late = refl;
      late = refl;
      regained = refl;
      lost = refl;
      installed-again = refl;
      enabled-both = refl;
      disabled-then = refl;
      disabled-before = refl;
      replaced = refl;
      refused-leaves = refl;
      not-as-it-opens = refl;
      used-at-its-turn = refl;
    }

pub tags-cases : Tags
unfolding compute
tags-cases =
    record {
      in-three-bytes = refl;
      flag-ignored = refl;
      another = refl;
      high_bits = refl;
      long-first = refl;
      short-second = refl;
      no_third = refl;
      find-90 = refl;
      find-FF = refl;
      find-7F = refl;
      find-7FFF = refl;
      find-8000 = refl;
      zero-element = refl;
      find-0 = refl;
      chosen-long = refl;
      chosen-first = refl;
      not-the-item = refl;
      long-help = refl;
      long-item-empty = refl;
      long-details = refl;
      long-details-of-menu = refl;
      long-timer = refl;
      long-timer-of-another = refl;
      outer-7F = refl;
      outer-no-longer = refl;
      menu-short = refl;
      menu-long = refl;
    }

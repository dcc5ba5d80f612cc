-- `whom` meets its contract.
-- Assumes nothing.
use Rattle.arrivals.proofs.IsFor.{for_as, row-for, expiry-for, status-for, nothing_for}
use Rattle.arrivals.proofs.Rounds.{event-view, row-view, expiry-view, status-view, nothing-view, arrives, no-status}
use Rattle.arrivals.proofs.whom.Goals as goal

pub returns-then-kind-eq-EVENT : goal.returns-then-kind-eq-EVENT
returns-then-kind-eq-EVENT c = record {
  arrived = λ t sound p q o k j. for_as t (event-view _ c.if-kind-eq-EVENT.true) (c.listeners.ensures t sound q k);
  envelope = λ e is polls t sound p q o k j. for_as t (arrives _ e is (event-view _ c.if-kind-eq-EVENT.true)) (c.listeners.ensures t sound q k);
}

pub returns-then-help-kind : goal.returns-then-help-kind
returns-then-help-kind c = record {
  arrived = λ t sound p q o k j. for_as t (row-view _ c.if-kind-eq-EVENT.false c.if-help-kind.true) (row-for t sound p _ _ c.chosen_owner-owner.ensures c.bit.ensures);
  envelope =
      λ e is polls t sound p q o k j.
      for_as t (arrives _ e is (row-view _ c.if-kind-eq-EVENT.false c.if-help-kind.true)) (row-for t sound p _ _ c.chosen_owner-owner.ensures c.bit.ensures);
}

pub returns-then-kind-eq-EXPIRY : goal.returns-then-kind-eq-EXPIRY
returns-then-kind-eq-EXPIRY c = record {
  arrived = λ t sound p q o k j. for_as t (expiry-view _ c.if-kind-eq-EXPIRY.true) (expiry-for t o _ c.owner_of-owner.ensures c.bit-then-kind-eq-EXPIRY.ensures);
  envelope =
      λ e is polls t sound p q o k j.
      for_as t (arrives _ e is (expiry-view _ c.if-kind-eq-EXPIRY.true)) (expiry-for t o _ c.owner_of-owner.ensures c.bit-then-kind-eq-EXPIRY.ensures);
}

pub returns-then-kind-eq-STATUS : goal.returns-then-kind-eq-STATUS
returns-then-kind-eq-STATUS c = record {
  arrived = λ t sound p q o k j. for_as t (status-view _ c.if-kind-eq-STATUS.true) (status-for t j c.polling_set.ensures);
  envelope = λ e is. absurd (no-status _ e is c.if-kind-eq-STATUS.true);
}

pub returns : goal.returns
returns c = record {
  arrived =
      λ t sound p q o k j.
      for_as t (nothing-view _ c.if-kind-eq-EVENT.false c.if-help-kind.false c.if-kind-eq-EXPIRY.false c.if-kind-eq-STATUS.false) (nothing_for t);
  envelope =
      λ e is polls t sound p q o k j.
      for_as t (arrives _ e is (nothing-view _ c.if-kind-eq-EVENT.false c.if-help-kind.false c.if-kind-eq-EXPIRY.false c.if-kind-eq-STATUS.false)) (nothing_for t);
}

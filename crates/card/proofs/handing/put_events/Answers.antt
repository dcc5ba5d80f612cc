-- `put_events` meets its contract.
-- Assumes nothing.
use Rattle.card.proofs.Written.{codes-room, codes-count, codes-wrote}
use Rattle.card.proofs.handing.put_events.Goals as goal

pub slice_bounds-at-end : goal.slice_bounds-at-end
slice_bounds-at-end c = codes-room _ c.shown_codes-count.ensures c.from.ensures

pub slice_bounds-write_events-end : goal.slice_bounds-write_events-end
slice_bounds-write_events-end c = codes-count _ c.shown_codes-count.ensures c.from.ensures

pub returns : goal.returns
returns c = codes-wrote _ c.shown_codes-count.ensures c.from.ensures c.write_events.ensures

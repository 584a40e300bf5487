use Rattle.std.proofs.Common.{refl}
use Rattle.gx_c.proofs.searches.find_boxes.Goals as goal

pub returns-then-status-ne0-clause-finds : goal.returns-then-status-ne0-clause-finds
returns-then-status-ne0-clause-finds c = record {
  middle = c.search-status.new.self;
  keeps = c.search-status.ensures;
  answered = λ is. absurd (c.if-status-ne0.true is);
  unanswered = λ no. (record { found = refl; told = refl; same = refl }, refl);
}

pub returns-then-status-ne0-clause-untold : goal.returns-then-status-ne0-clause-untold
returns-then-status-ne0-clause-untold c = λ no. record { found = refl; told = refl; same = refl }

pub returns-clause-finds : goal.returns-clause-finds
returns-clause-finds c = record {
  middle = c.search-status.new.self;
  keeps = c.search-status.ensures;
  answered = λ is. c.more_boxes.ensures;
  unanswered = λ no. absurd (no c.if-status-ne0.false);
}

pub returns-clause-untold : goal.returns-clause-untold
returns-clause-untold c = λ no. absurd (no c.if-status-ne0.false)

-- Books in the order of a run.
use Rattle.mcy_top.proofs.Common.{◌≡◌, ◌∙◌, [], ℕ, refl, Book, Goal, history, begun, Prepared, IsInOrder}

-- no rows were added
pub none_in_order : (c : Prepared) (aim : Goal) (jobs : ℕ) (loaded other : Book) → (history c.campaign other).journal ≡ (history c.campaign loaded).journal → IsInOrder c aim jobs loaded other
none_in_order c aim jobs loaded other same = record {
  state = record { rows = (history c.campaign loaded).journal; results = []; bounds = []; asks = []; spare = 0 };
  rows_are = refl;
  events = [];
  end = begun c.campaign aim c (record { rows = (history c.campaign loaded).journal; results = []; bounds = []; asks = []; spare = 0 }) jobs;
  program = refl;
  is = same;
}

-- a run from the history is one from the book
pub order_from : (c : Prepared) (aim : Goal) (jobs : ℕ) (loaded from other : Book) → (history c.campaign from).journal ≡ (history c.campaign loaded).journal → IsInOrder c aim jobs from other → IsInOrder c aim jobs loaded other
order_from c aim jobs loaded from other same is = record {
  state = is.state;
  rows_are = is.rows_are ∙ same;
  events = is.events;
  end = is.end;
  program = is.program;
  is = is.is;
}

-- What is drawn into a chart.
-- Assumes nothing.
use Rattle.std.specs.Prelude.{◌≡◌, ℕ, ◌+◌, ◌*◌, ◌<◌, ◌≤◌, Bool, false, ◌&&◌, ◌||◌, List, length, get_or, replicate, ◌==◌, slice_index, slice_index_or}
use Rattle.rules.specs.Instances.{Move}
use Rattle.rules.specs.Walks.{Constraint, forbids_place, forbids_move, any_of}
use Rattle.charts.specs.declared.chart.Chart.{Chart}
use Rattle.charts.specs.declared.inbound.Inbound.{Inbound}
use Rattle.charts.specs.declared.marks.Marks.{Marks}
use Rattle.charts.specs.declared.ticks.Ticks.{Ticks}
use Rattle.charts.specs.Indexes.{AllIndexed, IndexOf}
use Rattle.charts.specs.TickSets.{has, no_ticks}

-- the cell of place p at tick t is shut as it was, or where f says so
abbrev pub ShutBy : (places : ℕ) (was after : List Bool) → (ℕ → ℕ → Bool) → Type 0
ShutBy places was after f = (t p : ℕ) → t ≤ 64 → p < places → slice_index_or after (t * places + p) false ≡ (slice_index_or was (t * places + p) false || f p t)

-- where move number e leaves from
abbrev pub leaves : List Inbound → ℕ → ℕ
leaves moves e = (get_or moves e (record { from = 0; line = 0 })).from

-- each of the moves that reach place p is closed at tick t as it was, or where g says so of the place that it leaves
abbrev pub ClosedBy : (begins : List ℕ) (moves : List Inbound) (places : ℕ) (was after : List Ticks) → (ℕ → ℕ → ℕ → Bool) → Type 0
ClosedBy begins moves places was after g =
    (p e t : ℕ) → p < places → slice_index begins p ≤ e → e < slice_index begins (p + 1) → t ≤ 63 → has (slice_index_or after e no_ticks) t ≡ (has (slice_index_or was e no_ticks) t || g (leaves moves e) p t)

-- from number n on, all is as it was
abbrev pub SameFrom : {X : Type 0} → X → ℕ → (was after : List X) → Type 0
SameFrom none n was after = (i : ℕ) → n ≤ i → slice_index_or after i none ≡ slice_index_or was i none

-- those of the moves that leave from a place are closed at one tick more, and all others as they were
abbrev pub ClosedAlong : (moves : List Inbound) (was after : List Ticks) (from tick : ℕ) → Type 0
ClosedAlong moves was after from tick =
    (e t : ℕ) → e < length moves → t ≤ 63 → has (slice_index_or after e no_ticks) t ≡ (has (slice_index_or was e no_ticks) t || (leaves moves e == from && t == tick))

-- the drawing holds besides what it held what f says of places and g of moves, and nothing else, and is of the same chart
pub record Barred (was after : Marks) (f : ℕ → ℕ → Bool) (g : ℕ → ℕ → ℕ → Bool) : Type 0 where
  pub same_index : after.index.now ≡ was.index.now
  pub same_places : after.places ≡ was.places
  pub same_shut : after.shut.ghost_name ≡ was.shut.ghost_name
  pub same_closed : after.closed.ghost_name ≡ was.closed.ghost_name
  pub cells : ShutBy was.places was.shut.now after.shut.now f
  pub departures : ClosedBy was.index.now.begins was.index.now.moves was.places was.closed.now after.closed.now g
  pub other_cells : SameFrom false (65 * was.places) was.shut.now after.shut.now
  pub other_moves : SameFrom no_ticks (slice_index was.index.now.begins was.places) was.closed.now after.closed.now

-- nothing is shut, and nothing is closed
pub record Blank (chart : Chart) : Type 0 where
  pub shut : chart.shut ≡ replicate 8320 false
  pub closed : (e t : ℕ) → has (slice_index_or chart.closed e no_ticks) t ≡ false

-- the moves of the floor by the place reached, and besides what was shut and closed before what the constraints forbid the cart
pub record Drawn (moves : List (List Move)) (constraints : List Constraint) (cart : ℕ) (was after : Chart) : Type 0 where
  pub indexed : AllIndexed after.index.begins after.index.moves moves
  pub held : IndexOf after.index moves
  pub shut : ShutBy (length moves) was.shut after.shut (λ p t. any_of (forbids_place cart p t) constraints)
  pub closed : ClosedBy after.index.begins after.index.moves (length moves) was.closed after.closed (λ u p t. any_of (forbids_move cart u p t) constraints)
  pub other_cells : SameFrom false (65 * length moves) was.shut after.shut
  pub other_moves : SameFrom no_ticks (slice_index after.index.begins (length moves)) was.closed after.closed

-- What a lane table means, and which of its rows are refused.
-- Assumes nothing.
use Rattle.std.specs.Prelude.{ℕ, Bool, cond, ◌&&◌, List, [], ◌∷◌, ◌++◌, map, length, sum_by, filter, nat_eq, nat_lt, slice_index_or}
use Rattle.std.proofs.Math.Option.{Option, none, some}
use Rattle.std.specs.List.{range_with_len}
use Rattle.rules.specs.Instances.{Move}
use Rattle.floors.specs.Refusals.{size_fits}
use Rattle.floors.specs.declared.lane_row.LaneRow.{LaneRow}

abbrev pub row_move : LaneRow → Move
row_move r = record { to = r.to; line = r.line }

-- a place's moves are its rows, in table order
abbrev pub lane_moves : ℕ → List LaneRow → List (List Move)
lane_moves places rows = map (λ p. map row_move (filter (λ r. nat_eq r.from p) rows)) (range_with_len 0 places)

-- a row that a floor with these moves can take: it names two of its places, and the first has fewer than 8 moves
abbrev pub lane_fits : List (List Move) → LaneRow → Bool
lane_fits moves r =
    nat_lt r.from (length moves) && (nat_lt r.to (length moves) && nat_lt (length (slice_index_or moves r.from [])) 8)

-- how many rows a floor has taken: each gave it one move
abbrev pub lane_count : List (List Move) → ℕ
lane_count moves = sum_by length moves

-- one row more, whose number is that of the rows taken before it
abbrev pub row_refusal : List (List Move) → LaneRow → Option (ℕ × List ℕ)
row_refusal moves r = cond (lane_fits moves r) none (some (7, lane_count moves ∷ []))

-- the first row of the rest that does not fit a floor with the rows before it
abbrev pub rows_refusal : ℕ → List LaneRow → List LaneRow → Option (ℕ × List ℕ)
rows_refusal places before [] = none
rows_refusal places before (r ∷ rest) =
    cond (lane_fits (lane_moves places before) r) (rows_refusal places (before ++ r ∷ []) rest) (some (7, length before ∷ []))

-- a whole table: the number of places is checked first
abbrev pub lane_refusal : ℕ → List LaneRow → Option (ℕ × List ℕ)
lane_refusal places rows = cond (size_fits places) (rows_refusal places [] rows) (some (6, []))

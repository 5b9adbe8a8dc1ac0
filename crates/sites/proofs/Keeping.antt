-- What the reader keeps, one lane or one cart on. Assumes nothing.
use Rattle.std.proofs.Common.{◌≡◌, ℕ, ◌+◌, ◌<◌, List, [], ◌∷◌, ◌++◌, length, None, sym, ap, ◌∙◌, arith}
use mathlib.Core.Option.{none}
use Rattle.std.proofs.lemmas.List.FromFn.{length-map-range_with_len}
use Rattle.std.proofs.lemmas.List.{length_push}
use Rattle.std.proofs.lemmas.Bool.{cond-true}
use Rattle.rules.specs.Instances.{Move}
use Rattle.floors.specs.declared.lane_row.LaneRow.{LaneRow}
use Rattle.floors.specs.Lanes.{lane_count, lane_fits, lane_moves, row_move, row_refusal}
use Rattle.floors.specs.MoveTables.{extended}
use Rattle.floors.proofs.LaneTables.{count_extended, fits_from, lanes_more, passed}
use Rattle.sites.specs.Sites.{lane_fault}

module _ (places : ℕ) (lanes : List LaneRow) (row : LaneRow) (moves : List (List Move)) (so_far : moves ≡ lane_moves places lanes) (counted : lane_count moves ≡ length lanes) where
  places_are : length moves ≡ places
  places_are = ap length so_far ∙ length-map-range_with_len _ 0 places

  pub lane_taken : none ≡ row_refusal moves row → lane_fault places lanes row ≡ None
  lane_taken e = cond-true (lane_fits (lane_moves places lanes) row) _ _ (ap (λ ms. lane_fits ms row) (sym so_far) ∙ passed _ _ e)

  pub lane_means : none ≡ row_refusal moves row → extended moves row.from (row_move row ∷ []) ≡ lane_moves places (lanes ++ row ∷ [])
  lane_means e =
      let len = places_are in
      let from : row.from < places = omega (arith, fits_from moves row (passed _ _ e)) in
      ap (λ ms. extended ms row.from (row_move row ∷ [])) so_far ∙ sym (lanes_more places lanes row from)

  pub lane_counted : none ≡ row_refusal moves row → lane_count (extended moves row.from (row_move row ∷ [])) ≡ length (lanes ++ row ∷ [])
  lane_counted e =
      count_extended moves row.from (row_move row) (fits_from moves row (passed _ _ e)) ∙ ap (λ n. n + 1) counted ∙ sym (length_push lanes row)

-- What the reader keeps, one record on. Assumes nothing.
use Rattle.std.proofs.Common.{◌≡◌, ℕ, ◌+◌, ◌<◌, ◌≤◌, ltb, List, [], ◌∷◌, ◌++◌, get_or, IfOk, None, Ok, Err, Option, Result, sym, refl, ap, ◌∙◌, subst, inr, arith}
use Rattle.std.specs.List.{flat_map}
use Rattle.std.proofs.lemmas.List.{append_assoc, append-nil, length_push}
use Rattle.std.proofs.lemmas.Bool.{cond-false, le-ltb}
use Rattle.floors.specs.declared.lane_row.LaneRow.{LaneRow}
use Rattle.sites.specs.declared.rank.Rank.TheVariants.{Tariff as AfterTariff}
use Rattle.sites.specs.declared.reading.Reading.{Reading}
use Rattle.sites.specs.declared.records.Record.{Record}
use Rattle.sites.specs.declared.records.Record.TheVariants.{Horizon, Places, Lane, BothLanes, Tariff, Cart}
use Rattle.sites.specs.declared.refusal.SiteFault.{SiteFault}
use Rattle.sites.specs.declared.rooms.Rooms.{Rooms}
use Rattle.sites.specs.Sites.{SiteData, back, cost_of, horizons_in, places_in, lanes_in, tariff_in, carts_in, said, rank, last_rank, lane_fault, draft_fault, first_fault, lacking}
use Rattle.sites.specs.Holding.{Holds, with_lane, with_cost, with_cart, LaneTaken, CartTaken, Keeps, Took, rank_number}
use Rattle.sites.proofs.RecordLists.{part_push, last_push}

-- what a record adds nothing to stays as it was
part_same : {Y : Type 0} (f : Record → List Y) (before : List Record) (r : Record) → f r ≡ [] → flat_map f (before ++ r ∷ []) ≡ flat_map f before
part_same f before r e = part_push f before r ∙ ap (λ t. flat_map f before ++ t) e ∙ append-nil (flat_map f before)

-- what is said with one record more
module _ (before : List Record) where
  said_lane : (l : LaneRow) → said (before ++ Lane l ∷ []) ≡ with_lane (said before) l
  said_lane l = λ i. record {
    horizon = get_or (part_same horizons_in before (Lane l) refl i) 0 0;
    places = get_or (part_same places_in before (Lane l) refl i) 0 0;
    lanes = part_push lanes_in before (Lane l) i;
    tariff = part_same tariff_in before (Lane l) refl i;
    carts = part_same carts_in before (Lane l) refl i;
  }

  said_both : (l : LaneRow) → said (before ++ BothLanes l ∷ []) ≡ with_lane (with_lane (said before) l) (back l)
  said_both l =
      let two = part_push lanes_in before (BothLanes l) ∙ sym (append_assoc (flat_map lanes_in before) (l ∷ []) (back l ∷ [])) in
      λ i. record {
        horizon = get_or (part_same horizons_in before (BothLanes l) refl i) 0 0;
        places = get_or (part_same places_in before (BothLanes l) refl i) 0 0;
        lanes = two i;
        tariff = part_same tariff_in before (BothLanes l) refl i;
        carts = part_same carts_in before (BothLanes l) refl i;
      }

  said_line : (t w : ℕ) → said (before ++ Tariff t w ∷ []) ≡ with_cost (said before) (cost_of t w)
  said_line t w = λ i. record {
    horizon = get_or (part_same horizons_in before (Tariff t w) refl i) 0 0;
    places = get_or (part_same places_in before (Tariff t w) refl i) 0 0;
    lanes = part_same lanes_in before (Tariff t w) refl i;
    tariff = part_push tariff_in before (Tariff t w) i;
    carts = part_same carts_in before (Tariff t w) refl i;
  }

  said-cart : (s g : ℕ) → said (before ++ Cart s g ∷ []) ≡ with_cart (said before) (record { start = s; goal = g })
  said-cart s g = λ i. record {
    horizon = get_or (part_same horizons_in before (Cart s g) refl i) 0 0;
    places = get_or (part_same places_in before (Cart s g) refl i) 0 0;
    lanes = part_same lanes_in before (Cart s g) refl i;
    tariff = part_same tariff_in before (Cart s g) refl i;
    carts = part_push carts_in before (Cart s g) i;
  }

-- there are enough rows
enough : (rows used wanted : ℕ) (others : Option SiteFault) → used + wanted ≤ rows → lacking rows used wanted others ≡ others
enough rows used wanted others h = cond-false (ltb rows (used + wanted)) _ _ (le-ltb rows (used + wanted) h)

-- no rank is above 5
rank_few : (r : Record) → rank r ≤ 5
rank_few (Horizon h) = omega arith
rank_few (Places p) = omega arith
rank_few (Lane l) = omega arith
rank_few (BothLanes l) = omega arith
rank_few (Tariff t w) = omega arith
rank_few (Cart s g) = omega arith

last_few : (rs : List Record) → last_rank rs ≤ 5
last_few [] = omega arith
last_few (r ∷ []) = rank_few r
last_few (r ∷ (s ∷ rs)) = last_few (s ∷ rs)

module _ (rooms : Rooms) (before : List Record) (was : Reading) (k : Keeps before was) where
  -- kept after a record of this rank, which says this
  keeps_next : (next : Record) (s : SiteData) (r : Reading) → 2 ≤ rank next → said (before ++ next ∷ []) ≡ s → Holds s r → rank_number r.rank ≡ rank next → Keeps (before ++ next ∷ []) r
  keeps_next next s r low e h same =
      let last = last_push before next in
      let P : SiteData → Type 0 = λ t. Holds t r in
      record { holds = subst P (sym e) h; ranked = same ∙ sym last; begun = omega arith }

  pub lane_took : (row : LaneRow) → rank_number was.rank ≤ 3 → was.site.lanes < rooms.lanes → (r : Result Reading SiteFault) → ((s : SiteData) → Holds s was → LaneTaken s row r) → IfOk r (λ x. (x.site.lanes ≡ was.site.lanes + 1) × (rank_number x.rank ≡ 3)) → Took rooms before (Lane row) r
  lane_took row low room (Ok r) taken kept' =
      let t = taken (said before) k.holds in
      let rows = k.holds.lanes in
      let ranked = k.ranked in (
        (k.begun, omega arith),
        enough rooms.lanes _ 1 _ (omega arith) ∙ t.0,
        keeps_next (Lane row) _ r (omega arith) (said_lane before row) t.1 kept'.1,
      )
  lane_took row low room (Err f) taken kept' =
      let rows = k.holds.lanes in
      let ranked = k.ranked in
      inr ((k.begun, omega arith), enough rooms.lanes _ 1 _ (omega arith) ∙ taken (said before) k.holds)

  pub both_first_refused : (row : LaneRow) → rank_number was.rank ≤ 3 → was.site.lanes + 2 ≤ rooms.lanes → (f : SiteFault) → ((s : SiteData) → Holds s was → LaneTaken s row (Err f)) → Took rooms before (BothLanes row) (Err f)
  both_first_refused row low room f taken =
      let rows = k.holds.lanes in
      let ranked = k.ranked in
      inr ((k.begun, omega arith), enough rooms.lanes _ 2 _ (omega arith) ∙ ap (λ o. first_fault o (lane_fault (said before).places ((said before).lanes ++ row ∷ []) (back row))) (taken (said before) k.holds))

  pub both_took : (row : LaneRow) → rank_number was.rank ≤ 3 → was.site.lanes + 2 ≤ rooms.lanes → (one : Reading) → ((s : SiteData) → Holds s was → LaneTaken s row (Ok one)) → (r : Result Reading SiteFault) → ((s : SiteData) → Holds s one → LaneTaken s (back row) r) → IfOk r (λ x. (x.site.lanes ≡ one.site.lanes + 1) × (rank_number x.rank ≡ 3)) → Took rooms before (BothLanes row) r
  both_took row low room one first (Ok r) taken kept' =
      let rows = k.holds.lanes in
      let ranked = k.ranked in
      let t = first (said before) k.holds in
      let u = taken (with_lane (said before) row) t.1 in (
        (k.begun, omega arith),
        enough rooms.lanes _ 2 _ (omega arith) ∙ ap (λ o. first_fault o (lane_fault (said before).places ((said before).lanes ++ row ∷ []) (back row))) t.0 ∙ u.0,
        keeps_next (BothLanes row) _ r (omega arith) (said_both before row) u.1 kept'.1,
      )
  both_took row low room one first (Err f) taken kept' =
      let rows = k.holds.lanes in
      let ranked = k.ranked in
      let t = first (said before) k.holds in
      let u = taken (with_lane (said before) row) t.1 in
      inr (
        (k.begun, omega arith),
        enough rooms.lanes _ 2 _ (omega arith) ∙ ap (λ o. first_fault o (lane_fault (said before).places ((said before).lanes ++ row ∷ []) (back row))) t.0 ∙ u,
      )

  pub line_took : (total worst : ℕ) → rank_number was.rank ≤ 4 → was.site.tariff < rooms.tariff → Took rooms before (Tariff total worst) (Ok (record { site = record { draft = was.site.draft; floor = was.site.floor; lanes = was.site.lanes; tariff = was.site.tariff + 1 }; carts = was.carts; rank = AfterTariff }))
  line_took total worst low room =
      let h = k.holds in
      let rows = k.holds.tariff in
      let ranked = k.ranked in (
        (k.begun, omega arith),
        enough rooms.tariff _ 1 None (omega arith),
        keeps_next (Tariff total worst) _ _ (omega arith) (said_line before total worst)
            (record {
              horizon = h.horizon;
              entered = h.entered;
              carts = h.carts;
              rows = h.rows;
              floor = h.floor;
              counted = h.counted;
              lanes = h.lanes;
              tariff = ap (λ n. n + 1) h.tariff ∙ sym (length_push (said before).tariff (cost_of total worst));
            })
            refl,
      )

  pub cart_took : (start goal : ℕ) → (r : Result Reading SiteFault) → ((s : SiteData) → Holds s was → CartTaken rooms.carts s start goal r) → IfOk r (λ x. rank_number x.rank ≡ 5) → Took rooms before (Cart start goal) r
  cart_took start goal (Ok r) taken kept' =
      let t = taken (said before) k.holds in
      ((k.begun, last_few before), ap draft_fault t.0, keeps_next (Cart start goal) _ r (omega arith) (said-cart before start goal) t.1 kept')
  cart_took start goal (Err f) taken kept' = inr ((k.begun, last_few before), taken (said before) k.holds)

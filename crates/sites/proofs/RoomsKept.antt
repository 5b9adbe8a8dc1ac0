-- The rows of records that are accepted are within their tables. Assumes nothing.
use Rattle.std.proofs.Common.{◌≡◌, ℕ, ◌+◌, ◌≤◌, ltb, leb, List, [], ◌∷◌, ◌++◌, length, Some, None, Option, sym, refl, ap, ◌∙◌, subst, arith}
use Rattle.std.specs.List.{flat_map, AllByRecursion}
use Rattle.std.proofs.lemmas.List.{append_assoc, append-nil, length-append}
use Rattle.std.proofs.lemmas.Bool.{leb-false, ltb-false, or_parts}
use Rattle.carts.specs.declared.draft_refusal.DraftRefusal.{DraftRefusal}
use Rattle.sites.specs.declared.records.Record.{Record}
use Rattle.sites.specs.declared.records.Record.TheVariants.{Horizon, Places, Lane, BothLanes, Tariff, Cart}
use Rattle.sites.specs.declared.refusal.SiteFault.{SiteFault}
use Rattle.sites.specs.declared.rooms.Rooms.{Rooms}
use Rattle.sites.specs.Records.{Fitting}
use Rattle.sites.specs.Sites.{lanes_in, tariff_in, carts_in, EachAfter, lacking, draft_fault, Stands, Accepted}
use Rattle.sites.specs.Writing.{Writable}
use Rattle.sites.proofs.CartRooms.{not_refused}
use Rattle.sites.proofs.RecordLists.{all_from_each, part_push}

not_lacking : (rows used wanted : ℕ) (others : Option SiteFault) → lacking rows used wanted others ≡ None → used + wanted ≤ rows
not_lacking rows used wanted others e = ltb-false rows (used + wanted) (not_refused (ltb rows (used + wanted)) _ others e)

no_draft_fault : (o : Option DraftRefusal) → draft_fault o ≡ None → o ≡ None
no_draft_fault None e = refl
no_draft_fault (Some x) e = cc

-- each record adds rows that are there
abbrev Adds : {X : Type 0} → (Record → List X) → Rooms → ℕ → Type 0
Adds part rooms rows = (before : List Record) (r : Record) → Stands rooms before r → length (flat_map part before) ≤ rows → length (flat_map part before) + length (part r) ≤ rows

lanes-add : (rooms : Rooms) → Adds lanes_in rooms rooms.lanes
lanes-add rooms before (Horizon h) s k = omega arith
lanes-add rooms before (Places p) s k = omega arith
lanes-add rooms before (Lane l) s k = not_lacking rooms.lanes (length (flat_map lanes_in before)) 1 _ s.taken
lanes-add rooms before (BothLanes l) s k = not_lacking rooms.lanes (length (flat_map lanes_in before)) 2 _ s.taken
lanes-add rooms before (Tariff t w) s k = omega arith
lanes-add rooms before (Cart a b) s k = omega arith

tariff_add : (rooms : Rooms) → Adds tariff_in rooms rooms.tariff
tariff_add rooms before (Horizon h) s k = omega arith
tariff_add rooms before (Places p) s k = omega arith
tariff_add rooms before (Lane l) s k = omega arith
tariff_add rooms before (BothLanes l) s k = omega arith
tariff_add rooms before (Tariff t w) s k = not_lacking rooms.tariff (length (flat_map tariff_in before)) 1 _ s.taken
tariff_add rooms before (Cart a b) s k = omega arith

carts_add : (rooms : Rooms) → Adds carts_in rooms rooms.carts
carts_add rooms before (Horizon h) s k = omega arith
carts_add rooms before (Places p) s k = omega arith
carts_add rooms before (Lane l) s k = omega arith
carts_add rooms before (BothLanes l) s k = omega arith
carts_add rooms before (Tariff t w) s k = omega arith
carts_add rooms before (Cart a b) s k =
    let n = length (flat_map carts_in before) in
    let free = no_draft_fault _ s.taken in
    let room = leb-false rooms.carts n (or_parts (leb 6 n) (leb rooms.carts n) (not_refused _ _ _ free)).1 in
    omega arith

within : {X : Type 0} (part : Record → List X) (rooms : Rooms) (rows : ℕ) → Adds part rooms rows → (done rs : List Record) → EachAfter (Stands rooms) done rs → length (flat_map part done) ≤ rows → length (flat_map part (done ++ rs)) ≤ rows
within part rooms rows adds done [] h k = subst (λ (t : List Record). length (flat_map part t) ≤ rows) (sym (append-nil done)) k
within part rooms rows adds done (r ∷ rs) h k =
    let more = ap length (part_push part done r) ∙ length-append (flat_map part done) (part r) in
    subst (λ (t : List Record). length (flat_map part t) ≤ rows) (append_assoc done (r ∷ []) rs)
    (within part rooms rows adds (done ++ r ∷ []) rs h.1 (omega (arith, adds done r h.0 k)))

pub all_fitting : (rooms : Rooms) (rs : List Record) → EachAfter (Stands rooms) [] rs → AllByRecursion Fitting rs
all_fitting rooms rs h = all_from_each (Stands rooms) Fitting (λ before r s. s.fitting) [] rs h

module _ (rooms : Rooms) (bytes : List ℕ) (rs : List Record) (a : Accepted rooms bytes rs) where
  pub carts_within : length (flat_map carts_in rs) ≤ rooms.carts
  carts_within = within carts_in rooms rooms.carts (carts_add rooms) [] rs a.stand (omega arith)

  pub writable : Writable bytes rooms.lanes rooms.tariff
  writable =
      record {
        records = rs;
        fitting = all_fitting rooms rs a.stand;
        text = a.text;
        lanes_room = within lanes_in rooms rooms.lanes (lanes-add rooms) [] rs a.stand (omega arith);
        tariff_room = within tariff_in rooms rooms.tariff (tariff_add rooms) [] rs a.stand (omega arith);
      }

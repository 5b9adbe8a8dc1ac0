-- What a site's records say, which may follow which, and which are refused. Assumes nothing.
use Rattle.std.specs.Prelude.{◌≡◌, ℕ, ◌+◌, ◌≤◌, min, cond, ◌⊎◌, List, [], ◌∷◌, ◌++◌, length, Some, None, Option, ◌≢◌, nat_lt, slice_index}
use Rattle.std.proofs.Math.Nat.{min-le_right}
use Rattle.std.proofs.Common.{arith}
use Rattle.std.specs.List.{flat_map}
use Rattle.costs.specs.declared.pair.Pair.{Pair}
use Rattle.costs.specs.declared.total.Total.{Total}
use Rattle.costs.specs.declared.worst.Worst.{Worst}
use Rattle.carts.specs.declared.cart.Cart.{Cart as CartRow}
use Rattle.carts.specs.declared.draft_refusal.DraftRefusal.{DraftRefusal}
use Rattle.carts.specs.Drafts.{horizon_refusal, cart_refusal}
use Rattle.floors.specs.declared.lane_row.LaneRow.{LaneRow}
use Rattle.floors.specs.declared.refusal.FloorRefusal.TheVariants.{BadSize, BadRow}
use Rattle.floors.specs.Lanes.{lane_fits, lane_moves}
use Rattle.floors.specs.Refusals.{size_fits}
use Rattle.sites.specs.declared.records.Record.{Record}
use Rattle.sites.specs.declared.records.Record.TheVariants.{Horizon, Places, Lane, BothLanes, Tariff, Cart}
use Rattle.sites.specs.declared.refusal.SiteFault.{SiteFault}
use Rattle.sites.specs.declared.refusal.SiteFault.TheVariants.{Misread, NoRow, Draft, Floor}
use Rattle.sites.specs.declared.rooms.Rooms.{Rooms}
use Rattle.sites.specs.Records.{Fitting, record_text, records_text}

-- a cost with these parts; a part that does not fit is cut, which no record that fits asks for
abbrev pub cost_of : ℕ → ℕ → Pair Total Worst
cost_of total worst =
    record {
      first = record { value = min total 65535; fits = omega (arith, min-le_right total 65535) };
      second = record { value = min worst 65535; fits = omega (arith, min-le_right worst 65535) };
    }

-- a lane in the other direction
abbrev pub back : LaneRow → LaneRow
back l = record { from = l.to; to = l.from; line = l.line }

-- what one record adds to each part of a site
abbrev pub horizons_in : Record → List ℕ
horizons_in (Horizon h) = h ∷ []
horizons_in (Places p) = []
horizons_in (Lane l) = []
horizons_in (BothLanes l) = []
horizons_in (Tariff t w) = []
horizons_in (Cart s g) = []

abbrev pub places_in : Record → List ℕ
places_in (Horizon h) = []
places_in (Places p) = p ∷ []
places_in (Lane l) = []
places_in (BothLanes l) = []
places_in (Tariff t w) = []
places_in (Cart s g) = []

abbrev pub lanes_in : Record → List LaneRow
lanes_in (Horizon h) = []
lanes_in (Places p) = []
lanes_in (Lane l) = l ∷ []
lanes_in (BothLanes l) = l ∷ (back l ∷ [])
lanes_in (Tariff t w) = []
lanes_in (Cart s g) = []

abbrev pub tariff_in : Record → List (Pair Total Worst)
tariff_in (Horizon h) = []
tariff_in (Places p) = []
tariff_in (Lane l) = []
tariff_in (BothLanes l) = []
tariff_in (Tariff t w) = cost_of t w ∷ []
tariff_in (Cart s g) = []

abbrev pub carts_in : Record → List CartRow
carts_in (Horizon h) = []
carts_in (Places p) = []
carts_in (Lane l) = []
carts_in (BothLanes l) = []
carts_in (Tariff t w) = []
carts_in (Cart s g) = record { start = s; goal = g } ∷ []

pub record SiteData : Type 0 where
  pub horizon : ℕ
  pub places : ℕ
  pub lanes : List LaneRow
  pub tariff : List (Pair Total Worst)
  pub carts : List CartRow

-- what records say
abbrev pub said : List Record → SiteData
said rs =
    record {
      horizon = slice_index (flat_map horizons_in rs) 0;
      places = slice_index (flat_map places_in rs) 0;
      lanes = flat_map lanes_in rs;
      tariff = flat_map tariff_in rs;
      carts = flat_map carts_in rs;
    }

-- the order of the records
abbrev pub rank : Record → ℕ
rank (Horizon h) = 1
rank (Places p) = 2
rank (Lane l) = 3
rank (BothLanes l) = 3
rank (Tariff t w) = 4
rank (Cart s g) = 5

-- the last record's rank, or 0 where there is none
abbrev pub last_rank : List Record → ℕ
last_rank [] = 0
last_rank (r ∷ []) = rank r
last_rank (r ∷ (s ∷ rs)) = last_rank (s ∷ rs)

-- which record may stand after one of this rank: HZ first, PL after it, and then none before its turn
abbrev pub MayFollow : ℕ → Record → Type 0
MayFollow last (Horizon h) = last ≡ 0
MayFollow last (Places p) = last ≡ 1
MayFollow last (Lane l) = (2 ≤ last) × (last ≤ 3)
MayFollow last (BothLanes l) = (2 ≤ last) × (last ≤ 3)
MayFollow last (Tariff t w) = (2 ≤ last) × (last ≤ 4)
MayFollow last (Cart s g) = (2 ≤ last) × (last ≤ 5)

-- each record stands in a relation to those before it
abbrev pub EachAfter : (List Record → Record → Type 0) → List Record → List Record → Type 0
EachAfter P before [] = Unit {0}
EachAfter P before (r ∷ rs) = P before r × EachAfter P (before ++ r ∷ []) rs

pub record Placed (before : List Record) (r : Record) : Type 0 where
  pub fitting : Fitting r
  pub follows : MayFollow (last_rank before) r

-- the records of a whole site: HZ and PL are there, and each record fits and has its place
pub record WellFormed (rs : List Record) : Type 0 where
  pub placed : EachAfter Placed [] rs
  pub whole : 2 ≤ last_rank rs

-- the bytes are the text of a site that says this
pub record Says (bytes : List ℕ) (site : SiteData) : Type 0 where
  pub records : List Record
  pub well_formed : WellFormed records
  pub text : bytes ≡ records_text records
  pub says : said records ≡ site

-- fewer rows than are wanted
abbrev pub lacking : ℕ → ℕ → ℕ → Option SiteFault → Option SiteFault
lacking rows used wanted others = cond (nat_lt rows (used + wanted)) (Some NoRow) others

-- the first of two faults
abbrev pub first_fault : Option SiteFault → Option SiteFault → Option SiteFault
first_fault (Some f) others = Some f
first_fault None others = others

abbrev pub draft_fault : Option DraftRefusal → Option SiteFault
draft_fault (Some e) = Some (Draft e)
draft_fault None = None

-- a lane after others, on a floor of so many places
abbrev pub lane_fault : ℕ → List LaneRow → LaneRow → Option SiteFault
lane_fault places before l = cond (lane_fits (lane_moves places before) l) None (Some (Floor (BadRow (length before))))

-- why a record is not taken after others: it lacks its row, or its call refuses it
abbrev pub fault_of : Rooms → List Record → Record → Option SiteFault
fault_of rooms before (Horizon h) = draft_fault (horizon_refusal h)
fault_of rooms before (Places p) = cond (size_fits p) None (Some (Floor BadSize))
fault_of rooms before (Lane l) =
    lacking rooms.lanes (length (said before).lanes) 1 (lane_fault (said before).places (said before).lanes l)
fault_of rooms before (BothLanes l) =
    lacking rooms.lanes (length (said before).lanes) 2
    (first_fault (lane_fault (said before).places (said before).lanes l) (lane_fault (said before).places ((said before).lanes ++ l ∷ []) (back l)))
fault_of rooms before (Tariff t w) = lacking rooms.tariff (length (said before).tariff) 1 None
fault_of rooms before (Cart s g) = draft_fault (cart_refusal (said before).carts rooms.carts s g)

-- a record that is read after others
pub record Stands (rooms : Rooms) (before : List Record) (r : Record) : Type 0 where
  pub fitting : Fitting r
  pub follows : MayFollow (last_rank before) r
  pub taken : fault_of rooms before r ≡ None

-- the bytes are the text of a site of these records, of which none is refused
pub record Accepted (rooms : Rooms) (bytes : List ℕ) (rs : List Record) : Type 0 where
  pub text : bytes ≡ records_text rs
  pub stand : EachAfter (Stands rooms) [] rs
  pub whole : 2 ≤ last_rank rs

-- what is left is not the end of a site, and no record that may follow stands at its front
pub record MisreadAt (before : List Record) (left : List ℕ) : Type 0 where
  pub no_record : (r : Record) (more : List ℕ) → Fitting r → MayFollow (last_rank before) r → left ≢ record_text r ++ more
  pub no_end : left ≡ [] → 2 ≤ last_rank before → ⊥

-- a record that may follow stands at the front of what is left, and has this fault
pub record RefusedAt (rooms : Rooms) (before : List Record) (left : List ℕ) (fault : SiteFault) : Type 0 where
  pub «record» : Record
  pub more : List ℕ
  pub fitting : Fitting «record»
  pub follows : MayFollow (last_rank before) «record»
  pub text : left ≡ record_text «record» ++ more
  pub refused : fault_of rooms before «record» ≡ Some fault

abbrev pub FaultAt : Rooms → List Record → List ℕ → SiteFault → Type 0
FaultAt rooms before left fault = ((fault ≡ Misread) × MisreadAt before left) ⊎ RefusedAt rooms before left fault

-- the lines before this one are records that are read, and this one is not
pub record Refused (rooms : Rooms) (bytes : List ℕ) (line : ℕ) (fault : SiteFault) : Type 0 where
  pub before : List Record
  pub left : List ℕ
  pub text : bytes ≡ records_text before ++ left
  pub stand : EachAfter (Stands rooms) [] before
  pub counted : line ≡ length before + 1
  pub why : FaultAt rooms before left fault

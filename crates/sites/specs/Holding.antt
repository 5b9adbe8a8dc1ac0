-- What the reader keeps while it reads, and what one record more does to it. Assumes nothing.
use Rattle.std.specs.Prelude.{◌≡◌, ℕ, ◌<◌, ◌≤◌, ◌⊎◌, List, [], ◌∷◌, ◌++◌, length, take, Some, None, Ok, Err, Result}
use Rattle.costs.specs.declared.pair.Pair.{Pair}
use Rattle.costs.specs.declared.total.Total.{Total}
use Rattle.costs.specs.declared.worst.Worst.{Worst}
use Rattle.carts.specs.declared.cart.Cart.{Cart as CartRow}
use Rattle.carts.specs.Drafts.{cart_refusal}
use Rattle.floors.specs.declared.lane_row.LaneRow.{LaneRow}
use Rattle.floors.specs.Lanes.{lane_count, lane_moves}
use Rattle.sites.specs.declared.rank.Rank.{Rank}
use Rattle.sites.specs.declared.rank.Rank.TheVariants.{Places, Lane, Tariff, Cart}
use Rattle.sites.specs.declared.reading.Reading.{Reading}
use Rattle.sites.specs.declared.records.Record.{Record}
use Rattle.sites.specs.declared.refusal.SiteFault.{SiteFault}
use Rattle.sites.specs.declared.refusal.SiteFault.TheVariants.{Misread, NoRow}
use Rattle.sites.specs.declared.rooms.Rooms.{Rooms}
use Rattle.sites.specs.Sites.{SiteData, said, last_rank, MayFollow, lane_fault, draft_fault, fault_of}

-- what the reader keeps says this of a site
pub record Holds (s : SiteData) (r : Reading) : Type 0 where
  pub horizon : r.site.draft.horizon ≡ s.horizon
  pub entered : r.site.draft.carts ≡ length s.carts
  pub carts : take (length s.carts) r.carts ≡ s.carts
  pub rows : length r.carts ≡ 6
  pub floor : r.site.floor.table ≡ lane_moves s.places s.lanes
  pub counted : lane_count r.site.floor.table ≡ length s.lanes
  pub lanes : r.site.lanes ≡ length s.lanes
  pub tariff : r.site.tariff ≡ length s.tariff

-- a site with one lane, tariff line or cart more
abbrev pub with_lane : SiteData → LaneRow → SiteData
with_lane s l = record { horizon = s.horizon; places = s.places; lanes = s.lanes ++ l ∷ []; tariff = s.tariff; carts = s.carts }

abbrev pub with_cost : SiteData → Pair Total Worst → SiteData
with_cost s c = record { horizon = s.horizon; places = s.places; lanes = s.lanes; tariff = s.tariff ++ c ∷ []; carts = s.carts }

abbrev pub with_cart : SiteData → CartRow → SiteData
with_cart s c = record { horizon = s.horizon; places = s.places; lanes = s.lanes; tariff = s.tariff; carts = s.carts ++ c ∷ [] }

abbrev pub LaneTaken : SiteData → LaneRow → Result Reading SiteFault → Type 0
LaneTaken s l (Ok r) = (lane_fault s.places s.lanes l ≡ None) × Holds (with_lane s l) r
LaneTaken s l (Err f) = lane_fault s.places s.lanes l ≡ Some f

abbrev pub CartTaken : ℕ → SiteData → ℕ → ℕ → Result Reading SiteFault → Type 0
CartTaken rows s start goal (Ok r) = (cart_refusal s.carts rows start goal ≡ None) × Holds (with_cart s (record { start = start; goal = goal })) r
CartTaken rows s start goal (Err f) = draft_fault (cart_refusal s.carts rows start goal) ≡ Some f

-- the reader's ranks, as the records' are numbered
abbrev pub rank_number : Rank → ℕ
rank_number Places = 2
rank_number Lane = 3
rank_number Tariff = 4
rank_number Cart = 5

-- a record of rank next may follow one of rank last, and so many rows are left as are wanted; or the first of the two fails
abbrev pub Admitted : ℕ → ℕ → ℕ → ℕ → Result (Unit {0}) SiteFault → Type 0
Admitted last next left wanted (Ok x) = (last ≤ next) × (wanted ≤ left)
Admitted last next left wanted (Err f) = ((f ≡ Misread) × (next < last)) ⊎ ((f ≡ NoRow) × (last ≤ next) × (left < wanted))

-- what the reader keeps after some records, HZ and PL among them
pub record Keeps (before : List Record) (r : Reading) : Type 0 where
  pub holds : Holds (said before) r
  pub ranked : rank_number r.rank ≡ last_rank before
  pub begun : 2 ≤ last_rank before

-- a record is taken after others, or is misread there, or has a fault
abbrev pub Took : Rooms → List Record → Record → Result Reading SiteFault → Type 0
Took rooms before next (Ok r) = MayFollow (last_rank before) next × (fault_of rooms before next ≡ None) × Keeps (before ++ next ∷ []) r
Took rooms before next (Err f) =
    ((f ≡ Misread) × (MayFollow (last_rank before) next → ⊥)) ⊎ (MayFollow (last_rank before) next × (fault_of rooms before next ≡ Some f))

-- whatever records came before
abbrev pub TookNext : Reading → Rooms → Record → Result Reading SiteFault → Type 0
TookNext was rooms next r = (before : List Record) → Keeps before was → Took rooms before next r

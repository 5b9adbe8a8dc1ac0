-- What the site reader answers, and what it leaves in the tables. Assumes nothing.
use Rattle.std.specs.Prelude.{◌≡◌, ℕ, ◌<◌, ◌≤◌, ◌⊎◌, List, length, Ok, Err, Result}
use Rattle.costs.specs.declared.pair.Pair.{Pair}
use Rattle.costs.specs.declared.total.Total.{Total}
use Rattle.costs.specs.declared.worst.Worst.{Worst}
use Rattle.carts.specs.declared.cart.Cart.{Cart as CartRow}
use Rattle.floors.specs.declared.lane_row.LaneRow.{LaneRow}
use Rattle.floors.specs.Lanes.{lane_moves}
use Rattle.sites.specs.declared.records.Record.{Record}
use Rattle.sites.specs.declared.refusal.SiteFault.TheVariants.{TooLong}
use Rattle.sites.specs.declared.refusal.SiteRefusal.{SiteRefusal}
use Rattle.sites.specs.declared.rooms.Rooms.{Rooms}
use Rattle.sites.specs.declared.site.Site.{Site}
use Rattle.sites.specs.Sites.{SiteData, said, Accepted, Refused}
use Rattle.sites.specs.Writing.{filled}

-- the lent tables
pub record Tables : Type 0 where
  pub lanes : List LaneRow
  pub tariff : List (Pair Total Worst)
  pub carts : List CartRow

abbrev pub tables : List LaneRow → List (Pair Total Worst) → List CartRow → Tables
tables lanes tariff carts = record { lanes = lanes; tariff = tariff; carts = carts }

abbrev pub rooms_of : Tables → Rooms
rooms_of t = record { lanes = length t.lanes; tariff = length t.tariff; carts = length t.carts }

-- the tables with a site in their first rows, and the other rows as they were
abbrev pub filled_with : SiteData → Tables → Tables
filled_with s t = record { lanes = filled s.lanes t.lanes; tariff = filled s.tariff t.tariff; carts = filled s.carts t.carts }

-- the answer holds what the records say
pub record SiteHolds (s : SiteData) (site : Site) : Type 0 where
  pub horizon : site.draft.horizon ≡ s.horizon
  pub carts : site.draft.carts ≡ length s.carts
  pub floor : site.floor.table ≡ lane_moves s.places s.lanes
  pub lanes : site.lanes ≡ length s.lanes
  pub tariff : site.tariff ≡ length s.tariff

pub record Opened (bytes : List ℕ) (was after : Tables) (site : Site) : Type 0 where
  pub short : length bytes ≤ 16384
  pub records : List Record
  pub accepted : Accepted (rooms_of was) bytes records
  pub written : after ≡ filled_with (said records) was
  pub holds : SiteHolds (said records) site

pub record TurnedDown (bytes : List ℕ) (was after : Tables) (e : SiteRefusal) : Type 0 where
  pub same : after ≡ was
  pub why : ((16384 < length bytes) × (e ≡ record { line = 0; fault = TooLong })) ⊎ ((length bytes ≤ 16384) × Refused (rooms_of was) bytes e.line e.fault)

-- a whole site is read into the tables; or a line is refused, and the tables are as they were
abbrev pub SiteRead : List ℕ → Tables → Tables → Result Site SiteRefusal → Type 0
SiteRead bytes was after (Ok site) = Opened bytes was after site
SiteRead bytes was after (Err e) = TurnedDown bytes was after e

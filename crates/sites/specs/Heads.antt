-- The first two records read, and how far reading has come after some records. Assumes nothing.
use Rattle.std.specs.Prelude.{◌≡◌, ℕ, ◌+◌, ◌≤◌, true, List, [], ◌∷◌, ◌++◌, length, replicate, None, Ok, Err, Result}
use Rattle.carts.specs.declared.draft.Draft.{Draft}
use Rattle.carts.specs.Drafts.{horizon_refusal}
use Rattle.floors.specs.declared.lane_floor.LaneFloor.{LaneFloor}
use Rattle.floors.specs.Refusals.{size_fits}
use Rattle.sites.specs.declared.reading.Reading.{Reading}
use Rattle.sites.specs.declared.records.Record.{Record}
use Rattle.sites.specs.declared.records.Record.TheVariants.{Horizon, Places}
use Rattle.sites.specs.declared.refusal.SiteFault.{SiteFault}
use Rattle.sites.specs.declared.refusal.SiteRefusal.{SiteRefusal}
use Rattle.sites.specs.declared.rooms.Rooms.{Rooms}
use Rattle.sites.specs.Records.{records_text}
use Rattle.sites.specs.Reading.{Front}
use Rattle.sites.specs.Sites.{EachAfter, Stands, Accepted, FaultAt, Refused}
use Rattle.sites.specs.Holding.{Keeps}

-- the first record is taken off the bytes; or it is not read
abbrev pub HorizonRead : List ℕ → List ℕ → Result Draft SiteFault → Type 0
HorizonRead bytes rest (Ok d) = Front bytes (Horizon d.horizon) rest × (horizon_refusal d.horizon ≡ None) × (d.carts ≡ 0)
HorizonRead bytes rest (Err f) = (rooms : Rooms) → FaultAt rooms [] bytes f

-- the second record, likewise
abbrev pub PlacesRead : List ℕ → List ℕ → Result LaneFloor SiteFault → Type 0
PlacesRead bytes rest (Ok floor) = (n : ℕ) × Front bytes (Places n) rest × (size_fits n ≡ true) × (floor.table ≡ replicate n [])
PlacesRead bytes rest (Err f) = (rooms : Rooms) (h : ℕ) → FaultAt rooms (Horizon h ∷ []) bytes f

-- some records are read: the next begins the bytes that are left, on this line
pub record Reached (rooms : Rooms) (bytes rest : List ℕ) (line : ℕ) (r : Reading) : Type 0 where
  pub before : List Record
  pub stand : EachAfter (Stands rooms) [] before
  pub text : bytes ≡ records_text before ++ rest
  pub keeps : Keeps before r
  pub counted : line ≡ length before + 1
  pub few : line + length rest ≤ length bytes

abbrev pub HeadRead : List ℕ → List ℕ → Result Reading SiteRefusal → Type 0
HeadRead bytes rest (Ok r) = (rooms : Rooms) → Reached rooms bytes rest 3 r
HeadRead bytes rest (Err e) = (rooms : Rooms) → Refused rooms bytes e.line e.fault

-- all records are read, and the reader keeps what they say; or a line is refused
abbrev pub RecordsRead : Rooms → List ℕ → Result Reading SiteRefusal → Type 0
RecordsRead rooms bytes (Ok r) = (rs : List Record) × Accepted rooms bytes rs × Keeps rs r
RecordsRead rooms bytes (Err e) = Refused rooms bytes e.line e.fault

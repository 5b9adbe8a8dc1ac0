-- What holds of the format and of its reading: a text says one site at most, a printed site says itself, and each text is read in one way.
-- Assumes nothing.
use Rattle.std.specs.Prelude.{◌≡◌, ℕ, List, [], ◌∷◌, ◌++◌, map, None}
use Rattle.std.specs.List.{AllByRecursion}
use Rattle.costs.specs.declared.pair.Pair.{Pair}
use Rattle.costs.specs.declared.total.Total.{Total}
use Rattle.costs.specs.declared.worst.Worst.{Worst}
use Rattle.carts.specs.declared.cart.Cart.{Cart as CartRow}
use Rattle.sites.specs.declared.records.Record.{Record}
use Rattle.sites.specs.declared.records.Record.TheVariants.{Horizon, Places, Lane, Tariff, Cart}
use Rattle.sites.specs.declared.refusal.SiteFault.{SiteFault}
use Rattle.sites.specs.declared.rooms.Rooms.{Rooms}
use Rattle.sites.specs.Records.{Fitting, records_text}
use Rattle.sites.specs.Sites.{SiteData, said, EachAfter, Says, fault_of, Accepted, Refused}

abbrev pub tariff_record : Pair Total Worst → Record
tariff_record c = Tariff c.first.value c.second.value

abbrev pub cart_record : CartRow → Record
cart_record c = Cart c.start c.goal

-- a site printed: each lane has a record of its own
abbrev pub site_records : SiteData → List Record
site_records s =
    Horizon s.horizon
    ∷ (Places s.places ∷ (map Lane s.lanes ++ (map tariff_record s.tariff ++ map cart_record s.carts)))

abbrev pub site_text : SiteData → List ℕ
site_text s = records_text (site_records s)

-- no record of these lacks its row, or is refused by its call
abbrev pub NoneRefused : Rooms → List Record → Type 0
NoneRefused rooms rs = EachAfter (λ before r. fault_of rooms before r ≡ None) [] rs

pub record FormatStands : Type 0 where
  -- a text says one site at most
  pub one_site : (bytes : List ℕ) (s t : SiteData) → Says bytes s → Says bytes t → s ≡ t
  -- what is printed of a site says that site
  pub printed : (s : SiteData) → AllByRecursion Fitting (site_records s) → Says (site_text s) s

-- over tables of so many rows
pub record ReadingStands (rooms : Rooms) : Type 0 where
  -- what is accepted is just the texts of sites of which no record is refused
  pub accepted_says : (bytes : List ℕ) (rs : List Record) → Accepted rooms bytes rs → Says bytes (said rs) × NoneRefused rooms rs
  pub says_accepted : (bytes : List ℕ) (s : SiteData) (h : Says bytes s) → NoneRefused rooms h.records → Accepted rooms bytes h.records
  -- a text is accepted or refused, in one way
  pub one_accepted : (bytes : List ℕ) (rs ss : List Record) → Accepted rooms bytes rs → Accepted rooms bytes ss → rs ≡ ss
  pub not_both : (bytes : List ℕ) (rs : List Record) (line : ℕ) (fault : SiteFault) → Accepted rooms bytes rs → Refused rooms bytes line fault → ⊥
  pub one_refused : (bytes : List ℕ) (l m : ℕ) (f g : SiteFault) → Refused rooms bytes l f → Refused rooms bytes m g → (l ≡ m) × (f ≡ g)
  -- a printed site of which no record is refused is read back
  pub read_back : (s : SiteData) → AllByRecursion Fitting (site_records s) → NoneRefused rooms (site_records s) → Accepted rooms (site_text s) (site_records s) × (said (site_records s) ≡ s)

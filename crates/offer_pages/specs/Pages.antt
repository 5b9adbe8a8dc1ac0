-- The page of a site's text, or why there is none.
-- Assumes nothing.
use Rattle.std.specs.Prelude.{◌≡◌, ℕ, ◌<◌, ◌≤◌, ◌⊎◌, List, length, vec_items, decimal, Result, Vec}
use Rattle.std.specs.declared.alloc.Global.{Global}
use Rattle.costs.specs.Texts.{spaced}
use Rattle.rules.specs.Instances.{Instance}
use Rattle.sites.specs.declared.records.Record.{Record}
use Rattle.sites.specs.declared.refusal.SiteFault.TheVariants.{TooLong}
use Rattle.sites.specs.declared.refusal.SiteRefusal.{SiteRefusal}
use Rattle.sites.specs.declared.rooms.Rooms.{Rooms}
use Rattle.sites.specs.Sites.{said, Accepted, Refused}
use Rattle.offer_pages.specs.declared.fault.Fault.{Fault}
use Rattle.offer_pages.specs.declared.fault.Fault.TheVariants.{Unread}
use Rattle.pages.specs.declared.stop.Stop.{Stop}
use Rattle.pages.specs.Stops.{MadeOrRefused}
use Rattle.offer_pages.specs.Conditions.{LabelsFit, Checked, FailsAt}
use Rattle.offer_pages.specs.Rights.{AllRight}
use Rattle.offer_pages.specs.Texts.{page_text}
use Rattle.offer_pages.specs.Views.{Cost, instance_of}

-- the tables that a site is read into
abbrev pub site_rooms : Rooms
site_rooms = record { lanes = 1024; tariff = 256; carts = 6 }

-- a cost's text: its total, a space, its worst
abbrev pub total_worst_text : Cost → List ℕ
total_worst_text c = spaced (decimal c.first.value) (decimal c.second.value)

-- a site is read: it has at most 16,384 bytes, they are the text of records of which none is refused, and this is the instance that those say
pub record Read (bytes : List ℕ) (i : Instance Cost) : Type 0 where
  pub short : length bytes ≤ 16384
  pub records : List Record
  pub accepted : Accepted site_rooms bytes records
  pub says : instance_of (said records) ≡ i

-- a site is not read: it is too long, or else a line is refused, and none above it
abbrev pub NotRead : List ℕ → SiteRefusal → Type 0
NotRead bytes e =
    ((16384 < length bytes) × (e ≡ record { line = 0; fault = TooLong })) ⊎ ((length bytes ≤ 16384) × Refused site_rooms bytes e.line e.fault)

-- the site is not read; or it is, and this is the first check of its instance that fails
pub data FaultOf (bytes : List ℕ) (fault : Fault) : Type 0 where
  not_read : (e : SiteRefusal) → NotRead bytes e → fault ≡ Unread e → FaultOf bytes fault
  fails : (i : Instance Cost) → Read bytes i → FailsAt i fault → FaultOf bytes fault

-- a site is read and no check fails: each cart's offers stand on the page, and they are right
pub record PageOf (bytes out : List ℕ) : Type 0 where
  pub site : Instance Cost
  pub read : Read bytes site
  pub checked : Checked site
  pub labels : LabelsFit site
  pub right : AllRight site
  pub prints : out ≡ page_text total_worst_text site

-- memory may be wanting at any time
abbrev pub PageMade : List ℕ → Result (Vec ℕ Global) (Stop Fault) → Type 0
PageMade bytes = MadeOrRefused (λ v. PageOf bytes (vec_items v)) (FaultOf bytes)

-- A site that was read, as it is asked.
-- Assumes nothing.
use Rattle.std.proofs.Common.{◌≡◌, ℕ, ◌<◌, ◌≤◌, ◌⊎◌, true, List, map, length, take, drop, Ok, Err, is_ok, Result, Vec, sym, refl, ap, ◌∙◌, subst, arith}
use Rattle.std.proofs.lemmas.List.{length-append, take_at}
use Rattle.std.specs.declared.alloc.Global.{Global}
use Rattle.rules.specs.Instances.{Instance}
use Rattle.sites.specs.declared.refusal.SiteFault.TheVariants.{TooLong}
use Rattle.sites.specs.declared.refusal.SiteRefusal.{SiteRefusal}
use Rattle.sites.specs.declared.rooms.Rooms.{Rooms}
use Rattle.std.specs.Result.{MatchResult}
use Rattle.std.proofs.lemmas.Bool.{false≢true}
use Rattle.carts.specs.Carts.{cart_of}
use Rattle.sites.specs.declared.site.Site.{Site}
use Rattle.sites.specs.Reader.{Tables, rooms_of, Opened, TurnedDown, SiteRead}
use Rattle.sites.specs.Sites.{said, Accepted, Refused}
use Rattle.sites.specs.Writing.{filled}
use Rattle.offer_pages.specs.declared.fault.Fault.{Fault}
use Rattle.offer_pages.specs.declared.fault.Fault.TheVariants.{Unread}
use Rattle.pages.specs.declared.stop.Stop.{Stop}
use Rattle.pages.specs.declared.stop.Stop.TheVariants.{Memory, Refused as Declined}
use Rattle.offer_pages.specs.Carts.{PageAdded}
use Rattle.offer_pages.specs.Pages.{site_rooms, total_worst_text, Read, NotRead, not_read, fails, PageMade}
use Rattle.offer_pages.specs.Views.{Cost, site_kind, instance_of}

-- the first rows of a table are those that were filled
pub first_rows : {X : Type 0} (rows was after : List X) (n : ℕ) → after ≡ filled rows was → n ≡ length rows → take n after ≡ rows
first_rows rows was after n e l = ap (take n) e ∙ take_at rows (drop (length rows) was) n (sym l)

pub same_rooms : (t : Tables) → length t.lanes ≡ 1024 → length t.tariff ≡ 256 → length t.carts ≡ 6 → rooms_of t ≡ site_rooms
same_rooms t a b c = λ s. record { lanes = a s; tariff = b s; carts = c s }

pub turned_down : (bytes : List ℕ) (was after : Tables) (e : SiteRefusal) → rooms_of was ≡ site_rooms → TurnedDown bytes was after e → NotRead bytes e
turned_down bytes was after e rooms d =
    subst (λ (r : Rooms). ((16384 < length bytes) × (e ≡ record { line = 0; fault = TooLong })) ⊎ ((length bytes ≤ 16384) × Refused r bytes e.line e.fault)) rooms d.why

-- a refusal, as it stops the page
pub unread : (bytes : List ℕ) (was after : Tables) (r : Result Site SiteRefusal) (Says : SiteRefusal → Type 0) (fault : Fault) → length was.lanes ≡ 1024 → length was.tariff ≡ 256 → length was.carts ≡ 6 → SiteRead bytes was after r → MatchResult r (λ site. ◌≡◌ {A = Result Site Fault} (Err fault) (Ok site)) Says → ((e : SiteRefusal) → Says e → fault ≡ Unread e) → PageMade bytes (Err (Declined fault))
unread bytes was after (Ok site) Says fault a b c read h says = let z : ◌≡◌ {A = ℕ} 0 1 = cc in absurd (omega arith)
unread bytes was after (Err e) Says fault a b c read h says =
    subst (λ (f : Fault). PageMade bytes (Err (Declined f))) (sym (says e h)) (not_read e (turned_down bytes was after e (same_rooms was a b c) read) refl)

-- a site that was read
pub opened : (bytes : List ℕ) (was after : Tables) (r : Result Site SiteRefusal) (Says : SiteRefusal → Type 0) (site : Site) → SiteRead bytes was after r → MatchResult r (λ s. ◌≡◌ {A = Result Site Fault} (Ok site) (Ok s)) Says → true ≡ is_ok r → Opened bytes was after site
opened bytes was after (Ok s) Says site read h ok = let is : s ≡ site = cc in subst (λ (t : Site). Opened bytes was after t) is read
opened bytes was after (Err e) Says site read h ok = absurd (false≢true (sym ok))

-- a page of what was read
pub page-made : (bytes : List ℕ) (i : Instance Cost) (r : Result (Vec ℕ Global) (Stop Fault)) → Read bytes i → PageAdded total_worst_text i r → PageMade bytes r
page-made bytes i (Ok v) read h = record { site = i; read = read; checked = h.0; labels = h.1; right = h.2; prints = h.3 }
page-made bytes i (Err (Declined fault)) read h = fails i read h
page-made bytes i (Err Memory) read h = tt

pub page_read : (bytes : List ℕ) (was after : Tables) (site : Site) (r : Result (Vec ℕ Global) (Stop Fault)) (carts ticks : ℕ) (read : Opened bytes was after site) → length was.lanes ≡ 1024 → length was.tariff ≡ 256 → length was.carts ≡ 6 → carts ≡ length (said read.records).carts → ticks ≡ (said read.records).horizon → PageAdded total_worst_text (record { kind = site_kind; moves = site.floor.table; tariff = take site.tariff after.tariff; carts = map cart_of (take carts after.carts); horizon = ticks }) r → PageMade bytes r
page_read bytes was after site r carts ticks read a b c count same_ticks h =
    let s = said read.records in
    let lines : site.tariff ≡ length s.tariff = omega (arith, read.holds.tariff) in
    let tariff = first_rows s.tariff was.tariff after.tariff site.tariff (ap (λ t. t.tariff) read.written) lines in
    let rows = first_rows s.carts was.carts after.carts carts (ap (λ t. t.carts) read.written) count in
    let i : Instance Cost = record { kind = site_kind; moves = site.floor.table; tariff = take site.tariff after.tariff; carts = map cart_of (take carts after.carts); horizon = ticks } in
    let same : instance_of s ≡ i = λ t. record { kind = site_kind; moves = sym read.holds.floor t; tariff = sym tariff t; carts = map cart_of (sym rows t); horizon = sym same_ticks t } in
    page-made bytes i r
    (record { short = read.short; records = read.records; accepted = subst (λ (q : Rooms). Accepted q bytes read.records) (same_rooms was a b c) read.accepted; says = same })
    h

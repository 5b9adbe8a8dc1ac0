-- How far reading has come: after the first two records, and one record on. Assumes nothing.
use Rattle.std.proofs.Common.{◌≡◌, ℕ, ◌+◌, ◌<◌, ◌≤◌, true, List, [], ◌∷◌, ◌++◌, length, replicate, None, Ok, Err, sym, refl, ap, ◌∙◌, subst, inl, inr, arith}
use Rattle.std.proofs.lemmas.List.{append-nil, length-append, length_push, nil_from_length}
use Rattle.std.proofs.lemmas.Bool.{cond-true}
use Rattle.carts.specs.declared.cart.Cart.{Cart as CartRow}
use Rattle.carts.specs.declared.draft.Draft.{Draft}
use Rattle.carts.specs.Drafts.{horizon_refusal}
use Rattle.floors.specs.declared.lane_floor.LaneFloor.{LaneFloor}
use Rattle.floors.specs.Lanes.{lane_count}
use Rattle.floors.specs.Refusals.{size_fits}
use Rattle.floors.proofs.LaneTables.{count_none, none_from}
use Rattle.sites.specs.declared.rank.Rank.TheVariants.{Places as AfterPlaces}
use Rattle.sites.specs.declared.reading.Reading.{Reading}
use Rattle.sites.specs.declared.records.Record.{Record}
use Rattle.sites.specs.declared.records.Record.TheVariants.{Horizon, Places}
use Rattle.sites.specs.declared.refusal.SiteFault.{SiteFault}
use Rattle.sites.specs.declared.refusal.SiteFault.TheVariants.{Misread}
use Rattle.sites.specs.declared.refusal.SiteRefusal.{SiteRefusal}
use Rattle.sites.specs.declared.rooms.Rooms.{Rooms}
use Rattle.sites.specs.Records.{Fitting, numbers, numbers_text, record_text, records_text}
use Rattle.sites.specs.Sites.{last_rank, MayFollow, draft_fault, Stands, FaultAt, Refused}
use Rattle.sites.specs.Holding.{Took}
use Rattle.sites.specs.Reading.{Front}
use Rattle.sites.specs.Heads.{Reached, RecordsRead}
use Rattle.sites.proofs.Results.{placed}
use Rattle.sites.proofs.RecordLists.{each_push, text_push}
use Rattle.sites.proofs.Texts.{record_same}

pub refused_at : (rooms : Rooms) (bytes : List ℕ) (line : ℕ) (f : SiteFault) (e : SiteRefusal) → e ≡ placed line f → Refused rooms bytes line f → Refused rooms bytes e.line e.fault
refused_at rooms bytes line f e same h = let P : SiteRefusal → Type 0 = λ r. Refused rooms bytes r.line r.fault in subst P (sym same) h

pub first_refused : (rooms : Rooms) (bytes : List ℕ) (f : SiteFault) → FaultAt rooms [] bytes f → Refused rooms bytes 1 f
first_refused rooms bytes f why = record { before = []; left = bytes; text = refl; stand = tt; counted = refl; why = why }

-- a record is at least three bytes long
pub front_long : (bytes : List ℕ) (r : Record) (rest : List ℕ) → Front bytes r rest → 3 + length rest ≤ length bytes
front_long bytes r rest f =
    let a = ap length f.text in
    let b = length-append (record_text r) rest in
    let c = length-append (numbers_text (numbers r)) (10 ∷ []) in
    omega arith

module _ (rooms : Rooms) (bytes rest : List ℕ) (draft : Draft) (front : Front bytes (Horizon draft.horizon) rest) (free : horizon_refusal draft.horizon ≡ None) where
  first_stands : Stands rooms [] (Horizon draft.horizon)
  first_stands = record { fitting = front.fitting; follows = refl; taken = ap draft_fault free }

  pub second_refused : (f : SiteFault) → FaultAt rooms (Horizon draft.horizon ∷ []) rest f → Refused rooms bytes 2 f
  second_refused f why =
      record {
        before = Horizon draft.horizon ∷ [];
        left = rest;
        text = front.text ∙ sym (text_push [] (Horizon draft.horizon) rest);
        stand = (first_stands, tt);
        counted = refl;
        why = why;
      }

  pub third_reached : (floor : LaneFloor) (places : ℕ) (left : List ℕ) (blank : CartRow) → draft.carts ≡ 0 → Front rest (Places places) left → size_fits places ≡ true → floor.table ≡ replicate places [] → Reached rooms bytes left 3 (record { site = record { draft = draft; floor = floor; lanes = 0; tariff = 0 }; carts = replicate 6 blank; rank = AfterPlaces })
  third_reached floor places left blank none front' fits moves =
      let first = Horizon draft.horizon in
      let long = front_long bytes _ rest front in
      let long' = front_long rest _ left front' in
      record {
        before = first ∷ (Places places ∷ []);
        stand = (first_stands, (record { fitting = front'.fitting; follows = refl; taken = cond-true (size_fits places) _ _ fits }, tt));
        text = front.text ∙ ap (λ t. record_text first ++ t) front'.text ∙ sym (text_push (first ∷ []) (Places places) left ∙ text_push [] first _);
        keeps = record {
          holds = record {
            horizon = refl;
            entered = none;
            carts = refl;
            rows = refl;
            floor = moves ∙ sym (none_from 0 places);
            counted = ap lane_count moves ∙ count_none places;
            lanes = refl;
            tariff = refl;
          };
          ranked = refl;
          begun = omega arith;
        };
        counted = refl;
        few = omega arith;
      }

module _ (rooms : Rooms) (bytes rest : List ℕ) (line : ℕ) (was : Reading) (h : Reached rooms bytes rest line was) where
  refused_here : (f : SiteFault) → FaultAt rooms h.before rest f → Refused rooms bytes line f
  refused_here f why = record { before = h.before; left = rest; text = h.text; stand = h.stand; counted = h.counted; why = why }

  pub misread_here : 0 < length rest → ((r : Record) (more : List ℕ) → Fitting r → rest ≡ record_text r ++ more → ⊥) → Refused rooms bytes line Misread
  misread_here some none = refused_here Misread (inl (refl, record { no_record = λ r u f m e. none r u f e; no_end = λ e w. omega (arith, ap length e) }))

  module _ (r : Record) (left : List ℕ) (front : Front rest r left) where
    pub next_refused : (f : SiteFault) → Took rooms h.before r (Err f) → Refused rooms bytes line f
    next_refused f (inl t) =
        refused_here f
        (inl (
          t.0,
          record {
            no_record = λ s u fits m e.
                let same = (record_same s r u left fits front.fitting (sym e ∙ front.text)).0 in
                let P : Record → Type 0 = MayFollow (last_rank h.before) in
                t.1 (subst P same m);
            no_end = λ e w. let long = front_long rest r left front in omega (arith, ap length e);
          },
        ))
    next_refused f (inr t) =
        refused_here f
        (inr (record { «record» = r; more = left; fitting = front.fitting; follows = t.0; text = front.text; refused = t.1 }))

    pub next_reached : (x : Reading) → Took rooms h.before r (Ok x) → Reached rooms bytes left (line + 1) x
    next_reached x t =
        let long = front_long rest r left front in
        let few = h.few in
        record {
          before = h.before ++ r ∷ [];
          stand = each_push (Stands rooms) [] h.before r h.stand (record { fitting = front.fitting; follows = t.0; taken = t.1 });
          text = h.text ∙ ap (λ u. records_text h.before ++ u) front.text ∙ sym (text_push h.before r left);
          keeps = t.2;
          counted = ap (λ k. k + 1) (h.counted ∙ sym (length_push h.before r));
          few = omega arith;
        }

  pub all_read : length rest ≡ 0 → RecordsRead rooms bytes (Ok was)
  all_read end = (
    h.before,
    record {
      text = h.text ∙ ap (λ u. records_text h.before ++ u) (nil_from_length rest end) ∙ append-nil (records_text h.before);
      stand = h.stand;
      whole = h.keeps.begun;
    },
    h.keeps,
  )

-- The promises of the format and of its reading. Assumes nothing.
use Rattle.std.proofs.Common.{◌≡◌, ℕ, ◌+◌, List, [], ◌++◌, length, Some, None, sym, refl, ap, ◌∙◌}
use Rattle.std.specs.List.{AllByRecursion}
use Rattle.std.proofs.lemmas.List.{append-nil}
use Rattle.sites.specs.declared.records.Record.{Record}
use Rattle.sites.specs.declared.rooms.Rooms.{Rooms}
use Rattle.sites.specs.Records.{Fitting, records_text}
use Rattle.sites.specs.Sites.{SiteData, said, EachAfter, Placed, Says, fault_of, Stands, Accepted}
use Rattle.sites.specs.Promises.{site_records, NoneRefused, FormatStands, ReadingStands}
use Rattle.sites.proofs.Texts.{records_same}
use Rattle.sites.proofs.Outcomes.{one_way}
use Rattle.sites.proofs.RecordLists.{all_from_each, each_both, each_weaker}
use Rattle.sites.proofs.Printing.{said-back, printed_well_formed}

fitting : (rs : List Record) → EachAfter Placed [] rs → AllByRecursion Fitting rs
fitting rs h = all_from_each Placed Fitting (λ before r p. p.fitting) [] rs h

pub format_stands : FormatStands
format_stands =
    record {
      one_site = λ bytes s t a b.
          let same = records_same a.records b.records (fitting a.records a.well_formed.placed) (fitting b.records b.well_formed.placed) (sym a.text ∙ b.text) in
          sym a.says ∙ ap said same ∙ b.says;
      printed = λ s fits. record { records = site_records s; well_formed = printed_well_formed s fits; text = refl; says = said-back s fits };
    }

module _ (rooms : Rooms) where
  to_end : (bytes : List ℕ) (rs : List Record) → Accepted rooms bytes rs → bytes ≡ records_text rs ++ []
  to_end bytes rs a = a.text ∙ sym (append-nil (records_text rs))

  accepted : (bytes : List ℕ) (s : SiteData) (h : Says bytes s) → NoneRefused rooms h.records → Accepted rooms bytes h.records
  accepted bytes s h none =
      record {
        text = h.text;
        stand = each_both Placed (λ before r. fault_of rooms before r ≡ None) (Stands rooms) (λ before r p t. record { fitting = p.fitting; follows = p.follows; taken = t }) [] h.records h.well_formed.placed none;
        whole = h.well_formed.whole;
      }

  pub reading_stands : ReadingStands rooms
  unfolding format_stands
  reading_stands =
      record {
        accepted_says = λ bytes rs a. (
          record {
            records = rs;
            well_formed = record { placed = each_weaker (Stands rooms) Placed (λ before r h. record { fitting = h.fitting; follows = h.follows }) [] rs a.stand; whole = a.whole };
            text = a.text;
            says = refl;
          },
          each_weaker (Stands rooms) (λ before r. fault_of rooms before r ≡ None) (λ before r h. h.taken) [] rs a.stand,
        );
        says_accepted = accepted;
        one_accepted = λ bytes rs ss a b.
            (one_way rooms [] rs ss [] [] None None a.stand b.stand (sym (to_end bytes rs a) ∙ to_end bytes ss b) (refl, a.whole) (refl, b.whole)).0;
        not_both = λ bytes rs line fault a b.
            let same = (one_way rooms [] rs b.before [] b.left None (Some fault) a.stand b.stand (sym (to_end bytes rs a) ∙ b.text) (refl, a.whole) b.why).1 in
            cc;
        one_refused = λ bytes l m f g a b.
            let same = one_way rooms [] a.before b.before a.left b.left (Some f) (Some g) a.stand b.stand (sym a.text ∙ b.text) a.why b.why in
            let lines = same.0 in
            let faults = same.1 in
            (a.counted ∙ ap (λ rs. length rs + 1) lines ∙ sym b.counted, cc);
        read_back = λ s fits none.
            (accepted _ s (format_stands.printed s fits) none, said-back s fits);
      }

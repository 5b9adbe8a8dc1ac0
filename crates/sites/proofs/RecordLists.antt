-- Lists of records: what their parts are one record on, and records that each stand in a relation to those before them. Assumes nothing.
use Rattle.std.proofs.Common.{◌≡◌, ℕ, List, [], ◌∷◌, ◌++◌, sym, refl, ap, ◌∙◌, subst}
use Rattle.std.specs.List.{flat_map, AllByRecursion}
use Rattle.std.proofs.lemmas.Grind.{flat_map-append}
use Rattle.std.proofs.lemmas.List.{append_assoc, append-nil}
use Rattle.sites.specs.declared.records.Record.{Record}
use Rattle.sites.specs.Records.{record_text, records_text}
use Rattle.sites.specs.Sites.{rank, last_rank, EachAfter}

pub part_push : {Y : Type 0} (f : Record → List Y) (before : List Record) (r : Record) → flat_map f (before ++ r ∷ []) ≡ flat_map f before ++ f r
part_push f before r = flat_map-append f before (r ∷ []) ∙ ap (λ t. flat_map f before ++ t) (append-nil (f r))

pub text_push : (rs : List Record) (r : Record) (more : List ℕ) → records_text (rs ++ r ∷ []) ++ more ≡ records_text rs ++ (record_text r ++ more)
text_push rs r more = ap (λ t. t ++ more) (part_push record_text rs r) ∙ append_assoc (records_text rs) (record_text r) more

pub last_push : (rs : List Record) (r : Record) → last_rank (rs ++ r ∷ []) ≡ rank r
last_push [] r = refl
last_push (a ∷ []) r = refl
last_push (a ∷ (b ∷ rs)) r = last_push (b ∷ rs) r

module _ (P : List Record → Record → Type 0) where
  pub each_push : (done rs : List Record) (r : Record) → EachAfter P done rs → P (done ++ rs) r → EachAfter P done (rs ++ r ∷ [])
  each_push done [] r h p = let Q : List Record → Type 0 = λ t. P t r in (subst Q (append-nil done) p, tt)
  each_push done (a ∷ rs) r h p =
      let Q : List Record → Type 0 = λ t. P t r in
      (h.0, each_push (done ++ a ∷ []) rs r h.1 (subst Q (sym (append_assoc done (a ∷ []) rs)) p))

  pub all_from_each : (Q : Record → Type 0) → ((before : List Record) (r : Record) → P before r → Q r) → (done rs : List Record) → EachAfter P done rs → AllByRecursion Q rs
  all_from_each Q f done [] h = tt
  all_from_each Q f done (r ∷ rs) h = (f done r h.0, all_from_each Q f (done ++ r ∷ []) rs h.1)

  pub each_weaker : (Q : List Record → Record → Type 0) → ((before : List Record) (r : Record) → P before r → Q before r) → (done rs : List Record) → EachAfter P done rs → EachAfter Q done rs
  each_weaker Q f done [] h = tt
  each_weaker Q f done (r ∷ rs) h = (f done r h.0, each_weaker Q f (done ++ r ∷ []) rs h.1)

  pub each_both : (Q R : List Record → Record → Type 0) → ((before : List Record) (r : Record) → P before r → Q before r → R before r) → (done rs : List Record) → EachAfter P done rs → EachAfter Q done rs → EachAfter R done rs
  each_both Q R f done [] g h = tt
  each_both Q R f done (r ∷ rs) g h = (f done r g.0 h.0, each_both Q R f (done ++ r ∷ []) rs g.1 h.1)

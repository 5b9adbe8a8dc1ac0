-- Bytes are read in one way only. Assumes nothing.
use Rattle.std.proofs.Common.{◌≡◌, ℕ, ◌≤◌, List, [], ◌∷◌, ◌++◌, Some, None, Option, sym, refl, ap, ◌∙◌, subst, inl, inr}
use Rattle.std.proofs.lemmas.List.{append_assoc, append-nil}
use Rattle.sites.specs.declared.records.Record.{Record}
use Rattle.sites.specs.declared.refusal.SiteFault.{SiteFault}
use Rattle.sites.specs.declared.rooms.Rooms.{Rooms}
use Rattle.sites.specs.Records.{record_text, records_text}
use Rattle.sites.specs.Sites.{last_rank, EachAfter, fault_of, Stands, RefusedAt, FaultAt}
use Rattle.sites.proofs.Texts.{record_same}

module _ (rooms : Rooms) where
  -- how reading ends after some records: with the whole site, or at a fault
  abbrev pub Ends : List Record → List ℕ → Option SiteFault → Type 0
  Ends before left None = (left ≡ []) × (2 ≤ last_rank before)
  Ends before left (Some f) = FaultAt rooms before left f

  two_refused : (before : List Record) (left : List ℕ) (f g : SiteFault) → RefusedAt rooms before left f → RefusedAt rooms before left g → f ≡ g
  two_refused before left f g a b =
      let same = (record_same a.«record» b.«record» a.more b.more a.fitting b.fitting (sym a.text ∙ b.text)).0 in
      let p = a.refused in
      let q = b.refused in
      let r = ap (fault_of rooms before) same in
      cc

  ends_same : (before : List Record) (left : List ℕ) (o p : Option SiteFault) → Ends before left o → Ends before left p → o ≡ p
  ends_same before left None None a b = refl
  ends_same before left None (Some g) a (inl m) = absurd (m.1.no_end a.0 a.1)
  ends_same before left None (Some g) a (inr b) = let e = a.0 in let t = b.text in cc
  ends_same before left (Some f) None (inl m) b = absurd (m.1.no_end b.0 b.1)
  ends_same before left (Some f) None (inr a) b = let e = b.0 in let t = a.text in cc
  ends_same before left (Some f) (Some g) (inl m) (inl n) = ap Some (m.0 ∙ sym n.0)
  ends_same before left (Some f) (Some g) (inl m) (inr b) = absurd (m.1.no_record b.«record» b.more b.fitting b.follows b.text)
  ends_same before left (Some f) (Some g) (inr a) (inl n) = absurd (n.1.no_record a.«record» a.more a.fitting a.follows a.text)
  ends_same before left (Some f) (Some g) (inr a) (inr b) = ap Some (two_refused before left f g a b)

  -- reading does not end before a record that stands
  goes_on : (before : List Record) (left : List ℕ) (o : Option SiteFault) (r : Record) (more : List ℕ) → Stands rooms before r → left ≡ record_text r ++ more → Ends before left o → ⊥
  goes_on before left None r more s e h = let k = h.0 in cc
  goes_on before left (Some f) r more s e (inl m) = m.1.no_record r more s.fitting s.follows e
  goes_on before left (Some f) r more s e (inr a) =
      let same = (record_same a.«record» r a.more more a.fitting s.fitting (sym a.text ∙ e)).0 in
      let p = a.refused in
      let q = s.taken in
      let w = ap (fault_of rooms before) same in
      cc

  -- two readings of the same bytes are the same
  pub one_way : (done rs ss : List Record) (l m : List ℕ) (o p : Option SiteFault) → EachAfter (Stands rooms) done rs → EachAfter (Stands rooms) done ss → records_text rs ++ l ≡ records_text ss ++ m → Ends (done ++ rs) l o → Ends (done ++ ss) m p → (rs ≡ ss) × (o ≡ p)
  one_way done [] [] l m o p sa sb e ea eb =
      let P : List ℕ → Type 0 = λ t. Ends (done ++ []) t o in
      (refl, ends_same (done ++ []) m o p (subst P e ea) eb)
  one_way done [] (b ∷ ss) l m o p sa sb e ea eb =
      let P : List Record → Type 0 = λ t. Ends t l o in
      absurd (goes_on done l o b (records_text ss ++ m) sb.0 (e ∙ append_assoc (record_text b) (records_text ss) m) (subst P (append-nil done) ea))
  one_way done (a ∷ rs) [] l m o p sa sb e ea eb =
      let P : List Record → Type 0 = λ t. Ends t m p in
      absurd (goes_on done m p a (records_text rs ++ l) sa.0 (sym e ∙ append_assoc (record_text a) (records_text rs) l) (subst P (append-nil done) eb))
  one_way done (a ∷ rs) (b ∷ ss) l m o p sa sb e ea eb =
      let flat = sym (append_assoc (record_text a) (records_text rs) l) ∙ e ∙ append_assoc (record_text b) (records_text ss) m in
      let one = record_same a b (records_text rs ++ l) (records_text ss ++ m) sa.0.fitting sb.0.fitting flat in
      let S : Record → Type 0 = λ r. EachAfter (Stands rooms) (done ++ r ∷ []) ss in
      let P : List Record → Type 0 = λ t. Ends t l o in
      let Q : List Record → Type 0 = λ t. Ends t m p in
      let Q' : Record → Type 0 = λ r. Ends ((done ++ r ∷ []) ++ ss) m p in
      let more = one_way (done ++ a ∷ []) rs ss l m o p sa.1 (subst S (sym one.0) sb.1) one.1
      (subst P (sym (append_assoc done (a ∷ []) rs)) ea)
      (subst Q' (sym one.0) (subst Q (sym (append_assoc done (b ∷ []) ss)) eb)) in
      ((λ i. one.0 i ∷ more.0 i), more.1)

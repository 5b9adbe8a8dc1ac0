-- The numbers of the site reader's refusals. Assumes nothing.
use Rattle.std.specs.Prelude.{ℕ, List, [], ◌∷◌, slice_index}
use Rattle.carts.specs.Drafts.{draft_refusal_number}
use Rattle.floors.specs.Refusals.{numbered}
use Rattle.sites.specs.declared.refusal.SiteFault.{SiteFault}
use Rattle.sites.specs.declared.refusal.SiteFault.TheVariants.{TooLong, Misread, NoRow, Draft, Floor}
use Rattle.sites.specs.declared.refusal.SiteRefusal.{SiteRefusal}

-- the refusal of the record's call and its row, 0 where there is none
abbrev pub carried : SiteFault → List ℕ
carried TooLong = 0 ∷ (0 ∷ [])
carried Misread = 0 ∷ (0 ∷ [])
carried NoRow = 0 ∷ (0 ∷ [])
carried (Draft e) = draft_refusal_number e ∷ (0 ∷ [])
carried (Floor e) = (numbered e).0 ∷ (slice_index (numbered e).1 0 ∷ [])

abbrev pub refusal_numbers : SiteRefusal → List ℕ
refusal_numbers e = 20 ∷ (e.line ∷ carried e.fault)

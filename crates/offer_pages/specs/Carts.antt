-- What the offers of one cart, and of all carts, add to a page.
-- Assumes nothing.
use Rattle.std.specs.Prelude.{◌≡◌, ℕ, suc, ◌<◌, ◌≤◌, List, [], ◌++◌, Some, None, vec_items, Option, Result, Vec}
use Rattle.std.specs.declared.alloc.Global.{Global}
use Rattle.rules.specs.Instances.{Instance}
use Rattle.rules.specs.Offers.{Label, offers, label_count}
use Rattle.offer_pages.specs.declared.fault.Fault.{Fault}
use Rattle.offer_pages.specs.declared.fault.Fault.TheVariants.{ManyLabels}
use Rattle.pages.specs.declared.stop.Stop.{Stop}
use Rattle.pages.specs.Stops.{MadeOrRefused}
use Rattle.offer_pages.specs.Conditions.{LabelsFit, Checked, FailsAt}
use Rattle.offer_pages.specs.Rights.{AllRight}
use Rattle.offer_pages.specs.Texts.{offer_text, cart_text, page_text}

-- the text of an offer, if there is one
abbrev pub option_text : {C : Type 0} → (C → List ℕ) → Option (Label C) → List ℕ
option_text text None = []
option_text text (Some o) = offer_text text o

-- what the calls ask: ticks and rows as many as there should be, and every check passed
pub record Ready {C : Type 0} (i : Instance C) (rows places : ℕ) : Type 0 where
  pub ticks : i.horizon ≤ 64
  pub many : rows ≡ 2048
  pub long : places ≡ suc i.horizon
  pub checked : Checked i

module _ {C : Type 0} (text : C → List ℕ) (i : Instance C) where
  -- a cart's offers are added, or it has too many labels; memory may be wanting at any time
  abbrev pub CartAdded : ℕ → List ℕ → List ℕ → Result Unit (Stop Fault) → Type 0
  CartAdded cart was after =
      MadeOrRefused (λ u. (label_count i cart [] ≤ 2048) × (after ≡ was ++ cart_text text cart (offers i cart []))) (λ fault. (fault ≡ ManyLabels) × (2048 < label_count i cart []))

  -- the page, whose offers are right; or the first check that fails
  abbrev pub PageAdded : Result (Vec ℕ Global) (Stop Fault) → Type 0
  PageAdded = MadeOrRefused (λ v. Checked i × LabelsFit i × AllRight i × (vec_items v ≡ page_text text i)) (FailsAt i)

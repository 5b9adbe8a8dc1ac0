-- What an instance has to keep to have a page of offers.
-- Assumes nothing.
use Rattle.std.specs.Prelude.{ℕ, ◌<◌, ◌≤◌, [], length}
use Rattle.std.specs.List.{AllByRecursion}
use Rattle.rules.specs.Instances.{Instance, places, cart_count}
use Rattle.rules.specs.Offers.{label_count}
use Rattle.offer_pages.specs.declared.fault.Fault.{Fault}
use Rattle.offer_pages.specs.declared.fault.Fault.TheVariants.{Unread, NoCart, OffFloor, NoLine, ManyLabels}

module _ {C : Type 0} (i : Instance C) where
  abbrev pub SomeCart : Type 0
  SomeCart = 0 < cart_count i

  -- each cart's start and goal are places of the floor
  abbrev pub OnFloor : Type 0
  OnFloor = AllByRecursion (λ c. (c.start < places i) × (c.goal < places i)) i.carts

  -- the tariff has 1 to 255 lines, and each move's line is one of them
  pub record LinesThere : Type 0 where
    pub some : 1 ≤ length i.tariff
    pub few : length i.tariff ≤ 255
    pub inside : AllByRecursion (AllByRecursion (λ m. m.line < length i.tariff)) i.moves

  -- no cart, alone, has above 2,048 labels
  abbrev pub LabelsFit : Type 0
  LabelsFit = (cart : ℕ) → cart < cart_count i → label_count i cart [] ≤ 2048

  -- every check passes but for the labels
  pub record Checked : Type 0 where
    pub some_cart : SomeCart
    pub on_floor : OnFloor
    pub lines : LinesThere

  -- the first check that fails
  abbrev pub FailsAt : Fault → Type 0
  FailsAt (Unread e) = ⊥
  FailsAt NoCart = SomeCart → ⊥
  FailsAt OffFloor = SomeCart × (OnFloor → ⊥)
  FailsAt NoLine = SomeCart × OnFloor × (LinesThere → ⊥)
  FailsAt ManyLabels = Checked × (LabelsFit → ⊥)

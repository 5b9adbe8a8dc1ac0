-- The instance of the rules that a site means, as it is read and as it is asked.
-- Assumes nothing.
use Rattle.std.specs.Prelude.{ℕ, List, [], map}
use Rattle.costs.specs.Pairs.{pair_kind}
use Rattle.costs.specs.Totals.{total_kind}
use Rattle.costs.specs.Worsts.{worst_kind}
use Rattle.costs.specs.declared.pair.Pair.{Pair}
use Rattle.costs.specs.declared.total.Total.{Total}
use Rattle.costs.specs.declared.worst.Worst.{Worst}
use Rattle.carts.specs.Carts.{cart_of}
use Rattle.floors.specs.Lanes.{lane_moves}
use Rattle.labels.specs.Queries.{Asked}
use Rattle.rules.specs.Kinds.{Kind}
use Rattle.rules.specs.Instances.{Instance, Move}
use Rattle.sites.specs.Sites.{SiteData}
use Rattle.offer_pages.specs.declared.view.SiteView.{SiteView}

-- a site's costs: a total and a worst
abbrev pub Cost : Type 0
Cost = Pair Total Worst

abbrev pub site_kind : Kind Cost
site_kind = pair_kind total_kind worst_kind

-- the instance that a site says
abbrev pub instance_of : SiteData → Instance Cost
instance_of s =
    record { kind = site_kind; moves = lane_moves s.places s.lanes; tariff = s.tariff; carts = map cart_of s.carts; horizon = s.horizon }

-- the instance that is asked
abbrev pub meant : {F C : Type 0} → (F → List (List Move)) → Kind C → SiteView F C → Instance C
meant moves k v = record { kind = k; moves = moves v.floor.now; tariff = v.tariff.now; carts = map cart_of v.carts.now; horizon = v.horizon }

-- a cart as if it were alone
abbrev pub alone : {C : Type 0} → Instance C → ℕ → Asked C
alone i cart = record { inst = i; cart = cart; constraints = [] }

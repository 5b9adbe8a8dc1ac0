-- The records of a site and their text. Assumes nothing.
use Rattle.std.specs.Prelude.{ℕ, ◌≤◌, List, [], ◌∷◌, ◌++◌, decimal}
use Rattle.std.specs.List.{flat_map, AllByRecursion}
use Rattle.sites.specs.declared.records.Record.{Record}
use Rattle.sites.specs.declared.records.Record.TheVariants.{Horizon, Places, Lane, BothLanes, Tariff, Cart}

-- the two bytes of a record's mark: HZ, PL, LN, LB, TF, CT
abbrev pub mark_first : Record → ℕ
mark_first (Horizon h) = 72
mark_first (Places p) = 80
mark_first (Lane l) = 76
mark_first (BothLanes l) = 76
mark_first (Tariff t w) = 84
mark_first (Cart s g) = 67

abbrev pub mark_second : Record → ℕ
mark_second (Horizon h) = 90
mark_second (Places p) = 76
mark_second (Lane l) = 78
mark_second (BothLanes l) = 66
mark_second (Tariff t w) = 70
mark_second (Cart s g) = 84

abbrev pub numbers : Record → List ℕ
numbers (Horizon h) = h ∷ []
numbers (Places p) = p ∷ []
numbers (Lane l) = l.from ∷ (l.to ∷ (l.line ∷ []))
numbers (BothLanes l) = l.from ∷ (l.to ∷ (l.line ∷ []))
numbers (Tariff t w) = t ∷ (w ∷ [])
numbers (Cart s g) = s ∷ (g ∷ [])

-- each number after one space, in base ten without leading zeros
abbrev pub numbers_text : List ℕ → List ℕ
numbers_text [] = []
numbers_text (n ∷ ns) = 32 ∷ (decimal n ++ numbers_text ns)

-- a record's line, without the newline that ends it
abbrev pub line_text : Record → List ℕ
line_text r = mark_first r ∷ (mark_second r ∷ numbers_text (numbers r))

abbrev pub record_text : Record → List ℕ
record_text r = line_text r ++ (10 ∷ [])

abbrev pub records_text : List Record → List ℕ
records_text rs = flat_map record_text rs

-- no number is above 65,535
abbrev pub Fitting : Record → Type 0
Fitting r = AllByRecursion (λ n. n ≤ 65535) (numbers r)

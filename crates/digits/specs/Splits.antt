-- Bytes on both sides of a mark. Assumes nothing.
use Rattle.std.specs.Prelude.{◌≡◌, ℕ, List, ◌∷◌, ◌++◌, Some, None, Option, ◌≢◌}
use Rattle.std.specs.Borrow.{Bor}
use Rattle.std.specs.List.{AllByRecursion}

-- no byte of bs is the mark
abbrev pub Without : ℕ → List ℕ → Type 0
Without mark bs = AllByRecursion (λ b. b ≢ mark) bs

-- what stands before and after the first mark; none where there is no mark
abbrev pub SplitOnce : ℕ → List ℕ → Option (Bor (List ℕ) × Bor (List ℕ)) → Type 0
SplitOnce mark bs None = Without mark bs
SplitOnce mark bs (Some p) = (bs ≡ p.0.now ++ (mark ∷ p.1.now)) × Without mark p.0.now

-- What work that may stop early promises.
-- Assumes nothing.
use Rattle.std.specs.Prelude.{◌≡◌, ℕ, List, Ok, Err, IfSome, string_bytes, Option, Result, String}
use Rattle.std.specs.declared.alloc.Global.{Global}
use Rattle.pages.specs.declared.stop.Stop.{Stop}
use Rattle.pages.specs.declared.stop.Stop.TheVariants.{Memory, Refused}

-- what was made is right, or the refusal has its reason; memory may be wanting at any time
abbrev pub MadeOrRefused : {V R : Type 0} → (V → Type 0) → (R → Type 0) → Result V (Stop R) → Type 0
MadeOrRefused Right Reason (Ok v) = Right v
MadeOrRefused Right Reason (Err (Refused r)) = Reason r
MadeOrRefused Right Reason (Err Memory) = Unit {0}

-- what was made is handed on, and a refusal is put into the words that it displays
abbrev pub Told : {V R : Type 0} → (R → Option (List ℕ)) → Result V (Stop R) → Result V (String Global) → Type 0
Told words (Ok v) (Ok w) = v ≡ w
Told words (Err (Refused r)) (Err line) = IfSome (words r) (λ text. string_bytes line ≡ text)
Told words (Ok v) (Err line) = ⊥
Told words (Err stop) (Ok w) = ⊥
Told words (Err Memory) (Err line) = ⊥

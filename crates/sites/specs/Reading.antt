-- What it is to read bytes as the text of something. Assumes nothing.
use Rattle.std.specs.Prelude.{◌≡◌, ℕ, ◌≤◌, List, [], ◌∷◌, ◌++◌, Some, None, decimal, Option, ◌≢◌}
use Rattle.std.specs.Borrow.{Bor}
use Rattle.sites.specs.declared.records.Record.{Record}
use Rattle.sites.specs.Records.{Fitting, record_text}

-- the bytes are the text of this value, which is one of those looked for; or of none of them
abbrev pub ReadAs : {X : Type 0} → (X → List ℕ) → (X → Type 0) → List ℕ → Option X → Type 0
ReadAs text Wanted bs (Some x) = Wanted x × (bs ≡ text x)
ReadAs {X} text Wanted bs None = (x : X) → Wanted x → bs ≢ text x

-- a number that stands there does not go on
abbrev pub Ended : List ℕ → Type 0
Ended [] = Unit {0}
Ended (x ∷ xs) = x ≡ 32

-- the bytes are a space, a number and what follows it, from the next space on or nothing; or they are not
abbrev pub ReadNumber : List ℕ → Option (ℕ × Bor (List ℕ)) → Type 0
ReadNumber bs (Some p) = (p.0 ≤ 65535) × (bs ≡ 32 ∷ (decimal p.0 ++ p.1.now)) × Ended p.1.now
ReadNumber bs None = (n : ℕ) (more : List ℕ) → n ≤ 65535 → Ended more → bs ≢ 32 ∷ (decimal n ++ more)

-- a record stands at the front of the bytes, and this is the rest of them
pub record Front (bytes : List ℕ) (r : Record) (rest : List ℕ) : Type 0 where
  pub fitting : Fitting r
  pub text : bytes ≡ record_text r ++ rest

-- a record is taken off the front of the bytes; or none stands there, and they are left as they were
abbrev pub ReadFirst : List ℕ → Option Record → List ℕ → Type 0
ReadFirst bs (Some r) rest = Front bs r rest
ReadFirst bs None rest = ((r : Record) (more : List ℕ) → Fitting r → bs ≢ record_text r ++ more) × (rest ≡ bs)

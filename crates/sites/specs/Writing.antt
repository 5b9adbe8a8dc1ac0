-- The rows of tables that a site's records fill. Assumes nothing.
use Rattle.std.specs.Prelude.{◌≡◌, ℕ, ◌+◌, ◌≤◌, List, ◌++◌, length, take, drop}
use Rattle.std.specs.List.{flat_map, AllByRecursion}
use Rattle.sites.specs.declared.records.Record.{Record}
use Rattle.sites.specs.Records.{Fitting, records_text}
use Rattle.sites.specs.Sites.{lanes_in, tariff_in}

-- a table with some rows written from row n on
abbrev pub put : {X : Type 0} → List X → ℕ → List X → List X
put table n rows = take n table ++ (rows ++ drop (n + length rows) table)

-- a table with its first rows written
abbrev pub filled : {X : Type 0} → List X → List X → List X
filled rows table = rows ++ drop (length rows) table

-- the bytes are the text of records that have their rows
pub record Writable (bytes : List ℕ) (lanes tariff : ℕ) : Type 0 where
  pub records : List Record
  pub fitting : AllByRecursion Fitting records
  pub text : bytes ≡ records_text records
  pub lanes_room : length (flat_map lanes_in records) ≤ lanes
  pub tariff_room : length (flat_map tariff_in records) ≤ tariff

-- where the bytes are the text of these records, their rows of one table are written and no other
abbrev pub RowsWritten : {X : Type 0} → (Record → List X) → List Record → List ℕ → List X → List X → Type 0
RowsWritten part rs bytes was after = AllByRecursion Fitting rs → bytes ≡ records_text rs → after ≡ filled (flat_map part rs) was

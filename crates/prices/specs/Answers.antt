-- What is printed for every input: the page of the costs that it says, or one line on the first thing that is wrong with it.
-- Assumes nothing.
use Rattle.std.specs.Prelude.{◌≡◌, ℕ, ◌<◌, ◌≤◌, List, length, is_ok, Ok, Err, vec_items, string_bytes, Decides, Result, String, Vec}
use Rattle.std.specs.List.{ContainsAt as Has}
use Rattle.std.specs.declared.alloc.Global.{Global}
use Rattle.rules.specs.Kinds.{Kind}
use Rattle.rules.specs.Fronts.{Front}
use Rattle.pages.specs.declared.stop.Stop.{Stop}
use Rattle.pages.specs.Stops.{MadeOrRefused}
use Rattle.prices.specs.declared.refusal.Fault.TheVariants.{TooManyBytes}
use Rattle.prices.specs.declared.refusal.Refusal.{Refusal}
use Rattle.prices.specs.PriceLists.{said, WrongAt}
use Rattle.prices.specs.Pages.{page}
use Rattle.prices.specs.Refusals.{refusal_text}

-- the bytes of a page, or of the line that says why there is none
abbrev pub Output : Type 0
Output = Result (List ℕ) (List ℕ)

abbrev pub output : Result (Vec ℕ Global) (String Global) → Output
output (Ok v) = Ok (vec_items v)
output (Err s) = Err (string_bytes s)

-- the input says costs, and the bytes are the page of their front: of those that no other dominates, each once, in the kind's order
pub record PageOf {C : Type 0} (line text : C → List ℕ) (k : Kind C) (input out : List ℕ) : Type 0 where
  pub few : length input ≤ 16384
  pub costs : List C
  pub says : input ≡ said line costs
  pub kept : List C
  pub front : Front k (Has costs) kept
  pub prints : out ≡ page text kept (length costs)

-- the input has too many bytes, or else this is the first line at which it goes wrong
pub data RefusedFor {C : Type 0} (line : C → List ℕ) (Large : List ℕ → Type 0) (input : List ℕ) (refusal : Refusal) : Type 0 where
  too_many : 16384 < length input → refusal.line ≡ 0 → refusal.fault ≡ TooManyBytes → RefusedFor line Large input refusal
  wrong : length input ≤ 16384 → WrongAt line Large input refusal → RefusedFor line Large input refusal

module _ {C : Type 0} (line : C → List ℕ) (Large : List ℕ → Type 0) (text : C → List ℕ) (k : Kind C) where
  abbrev pub Answers : List ℕ → Output → Type 0
  Answers input (Ok out) = PageOf line text k input out
  Answers input (Err out) = (refusal : Refusal) × RefusedFor line Large input refusal × (out ≡ refusal_text refusal)

  -- a page is printed exactly for the inputs of at most 16,384 bytes that say costs
  abbrev pub PageExactly : Type 0
  PageExactly = (input : List ℕ) (out : Output) → Answers input out → Decides (is_ok out) ((length input ≤ 16384) × ((costs : List C) × (input ≡ said line costs)))

  -- the same before the refusal is put into words; memory may be wanting at any time
  abbrev pub PageMade : List ℕ → Result (Vec ℕ Global) (Stop Refusal) → Type 0
  PageMade input = MadeOrRefused (λ v. PageOf line text k input (vec_items v)) (RefusedFor line Large input)

-- Price lists: the bytes that say a list of costs, and where other bytes go wrong.
-- Assumes nothing.
use Rattle.std.specs.Prelude.{◌≡◌, ℕ, ◌+◌, ◌<◌, List, [], ◌∷◌, ◌++◌, length, Err, vec_items, Result, Vec}
use Rattle.std.specs.declared.alloc.Global.{Global}
use Rattle.fronts.specs.Rows.{entries}
use Rattle.fronts.specs.Whole.{costs_of}
use Rattle.fronts.specs.declared.row.Row.{Row}
use Rattle.prices.specs.declared.refusal.Fault.{Fault}
use Rattle.prices.specs.declared.refusal.Fault.TheVariants.{Line, NoNewline, TooManyBytes, UnknownList}
use Rattle.prices.specs.declared.refusal.Refusal.{Refusal}
use Rattle.pages.specs.declared.stop.Stop.{Stop}
use Rattle.pages.specs.Stops.{MadeOrRefused}
use Rattle.digits.specs.Splits.{Without}
use Rattle.prices.specs.Lines.{LineRead}

-- each cost on a line of its own
abbrev pub said : {C : Type 0} → (C → List ℕ) → List C → List ℕ
said line [] = []
said line (c ∷ cs) = line c ++ (10 ∷ said line cs)

-- the costs in some rows
abbrev pub costs_in : {C : Type 0} → Vec (Row C) Global → List C
costs_in v = costs_of (entries (vec_items v))

module _ {C : Type 0} (line : C → List ℕ) (Large : List ℕ → Type 0) where
  -- the bytes begin with a line that says no cost, or have bytes and no newline
  abbrev pub BeginsWrong : Fault → List ℕ → Type 0
  BeginsWrong (Line fault) bs = (l : List ℕ) × (rest : List ℕ) × (bs ≡ l ++ (10 ∷ rest)) × Without 10 l × LineRead line Large l (Err fault)
  BeginsWrong NoNewline bs = (0 < length bs) × Without 10 bs
  BeginsWrong TooManyBytes bs = ⊥
  BeginsWrong UnknownList bs = ⊥

  -- the lines above this one say costs, and the bytes from this one on begin wrong
  pub record WrongAt (bs : List ℕ) (refusal : Refusal) : Type 0 where
    pub above : List C
    pub from : List ℕ
    pub parts : bs ≡ said line above ++ from
    pub number : refusal.line ≡ length above + 1
    pub wrong : BeginsWrong refusal.fault from

  -- bytes say at most one list; where they say one they go wrong nowhere; and they go wrong first at one line, in one way
  pub record OneReading : Type 0 where
    pub one_list : (cs ds : List C) → said line cs ≡ said line ds → cs ≡ ds
    pub not_both : (cs : List C) (refusal : Refusal) → WrongAt (said line cs) refusal → ⊥
    pub one_refusal : (bs : List ℕ) (r s : Refusal) → WrongAt bs r → WrongAt bs s → r ≡ s

  -- what reading a list says: the costs that it says, or where it goes wrong; memory may be wanting at any time
  abbrev pub ListRead : List ℕ → Result (Vec (Row C) Global) (Stop Refusal) → Type 0
  ListRead bs = MadeOrRefused (λ v. bs ≡ said line (costs_in v)) (WrongAt bs)

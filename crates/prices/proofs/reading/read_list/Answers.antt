use Rattle.std.proofs.Common.{◌≡◌, ℕ, ◌<◌, true, List, [], ◌∷◌, ◌++◌, length, Ok, Err, Result, is_ok, vec_items, sym, ap, ◌∙◌, arith}
use Rattle.std.specs.Result.{MatchResult}
use Rattle.std.proofs.lemmas.Bool.{false≢true}
use Rattle.digits.specs.declared.numbers.ReadFault.{ReadFault}
use Rattle.prices.specs.declared.refusal.Refusal.{Refusal}
use Rattle.prices.specs.Lines.{LineRead}
use Rattle.std.proofs.lemmas.List.{map_push}
use Rattle.fronts.specs.Rows.{entry_of, entries}
use Rattle.fronts.specs.Whole.{costs_of}
use Rattle.fronts.specs.declared.row.Row.{Row}
use Rattle.prices.specs.PriceLists.{costs_in}
use Rattle.prices.specs.Saying.{said_more, shorter}
use Rattle.prices.proofs.reading.read_list.Goals as goal

shrinks : (rest bytes below : List ℕ) → rest ≡ bytes ++ (10 ∷ below) → length below < length rest
shrinks rest bytes below e = omega (arith, shorter bytes below, ap length e)

row_pushed : {C : Type 0} (was now : List (Row C)) (row : Row C) → now ≡ was ++ (row ∷ []) → costs_of (entries now) ≡ costs_of (entries was) ++ (row.cost ∷ [])
row_pushed was now row e = ap (λ rs. costs_of (entries rs)) e ∙ ap costs_of (map_push entry_of was row) ∙ map_push (λ e. e.cost) (entries was) (entry_of row)

-- what is read where no fault is
is_read : {C : Type 0} (line : C → List ℕ) (Large : List ℕ → Type 0) (Fails : ReadFault → Type 0) (bs : List ℕ) (r : Result C ReadFault) (cost : C) → LineRead line Large bs r → MatchResult r (λ c. ◌≡◌ {A = Result C Refusal} (Ok cost) (Ok c)) Fails → true ≡ is_ok r → bs ≡ line cost
is_read line Large Fails bs (Ok c) cost read same ok = let is : c ≡ cost = cc in read ∙ ap line is
is_read line Large Fails bs (Err fault) cost read same ok = absurd (false≢true (sym ok))

pub loop-bytes-preserved : goal.loop-bytes-preserved
loop-bytes-preserved g c =
    let less = shrinks c.loop-bytes.rest.now c.in-Some.bytes.now c.in-Some.below.now c.in-Some.ensures.0 in
    let longer = c.in_ok-push.ensures.len in
    let cost = c.in_ok-cost.cost in
    let read = is_read g.C.Priced.line g.C.Priced.large _ c.in-Some.bytes.now c.read_line.result cost c.read_line.ensures c.in_ok-cost.ensures.cases c.in_ok-cost.ensures.variant in (
      said_more g.C.Priced.line c.args.input.now c.loop-bytes.rest.now c.in-Some.bytes.now c.in-Some.below.now (costs_in c.loop-bytes.rows) (costs_in c.push.new.self) cost
          c.loop-bytes.invariant.0 c.in-Some.ensures.0 read (row_pushed (vec_items c.loop-bytes.rows) (vec_items c.push.new.self) (record { cost = cost; tag = 0 }) c.in_ok-push.ensures.items),
      omega arith,
    )

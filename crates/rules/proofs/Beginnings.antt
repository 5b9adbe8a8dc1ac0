-- Beginnings that obey the constraints are the runs, and the labels kept have exactly their undominated costs.
-- Assumes nothing.
use Rattle.std.proofs.Common.{◌≡◌, ℕ, suc, ◌-◌, ◌<◌, true, List, ◌∷◌, map, get_or, sym, ap, subst, arith}
use mathlib.Core.Option.{some}
use lib.ListN.{get_elem?}
use Rattle.std.proofs.ByRecursion.{All-weaker}
use Rattle.rules.specs.Fronts.{Front}
use Rattle.rules.specs.Instances.{Instance, Move, Sound, cart-count, moves_of}
use Rattle.rules.specs.Walks.{Constraint, Beginning, place-on, Obeying, extended-by}
use Rattle.rules.specs.Offers.{Label, may-be, may-go, kept}
use Rattle.rules.specs.Serving.{label_of, Reached}
use Rattle.rules.proofs.Fronts.{Covered, is_front}
use Rattle.rules.proofs.Walks.{place-of-latest, place-of-earlier}
use Rattle.rules.proofs.Satisfying.{satisfied-places, satisfied-moves, satisfied-from}
use Rattle.rules.proofs.Runs.{Run, run_long, run-top, run-prefix, run-moves, run-places, run-from-prefix}
use Rattle.rules.proofs.Labels.{IsRun, labels-run, labels-cover, labels-ranked}

module _ {C : Type 0} (i : Instance C) (cart : ℕ) (bans : List Constraint) where
  pub beginning-run : {t p : ℕ} (b : Beginning i cart t p) → Obeying i bans b → Run i cart bans t p (p ∷ b.past) b.cost
  beginning-run {t} b o =
      run-from-prefix i cart bans b.moved t (ap suc b.long) (satisfied-places i cart bans (place-on i b) t t o) (satisfied-moves i cart bans (place-on i b) t t o)

  -- the label is an obeying beginning's
  abbrev pub Begun : ℕ → ℕ → Label C → Type 0
  Begun t p l = (b : Beginning i cart t p) × Obeying i bans b × (l ≡ label_of i b)

  pub run-begun : {t p : ℕ} (l : Label C) → IsRun i cart bans t p l → Begun t p l
  run-begun {t} {p} l r =
      let (past, e) = run-top i cart bans r in
      let run : Run i cart bans t p (p ∷ past) l.cost = subst (λ us. Run i cart bans t p us l.cost) e r in
      let b : Beginning i cart t p = record { past = past; cost = l.cost; moved = run-prefix i cart bans run; long = omega (arith, run_long i cart bans run) } in
      (b, satisfied-from i cart bans (place-on i b) t t (run-places i cart bans run) (run-moves i cart bans run), λ j. record { cost = l.cost; item = e j })

  -- where it ends is allowed, and its last move, and all before
  pub end-allowed : {t p : ℕ} (b : Beginning i cart t p) → Obeying i bans b → may-be i cart bans p t ≡ true
  end-allowed {t} {p} b o = rw (place-of-latest p b.past t) at (satisfied-places i cart bans (place-on i b) t t o t (omega arith))

  pub last-allowed : {t p : ℕ} (b : Beginning i cart (suc t) p) → Obeying i bans b → may-go i cart bans (get_or b.past 0 0) p t ≡ true
  last-allowed {t} {p} b o =
      let none : t - t ≡ 0 = omega arith in
      rw (place-of-earlier p b.past t t (omega arith), place-of-latest p b.past (suc t), none) at
      (satisfied-moves i cart bans (place-on i b) (suc t) (suc t) o t (omega arith))

  pub obeying-before : {t u : ℕ} (b : Beginning i cart t u) (n : ℕ) (m : Move) (at : get_elem? (moves_of i u) n ≡ some m) →
      Obeying i bans (extended-by i b n m at) → Obeying i bans b
  obeying-before {t} {u} b n m at o =
      let on = place-on i (extended-by i b n m at) in
      let us = u ∷ b.past in
      satisfied-from i cart bans (place-on i b) t t
      (λ s h. rw (place-of-earlier m.to us t s h) at (satisfied-places i cart bans on (suc t) (suc t) o s (omega arith)))
      (λ s h. rw (place-of-earlier m.to us t s (omega arith), place-of-earlier m.to us t (suc s) h) at (satisfied-moves i cart bans on (suc t) (suc t) o s (omega arith)))

  pub run-reached : {t p : ℕ} (l : Label C) → IsRun i cart bans t p l → Reached i cart bans t p l.cost
  run-reached l r = let (b, o, e) = run-begun l r in (b, o, ap (λ x. x.cost) (sym e))

  pub kept-front : Sound i → cart < cart-count i → (t p : ℕ) → Front i.kind (Reached i cart bans t p) (map (λ l. l.cost) (kept i cart bans t p))
  kept-front sound known t p =
      is_front i.kind sound.laws (Reached i cart bans t p) (kept i cart bans t p) (labels-ranked i cart bans sound.laws t p)
      (All-weaker (IsRun i cart bans t p) (λ l. Reached i cart bans t p l.cost) run-reached (kept i cart bans t p) (labels-run i cart bans t p))
      (λ c reached. subst (Covered i.kind (kept i cart bans t p)) reached.2 (labels-cover i cart bans sound known (beginning-run reached.0 reached.1)))

-- What counting a cart's offers answers, once the checks are passed.
-- Assumes nothing.
use Rattle.std.proofs.Common.{◌≡◌, ℕ, ◌<◌, ◌≤◌, Bool, true, false, cond, leb, List, [], length, get_or, Some, None, Ok, Err, Result, IsErr, sym, refl, ap, ◌∙◌, subst, arith}
use Rattle.std.specs.Option.{option_or}
use Rattle.std.proofs.ByRecursion.{All-get_or}
use Rattle.std.proofs.lemmas.Bool.{false≢true, cond-true, le-leb, le-ltb, lt-leb, leb-true, leb-false}
use Rattle.labels.specs.declared.refusal.LabelRefusal.{LabelRefusal}
use Rattle.labels.specs.declared.refusal.LabelRefusal.TheVariants.{NoRowLeft}
use Rattle.labels.specs.Answers.{told, refusal, hindrance, walk_hindrance}
use Rattle.labels.specs.Queries.{Asked, label_total}
use Rattle.labels.proofs.Answering.{refused_by, walk_unhindered}
use Rattle.rules.specs.Instances.{Instance, places, cart_count, start_of, goal_of}
use Rattle.rules.specs.Offers.{label_count}
use Rattle.offer_pages.specs.Carts.{Ready}
use Rattle.offer_pages.specs.Views.{alone}

-- nothing hinders a query that is not refused and whose labels fit
unhindered : {C : Type 0} (a : Asked C) (rows : ℕ) → None ≡ refusal a rows → label_total a ≤ rows → hindrance a rows ≡ None
unhindered a rows h le =
    ap (λ o. option_or o (cond (leb (label_total a) rows) None (Some NoRowLeft))) (sym h)
    ∙ cond-true (leb (label_total a) rows) None (Some NoRowLeft) (le-leb (label_total a) rows le)

-- an answer is told where there is room, and else a refusal
told_fits : {X : Type 0} (b : Bool) (n x : X) → Ok n ≡ told (cond b None (Some NoRowLeft)) x → (b ≡ true) × (n ≡ x)
told_fits true n x e = (refl, cc)
told_fits false n x e = let z : ◌≡◌ {A = ℕ} 0 1 = cc in absurd (omega arith)

told_full : {X : Type 0} (b : Bool) (e : LabelRefusal) (x : X) → Err e ≡ told (cond b None (Some NoRowLeft)) x → b ≡ false
told_full true e x h = let z : ◌≡◌ {A = ℕ} 0 1 = cc in absurd (omega arith)
told_full false e x h = refl

-- what is ready stays so where the rows are lent
pub lent : {C X : Type 0} (i : Instance C) (held rows : List X) (long : ℕ) → rows ≡ held → Ready i (length held) long → Ready i (length rows) long
lent i held rows long same ready = subst (λ (n : ℕ). Ready i n long) (ap length (sym same)) ready

module _ {C : Type 0} (i : Instance C) (cart rows long : ℕ) (ready : Ready i rows long) (known : cart < cart_count i) where
  on_floor : ((get_or i.carts cart (record { start = 0; goal = 0 })).start < places i) × ((get_or i.carts cart (record { start = 0; goal = 0 })).goal < places i)
  on_floor = All-get_or (λ c. (c.start < places i) × (c.goal < places i)) i.carts cart (record { start = 0; goal = 0 }) known ready.checked.on_floor

  admitted : None ≡ refusal (alone i cart) rows
  admitted =
      refused_by (alone i cart) rows false false false false false
      (le-ltb 64 i.horizon ready.ticks) (le-ltb 65535 rows (omega (arith, ready.many))) (lt-leb (cart_count i) cart known)
      (lt-leb (places i) (start_of i cart) on_floor.0) (lt-leb (places i) (goal_of i cart) on_floor.1)

  by_labels : hindrance (alone i cart) rows ≡ cond (leb (label_count i cart []) rows) None (Some NoRowLeft)
  by_labels = ap (λ o. option_or o (cond (leb (label_count i cart []) rows) None (Some NoRowLeft))) (sym admitted)

  pub record Counted (n x : ℕ) : Type 0 where
    pub count : n ≡ x
    pub fits : label_count i cart [] ≤ 2048
    pub free : walk_hindrance (alone i cart) rows long ≡ None

  pub counted : (n x : ℕ) → Ok n ≡ told (hindrance (alone i cart) rows) x → Counted n x
  counted n x e =
      let h = told_fits (leb (label_count i cart []) rows) n x (e ∙ ap (λ o. told o x) by_labels) in
      let room = leb-true (label_count i cart []) rows h.0 in
      record {
        count = h.1;
        fits = omega (arith, room, ready.many);
        free = walk_unhindered (alone i cart) rows long ready.long (unhindered (alone i cart) rows admitted room);
      }

  pub too_many : (r : Result ℕ LabelRefusal) (x : ℕ) → IsErr r → r ≡ told (hindrance (alone i cart) rows) x → 2048 < label_count i cart []
  too_many (Ok n) x refused h = absurd (false≢true refused)
  too_many (Err e) x refused h =
      omega (arith, ready.many, leb-false (label_count i cart []) rows (told_full (leb (label_count i cart []) rows) e x (h ∙ ap (λ o. told o x) by_labels)))

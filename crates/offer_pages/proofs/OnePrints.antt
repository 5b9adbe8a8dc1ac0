-- For each site's text there is only one thing to print.
-- Assumes nothing.
use Rattle.std.proofs.Common.{◌≡◌, ℕ, List, sym, refl, ap, ◌∙◌, subst, inl, inr, arith}
use Rattle.rules.specs.Instances.{Instance}
use Rattle.sites.specs.declared.refusal.SiteRefusal.{SiteRefusal}
use Rattle.sites.specs.Sites.{said}
use Rattle.sites.proofs.Promising.{reading_stands}
use Rattle.offer_pages.specs.declared.fault.Fault.{Fault}
use Rattle.offer_pages.specs.declared.fault.Fault.TheVariants.{Unread, NoCart, OffFloor, NoLine, ManyLabels}
use Rattle.offer_pages.specs.Conditions.{LabelsFit, Checked, FailsAt}
use Rattle.offer_pages.specs.Faults.{fault_text}
use Rattle.offer_pages.specs.Pages.{site_rooms, total_worst_text, Read, NotRead, FaultOf, not_read, fails, PageOf}
use Rattle.offer_pages.specs.Printed.{page, refusal, OnePrint}
use Rattle.offer_pages.specs.Texts.{page_text}
use Rattle.offer_pages.specs.Views.{Cost, instance_of}

module _ (bytes : List ℕ) where
  one_read : (i j : Instance Cost) → Read bytes i → Read bytes j → i ≡ j
  one_read i j p q =
      sym p.says ∙ ap (λ rs. instance_of (said rs)) ((reading_stands site_rooms).one_accepted bytes p.records q.records p.accepted q.accepted) ∙ q.says

  read_or_not : (i : Instance Cost) (e : SiteRefusal) → Read bytes i → NotRead bytes e → ⊥
  read_or_not i e p (inl h) = omega (arith, p.short, h.0)
  read_or_not i e p (inr h) = (reading_stands site_rooms).not_both bytes p.records e.line e.fault p.accepted h.1

  one_refusal : (e f : SiteRefusal) → NotRead bytes e → NotRead bytes f → e ≡ f
  one_refusal e f (inl h) (inl g) = h.1 ∙ sym g.1
  one_refusal e f (inl h) (inr g) = absurd (omega (arith, h.0, g.0))
  one_refusal e f (inr h) (inl g) = absurd (omega (arith, h.0, g.0))
  one_refusal e f (inr h) (inr g) =
      let same = (reading_stands site_rooms).one_refused bytes e.line f.line e.fault f.fault h.1 g.1 in
      λ t. record { line = same.0 t; fault = same.1 t }

module _ {C : Type 0} (i : Instance C) where
  one_failure : (f g : Fault) → FailsAt i f → FailsAt i g → f ≡ g
  one_failure (Unread e) g p q = absurd p
  one_failure NoCart (Unread e) p q = absurd q
  one_failure NoCart NoCart p q = refl
  one_failure NoCart OffFloor p q = absurd (p q.0)
  one_failure NoCart NoLine p q = absurd (p q.0)
  one_failure NoCart ManyLabels p q = absurd (p q.0.some_cart)
  one_failure OffFloor (Unread e) p q = absurd q
  one_failure OffFloor NoCart p q = absurd (q p.0)
  one_failure OffFloor OffFloor p q = refl
  one_failure OffFloor NoLine p q = absurd (p.1 q.1)
  one_failure OffFloor ManyLabels p q = absurd (p.1 q.0.on_floor)
  one_failure NoLine (Unread e) p q = absurd q
  one_failure NoLine NoCart p q = absurd (q p.0)
  one_failure NoLine OffFloor p q = absurd (q.1 p.1)
  one_failure NoLine NoLine p q = refl
  one_failure NoLine ManyLabels p q = absurd (p.2 q.0.lines)
  one_failure ManyLabels (Unread e) p q = absurd q
  one_failure ManyLabels NoCart p q = absurd (q p.0.some_cart)
  one_failure ManyLabels OffFloor p q = absurd (q.1 p.0.on_floor)
  one_failure ManyLabels NoLine p q = absurd (q.2 p.0.lines)
  one_failure ManyLabels ManyLabels p q = refl

  -- where no check fails there is no first one
  no_failure : (f : Fault) → Checked i → LabelsFit i → FailsAt i f → ⊥
  no_failure (Unread e) c l p = p
  no_failure NoCart c l p = p c.some_cart
  no_failure OffFloor c l p = p.1 c.on_floor
  no_failure NoLine c l p = p.2 c.lines
  no_failure ManyLabels c l p = p.1 l

one_fault : (bytes : List ℕ) (f g : Fault) → FaultOf bytes f → FaultOf bytes g → f ≡ g
one_fault bytes f g (not_read e p s) (not_read d q t) = s ∙ ap Unread (one_refusal bytes e d p q) ∙ sym t
one_fault bytes f g (not_read e p s) (fails i q t) = absurd (read_or_not bytes i e q p)
one_fault bytes f g (fails i p s) (not_read e q t) = absurd (read_or_not bytes i e p q)
one_fault bytes f g (fails i p s) (fails j q t) =
    one_failure j f g (subst (λ (k : Instance Cost). FailsAt k f) (one_read bytes i j p q) s) t

page_or_fault : (bytes out : List ℕ) (f : Fault) → PageOf bytes out → FaultOf bytes f → ⊥
page_or_fault bytes out f p (not_read e q t) = read_or_not bytes p.site e p.read q
page_or_fault bytes out f p (fails i q t) =
    no_failure p.site f p.checked p.labels (subst (λ (k : Instance Cost). FailsAt k f) (one_read bytes i p.site q p.read) t)

pub one_print : OnePrint
one_print bytes a b (page p) (page q) = p.prints ∙ ap (page_text total_worst_text) (one_read bytes p.site q.site p.read q.read) ∙ sym q.prints
one_print bytes a b (page p) (refusal f q e) = absurd (page_or_fault bytes a f p q)
one_print bytes a b (refusal f p e) (page q) = absurd (page_or_fault bytes b f q p)
one_print bytes a b (refusal f p e) (refusal g q d) = e ∙ ap fault_text (one_fault bytes f g p q) ∙ sym d

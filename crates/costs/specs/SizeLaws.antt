-- The laws of costs that a number stands for: their order by size, and their texts in base ten.
-- Assumes nothing.
use Rattle.std.specs.Prelude.{◌≡◌, ℕ, ◌^◌, ◌<◌, true, ◌⊎◌, decimal, nat_lt}
use Rattle.std.proofs.Common.{inl, inr, ⊎_elim, arith}
use Rattle.std.proofs.lemmas.Fmt.{decimal_nonempty}
use Rattle.std.proofs.lemmas.Bool.{cases_order}
use Rattle.std.proofs.lemmas.Bool.Decides.{nat_tests}
use Rattle.rules.specs.Kinds.{AtMost, Laws}
use Rattle.costs.specs.Sizes.{by_size}
use Rattle.costs.specs.Texts.{Texts}
use Rattle.costs.specs.TextLaws.{decimal_reads_back, without, from_zero}

module _ {C : Type 0} (size : C → ℕ) (same : (a b : C) → size a ≡ size b → a ≡ b) where
  abbrev Less : C → C → Type 0
  Less a b = nat_lt (size a) (size b) ≡ true

  pub less_trans : (a b c : C) → Less a b → Less b c → Less a c
  less_trans a b c p q = grind (arith, nat_tests)

  pub less_irrefl : (a : C) → Less a a → ⊥
  less_irrefl a p = grind (arith, nat_tests)

  pub less_total : (a b : C) → (a ≡ b) ⊎ (Less a b ⊎ Less b a)
  less_total a b = ⊎_elim (λ e. inl (same a b e)) (λ s. inr (⊎_elim (λ l. inl (grind (arith, nat_tests))) (λ m. inr (grind (arith, nat_tests))) s)) (cases_order (size a) (size b))

  -- what is left to show of a kind that is compared by size: the laws that speak of joining
  pub by_size_laws : (zero : C) (join : C → C → C) → ((a b c : C) → join (join a b) c ≡ join a (join b c)) → ((a b : C) → join a b ≡ join b a) → ((a : C) → join zero a ≡ a)
      → ((a b c : C) → AtMost (by_size size zero join) a b → AtMost (by_size size zero join) (join a c) (join b c)) → Laws (by_size size zero join)
  by_size_laws zero join assoc comm unit mono =
      record {
        join_assoc = assoc;
        join_comm = comm;
        zero_join = unit;
        at_most_refl = λ a. grind (arith, nat_tests);
        at_most_trans = λ a b c p q. grind (arith, nat_tests);
        at_most_antisym = λ a b p q. same a b (grind (arith, nat_tests));
        join_mono = mono;
        before_trans = less_trans;
        before_irrefl = less_irrefl;
        before_total = less_total;
        at_most_before = λ a b p. let le = p.0 in let apart : size a ≡ size b → ⊥ = λ e. p.1 (same a b e) in grind (arith, nat_tests);
      }

  pub decimal_texts : ((c : C) → size c < 2 ^ 64) → Texts (λ (c : C). decimal (size c))
  decimal_texts fits =
      record {
        reads = λ a b r s e. same a b (decimal_reads_back (size a) (size b) r s (fits a) (fits b) 32 (omega arith) e);
        some = λ c. decimal_nonempty (size c) (fits c);
        plain = λ c. without 10 _ (omega arith) (from_zero (size c) (fits c));
      }

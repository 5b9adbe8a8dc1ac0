-- Two costs side by side: joined and compared part by part, ordered by the first part, then the second.
-- Assumes nothing.
use Rattle.std.specs.Prelude.{true, false, cond, ◌&&◌}
use Rattle.rules.specs.Kinds.{Kind}
use Rattle.costs.specs.declared.pair.Pair.{Pair}

-- where neither first part comes before the other, they are the same, and the second parts decide
abbrev pub pair_kind : {A B : Type 0} → Kind A → Kind B → Kind (Pair A B)
pair_kind a b =
    record {
      zero = record { first = a.zero; second = b.zero };
      join = λ p q. record { first = a.join p.first q.first; second = b.join p.second q.second };
      at_most = λ p q. a.at_most p.first q.first && b.at_most p.second q.second;
      before = λ p q. cond (a.before p.first q.first) true (cond (a.before q.first p.first) false (b.before p.second q.second));
    }

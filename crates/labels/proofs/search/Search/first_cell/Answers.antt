use Rattle.std.proofs.Common.{◌≡◌, true, false, eqb, [], ◌∷◌, get_or, sym, ap, ◌∙◌, subst}
use Rattle.std.proofs.lemmas.Bool.{eq-eqb, ne_eqb}
use Rattle.rules.specs.Instances.{start_of}
use Rattle.labels.specs.Lists.{Grown}
use Rattle.labels.specs.Queries.{asked, row_of, may_be_at}
use Rattle.labels.proofs.Tabling.{start_at, first_cell, first_label, grown_none}
use Rattle.labels.proofs.search.Search.first_cell.Goals as goal
use Rattle.labels.proofs.search.Search.first_cell.Goals.{else-place-query-via-then-place-query+else-may_be, else-place-query-via-else-place-query}

pub returns-then-may_be : goal.returns-then-may_be
returns-then-may_be g c =
    let q = c.args.self.now.query.now in
    let a = asked g.F.Floor.moves g.C.CostKind.kind g.B.Constrains.constraint q in
    let start = start_at q.carts.now q.cart (record { start = 0; goal = 0 }) c.args.self.now.known in
    let here : true ≡ eqb c.args.place (start_of a.inst a.cart) = sym (eq-eqb c.args.place (start_of a.inst a.cart) (c.if-place-query.true ∙ sym start)) in
    let was = c.args.list.now in
    let cell = ap (λ x. x ∷ []) (first_label a was.rows.now was.count c.args.place _ was.within was.few c.zero.ensures) ∙ first_cell a c.args.place true true c.requires.place here c.if-may_be.ensures in
    subst (λ l. Grown was c.push.new.self l c.push.result) cell c.push.ensures

pub returns-else-place-query : goal.returns-else-place-query
returns-else-place-query g c =
    let q = c.args.self.now.query.now in
    let a = asked g.F.Floor.moves g.C.CostKind.kind g.B.Constrains.constraint q in
    let start = start_at q.carts.now q.cart (record { start = 0; goal = 0 }) c.args.self.now.known in
    let none : [] ≡ get_or (row_of a 0) c.args.place [] = elim c.else-place-query.branch [
      | else-place-query-via-then-place-query+else-may_be w ↦
          let here : true ≡ eqb c.args.place (start_of a.inst a.cart) = sym (eq-eqb c.args.place (start_of a.inst a.cart) (w.if-place-query.true ∙ sym start)) in
          first_cell a c.args.place true false c.requires.place here w.if-may_be.ensures
      | else-place-query-via-else-place-query w ↦
          let elsewhere : false ≡ eqb c.args.place (start_of a.inst a.cart) = sym (ne_eqb c.args.place (start_of a.inst a.cart) (λ e. w.if-place-query.false (e ∙ start))) in
          first_cell a c.args.place false (may_be_at a c.args.place 0) c.requires.place elsewhere (λ j. may_be_at a c.args.place 0)
    ] in
    grown_none c.args.list.now _ none

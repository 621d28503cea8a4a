use Rattle.std.proofs.Common.{◌≡◌, ◌<◌, length, inl, inr, ◌∙◌, arith}
use Rattle.std.proofs.lemmas.Result.{IfOk-weaker}
use Rattle.theory_tables.specs.Solve.{IsScattered}
use Rattle.theory_tables.proofs.Rows.Sums.{read_at}
use Rattle.spl_matrix.proofs.solve.scattered_item.Goals as goal

pub returns-then-s-pivots-clause-value : goal.returns-then-s-pivots-clause-value
returns-then-s-pivots-clause-value g c =
    let o = g.F.Field.ops c.args.f.now in
    let cs = c.args.c.now in
    let s = c.place_of-s.result in
    let x = c.index-c-s.result in
    let s_in : s < length cs = omega (arith, c.requires.enough) in
    let P : g.row.F-Elem.Denot → Type 0 = λ y. y ≡ x in
    let Q : g.row.F-Elem.Denot → Type 0 = IsScattered o c.args.pivots.now cs c.args.j in
    IfOk-weaker c.copy.result P Q (λ y y_is. inl (
      s,
      record {
        is_pivot = c.if-s-pivots.true;
        column = c.place_of-s.ensures.here c.if-s-pivots.true;
        item = y_is ∙ read_at o cs s x s_in c.index-c-s.is;
      },
    )) c.copy.ensures.value

pub returns-else-s-pivots-clause-value : goal.returns-else-s-pivots-clause-value
returns-else-s-pivots-clause-value g c =
    let o = g.F.Field.ops c.args.f.now in
    let P : g.row.F-Elem.Denot → Type 0 = λ y. y ≡ o.zero in
    let Q : g.row.F-Elem.Denot → Type 0 = IsScattered o c.args.pivots.now c.args.c.now c.args.j in
    IfOk-weaker c.zero.result P Q (λ y y_is. inr (record {
      none = λ k k_in. c.place_of-s.ensures.before k (omega arith);
      item = y_is;
    })) c.zero.ensures.value

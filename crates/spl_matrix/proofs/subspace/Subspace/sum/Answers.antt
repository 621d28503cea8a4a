use Rattle.std.proofs.Common.{◌≡◌, ◌++◌, ◌∙◌, ℕ, List, ap, ap₂, sym, subst}
use Rattle.std.specs.List.{All}
use Rattle.std.proofs.lemmas.Result.{IfOk-weaker}
use Rattle.std.proofs.lemmas.List.Elements.{All-append}
use Rattle.theory_rings.specs.Ops.{IsElem}
use Rattle.theory_spaces.specs.Tuples.{IsTuple}
use Rattle.theory_tables.specs.Matrix.{IsMatrix}
use Rattle.theory_tables.specs.Subspace.{Rows, SameSpan, SpansSum}
use Rattle.spl_matrix.proofs.Beside.{IsMatrix-elems}
use Rattle.spl_matrix.proofs.Members.{sum_of_spans}
use Rattle.spl_matrix.proofs.subspace.Subspace.sum.Goals as goal

pub stacked-requires : goal.stacked-requires
stacked-requires g c =
    let o = g.F.Field.ops c.args.f.now in
    let s = c.args.self.now in
    let b = c.args.b.now in
    let R : List (List g.row.F-Elem.Denot) → Type 0 = λ m. All (All (IsElem o)) m in
    record {
      left = subst R (sym (c.as_slice.ensures ∙ ap (λ t. t.rows) c.self.view_is))
          (IsMatrix-elems o s.width s.rows c.requires.left.shape);
      right = subst R (sym (c.as_slice-2.ensures ∙ ap (λ t. t.rows) c.b.view_is))
          (IsMatrix-elems o b.width b.rows c.requires.right.shape);
    }

pub span_of-requires : goal.span_of-requires
span_of-requires g c =
    let o = g.F.Field.ops c.args.f.now in
    let s = c.args.self.now in
    let b = c.args.b.now in
    let rows_is : c.in_ok-stacked.field-0.items ≡ s.rows ++ b.rows = c.in_ok-stacked.ensures
    ∙ ap₂ (λ x y. x ++ y) (c.as_slice.ensures ∙ ap (λ t. t.rows) c.self.view_is)
    (c.as_slice-2.ensures ∙ ap (λ t. t.rows) c.b.view_is) in
    let W : ℕ → Type 0 = λ w. IsMatrix o w b.rows in
    let M : List (List g.row.F-Elem.Denot) → Type 0 = λ m. IsMatrix o c.self.inside.width m in
    let N : ℕ → Type 0 = λ w. IsMatrix o w (s.rows ++ b.rows) in
    record {
      shape = subst M (sym rows_is) (subst N (sym (ap (λ t. t.width) c.self.view_is))
          (All-append (IsTuple o s.width) s.rows b.rows c.requires.left.shape
          (subst W c.requires.same_width c.requires.right.shape)));
    }

pub returns : goal.returns
returns g c =
    let o = g.F.Field.ops c.args.f.now in
    let L = g.met.F.Field.laws c.args.f.now in
    let s = c.args.self.now in
    let b = c.args.b.now in
    let rows = c.in_ok-stacked.field-0.items in
    let width_is : c.self.inside.width ≡ s.width = ap (λ t. t.width) c.self.view_is in
    let rows_is : rows ≡ s.rows ++ b.rows = c.in_ok-stacked.ensures
    ∙ ap₂ (λ x y. x ++ y) (c.as_slice.ensures ∙ ap (λ t. t.rows) c.self.view_is)
    (c.as_slice-2.ensures ∙ ap (λ t. t.rows) c.b.view_is) in
    let W : ℕ → Type 0 = λ w. IsMatrix o w b.rows in
    let P : Rows g.row.F-Elem.Denot → Type 0 = λ t. SameSpan o c.self.inside.width t.rows rows in
    let Q : Rows g.row.F-Elem.Denot → Type 0 = λ t. SpansSum o s.width t.rows s.rows b.rows in
    let D : Rows g.row.F-Elem.Denot → Type 0 = λ t. t.width ≡ c.self.inside.width in
    let D' : Rows g.row.F-Elem.Denot → Type 0 = λ t. t.width ≡ s.width in
    record {
      basis = c.span_of.ensures.basis;
      width = IfOk-weaker c.span_of.result D D' (λ t e. e ∙ width_is) c.span_of.ensures.width;
      members = IfOk-weaker c.span_of.result P Q (λ t same.
          let S : ℕ → Type 0 = λ w. SameSpan o w t.rows rows in
          let S' : List (List g.row.F-Elem.Denot) → Type 0 = λ m. SameSpan o s.width t.rows m in
          sum_of_spans o L s.width s.rows b.rows t.rows c.requires.left.shape
          (subst W c.requires.same_width c.requires.right.shape)
          (subst S' rows_is (subst S width_is same))) c.span_of.ensures.members;
    }

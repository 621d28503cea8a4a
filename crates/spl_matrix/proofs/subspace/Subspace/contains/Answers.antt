use Rattle.std.proofs.Common.{◌≡◌, ◌↔◌, ℕ, ◌<◌, Bool, IsTrue, List, length, get_or, ◌∙◌, sym, ap, subst, arith}
use Rattle.std.proofs.lemmas.Result.{IfOk-weaker}
use Rattle.theory_rings.specs.Sum.{at}
use Rattle.theory_spaces.specs.Tuples.{IsTuple}
use Rattle.theory_tables.specs.Matrix.{IsMatrix}
use Rattle.theory_tables.specs.Subspace.{InSpan, IsReducedBasis}
use Rattle.theory_tables.proofs.Rows.Spans.{combined}
use Rattle.spl_matrix.proofs.Members.{contains_of}
use Rattle.spl_matrix.proofs.subspace.Subspace.contains.Goals as goal

pub returns : goal.returns
returns g c =
    let o = g.F.Field.ops c.args.f.now in
    let L = g.met.F.Field.laws c.args.f.now in
    let s = c.args.self.now in
    let v = c.args.v.now in
    let rows = c.as_slice-rows.result.now in
    let weights = c.as_slice-2.result.now in
    let rows_is : rows ≡ s.rows = c.as_slice-rows.ensures ∙ ap (λ t. t.rows) c.self.view_is in
    let width_is : c.self.inside.width ≡ s.width = ap (λ t. t.width) c.self.view_is in
    let P : Bool → Type 0 = λ b. IsTrue b ↔ ((j : ℕ) → j < length v → at o v j ≡ combined o L rows (at o weights) j) in
    let Q : Bool → Type 0 = λ b. IsTrue b ↔ InSpan o s.width s.rows v in
    IfOk-weaker c.is_combination.result P Q
    (contains_of o L s.width s.rows v c.requires.basis c.requires.vector rows c.self.inside.width c.in_ok-pivots.pivots
    c.as_slice.result.now c.in_ok-c.c weights
    rows_is width_is c.as_slice.ensures c.as_slice-2.ensures c.in_ok-pivots.ensures.each c.in_ok-pivots.ensures.reduced
    c.in_ok-c.ensures.elem c.in_ok-c.ensures.value)
    c.is_combination.ensures

pub pivots_of-requires : goal.pivots_of-requires
pivots_of-requires g c =
    let o = g.F.Field.ops c.args.f.now in
    let s = c.args.self.now in
    let rows_is : c.as_slice-rows.result.now ≡ s.rows = c.as_slice-rows.ensures ∙ ap (λ t. t.rows) c.self.view_is in
    let width_is : c.self.inside.width ≡ s.width = ap (λ t. t.width) c.self.view_is in
    let W : ℕ → Type 0 = λ w. IsReducedBasis o w s.rows in
    let R : List (List g.row.F-Elem.Denot) → Type 0 = λ m. IsReducedBasis o c.self.inside.width m in
    subst R (sym rows_is) (subst W (sym width_is) c.requires.basis)

pub gathered-requires : goal.gathered-requires
gathered-requires g c =
    let v = c.args.v.now in
    let width_is : c.self.inside.width ≡ c.args.self.now.width = ap (λ t. t.width) c.self.view_is in
    let below = c.in_ok-pivots.ensures.reduced.below in
    let P : List ℕ → Type 0 = λ ps. (k : ℕ) → k < length ps → get_or ps k 0 < length v in
    record {
      elems = c.requires.vector.of_elements;
      within = subst P (sym c.as_slice.ensures)
          (λ k k_in. let low = below k k_in in omega (arith, width_is, c.requires.vector.right_length));
    }

pub is_combination-requires : goal.is_combination-requires
is_combination-requires g c =
    let o = g.F.Field.ops c.args.f.now in
    let s = c.args.self.now in
    let v = c.args.v.now in
    let rows = c.as_slice-rows.result.now in
    let weights = c.in_ok-c.c in
    let rows_is : rows ≡ s.rows = c.as_slice-rows.ensures ∙ ap (λ t. t.rows) c.self.view_is in
    let W : ℕ → Type 0 = λ w. IsMatrix o w s.rows in
    let R : List (List g.row.F-Elem.Denot) → Type 0 = λ m. IsMatrix o (length v) m in
    let N : ℕ → Type 0 = λ n. IsTuple o n weights in
    let T : List g.row.F-Elem.Denot → Type 0 = λ xs. IsTuple o (length rows) xs in
    record {
      shape = subst R (sym rows_is) (subst W (sym c.requires.vector.right_length) c.requires.basis.shape);
      weights = subst T (sym c.as_slice-2.ensures)
          (subst N (ap length c.as_slice.ensures ∙ c.in_ok-pivots.ensures.each) c.in_ok-c.ensures.elem);
      vector = c.requires.vector.of_elements;
    }

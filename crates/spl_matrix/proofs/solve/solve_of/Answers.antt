use Rattle.std.proofs.Common.{◌≡◌, ℕ, ◌<◌, ◌≤◌, List, length, sym, ap, subst, ◌∙◌, arith}
use Rattle.std.specs.List.{All}
use Rattle.theory_rings.specs.Ops.{IsElem}
use Rattle.theory_rings.specs.Sum.{at}
use Rattle.theory_spaces.specs.Tuples.{IsTuple}
use Rattle.theory_tables.specs.Matrix.{image, IsMatrix}
use Rattle.theory_tables.specs.Solve.{IsScattered}
use Rattle.theory_rings.proofs.Rings.Elements.{at-elem}
use Rattle.theory_tables.proofs.Rows.Solves.{solved}
use Rattle.spl_matrix.proofs.solve.solve_of.Goals as goal

pub returns : goal.returns
returns g c =
    let o = g.F.Field.ops c.args.f.now in
    let L = g.met.F.Field.laws c.args.f.now in
    let a = c.args.a.now in
    let h = length a in
    let e = c.in_ok-e.e in
    let echelon = c.in_ok-e.ensures in
    let right = c.args.right.now in
    let cs = c.in_ok-c.c in
    let shown = c.as_slice.ensures in
    let tall : length c.as_slice.result.now ≡ h = ap length shown ∙ echelon.transform_height in
    let T : ℕ → Type 0 = λ n. IsTuple o n cs in
    let c_tuple = subst T tall c.in_ok-c.ensures.elem in
    let K : ℕ → Type 0 = λ n. cs ≡ image o h n e.transform right in
    let N : ℕ → Type 0 = λ k. cs ≡ image o k (length right) e.transform right in
    let M : List (List g.row.F-Elem.Denot)
    → Type 0 = λ m. cs ≡ image o (length c.as_slice.result.now) (length right) m right in
    let c_is = subst K c.requires.right.right_length (subst N tall (subst M shown c.in_ok-c.ensures.value)) in
    let none = rw c.in-None.is at c.in_ok-i.ensures in
    let past = λ (i : ℕ) (high : length e.pivots ≤ i) (i_in : i < h).
    let high' : c.len.result ≤ i = omega arith in
    let i_in' : i < length c.as_slice-2.result.now =
    omega (arith, ap length c.as_slice-2.ensures, c_tuple.right_length) in
    let zero : at o cs i ≡ o.zero = sym (ap (λ (v : List g.row.F-Elem.Denot). at o v i) c.as_slice-2.ensures)
    ∙ none i high' i_in' in
    zero in
    let v = c.in_ok-vector-in-None.vector in
    let item = λ (j : ℕ) (j_in : j < c.args.w).
    let P : List ℕ → Type 0 = λ ps. IsScattered o ps c.as_slice-in-None-2.result.now j (at o v j) in
    let Q : List g.row.F-Elem.Denot → Type 0 = λ xs. IsScattered o e.pivots xs j (at o v j) in
    subst Q c.as_slice-in-None-2.ensures
    (subst P c.as_slice-in-None.ensures (c.in_ok-vector-in-None.ensures.value j j_in)) in
    solved o L h c.args.w a right c.requires.shape c.requires.right e.rows e.pivots e.transform echelon cs v c_is
    (at-elem o L cs c_tuple.of_elements) past c.in_ok-vector-in-None.ensures.elem item

pub image_of-requires : goal.image_of-requires
image_of-requires g c =
    let o = g.F.Field.ops c.args.f.now in
    let e = c.in_ok-e.e in
    let right = c.args.right.now in
    let W : ℕ → Type 0 = λ n. IsMatrix o n e.transform in
    let R : List (List g.row.F-Elem.Denot) → Type 0 = λ m. IsMatrix o (length right) m in
    record {
      shape = subst R (sym c.as_slice.ensures)
          (subst W (sym c.requires.right.right_length) c.in_ok-e.ensures.transform_shape);
      vector = c.requires.right.of_elements;
    }

pub find_nonzero-requires : goal.find_nonzero-requires
find_nonzero-requires g c =
    let o = g.F.Field.ops c.args.f.now in
    let Z : List g.row.F-Elem.Denot → Type 0 = λ xs. All (IsElem o) xs in
    subst Z (sym c.as_slice-2.ensures) c.in_ok-c.ensures.elem.of_elements

pub scattered-requires : goal.scattered-requires
scattered-requires g c =
    let o = g.F.Field.ops c.args.f.now in
    let Z : List g.row.F-Elem.Denot → Type 0 = λ xs. All (IsElem o) xs in
    record {
      elems = subst Z (sym c.as_slice-in-None-2.ensures) c.in_ok-c.ensures.elem.of_elements;
      enough = omega (
        arith,
        ap length c.as_slice-in-None.ensures,
        ap length c.as_slice-in-None-2.ensures,
        c.in_ok-c.ensures.elem.right_length,
        ap length c.as_slice.ensures,
        c.in_ok-e.ensures.transform_height,
        c.in_ok-e.ensures.reduced.count,
      );
    }

use Rattle.std.proofs.Common.{List, length, sym, ap₂, subst, ◌∙◌}
use Rattle.std.specs.List.{All}
use Rattle.std.proofs.lemmas.Result.{IfOk-weaker}
use Rattle.std.proofs.lemmas.List.Elements.{All-append}
use Rattle.theory_rings.specs.Ops.{IsElem}
use Rattle.spl_matrix.specs.Spanning.{doubled}
use Rattle.spl_matrix.proofs.Beside.{IsMatrix-elems, zeros-tuple}
use Rattle.spl_matrix.proofs.meet.zassenhaus.Goals as goal

pub doubled_of-requires : goal.doubled_of-requires
doubled_of-requires g c =
    let o = g.F.Field.ops c.args.f.now in
    let L = g.met.F.Field.laws c.args.f.now in
    let w = c.args.w in
    let a = c.args.a.now in
    let b = c.args.b.now in
    let R : List (List g.row.F-Elem.Denot) → Type 0 = λ m. All (All (IsElem o)) m in
    let Z : List g.row.F-Elem.Denot → Type 0 = λ xs. All (IsElem o) xs in
    record {
      rows = subst R (sym (c.as_slice-2.ensures.value ∙ c.in_ok-rows.ensures))
          (All-append (All (IsElem o)) a b (IsMatrix-elems o w a c.requires.left)
          (IsMatrix-elems o w b c.requires.right));
      zeros = subst Z (sym (c.as_slice.ensures ∙ c.in_ok-zeros.ensures)) (zeros-tuple o L w).of_elements;
    }

pub returns : goal.returns
returns g c =
    let a = c.args.a.now in
    IfOk-weaker c.doubled_of.result _ _ (λ r r_is. r_is
    ∙ ap₂ (λ (zs : List g.row.F-Elem.Denot) (m : List (List g.row.F-Elem.Denot)). doubled zs (length a) m)
    (c.as_slice.ensures ∙ c.in_ok-zeros.ensures) (c.as_slice-2.ensures.value ∙ c.in_ok-rows.ensures))
    c.doubled_of.ensures

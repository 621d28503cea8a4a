use Rattle.std.proofs.Common.{◌≡◌, ◌∷◌, [], ℕ, List, length, sym, ◌∙◌, ap, subst, arith, get_or, length-append}
use Rattle.theory_rings.specs.Ops.{IsElem}
use Rattle.theory_spaces.specs.Tuples.{IsTuple}
use Rattle.theory_tables.specs.Matrix.{IsMatrix}
use Rattle.theory_tables.specs.Echelon.{IsReducedEchelon}
use Rattle.theory_tables.proofs.Rows.Sums.{All_step}
use Rattle.theory_tables.proofs.Rows.Spans.{grow_at}
use Rattle.theory_chains.specs.PivotItems.{IsPivotItem}
use Rattle.theory_chains.proofs.PivotTuples.{pivot_sum}
use Rattle.spl_residue.specs.Residue.{residue_ops}
use Rattle.spl_radical.specs.LiftNumbers.{level_of}
use Rattle.spl_radical.specs.Radical.{IsTraceRoot, laws_of}
use Rattle.spl_radical.proofs.radical.weights.Goals as goal

pub weight_at-requires : goal.weight_at-requires
weight_at-requires c =
    let o = residue_ops c.args.k.now in
    let rows = c.args.rows.now in
    let is = c.as_slice-list.ensures ∙ c.rows.ensures in
    record {
      same = c.requires.same;
      over = c.requires.over;
      shape = subst (IsMatrix o c.args.b.now.dim) (sym is)
          (subst (λ n. IsMatrix o n rows.rows) c.requires.width c.requires.basis.shape);
      each = ap length c.as_slice.ensures ∙ c.in_ok-pivots.ensures.each ∙ sym (ap length is);
      first = c.requires.first;
      exponent = c.requires.exponent;
    }

pub loop-j-preserved : goal.loop-j-preserved
loop-j-preserved c =
    let k = c.args.k.now in
    let o = residue_ops k in
    let rows = c.args.rows.now.rows in
    let l = c.loop-j in
    let item = c.in_ok-weight_at in
    let e = c.in_ok-push.ensures.ok in
    let is = c.as_slice-list.ensures ∙ c.rows.ensures in
    let P : List (List (List ℕ)) → List ℕ → Type 0 = λ r p. IsPivotItem o.zero p
    (λ s. IsTraceRoot k (level_of c.args.ring.now) c.args.b.now c.args.i (get_or r s [])) l.j item.field-0 in
    record {
      elem = record {
        right_length = omega (
          arith,
          ap length e,
          length-append l.items (item.field-0 ∷ []),
          l.invariant.elem.right_length,
        );
        of_elements = All_step (IsElem o) l.items c.push.new.self item.field-0 l.invariant.elem.of_elements
            item.ensures.elem e;
      };
      each = grow_at (IsPivotItem o.zero c.in_ok-pivots.pivots
          (λ s. IsTraceRoot k (level_of c.args.ring.now) c.args.b.now c.args.i (get_or rows s []))) o.zero l.j l.items
          c.push.new.self item.field-0 l.invariant.elem.right_length l.invariant.each
          (subst (P rows) c.as_slice.ensures (subst (λ r. P r c.as_slice.result.now) is item.ensures.value)) e;
    }

pub returns : goal.returns
returns c =
    let k = c.args.k.now in
    let o = residue_ops k in
    let m = c.args.b.now.dim in
    let rows = c.args.rows.now.rows in
    let l = c.loop-j in
    let pivots = c.in_ok-pivots in
    let ended : l.j ≡ m = omega (arith, c.dim-j-end.ensures.dim) in
    let tuple = subst (λ n. IsTuple o n l.items) ended l.invariant.elem in
    record {
      elem = tuple;
      roots = pivot_sum o (laws_of k) m rows
          (subst (λ n. IsMatrix o n rows) c.requires.width c.requires.basis.shape) pivots.pivots pivots.ensures.each
          (subst (IsReducedEchelon o (length rows) rows pivots.pivots) c.requires.width pivots.ensures.reduced)
          (λ s. IsTraceRoot k (level_of c.args.ring.now) c.args.b.now c.args.i (get_or rows s [])) l.items
          tuple.of_elements (λ j lj. l.invariant.each j (omega (arith, ended, lj)));
    }

use Rattle.std.proofs.Common.{◌≡◌, ℕ, List, length, sym, ◌∙◌, ap, subst, arith}
use Rattle.theory_rings.specs.Sum.{table}
use Rattle.theory_spaces.specs.Tuples.{IsTuple}
use Rattle.theory_spaces.proofs.Tuples.Tuples.{IsTuple-table}
use Rattle.theory_tables.specs.Structure.{IsElement}
use Rattle.spl_blocks.specs.Splits.{trace_in}
use Rattle.spl_blocks.proofs.PowerSteps.{iterated_start, iterated_next}
use Rattle.spl_blocks.proofs.ListSteps.{trace_next}
use Rattle.spl_blocks.proofs.refine.trace.Goals as goal

pub loop-j-init : goal.loop-j-init
loop-j-init g c =
    let o = g.F.Field.ops c.args.f.now in
    let L = g.met.F.Field.laws c.args.f.now in
    let A = c.args.a.now in
    let z = c.args.z.now in
    let term = c.in_ok-term in
    let total = c.in_ok-total in
    let P : List g.row.F-Elem.Denot → Type 0 = IsElement o A in
    let value : total.total ≡ trace_in o A c.args.q 0 z = total.ensures
    ∙ ap (λ (n : ℕ). table n (λ _. o.zero)) c.dim.ensures.dim in
    record {
      term_in = subst P (sym term.ensures) c.requires.element;
      term = iterated_start o L A c.requires.unital z c.requires.element c.args.q term.term term.ensures;
      total_in = subst P (sym value) (IsTuple-table o A.dim (λ _. o.zero) (λ _ _. L.zero-elem));
      total = value;
    }

pub loop-j-preserved : goal.loop-j-preserved
loop-j-preserved g c =
    let o = g.F.Field.ops c.args.f.now in
    let L = g.met.F.Field.laws c.args.f.now in
    let A = c.args.a.now in
    let i = c.loop-j.invariant in
    let s = c.in_ok-total-2 in
    let t = c.in_ok-term-2 in
    let P : ℕ → Type 0 = λ n. IsTuple o n s.total in
    record {
      term_in = t.ensures.elem;
      term = iterated_next o L A c.requires.unital c.args.z.now c.requires.element c.args.q c.loop-j._j c.loop-j.term
          t.term c.requires.base i.term t.ensures.value;
      total_in = subst P (ap length c.as_slice.ensures ∙ i.total_in.right_length) s.ensures.elem;
      total = trace_next o A c.args.q c.loop-j._j c.args.z.now c.loop-j.total c.loop-j.term c.as_slice.result.now
          c.as_slice-in-loop-j.result.now s.total c.as_slice.ensures c.as_slice-in-loop-j.ensures i.total i.term
          i.total_in.right_length s.ensures.value;
    }

pub returns : goal.returns
returns g c =
    let o = g.F.Field.ops c.args.f.now in
    let ended : c.loop-j._j ≡ c.args.d = omega arith in
    record {
      elem = c.loop-j.invariant.total_in;
      value = c.loop-j.invariant.total
          ∙ ap (λ (n : ℕ). trace_in o c.args.a.now c.args.q n c.args.z.now) ended;
    }

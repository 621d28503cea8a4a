use Rattle.std.proofs.Common.{sym, subst}
use Rattle.theory_tables.specs.Structure.{IsOver, IsElement}
use Rattle.spl_residue.specs.Residue.{residue_ops}
use Rattle.spl_radical.specs.LiftNumbers.{residues_of, level_of}
use Rattle.spl_radical.proofs.TraceRoots.{quotient_fits, numbers_count, trace_root}
use Rattle.spl_radical.proofs.roots.trace_root.Goals as goal

pub trace_power-requires : goal.trace_power-requires
trace_power-requires c =
    let same = sym c.requires.same in
    record {
      over = subst (λ k. IsOver (residue_ops k) c.args.b.now) same c.requires.over;
      element = subst (λ k. IsElement (residue_ops k) c.args.b.now c.args.a.now) same c.requires.element;
      exponent = c.requires.exponent;
    }

pub quotient_residue-requires : goal.quotient_residue-requires
quotient_residue-requires c =
    let R = c.args.ring.now in
    let t = c.in_ok-trace in
    record {
      first = c.requires.first;
      fits = quotient_fits (residues_of R) c.args.k.now c.requires.same (level_of R) c.args.i R.modulus R.size R.small
          c.requires.exponent;
      count = numbers_count (residues_of R) c.args.k.now c.requires.same (level_of R) t.trace c.numbers.result.now
          t.ensures.elem c.numbers.ensures;
    }

pub returns-clause-root : goal.returns-clause-root
returns-clause-root c =
    let R = c.args.ring.now in
    let t = c.in_ok-trace in
    let r = c.in_ok-residue in
    let y = c.in_ok-root in
    trace_root (residues_of R) c.args.k.now c.requires.same (level_of R) c.args.i c.args.b.now c.args.a.now t.trace
    c.numbers.result.now r.residue y.root t.ensures.value c.numbers.ensures
    (r.ensures.value (level_of R) c.requires.exponent) y.ensures.value

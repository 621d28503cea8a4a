use Rattle.std.proofs.Common.{◌≡◌, ℕ, List, [], ◌∷◌, length, sym, ap, ◌∙◌, arith, below_more}
use Rattle.spl_field.specs.SmallField.{small_ops, small_laws}
use Rattle.theory_fractions.proofs.CommonDenominators.{over_one}
use Rattle.theory_rows.specs.Rows.{InRowLattice}
use Rattle.spl_order.specs.Values.{scaled_unit}
use Rattle.spl_order.proofs.inverse.common_scale.Goals as goal

pub loop-i-init : goal.loop-i-init
loop-i-init c =
    let o = small_ops c.args.f.now in
    let p = c.in_ok-scale.ensures in
    record {
      polynomial = record { over = p.over o (over_one o (small_laws c.args.f.now)); trimmed = p.trimmed };
      nonzero = λ z.
          let one : List ℕ = 1 ∷ [] in
          let nil : List ℕ = [] in
          let e : length one ≡ length nil = ap length (sym p.value ∙ z) in absurd (omega (arith, e));
      members = λ j l. absurd (omega arith);
    }

pub loop-i-preserved : goal.loop-i-preserved
loop-i-preserved c =
    let p = c.in_ok-scale-2.ensures in
    record {
      polynomial = p.polynomial;
      nonzero = p.nonzero;
      members = below_more
          (λ j. InRowLattice (small_ops c.args.f.now) c.args.basis.now (scaled_unit c.in_ok-scale-2.scale c.args.n j))
          c.loop-i.i (λ j l. p.others j (c.loop-i.invariant.members j l)) p.member;
    }

pub returns : goal.returns
returns c =
    let i = c.loop-i.invariant in
    record {
      polynomial = i.polynomial;
      nonzero = i.nonzero;
      members = λ j l. i.members j (omega (arith, l, c.loop-i-test.false));
    }

use Rattle.std.proofs.Common.{ℕ, sym, subst}
use Rattle.theory_rings.specs.Ops.{IsElem}
use Rattle.theory_fractions.specs.Fraction.{Pair}
use Rattle.spl_fraction.specs.Fractions.{field_of}
use Rattle.spl_fraction.specs.FractionsOver.{fractions_over}
use Rattle.spl_evidence.proofs.lines.push_multipliers.Goals as goal

pub push_multiplier-requires : goal.push_multiplier-requires
push_multiplier-requires c =
    let x = c.item-item in
    subst (λ (item : ℕ × ℕ × Pair ℕ). IsElem (fractions_over (field_of c.args.f.now)) item.2) (sym x.is)
    (c.requires c.loop-item.item-index x.result c.loop-item-test.true)

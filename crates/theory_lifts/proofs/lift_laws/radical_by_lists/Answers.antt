use Rattle.theory_rings.proofs.FiniteFields.ElementsByDigits.{prime_by_digits}
use Rattle.theory_radical.proofs.Chain.NextIdeal.{next_functional}
use Rattle.theory_radical.proofs.Chain.ChainLaws.{is_radical_chain}
use Rattle.theory_lifts.proofs.DigitLifts.{tower, has_digit_moduli}
use Rattle.theory_lifts.proofs.ResidueRoots.{residue_roots}
use Rattle.theory_lifts.proofs.RadicalSpan.{chain_bases}
use Rattle.theory_lifts.proofs.ListLifts.{list_lift, is_lift_of_lists}
use Rattle.theory_lifts.proofs.lift_laws.radical_by_lists.Goals as goal

pub returns : goal.returns
returns g c = λ n two_le_pow.
    let a = g.A.ResidueAlgebra in
    let prime = prime_by_digits a.p a.two_le a.modulus a.positive a.operations a.by_digits in
    let roots = residue_roots a.p a.two_le a.modulus a.positive a.operations a.by_digits a.laws a.divisor a.monic
    a.field in
    let L = list_lift a.p a.two_le a.modulus a.positive a.operations a.by_digits a.laws a.divisor a.monic a.polynomials
    a.polynomials_is a.field a.field_is n two_le_pow in (
      tower a.p a.two_le a.modulus a.positive a.operations a.by_digits a.laws n two_le_pow a.divisor a.monic,
      has_digit_moduli a.p a.two_le a.modulus a.positive a.operations a.by_digits a.laws n two_le_pow a.divisor a.monic,
      (
        L,
        is_lift_of_lists a.p a.two_le a.modulus a.positive a.operations a.by_digits a.laws a.divisor a.monic
            a.polynomials a.polynomials_is a.field a.field_is n two_le_pow,
        is_radical_chain prime L a.algebra a.dimension a.basis a.Subset,
        λ i l. next_functional prime L a.algebra a.dimension a.basis i l roots,
        chain_bases prime L a.algebra a.dimension a.basis roots,
      ),
    )

use Rattle.theory_rings.specs.Elements.{elements}
use Rattle.theory_lifts.proofs.ResidueRoots.{residue_field, residue_roots}
use Rattle.theory_lifts.proofs.lift_laws.residue_fields.Goals as goal

pub returns : goal.returns
returns c = λ p two_le m d o D L π monic P I.
    (residue_field (elements o L) π monic P I, λ F J. residue_roots p two_le m d o D L π monic F)

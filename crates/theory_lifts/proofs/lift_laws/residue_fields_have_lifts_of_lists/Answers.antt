use Rattle.theory_lifts.proofs.DigitLifts.{tower, has_digit_moduli}
use Rattle.theory_lifts.proofs.ListLifts.{list_lift, is_lift_of_lists}
use Rattle.theory_lifts.proofs.lift_laws.residue_fields_have_lifts_of_lists.Goals as goal

pub returns : goal.returns
returns c = λ p two_le m d o D L π monic P I F J n two_le_pow. (
  tower p two_le m d o D L n two_le_pow π monic,
  has_digit_moduli p two_le m d o D L n two_le_pow π monic,
  (
    list_lift p two_le m d o D L π monic P I F J n two_le_pow,
    is_lift_of_lists p two_le m d o D L π monic P I F J n two_le_pow,
  ),
)

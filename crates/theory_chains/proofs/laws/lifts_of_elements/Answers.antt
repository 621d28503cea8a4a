use Rattle.theory_lifts.proofs.ElementLifts.{residue_elem_roots, elem_lift}
use Rattle.theory_lifts.proofs.ElementLists.{lift_numbers, digit_list-down}
use Rattle.theory_chains.proofs.laws.lifts_of_elements.Goals as goal

pub returns : goal.returns
returns c = record {
  lifts = λ o L m i p two_le n d D. record {
    roots = residue_elem_roots o L m i p two_le n d D;
    lifts = λ k two_le_pow. record {
      lift = elem_lift o L m i p two_le n d D k two_le_pow;
      numbers = lift_numbers o L m i p two_le n d D k two_le_pow;
      digits = digit_list-down o L m i p two_le n d D k two_le_pow;
    };
  };
}

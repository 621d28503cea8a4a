use Rattle.std.proofs.Common.{◌++◌, sym, ap, ◌∙◌}
use Rattle.std.specs.Prelude.{codes}
use Rattle.spl_text.specs.Text.{coefficients_text}
use Rattle.spl_evidence.proofs.Spellings.{three_pieces, place_spelled}
use Rattle.spl_evidence.proofs.lines.push_polynomial.Goals as goal

pub returns : goal.returns
returns c =
    let p = c.args.c.now in
    three_pieces c.args.out.now.items c.extend_from_slice.new.self.items c.push_coefficients.new.out.items
    c.extend_from_slice-2.new.self.items (codes "ramified ") (coefficients_text p) (codes "\n")
    c.in_ok-extend_from_slice.ensures.items c.in_ok-push_coefficients.ensures.ok c.in_ok-extend_from_slice-2.ensures.items
    ∙ ap (λ t. c.args.out.now.items ++ t) (sym (place_spelled p))

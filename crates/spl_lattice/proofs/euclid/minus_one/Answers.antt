use Rattle.std.proofs.Common.{◌∙◌, ap, arith}
use Rattle.std.proofs.lemmas.Bool.{lt-ltb}
use Rattle.theory_rings.specs.Polynomial.{constant_coefficients}
use Rattle.spl_field.specs.SmallField.{size_of}
use Rattle.spl_lattice.proofs.euclid.minus_one.Goals as goal

pub negative-requires : goal.negative-requires
negative-requires c = omega arith

pub constant-requires : goal.constant-requires
constant-requires c = lt-ltb c.negative.result (size_of c.args.f.now) c.negative.ensures.elem

pub returns-clause-value : goal.returns-clause-value
returns-clause-value c k =
    c.in_ok-constant.ensures.value k ∙ ap (λ n. constant_coefficients 0 n k) c.negative.ensures.same

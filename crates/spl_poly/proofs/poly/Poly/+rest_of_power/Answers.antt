use Rattle.std.proofs.Common.{arith, refl, sym, ◌∙◌, ap, subst, get_or, length, ℕ, zero, suc, [], ◌∷◌, ◌≡◌, ◌+◌, ◌/◌}
use Rattle.theory_rings.specs.Polynomial.{constant_coefficients}
use Rattle.spl_field.specs.SmallField.{small_ops}
use Rattle.spl_poly.specs.Operations.{IsOver, IsPowerRemainder, without_zeros}
use Rattle.std.proofs.lemmas.List.Elements.{All-cons, All-nil}
use Rattle.theory_rings.specs.Ops.{IsElem}
use Rattle.spl_poly.proofs.PowerRemainders.{power_remainder_zero, power_remainder_square, power_remainder_next}
use Rattle.spl_poly.proofs.poly.Poly.+rest_of_power.Goals as goal

-- the coefficients of 1
one_coefficients : (k : ℕ) → get_or (without_zeros (1 ∷ [])) k 0 ≡ constant_coefficients 0 1 k
one_coefficients zero = refl
one_coefficients (suc k) = refl

pub returns-then-exponent-eq0-clause-value : goal.returns-then-exponent-eq0-clause-value
returns-then-exponent-eq0-clause-value t c =
    let o = small_ops c.args.f.now in
    let r = c.in_ok-from_slice.field-0 in
    subst (λ n. IsPowerRemainder o c.args.self.now n c.args.modulus.now r) (sym c.if-exponent-eq0.true)
    (power_remainder_zero o c.know_laws.ensures c.args.modulus.now c.requires.modulus_over c.requires.modulus_trimmed
    c.args.self.now c.requires.self_over c.requires.self_trimmed r
    (λ k. ap (λ l. get_or l k 0) c.in_ok-from_slice.ensures.value ∙ one_coefficients k)
    (omega (arith, ap length c.in_ok-from_slice.ensures.value, c.requires.modulus_degree))
    (subst (IsOver o) (sym c.in_ok-from_slice.ensures.value)
    (All-cons (IsElem o) 1 [] c.know_laws.ensures.one-elem (All-nil (IsElem o)))))

pub returns-then-exponent-eq0-2-clause-value : goal.returns-then-exponent-eq0-2-clause-value
returns-then-exponent-eq0-2-clause-value t c =
    let o = small_ops c.args.f.now in
    let n : ℕ = c.args.exponent / 2 in
    let e : n + n ≡ c.args.exponent = omega arith in
    subst (λ n. IsPowerRemainder o c.args.self.now n c.args.modulus.now c.in_ok-square.square) e
    (power_remainder_square o c.know_laws.ensures c.args.modulus.now c.requires.modulus_over c.requires.modulus_trimmed
    c.args.self.now c.requires.self_over c.requires.self_trimmed n c.in_ok-half.half c.in_ok-square.square
    c.in_ok-half.ensures.over c.in_ok-half.ensures.trimmed c.in_ok-square.ensures.over c.in_ok-square.ensures.trimmed
    c.in_ok-half.ensures.value c.in_ok-square.ensures.value)

pub returns-clause-value : goal.returns-clause-value
returns-clause-value t c =
    let o = small_ops c.args.f.now in
    let n : ℕ = c.args.exponent / 2 in
    let e : suc (n + n) ≡ c.args.exponent = omega arith in
    subst (λ n. IsPowerRemainder o c.args.self.now n c.args.modulus.now c.in_ok-product_rest.field-0) e
    (power_remainder_next o c.know_laws.ensures c.args.modulus.now c.requires.modulus_over c.requires.modulus_trimmed
    c.args.self.now c.requires.self_over c.requires.self_trimmed
    (n + n) c.in_ok-square.square c.in_ok-product_rest.field-0
    c.in_ok-square.ensures.over c.in_ok-square.ensures.trimmed c.in_ok-product_rest.ensures.over
    c.in_ok-product_rest.ensures.trimmed
    (power_remainder_square o c.know_laws.ensures c.args.modulus.now c.requires.modulus_over c.requires.modulus_trimmed
    c.args.self.now c.requires.self_over c.requires.self_trimmed n c.in_ok-half.half c.in_ok-square.square
    c.in_ok-half.ensures.over c.in_ok-half.ensures.trimmed c.in_ok-square.ensures.over c.in_ok-square.ensures.trimmed
    c.in_ok-half.ensures.value c.in_ok-square.ensures.value)
    c.in_ok-product_rest.ensures.value)

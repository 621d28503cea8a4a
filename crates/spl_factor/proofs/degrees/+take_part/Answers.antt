use Rattle.std.proofs.Common.{◌<◌, subst, arith, length}
use Rattle.theory_fractions.specs.PolynomialLists.{IsPolynomialList}
use Rattle.spl_field.specs.SmallField.{small_ops}
use Rattle.spl_factor.proofs.Parts.{part_irreducible, part_of_divisor, quotient_part, quotient_not_constant}
use Rattle.spl_factor.proofs.Parts.{quotient_shorter, next_trans, next_shorter}
use Rattle.theory_rings.proofs.Polynomials.Monic.{divides_trans}
use Rattle.spl_factor.specs.Steps.{field, poly}
use Rattle.spl_factor.proofs.degrees.+take_part.Goals as goal

pub take-requires-clause-irreducible : goal.take-requires-clause-irreducible
take-requires-clause-irreducible t c =
    let e = c.degree_of.ensures in
    let l = c.if-degree_of-degree.true in
    part_irreducible c.args.f.now c.args.degree c.args.g c.requires.part c.requires.not_constant
    (omega arith)

pub take_part-requires : goal.take_part-requires
take_part-requires t c =
    let h = c.in_ok-factor in (
      subst (λ n. length h.factor < n) c.decreases h.ensures.smaller,
      (
        c.requires.degree,
        (
          part_of_divisor c.args.f.now c.args.degree c.args.g h.factor c.requires.part h.ensures.list
              h.ensures.divides,
          (h.ensures.not_constant, c.requires.work),
        ),
      ),
    )

pub take_part-requires-2 : goal.take_part-requires-2
take_part-requires-2 t c =
    let f = c.args.f.now in
    let h = c.in_ok-factor in
    let q = c.in_ok-quotient in
    let n = c.in_ok-part.ensures.next in
    let hq : IsPolynomialList (small_ops f) q.field-0.quotient =
    record { over = q.ensures.quotient_over; trimmed = q.ensures.quotient_trimmed } in
    let hr : IsPolynomialList (small_ops f) q.field-0.remainder =
    record { over = q.ensures.remainder_over; trimmed = q.ensures.remainder_trimmed } in (
      subst (λ n. length q.field-0.quotient < n) c.decreases
          (quotient_shorter f c.args.degree c.args.g h.factor q.field-0.quotient q.field-0.remainder c.requires.part
          h.ensures.list h.ensures.divides h.ensures.smaller hq hr q.ensures.value h.ensures.not_constant),
      (
        c.requires.degree,
        (
          quotient_part f c.args.degree c.args.g h.factor q.field-0.quotient q.field-0.remainder
              c.requires.part h.ensures.list h.ensures.divides h.ensures.smaller hq hr q.ensures.value,
          (
            quotient_not_constant f c.args.degree c.args.g h.factor q.field-0.quotient q.field-0.remainder
                c.requires.part h.ensures.list h.ensures.divides h.ensures.smaller hq hr q.ensures.value,
            n.work,
          ),
        ),
      ),
    )

pub returns-clause-next : goal.returns-clause-next
returns-clause-next t c =
    let a = c.in_ok-part in
    let b = c.in_ok-take_part in
    next_trans c.args.f.now c.args.work.rest a.part.rest b.field-0.rest c.args.work.list.items a.part.list.items
    b.field-0.list.items a.ensures.next b.ensures.next

pub returns-clause-fewer : goal.returns-clause-fewer
returns-clause-fewer t c = λ d.
    let f = c.args.f.now in
    let h = c.in_ok-factor in
    let a = c.in_ok-part in
    let b = c.in_ok-take_part in
    let n = a.ensures.next in
    let x = a.ensures.fewer (divides_trans (field f) (poly f h.factor) (poly f c.args.g) (poly f c.args.work.rest)
    h.ensures.divides d) in
    let y = next_shorter f a.part.rest b.field-0.rest a.part.list.items b.field-0.list.items n.work b.ensures.next in
    omega arith

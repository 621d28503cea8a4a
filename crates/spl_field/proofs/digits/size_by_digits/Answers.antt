use Rattle.std.proofs.Common.{◌*◌, ◌<◌, ◌≤◌, length, sym, ◌∙◌, subst, arith}
use Rattle.std.proofs.Math.Bool.{true≢false}
use Rattle.std.proofs.lemmas.Bool.{eq-eqb}
use Rattle.std.proofs.Math.Nat.{pos_of_ne-zero}
use Rattle.spl_field.proofs.Sizes.{not_fits_of_size, not_fits_of_number, fits_of_loop}
use Rattle.spl_field.proofs.digits.size_by_digits.Goals.{then-size-gt256-via-then-size-gt256}
use Rattle.spl_field.proofs.digits.size_by_digits.Goals.{then-size-gt256-via-else-size-gt256+then-p-from}
use Rattle.spl_field.proofs.digits.size_by_digits.Goals as goal

pub returns-then-size-gt256 : goal.returns-then-size-gt256
returns-then-size-gt256 c = λ fits. elim c.then-size-gt256.branch [
  | then-size-gt256-via-then-size-gt256 w ↦ not_fits_of_size c.args.p c.args.modulus.now c.loop-k.k c.loop-k.size
      (omega arith) c.loop-k.invariant.power
      (subst (λ n. 256 < c.loop-k.size * n) c.from-size.ensures w.if-size-gt256.true) fits
  | then-size-gt256-via-else-size-gt256+then-p-from w ↦ not_fits_of_number c.args.p c.args.modulus.now c.loop-k.k
      (omega arith)
      (subst (λ n. c.args.p ≤ n) w.from.ensures w.if-p-from.true) fits
]

pub returns : goal.returns
returns c = fits_of_loop c.args.p c.args.modulus.now c.loop-k.k c.loop-k.size (omega arith)
    (pos_of_ne-zero (λ e.
    true≢false (sym (eq-eqb (length c.args.modulus.now) 0 e) ∙ sym c.is_empty.ensures ∙ c.if-is_empty.false)))
    (omega arith) (omega arith)
    c.loop-k.invariant.power c.loop-k.invariant.small c.loop-k.invariant.below

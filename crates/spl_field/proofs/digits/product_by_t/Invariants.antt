use Rattle.spl_field.proofs.DigitLoops.{IsPartial}
use Rattle.spl_field.proofs.TimesT.{digit_by_t}
use Rattle.spl_field.proofs.digits.product_by_t.Given as goal

abbrev pub invariant-loop-k : goal.invariant-loop-k
invariant-loop-k l = IsPartial l.p l.k l.place l.total (digit_by_t l.p l.modulus l.a)

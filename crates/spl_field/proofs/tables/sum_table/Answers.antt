use Rattle.std.proofs.Common.{◌≡◌, ℕ, ◌/◌, ◌%◌, List, [], ◌∷◌, ◌++◌, length, ap, arith, subst₂, length-append}
use Rattle.theory_rings.specs.FieldByDigits.{IsSumByDigits}
use Rattle.spl_field.proofs.Rows.{get_or-more}
use Rattle.spl_field.proofs.tables.sum_table.Goals as goal

pub loop-i-preserved : goal.loop-i-preserved
loop-i-preserved c =
    let v : ℕ = c.sum_by_digits.result in
    let t : List ℕ = c.loop-i.table.items in
    let e : c.push.new.self.items ≡ t ++ v ∷ [] = c.in_ok-push.ensures.items in
    let whole = ap length e in
    let parts = length-append t (v ∷ []) in
    let full = c.loop-i.invariant.full in
    record {
      full = omega arith;
      entries = rw e (get_or-more c.loop-i.i
          (λ k n. IsSumByDigits c.args.p c.args.modulus.now (k / c.args.size) (k % c.args.size) n) t v full
          c.loop-i.invariant.entries
          (subst₂ (λ a b. IsSumByDigits c.args.p c.args.modulus.now (c.loop-i.i / a) (c.loop-i.i % b) v)
          c.from-in-loop-i.ensures c.from-in-loop-i-2.ensures c.sum_by_digits.ensures));
    }

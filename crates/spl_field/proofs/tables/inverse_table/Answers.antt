use Rattle.std.proofs.Common.{◌≡◌, ℕ, ◌<◌, List, [], ◌∷◌, ◌++◌, length, ap, arith, length-append}
use Rattle.theory_rings.specs.FieldByDigits.{IsProductByDigits}
use Rattle.spl_field.proofs.Rows.{get_or-more}
use Rattle.spl_field.proofs.tables.inverse_table.Goals as goal

pub loop-a-preserved : goal.loop-a-preserved
loop-a-preserved c =
    let v : ℕ = c.inverse_entry.result in
    let t : List ℕ = c.loop-a.table.items in
    let e : c.push.new.self.items ≡ t ++ v ∷ [] = c.in_ok-push.ensures.items in
    let whole = ap length e in
    let parts = length-append t (v ∷ []) in
    let full = c.loop-a.invariant.full in
    record {
      full = omega arith;
      elements = rw e (get_or-more c.loop-a.a
          (λ _ n. n < c.args.size) t v full c.loop-a.invariant.elements c.inverse_entry.ensures.element);
      zero = rw e (get_or-more c.loop-a.a (λ k n. k ≡ 0 → n ≡ 0) t v full
          c.loop-a.invariant.zero c.inverse_entry.ensures.zero);
      entries = rw e (get_or-more c.loop-a.a
          (λ k n. 0 < k → IsProductByDigits c.args.p c.args.modulus.now k n 1) t v full
          c.loop-a.invariant.entries c.inverse_entry.ensures.value);
    }

pub returns-clause-entries : goal.returns-clause-entries
returns-clause-entries c = λ a p l. c.loop-a.invariant.entries a (omega arith) p

use Rattle.std.proofs.Common.{rules, ◌≡◌, ℕ, ◌+◌, ◌*◌, ◌<◌, List, ◌++◌, length, get_or, take, ap, subst, sym, arith}
use Rattle.std.proofs.Common.{length-append}
use Rattle.std.proofs.Math.Nat.{add-mul}
use Rattle.std.proofs.lemmas.List.{get_or-take, length-take-le}
use Rattle.theory_rings.specs.FieldByDigits.{IsProductByDigits}
use Rattle.spl_field.proofs.Rows.{get_or-more_rows, rows_below}
use Rattle.spl_field.proofs.tables.product_table.Goals as goal

pub loop-a-preserved : goal.loop-a-preserved
loop-a-preserved c =
    let q = c.args.size in
    let row : List ℕ = c.product_row-row.result in
    let t : List ℕ = c.loop-a.table.items in
    let n : ℕ = c.from-in-loop-a.result in
    let same : n ≡ q = c.from-in-loop-a.ensures in
    let e : c.extend_from_slice.new.self.items ≡ t ++ take n row = c.in_ok-extend_from_slice.ensures.items in
    let whole = ap length e in
    let parts = length-append t (take n row) in
    let last = length-take-le n row (search rules) in
    let full = c.loop-a.invariant.full in
    let product = add-mul c.loop-a.a 1 q in
    record {
      full = omega arith;
      entries = rw e (get_or-more_rows q c.loop-a.a (λ x y v. IsProductByDigits c.args.p c.args.modulus.now x y v) t
          (take n row) full
          c.loop-a.invariant.entries
          (λ y l. subst (IsProductByDigits c.args.p c.args.modulus.now c.loop-a.a y)
          (sym (get_or-take n row y 0 (omega arith))) (c.product_row-row.ensures y l)));
    }

pub returns-clause-elements : goal.returns-clause-elements
returns-clause-elements c = rows_below c.args.size c.loop-a.table.items
    (λ a b la lb. let s = c.loop-a.invariant.entries a b (omega arith) lb in
    subst (λ n. get_or c.loop-a.table.items (a * c.args.size + b) 0 < n) (sym c.requires.size) s.below)

pub returns-clause-entries : goal.returns-clause-entries
returns-clause-entries c = λ a b la lb. c.loop-a.invariant.entries a b (omega arith) lb

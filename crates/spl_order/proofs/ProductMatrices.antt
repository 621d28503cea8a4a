-- The matrix of the constants of products: its shape.
use Rattle.std.specs.Prelude.{◌≡◌, ◌≤◌, ◌+◌, ◌*◌, ◌/◌, ◌%◌, ℕ, List, [], length}
use Rattle.std.proofs.Common.{arith}
use Rattle.theory_rings.specs.Ops.{Ops, FieldLaws}
use Rattle.theory_rings.specs.Sum.{table}
use Rattle.theory_rings.proofs.Rings.Elements.{at-elem}
use Rattle.theory_rings.proofs.Sums.Lists.{length-table, All-table}
use Rattle.theory_spaces.specs.Tuples.{IsTuple, constant}
use Rattle.theory_spaces.proofs.Matrices.PairIndex.{pair-lt}
use Rattle.theory_spaces.proofs.Tuples.Tuples.{IsTuple-table}
use Rattle.theory_tables.specs.Matrix.{IsMatrix, width_of}
use Rattle.spl_order.specs.LeftOrders.{product_matrix}

module _ {R : Type 0} (r : Ops R) (n : ℕ) (cs : List R) where
  abbrev row : ℕ → List R
  row t = table n (λ i. constant r n cs i (t / n) (t % n))

  pub product_matrix-count : length (product_matrix r n cs) ≡ n * n
  product_matrix-count = length-table (n * n) row

  pub product_matrix-some : 1 ≤ n → 1 ≤ length (product_matrix r n cs)
  product_matrix-some h = omega (arith, product_matrix-count, pair-lt n n 0 0 h h)

  pub product_matrix-shape : FieldLaws r → IsTuple r (n * n * n) cs → IsMatrix r n (product_matrix r n cs)
  product_matrix-shape L h = All-table (IsTuple r n) (n * n) row (λ t _.
      IsTuple-table r n (λ i. constant r n cs i (t / n) (t % n))
      (λ i _. at-elem r L cs h.of_elements ((i * n + t / n) * n + t % n)))

  pub product_matrix-width : FieldLaws r → IsTuple r (n * n * n) cs → 1 ≤ n → width_of (product_matrix r n cs) ≡ n
  product_matrix-width L h some = let t = product_matrix-shape L h 0 [] (product_matrix-some some) in t.right_length

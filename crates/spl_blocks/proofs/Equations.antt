-- The equations of z^n = z from the differences z^n − z, and of z^n = 0 from the powers, column by column.
use Rattle.std.specs.Prelude.{◌≡◌, ◌≤◌, ℕ, List, [], length}
use Rattle.std.proofs.Common.{sym, ◌∙◌, ap, subst, arith}
use Rattle.theory_rings.specs.Ops.{Ops}
use Rattle.theory_rings.specs.Sum.{table, at}
use Rattle.theory_rings.proofs.Sums.Lists.{length-table, get_or-table, table_congr}
use Rattle.theory_spaces.specs.Tuples.{tuple_neg}
use Rattle.theory_spaces.proofs.Tuples.Tuples.{at-table}
use Rattle.theory_tables.specs.Matrix.{entry, IsMatrix, width_of}
use Rattle.theory_tables.specs.Structure.{Structure}
use Rattle.theory_tables.specs.Subspace.{SpansKernel}
use Rattle.spl_blocks.specs.Fixed.{difference_of, coordinate_equations}

module _ {E : Type 0} (o : Ops E) (T : Structure E) where
  abbrev m : ℕ
  m = T.dim

  pub difference-is : (x y r : List E) → length x ≡ m
      → r ≡ table (length x) (λ k. o.add (at o x k) (o.neg (at o y k))) → r ≡ difference_of o T x y
  difference-is x y r long e =
      e ∙ ap (λ n. table n (λ k. o.add (at o x k) (o.neg (at o y k)))) long
      ∙ table_congr m (λ k. o.add (at o x k) (o.neg (at o y k))) (λ k. o.add (at o x k) (at o (tuple_neg o m y) k))
      (λ k l. ap (o.add (at o x k)) (sym (at-table o m (λ k. o.neg (at o y k)) k l)))

-- the columns of rows
module _ {E : Type 0} (o : Ops E) (w : ℕ) (rows columns : List (List E))
    (columns_are : columns ≡ table w (λ j. table (length rows) (λ i. entry o rows i j))) where
  pub columns-long : length columns ≡ w
  columns-long = ap length columns_are ∙ length-table w (λ j. table (length rows) (λ i. entry o rows i j))

  pub columns-some : 1 ≤ w → 1 ≤ length columns
  columns-some l = omega (arith, l, columns-long)

  pub columns-wide : 1 ≤ w → IsMatrix o (length rows) columns → width_of columns ≡ length rows
  columns-wide l shape = let h = shape 0 [] (columns-some l) in h.right_length

  pub columns_kernel : 1 ≤ w → IsMatrix o (length rows) columns → (kernel : List (List E))
      → SpansKernel o (length columns) (width_of columns) columns kernel
      → SpansKernel o w (length rows) (table w (λ j. table (length rows) (λ i. entry o rows i j))) kernel
  columns_kernel l shape kernel h =
      subst (λ c. SpansKernel o w (length rows) c kernel) columns_are
      (subst (λ n. SpansKernel o w n columns kernel) (columns-wide l shape)
      (subst (λ n. SpansKernel o n (width_of columns) columns kernel) columns-long h))

-- equations between rows that are a table
module _ {E : Type 0} (o : Ops E) (T : Structure E) (n : ℕ) (g : ℕ → List E) (images slice : List (List E)) (w : ℕ)
    (dim : w ≡ T.dim) (slice_is : slice ≡ images) (images_are : images ≡ table n g) where
  pub equations-wide : length slice ≡ n
  equations-wide = ap length (slice_is ∙ images_are) ∙ length-table n g

  equations-are : table w (λ j. table (length slice) (λ i. entry o slice i j)) ≡ coordinate_equations o T n g
  equations-are =
      ap (λ s. table w (λ j. table (length s) (λ i. entry o s i j))) (slice_is ∙ images_are)
      ∙ ap (λ k. table k (λ j. table (length (table n g)) (λ i. entry o (table n g) i j))) dim
      ∙ table_congr T.dim (λ j. table (length (table n g)) (λ i. entry o (table n g) i j))
      (λ j. table n (λ i. at o (g i) j))
      (λ j _. ap (λ k. table k (λ i. entry o (table n g) i j)) (length-table n g)
      ∙ table_congr n (λ i. entry o (table n g) i j) (λ i. at o (g i) j)
      (λ i l. ap (λ r. at o r j) (get_or-table n g i [] l)))

  pub equations_kernel : (kernel : List (List E))
      → SpansKernel o w (length slice) (table w (λ j. table (length slice) (λ i. entry o slice i j))) kernel
      → SpansKernel o T.dim n (coordinate_equations o T n g) kernel
  equations_kernel kernel h =
      subst (λ c. SpansKernel o T.dim n c kernel) equations-are
      (subst (λ k. SpansKernel o T.dim k (table w (λ j. table (length slice) (λ i. entry o slice i j))) kernel)
      equations-wide
      (subst (λ k. SpansKernel o k (length slice) (table w (λ j. table (length slice) (λ i. entry o slice i j))) kernel)
      dim h))

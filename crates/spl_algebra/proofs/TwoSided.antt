-- The coordinates of the maps y → (b_i·y)·b_j as sums of constants.
use Rattle.std.specs.Prelude.{◌≡◌, ◌+◌, ◌*◌, ◌<◌, ℕ, List, length, All}
use Rattle.std.proofs.Common.{sym, ◌∙◌, ap, ap₂, subst, arith}
use Rattle.std.proofs.Math.Nat as nat
use Rattle.theory_rings.specs.Ops.{Ops, IsElem, FieldLaws}
use Rattle.theory_rings.specs.Sum.{at}
use Rattle.theory_rings.proofs.Rings.Elements.{sum_of_congr}
use Rattle.theory_spaces.specs.Tuples.{IsTuple, product, basis, constant}
use Rattle.theory_tables.specs.Matrix.{IsMatrix}
use Rattle.theory_tables.specs.Subspace.{Rows, AreIndependent, SameSpan, IsSubspace}
use Rattle.theory_tables.specs.Structure.{Structure}
use Rattle.spl_matrix.proofs.ReducedBases.{reduced_basis_is_independent}
use Rattle.spl_algebra.specs.TwoSided.{two_sided_maps, IsTwoSidedRank}
use Rattle.spl_algebra.specs.Contractions.{contracted}
use Rattle.spl_algebra.proofs.Contractions.{constant_within, at-product_basis}

-- the places that begin at that of j and l among the constants
pub stepped : (l j r m start : ℕ) → start ≡ (0 * m + j) * m + r → start + l * (m * m) ≡ (l * m + j) * m + r
stepped l j r m start e = omega (arith, e, nat.add-mul (l * m) j m, nat.add-mul (0 * m) j m, nat.mul_assoc l m m)

pub stepped_within : (l j r m start n : ℕ) → start ≡ (0 * m + j) * m + r → l < m → j < m → r < m → n ≡ m * m * m
    → start + l * (m * m) < n
stepped_within l j r m start n e l_in j_in r_in long = subst (λ p. p < n) (sym (stepped l j r m start e))
    (constant_within l j r m n l_in j_in r_in long)

contracted_is : {E : Type 0} (o : Ops E) (L : FieldLaws o) (m : ℕ) (cs : List E) → All (IsElem o) cs
    → (a : List E) (j r start : ℕ) → All (IsElem o) a → j < m → r < m → start ≡ (0 * m + j) * m + r
    → contracted o m a cs start (m * m) ≡ at o (product o m cs a (basis o m j)) r
contracted_is o L m cs hc a j r start ha j_in r_in e =
    sum_of_congr o m (λ l. o.mul (at o a l) (at o cs (start + l * (m * m))))
    (λ l. o.mul (at o a l) (constant o m cs l j r))
    (λ l _. ap (λ p. o.mul (at o a l) (at o cs p)) (stepped l j r m start e))
    ∙ sym (at-product_basis o L m cs hc a j r ha j_in r_in)

-- so an item that is such a sum is the coordinate of a product with b_j
pub coordinate_is : {E : Type 0} (o : Ops E) (L : FieldLaws o) (m : ℕ) (cs : List E) → All (IsElem o) cs
    → (a b : List E) (j r start : ℕ) (x : E) → IsTuple o m a → a ≡ b → j < m → r < m → start ≡ (0 * m + j) * m + r
    → x ≡ contracted o (length a) a cs start (m * m) → x ≡ at o (product o m cs b (basis o m j)) r
coordinate_is o L m cs hc a b j r start x ha e j_in r_in p q =
    q ∙ ap (λ n. contracted o n a cs start (m * m)) ha.right_length
    ∙ contracted_is o L m cs hc a j r start ha.of_elements j_in r_in p
    ∙ ap (λ c. at o (product o m cs c (basis o m j)) r) e

-- the number of rows of a subspace with the same span as the maps is the rank
pub rank_is : {E : Type 0} (o : Ops E) (L : FieldLaws o) (A : Structure E) (m : ℕ) (cs : List E) (S : Rows E)
    (maps : List (List E)) (r : ℕ) → m ≡ A.dim → cs ≡ A.constants → maps ≡ two_sided_maps o m cs → IsSubspace o S
    → S.width ≡ m * m → SameSpan o (m * m) S.rows maps → r ≡ length S.rows → IsTwoSidedRank o A r
rank_is {E} o L A m cs S maps r em ec e b w same q =
    let B : Structure E = record { dim = m; constants = cs } in
    let B_is : B ≡ A = ap₂ (λ n c. let X : Structure E = record { dim = n; constants = c } in X) em ec in
    let rank : IsTwoSidedRank o B r = record {
      rows = S.rows;
      count = sym q;
      shape = subst (λ n. IsMatrix o n S.rows) w b.shape;
      independent = subst (λ n. AreIndependent o n S.rows) w (reduced_basis_is_independent o L S.width S.rows b);
      spans = subst (SameSpan o (m * m) S.rows) e same;
    } in
    subst (λ X. IsTwoSidedRank o X r) B_is rank

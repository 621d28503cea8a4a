-- The quotient of an algebra by an ideal, by a matrix that sends an element to its class and by lifts of the basis.
-- (Jacobson, Basic Algebra I, chapter 2.)
use Rattle.std.specs.Prelude.{◌≡◌, ◌<◌, ℕ, List, [], length, get_or}
use Rattle.theory_rings.specs.Ops.{Ops}
use Rattle.theory_tables.specs.Matrix.{IsMatrix, image}
use Rattle.theory_tables.specs.Subspace.{SpansKernel}
use Rattle.theory_tables.specs.Structure.{Structure, IsOver, IsElement, IsAssociative, product_of, basis_of}
use Rattle.theory_tables.specs.Algebras.{IsIdentity}

module _ {E : Type 0} (o : Ops E) (A : Structure E) (ideal : List (List E)) where
  -- B is A modulo the combinations of the rows of `ideal`
  pub record IsQuotient (B : Structure E) (project lifts : List (List E)) : Type 0 where
    pub over : IsOver o B
    pub project_shape : IsMatrix o A.dim project
    pub project_height : length project ≡ B.dim
    pub lifts_shape : IsMatrix o A.dim lifts
    pub lifts_height : length lifts ≡ B.dim
    -- v ↦ project·v keeps products
    pub products : (a b : List E) → IsElement o A a → IsElement o A b
        → image o B.dim A.dim project (product_of o A a b) ≡ product_of o B (image o B.dim A.dim project a)
        (image o B.dim A.dim project b)
    -- it sends to 0 the combinations of the rows of `ideal`, and no others
    pub kernel : SpansKernel o B.dim A.dim project ideal
    -- and row i of the lifts to the basis element i of B
    pub lifted : (i : ℕ) → i < B.dim → image o B.dim A.dim project (get_or lifts i []) ≡ basis_of o B i

  -- the quotient of an algebra with these properties has them: it is associative, and the class of an identity is one;
  -- and each of its elements is the class of one
  pub record QuotientKeeps (B : Structure E) (project : List (List E)) : Type 0 where
    pub associative : IsAssociative o A → IsAssociative o B
    pub identity : (one : List E) → IsIdentity o A one → IsIdentity o B (image o B.dim A.dim project one)
    pub onto : (b : List E) → IsElement o B b
        → (a : List E) × IsElement o A a × (image o B.dim A.dim project a ≡ b)

  abbrev pub QuotientLaw : Type 0
  QuotientLaw = IsOver o A → (B : Structure E) (project lifts : List (List E)) → IsQuotient B project lifts
      → QuotientKeeps B project

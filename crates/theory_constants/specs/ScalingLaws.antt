-- Statements on the algebra whose constants are those of another times an element of the field other than 0.
use Rattle.std.specs.Prelude.{◌≡◌, ◌≢◌, ◌↔◌, ◌<◌, ℕ, List}
use Rattle.theory_rings.specs.Ops.{Ops, IsElem}
use Rattle.theory_spaces.specs.Sets.{Same}
use Rattle.theory_spaces.specs.Tuples.{tuple_scale}
use Rattle.theory_tables.specs.Matrix.{entry}
use Rattle.theory_tables.specs.Structure.{Structure, IsOver, IsElement, AssociatesAt, product_of}
use Rattle.theory_tables.specs.Algebras.{IsIdentity, IsCentral}
use Rattle.theory_tables.specs.Traces.{trace_matrix, InTraceRadical, IsNondegenerate}
use Rattle.theory_constants.specs.Scaled.{scaled}

module _ {E : Type 0} (o : Ops E) (A : Structure E) where
  -- what the algebra with the constants c·γ has of that with the constants γ
  pub record KeepsByScaling (c : E) : Type 0 where
    pub over : IsOver o (scaled o c A)
    -- its products are c times those of the other, and x ↦ c·x carries them into the other
    pub product : (a b : List E) → IsElement o A a → IsElement o A b
        → product_of o (scaled o c A) a b ≡ tuple_scale o A.dim c (product_of o A a b)
    pub carries : (a b : List E) → IsElement o A a → IsElement o A b
        → tuple_scale o A.dim c (product_of o (scaled o c A) a b)
        ≡ product_of o A (tuple_scale o A.dim c a) (tuple_scale o A.dim c b)
    pub triple : (i j k : ℕ) → AssociatesAt o A i j k ↔ AssociatesAt o (scaled o c A) i j k
    pub identity : (e : List E) → IsElement o A e
        → (IsIdentity o A e ↔ IsIdentity o (scaled o c A) (tuple_scale o A.dim (o.inv c) e))
    pub central : Same (IsCentral o A) (IsCentral o (scaled o c A))
    -- the trace form is c² times that of the other
    pub form : (i j : ℕ) → i < A.dim → j < A.dim
        → entry o (trace_matrix o (scaled o c A)) i j ≡ o.mul c (o.mul c (entry o (trace_matrix o A) i j))
    pub radical : Same (InTraceRadical o A) (InTraceRadical o (scaled o c A))
    pub nondegenerate : IsNondegenerate o A ↔ IsNondegenerate o (scaled o c A)

  abbrev pub ScalingLaw : Type 0
  ScalingLaw = IsOver o A → (c : E) → IsElem o c → c ≢ o.zero → KeepsByScaling c

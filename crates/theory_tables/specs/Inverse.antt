-- Inverses of square matrices.
use Rattle.std.specs.Prelude.{◌≡◌, ◌≢◌, ◌<◌, ℕ, List, length}
use Rattle.theory_rings.specs.Ops.{Ops}
use Rattle.theory_rings.specs.Sum.{sum_of, at}
use Rattle.theory_spaces.specs.Tuples.{IsTuple}
use Rattle.theory_tables.specs.Matrix.{entry, product, identity, IsMatrix}

module _ {E : Type 0} (o : Ops E) where
  -- b is the inverse of the h by h matrix a, on both sides
  pub record IsInverse (h : ℕ) (a b : List (List E)) : Type 0 where
    pub shape : IsMatrix o h b
    pub height : length b ≡ h
    pub inverse-mul : product o h h h b a ≡ identity o h
    pub mul-inverse : product o h h h a b ≡ identity o h

  -- some combination of the h rows with w columns is 0, and not all of its multipliers are
  pub record AreDependent (h w : ℕ) (a : List (List E)) : Type 0 where
    pub multipliers : List E
    pub tuple : IsTuple o h multipliers
    pub kills : (j : ℕ) → j < w → sum_of o h (λ i. o.mul (at o multipliers i) (entry o a i j)) ≡ o.zero
    pub place : ℕ
    pub within : place < h
    pub nonzero : at o multipliers place ≢ o.zero

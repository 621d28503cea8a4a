-- The monic generator of the ideal that finitely many polynomials generate, as lists of coefficients, that of power 0
-- first. (Cox, Little, O'Shea, Ideals, Varieties, and Algorithms, chapter 1, section 5.)
use Rattle.std.specs.Prelude.{◌≡◌, ℕ, ◌<◌, List, [], length, get_or}
use Rattle.theory_rings.specs.Ops.{Ops}
use Rattle.theory_rings.specs.Sum.{at, sum_of}
use Rattle.theory_rings.specs.Polynomial.{convolution_of}
use Rattle.spl_poly.specs.Operations.{Divides, IsZeroOrMonic}

module _ {E : Type 0} (o : Ops E) where
  -- v is the sum of multiplier times element
  abbrev pub IsCombination : List (List E) → List (List E) → List E → Type 0
  IsCombination list multipliers v =
      (k : ℕ) → at o v k ≡ sum_of o (length list)
      (λ i. convolution_of o (at o (get_or multipliers i [])) (at o (get_or list i [])) k)

  -- the value is 0 or monic, divides each polynomial of the list, and is their combination by the multipliers
  pub record IsGenerator (list multipliers : List (List E)) (value : List E) : Type 0 where
    pub monic : IsZeroOrMonic o value
    pub divides : (i : ℕ) → i < length list → Divides o value (get_or list i [])
    pub count : length multipliers ≡ length list
    pub combination : IsCombination list multipliers value

-- A degree of a field along an isomorphism of fields. (Lang, Algebra, section II.1.)
use Rattle.std.specs.Prelude.{◌≡◌}
use Rattle.theory_rings.specs.Ring.{RingOn}
use Rattle.theory_rings.specs.Homomorphism.{IsRingHom}
use Rattle.theory_lattices.specs.Degree.{DegreeOn}

-- a homomorphism with an inverse
pub record IsRingIso {K L : Type 0} (R : RingOn K) (S : RingOn L) (map : K → L) : Type 0 where
  pub hom : IsRingHom R S map
  pub back : L → K
  pub map-back : (y : L) → map (back y) ≡ y
  pub back-map : (x : K) → back (map x) ≡ x

-- W is the degree of what the elements become
abbrev pub IsDegreeAlong : {K L : Type 0} {R : RingOn K} {S : RingOn L} → DegreeOn R → DegreeOn S → (K → L) → Type 0
IsDegreeAlong W X map = (a : _) → W.deg a ≡ X.deg (map a)

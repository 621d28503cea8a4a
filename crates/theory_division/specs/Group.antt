-- Finite groups: centralizers, classes of conjugate members, the centre, and how their sizes are tied.
-- (Jacobson, Basic Algebra I, section 1.12.)
use Rattle.std.specs.Prelude.{◌≡◌, ℕ, ◌+◌, ◌*◌, Bool, ◌&&◌, not, eqb, ltb}
use Rattle.theory_rings.specs.Sum.{sum}
use Rattle.theory_rings.specs.Naturals.{nat_monoid}
use Rattle.theory_rings.specs.Enumerated.{Enumerated}
use Rattle.theory_division.specs.Counting.{one_if, count, same}

pub record GroupOn (G : Type 0) : Type 0 where
  infixl 70 ◌·◌
  pub one : G
  pub ◌·◌ : G → G → G
  pub inv : G → G
  pub mul_assoc : (a b c : G) → (a · b) · c ≡ a · (b · c)
  pub one-mul : (a : G) → one · a ≡ a
  pub inv-mul : (a : G) → inv a · a ≡ one

-- g x g⁻¹
abbrev pub conjugate : {G : Type 0} → GroupOn G → G → G → G
conjugate H g x = H.◌·◌ (H.◌·◌ g x) (H.inv g)

module _ {G : Type 0} (H : GroupOn G) (E : Enumerated G) where
  abbrev pub commute : G → G → Bool
  commute g x = same E (H.◌·◌ g x) (H.◌·◌ x g)

  -- how many commute with x
  abbrev pub centralizer_order : G → ℕ
  centralizer_order x = count E (λ g. commute g x)

  -- some g has g x g⁻¹ = y
  abbrev pub are_conjugate : G → G → Bool
  are_conjugate x y = ltb 0 (count E (λ g. same E (conjugate H g x) y))

  -- how many are conjugate to x
  abbrev pub class_order : G → ℕ
  class_order x = count E (λ y. are_conjugate x y)

  -- all commute with x
  abbrev pub is_central : G → Bool
  is_central x = eqb (centralizer_order x) E.size

  -- no member with a smaller number is conjugate to x: one member of each class
  abbrev pub is_first : G → Bool
  is_first x = eqb (sum nat_monoid (E.number x) (λ j. one_if (are_conjugate (E.member j) x))) 0

  -- the sizes of a class and of the centralizer of a member of it have the size of the group as their product
  abbrev pub OrbitStabilizer : Type 0
  OrbitStabilizer = (x : G) → class_order x * centralizer_order x ≡ E.size

  -- the size of the group is that of its centre and the sizes of the classes outside it, each taken once
  abbrev pub ClassEquation : Type 0
  ClassEquation = E.size ≡ count E is_central
      + sum nat_monoid E.size
      (λ i. one_if (is_first (E.member i) && not (is_central (E.member i))) * class_order (E.member i))

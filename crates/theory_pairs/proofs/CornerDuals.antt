-- The corner of a set that is its own dual, and of a self-dual pair.
use Rattle.std.specs.Prelude.{◌≡◌, ℕ, zero, suc, pos}
use Rattle.std.proofs.Common.{sym, ◌∙◌, ap, subst}
use Rattle.theory_rings.specs.Ring.{RingOn, FieldOn}
use Rattle.theory_rings.specs.Power.{power}
use Rattle.theory_spaces.specs.Module.{AlgebraOn}
use Rattle.theory_spaces.specs.Algebra.{InCorner, IsNilpotent}
use Rattle.theory_spaces.specs.Lattice.{DualOf, IsOwnDual}
use Rattle.theory_spaces.proofs.Algebras.Corners.{corner_dual}
use Rattle.theory_orders.specs.Orders.{Same}
use Rattle.theory_lattices.specs.Degree.{DegreeOn, DegreeBelow}
use Rattle.theory_lattices.specs.SelfDual.{SelfDualPair}
use Rattle.theory_pairs.specs.Corner.{IsCorner}
use Rattle.theory_pairs.specs.OwnDual.{CornerPart}
use Rattle.theory_pairs.proofs.CornerAlgebras.{between, between_corner, ι-zero}
use Rattle.theory_rings.proofs.Rings.RingLaws.{mul-zero}

module _ {K V : Type 0} {R : RingOn K} (A : AlgebraOn R V) (e : V) (idem : A.◌⊗◌ e e ≡ e) (L : V → Type 0)
    (closed : (x y : V) → L x → L y → L (A.◌⊗◌ x y)) (le : L e) where
  infixl 70 ◌⊗◌
  open A use {◌⊗◌}

  abbrev Part : V → Type 0
  Part = CornerPart A e L

  pub corner_members : Same Part (λ x. L x × InCorner A e x)
  corner_members = (
    λ x p. let Q : V → Type 0 = λ t. L t × InCorner A e t in
        subst Q (sym p.2) (closed (e ⊗ p.0) e (closed e p.0 le p.1) le, between A e idem p.0),
    λ x p. (x, p.0, sym (between_corner A e idem x p.1)),
  )

  module _ (tr : V → K) (P : K → Type 0) (comm : (x y : V) → tr (x ⊗ y) ≡ tr (y ⊗ x))
      (own : IsOwnDual (λ x y. tr (x ⊗ y)) P L) where
    pub corner_own : Same (λ x. DualOf (λ x y. tr (x ⊗ y)) P Part x × InCorner A e x) Part
    corner_own = (
      λ x h. corner_members.1 x (
        corner_dual A e idem tr P L comm closed le own.0 x h.1
            (λ y c l. h.0 y (corner_members.1 y (l, c))),
        h.1,
      ),
      λ x p. let m = corner_members.0 x p in (λ y q. own.1 x m.0 y (corner_members.0 y q).0, m.1),
    )

    module _ {W : Type 0} (C : AlgebraOn R W) (ι : W → V) (H : IsCorner A e C ι) where
      pub corner_own_dual : IsOwnDual (λ x y. tr (ι (C.◌⊗◌ x y))) P (λ x. L (ι x))
      corner_own_dual = (
        λ x h. corner_dual A e idem tr P L comm closed le own.0 (ι x) (H.inside x) (λ y c l.
            let w = H.onto y c in subst P (ap tr (H.map-mul w.0 x ∙ ap (λ t. t ⊗ ι x) w.1))
            (h w.0 (subst L (sym w.1) l))),
        λ x l y k. subst P (sym (ap tr (H.map-mul y x))) (own.1 (ι x) l (ι y) k),
      )

module _ {K V W : Type 0} (F : FieldOn K) (D : DegreeOn F.ring) (A : AlgebraOn F.ring V) (e : V) (idem : A.◌⊗◌ e e ≡ e)
    (C : AlgebraOn F.ring W) (ι : W → V) (H : IsCorner A e C ι)
    (P : K → Type 0) (finite infinite : V → Type 0) (tr : V → K) (S : SelfDualPair F D A P finite infinite tr)
    (fe : finite e) (ie : infinite e) where
  infixl 70 ◌⊗◌
  open A use {◌⊗◌}

  -- in the corner the powers are those of the algebra, from the first on
  power-next : (x : W) (k : ℕ) → power A.ring (ι x) (suc k) ≡ ι x ⊗ ι (power C.ring x k)
  power-next x zero = let c = H.inside x in A.mul-one (ι x) ∙ sym c.1 ∙ ap (λ t. ι x ⊗ t) (sym H.map-one)
  power-next x (suc k) = ap (λ t. ι x ⊗ t) (power-next x k ∙ sym (H.map-mul x (power C.ring x k)))

  nilpotent : (x : W) → IsNilpotent C.ring x → IsNilpotent A.ring (ι x)
  nilpotent x h = record {
    exponent = suc h.exponent;
    vanishes = power-next x h.exponent ∙ ap (λ t. ι x ⊗ t) (ap ι h.vanishes ∙ ι-zero A e idem C ι H)
        ∙ mul-zero A.ring (ι x);
  }

  -- what pairs with the part in the corner
  module _ (L : V → Type 0) (Q : K → Type 0) (closed : (x y : V) → L x → L y → L (x ⊗ y)) (le : L e)
      (dual : (x : V) → ((y : V) → L y → Q (tr (y ⊗ x))) → L x) where
    part_dual : (x : W) → ((y : W) → L (ι y) → Q (tr (ι (C.◌⊗◌ y x)))) → L (ι x)
    part_dual x h = corner_dual A e idem tr Q L S.tr_comm closed le dual (ι x) (H.inside x) (λ y c l.
        let w = H.onto y c in subst Q (ap tr (H.map-mul w.0 x ∙ ap (λ t. t ⊗ ι x) w.1)) (h w.0 (subst L (sym w.1) l)))

    part_mul : (x y : W) → L (ι x) → L (ι y) → L (ι (C.◌⊗◌ x y))
    part_mul x y h g = subst L (sym (H.map-mul x y)) (closed (ι x) (ι y) h g)

  pub corner_pair : SelfDualPair F D C P (λ x. finite (ι x)) (λ x. infinite (ι x)) (λ x. tr (ι x))
  corner_pair = record {
    finite-mul = part_mul finite P S.finite-mul fe S.finite_dual;
    infinite-mul = part_mul infinite (λ c. DegreeBelow D (pos 1) c) S.infinite-mul ie S.infinite_dual;
    finite_dual = part_dual finite P S.finite-mul fe S.finite_dual;
    infinite_dual = part_dual infinite (λ c. DegreeBelow D (pos 1) c) S.infinite-mul ie S.infinite_dual;
    tr-add = λ x y. ap tr (H.map-add x y) ∙ S.tr-add (ι x) (ι y);
    tr-scale = λ c x. ap tr (H.map-scale c x) ∙ S.tr-scale c (ι x);
    tr_comm = λ x y. ap tr (H.map-mul x y) ∙ S.tr_comm (ι x) (ι y) ∙ ap tr (sym (H.map-mul y x));
    tr_nilpotent = λ x h. S.tr_nilpotent (ι x) (nilpotent x h);
  }

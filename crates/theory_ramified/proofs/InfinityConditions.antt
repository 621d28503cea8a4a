-- The conditions at infinity hold exactly where those of the images hold at the place x.
use Rattle.std.specs.Prelude.{◌≡◌, ℕ, List}
use Rattle.std.proofs.Common.{sym, ◌∙◌, ap, subst}
use Rattle.theory_rings.specs.Ops.{Ops, IsElem, FieldLaws}
use Rattle.theory_spaces.specs.Sets.{Within, RingOps, LeftOrder}
use Rattle.theory_spaces.specs.Tuples.{tuple_scale}
use Rattle.theory_tables.specs.Matrix.{IsMatrix}
use Rattle.theory_tables.specs.Structure.{Structure, IsOver, IsElement, tuple_ops}
use Rattle.theory_tables.specs.Algebras.{IsIdentity, HasIdentity}
use Rattle.theory_fractions.specs.Fraction.{Pair}
use Rattle.theory_fractions.specs.FractionOps.{fraction_ops}
use Rattle.theory_fractions.proofs.FractionField.{fraction_laws}
use Rattle.theory_places.specs.Places.{PlaceOf, Infinite}
use Rattle.theory_places.specs.FractionPlaces.{IsPlace, IsIntegralAt, uniformizer_at}
use Rattle.theory_places.proofs.FractionPlaces.{fraction_places}
use Rattle.theory_swaps.specs.Involutions.{IsInvolution, AreImages, image, images, image_structure}
use Rattle.theory_swaps.specs.FractionSwaps.{place_x}
use Rattle.theory_swaps.proofs.MappedTuples.{image_twice, images_twice, structure_twice, tuple-image, image-scale}
use Rattle.theory_swaps.proofs.CarriedAlgebras.{over, carries_algebra}
use Rattle.theory_swaps.proofs.CarriedLattices.{images_are_symmetric, matrix-images, lattice_to, lattice_from}
use Rattle.theory_swaps.proofs.CarriedLattices.{carries_lattices}
use Rattle.theory_swaps.proofs.CarriedSets.{keeps, keeps_back}
use Rattle.theory_swaps.proofs.MappedSets.{Keeps, Goes, goes_back, pull, left_order_to, powers_go, multiple_to}
use Rattle.theory_swaps.proofs.MappedSets.{simple_to}
use Rattle.theory_swaps.proofs.FractionSwaps.{x_place}
use Rattle.theory_ramified.specs.Conditions.{LatticeAt, MultipleAt}
use Rattle.theory_ramified.specs.Conditions.{HoldsIdentity, IsClosed, IsInside, AbsorbsProducts, HoldsMultiple}
use Rattle.theory_ramified.specs.Conditions.{SomePowerFalls, IsSimpleOver, IsLeftOrder, IsNotMultiple}
use Rattle.theory_ramified.specs.InfinityConditions.{ConditionsAreSwapped, ConditionsAtInfinityAtX}

module _ {E : Type 0} (o : Ops E) (L : FieldLaws o) (s : Pair E → Pair E) (I : IsInvolution (fraction_ops o L) s) where
  abbrev k : Ops (Pair E)
  k = fraction_ops o L

  abbrev M : FieldLaws k
  M = fraction_laws o L

  abbrev im : List (Pair E) → List (Pair E)
  im = image s

  abbrev ims : List (List (Pair E)) → List (List (Pair E))
  ims = images s

  abbrev twice : (x : List (Pair E)) → im (im x) ≡ x
  twice = image_twice k M s I

  identity_to : (A : Structure (Pair E)) → IsOver k A → HasIdentity k A → HasIdentity k (image_structure s A)
  identity_to A h d = let c = carries_algebra k M s I A h in
      record { one = im d.one; is_one = (c.identity d.one).0 d.is_one }

  -- from a place to one whose integral elements are the images
  module _ (P P' : PlaceOf (List E)) (a : AreImages k s (IsIntegralAt o P) (IsIntegralAt o P'))
      (elem : IsElem k (uniformizer_at o P)) (e : uniformizer_at o P' ≡ s (uniformizer_at o P))
      (A : Structure (Pair E)) (h : IsOver k A) where
    abbrev n : ℕ
    n = A.dim

    abbrev B : Structure (Pair E)
    B = image_structure s A

    abbrev U : List (Pair E) → Type 0
    U = IsElement k A

    abbrev u : (x : List (Pair E)) → U x → U (im x)
    u = tuple-image k M s I n

    abbrev S : RingOps (List (Pair E))
    S = tuple_ops k A

    abbrev T : RingOps (List (Pair E))
    T = tuple_ops k B

    K : Keeps im twice U S T
    K = keeps k M s I A h

    K' : Keeps im twice U T S
    K' = keeps_back k M s I A h

    abbrev p : Pair E
    p = uniformizer_at o P

    abbrev p' : Pair E
    p' = uniformizer_at o P'

    there : (x : List (Pair E)) → U x → im (tuple_scale k n p x) ≡ tuple_scale k n p' (im x)
    there x hx = image-scale k M s I n p x elem hx.of_elements ∙ ap (λ c. tuple_scale k n c (im x)) (sym e)

    back : (x : List (Pair E)) → U x → im (tuple_scale k n p' x) ≡ tuple_scale k n p (im x)
    back x hx = ap (λ c. im (tuple_scale k n c x)) e
        ∙ image-scale k M s I n (s p) x (I.elem p elem) hx.of_elements
        ∙ ap (λ c. tuple_scale k n c (im x)) (I.twice p)

    lattice_goes : (rows : List (List (Pair E))) → IsMatrix k n rows
        → Goes im twice U (LatticeAt o L A P rows) (LatticeAt o L B P' (ims rows))
    lattice_goes rows m = record {
      into = lattice_to k M s I n (IsIntegralAt o P) (IsIntegralAt o P') a rows m;
      back = lattice_from k M s I n (IsIntegralAt o P) (IsIntegralAt o P') a rows m;
    }

    module _ (os : List (List (Pair E))) (mo : IsMatrix k n os) where
      abbrev O : List (Pair E) → Type 0
      O = LatticeAt o L A P os

      abbrev O' : List (Pair E) → Type 0
      O' = LatticeAt o L B P' (ims os)

      gO : Goes im twice U O O'
      gO = lattice_goes os mo

      wO : Within O U
      wO x i = i.0

      wO' : Within O' U
      wO' x i = i.0

      holds_to : HoldsIdentity o L A P os → HoldsIdentity o L B P' (ims os)
      holds_to d x i =
          let c = carries_algebra k M s I A h in
          pull im twice U gO x (d (im x) ((c.identity (im x)).1 (subst (IsIdentity k B) (sym (twice x)) i)))

      closed_to : IsClosed o L A P os → IsClosed o L B P' (ims os)
      closed_to d x y i j = pull im twice U gO (T.mul x y)
          (subst O (sym (K'.mul x y (wO' x i) (wO' y j))) (d (im x) (im y) (gO.back x i) (gO.back y j)))

      multiple_goes : Goes im twice U (MultipleAt o L A P os) (MultipleAt o L B P' (ims os))
      multiple_goes = record {
        into = multiple_to im twice U u (tuple_scale k n) (tuple_scale k n) p p' there S T O O' wO gO;
        back = multiple_to im twice U u (tuple_scale k n) (tuple_scale k n) p' p back T S O' O wO'
            (goes_back im twice U gO);
      }

      module _ (js : List (List (Pair E))) (mj : IsMatrix k n js) where
        abbrev J : List (Pair E) → Type 0
        J = LatticeAt o L A P js

        abbrev J' : List (Pair E) → Type 0
        J' = LatticeAt o L B P' (ims js)

        gJ : Goes im twice U J J'
        gJ = lattice_goes js mj

        wJ : Within J U
        wJ x i = i.0

        wJ' : Within J' U
        wJ' x i = i.0

        inside_to : IsInside o L A P os js → IsInside o L B P' (ims os) (ims js)
        inside_to d x j = pull im twice U gO x (d (im x) (gJ.back x j))

        absorbs_to : AbsorbsProducts o L A P os js → AbsorbsProducts o L B P' (ims os) (ims js)
        absorbs_to d = record {
          left = λ c x l j. pull im twice U gJ (T.mul c x)
              (subst J (sym (K'.mul c x (wO' c l) (wJ' x j))) (d.left (im c) (im x) (gO.back c l) (gJ.back x j)));
          right = λ c x l j. pull im twice U gJ (T.mul x c)
              (subst J (sym (K'.mul x c (wJ' x j) (wO' c l))) (d.right (im c) (im x) (gO.back c l) (gJ.back x j)));
        }

        multiples_to : HoldsMultiple o L A P os js → HoldsMultiple o L B P' (ims os) (ims js)
        multiples_to d x m = pull im twice U gJ x (d (im x) (multiple_goes.back x m))

        power_to : SomePowerFalls o L A P os js → SomePowerFalls o L B P' (ims os) (ims js)
        power_to d = record {
          exponent = d.exponent;
          falls = λ x g.
              let r = powers_go im twice U u S T K K' J J' wJ wJ' gJ d.exponent in
              pull im twice U multiple_goes x (d.falls (im x) (r.back x g));
        }

        simple_there : IsSimpleOver o L A P os js → IsSimpleOver o L B P' (ims os) (ims js)
        simple_there = simple_to im twice U u (tuple_scale k n) (tuple_scale k n) p p' there back S T K K' O O' J J' wO
            wO' gO gJ wJ

        left_order_there : IsLeftOrder o L A P os js → IsLeftOrder o L B P' (ims os) (ims js)
        left_order_there d = (
          λ x g. pull im twice U gO x (d.0 (im x) (
            u x g.0,
            left_order_to im twice U u T S K' K J' J wJ' (goes_back im twice U gJ) x g.0 g.1,
          )),
          λ x i.
              let g = d.1 (im x) (gO.back x i) in (
                wO' x i,
                subst (LeftOrder T J') (twice x)
                    (left_order_to im twice U u S T K K' J J' wJ gJ (im x) g.0 g.1),
              ),
        )

        not_multiple_to : IsNotMultiple o L A P os js → IsNotMultiple o L B P' (ims os) (ims js)
        not_multiple_to d f = d (
          λ x j. pull im twice U (goes_back im twice U multiple_goes) x (f.0 (im x) (gJ.into x j)),
          λ x m. pull im twice U (goes_back im twice U gJ) x (f.1 (im x) (multiple_goes.into x m)),
        )

  -- from the images of the images
  module _ (A : Structure (Pair E)) (os js : List (List (Pair E))) where
    return : (X : Structure (Pair E) → List (List (Pair E)) → List (List (Pair E)) → Type 0)
        → X (image_structure s (image_structure s A)) (ims (ims os)) (ims (ims js)) → X A os js
    return X x = subst (λ C. X C os js) (structure_twice k M s I A)
        (subst (λ c. X (image_structure s (image_structure s A)) c js) (images_twice k M s I os)
        (subst (X (image_structure s (image_structure s A)) (ims (ims os))) (images_twice k M s I js) x))

  -- from infinity to x, and back
  module _ (variable : s (uniformizer_at o (place_x o)) ≡ uniformizer_at o Infinite)
      (to_x : AreImages k s (IsIntegralAt o Infinite) (IsIntegralAt o (place_x o)))
      (A : Structure (Pair E)) (h : IsOver k A) (os js : List (List (Pair E)))
      (mo : IsMatrix k A.dim os) (mj : IsMatrix k A.dim js) where
    abbrev A' : Structure (Pair E)
    A' = image_structure s A

    abbrev x : PlaceOf (List E)
    x = place_x o

    abbrev os' : List (List (Pair E))
    os' = ims os

    abbrev js' : List (List (Pair E))
    js' = ims js

    h' : IsOver k A'
    h' = over k M s I A h

    mo' : IsMatrix k A.dim os'
    mo' = matrix-images k M s I A.dim os mo

    mj' : IsMatrix k A.dim js'
    mj' = matrix-images k M s I A.dim js mj

    to_infinity : AreImages k s (IsIntegralAt o x) (IsIntegralAt o Infinite)
    to_infinity = images_are_symmetric k s I (IsIntegralAt o Infinite) (IsIntegralAt o x) to_x

    x_is : uniformizer_at o x ≡ s (uniformizer_at o Infinite)
    x_is = sym (I.twice (uniformizer_at o x)) ∙ ap s variable

    uniformizer_elem : (P : PlaceOf (List E)) → IsPlace o P → IsElem k (uniformizer_at o P)
    uniformizer_elem P w = let V = fraction_places o L M P w in subst (IsElem k) V.p_is V.p.1

    infinity_elem : IsElem k (uniformizer_at o Infinite)
    infinity_elem = uniformizer_elem Infinite tt

    x_elem : IsElem k (uniformizer_at o x)
    x_elem = uniformizer_elem x (x_place o L)

    pub conditions_swapped : ConditionsAreSwapped o L s A os js
    conditions_swapped =
        let c = carries_algebra k M s I A h in
        let l = carries_lattices k M s I A.dim (IsIntegralAt o Infinite) (IsIntegralAt o x) to_x in
        record {
          associative = c.associative;
          identity =
              (identity_to A h, λ d. return A os js (λ C _ _. HasIdentity k C) (identity_to A' h' d));
          order_independent = l.independent os;
          holds = (
            holds_to Infinite x to_x infinity_elem x_is A h os mo,
            λ d. return A os js (λ C c _. HoldsIdentity o L C Infinite c)
                (holds_to x Infinite to_infinity x_elem (sym variable) A' h' os' mo' d),
          );
          closed = (
            closed_to Infinite x to_x infinity_elem x_is A h os mo,
            λ d. return A os js (λ C c _. IsClosed o L C Infinite c)
                (closed_to x Infinite to_infinity x_elem (sym variable) A' h' os' mo' d),
          );
          radical_independent = l.independent js;
          inside = (
            inside_to Infinite x to_x infinity_elem x_is A h os mo js mj,
            λ d. return A os js (λ C. IsInside o L C Infinite)
                (inside_to x Infinite to_infinity x_elem (sym variable) A' h' os' mo' js' mj' d),
          );
          absorbs = (
            absorbs_to Infinite x to_x infinity_elem x_is A h os mo js mj,
            λ d. return A os js (λ C. AbsorbsProducts o L C Infinite)
                (absorbs_to x Infinite to_infinity x_elem (sym variable) A' h' os' mo' js' mj' d),
          );
          over = (
            multiples_to Infinite x to_x infinity_elem x_is A h os mo js mj,
            λ d. return A os js (λ C. HoldsMultiple o L C Infinite)
                (multiples_to x Infinite to_infinity x_elem (sym variable) A' h' os' mo' js' mj' d),
          );
          power = (
            power_to Infinite x to_x infinity_elem x_is A h os mo js mj,
            λ d. return A os js (λ C. SomePowerFalls o L C Infinite)
                (power_to x Infinite to_infinity x_elem (sym variable) A' h' os' mo' js' mj' d),
          );
          simple = (
            simple_there Infinite x to_x infinity_elem x_is A h os mo js mj,
            λ d. return A os js (λ C. IsSimpleOver o L C Infinite)
                (simple_there x Infinite to_infinity x_elem (sym variable) A' h' os' mo' js' mj' d),
          );
          left_order = (
            left_order_there Infinite x to_x infinity_elem x_is A h os mo js mj,
            λ d. return A os js (λ C. IsLeftOrder o L C Infinite)
                (left_order_there x Infinite to_infinity x_elem (sym variable) A' h' os' mo' js' mj' d),
          );
          not_multiple = (
            not_multiple_to Infinite x to_x infinity_elem x_is A h os mo js mj,
            λ d. return A os js (λ C. IsNotMultiple o L C Infinite)
                (not_multiple_to x Infinite to_infinity x_elem (sym variable) A' h' os' mo' js' mj' d),
          );
        }

pub conditions_at_infinity_at_x : {E : Type 0} (o : Ops E) (L : FieldLaws o) → ConditionsAtInfinityAtX o L
conditions_at_infinity_at_x o L s F A h os js mo mj =
    conditions_swapped o L s F.involution F.variable F.integral A h os js mo mj

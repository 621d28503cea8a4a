-- The first fault at infinity, by what the calls make where 1/x is put for x: it is theirs at the place x.
use Rattle.std.specs.Prelude.{◌≡◌, ℕ, List, [], ◌∷◌, Option, length}
use Rattle.std.specs.List.{All, AllZip}
use Rattle.std.proofs.Common.{sym, ◌∙◌, ap, subst}
use Rattle.std.proofs.lemmas.List.{length-map}
use Rattle.theory_rings.specs.Ops.{Ops, IsElem, FieldLaws}
use Rattle.theory_tables.specs.Matrix.{IsMatrix}
use Rattle.theory_tables.specs.Structure.{Structure, IsOver, IsAssociative}
use Rattle.theory_tables.specs.Algebras.{IsIdentity}
use Rattle.theory_fractions.specs.Fraction.{Pair}
use Rattle.theory_places.specs.Places.{Finite, Infinite}
use Rattle.theory_swaps.specs.Involutions.{image, images, image_structure}
use Rattle.theory_swaps.specs.FractionSwaps.{IsFractionSwap}
use Rattle.theory_swaps.specs.CarriedAlgebras.{CarriesAlgebra}
use Rattle.theory_swaps.proofs.CarriedAlgebras.{carries_algebra}
use Rattle.theory_swaps.proofs.CarriedLattices.{matrix-images}
use Rattle.theory_swaps.proofs.FractionSwaps.{has_fraction_swap}
use Rattle.spl_field.specs.declared.small.SmallField.{SmallField}
use Rattle.spl_field.specs.SmallField.{small_ops, small_laws}
use Rattle.spl_fraction.specs.FractionsOver.{fractions_over, fractions_laws}
use Rattle.spl_fraction.specs.Valuation.{IsSwapped}
use Rattle.spl_order.proofs.SwappedTuples.{tuple_is, tuples_are}
use Rattle.spl_ramified.specs.declared.fault.RamifiedFault.{RamifiedFault}
use Rattle.spl_ramified.specs.Faults.{IsFirstFault, tuple_conditions}
use Rattle.spl_ramified.proofs.FirstFaults.{first_at_infinity}

module _ (f : SmallField) (A : Structure (Pair ℕ)) (over : IsOver (fractions_over f) A) (B : Structure (Pair ℕ))
    (B-is : (s : Pair ℕ → Pair ℕ) → IsFractionSwap (small_ops f) (small_laws f) s → B ≡ image_structure s A) where
  abbrev o : Ops ℕ
  o = small_ops f

  abbrev L : FieldLaws o
  L = small_laws f

  abbrev k : Ops (Pair ℕ)
  k = fractions_over f

  abbrev s : Pair ℕ → Pair ℕ
  s = let w = has_fraction_swap o L in w.swap

  abbrev S : IsFractionSwap o L s
  S = let w = has_fraction_swap o L in w.is_swap

  is : B ≡ image_structure s A
  is = B-is s S

  carries : CarriesAlgebra k s A
  carries = carries_algebra k (fractions_laws f) s (let w = S in w.involution) A over

  -- the algebra is associative
  pub associative_at_x : IsAssociative k A → IsAssociative k B
  associative_at_x h = subst (IsAssociative k) (sym is) (carries.associative.0 h)

  -- the identity goes to one
  pub identity_at_x : (one at_x : List (Pair ℕ)) → IsIdentity k A one → All (IsElem k) at_x
      → AllZip (IsSwapped o) one at_x → IsIdentity k B at_x
  identity_at_x one at_x h elems z =
      subst (λ C. IsIdentity k C at_x) (sym is)
      (subst (IsIdentity k (image_structure s A)) (sym (tuple_is f s S one at_x h.tuple.of_elements elems z))
      ((carries.identity one).0 h))

  module _ (rows at_x : List (List (Pair ℕ))) (shape : IsMatrix k A.dim rows) (elems : All (All (IsElem k)) at_x)
      (z : AllZip (AllZip (IsSwapped o)) rows at_x) where
    -- tuples go to as many
    rows-is : at_x ≡ images s rows
    rows-is = tuples_are f s S rows at_x (λ i d l. (shape i d l).of_elements) elems z

    pub shape_at_x : IsMatrix k B.dim at_x
    shape_at_x =
        subst (λ (C : Structure (Pair ℕ)). IsMatrix k C.dim at_x) (sym is)
        (subst (IsMatrix k A.dim) (sym rows-is)
        (matrix-images k (fractions_laws f) s (let w = S in w.involution) A.dim rows shape))

    pub count_at_x : length rows ≡ A.dim → length at_x ≡ B.dim
    count_at_x e = ap length rows-is ∙ length-map rows (image s) ∙ e
        ∙ ap (λ (C : Structure (Pair ℕ)). C.dim) (sym is)

  -- the first fault is that at the place x
  pub fault_at_x : (os os_at_x js js_at_x : List (List (Pair ℕ))) → IsMatrix k A.dim os → IsMatrix k A.dim js
      → All (All (IsElem k)) os_at_x → All (All (IsElem k)) js_at_x → AllZip (AllZip (IsSwapped o)) os os_at_x
      → AllZip (AllZip (IsSwapped o)) js js_at_x → (x : List ℕ) → x ≡ o.zero ∷ o.one ∷ [] → (r : Option RamifiedFault)
      → IsFirstFault (tuple_conditions o L B (Finite x) os_at_x js_at_x) r
      → IsFirstFault (tuple_conditions o L A Infinite os js) r
  fault_at_x os os' js js' mo mj eo ej zo zj x x-is r h =
      let A' : Structure (Pair ℕ) = image_structure s A in
      let p : List ℕ = o.zero ∷ o.one ∷ [] in
      first_at_infinity o L s S A over os js mo mj r
      (subst (λ t. IsFirstFault (tuple_conditions o L A' (Finite p) (images s os) t) r) (rows-is js js' mj ej zj)
      (subst (λ t. IsFirstFault (tuple_conditions o L A' (Finite p) t js') r) (rows-is os os' mo eo zo)
      (subst (λ q. IsFirstFault (tuple_conditions o L A' (Finite q) os' js') r) x-is
      (subst (λ C. IsFirstFault (tuple_conditions o L C (Finite x) os' js') r) is h))))

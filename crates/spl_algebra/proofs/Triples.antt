-- The first failed triple, from the searches over its places.
use Rattle.std.specs.Prelude.{◌≡◌, ◌⊎◌, ℕ, ◌+◌, ◌-◌, ◌<◌}
use Rattle.std.proofs.Common.{subst, arith, ⊎_elim}
use Rattle.theory_rings.specs.Ops.{Ops}
use Rattle.theory_tables.specs.Structure.{Structure, AssociatesAt}
use Rattle.spl_algebra.specs.Triple.{AssociatesAtPair, FailsFirstAtPair, IsFirstFailed}

module _ {E : Type 0} (o : Ops E) (A : Structure E) where
  -- a triple counted from 1 is what its places counted from 0 are
  at_places : (i j k i' j' k' : ℕ) → i ≡ i' → j ≡ j' → k ≡ k' → AssociatesAt o A i j k → AssociatesAt o A i' j' k'
  at_places i j k i' j' k' p q r h =
      let P : ℕ → Type 0 = λ x. AssociatesAt o A x j k in
      let Q : ℕ → Type 0 = λ y. AssociatesAt o A i' y k in
      let R : ℕ → Type 0 = λ z. AssociatesAt o A i' j' z in
      subst R r (subst Q q (subst P p h))

  pub first_failed : (i j k : ℕ) → i < A.dim → ((x y : ℕ) → x < i → y < A.dim → AssociatesAtPair o A x y)
      → FailsFirstAtPair o A i j k → IsFirstFailed o A (record { i = i + 1; j = j + 1; k = k + 1 })
  first_failed i j k within before pair =
      let third = pair.third in
      let j_in = pair.within in
      let k_in = third.within in
      record {
        i_low = omega arith;
        i_high = omega arith;
        j_low = omega arith;
        j_high = omega arith;
        k_low = omega arith;
        k_high = omega arith;
        fails = λ h. third.fails
            (at_places (i + 1 - 1) (j + 1 - 1) (k + 1 - 1) i j k (omega arith) (omega arith) (omega arith) h);
        first = λ x y z lx ly lz b. ⊎_elim
            (λ (l : x + 1 < i + 1). before x y (omega arith) ly z lz)
            (λ (e : (x + 1 ≡ i + 1) × ((y + 1 < j + 1) ⊎ ((y + 1 ≡ j + 1) × (z + 1 < k + 1)))).
            let x_is = e.0 in
            let same : i ≡ x = omega arith in
            ⊎_elim
            (λ (l : y + 1 < j + 1).
            at_places i y z x y z same (omega arith) (omega arith) (pair.before y (omega arith) z lz))
            (λ (d : (y + 1 ≡ j + 1) × (z + 1 < k + 1)).
            let y_is = d.0 in
            let z_lt = d.1 in
            let same_y : j ≡ y = omega arith in
            at_places i j z x y z same same_y (omega arith) (third.before z (omega arith)))
            e.1)
            b;
      }

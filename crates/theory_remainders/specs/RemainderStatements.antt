-- Statements on the remainders by an irreducible polynomial over a program's field.
use Rattle.std.specs.Prelude.{◌≡◌, ℕ, ◌*◌, ◌^◌, ◌↔◌, List}
use Rattle.theory_rings.specs.Ops.{Ops, FieldLaws}
use Rattle.theory_rings.specs.Elements.{Elem, elements}
use Rattle.theory_rings.specs.Power.{power_of}
use Rattle.theory_rings.specs.Enumerated.{Enumerated}
use Rattle.theory_fractions.specs.PolynomialLists.{IsPolynomialList}
use Rattle.theory_rings.specs.Polynomial.{IsMonic, degree}
use Rattle.theory_rings.specs.Division.{IsIrreducible as IsIrreducibleIn}
use Rattle.theory_rings.proofs.Polynomials.Bezout.{field_polynomials}
use Rattle.theory_fractions.specs.FractionOps.{polynomial_of}
use Rattle.theory_remainders.specs.Irreducible.{IsIrreducible}
use Rattle.theory_remainders.specs.RemainderOps.{modulus_of, remainder_ops}
use Rattle.theory_remainders.specs.RemainderLaws.{IsRemainder, AreRemainderOps}

module _ {E : Type 0} (o : Ops E) (L : FieldLaws o) where
  -- irreducible lists of coefficients are those of irreducible polynomials
  abbrev pub IrreducibleListsArePolynomials : Type 0
  IrreducibleListsArePolynomials = (m : List E) → IsPolynomialList o m
      → IsIrreducible o m
      ↔ IsIrreducibleIn (elements o L).cring (field_polynomials (elements o L)) (polynomial_of o L m)

  -- the remainders by an irreducible polynomial are a field, with the operations of remainders
  abbrev pub RemaindersAreField : Type 0
  RemaindersAreField = (m : List E) → IsIrreducible o m
      → (monic : IsMonic (elements o L).cring (modulus_of o L m)) × FieldLaws (remainder_ops o L m monic)
      × AreRemainderOps o m (remainder_ops o L m monic)

  -- over a field of q elements, with m of degree d, the n-th power is a p-th root where n · p is q^d
  abbrev pub RootsArePowers : Type 0
  RootsArePowers = (N : Enumerated (Elem o)) (m : List E) → IsIrreducible o m
      → (monic : IsMonic (elements o L).cring (modulus_of o L m))
      × ((a : List E) (n p : ℕ) → IsRemainder o m a → n * p ≡ N.size ^ degree m
      → power_of (remainder_ops o L m monic) (power_of (remainder_ops o L m monic) a n) p ≡ a)

-- The elements of a small field are numbered, by themselves; and constants as lists of one number.
use Rattle.std.specs.Prelude.{◌≡◌, ◌≢◌, ℕ, ◌*◌, ◌/◌, List, [], ◌∷◌, length, get_or}
use Rattle.std.proofs.Common.{refl, sym, subst, arith}
use Rattle.std.proofs.Math.Nat.{div-mul_cancel}
use Rattle.std.specs.Int.{◌∣◌}
use Rattle.std.proofs.lemmas.Bool.{ltb-true, lt-ltb}
use Rattle.theory_rings.specs.Elements.{Elem}
use Rattle.theory_rings.specs.Enumerated.{Enumerated}
use Rattle.theory_rings.specs.Polynomial.{IsTrimmed}
use Rattle.theory_rings.proofs.FiniteFields.ElementsByDigits.{numbers_enumerated, size-numbers}
use Rattle.theory_radical.proofs.Lifts.TowerFields.{dvd-pow}
use Rattle.spl_field.specs.SmallField.{small_ops, size_of, characteristic, small_laws}
use Rattle.spl_field.specs.declared.small.SmallField.{SmallField}

pub small_numbers : (f : SmallField) → Enumerated (Elem (small_ops f))
small_numbers f = numbers_enumerated (small_ops f) (small_laws f) (size_of f) (λ a h. ltb-true a (size_of f) h)
    (λ a l. lt-ltb a (size_of f) l)

pub size-small_numbers : (f : SmallField) → (let N = small_numbers f in N.size) ≡ size_of f
unfolding small_numbers
size-small_numbers f = size-numbers (small_ops f) (small_laws f) (size_of f) (λ a h. ltb-true a (size_of f) h)
    (λ a l. lt-ltb a (size_of f) l)

-- the characteristic divides the number of elements
pub size-div_mul : (f : SmallField) → size_of f / characteristic f * characteristic f ≡ size_of f
size-div_mul f = div-mul_cancel f.p (subst (λ n. f.p ∣ n) (sym f.power) (dvd-pow f.p (length f.modulus.items)
    f.some_number))

-- a list of one number
pub constant_list : (xs : List ℕ) → length xs ≡ 1 → xs ≡ get_or xs 0 0 ∷ []
constant_list [] e = absurd (omega arith)
constant_list (x ∷ []) e = refl
constant_list (x ∷ y ∷ ys) e = absurd (omega arith)

pub constant_item-ne-zero : (xs : List ℕ) → IsTrimmed 0 xs → length xs ≡ 1 → get_or xs 0 0 ≢ 0
constant_item-ne-zero [] t e = absurd (omega arith)
constant_item-ne-zero (x ∷ []) t e = t
constant_item-ne-zero (x ∷ y ∷ ys) t e = absurd (omega arith)

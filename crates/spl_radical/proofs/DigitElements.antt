-- Numbers made of digits, the element that they are the coefficients of, and roots taken one after the other.
use Rattle.std.specs.Prelude.{◌≡◌, ℕ, suc, ◌+◌, ◌-◌, ◌*◌, ◌/◌, ◌%◌, ◌^◌, ◌<◌, ◌≤◌, List, length, get_or}
use Rattle.std.proofs.Common.{sym, ◌∙◌, ap, ap₂, subst, arith}
use Rattle.std.proofs.Math.Nat.{pow-zero, pow-suc, pow-succ', pow-le-pow_right, mod-lt}
use Rattle.std.proofs.lemmas.Bool.{lt-ltb}
use Rattle.std.proofs.lemmas.List.{get_or_past}
use Rattle.theory_rings.specs.Ops.{Ops, IsElem, FieldLaws}
use Rattle.theory_rings.specs.Elements.{Elem, elements}
use Rattle.theory_rings.specs.Digits.{digit, of_digits}
use Rattle.theory_rings.specs.Power.{power, power_of}
use Rattle.theory_rings.specs.Polynomial.{IsTrimmed}
use Rattle.theory_rings.specs.Sum.{sum, table, at}
use Rattle.theory_rings.proofs.Numbers.Digits.{of_digits_lt, digit-of_digits}
use Rattle.theory_rings.proofs.Powers.Powers.{power_first, power-power}
use Rattle.theory_rings.proofs.Rings.Elements.{power_of-elements}
use Rattle.theory_rings.proofs.Sums.Lists.{length-table, get_or-table, All-table}
use Rattle.theory_fractions.specs.FractionOps.{polynomial_of as polynomial}
use Rattle.theory_fractions.proofs.ListPolynomials.{has_polynomial_of}
use Rattle.theory_remainders.specs.RemainderLaws.{IsRemainder, IsRemainderOf}
use Rattle.theory_remainders.proofs.RemainderField.{of_list_injective}
use Rattle.theory_remainders.proofs.RemainderValues.{of_remainder, of_elem}
use Rattle.theory_lifts.proofs.ElementLists.{two_le_power}
use Rattle.theory_chains.proofs.DividedNumbers.{down-divided}
use Rattle.spl_field.specs.SmallField.{small_ops, small_laws, modulus_of}
use Rattle.spl_poly.specs.Operations.{IsOver, without_zeros}
use Rattle.spl_poly.proofs.Trimming.{length_le_of_zeros, get_or-without_zeros}
use Rattle.spl_residue.specs.Residue.{field_of, polynomial_of, residue_ops}
use Rattle.spl_residue.specs.declared.field.ResidueField.{ResidueField}
use Rattle.spl_radical.specs.LiftRing.{prime_of, degree_of, digits_of, width_of, small_by_digits}
use Rattle.spl_radical.proofs.Elements.{degree_is}
use Rattle.spl_radical.specs.Radical.{IsQuotientResidue}

-- ---- a number by its digits

-- the next place is small
pub place_fits : (p d v : ℕ) → 2 ≤ p → p ^ d ≤ 256 → v < d → p ^ v * p ≤ 256
place_fits p d v two small h =
    let g : p ^ suc v ≤ p ^ d = pow-le-pow_right (omega (arith, two)) (omega (arith, h)) in
    let e = pow-suc p v in
    omega arith

-- and so is the number with one more digit
pub digits_fit : (p d v : ℕ) (f : ℕ → ℕ) → 2 ≤ p → p ^ d ≤ 256 → v < d → ((i : ℕ) → f i < p)
    → of_digits p v f + f v * p ^ v < 256
digits_fit p d v f two small h below =
    let l = of_digits_lt p (omega (arith, two)) (suc v) f (λ i _. below i) in
    let g : p ^ suc v ≤ p ^ d = pow-le-pow_right (omega (arith, two)) (omega (arith, h)) in
    omega arith

-- of the numbers that a program reads
module _ (p d power : ℕ) (numbers : List ℕ) (u : ℕ) where
  abbrev pub read_digit : ℕ → ℕ
  read_digit v = get_or numbers (u * d + v) 0 / power % p

  module _ (two : 2 ≤ p) (small : p ^ d ≤ 256) where
    read_below : (v : ℕ) → read_digit v < p
    read_below v = mod-lt (get_or numbers (u * d + v) 0 / power) (omega (arith, two))

    pub term_fits : (v place sum : ℕ) → v < d → place ≡ p ^ v → sum ≡ of_digits p v read_digit
        → sum + read_digit v * place < 256
    term_fits v place sum h e es =
        let g = digits_fit p d v read_digit two small h read_below in
        let t : read_digit v * place ≡ read_digit v * p ^ v = ap (λ x. read_digit v * x) e in
        omega arith

    pub number_fits : (x : ℕ) → x ≡ of_digits p d read_digit → x < 256
    number_fits x e =
        let l = of_digits_lt p (omega (arith, two)) d read_digit (λ v _. read_below v) in
        omega arith

-- ---- an element by its coefficients

module _ (k : ResidueField) where
  abbrev p : ℕ
  p = prime_of k

  abbrev d : ℕ
  d = digits_of k

  abbrev e : ℕ
  e = degree_of k

  abbrev o : Ops ℕ
  o = small_ops (field_of k)

  abbrev L : FieldLaws o
  L = small_laws (field_of k)

  pub size_fits : p ^ d ≤ 256
  size_fits = let f = field_of k in let s = f.power in let l = f.most in omega arith

  -- a remainder of what is small enough is the polynomial
  remainder_is : (a r : List ℕ) → IsRemainder o (polynomial_of k) a → IsElem (residue_ops k) r
      → IsRemainderOf o (at o a) (polynomial_of k) r → r ≡ a
  remainder_is a r ha hr s =
      let i = k.irreducible in
      let is = of_elem o L (polynomial_of k) i r hr in
      of_list_injective o L (polynomial_of k) i r a is ha
      (of_remainder o L (polynomial_of k) i (polynomial o L a) (at o a) (has_polynomial_of o L a ha.polynomial.over)
      r is.polynomial s)

  module _ (f : ℕ → ℕ → ℕ) (below : (u v : ℕ) → f u v < p) where
    -- the coefficients with these digits
    abbrev pub coefficients : List ℕ
    coefficients = table e (λ u. of_digits p d (f u))

    pub coefficients_over : IsOver o coefficients
    coefficients_over = All-table (IsElem o) e (λ u. of_digits p d (f u)) (λ u _.
        let g = field_of k in
        let two = g.least in
        let s = g.power in
        let l = of_digits_lt p (omega (arith, two)) d (f u) (λ v _. below u v) in
        lt-ltb (of_digits p d (f u)) g.size (subst (λ n. of_digits p d (f u) < n) (sym s) l))

    coefficients_at : (a : List ℕ) → a ≡ without_zeros coefficients → (u : ℕ) → get_or a u 0 ≡ get_or coefficients u 0
    coefficients_at a ea u = ap (λ x. get_or x u 0) ea ∙ get_or-without_zeros coefficients u

    small : (a : List ℕ) → a ≡ without_zeros coefficients → IsTrimmed 0 a → length a < length (polynomial_of k)
    small a ea t =
        let n = degree_is k in
        let c = length-table e (λ u. of_digits p d (f u)) in
        let h = length_le_of_zeros 0 a e t (λ u g. coefficients_at a ea u
        ∙ get_or_past coefficients u 0 (omega (arith, c, g))) in
        omega arith

    -- the remainder with them has these digits
    pub remainder_digit : (a r : List ℕ) → a ≡ without_zeros coefficients → IsTrimmed 0 a → IsOver o a
        → IsElem (residue_ops k) r → IsRemainderOf o (at o a) (polynomial_of k) r
        → (u v : ℕ) → u < e → v < d → digit p (get_or r u 0) v ≡ f u v
    remainder_digit a r ea t over hr s u v lu lv =
        let two = (let g = field_of k in g.least) in
        let is : IsRemainder o (polynomial_of k) a =
        record { polynomial = record { over = over; trimmed = t }; smaller = small a ea t } in
        ap (λ x. digit p x v) (ap (λ x. get_or x u 0) (remainder_is a r is hr s) ∙ coefficients_at a ea u
        ∙ get_or-table e (λ u. of_digits p d (f u)) u 0 lu)
        ∙ digit-of_digits p (omega (arith, two)) d (f u) (λ v _. below u v) v lv

  -- the residue of a quotient, by its digits
  pub quotient_by_digits : (l i : ℕ) → i ≤ l → (a r : List ℕ) → IsElem (residue_ops k) r
      → ((u v : ℕ) → u < e → v < d → digit p (get_or r u 0) v ≡ get_or a (u * d + v) 0 / p ^ i % p)
      → IsQuotientResidue k l i a r
  quotient_by_digits l i le a r hr h y ey =
      let f = field_of k in
      ap (λ x. x.0) (down-divided o L (polynomial_of k) k.irreducible p f.least (modulus_of f) f.some_number
      (small_by_digits f) l (two_le_power p l f.least) i le y (r, hr)
      (λ u v lu lv. h u v lu lv ∙ ap (λ x. get_or x (u * d + v) 0 / p ^ i % p) (sym ey)))

  -- the same of what a program has made
  module _ (i : ℕ) (first : 1 ≤ i) (p' power d' e' : ℕ) (numbers codes codes' : List ℕ) (ep : p' ≡ p)
      (epower : power ≡ p' ^ suc (i - 1)) (ed : d' ≡ d) (ee : e' ≡ e)
      (made : codes ≡ table e' (λ u. of_digits p' d' (read_digit p' d' power numbers u))) (read : codes' ≡ codes) where
    divided : ℕ → ℕ → ℕ
    divided = read_digit p d (p ^ i) numbers

    below : (u v : ℕ) → divided u v < p
    unfolding divided
    below u v = let two = (let g = field_of k in g.least) in
        mod-lt (get_or numbers (u * d + v) 0 / p ^ i) (omega (arith, two))

    codes_are : codes' ≡ coefficients divided below
    unfolding divided
    codes_are =
        let n : suc (i - 1) ≡ i = omega (arith, first) in
        let q : power ≡ p ^ i = epower ∙ ap₂ (λ a b. a ^ b) ep n in
        read ∙ made
        ∙ ap₂ (λ n x. table n (λ u. of_digits p' x (read_digit p' x power numbers u))) ee ed
        ∙ ap₂ (λ a b. table e (λ u. of_digits a d (read_digit a d b numbers u))) ep q

    pub codes_over : IsOver o codes'
    codes_over = subst (IsOver o) (sym codes_are) (coefficients_over divided below)

    pub quotient_made : (poly r : List ℕ) → poly ≡ without_zeros codes' → IsTrimmed 0 poly → IsOver o poly
        → IsElem (residue_ops k) r → IsRemainderOf o (at o poly) (polynomial_of k) r
        → (l : ℕ) → i ≤ l → IsQuotientResidue k l i numbers r
    unfolding divided
    quotient_made poly r e t over hr s l le = quotient_by_digits l i le numbers r hr
        (remainder_digit divided below poly r (e ∙ ap without_zeros codes_are) t over hr s)

  pub places_fit : (e' d' : ℕ) (numbers : List ℕ) → e' ≡ e → d' ≡ d → length numbers ≡ width_of k
      → e' * d' ≤ length numbers
  places_fit e' d' numbers ee ed n = let h : e' * d' ≡ e * d = ap₂ (λ a b. a * b) ee ed in omega arith

  pub degree_read : (m : List ℕ) → m ≡ polynomial_of k → length m - 1 ≡ e
  degree_read m em = let h = ap length em in let n = degree_is k in omega arith

-- ---- roots

module _ {E : Type 0} (o : Ops E) (L : FieldLaws o) where
  pub first_root : (p : ℕ) (a : E) → IsElem o a → power_of o a (p ^ 0) ≡ a
  first_root p a h = ap (power_of o a) (pow-zero p) ∙ power_of-elements o L (a, h) 1
      ∙ ap (λ (x : Elem o). x.0) (power_first (elements o L).ring (a, h))

  pub next_root : (p i : ℕ) (a r s : E) → IsElem o s → power_of o r (p ^ i) ≡ a → power_of o s p ≡ r
      → power_of o s (p ^ (i + 1)) ≡ a
  next_root p i a r s h er es =
      let R = (elements o L).ring in
      let x : Elem o = (s, h) in
      let n : i + 1 ≡ suc i = omega arith in
      let m : p ^ (i + 1) ≡ p * p ^ i = ap (λ j. p ^ j) n ∙ pow-succ' p i in
      ap (power_of o s) m ∙ power_of-elements o L x (p * p ^ i)
      ∙ ap (λ (y : Elem o). y.0) (sym (power-power R x p (p ^ i)))
      ∙ sym (power_of-elements o L (power R x p) (p ^ i))
      ∙ ap (λ y. power_of o y (p ^ i)) (sym (power_of-elements o L x p) ∙ es)
      ∙ er

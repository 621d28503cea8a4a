-- The polynomials and the fraction of an entry.
use Rattle.std.proofs.Common.{◌≡◌, ◌≢◌, ◌⊎◌, ℕ, zero, suc, ◌<◌, List, [], ◌∷◌, length, get_or, Option, Some, None, refl}
use Rattle.std.proofs.Common.{sym, ap, subst, ◌∙◌, inl, inr, arith}
use Rattle.std.specs.Prelude.{IfSome}
use Rattle.std.specs.List.{AllByRecursion}
use Rattle.std.proofs.lemmas.Bool.{lt-ltb}
use Rattle.theory_rings.specs.Sum.{at}
use Rattle.theory_rings.specs.Polynomial.{IsTrimmed}
use Rattle.spl_field.specs.SmallField.{small_ops, size_of}
use Rattle.spl_field.specs.declared.small.SmallField.{SmallField}
use Rattle.spl_poly.specs.Operations.{IsOver, without_zeros}
use Rattle.spl_poly.proofs.Trimming.{get_or-without_zeros}
use Rattle.spl_text.specs.Text.{FractionText, IsFractionText, IsNumberList, lists_of}
use Rattle.spl_text.proofs.NumberLists.{last-from_IsTrimmed}
use Rattle.theory_fractions.specs.Fraction.{Pair, IsSame, IsLowestTerms, IsFraction}
use Rattle.spl_table.specs.TableText.{Entry, IsInRange, IsOverZero}
use Rattle.spl_table.specs.Reading.{head_of}
use Rattle.spl_table.specs.Table.{IsConstant, denominator_of}

pub IsOver-small : (f : SmallField) (c : List ℕ) → AllByRecursion (λ x. x < size_of f) c → IsOver (small_ops f) c
IsOver-small f [] each k d below = absurd (omega arith)
IsOver-small f (x ∷ c) each zero d below = lt-ltb x (size_of f) each.0
IsOver-small f (x ∷ c) each (suc k) d below = IsOver-small f c each.1 k d (omega arith)

-- the numbers of the denominator are elements
pub denominator_elements : (q : ℕ) (t : FractionText) → 1 < q
    → AllByRecursion (AllByRecursion (λ x. x < q)) (lists_of t)
    → AllByRecursion (λ x. x < q) (denominator_of t.denominator)
denominator_elements q t two each = go t.denominator refl
  where
    go : (d : Option (List ℕ)) → t.denominator ≡ d → AllByRecursion (λ x. x < q) (denominator_of d)
    go None e = (two, tt)
    go (Some d) e = (rw e at each.1).0

-- a denominator other than 0 has a coefficient other than 0
pub denominator_nonzero : (t : FractionText) → IsFractionText t → (IsOverZero t → ⊥)
    → without_zeros (denominator_of t.denominator) ≢ []
denominator_nonzero t is other = go t.denominator is.denominator other
  where
    nonzero : (n : ℕ) (ns : List ℕ) → IsTrimmed 0 (n ∷ ns) → without_zeros (n ∷ ns) ≢ []
    nonzero n ns trimmed none =
        last-from_IsTrimmed n ns trimmed
        (sym (get_or-without_zeros (n ∷ ns) (length ns)) ∙ ap (λ c. get_or c (length ns) 0) none)

    listed : (d : List ℕ) → 0 < length d → (d ≡ 0 ∷ []) ⊎ IsTrimmed 0 d
        → (◌≡◌ {A = Option (List ℕ)} (Some d) (Some (0 ∷ [])) → ⊥) → without_zeros d ≢ []
    listed d some (inl zero_alone) not_zero = absurd (not_zero (ap Some zero_alone))
    listed [] some (inr trimmed) not_zero = absurd (omega arith)
    listed (n ∷ ns) some (inr trimmed) not_zero = nonzero n ns trimmed

    go : (d : Option (List ℕ)) → IfSome d IsNumberList → (d ≡ Some (0 ∷ []) → ⊥) → without_zeros (denominator_of d) ≢ []
    go None d_is not_zero = nonzero 1 [] (λ e. omega arith)
    go (Some d) d_is not_zero = listed d d_is.numbers.some d_is.last not_zero

-- zeros at the end of the coefficients don't matter
pub constant_made : (f : SmallField) (t : FractionText) (w : Pair ℕ) (u v : List ℕ) → u ≡ without_zeros t.numerator
    → v ≡ without_zeros (denominator_of t.denominator)
    → IsLowestTerms (small_ops f) w.0 w.1 → IsFraction (small_ops f) w u v → IsConstant (small_ops f) (Some t) w
constant_made f t w u v num den lowest fraction =
    let o = small_ops f in
    let n : at o u ≡ at o t.numerator = ap (at o) num ∙ (λ i k. get_or-without_zeros t.numerator k i) in
    let d : at o v ≡ at o (denominator_of t.denominator) = ap (at o) den
    ∙ (λ i k. get_or-without_zeros (denominator_of t.denominator) k i) in (
      lowest,
      subst (λ g. IsSame o (at o w.0) (at o w.1) (at o t.numerator) g) d
          (subst (λ g. IsSame o (at o w.0) (at o w.1) g (at o v)) n fraction),
    )

-- the numbers of an entry in range are elements
pub elements_in_range : (f : SmallField) (n : ℕ) (e : Entry) → IsInRange (head_of f n) e
    → AllByRecursion (AllByRecursion (λ x. x < size_of f)) (lists_of e.value)
elements_in_range f n e range =
    subst (λ q. AllByRecursion (AllByRecursion (λ x. x < q)) (lists_of e.value)) (sym f.power) range.elements

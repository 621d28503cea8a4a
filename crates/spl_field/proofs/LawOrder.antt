-- The laws in their order, and what holds where all hold.
use Rattle.std.specs.Prelude.{◌≡◌, ℕ, zero, suc, ◌+◌, ◌<◌, ◌≤◌, List}
use Rattle.std.proofs.Common.{refl, sym, ◌∙◌, ap, subst, arith, ⊎_elim}
use Rattle.std.proofs.lemmas.Bool.{cases_lt}
use Rattle.spl_field.specs.declared.laws.Law.{Law}
use Rattle.spl_field.specs.declared.laws.Law.TheVariants.{SumAssociative, SumCommutative, Zero, Negative}
use Rattle.spl_field.specs.declared.laws.Law.TheVariants.{ProductAssociative, ProductCommutative, One, Distributive}
use Rattle.spl_field.specs.declared.laws.Law.TheVariants.{Inverse}
use Rattle.spl_field.specs.Laws.{number_of, Holds, AreFieldTables}

-- the law with a number
abbrev law_numbered : ℕ → Law
law_numbered zero = SumAssociative
law_numbered (suc zero) = SumAssociative
law_numbered (suc (suc zero)) = SumCommutative
law_numbered (suc (suc (suc zero))) = Zero
law_numbered (suc (suc (suc (suc zero)))) = Negative
law_numbered (suc (suc (suc (suc (suc zero))))) = ProductAssociative
law_numbered (suc (suc (suc (suc (suc (suc zero)))))) = ProductCommutative
law_numbered (suc (suc (suc (suc (suc (suc (suc zero))))))) = One
law_numbered (suc (suc (suc (suc (suc (suc (suc (suc zero)))))))) = Distributive
law_numbered (suc (suc (suc (suc (suc (suc (suc (suc (suc n))))))))) = Inverse

law_numbered-number_of : (l : Law) → law_numbered (number_of l) ≡ l
law_numbered-number_of SumAssociative = refl
law_numbered-number_of SumCommutative = refl
law_numbered-number_of Zero = refl
law_numbered-number_of Negative = refl
law_numbered-number_of ProductAssociative = refl
law_numbered-number_of ProductCommutative = refl
law_numbered-number_of One = refl
law_numbered-number_of Distributive = refl
law_numbered-number_of Inverse = refl

pub number_of-injective : (k l : Law) → number_of k ≡ number_of l → k ≡ l
number_of-injective k l e = sym (law_numbered-number_of k) ∙ ap law_numbered e ∙ law_numbered-number_of l

number_of_positive : (l : Law) → 1 ≤ number_of l
number_of_positive SumAssociative = omega arith
number_of_positive SumCommutative = omega arith
number_of_positive Zero = omega arith
number_of_positive Negative = omega arith
number_of_positive ProductAssociative = omega arith
number_of_positive ProductCommutative = omega arith
number_of_positive One = omega arith
number_of_positive Distributive = omega arith
number_of_positive Inverse = omega arith

pub number_of_lt : (l : Law) → number_of l < 10
number_of_lt SumAssociative = omega arith
number_of_lt SumCommutative = omega arith
number_of_lt Zero = omega arith
number_of_lt Negative = omega arith
number_of_lt ProductAssociative = omega arith
number_of_lt ProductCommutative = omega arith
number_of_lt One = omega arith
number_of_lt Distributive = omega arith
number_of_lt Inverse = omega arith

module _ (q : ℕ) (sum product : List ℕ) where
  pub none_before : (l : Law) → number_of l < 1 → Holds q sum product l
  none_before l h = let g = number_of_positive l in absurd (omega arith)

  -- one more law
  pub more_hold : (n : ℕ) (law : Law) → number_of law ≡ n → ((l : Law) → number_of l < n → Holds q sum product l)
      → Holds q sum product law
      → (l : Law) → number_of l < n + 1 → Holds q sum product l
  more_hold n law e before here l h = ⊎_elim
      (before l)
      (λ (g : n ≤ number_of l). subst (Holds q sum product) (number_of-injective law l (omega arith)) here)
      (cases_lt (number_of l) n)

  pub all_hold : ((l : Law) → Holds q sum product l) → AreFieldTables q sum product
  all_hold h = record {
    add_assoc = h SumAssociative;
    add_comm = λ a b la lb. h SumCommutative a b 0 la lb one;
    zero-add = λ a la. h Zero a 0 0 la one one;
    negative = λ a la. h Negative a 0 0 la one one;
    mul_assoc = h ProductAssociative;
    mul_comm = λ a b la lb. h ProductCommutative a b 0 la lb one;
    one-mul = λ a la. h One a 0 0 la one one;
    mul-add = h Distributive;
    inverse = λ a la n. h Inverse a 0 0 la one one n;
  }
    where
      one : 0 < 1
      one = omega arith

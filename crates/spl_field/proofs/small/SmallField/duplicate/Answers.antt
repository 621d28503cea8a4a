use Rattle.std.proofs.Common.{◌≡◌, ◌*◌, ◌^◌, ◌≤◌, length, All, List, ℕ, sym, ◌∙◌, subst, subst₂, slice_index, ◌<◌}
use Rattle.spl_field.specs.Tables.{table_power, AreElements, AreSums, AreNegatives, AreProducts, AreInverses}
use Rattle.spl_field.proofs.small.SmallField.duplicate.Goals as goal

pub invariant_of-result : goal.invariant_of-result
invariant_of-result c =
    let f = c.args.self.now in
    let p = f.p in
    let q = f.size in
    let em : f.modulus.items ≡ c.in_ok-from_slice.field-0.items =
    sym (c.in_ok-from_slice.ensures.items ∙ c.deref.ensures.value) in
    let es : f.sums.items ≡ c.in_ok-from_slice-2.field-0.items =
    sym (c.in_ok-from_slice-2.ensures.items ∙ c.deref-2.ensures.value) in
    let en : f.negatives.items ≡ c.in_ok-from_slice-3.field-0.items =
    sym (c.in_ok-from_slice-3.ensures.items ∙ c.deref-3.ensures.value) in
    let ep : f.products.items ≡ c.in_ok-from_slice-4.field-0.items =
    sym (c.in_ok-from_slice-4.ensures.items ∙ c.deref-4.ensures.value) in
    let ei : f.inverses.items ≡ c.in_ok-from_slice-5.field-0.items =
    sym (c.in_ok-from_slice-5.ensures.items ∙ c.deref-5.ensures.value) in
    let er : f.roots.items ≡ c.in_ok-from_slice-6.field-0.items =
    sym (c.in_ok-from_slice-6.ensures.items ∙ c.deref-6.ensures.value) in
    record {
      least = f.least;
      some_number = subst (λ (m : List ℕ). 1 ≤ length m) em f.some_number;
      numbers_below = subst (All (λ n. n < p)) em f.numbers_below;
      two_elements = f.two_elements;
      power = subst (λ (m : List ℕ). q ≡ p ^ length m) em f.power;
      most = f.most;
      sums_full = subst (λ (t : List ℕ). length t ≡ q * q) es f.sums_full;
      sums_are = subst₂ (λ m t. AreSums p m q t) em es f.sums_are;
      negatives_full = subst (λ (t : List ℕ). length t ≡ q) en f.negatives_full;
      negatives_below = subst (λ t. AreElements q q t) en f.negatives_below;
      negatives_are = subst₂ (λ m t. AreNegatives p m q t) em en f.negatives_are;
      products_full = subst (λ (t : List ℕ). length t ≡ q * q) ep f.products_full;
      products_are = subst₂ (λ m t. AreProducts p m q t) em ep f.products_are;
      inverses_full = subst (λ (t : List ℕ). length t ≡ q) ei f.inverses_full;
      inverses_below = subst (λ t. AreElements q q t) ei f.inverses_below;
      inverses_are = subst₂ (λ m t. AreInverses p m q t) em ei f.inverses_are;
      inverse_of_zero = subst (λ (t : List ℕ). slice_index t 0 ≡ 0) ei f.inverse_of_zero;
      roots_full = subst (λ (t : List ℕ). length t ≡ q) er f.roots_full;
      roots_below = subst (λ t. AreElements q q t) er f.roots_below;
      roots_are = subst₂ (λ (t r : List ℕ). (a : ℕ) → a < q
          → table_power q t (slice_index r a) p ≡ a) ep er f.roots_are;
    }

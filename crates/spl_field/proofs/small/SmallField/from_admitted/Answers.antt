use Rattle.std.proofs.Common.{◌≡◌, ℕ, ◌^◌, ◌<◌, ◌≤◌, List, length, All, slice_index, subst, sym}
use Rattle.theory_rings.specs.FieldByDigits.{IsSumByDigits}
use Rattle.spl_field.specs.Tables.{table_power, AreSums, AreNegatives, AreProducts, AreInverses}
use Rattle.spl_field.proofs.DigitLoops.{two_le_size}
use Rattle.spl_field.proofs.Rows.{get_or-row}
use Rattle.spl_field.proofs.Roots.{roots_of_powers}
use Rattle.spl_field.proofs.small.SmallField.from_admitted.Goals as goal

pub root_table-requires-clause-least : goal.root_table-requires-clause-least
root_table-requires-clause-least c =
    two_le_size c.args.p c.args.modulus.now c.requires.admitted.fits c.args.size c.requires.size

pub invariant_of-result : goal.invariant_of-result
invariant_of-result c =
    let p = c.args.p in
    let q = c.args.size in
    let fits = c.requires.admitted.fits in
    let products = c.in_ok-products.products.items in
    let sums = c.in_ok-sum_table.field-0.items in
    let negatives = c.in_ok-negative_table.field-0.items in
    let inverses = c.in_ok-inverse_table.field-0.items in
    let roots = c.in_ok-roots.roots.items in
    let m : List ℕ = c.in_ok-from_slice.field-0.items in
    let em : c.args.modulus.now ≡ m = sym c.in_ok-from_slice.ensures.items in
    let some : 1 ≤ length m = subst (λ (l : List ℕ). 1 ≤ length l) em fits.some_number in
    let power : q ≡ p ^ length m = subst (λ (l : List ℕ). q ≡ p ^ length l) em c.requires.size in
    let S : AreSums p m q sums = subst (λ l. AreSums p l q sums) em
    (get_or-row q (λ a b n. IsSumByDigits p c.args.modulus.now a b n) sums c.in_ok-sum_table.ensures.entries) in
    let N : AreNegatives p m q negatives =
    subst (λ l. AreNegatives p l q negatives) em c.in_ok-negative_table.ensures.entries in
    let P : AreProducts p m q products = subst (λ l. AreProducts p l q products) em
    (λ a b la lb. ∣ c.in_ok-products.ensures.entries a b la lb ∣₁) in
    let I : AreInverses p m q inverses = subst (λ l. AreInverses p l q inverses) em
    (λ a positive la. ∣ c.in_ok-inverse_table.ensures.entries a positive la ∣₁) in
    record {
      least = fits.least;
      some_number = some;
      numbers_below = subst (All (λ n. n < p)) em fits.below;
      two_elements = two_le_size p c.args.modulus.now fits q c.requires.size;
      power = power;
      most = subst (λ n. n ≤ 256) (sym c.requires.size) fits.most;
      sums_full = c.in_ok-sum_table.ensures.full;
      sums_are = S;
      negatives_full = c.in_ok-negative_table.ensures.full;
      negatives_below = c.in_ok-negative_table.ensures.elements;
      negatives_are = N;
      products_full = c.in_ok-products.ensures.full;
      products_are = P;
      inverses_full = c.in_ok-inverse_table.ensures.full;
      inverses_below = c.in_ok-inverse_table.ensures.elements;
      inverses_are = I;
      inverse_of_zero = c.in_ok-inverse_table.ensures.zero;
      roots_full = c.in_ok-roots.ensures.full;
      roots_below = c.in_ok-roots.ensures.elements;
      roots_are = roots_of_powers p fits.least m some q power sums negatives products inverses
          S c.in_ok-negative_table.ensures.elements N P c.in_ok-inverse_table.ensures.elements I roots
          (subst (λ (t : List ℕ). (r : ℕ) → r < q
          → table_power q t (slice_index roots (table_power q t r p)) p ≡ table_power q t r p)
          c.deref.ensures.value c.in_ok-roots.ensures.roots);
    }

use Rattle.std.proofs.Common.{◌≡◌, ◌*◌, ◌<◌, List, ℕ, subst, subst₂, sym, ◌∙◌}
use Rattle.spl_field.specs.TableField.{product_of_merely}
use Rattle.spl_field.specs.Tables.{entry_at, AreElements}
use Rattle.spl_field.specs.Laws.{AreTables}
use Rattle.spl_field.proofs.Rows.{rows_below}
use Rattle.spl_field.proofs.small.SmallField.tables.Goals as goal

pub returns-clause-tables : goal.returns-clause-tables
returns-clause-tables c =
    let f = c.args.self.now in
    let q = f.size in
    let es : f.sums.items ≡ c.in_ok-from_slice.field-0 = sym (c.in_ok-from_slice.ensures ∙ c.deref.ensures.value) in
    let ep : f.products.items ≡ c.in_ok-from_slice-2.field-0 =
    sym (c.in_ok-from_slice-2.ensures ∙ c.deref-2.ensures.value) in
    let sums : AreElements q (q * q) f.sums.items = rows_below q f.sums.items
    (λ a b la lb. let s = f.sums_are a b la lb in subst (λ n. entry_at q f.sums.items a b < n) (sym f.power) s.below) in
    let products : AreElements q (q * q) f.products.items = rows_below q f.products.items
    (λ a b la lb. let s =
    product_of_merely f.p f.least f.modulus.items a b (entry_at q f.products.items a b)
    (f.products_are a b la lb) in
    subst (λ n. entry_at q f.products.items a b < n) (sym f.power) s.below) in
    subst₂ (λ (s p : List ℕ). AreTables q s p) es ep (record {
      least = f.two_elements;
      most = f.most;
      sum_full = f.sums_full;
      sum_elements = sums;
      product_full = f.products_full;
      product_elements = products;
    })

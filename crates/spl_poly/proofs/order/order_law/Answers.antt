use Rattle.std.specs.Prelude.{◌≡◌, length, reverse}
use Rattle.std.specs.Ordering.{nat_cmp, ordering_then}
use Rattle.std.specs.declared.cmp.Ordering.{Ordering}
use Rattle.std.specs.declared.cmp.Ordering.TheVariants.{Less, Equal, Greater}
use Rattle.std.specs.Cmp.{on_total}
use Rattle.std.specs.Cmp.Lexicographic.{slice_cmp}
use Rattle.std.proofs.Common.{sym, ◌∙◌, ap}
use Rattle.std.proofs.lemmas.Cmp.{nat_cmp_total, nat_list_cmp_total, then_total}
use Rattle.std.proofs.lemmas.List.{reverse-reverse}
use Rattle.spl_poly.proofs.Orders.{slice_cmp-equal}
use Rattle.spl_poly.proofs.order.order_law.Goals as goal

second-equal : (a b : Ordering) → ordering_then a b ≡ Equal → b ≡ Equal
second-equal Less b e = cc
second-equal Equal b e = e
second-equal Greater b e = cc

pub returns : goal.returns
returns c = record {
  total = then_total (on_total length nat_cmp_total) (on_total reverse nat_list_cmp_total);
  equal = λ a b e. sym (reverse-reverse a)
      ∙ ap reverse (slice_cmp-equal (reverse a) (reverse b)
      (second-equal (nat_cmp (length a) (length b)) (slice_cmp nat_cmp (reverse a) (reverse b)) e))
      ∙ reverse-reverse b;
}

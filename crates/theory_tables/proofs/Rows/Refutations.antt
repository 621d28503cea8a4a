-- A system that has a solution is not refuted.
use Rattle.std.proofs.Common.{sym, ◌∙◌, ap}
use Rattle.theory_rings.specs.Ops.{Ops, FieldLaws}
use Rattle.theory_rings.specs.Sum.{sum_of, at}
use Rattle.theory_rings.proofs.Rings.Elements.{at-elem, sum_of_congr}
use Rattle.theory_tables.specs.Matrix.{entry}
use Rattle.theory_tables.specs.Solve.{NotBoth}
use Rattle.theory_tables.proofs.Rows.Terms.{zero-mul}
use Rattle.theory_tables.proofs.Rows.Sums.{sums_assoc, sum_of_zeros, entry-elem}

pub not_both : {E : Type 0} (o : Ops E) (L : FieldLaws o) → NotBoth o
not_both o L h w a right v m shape s r =
    let m_in = at-elem o L m r.tuple.of_elements in
    let v_in = at-elem o L v s.tuple.of_elements in
    L.one-nonzero (sym r.refutes
    ∙ sum_of_congr o h (λ i. o.mul (at o m i) (at o right i))
    (λ i. o.mul (at o m i) (sum_of o w (λ j. o.mul (entry o a i j) (at o v j))))
    (λ i i_in. ap (o.mul (at o m i)) (sym (s.solves i i_in)))
    ∙ sym (sums_assoc o L h w (at o m) (entry o a) (at o v) m_in (entry-elem o L w a shape) v_in)
    ∙ sum_of_congr o w (λ j. o.mul (sum_of o h (λ i. o.mul (at o m i) (entry o a i j))) (at o v j)) (λ _. o.zero)
    (λ j j_in. ap (λ x. o.mul x (at o v j)) (r.kills j j_in) ∙ zero-mul o L (at o v j) (v_in j))
    ∙ sum_of_zeros o L w)

-- An algebra whose centre is the multiples of the identity, and whose trace form is nondegenerate, is central simple.
use Rattle.std.proofs.Common.{◌∙◌, sym, ap}
use Rattle.theory_rings.specs.Ops.{Ops, FieldLaws}
use Rattle.theory_rings.specs.Elements.{Elem, elements}
use Rattle.theory_spaces.proofs.Algebras.Simple.{central_simple}
use Rattle.theory_spaces.proofs.Tuples.Tuples.{Tuple-path}
use Rattle.theory_tables.specs.Structure.{Structure}
use Rattle.theory_tables.specs.Laws.{CentralSimpleByTraceForm}
use Rattle.theory_tables.proofs.Algebras.Bridge.{as_tuple, IsTuple-of, algebra, algebra_is, table_basis, trace-is}
use Rattle.theory_tables.proofs.Algebras.Bridge.{to_central, from_central_simple}
use Rattle.theory_tables.specs.Traces.{trace as list_trace}

module _ {E : Type 0} (o : Ops E) (L : FieldLaws o) (S : Structure E) where
  pub central_simple_by_trace_form : CentralSimpleByTraceForm o S
  central_simple_by_trace_form t assoc centre nondegenerate =
      let g = t.of_elements in
      let A = algebra o L S g assoc centre.one centre.is_one in
      let B = table_basis o L S g assoc centre.one centre.is_one in
      let T = algebra_is o L S g assoc centre.one centre.is_one in
      from_central_simple o L S g assoc centre.one centre.is_one (central_simple (elements o L) A S.dim B
      (record {
        only_zero = λ x h. Tuple-path o L S.dim x A.zero (nondegenerate x.0 (record {
          tuple = IsTuple-of o L S.dim x;
          orthogonal = λ b tuple.
              let y = as_tuple o L S.dim b tuple in
              ap (list_trace o S) (sym (T.product-is x y))
              ∙ sym (trace-is o L S g assoc centre.one centre.is_one (A.◌⊗◌ x y)) ∙ ap (λ (c : Elem o). c.0) (h y);
        }) ∙ sym T.zero-is);
      })
      (to_central o L S g assoc centre.one centre.is_one centre))

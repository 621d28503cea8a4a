use Rattle.std.proofs.Common.{◌≡◌, ◌<◌, ◌≤◌, ◌⊎◌, ◌^◌, ◌-◌, ℕ, [], List, length, get_or, sym, ◌∙◌, ap, ap₂, subst}
use Rattle.std.proofs.Common.{arith}
use Rattle.theory_rings.specs.Polynomial.{degree}
use Rattle.theory_tables.specs.Matrix.{IsMatrix}
use Rattle.theory_tables.specs.Subspace.{SpansKernel}
use Rattle.spl_field.specs.SmallField.{size_of}
use Rattle.spl_residue.specs.Residue.{residue_ops, field_of, polynomial_of}
use Rattle.spl_blocks.specs.Fixed.{power_equations}
use Rattle.spl_blocks.specs.Splits.{HasValuedTraces, AreTracesScalars, combination_of}
use Rattle.spl_blocks.proofs.SimpleResidue.{degree-is}
use Rattle.spl_blocks.proofs.MaximalResidue.{residue_traces, residue_maximal}
use Rattle.spl_blocks.proofs.ideals.maximal_ideals.Goals as goal

pub refined_by_all-requires-clause-rows : goal.refined_by_all-requires-clause-rows
refined_by_all-requires-clause-rows c =
    let o = residue_ops c.args.k.now in
    let centre = c.in_ok-centre in
    let P : ℕ → Type 0 = λ n. IsMatrix o n centre.centre.rows in
    let Q : List (List (List ℕ)) → Type 0 = IsMatrix o c.args.b.now.dim in
    subst Q (sym (c.as_slice-rows.ensures ∙ c.rows.ensures)) (subst P centre.ensures.width centre.ensures.basis.shape)

pub refined_by_all-requires-clause-weights : goal.refined_by_all-requires-clause-weights
refined_by_all-requires-clause-weights c =
    let o = residue_ops c.args.k.now in
    let weights = c.in_ok-weights in
    let P : ℕ → Type 0 = λ n. IsMatrix o n weights.weights.rows in
    let Q : List (List (List ℕ)) → Type 0 = IsMatrix o (length c.as_slice-rows.result.now) in
    subst Q (sym (c.as_slice-solutions.ensures ∙ c.rows-2.ensures))
    (subst P weights.ensures.width weights.ensures.basis.shape)

pub refined_by_all-requires-clause-traces : goal.refined_by_all-requires-clause-traces
refined_by_all-requires-clause-traces c =
    let k = c.args.k.now in
    let o = residue_ops k in
    let T = c.args.b.now in
    let centre = c.in_ok-centre in
    let weights = c.in_ok-weights in
    let rows = c.as_slice-rows.result.now in
    let rows_is : rows ≡ centre.centre.rows = c.as_slice-rows.ensures ∙ c.rows.ensures in
    let solutions = c.as_slice-solutions.result.now in
    let solutions_is : solutions ≡ weights.weights.rows = c.as_slice-solutions.ensures ∙ c.rows-2.ensures in
    let cs = c.as_slice-cs.result.now in
    let cs_is : cs ≡ c.in_ok-constants.constants = c.as_slice-cs.ensures in
    let some : 1 ≤ T.dim = omega (arith, c.dim-m.ensures.dim, c.dim-m.ensures.positive) in
    let q : ℕ = c.from-q.result in
    let d : ℕ = length c.as_slice.result.now - 1 in
    let q_is : q ≡ size_of (field_of k) = c.from-q.ensures ∙ c.size.ensures.size ∙ ap size_of c.field.ensures in
    let d_is : d ≡ degree (polynomial_of k) = ap (λ (xs : List ℕ). length xs - 1)
    (c.as_slice.ensures ∙ c.modulus.ensures.value) ∙ degree-is (polynomial_of k) in
    let M : List (List (List ℕ)) → Type 0 = λ r.
    SpansKernel o T.dim (length r) (power_equations o T (q ^ d) r) weights.weights.rows in
    let x = c.in_ok-x in
    let h = residue_traces k T c.requires.unital some c.requires.semisimple c.in_ok-one.one
    c.in_ok-one.ensures c.in_ok-constants.constants c.in_ok-constants.ensures.value x.x x.ensures centre.centre.rows
    centre.centre.width centre.ensures.width centre.ensures.basis centre.ensures.members weights.weights.rows
    weights.weights.width (weights.ensures.width ∙ ap length rows_is) weights.ensures.basis (q ^ d)
    (ap₂ (λ a b. a ^ b) q_is d_is) (subst M rows_is weights.ensures.members) in
    let P : List (List ℕ) → ℕ → ℕ → List (List (List ℕ)) → List (List (List ℕ)) → Type 0 = λ cs q d w r. (t : ℕ)
    → t < length w → HasValuedTraces o T c.in_ok-one.one cs x.x q d (combination_of o T (get_or w t []) r) in
    subst (λ cs. P cs q d solutions rows) (sym cs_is)
    (subst (λ a. P c.in_ok-constants.constants a d solutions rows) (sym q_is)
    (subst (λ a. P c.in_ok-constants.constants (size_of (field_of k)) a solutions rows) (sym d_is)
    (subst (λ w. P c.in_ok-constants.constants (size_of (field_of k)) (degree (polynomial_of k)) w rows)
    (sym solutions_is)
    (subst (λ r. P c.in_ok-constants.constants (size_of (field_of k)) (degree (polynomial_of k)) weights.weights.rows r)
    (sym rows_is) h))))

pub returns : goal.returns
returns c =
    let k = c.args.k.now in
    let o = residue_ops k in
    let T = c.args.b.now in
    let centre = c.in_ok-centre in
    let weights = c.in_ok-weights in
    let rows = c.as_slice-rows.result.now in
    let rows_is : rows ≡ centre.centre.rows = c.as_slice-rows.ensures ∙ c.rows.ensures in
    let solutions = c.as_slice-solutions.result.now in
    let solutions_is : solutions ≡ weights.weights.rows = c.as_slice-solutions.ensures ∙ c.rows-2.ensures in
    let cs = c.as_slice-cs.result.now in
    let cs_is : cs ≡ c.in_ok-constants.constants = c.as_slice-cs.ensures in
    let some : 1 ≤ T.dim = omega (arith, c.dim-m.ensures.dim, c.dim-m.ensures.positive) in
    let q : ℕ = c.from-q.result in
    let d : ℕ = length c.as_slice.result.now - 1 in
    let q_is : q ≡ size_of (field_of k) = c.from-q.ensures ∙ c.size.ensures.size ∙ ap size_of c.field.ensures in
    let d_is : d ≡ degree (polynomial_of k) = ap (λ (xs : List ℕ). length xs - 1)
    (c.as_slice.ensures ∙ c.modulus.ensures.value) ∙ degree-is (polynomial_of k) in
    let M : List (List (List ℕ)) → Type 0 = λ r.
    SpansKernel o T.dim (length r) (power_equations o T (q ^ d) r) weights.weights.rows in
    let x = c.in_ok-x in
    let items = c.in_ok-ideals in
    let P : ℕ → ℕ → List (List (List ℕ)) → List (List (List ℕ)) → Type 0 = λ q d w r. (length w ≤ length items.ideals)
    ⊎ ((t : ℕ) → t < length w → AreTracesScalars o T c.in_ok-one.one x.x q d (combination_of o T (get_or w t []) r) d
    items.ideals) in
    residue_maximal k T c.requires.unital some c.requires.semisimple c.in_ok-one.one
    c.in_ok-one.ensures c.in_ok-constants.constants c.in_ok-constants.ensures.value x.x x.ensures centre.centre.rows
    centre.centre.width centre.ensures.width centre.ensures.basis centre.ensures.members weights.weights.rows
    weights.weights.width (weights.ensures.width ∙ ap length rows_is) weights.ensures.basis (q ^ d)
    (ap₂ (λ a b. a ^ b) q_is d_is) (subst M rows_is weights.ensures.members) items.ideals items.ensures.split
    (subst (λ r. P (size_of (field_of k)) (degree (polynomial_of k)) weights.weights.rows r) rows_is
    (subst (λ w. P (size_of (field_of k)) (degree (polynomial_of k)) w rows) solutions_is
    (subst (λ a. P (size_of (field_of k)) a solutions rows) d_is (subst (λ a. P a d solutions rows) q_is
    items.ensures.done))))

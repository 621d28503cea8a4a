-- What the steps of `maximal_ideals` give: the traces of the solutions that the weights give have values, and the list
-- that they refine is that of the maximal ideals.
use Rattle.std.specs.Prelude.{◌≡◌, ◌⊎◌, ◌<◌, ◌≤◌, ◌^◌, ℕ, List, [], length, get_or}
use Rattle.std.proofs.Common.{sym, ◌∙◌, ap, subst, ⊎_elim, arith}
use Rattle.theory_rings.specs.Ring.{FieldOn}
use Rattle.theory_rings.specs.Ops.{Ops, FieldLaws}
use Rattle.theory_rings.specs.Elements.{Elem}
use Rattle.theory_rings.specs.Sum.{at}
use Rattle.theory_rings.specs.Prime.{IsPrime}
use Rattle.theory_rings.specs.Power.{times}
use Rattle.theory_rings.specs.Enumerated.{Enumerated}
use Rattle.theory_rings.specs.Polynomial.{degree}
use Rattle.theory_spaces.specs.Module.{ModuleOn, AlgebraOn}
use Rattle.theory_spaces.specs.Linear.{InSpan}
use Rattle.theory_tables.specs.Subspace.{Rows, IsReducedBasis, SpansKernel}
use Rattle.theory_tables.specs.Structure.{Structure}
use Rattle.theory_tables.specs.Algebras.{IsIdentity}
use Rattle.theory_remainders.specs.Irreducible.{IsIrreducible}
use Rattle.theory_remainders.specs.RemainderOps.{remainder_ops}
use Rattle.theory_remainders.proofs.RemainderField.{monic, remainder_laws}
use Rattle.theory_blocks.specs.FixedPoints.{IsFixed}
use Rattle.theory_blocks.specs.Centre.{Centre}
use Rattle.spl_algebra.specs.Subspaces.{SpansCentre}
use Rattle.spl_blocks.specs.Blocks.{IsUnital, HasNoNilpotentIdeal, AreMaximalIdeals}
use Rattle.spl_blocks.specs.Fixed.{power_equations}
use Rattle.spl_blocks.specs.Splits.{AreSplit, AreScalars, HasValuedTraces, AreTracesScalars, combination_of}
use Rattle.spl_blocks.specs.Splits.{trace_of_multiple, trace_in}
use Rattle.spl_blocks.proofs.Tables.{V, A, A_is, M, one_of}
use Rattle.spl_blocks.proofs.FixedWeights as fixed
use Rattle.spl_blocks.proofs.Remainders.{F, D, of_constant, of_constant_hom, numbers}
use Rattle.spl_blocks.proofs.Constants.{tau-add}
use Rattle.spl_blocks.proofs.TraceSpan as traces
use Rattle.spl_blocks.proofs.SimpleBlocks.{factors}
use Rattle.spl_blocks.proofs.FinalIdeals.{are_maximal, only_of_count, only_of_scalars}
use Rattle.spl_blocks.proofs.TraceValues.{w, valued, multiple-is, trace-list}

module _ {E : Type 0} (o : Ops E) (L : FieldLaws o) (g : List E) (i : IsIrreducible o g) (N : Enumerated (Elem o))
    (p e r : ℕ) (prime : IsPrime p) (char : (let G = D o L g i in times G.monoid p G.one ≡ G.zero))
    (size : N.size ≡ p ^ e)
    (size_power : (let n = numbers o L g i N in n.size) ≡ p ^ r)
    (T : Structure (List E)) (u : IsUnital (remainder_ops o L g (monic o L g i)) T) (positive : 1 ≤ T.dim)
    (none : HasNoNilpotentIdeal (remainder_ops o L g (monic o L g i)) T) where
  abbrev ops : Ops (List E)
  ops = remainder_ops o L g (monic o L g i)

  abbrev laws : FieldLaws ops
  laws = remainder_laws o L g i

  abbrev m : ℕ
  m = T.dim

  abbrev q : ℕ
  q = N.size

  abbrev d : ℕ
  d = degree g

  abbrev G : FieldOn (Elem ops)
  G = D o L g i

  abbrev Q : Enumerated (Elem ops)
  Q = numbers o L g i N

  abbrev X : Type 0
  X = V ops laws T u

  abbrev B : AlgebraOn G.ring X
  B = A ops laws T u

  abbrev Y : ModuleOn G.ring X
  Y = M ops laws T u

  module _ (one : List (List E)) (is_one : IsIdentity ops T one) (cs : List (List E)) (x : List E)
      (long : length cs ≡ q) (constants : (c : ℕ) → c < q → at ops cs c ≡ (of_constant o L g i (N.member c)).0)
      (variable : x ≡ (traces.x o L g i N p e prime char size).0)
      (centre : List (List (List E))) (basis : IsReducedBasis ops m centre) (members : SpansCentre ops T centre)
      (weights : List (List (List E))) (wbasis : IsReducedBasis ops (length centre) weights)
      (wmembers : SpansKernel ops m (length centre) (power_equations ops T Q.size centre) weights) where
    abbrev s : ℕ
    s = length weights

    -- the solution with row a as weights
    solution : ℕ → X
    solution a = fixed.G ops laws T u Q p r prime char size_power centre basis.shape members
        (fixed.W ops laws T u Q p r prime char size_power centre basis.shape members weights wbasis.shape wmembers a)

    solution-is : (a : ℕ) → a < s → (solution a).0 ≡ combination_of ops T (get_or weights a []) centre
    unfolding solution
    solution-is a l = fixed.G-is ops laws T u Q p r prime char size_power centre basis.shape members weights
        wbasis.shape
        wmembers a l

    central : (a : ℕ) → Centre B (solution a)
    unfolding solution
    central a = fixed.G_central ops laws T u Q p r prime char size_power centre basis.shape members
        (fixed.W ops laws T u Q p r prime char size_power centre basis.shape members weights wbasis.shape wmembers a)

    solves : (a : ℕ) → a < s → IsFixed B.ring Q.size (solution a)
    unfolding solution
    solves a l = fixed.W_fixed ops laws T u Q p r prime char size_power centre basis.shape members weights wbasis.shape
        wmembers a l

    all_solutions : (y : X) → Centre B y → IsFixed B.ring Q.size y → InSpan Y s solution y
    unfolding solution
    all_solutions y c f = fixed.solutions_spanned ops laws T u Q p r prime char size_power centre basis.shape members
        weights wbasis.shape wmembers y c f

    pub traces_valued : (a : ℕ) → a < s
        → HasValuedTraces ops T one cs x q d (combination_of ops T (get_or weights a []) centre)
    traces_valued a l = subst (HasValuedTraces ops T one cs x q d) (solution-is a l)
        (valued o L g i N p e r prime char size size_power T u positive none one
        (one_of ops laws T u one is_one) cs x long
        constants variable (solution a) (central a) (solves a l))

    abbrev count : ℕ
    count = let b = factors ops laws T u positive Q p r prime char size_power none in b.factors.count

    count-is : s ≡ count
    count-is =
        let b = factors ops laws T u positive Q p r prime char size_power none in
        fixed.size_unique ops laws T u Q p r prime char size_power centre basis.shape members weights wbasis.shape
        wmembers basis wbasis count b.dimension

    pub maximal_of_refined : (items : List (Rows (List E))) → AreSplit ops T items
        → (s ≤ length items) ⊎ ((a : ℕ) → a < s → AreTracesScalars ops T one x q d
        (combination_of ops T (get_or weights a []) centre) d items)
        → AreMaximalIdeals ops T items
    maximal_of_refined items split done = ⊎_elim
        (λ (h : s ≤ length items). are_maximal ops laws T u positive Q p r prime char size_power none items split
        (only_of_count ops laws T u positive Q p r prime char size_power none items split
        (omega (arith, h, count-is))))
        (λ (h : (a : ℕ) → a < s → AreTracesScalars ops T one x q d
        (combination_of ops T (get_or weights a []) centre) d items).
        are_maximal ops laws T u positive Q p r prime char size_power none items split
        (only_of_scalars ops laws T u positive Q p r prime char size_power none items split one
        (one_of ops laws T u one is_one) q d s
        (let l = N.number-lt (let C = F o L g i in C.zero) in omega arith) solution
        (w o L g i N p e r prime char size size_power T u positive none)
        (λ a _. central a) solves all_solutions
        (tau-add (F o L g i) N G (of_constant o L g i) (of_constant_hom o L g i) p e prime char size d)
        (λ b k. traces.zero_of_traces o L g i N p e prime char size b k)
        (λ a j la lj.
        let z = solution a in
        let wj = w o L g i N p e r prime char size size_power T u positive none j in
        let y = B.◌•◌ wj z in
        let t = A_is ops laws T u in
        subst (λ v. AreScalars ops T one v items)
        (ap (λ c. trace_of_multiple ops T x q d c j) (sym (solution-is a la))
        ∙ sym (multiple-is o L g i N p e r prime char size size_power T u positive none one
        (one_of ops laws T u one is_one) cs x long constants variable z j)
        ∙ trace-list o L g i N p e r prime char size size_power T u positive none y
        ∙ ap (trace_in ops T q d) (t.scale-is wj z))
        (h a la j lj))))
        done

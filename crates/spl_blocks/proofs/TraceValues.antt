-- An algebra without nilpotent ideals but 0 over the field of the remainders by an irreducible polynomial of degree d
-- over a field of q elements: the traces of the solutions of z^Q = z in the centre, Q = q^d, take values among the
-- constants; so they refine the ideal 0 to the maximal ideals.
use Rattle.std.specs.Prelude.{◌≡◌, ◌<◌, ◌≤◌, ◌^◌, ℕ, zero, suc, List, length}
use Rattle.std.proofs.Common.{sym, ◌∙◌, ap, ap₂, subst, arith}
use Rattle.std.proofs.Math.Nat.{one-le-pow}
use Rattle.theory_rings.specs.Ring.{FieldOn}
use Rattle.theory_rings.specs.Ops.{Ops, IsElem, FieldLaws}
use Rattle.theory_rings.specs.Elements.{Elem, Elem-path}
use Rattle.theory_rings.specs.Sum.{at}
use Rattle.theory_rings.specs.Prime.{IsPrime}
use Rattle.theory_rings.specs.Power.{power, power_of, times}
use Rattle.theory_rings.specs.Enumerated.{Enumerated}
use Rattle.theory_rings.specs.Polynomial.{degree}
use Rattle.theory_rings.proofs.Powers.Powers.{power_commutes}
use Rattle.theory_rings.proofs.Rings.RingLaws.{add-neg, mul-neg}
use Rattle.theory_rings.proofs.Rings.Elements.{power_of-elements}
use Rattle.theory_spaces.specs.Module.{ModuleOn, AlgebraOn}
use Rattle.theory_spaces.specs.Linear.{Basis}
use Rattle.theory_spaces.specs.Sets.{Whole, ring_ops}
use Rattle.theory_spaces.specs.Tuples.{tuple_add, tuple_scale}
use Rattle.theory_spaces.proofs.Algebras.SetLemmas.{maximal_same}
use Rattle.theory_tables.specs.Subspace as rows_of
use Rattle.theory_tables.specs.Subspace.{Combinations}
use Rattle.theory_tables.specs.Structure.{Structure}
use Rattle.theory_tables.specs.Algebras.{IsCentral, SpansIdeal}
use Rattle.theory_remainders.specs.Irreducible.{IsIrreducible}
use Rattle.theory_remainders.specs.RemainderOps.{remainder_ops}
use Rattle.theory_remainders.proofs.RemainderField.{monic, remainder_laws}
use Rattle.theory_blocks.specs.FixedPoints.{IsFixed}
use Rattle.theory_blocks.specs.Centre.{Centre}
use Rattle.theory_blocks.specs.MaximalIdeals.{MaximalIdealsBySolutions}
use Rattle.theory_blocks.proofs.Ideals.Centres.{centre_submodule}
use Rattle.spl_blocks.specs.Blocks.{IsUnital, HasNoNilpotentIdeal, SpansMaximalIdeal}
use Rattle.spl_blocks.specs.Splits.{trace_in, AreValues, HasValuedTraces, less_multiple, trace_of_multiple}
use Rattle.spl_blocks.proofs.Tables.{V, A, A_is, M, A_basis, of_tuple, family, to_rows, from_rows, maximal_down}
use Rattle.spl_blocks.proofs.Tables.{power-is}
use Rattle.spl_blocks.proofs.Tables.{no_nilpotent, central_of}
use Rattle.spl_blocks.proofs.Components.{trace, scalar_of_solution, scalar-scale, scalar-trace}
use Rattle.spl_blocks.proofs.SplitLists.{S, ideal_of, less, less-is}
use Rattle.spl_blocks.proofs.Remainders.{F, D, of_constant, of_constant_hom, numbers, size-numbers}
use Rattle.spl_blocks.proofs.Constants.{tau, tau-fixed, root_is_constant, injective}
use Rattle.spl_blocks.proofs.TraceSpan as traces
use Rattle.spl_blocks.proofs.SimpleBlocks.{factors}

module _ {E : Type 0} (o : Ops E) (L : FieldLaws o) (g : List E) (i : IsIrreducible o g) (N : Enumerated (Elem o))
    (p e r : ℕ) (prime : IsPrime p) (char : (let G = D o L g i in times G.monoid p G.one ≡ G.zero))
    (size : N.size ≡ p ^ e)
    (size_power : (let n = numbers o L g i N in n.size) ≡ p ^ r)
    (T : Structure (List E)) (u : IsUnital (remainder_ops o L g (monic o L g i)) T) (positive : 1 ≤ T.dim)
    (none : HasNoNilpotentIdeal (remainder_ops o L g (monic o L g i)) T) where
  abbrev ops : Ops (List E)
  ops = remainder_ops o L g (monic o L g i)

  abbrev laws : FieldLaws ops
  laws = remainder_laws o L g i

  abbrev m : ℕ
  m = T.dim

  abbrev q : ℕ
  q = N.size

  abbrev d : ℕ
  d = degree g

  abbrev G : FieldOn (Elem ops)
  G = D o L g i

  abbrev Q : Enumerated (Elem ops)
  Q = numbers o L g i N

  abbrev X : Type 0
  X = V ops laws T u

  abbrev B : AlgebraOn G.ring X
  B = A ops laws T u

  abbrev Y : ModuleOn G.ring X
  Y = M ops laws T u

  abbrev basis : Basis Y m
  basis = A_basis ops laws T u

  abbrev blocks : MaximalIdealsBySolutions G Q B
  blocks = factors ops laws T u positive Q p r prime char size_power none

  abbrev h : Elem o → Elem ops
  h = of_constant o L g i

  abbrev tr : X → X
  tr = let b = blocks in trace G B m basis (no_nilpotent ops laws T u none) b.factors q d

  abbrev t : Elem ops → Elem ops
  t = let C = F o L g i in tau C N G h (of_constant_hom o L g i) d

  pub trace-list : (y : X) → (tr y).0 ≡ trace_in ops T q d y.0
  trace-list y = go d
    where
      go : (k : ℕ) → (let b = blocks in trace G B m basis (no_nilpotent ops laws T u none) b.factors q k y).0
          ≡ trace_in ops T q k y.0
      go zero = let h = A_is ops laws T u in h.zero-is
      go (suc k) =
          let h = A_is ops laws T u in
          let b = blocks in
          let l = N.number-lt (let C = F o L g i in C.zero) in
          h.add-is (trace G B m basis (no_nilpotent ops laws T u none) b.factors q k y) (power B.ring y (q ^ k))
          ∙ ap₂ (tuple_add ops m) (go k) (power-is ops laws T u y (q ^ k) (one-le-pow k q (omega arith)))

  trace_central : (y : X) → Centre B y → Centre B (tr y)
  trace_central y c = go d
    where
      go : (k : ℕ) → Centre B (let b = blocks in trace G B m basis (no_nilpotent ops laws T u none) b.factors q k y)
      go zero = let s = centre_submodule B in s.zero-in
      go (suc k) =
          let s = centre_submodule B in
          let b = blocks in
          s.add-in (trace G B m basis (no_nilpotent ops laws T u none) b.factors q k y) (power B.ring y (q ^ k)) (go k)
          (λ z. sym (power_commutes B.ring y z (sym (c z)) (q ^ k)))

  abbrev pub w : ℕ → Elem ops
  w a = power G.ring (traces.x o L g i N p e prime char size) a

  -- the list of the constants, and the class of the variable
  module _ (one : List (List E)) (one_is : (let b = B in b.one).0 ≡ one) (cs : List (List E)) (x : List E)
      (long : length cs ≡ q) (constants : (c : ℕ) → c < q → at ops cs c ≡ (h (N.member c)).0)
      (variable : x ≡ (traces.x o L g i N p e prime char size).0) where
    w-is : (a : ℕ) → (w a).0 ≡ power_of ops x a
    w-is a = sym (power_of-elements ops laws (traces.x o L g i N p e prime char size) a)
        ∙ ap (λ y. power_of ops y a) (sym variable)

    pub multiple-is : (z : X) (a : ℕ) → (tr (B.◌•◌ (w a) z)).0 ≡ trace_of_multiple ops T x q d z.0 a
    multiple-is z a =
        let h = A_is ops laws T u in
        trace-list (B.◌•◌ (w a) z)
        ∙ ap (trace_in ops T q d) (h.scale-is (w a) z ∙ ap (λ c. tuple_scale ops m c z.0) (w-is a))

    module _ (z : X) (central : Centre B z) (fixed : IsFixed B.ring Q.size z) where
      -- the value of the trace at a maximal ideal
      value : (a : ℕ) (rows : List (List (List E))) → SpansMaximalIdeal ops T rows
          → (c : ℕ) × (c < q) × rows_of.InSpan ops m rows
          (less_multiple ops T one (tr (B.◌•◌ (w a) z)).0 (h (N.member c)).0)
      value a rows k =
          let b = blocks in
          let ids = b.ideals in
          let ds = b.factors in
          let I : SpansIdeal ops T rows = record { shape = k.shape; ideal = let n = k.maximal in n.ideal } in
          let f = ids.complete (length rows) (family ops laws T u rows k.shape) (ideal_of ops laws T u rows I)
          (maximal_same (ring_ops B.ring) Whole (λ y. Combinations ops m rows y.0) (S ops laws T u rows k.shape) (
            (λ y n. to_rows ops laws T u rows k.shape y n.1),
            (λ y n. (of_tuple ops laws T u y, from_rows ops laws T u rows k.shape y n)),
          )
          (maximal_down ops laws T u (Combinations ops m rows) k.maximal)) in
          let unit = ds.idempotent f.0 in
          let s = scalar_of_solution G B m basis
          (no_nilpotent ops laws T u none) ds Q b.solutions z central fixed f.0 f.1 in
          let y = B.◌•◌ (w a) z in
          let value = t (G.◌⊗◌ (w a) s.0) in
          let on : B.◌⊗◌ unit (tr y) ≡ B.◌•◌ value unit =
          scalar-trace G B m basis (no_nilpotent ops laws T u none) ds q d f.0 y (G.◌⊗◌ (w a) s.0)
          (scalar-scale G B m basis (no_nilpotent ops laws T u none) ds f.0 z s.0 (w a) s.1) in
          let c = root_is_constant (F o L g i) N G h (of_constant_hom o L g i) value
          (tau-fixed (F o L g i) N G h (of_constant_hom o L g i) p e prime char size Q d (size-numbers o L g i N)
          (G.◌⊗◌ (w a) s.0)) in
          let cc = h (N.member c.0) in
          let killed : B.◌⊗◌ unit (less ops laws T u (tr y) cc) ≡ B.zero =
          B.mul-add unit (tr y) (B.neg (B.◌•◌ cc B.one))
          ∙ ap₂ B.◌⊕◌ (on ∙ ap (λ n. B.◌•◌ n unit) c.2)
          (mul-neg B.ring unit (B.◌•◌ cc B.one)
          ∙ ap B.neg (B.scale-right cc unit B.one ∙ ap (B.◌•◌ cc) (B.mul-one unit)))
          ∙ add-neg B.additive (B.◌•◌ cc unit) in
          let v = less ops laws T u (tr y) cc in (
            c.0,
            c.1,
            subst (rows_of.InSpan ops m rows) (less-is ops laws T u one one_is (tr y) cc)
                (from_rows ops laws T u rows k.shape v ((f.2 v).1 killed)),
          )

      pub valued : HasValuedTraces ops T one cs x q d z.0
      valued = record {
        central = λ a l. subst (IsCentral ops T) (multiple-is z a) (central_of ops laws T u (tr (B.◌•◌ (w a) z))
            (trace_central (B.◌•◌ (w a) z) (let s = centre_submodule B in s.scale-in (w a) z central)));
        values = λ a l. subst (λ y. AreValues ops T one y cs) (multiple-is z a) (record {
          elements = λ c lc. let lq : c < q = omega (arith, lc, long) in
              subst (IsElem ops) (sym (constants c lq)) (h (N.member c)).1;
          different = λ c k lc lk same.
              let lq : c < q = omega (arith, lc, long) in
              let kq : k < q = omega (arith, lk, long) in
              sym (N.number-member c lq)
              ∙ ap N.number (injective (F o L g i) N G h (of_constant_hom o L g i) (N.member c) (N.member k)
              (Elem-path ops (h (N.member c)) (h (N.member k)) (sym (constants c lq) ∙ same ∙ constants k kq)))
              ∙ N.number-member k kq;
          cover = λ rows k. let c = value a rows k in (
            c.0,
            omega (arith, c.1, long),
            subst (λ y. rows_of.InSpan ops m rows (less_multiple ops T one (tr (B.◌•◌ (w a) z)).0 y))
                (sym (constants c.0 c.1)) c.2,
          );
        });
      }

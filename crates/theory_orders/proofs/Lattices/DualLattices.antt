-- Where the trace form is nondegenerate, the dual of a lattice of full rank is the lattice of the dual basis, its dual
-- is the lattice again, and a larger lattice has a smaller dual.
use Rattle.std.specs.Prelude.{◌≡◌, ℕ, zero, suc, ◌<◌, ◌≤◌}
use Rattle.std.proofs.Common.{sym, subst, arith, ⊎_elim}
use Rattle.std.proofs.lemmas.Bool.{cases_lt}
use Rattle.theory_rings.specs.Ring.{FieldOn}
use Rattle.theory_spaces.specs.Module.{ModuleOn, AlgebraOn, module_of}
use Rattle.theory_spaces.specs.Linear.{Independent, Basis, IsSubmodule}
use Rattle.theory_spaces.specs.Algebra.{Nondegenerate}
use Rattle.theory_spaces.specs.Form.{IsBilinear, DualBasis, trace_form}
use Rattle.theory_spaces.specs.Valuation.{ValuationOn, integers, restrict}
use Rattle.theory_spaces.proofs.Linear.Families.{push, push-below, push-at}
use Rattle.theory_spaces.proofs.Linear.Spaces.{basis_of}
use Rattle.theory_spaces.proofs.Forms.Traces.{trace_comm}
use Rattle.theory_spaces.proofs.Forms.TraceForms.{trace_form_bilinear}
use Rattle.theory_spaces.proofs.Forms.Forms.{dual_basis, coord-dual, expand-dual, dual-expand, form-zero_right}
use Rattle.theory_orders.specs.Uniformizer.{IsIntegral}
use Rattle.theory_orders.specs.Orders.{Same, ProperlyWithin}
use Rattle.theory_orders.specs.Lattices.{Lattice, IsOrderAt, LatticeChain}
use Rattle.theory_orders.specs.Dual.{Dual}
use Rattle.theory_spaces.proofs.Linear.LatticeTests.{integral_weights}
use Rattle.theory_orders.proofs.Splitting.Ramified.{spanning}
use Rattle.theory_spaces.proofs.Linear.LatticeSpans.{lattice-member, lattice_in}

pub proper_same : {V : Type 0} (I I' J J' : V → Type 0) → Same I I' → Same J J' → ProperlyWithin I J
    → ProperlyWithin I' J'
proper_same I I' J J' e d h = (λ x i. d.0 x (h.0 x (e.1 x i)), λ w. h.1 (λ x j. e.1 x (w x (d.0 x j))))

module _ {K V : Type 0} (F : FieldOn K) (Z : ValuationOn F) (A : AlgebraOn F.ring V) (n : ℕ)
    (B : Basis (module_of A) n) (non : Nondegenerate A n B) where
  infixl 70 ◌⊗◌
  open A use {◌⊗◌}

  abbrev M : ModuleOn F.ring V
  M = module_of A

  abbrev RA : ModuleOn (integers F Z) V
  RA = restrict F Z M

  abbrev In : K → Type 0
  In = IsIntegral F Z

  abbrev f : V → V → K
  f = trace_form A n B

  abbrev bilinear : IsBilinear M f
  bilinear = trace_form_bilinear F.cring A n B

  pub swap : (x y : V) → f x y ≡ f y x
  swap x y = trace_comm F.cring A n B x y

  abbrev Star : (V → Type 0) → V → Type 0
  Star = Dual F Z A n B

  abbrev Lat : (ℕ → V) → V → Type 0
  Lat v = Lattice F Z A n v

  pub Star_sub : (S : V → Type 0) → IsSubmodule RA (Star S)
  Star_sub S = record {
    zero-in = λ y s. subst In (sym (form-zero_right F.cring M f bilinear y)) Z.zero_in;
    add-in = λ a b h g y s. subst In (sym (bilinear.add-right y a b)) (Z.add_in (f y a) (f y b) (h y s) (g y s));
    scale-in = λ c a h y s. subst In (sym (bilinear.scale-right c.0 y a)) (Z.mul_in c.0 (f y a) c.1 (h y s));
  }

  module _ (v : ℕ → V) (ind : Independent M n v) where
    abbrev L : V → Type 0
    L = Lattice F Z A n v

    abbrev E : Basis M n
    E = basis_of M n v ind (spanning F A n B v ind)

    D : DualBasis M f n E
    D = dual_basis F M f bilinear n E non

    pub dual_vec : ℕ → V
    dual_vec = D.basis.vec

    pub dual_vec-independent : Independent M n dual_vec
    unfolding dual_vec
    dual_vec-independent = D.basis.independent

    pub dual_vec-in : (j : ℕ) → j < n → Star L (dual_vec j)
    unfolding dual_vec
    dual_vec-in j l y h =
        subst In (sym (coord-dual F M f bilinear n E D y j l))
        (integral_weights F Z M n v ind y h (E.coord y) (E.expand y) j l)

    -- integral values at the dual basis
    pub in_lattice_of : (x : V) → ((i : ℕ) → i < n → In (f x (dual_vec i))) → L x
    unfolding dual_vec
    in_lattice_of x h = record {
      weights = λ i. f x (D.basis.vec i);
      passes = h;
      combines = expand-dual F M f bilinear n E D x;
    }

    pub dual_lattice : Same (Star L) (Lattice F Z A n dual_vec)
    unfolding dual_vec
    dual_lattice = (
      λ x h. record {
        weights = λ i. f (v i) x;
        passes = λ i l. h (v i) (lattice-member F Z M n i v l);
        combines = dual-expand F M f bilinear n E D x;
      },
      λ x s. lattice_in F Z M (Star L) (Star_sub L) n D.basis.vec dual_vec-in x s,
    )

    pub double_dual : Same (Star (Star L)) L
    double_dual = (
      λ x h. in_lattice_of x (λ i l. subst In (swap (dual_vec i) x) (h (dual_vec i) (dual_vec-in i l))),
      λ x l y h. subst In (swap x y) (h x l),
    )

  pub dual_shrinks : (v w : ℕ → V) → Independent M n v → Independent M n w → ProperlyWithin (Lat v) (Lat w)
      → ProperlyWithin (Star (Lat w)) (Star (Lat v))
  dual_shrinks v w iv iw p = (
    λ x h y l. h y (p.0 y l),
    λ g. p.1 (λ x l. (double_dual v iv).0 x (λ y h. (double_dual w iw).1 x l y (g y h))),
  )

  -- a chain from the larger order to its dual, with the smaller order below and its dual above
  module _ (v w : ℕ → V) (iv : Independent M n v) (iw : Independent M n w) (p : ProperlyWithin (Lat v) (Lat w))
      (k : ℕ) (C : LatticeChain F Z A k (Lat w) (Star (Lat w))) where
    abbrev Spanned : Type 0
    Spanned = ℕ × (ℕ → V)

    abbrev lattice_of : Spanned → V → Type 0
    lattice_of s = Lattice F Z A s.0 s.1

    middle : ℕ → Spanned
    middle i = (C.size i, C.vec i)

    upper : ℕ → Spanned
    upper = push (suc k) (n, dual_vec v iv) middle

    item : ℕ → Spanned
    item zero = (n, v)
    item (suc i) = upper i

    upper-below : (i : ℕ) → i < suc k → upper i ≡ (C.size i, C.vec i)
    unfolding upper middle
    upper-below i l = push-below (suc k) (n, dual_vec v iv) middle i l

    upper-top : upper (suc k) ≡ (n, dual_vec v iv)
    unfolding upper
    upper-top = push-at (suc k) (n, dual_vec v iv) middle

    P : Spanned → Spanned → Type 0
    P s t = ProperlyWithin (lattice_of s) (lattice_of t)

    rises : (i : ℕ) → i < suc (suc k) → P (item i) (item (suc i))
    unfolding item P
    rises zero l = subst (P (n, v)) (sym (upper-below 0 (omega arith)))
        (proper_same (Lat v) (Lat v) (Lat w) (Lattice F Z A (C.size 0) (C.vec 0)) ((λ x h. h), λ x h. h)
        (C.starts.1, C.starts.0) p)
    rises (suc j) l = ⊎_elim
        (λ (g : j < k). subst (λ s. P s (upper (suc j))) (sym (upper-below j (omega arith)))
        (subst (P (C.size j, C.vec j)) (sym (upper-below (suc j) (omega arith))) (C.rises j g)))
        (λ (g : k ≤ j).
        let e : k ≡ j = omega arith in
        subst (λ i. P (upper i) (upper (suc i))) e
        (subst (λ s. P s (upper (suc k))) (sym (upper-below k (omega arith)))
        (subst (P (C.size k, C.vec k)) (sym upper-top)
        (proper_same (Star (Lat w)) (Lattice F Z A (C.size k) (C.vec k)) (Star (Lat v))
        (Lattice F Z A n (dual_vec v iv)) (C.ends.1, C.ends.0) (dual_lattice v iv) (dual_shrinks v w iv iw p)))))
        (cases_lt j k)

    pub longer : LatticeChain F Z A (suc (suc k)) (Lat v) (Star (Lat v))
    unfolding item P
    longer = record {
      size = λ i. (item i).0;
      vec = λ i. (item i).1;
      starts = ((λ x h. h), λ x h. h);
      ends = (let Q : Spanned → Type 0 = λ s. Same (lattice_of s) (Star (Lat v)) in
          let d = dual_lattice v iv in subst Q (sym upper-top) (d.1, d.0));
      rises = rises;
    }

  pub growth_by_two : (v w : ℕ → V) → IsOrderAt F Z A n v → IsOrderAt F Z A n w → ProperlyWithin (Lat v) (Lat w)
      → (k : ℕ)
      → LatticeChain F Z A k (Lat w) (Star (Lat w)) → LatticeChain F Z A (suc (suc k)) (Lat v) (Star (Lat v))
  growth_by_two v w O G p k C = longer v w O.independent G.independent p k C

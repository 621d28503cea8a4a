-- Values with residues at a place: sums, products, and the trace form of an algebra by the residues of its constants.
use Rattle.std.specs.Prelude.{◌≡◌, ◌<◌, ◌+◌, ◌*◌, ℕ, zero, suc, Bool, true, false, cond, nat_eq, List}
use Rattle.std.proofs.Common.{refl, sym, ◌∙◌, ap, ap₂, subst, arith}
use Rattle.theory_rings.specs.Ring.{FieldOn}
use Rattle.theory_rings.specs.Ops.{Ops, IsElem, FieldLaws}
use Rattle.theory_rings.specs.Elements.{Elem, Elem-path, elements}
use Rattle.theory_rings.specs.Sum.{sum_of, table, at}
use Rattle.theory_rings.proofs.Rings.Solver.{◌⊞◌, minus, ring2}
use Rattle.theory_spaces.specs.Valuation.{ValuationOn, IsIntegral}
use Rattle.theory_spaces.specs.Tuples.{basis, constant, product}
use Rattle.theory_spaces.proofs.Tuples.Tuples.{at-table}
use Rattle.theory_spaces.proofs.Matrices.PairIndex.{pair-lt}
use Rattle.theory_tables.specs.Matrix.{entry, IsMatrix}
use Rattle.theory_tables.specs.Structure.{Structure}
use Rattle.theory_tables.specs.Traces.{trace, trace_matrix}
use Rattle.theory_tables.proofs.Rows.Sums.{entry_table}
use Rattle.theory_residue.specs.Residue.{ResidueOn}
use Rattle.theory_residue.proofs.ResidueAlgebra.{res-zero}
use Rattle.theory_constants.specs.Residues.{IsResidueMatrix}

module _ {E R : Type 0} (o : Ops E) (L : FieldLaws o) (r : Ops R) (N : FieldLaws r)
    (Z : ValuationOn (elements o L)) (q : Elem o) (D : ResidueOn (elements o L) Z q (elements r N)) where
  abbrev F : FieldOn (Elem o)
  F = elements o L

  abbrev k : FieldOn (Elem r)
  k = elements r N

  -- x is an integral element with the residue y
  pub record HasResidue (x : E) (y : R) : Type 0 where
    pub elem : IsElem o x
    pub integral : IsIntegral F Z (x, elem)
    pub residue : (D.res (x, elem)).0 ≡ y

  residue_elem : (x : E) (y : R) → HasResidue x y → IsElem r y
  residue_elem x y h = subst (IsElem r) h.residue (D.res (x, h.elem)).1

  -- whatever the proof that it is an element
  pub residue_at : (x : E) (y : R) → HasResidue x y → (a : Elem o) → a.0 ≡ x → IsIntegral F Z a × ((D.res a).0 ≡ y)
  residue_at x y h a e =
      let p : a ≡ (x, h.elem) = Elem-path o a (x, h.elem) e in
      (subst (IsIntegral F Z) (sym p) h.integral, ap (λ (b : Elem o). (D.res b).0) p ∙ h.residue)

  pub has-zero : HasResidue o.zero r.zero
  has-zero = record {
    elem = L.zero-elem;
    integral = Z.zero_in;
    residue = ap (λ (a : Elem r). a.0) (res-zero F Z q k D);
  }

  pub has-one : HasResidue o.one r.one
  has-one = record { elem = L.one-elem; integral = Z.one_in; residue = ap (λ (a : Elem r). a.0) D.map-one }

  pub has-add : (x x' : E) (y y' : R) → HasResidue x y → HasResidue x' y' → HasResidue (o.add x x') (r.add y y')
  has-add x x' y y' h g = record {
    elem = L.add-elem x x' h.elem g.elem;
    integral = Z.add_in (x, h.elem) (x', g.elem) h.integral g.integral;
    residue = ap (λ (a : Elem r). a.0) (D.map-add (x, h.elem) (x', g.elem) h.integral g.integral)
        ∙ ap₂ r.add h.residue g.residue;
  }

  pub has-mul : (x x' : E) (y y' : R) → HasResidue x y → HasResidue x' y' → HasResidue (o.mul x x') (r.mul y y')
  has-mul x x' y y' h g = record {
    elem = L.mul-elem x x' h.elem g.elem;
    integral = Z.mul_in (x, h.elem) (x', g.elem) h.integral g.integral;
    residue = ap (λ (a : Elem r). a.0) (D.map-mul (x, h.elem) (x', g.elem) h.integral g.integral)
        ∙ ap₂ r.mul h.residue g.residue;
  }

  res-neg : (a : Elem o) → IsIntegral F Z a → D.res (F.neg a) ≡ k.neg (D.res a)
  res-neg a i =
      let s : k.◌⊕◌ (D.res (F.neg a)) (D.res a) ≡ k.zero =
      sym (D.map-add (F.neg a) a (Z.neg_in a i) i) ∙ ap D.res (F.neg-add a) ∙ res-zero F Z q k D in
      ring2 k.cring (λ x y. (x, (x ⊞ y) ⊞ minus y)) refl (D.res (F.neg a)) (D.res a)
      ∙ ap (λ t. k.◌⊕◌ t (k.neg (D.res a))) s ∙ k.zero-add (k.neg (D.res a))

  pub has-neg : (x : E) (y : R) → HasResidue x y → HasResidue (o.neg x) (r.neg y)
  has-neg x y h = record {
    elem = L.neg-elem x h.elem;
    integral = Z.neg_in (x, h.elem) h.integral;
    residue = ap (λ (a : Elem r). a.0) (res-neg (x, h.elem) h.integral) ∙ ap r.neg h.residue;
  }

  pub has-sum : (n : ℕ) (f : ℕ → E) (g : ℕ → R) → ((i : ℕ) → i < n → HasResidue (f i) (g i))
      → HasResidue (sum_of o n f) (sum_of r n g)
  has-sum zero f g h = has-zero
  has-sum (suc n) f g h =
      has-add (sum_of o n f) (f n) (sum_of r n g) (g n) (has-sum n f g (λ i l. h i (omega arith)))
      (h n (omega arith))

  has-unit : (b : Bool) → HasResidue (cond b o.one o.zero) (cond b r.one r.zero)
  has-unit true = has-one
  has-unit false = has-zero

  -- along equations
  pub carried : (x x' : E) (y y' : R) → x' ≡ x → y' ≡ y → HasResidue x y → HasResidue x' y'
  carried x x' y y' e f h = subst (λ a. HasResidue a y') (sym e) (subst (HasResidue x) (sym f) h)

  module _ (n : ℕ) where
    -- the first n items have the residues of another list
    abbrev pub AllHave : List E → List R → Type 0
    AllHave a b = (i : ℕ) → i < n → HasResidue (at o a i) (at r b i)

    pub has-table : (f : ℕ → E) (g : ℕ → R) → ((i : ℕ) → i < n → HasResidue (f i) (g i))
        → AllHave (table n f) (table n g)
    has-table f g h i l = carried (f i) (at o (table n f) i) (g i) (at r (table n g) i)
        (at-table o n f i l) (at-table r n g i l) (h i l)

    pub has-basis : (j : ℕ) → AllHave (basis o n j) (basis r n j)
    has-basis j = has-table (λ k. cond (nat_eq k j) o.one o.zero) (λ k. cond (nat_eq k j) r.one r.zero)
        (λ k _. has-unit (nat_eq k j))

    module _ (cs : List E) (ds : List R)
        (constants : (p : ℕ) → p < n * n * n → HasResidue (at o cs p) (at r ds p)) where
      pub has-constant : (i j k : ℕ) → i < n → j < n → k < n
          → HasResidue (constant o n cs i j k) (constant r n ds i j k)
      has-constant i j k hi hj hk = constants ((i * n + j) * n + k)
          (pair-lt (n * n) n (i * n + j) k (pair-lt n n i j hi hj) hk)

      pub has-product : (a b : List E) (c d : List R) → AllHave a c → AllHave b d
          → AllHave (product o n cs a b) (product r n ds c d)
      has-product a b c d ha hb =
          let f : ℕ → ℕ → ℕ → E = λ k i j. o.mul (o.mul (at o a i) (at o b j)) (constant o n cs i j k) in
          let g : ℕ → ℕ → ℕ → R = λ k i j. r.mul (r.mul (at r c i) (at r d j)) (constant r n ds i j k) in
          has-table (λ k. sum_of o n (λ i. sum_of o n (f k i))) (λ k. sum_of r n (λ i. sum_of r n (g k i)))
          (λ k hk. has-sum n (λ i. sum_of o n (f k i)) (λ i. sum_of r n (g k i))
          (λ i hi. has-sum n (f k i) (g k i)
          (λ j hj. has-mul (o.mul (at o a i) (at o b j)) (constant o n cs i j k) (r.mul (at r c i) (at r d j))
          (constant r n ds i j k)
          (has-mul (at o a i) (at o b j) (at r c i) (at r d j) (ha i hi) (hb j hj))
          (has-constant i j k hi hj hk))))

      abbrev A : Structure E
      A = record { dim = n; constants = cs }

      abbrev B : Structure R
      B = record { dim = n; constants = ds }

      pub has-trace : (a : List E) (c : List R) → AllHave a c → HasResidue (trace o A a) (trace r B c)
      has-trace a c h =
          has-sum n (λ j. at o (product o n cs a (basis o n j)) j) (λ j. at r (product r n ds c (basis r n j)) j)
          (λ j hj. has-product a (basis o n j) c (basis r n j) h (has-basis j) j hj)

      abbrev form_item : ℕ → ℕ → E
      form_item i j = trace o A (product o n cs (basis o n i) (basis o n j))

      abbrev residue_item : ℕ → ℕ → R
      residue_item i j = trace r B (product r n ds (basis r n i) (basis r n j))

      pub has-form : (i j : ℕ) → i < n → j < n
          → HasResidue (entry o (trace_matrix o A) i j) (entry r (trace_matrix r B) i j)
      has-form i j hi hj =
          carried (form_item i j) (entry o (trace_matrix o A) i j) (residue_item i j) (entry r (trace_matrix r B) i j)
          (entry_table o L n n form_item i j hi hj) (entry_table r N n n residue_item i j hi hj)
          (has-trace (product o n cs (basis o n i) (basis o n j)) (product r n ds (basis r n i) (basis r n j))
          (has-product (basis o n i) (basis o n j) (basis r n i) (basis r n j) (has-basis i) (has-basis j)))

  -- entries with residues
  pub residue_matrix : (h w : ℕ) (a : List (List E)) (b : List (List R)) → IsMatrix o w a
      → ((i j : ℕ) → i < h → j < w → HasResidue (entry o a i j) (entry r b i j))
      → IsResidueMatrix o L r N Z q D h w a b
  residue_matrix h w a b shape has = record {
    shape = shape;
    integral = λ i j hi hj x e. (residue_at (entry o a i j) (entry r b i j) (has i j hi hj) x e).0;
    residue = λ i j hi hj x e. (residue_at (entry o a i j) (entry r b i j) (has i j hi hj) x e).1;
  }

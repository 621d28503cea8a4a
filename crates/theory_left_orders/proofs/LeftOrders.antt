-- The left order of a lattice that is closed under products and holds p, by the kernel of the residues of its products.
use Rattle.std.specs.Prelude.{◌≡◌, ℕ, ◌+◌, ◌<◌}
use Rattle.std.proofs.Common.{sym, ◌∙◌, ap, ap₂, subst}
use Rattle.theory_rings.specs.Ring.{FieldOn}
use Rattle.theory_rings.specs.Sum.{sum}
use Rattle.theory_rings.proofs.Rings.RingLaws.{add-zero}
use Rattle.theory_rings.proofs.Sums.Sums.{sum_congr}
use Rattle.theory_spaces.specs.Module.{ModuleOn, AlgebraOn, module_of}
use Rattle.theory_spaces.specs.Linear.{comb, Basis, IsLinear}
use Rattle.theory_spaces.specs.Lattice.{LatticeOver}
use Rattle.theory_spaces.specs.Sets.{ring_ops, LeftOrder}
use Rattle.theory_spaces.proofs.Linear.Families.{join, each_join}
use Rattle.theory_spaces.proofs.Linear.Modules.{comb-add, comb-scale, comb-comb, comb_congr, map-comb}
use Rattle.theory_spaces.proofs.Linear.Modules.{left_linear, right_linear}
use Rattle.theory_spaces.proofs.Linear.Spaces.{coords_of, coord-comb}
use Rattle.theory_spaces.proofs.Linear.LatticeSpans.{sum_in, span-add, span-comb}
use Rattle.theory_spaces.proofs.Linear.LatticeSpans.{span-member}
use Rattle.theory_left_orders.specs.ResidueRings.{ResidueRingOn}
use Rattle.theory_left_orders.specs.LeftOrders.{BasisLattice, IsClosedOver, InProductKernel, SpansProductKernel}
use Rattle.theory_left_orders.specs.LeftOrders.{LeftOrderByKernel}
use Rattle.theory_left_orders.proofs.ResidueRings.{q-p, res-sum, difference, q-p_scale}
use Rattle.theory_left_orders.proofs.ResidueRings.{span-join_left, span-join_right, coord_member, member_by_coord}

module _ {K V E : Type 0} (F : FieldOn K) (P : K → Type 0) (p q : K) (k : FieldOn E) (D : ResidueRingOn F P p q k)
    (A : AlgebraOn F.ring V) (n : ℕ) (B : Basis (module_of A) n) (closed : IsClosedOver F P p q k D A n B) where
  infixl 65 ◌⊕◌
  infixl 70 ◌⊗◌
  infixl 70 ◌•◌
  open A use {◌⊕◌, ◌⊗◌, ◌•◌}
  open D use {res, subring}

  abbrev MA : ModuleOn F.ring V
  MA = module_of A

  abbrev L : V → Type 0
  L = BasisLattice F P p q k D A n B

  abbrev m : ℕ → V
  m = B.vec

  vec_in : (i : ℕ) → i < n → L (m i)
  vec_in i l = span-member F P subring MA n m i l

  -- coordinate l of the product of basis elements i and j
  abbrev g : ℕ → ℕ → ℕ → K
  g i j l = B.coord (m i ⊗ m j) l

  g_in : (i j l : ℕ) → i < n → j < n → l < n → P (g i j l)
  g_in i j l a b c = coord_member F P p q k D MA n B (m i ⊗ m j) (closed.products (m i) (m j) (vec_in i a) (vec_in j b))
      l c

  -- the coordinates of the product of a combination and a basis element
  coord-product : (c : ℕ → K) (j l : ℕ) → B.coord (comb MA n c m ⊗ m j) l ≡ sum F.monoid n (λ i. F.◌⊗◌ (c i) (g i j l))
  coord-product c j l =
      ap (λ z. B.coord z l) (map-comb MA MA (λ z. z ⊗ m j) (right_linear A (m j)) n c m)
      ∙ coord-comb MA n (coords_of MA n B) n c (λ i. m i ⊗ m j) l

  res-product : (c : ℕ → K) → ((i : ℕ) → i < n → P (c i)) → (j l : ℕ) → j < n → l < n
      → res (B.coord (comb MA n c m ⊗ m j) l) ≡ sum k.monoid n (λ i. k.◌⊗◌ (res (g i j l)) (res (c i)))
  res-product c h j l b d =
      ap res (coord-product c j l)
      ∙ res-sum F P p q k D n (λ i. F.◌⊗◌ (c i) (g i j l))
      (λ i a. subring.mul_in (c i) (g i j l) (h i a) (g_in i j l a b d))
      ∙ sum_congr k.monoid n (λ i. res (F.◌⊗◌ (c i) (g i j l))) (λ i. k.◌⊗◌ (res (g i j l)) (res (c i)))
      (λ i a. D.map-mul (c i) (g i j l) (h i a) (g_in i j l a b d) ∙ k.mul_comm (res (c i)) (res (g i j l)))

  product_coord_in : (c : ℕ → K) → ((i : ℕ) → i < n → P (c i)) → (j l : ℕ) → j < n → l < n
      → P (B.coord (comb MA n c m ⊗ m j) l)
  product_coord_in c h j l b d = subst P (sym (coord-product c j l)) (sum_in F P subring n (λ i. F.◌⊗◌ (c i) (g i j l))
      (λ i a. subring.mul_in (c i) (g i j l) (h i a) (g_in i j l a b d)))

  -- what sends the basis into the lattice sends all of it there
  left_by_basis : (a : V) → ((j : ℕ) → j < n → L (a ⊗ m j)) → LeftOrder (ring_ops A.ring) L a
  left_by_basis a h x s = subst L
      (sym (ap (λ z. a ⊗ z) s.combines ∙ map-comb MA MA (λ z. a ⊗ z) (left_linear A a) n s.weights m))
      (span-comb F P subring MA n m n s.weights (λ j. a ⊗ m j) s.passes h)

  -- q times a combination, where its residues are in the kernel
  in_left : (c : ℕ → K) → ((i : ℕ) → i < n → P (c i)) → InProductKernel F P p q k D A n B (λ i. res (c i))
      → LeftOrder (ring_ops A.ring) L (q • comb MA n c m)
  in_left c h z = left_by_basis (q • comb MA n c m) (λ j b. subst L (sym (A.scale-left q (comb MA n c m) (m j)))
      (member_by_coord F P p q k D MA n B (q • (comb MA n c m ⊗ m j)) (λ l d.
      subst P (sym (B.coord-scale q (comb MA n c m ⊗ m j) l))
      ((D.kernel (B.coord (comb MA n c m ⊗ m j) l) (product_coord_in c h j l b d)).0
      (res-product c h j l b d ∙ z j l b d)))))

  -- p times a member of the left order is in the lattice
  pub multiple_in : (a : V) → LeftOrder (ring_ops A.ring) L a → L (p • a)
  multiple_in a h = subst L (A.scale-right p a A.one ∙ ap (λ z. p • z) (A.mul-one a)) (h (p • A.one) closed.holds)

  -- and its residues are in the kernel
  residues_in : (a : V) → LeftOrder (ring_ops A.ring) L a
      → InProductKernel F P p q k D A n B (λ i. res (B.coord (p • a) i))
  residues_in a h j l b d =
      let c = B.coord (p • a) in
      let c_in = coord_member F P p q k D MA n B (p • a) (multiple_in a h) in
      let e : B.coord (comb MA n c m ⊗ m j) l ≡ F.◌⊗◌ p (B.coord (a ⊗ m j) l) =
      ap (λ z. B.coord (z ⊗ m j) l) (sym (B.expand (p • a))) ∙ ap (λ z. B.coord z l) (A.scale-left p a (m j))
      ∙ B.coord-scale p (a ⊗ m j) l in
      sym (res-product c c_in j l b d)
      ∙ (D.kernel (B.coord (comb MA n c m ⊗ m j) l) (product_coord_in c c_in j l b d)).1
      (subst P (sym (ap (F.◌⊗◌ q) e ∙ q-p F P p q k D (B.coord (a ⊗ m j) l)))
      (coord_member F P p q k D MA n B (a ⊗ m j) (h (m j) (vec_in j b)) l d))

  module _ (s : ℕ) (rows : ℕ → ℕ → E) (spanned : SpansProductKernel F P p q k D A n B s rows) (lifts : ℕ → ℕ → K)
      (lifts_in : (r i : ℕ) → r < s → i < n → P (lifts r i))
      (lifts_res : (r i : ℕ) → r < s → i < n → res (lifts r i) ≡ rows r i) where
    abbrev grown : ℕ → V
    grown r = q • comb MA n (lifts r) m

    abbrev O : V → Type 0
    O = LatticeOver MA P (s + n) (join s grown m)

    grown_in : (r : ℕ) → r < s → LeftOrder (ring_ops A.ring) L (grown r)
    grown_in r a = in_left (lifts r) (λ i l. lifts_in r i a l) (λ j l b d.
        sum_congr k.monoid n (λ i. k.◌⊗◌ (res (g i j l)) (res (lifts r i))) (λ i. k.◌⊗◌ (res (g i j l)) (rows r i))
        (λ i c. ap (k.◌⊗◌ (res (g i j l))) (lifts_res r i a c))
        ∙ spanned.inside r a j l b d)

    each_in : (t : ℕ) → t < s + n → LeftOrder (ring_ops A.ring) L (join s grown m t)
    each_in = each_join s n grown m (LeftOrder (ring_ops A.ring) L) grown_in
        (λ j b x h. closed.products (m j) x (vec_in j b) h)

    -- each combination is in the left order
    down : (a : V) → O a → LeftOrder (ring_ops A.ring) L a
    down a h x l = subst L
        (sym (ap (λ z. z ⊗ x) h.combines
        ∙ map-comb MA MA (λ z. z ⊗ x) (right_linear A x) (s + n) h.weights (join s grown m)))
        (span-comb F P subring MA n m (s + n) h.weights (λ t. join s grown m t ⊗ x) h.passes
        (λ t b. each_in t b x l))

    module _ (a : V) (h : LeftOrder (ring_ops A.ring) L a) where
      abbrev c : ℕ → K
      c = B.coord (p • a)

      c_in : (i : ℕ) → i < n → P (c i)
      c_in = coord_member F P p q k D MA n B (p • a) (multiple_in a h)

      -- the lifts of the weights of the residues
      abbrev d : ℕ → K
      d r = D.lift ((spanned.spans (λ i. res (c i)) (residues_in a h)).0 r)

      abbrev w : ℕ → K
      w i = sum F.monoid s (λ r. F.◌⊗◌ (d r) (lifts r i))

      w_in : (i : ℕ) → i < n → P (w i)
      w_in i l = sum_in F P subring s (λ r. F.◌⊗◌ (d r) (lifts r i))
          (λ r b. subring.mul_in (d r) (lifts r i) (D.lift_in ((spanned.spans (λ i. res (c i)) (residues_in a h)).0 r))
          (lifts_in r i b l))

      same_residue : (i : ℕ) → i < n → res (c i) ≡ res (w i)
      same_residue i l =
          let u = spanned.spans (λ i. res (c i)) (residues_in a h) in
          u.1 i l
          ∙ sym (res-sum F P p q k D s (λ r. F.◌⊗◌ (d r) (lifts r i))
          (λ r b. subring.mul_in (d r) (lifts r i) (D.lift_in (u.0 r)) (lifts_in r i b l))
          ∙ sum_congr k.monoid s (λ r. res (F.◌⊗◌ (d r) (lifts r i))) (λ r. k.◌⊗◌ (u.0 r) (rows r i))
          (λ r b. D.map-mul (d r) (lifts r i) (D.lift_in (u.0 r)) (lifts_in r i b l)
          ∙ ap₂ k.◌⊗◌ (D.res-lift (u.0 r)) (lifts_res r i b l)))

      abbrev z : ℕ → K
      z i = F.◌⊗◌ q (F.◌⊕◌ (c i) (F.neg (w i)))

      split : (i : ℕ) → F.◌⊗◌ q (c i) ≡ F.◌⊕◌ (z i) (F.◌⊗◌ q (w i))
      split i = ap (F.◌⊗◌ q) (sym (F.add_assoc (c i) (F.neg (w i)) (w i) ∙ ap (F.◌⊕◌ (c i)) (F.neg-add (w i))
          ∙ add-zero F.monoid (c i))) ∙ F.mul-add q (F.◌⊕◌ (c i) (F.neg (w i))) (w i)

      value : a ≡ comb MA n z m ⊕ comb MA s d grown
      value =
          sym (q-p_scale F P p q k D MA a) ∙ ap (λ x. q • x) (B.expand (p • a)) ∙ sym (comb-scale MA n q c m)
          ∙ comb_congr MA n (λ i. F.◌⊗◌ q (c i)) (λ i. F.◌⊕◌ (z i) (F.◌⊗◌ q (w i))) m (λ i _. split i)
          ∙ comb-add MA n z (λ i. F.◌⊗◌ q (w i)) m
          ∙ ap (λ x. comb MA n z m ⊕ x) (comb-scale MA n q w m
          ∙ ap (λ x. q • x) (sym (comb-comb MA s n d lifts m))
          ∙ map-comb MA MA (λ x. q • x) scale_q s d (λ r. comb MA n (lifts r) m))
        where
          scale_q : IsLinear MA MA (λ x. q • x)
          scale_q = record {
            map-add = MA.scale-add q;
            map-scale = λ b x. sym (MA.mul-scale q b x) ∙ ap (λ t. t • x) (F.mul_comm q b) ∙ MA.mul-scale b q x;
          }

      up : O a
      up = subst O (sym value) (span-add F P subring MA (s + n) (join s grown m) (comb MA n z m) (comb MA s d grown)
          (span-comb F P subring MA (s + n) (join s grown m) n z m
          (λ i l. difference F P p q k D (c i) (w i) (c_in i l) (w_in i l) (same_residue i l))
          (span-join_right F P p q k D MA s n grown m))
          (span-comb F P subring MA (s + n) (join s grown m) s d grown
          (λ r b. D.lift_in ((spanned.spans (λ i. res (c i)) (residues_in a h)).0 r))
          (span-join_left F P p q k D MA s n grown m)))

module _ {K V E : Type 0} (F : FieldOn K) (P : K → Type 0) (p q : K) (k : FieldOn E) (D : ResidueRingOn F P p q k)
    (A : AlgebraOn F.ring V) (n : ℕ) (B : Basis (module_of A) n) where
  pub left_order_by_kernel : LeftOrderByKernel F P p q k D A n B
  left_order_by_kernel closed s rows spanned lifts lifts_in lifts_res = (
    up F P p q k D A n B closed s rows spanned lifts lifts_in lifts_res,
    down F P p q k D A n B closed s rows spanned lifts lifts_in lifts_res,
  )

-- Residues of sums, and of members of a lattice by their coordinates.
use Rattle.std.specs.Prelude.{◌≡◌, ℕ, zero, suc, ◌+◌, ◌<◌}
use Rattle.std.proofs.Common.{sym, ◌∙◌, ap, subst, arith}
use Rattle.theory_rings.specs.Ring.{FieldOn}
use Rattle.theory_rings.specs.Sum.{sum}
use Rattle.theory_rings.proofs.Rings.RingLaws.{mul-zero}
use Rattle.theory_spaces.specs.Module.{ModuleOn}
use Rattle.theory_spaces.specs.Linear.{Basis}
use Rattle.theory_spaces.specs.Lattice.{LatticeOver}
use Rattle.theory_spaces.proofs.Linear.Families.{join, join-below, join-above}
use Rattle.theory_spaces.proofs.Linear.Spaces.{Basis-coord}
use Rattle.theory_spaces.proofs.Linear.LatticeSpans.{sum_in, span-member}
use Rattle.theory_left_orders.specs.ResidueRings.{ResidueRingOn}

module _ {K E : Type 0} (F : FieldOn K) (P : K → Type 0) (p q : K) (k : FieldOn E) (D : ResidueRingOn F P p q k) where
  infixl 65 ◌⊕◌
  infixl 70 ◌⊗◌
  open F use {◌⊕◌, ◌⊗◌, neg}
  open D use {res, subring}

  pub q-p : (a : K) → q ⊗ (p ⊗ a) ≡ a
  q-p a = sym (F.mul_assoc q p a) ∙ ap (λ b. b ⊗ a) (F.mul_comm q p ∙ D.pq) ∙ F.one-mul a

  pub p-q : (a : K) → p ⊗ (q ⊗ a) ≡ a
  p-q a = sym (F.mul_assoc p q a) ∙ ap (λ b. b ⊗ a) D.pq ∙ F.one-mul a

  pub res-zero : res F.zero ≡ k.zero
  res-zero = (D.kernel F.zero subring.zero_in).1 (subst P (sym (mul-zero F.ring q)) subring.zero_in)

  pub res-sum : (n : ℕ) (f : ℕ → K) → ((i : ℕ) → i < n → P (f i))
      → res (sum F.monoid n f) ≡ sum k.monoid n (λ i. res (f i))
  res-sum zero f h = res-zero
  res-sum (suc n) f h =
      D.map-add (sum F.monoid n f) (f n) (sum_in F P subring n f (λ i l. h i (omega arith))) (h n (omega arith))
      ∙ ap (λ a. k.◌⊕◌ a (res (f n))) (res-sum n f (λ i l. h i (omega arith)))

  res-neg : (a : K) → P a → k.◌⊕◌ (res (neg a)) (res a) ≡ k.zero
  res-neg a h = sym (D.map-add (neg a) a (subring.neg_in a h) h) ∙ ap res (F.neg-add a) ∙ res-zero

  -- members with the same residue differ by p times a member
  pub difference : (a b : K) → P a → P b → res a ≡ res b → P (q ⊗ (a ⊕ neg b))
  difference a b ha hb e = (D.kernel (a ⊕ neg b) (subring.add_in a (neg b) ha (subring.neg_in b hb))).0
      (D.map-add a (neg b) ha (subring.neg_in b hb) ∙ ap (λ x. k.◌⊕◌ x (res (neg b))) e
      ∙ k.add_comm (res b) (res (neg b)) ∙ res-neg b hb)

  -- what p times a member of the subring becomes
  pub res-multiple : (a : K) → P a → res (p ⊗ a) ≡ k.zero
  res-multiple a h = (D.kernel (p ⊗ a) (subring.mul_in p a D.p_in h)).1 (subst P (sym (q-p a)) h)

  module _ {V : Type 0} (M : ModuleOn F.ring V) where
    infixl 70 ◌•◌
    open M use {◌•◌}

    pub q-p_scale : (x : V) → q • (p • x) ≡ x
    q-p_scale x = sym (M.mul-scale q p x) ∙ ap (λ a. a • x) (F.mul_comm q p ∙ D.pq) ∙ M.one-scale x

    pub p-q_scale : (x : V) → p • (q • x) ≡ x
    p-q_scale x = sym (M.mul-scale p q x) ∙ ap (λ a. a • x) D.pq ∙ M.one-scale x

    -- the two families of a join
    pub span-join_left : (n m : ℕ) (v w : ℕ → V) (i : ℕ) → i < n → LatticeOver M P (n + m) (join n v w) (v i)
    span-join_left n m v w i l = let T : V → Type 0 = LatticeOver M P (n + m) (join n v w) in
        subst T (join-below n v w i l) (span-member F P subring M (n + m) (join n v w) i (omega arith))

    pub span-join_right : (n m : ℕ) (v w : ℕ → V) (j : ℕ) → j < m → LatticeOver M P (n + m) (join n v w) (w j)
    span-join_right n m v w j l = let T : V → Type 0 = LatticeOver M P (n + m) (join n v w) in
        subst T (join-above n v w j) (span-member F P subring M (n + m) (join n v w) (n + j) (omega arith))

    -- a member of the lattice of a basis, by its coordinates
    module _ (n : ℕ) (B : Basis M n) where
      pub coord_member : (x : V) → LatticeOver M P n B.vec x → (i : ℕ) → i < n → P (B.coord x i)
      coord_member x s i l = subst P (sym (ap (λ y. B.coord y i) s.combines ∙ Basis-coord M n B s.weights i l))
          (s.passes i l)

      pub member_by_coord : (x : V) → ((i : ℕ) → i < n → P (B.coord x i)) → LatticeOver M P n B.vec x
      member_by_coord x h = record { weights = B.coord x; passes = h; combines = B.expand x }

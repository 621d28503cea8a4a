-- Rank and nullity: a basis of a subspace is turned, vector by vector, into vectors that a linear map sends to 0 and
-- vectors that it sends to independent ones.
use Rattle.std.specs.Prelude.{◌≡◌, ℕ, zero, suc, ◌+◌, ◌<◌, cond, ltb, true, false, Bool}
use Rattle.std.proofs.Common.{refl, sym, ◌∙◌, ap, ap₂, subst, arith, ⊎_elim}
use Rattle.theory_rings.specs.Ring.{FieldOn}
use Rattle.theory_rings.proofs.Rings.RingLaws.{add-zero, add-neg}
use Rattle.theory_rings.proofs.Sums.Sums.{sum_eq_zero}
use Rattle.theory_spaces.specs.Module.{ModuleOn}
use Rattle.theory_spaces.specs.Linear.{comb, InSpan, Independent, Coords, IsSubmodule, BasisOf, IsLinear}
use Rattle.theory_spaces.specs.Subspaces.{RankNullity}
use Rattle.theory_spaces.proofs.Linear.Families.{push, push-below, push-at, join, join-below, each_join, below_suc}
use Rattle.theory_spaces.proofs.Linear.Modules.{scale-zero, comb_zero, comb_congr_right, comb-join, InSpan-add}
use Rattle.theory_spaces.proofs.Linear.Modules.{InSpan-neg, InSpan-comb, InSpan-member, InSpan-join_left}
use Rattle.theory_spaces.proofs.Linear.Modules.{InSpan-join_right, InSpan-join, InSpan_trans, span_in, independent_none}
use Rattle.theory_spaces.proofs.Linear.Modules.{Independent-front, Independent_congr, map-neg, map-comb}
use Rattle.theory_spaces.proofs.Linear.Dimension.{independent_of_span}
use Rattle.theory_spaces.proofs.Linear.Spaces.{extend_or_span}

module _ {K V W : Type 0} (F : FieldOn K) (M : ModuleOn F.ring V) (N : ModuleOn F.ring W) (m : ℕ) (C : Coords N m)
    (f : V → W) (lf : IsLinear M N f) where
  infixl 65 ◌⊕◌
  open M use {◌⊕◌, neg}

  -- the vectors of v turned into k that f sends to 0 and r that it sends to independent ones
  record Parted (n : ℕ) (v : ℕ → V) : Type 0 where
    pub k : ℕ
    pub r : ℕ
    pub z : ℕ → V
    pub x : ℕ → V
    pub total : k + r ≡ n
    pub z_in : (i : ℕ) → i < k → InSpan M n v (z i)
    pub x_in : (j : ℕ) → j < r → InSpan M n v (x j)
    pub kills : (i : ℕ) → i < k → f (z i) ≡ N.zero
    pub images : Independent N r (λ j. f (x j))
    pub spans : (i : ℕ) → i < n → InSpan M (k + r) (join k z x) (v i)

  -- in the span of one vector more
  more : (n : ℕ) (v : ℕ → V) (y : V) → InSpan M n v y → InSpan M (suc n) v y
  more n v y s = InSpan_trans M n (suc n) v v y (λ i l. InSpan-member M (suc n) i v (omega arith)) s

  -- the image of v n is a combination of those of the x: taken away, it leaves a vector that f sends to 0
  parted_kernel : (n : ℕ) (v : ℕ → V) (p : Parted n v) → InSpan N p.r (λ j. f (p.x j)) (f (v n)) → Parted (suc n) v
  parted_kernel n v p s =
      let u = comb M p.r s.weights p.x in
      let y = v n ⊕ neg u in
      let z = push p.k y p.z in
      let total = p.total in
      let old_z : (i : ℕ) → i < p.k → InSpan M (suc p.k + p.r) (join (suc p.k) z p.x) (p.z i) = λ i l.
      let P : V → Type 0 = InSpan M (suc p.k + p.r) (join (suc p.k) z p.x) in
      subst P (push-below p.k y p.z i l) (InSpan-join_left M (suc p.k) p.r z p.x i (omega arith)) in
      let new_z : InSpan M (suc p.k + p.r) (join (suc p.k) z p.x) y =
      let P : V → Type 0 = InSpan M (suc p.k + p.r) (join (suc p.k) z p.x) in
      subst P (push-at p.k y p.z) (InSpan-join_left M (suc p.k) p.r z p.x p.k (omega arith)) in
      let old_x : (j : ℕ) → j < p.r
      → InSpan M (suc p.k + p.r) (join (suc p.k) z p.x) (p.x j) = InSpan-join_right M (suc p.k) p.r z p.x in
      record {
        k = suc p.k;
        r = p.r;
        z = z;
        x = p.x;
        total = omega arith;
        z_in = below_suc p.k (λ i. InSpan M (suc n) v (z i))
            (λ i l. let P : V → Type 0 = InSpan M (suc n) v in
            subst P (sym (push-below p.k y p.z i l)) (more n v (p.z i) (p.z_in i l)))
            (let P : V → Type 0 = InSpan M (suc n) v in subst P (sym (push-at p.k y p.z))
            (InSpan-add M (suc n) v (v n) (neg u) (InSpan-member M (suc n) n v (omega arith))
            (InSpan-neg M (suc n) v u
            (InSpan-comb M p.r (suc n) s.weights p.x v (λ j l. more n v (p.x j) (p.x_in j l))))));
        x_in = λ j l. more n v (p.x j) (p.x_in j l);
        kills = below_suc p.k (λ i. f (z i) ≡ N.zero)
            (λ i l. ap f (push-below p.k y p.z i l) ∙ p.kills i l)
            (ap f (push-at p.k y p.z) ∙ lf.map-add (v n) (neg u)
            ∙ ap₂ N.◌⊕◌ (s.combines ∙ sym (map-comb M N f lf p.r s.weights p.x)) (map-neg M N f lf u)
            ∙ add-neg N.additive (f u));
        images = p.images;
        spans = below_suc n (λ i. InSpan M (suc p.k + p.r) (join (suc p.k) z p.x) (v i))
            (λ i l. InSpan-join M p.k p.r p.z p.x (suc p.k + p.r) (join (suc p.k) z p.x) old_z old_x (v i)
            (p.spans i l))
            (let P : V → Type 0 = InSpan M (suc p.k + p.r) (join (suc p.k) z p.x) in
            subst P (M.add_assoc (v n) (neg u) u ∙ ap (λ t. v n ⊕ t) (M.neg-add u) ∙ add-zero M.monoid (v n))
            (InSpan-add M (suc p.k + p.r) (join (suc p.k) z p.x) y u new_z
            (InSpan-comb M p.r (suc p.k + p.r) s.weights p.x (join (suc p.k) z p.x) old_x)));
      }

  push_map : (n : ℕ) (y : V) (v : ℕ → V) (i : ℕ) → push n (f y) (λ j. f (v j)) i ≡ f (push n y v i)
  push_map n y v i = go (ltb i n)
    where
      go : (b : Bool) → cond b (f (v i)) (f y) ≡ f (cond b (v i) y)
      go true = refl
      go false = refl

  -- the image of v n makes those of the x one more
  parted_image : (n : ℕ) (v : ℕ → V) (p : Parted n v) → Independent N (suc p.r) (push p.r (f (v n)) (λ j. f (p.x j)))
      → Parted (suc n) v
  parted_image n v p ind =
      let x = push p.r (v n) p.x in
      let total = p.total in
      let old_z : (i : ℕ) → i < p.k
      → InSpan M (p.k + suc p.r) (join p.k p.z x) (p.z i) = InSpan-join_left M p.k (suc p.r) p.z x in
      let old_x : (j : ℕ) → j < p.r → InSpan M (p.k + suc p.r) (join p.k p.z x) (p.x j) = λ j l.
      let P : V → Type 0 = InSpan M (p.k + suc p.r) (join p.k p.z x) in
      subst P (push-below p.r (v n) p.x j l) (InSpan-join_right M p.k (suc p.r) p.z x j (omega arith)) in
      record {
        k = p.k;
        r = suc p.r;
        z = p.z;
        x = x;
        total = omega arith;
        z_in = λ i l. more n v (p.z i) (p.z_in i l);
        x_in = below_suc p.r (λ j. InSpan M (suc n) v (x j))
            (λ j l. let P : V → Type 0 = InSpan M (suc n) v in
            subst P (sym (push-below p.r (v n) p.x j l)) (more n v (p.x j) (p.x_in j l)))
            (let P : V → Type 0 = InSpan M (suc n) v in
            subst P (sym (push-at p.r (v n) p.x)) (InSpan-member M (suc n) n v (omega arith)));
        kills = p.kills;
        images = Independent_congr N (suc p.r) (push p.r (f (v n)) (λ j. f (p.x j))) (λ j. f (x j))
            (λ j _. push_map p.r (v n) p.x j) ind;
        spans = below_suc n (λ i. InSpan M (p.k + suc p.r) (join p.k p.z x) (v i))
            (λ i l. InSpan-join M p.k p.r p.z p.x (p.k + suc p.r) (join p.k p.z x) old_z old_x (v i) (p.spans i l))
            (let P : V → Type 0 = InSpan M (p.k + suc p.r) (join p.k p.z x) in
            subst P (push-at p.r (v n) p.x) (InSpan-join_right M p.k (suc p.r) p.z x p.r (omega arith)));
      }

  part : (n : ℕ) (v : ℕ → V) → Parted n v
  part zero v = record {
    k = zero;
    r = zero;
    z = v;
    x = v;
    total = omega arith;
    z_in = λ i l. absurd (omega arith);
    x_in = λ j l. absurd (omega arith);
    kills = λ i l. absurd (omega arith);
    images = independent_none N (λ j. f (v j));
    spans = λ i l. absurd (omega arith);
  }
  part (suc n) v = let p = part n v in
      ⊎_elim (parted_kernel n v p) (parted_image n v p) (extend_or_span F N m C p.r (λ j. f (p.x j)) p.images (f (v n)))

  -- a linear map on a subspace with a basis has a kernel and an image with bases, and their dimensions sum to that of
  -- the subspace
  pub rank_nullity : (S : V → Type 0) → IsSubmodule M S → (n : ℕ) → BasisOf M n S → RankNullity M N f S n
  rank_nullity S closed n B =
      let p = part n B.vec in
      let k = p.k in
      let r = p.r in
      let w = join k p.z p.x in
      let z_in : (i : ℕ) → i < k → S (p.z i) = λ i l. span_in M S closed n B.vec B.inside (p.z i) (p.z_in i l) in
      let x_in : (j : ℕ) → j < r → S (p.x j) = λ j l. span_in M S closed n B.vec B.inside (p.x j) (p.x_in j l) in
      let ind : Independent M (k + r) w =
      let P : ℕ → Type 0 = λ t. Independent M t B.vec in
      independent_of_span F M (k + r) B.vec w (subst P (sym p.total) B.independent)
      (λ i l. let t = p.total in p.spans i (omega arith)) in
      let spans : (x : V) → S x
      → InSpan M (k + r) w x = λ x s. InSpan_trans M n (k + r) B.vec w x p.spans (B.spans x s) in
      let sent : (x : V) (c : ℕ → K) → x ≡ comb M (k + r) c w
      → f x ≡ comb N r (λ j. c (k + j)) (λ j. f (p.x j)) = λ x c e.
      ap f (e ∙ comb-join M k r c p.z p.x) ∙ lf.map-add (comb M k c p.z) (comb M r (λ j. c (k + j)) p.x)
      ∙ ap₂ N.◌⊕◌
      (map-comb M N f lf k c p.z ∙ comb_congr_right N k c (λ i. f (p.z i)) (λ _. N.zero) p.kills
      ∙ sum_eq_zero N.monoid k (λ i. N.◌•◌ (c i) N.zero) (λ i _. scale-zero N (c i)))
      (map-comb M N f lf r (λ j. c (k + j)) p.x)
      ∙ N.zero-add (comb N r (λ j. c (k + j)) (λ j. f (p.x j))) in
      record {
        nullity = k;
        rank = r;
        total = p.total;
        kernel = record {
          vec = p.z;
          independent = Independent_congr M k w p.z (join-below k p.z p.x)
              (Independent-front M k (k + r) w (omega arith) ind);
          inside = λ i l. (z_in i l, p.kills i l);
          spans = λ x h.
              let s = spans x h.0 in
              let c = s.weights in
              let none : (j : ℕ) → j < r
              → c (k + j) ≡ F.zero = p.images.only_zero (λ j. c (k + j)) (sym (sent x c s.combines) ∙ h.1) in
              record {
                weights = c;
                combines = s.combines ∙ comb-join M k r c p.z p.x
                    ∙ ap (λ y. comb M k c p.z ⊕ y) (comb_zero M r (λ j. c (k + j)) p.x none)
                    ∙ add-zero M.monoid (comb M k c p.z);
              };
        };
        image = record {
          vec = λ j. f (p.x j);
          independent = p.images;
          inside = λ j l. (p.x j, x_in j l, refl);
          spans = λ y h. let s = spans h.0 h.1 in
              record { weights = λ j. s.weights (k + j); combines = sym h.2 ∙ sent h.0 s.weights s.combines };
        };
        basis = record {
          vec = w;
          independent = ind;
          inside = each_join k r p.z p.x S z_in x_in;
          spans = spans;
        };
        starts = join-below k p.z p.x;
      }

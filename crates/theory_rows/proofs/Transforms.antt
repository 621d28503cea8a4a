-- Families of vectors of a module of which each is got from the other by an invertible transform: the same span, and
-- both are independent or none.
use Rattle.std.specs.Prelude.{◌≡◌, ℕ, suc, ◌<◌}
use Rattle.std.proofs.Common.{refl, sym, ◌∙◌, ap, ap₂, subst, arith}
use Rattle.theory_rings.specs.Ring.{RingOn}
use Rattle.theory_rings.proofs.Rings.RingLaws.{add-zero, add-neg}
use Rattle.theory_rings.proofs.Sums.Sums.{sum_congr}
use Rattle.theory_rings.proofs.Sums.Reindex.{sum_reindex}
use Rattle.theory_spaces.specs.Module.{ModuleOn}
use Rattle.theory_spaces.specs.Linear.{comb, InSpan, Independent}
use Rattle.theory_spaces.proofs.Linear.Families.{push, push-below, push-at, below_suc}
use Rattle.theory_spaces.proofs.Linear.Modules.{zero-scale, comb_congr, InSpan-add, InSpan-scale, InSpan-neg}
use Rattle.theory_spaces.proofs.Linear.Modules.{InSpan-member, InSpan_trans, Independent-front}

module _ {K V : Type 0} {R : RingOn K} (M : ModuleOn R V) where
  infixl 65 ◌⊕◌
  infixl 70 ◌•◌
  open M use {monoid, additive, ◌⊕◌, ◌•◌, neg}

  pub record Transformed (n m : ℕ) (v w : ℕ → V) : Type 0 where
    pub forth : (i : ℕ) → i < n → InSpan M m w (v i)
    pub back : (i : ℕ) → i < m → InSpan M n v (w i)
    pub free : Independent M n v → Independent M m w

  pub Transformed-refl : (n : ℕ) (v : ℕ → V) → Transformed n n v v
  Transformed-refl n v = record {
    forth = λ i l. InSpan-member M n i v l;
    back = λ i l. InSpan-member M n i v l;
    free = λ h. h;
  }

  pub Transformed-trans : (n m k : ℕ) (u v w : ℕ → V) → Transformed n m u v → Transformed m k v w → Transformed n k u w
  Transformed-trans n m k u v w a b = record {
    forth = λ i l. InSpan_trans M m k v w (u i) b.forth (a.forth i l);
    back = λ i l. InSpan_trans M m n v u (w i) a.back (b.back i l);
    free = λ h. b.free (a.free h);
  }

  more : (n : ℕ) (v : ℕ → V) (x : V) → InSpan M n v x → InSpan M (suc n) v x
  more n v x = InSpan_trans M n (suc n) v v x (λ i l. InSpan-member M (suc n) i v (omega arith))

  -- one more vector, to which on one side a vector of the span may be added
  module _ (n m : ℕ) (v w : ℕ → V) (s : V) (t : Transformed n m v w) (si : InSpan M n v s) (e : w m ≡ v n ⊕ s) where
    into : (x : V) → InSpan M n v x → InSpan M m w x
    into x = InSpan_trans M n m v w x t.forth

    outof : (x : V) → InSpan M m w x → InSpan M n v x
    outof x = InSpan_trans M m n w v x t.back

    back_last : v n ≡ w m ⊕ neg s
    back_last = sym (ap (λ x. x ⊕ neg s) e ∙ M.add_assoc (v n) s (neg s) ∙ ap (λ x. v n ⊕ x) (add-neg additive s)
        ∙ add-zero monoid (v n))

    free_last : Independent M (suc n) v → Independent M (suc m) w
    free_last h = record { only_zero = λ c z. let f = facts c z in below_suc m (λ i. c i ≡ R.zero) f.0 f.1 }
      where
        facts : (c : ℕ → K) → comb M (suc m) c w ≡ M.zero → ((i : ℕ) → i < m → c i ≡ R.zero) × (c m ≡ R.zero)
        facts c z =
            let y : V = comb M m c w in
            let rest : InSpan M n v (y ⊕ c m • s) =
            InSpan-add M n v y (c m • s) (outof y (record { weights = c; combines = refl }))
            (InSpan-scale M n v (c m) s si) in
            let a = rest.weights in
            let whole : comb M (suc n) (push n (c m) a) v ≡ M.zero =
            ap₂ (λ x q. x ⊕ q • v n) (comb_congr M n (push n (c m) a) a v (push-below n (c m) a)) (push-at n (c m) a)
            ∙ ap (λ x. x ⊕ c m • v n) (sym rest.combines)
            ∙ M.add_assoc y (c m • s) (c m • v n)
            ∙ ap (λ x. y ⊕ x) (M.add_comm (c m • s) (c m • v n) ∙ sym (M.scale-add (c m) (v n) s)
            ∙ ap (λ x. c m • x) (sym e)) ∙ z in
            let last : c m ≡ R.zero = sym (push-at n (c m) a) ∙ h.only_zero (push n (c m) a) whole n (omega arith) in
            let none : y ≡ M.zero = sym (ap (λ x. y ⊕ x) (ap (λ q. q • w m) last ∙ zero-scale M (w m))
            ∙ add-zero monoid y) ∙ z in
            let front : Independent M m w = t.free (Independent-front M n (suc n) v (omega arith) h) in
            (front.only_zero c none, last)

    pub Transformed-last : Transformed (suc n) (suc m) v w
    Transformed-last = record {
      forth = below_suc n (λ i. InSpan M (suc m) w (v i)) (λ i l. more m w (v i) (t.forth i l))
          (subst (InSpan M (suc m) w) (sym back_last) (InSpan-add M (suc m) w (w m) (neg s)
          (InSpan-member M (suc m) m w (omega arith)) (InSpan-neg M (suc m) w s (more m w s (into s si)))));
      back = below_suc m (λ i. InSpan M (suc n) v (w i)) (λ i l. more n v (w i) (t.back i l))
          (subst (InSpan M (suc n) v) (sym e) (InSpan-add M (suc n) v (v n) s
          (InSpan-member M (suc n) n v (omega arith)) (more n v s si)));
      free = free_last;
    }

  -- the same vectors in another order
  pub Transformed-permute : (n : ℕ) (v w : ℕ → V) (s t : ℕ → ℕ) → ((i : ℕ) → i < n → s i < n)
      → ((i : ℕ) → i < n → t i < n) → ((i : ℕ) → i < n → s (t i) ≡ i) → ((i : ℕ) → i < n → t (s i) ≡ i)
      → ((i : ℕ) → i < n → w i ≡ v (s i)) → Transformed n n v w
  Transformed-permute n v w s t hs ht st ts e = record {
    forth = λ i l. subst (InSpan M n w) (e (t i) (ht i l) ∙ ap v (st i l)) (InSpan-member M n (t i) w (ht i l));
    back = λ i l. subst (InSpan M n v) (sym (e i l)) (InSpan-member M n (s i) v (hs i l));
    free = λ h. record {
      only_zero = λ c z i l.
          ap c (sym (ts i l)) ∙ h.only_zero (λ k. c (t k)) (sym (reordered c) ∙ z) (s i) (hs i l);
    };
  }
    where
      reordered : (c : ℕ → K) → comb M n c w ≡ comb M n (λ k. c (t k)) v
      reordered c =
          sum_congr monoid n (λ i. c i • w i) (λ i. c (t (s i)) • v (s i))
          (λ i l. ap₂ (λ q x. q • x) (ap c (sym (ts i l))) (e i l))
          ∙ sum_reindex monoid n s (λ k. c (t k) • v k) hs
          (λ i j a b q. sym (ts i a) ∙ ap t q ∙ ts j b)

  -- only the vectors that count matter
  pub Transformed_congr : (n m : ℕ) (v v' w w' : ℕ → V) → ((i : ℕ) → i < n → v i ≡ v' i)
      → ((i : ℕ) → i < m → w i ≡ w' i) → Transformed n m v w → Transformed n m v' w'
  Transformed_congr n m v v' w w' e f t =
      Transformed-trans n n m v' v w' (same n v' v (λ i l. sym (e i l)))
      (Transformed-trans n m m v w w' t (same m w w' f))
    where
      same : (n : ℕ) (v w : ℕ → V) → ((i : ℕ) → i < n → v i ≡ w i) → Transformed n n v w
      same n v w e = Transformed-permute n v w (λ i. i) (λ i. i) (λ i l. l) (λ i l. l) (λ i l. refl) (λ i l. refl)
          (λ i l. sym (e i l))

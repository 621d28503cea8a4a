-- The members of a family that are not 0, in their order: they have the same sum.
use Rattle.std.specs.Prelude.{◌≡◌, ℕ, zero, suc, ◌<◌, ◌≤◌, ◌⊎◌}
use Rattle.std.proofs.Common.{refl, sym, ◌∙◌, ap, ap₂, subst, arith, ⊎_elim}
use Rattle.std.proofs.lemmas.Bool.{cases_lt}
use Rattle.theory_rings.specs.Ring.{AddCommMonoidOn}
use Rattle.theory_rings.specs.Sum.{sum}
use Rattle.theory_rings.proofs.Rings.RingLaws.{add-zero}
use Rattle.theory_rings.proofs.Sums.Sums.{sum_congr}
use Rattle.theory_spaces.proofs.Linear.Families.{push, push-below, push-above, push-at, below_suc}
use Rattle.theory_blocks.proofs.Families.Decisions.{lt_or_gt}

module _ {V : Type 0} (M : AddCommMonoidOn V) where
  infixl 65 ◌⊕◌
  open M use {◌⊕◌}

  pub record Kept (n : ℕ) (v : ℕ → V) : Type 0 where
    pub size : ℕ
    pub index : ℕ → ℕ
    pub within : (j : ℕ) → j < size → index j < n
    pub increasing : (i j : ℕ) → i < j → j < size → index i < index j
    pub nonzero : (j : ℕ) → j < size → v (index j) ≡ M.zero → ⊥
    pub total : sum M size (λ j. v (index j)) ≡ sum M n v

  kept_drop : (n : ℕ) (v : ℕ → V) → Kept n v → v n ≡ M.zero → Kept (suc n) v
  kept_drop n v p e = record {
    size = p.size;
    index = p.index;
    within = λ j l. let w = p.within j l in omega arith;
    increasing = p.increasing;
    nonzero = p.nonzero;
    total = p.total ∙ sym (ap (λ y. sum M n v ⊕ y) e ∙ add-zero M (sum M n v));
  }

  kept_more : (n : ℕ) (v : ℕ → V) → Kept n v → (v n ≡ M.zero → ⊥) → Kept (suc n) v
  kept_more n v p d =
      let below = push-below p.size n p.index in
      let last = push-at p.size n p.index in
      let P : ℕ → Type 0 = λ k. v k ≡ M.zero → ⊥ in
      record {
        size = suc p.size;
        index = push p.size n p.index;
        within = below_suc p.size (λ j. push p.size n p.index j < suc n)
            (λ j l. let e = below j l in let w = p.within j l in omega arith) (omega arith);
        increasing = λ i j g l. let e = below i (omega arith) in ⊎_elim
            (λ (b : j < p.size). let e' = below j b in let w = p.increasing i j g b in omega arith)
            (λ (b : p.size ≤ j). let e' = push-above p.size n p.index j b in let w = p.within i (omega arith) in
            omega arith)
            (cases_lt j p.size);
        nonzero = below_suc p.size (λ j. P (push p.size n p.index j))
            (λ j l. subst P (sym (below j l)) (p.nonzero j l)) (subst P (sym last) d);
        total = ap₂ (λ x y. x ⊕ y)
            (sum_congr M p.size (λ j. v (push p.size n p.index j)) (λ j. v (p.index j)) (λ j l. ap v (below j l))
            ∙ p.total) (ap v last);
      }

  pub kept : ((x : V) → (x ≡ M.zero) ⊎ (x ≡ M.zero → ⊥)) → (n : ℕ) (v : ℕ → V) → Kept n v
  kept dec zero v = record {
    size = zero;
    index = λ j. j;
    within = λ j l. absurd (omega arith);
    increasing = λ i j g l. absurd (omega arith);
    nonzero = λ j l. absurd (omega arith);
    total = refl;
  }
  kept dec (suc n) v = let p = kept dec n v in ⊎_elim (kept_drop n v p) (kept_more n v p) (dec (v n))

  pub kept_apart : (n : ℕ) (v : ℕ → V) (p : Kept n v) (i j : ℕ) → i < p.size → j < p.size → (i ≡ j → ⊥)
      → p.index i ≡ p.index j → ⊥
  kept_apart n v p i j li lj d e = ⊎_elim
      (λ (b : i < j). let w = p.increasing i j b lj in absurd (omega arith))
      (λ (b : j < i). let w = p.increasing j i b li in absurd (omega arith))
      (lt_or_gt i j d)

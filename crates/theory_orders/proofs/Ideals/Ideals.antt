-- Two-sided ideals of an order: what an element generates, meets and sums, and sets with the same members.
use Rattle.std.specs.Prelude.{◌≡◌, ◌⊎◌}
use Rattle.std.proofs.Common.{sym, ◌∙◌, ap, ap₂, subst, inl, inr, ⊎_elim}
use Rattle.theory_rings.specs.Ring.{RingOn}
use Rattle.theory_rings.proofs.Rings.RingLaws.{add_add_add_comm}
use Rattle.theory_spaces.specs.Module.{AlgebraOn}
use Rattle.theory_spaces.specs.Sets.{ring_ops}
use Rattle.theory_spaces.proofs.Algebras.SetLemmas as lemmas
use Rattle.theory_orders.specs.Orders.{IsOrder, IsIdeal, Around, Generated, SimpleQuotient, SimpleByElements, Within}
use Rattle.theory_orders.specs.Orders.{Same}
use Rattle.theory_orders.proofs.Lattices.SumsOf.{SumOf_in, SumOf_map}

abbrev pub Both : {V : Type 0} → (V → Type 0) → (V → Type 0) → V → Type 0
Both I J x = I x × J x

module _ {K V : Type 0} {R : RingOn K} (A : AlgebraOn R V) where
  infixl 65 ◌⊕◌
  infixl 70 ◌⊗◌
  open A use {◌⊕◌, ◌⊗◌}

  -- sums of a member of I and one of J
  abbrev pub IdealSum : (V → Type 0) → (V → Type 0) → V → Type 0
  IdealSum I J x = (a : V) × (b : V) × I a × J b × (x ≡ a ⊕ b)

  module _ (L : V → Type 0) where
    pub Both_ideal : (I J : V → Type 0) → IsIdeal A L I → IsIdeal A L J → IsIdeal A L (Both I J)
    Both_ideal I J hI hJ = record {
      inside = λ x h. hI.inside x h.0;
      zero_in = (hI.zero_in, hJ.zero_in);
      add_in = λ x y h g. (hI.add_in x y h.0 g.0, hJ.add_in x y h.1 g.1);
      left = λ l x hl h. (hI.left l x hl h.0, hJ.left l x hl h.1);
      right = λ l x hl h. (hI.right l x hl h.0, hJ.right l x hl h.1);
    }

    pub ideal_same : (I J : V → Type 0) → Same I J → IsIdeal A L I → IsIdeal A L J
    ideal_same = lemmas.ideal_same (ring_ops A.ring) L

  module _ (L : V → Type 0) (O : IsOrder A L) where
    pub IdealSum_ideal : (I J : V → Type 0) → IsIdeal A L I → IsIdeal A L J → IsIdeal A L (IdealSum I J)
    IdealSum_ideal I J hI hJ = record {
      inside = λ x h. subst L (sym h.4) (O.add_in h.0 h.1 (hI.inside h.0 h.2) (hJ.inside h.1 h.3));
      zero_in = (A.zero, A.zero, hI.zero_in, hJ.zero_in, sym (A.zero-add A.zero));
      add_in = λ x y h g. (
        h.0 ⊕ g.0,
        h.1 ⊕ g.1,
        hI.add_in h.0 g.0 h.2 g.2,
        hJ.add_in h.1 g.1 h.3 g.3,
        ap₂ A.◌⊕◌ h.4 g.4 ∙ add_add_add_comm A.monoid h.0 h.1 g.0 g.1,
      );
      left = λ l x hl h. (
        l ⊗ h.0,
        l ⊗ h.1,
        hI.left l h.0 hl h.2,
        hJ.left l h.1 hl h.3,
        ap (λ z. l ⊗ z) h.4
            ∙ A.mul-add l h.0 h.1,
      );
      right = λ l x hl h. (
        h.0 ⊗ l,
        h.1 ⊗ l,
        hI.right l h.0 hl h.2,
        hJ.right l h.1 hl h.3,
        ap (λ z. z ⊗ l) h.4
            ∙ A.add-mul h.0 h.1 l,
      );
    }

  module _ (L J : V → Type 0) (O : IsOrder A L) where
    -- an ideal that holds one is everything
    pub whole : (T : V → Type 0) → IsIdeal A L T → T A.one → Within L T
    whole T I h x l = subst T (A.mul-one x) (I.left x A.one l h)

    -- an ideal that holds a and J holds what they generate
    pub generated_in : (T : V → Type 0) → IsIdeal A L T → Within J T → (a : V) → T a → Within (Generated A L J a) T
    generated_in T I j a h = SumOf_in A (λ x. Around A L a x ⊎ J x) T I.zero_in I.add_in (λ x. ⊎_elim
        (λ (w : Around A L a x). subst T (sym w.4) (I.right w.1 (w.0 ⊗ a) w.3 (I.left w.0 a w.2 h))) (j x))

  module _ (L I J : V → Type 0) (e : Same I J) where
    pub simple_same : SimpleQuotient A L I → SimpleQuotient A L J
    simple_same = lemmas.simple_same (ring_ops A.ring) L I J e

    pub elements_same : SimpleByElements A L I → SimpleByElements A L J
    elements_same S = record {
      proper = λ h. S.proper (e.1 A.one h);
      generates = λ a l. ⊎_elim (λ i. inl (e.0 a i))
          (λ r. inr (SumOf_map A (λ x. Around A L a x ⊎ I x) (λ x. Around A L a x ⊎ J x)
          (λ x. ⊎_elim inl (λ i. inr (e.0 x i))) A.one r)) (S.generates a l);
    }

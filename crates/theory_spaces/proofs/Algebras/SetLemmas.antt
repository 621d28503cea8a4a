-- Ideals, simple quotients and maximal ideals by sets with the same members: the operations need no law.
use Rattle.std.proofs.Common.{inl, inr, ⊎_elim}
use Rattle.theory_spaces.specs.Sets.{RingOps, Within, Same, Test, IsIdeal, SimpleQuotient, IsMaximalIdeal}

module _ {V : Type 0} (S : RingOps V) (L I J : V → Type 0) (e : Same I J) where
  pub ideal_same : IsIdeal S L I → IsIdeal S L J
  ideal_same h = record {
    inside = λ x j. h.inside x (e.1 x j);
    zero_in = e.0 S.zero h.zero_in;
    add_in = λ x y j k. e.0 (S.add x y) (h.add_in x y (e.1 x j) (e.1 y k));
    left = λ a x la j. e.0 (S.mul a x) (h.left a x la (e.1 x j));
    right = λ a x la j. e.0 (S.mul x a) (h.right a x la (e.1 x j));
  }

  pub simple_same : SimpleQuotient S L I → SimpleQuotient S L J
  simple_same h = record {
    proper = λ w. h.proper (λ x l. e.1 x (w x l));
    nothing_between = λ t T over. ⊎_elim (λ (w : Within (Test t) I). inl (λ x tx. e.0 x (w x tx))) inr
        (h.nothing_between t T (λ x i. over x (e.0 x i)));
  }

  pub maximal_same : IsMaximalIdeal S L I → IsMaximalIdeal S L J
  maximal_same h = record { ideal = ideal_same h.ideal; simple = simple_same h.simple }

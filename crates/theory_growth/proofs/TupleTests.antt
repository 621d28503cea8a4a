-- Sets of tuples as sets of lists, and tests of tuples as tests of lists.
use Rattle.std.specs.Prelude.{◌≡◌, ◌⊎◌, ℕ, Bool, false, IsTrue, List}
use Rattle.std.proofs.Common.{refl, sym, ap, subst, inl, inr, ⊎_elim}
use Rattle.std.proofs.lemmas.Bool.{both_ways}
use Rattle.theory_rings.specs.Ops.{Ops, FieldLaws}
use Rattle.theory_spaces.specs.Sets.{Same, Test}
use Rattle.theory_spaces.specs.Tuples.{IsTuple, Tuple, is_tuple}
use Rattle.theory_spaces.proofs.Linear.SpanTests.{decided}
use Rattle.theory_spaces.proofs.Tuples.Tuples.{Tuple-path}
use Rattle.theory_tables.proofs.Algebras.Bridge.{as_tuple, IsTuple-of}

module _ {E : Type 0} (o : Ops E) (L : FieldLaws o) (m : ℕ) where
  abbrev V : Type 0
  V = Tuple o m

  abbrev tuple : (a : List E) → IsTuple o m a → V
  tuple = as_tuple o L m

  of_tuple : (x : V) → IsTuple o m x.0
  of_tuple x = IsTuple-of o L m x

  -- the lists that are tuples of the set
  abbrev pub On : (V → Type 0) → List E → Type 0
  On J a = (h : IsTuple o m a) × J (tuple a h)

  again : (x : V) (h : IsTuple o m x.0) → tuple x.0 h ≡ x
  again x h = Tuple-path o L m (tuple x.0 h) x refl

  pub to_on : (J : V → Type 0) (x : V) (a : List E) → x.0 ≡ a → J x → On J a
  to_on J x a e j = subst (On J) e (of_tuple x, subst J (sym (again x (of_tuple x))) j)

  pub from_on : (J : V → Type 0) (x : V) → On J x.0 → J x
  from_on J x h = subst J (again x h.0) h.1

  -- a test of tuples as one of lists
  abbrev lifted : (V → Bool) → (a : List E) → (IsTrue (is_tuple o m a) ⊎ (IsTrue (is_tuple o m a) → ⊥)) → Bool
  lifted t a d = ⊎_elim (λ (h : IsTrue (is_tuple o m a)). t (a, h)) (λ (n : IsTrue (is_tuple o m a) → ⊥). false) d

  abbrev pub test : (V → Bool) → List E → Bool
  test t a = lifted t a (decided (is_tuple o m a))

  lifted-at : (t : V → Bool) (x : V) (d : IsTrue (is_tuple o m x.0) ⊎ (IsTrue (is_tuple o m x.0) → ⊥))
      → lifted t x.0 d ≡ t x
  lifted-at t x (inl h) = ap t (Tuple-path o L m (x.0, h) x refl)
  lifted-at t x (inr n) = absurd (n x.1)

  lifted-tuple : (t : V → Bool) (a : List E) (d : IsTrue (is_tuple o m a) ⊎ (IsTrue (is_tuple o m a) → ⊥))
      → IsTrue (lifted t a d) → IsTrue (is_tuple o m a)
  lifted-tuple t a (inl h) p = h
  lifted-tuple t a (inr n) p = absurd (both_ways false refl p)

  pub test_same : (t : V → Bool) → Same (On (Test t)) (Test (test t))
  test_same t = (
    λ a p. let x = tuple a p.0 in subst IsTrue (sym (lifted-at t x (decided (is_tuple o m a)))) p.1,
    λ a p. let x : V = (a, lifted-tuple t a (decided (is_tuple o m a)) p) in
        to_on (Test t) x a refl (subst IsTrue (lifted-at t x (decided (is_tuple o m a))) p),
  )

-- The ring (Z/q)[t]/(f)[x]/(g) on the lists of its numbers: number u·c + v of a list is the coefficient at x^u·t^v,
-- where f is of degree c and g of degree e.
use Rattle.std.specs.Prelude.{◌≡◌, ℕ, ◌+◌, ◌*◌, ◌/◌, ◌%◌, ◌<◌, ◌≤◌, Bool, true, [], get_or}
use Rattle.std.proofs.Common.{refl, sym, ◌∙◌, ap, ap₂, arith, ⊎_elim}
use Rattle.std.proofs.Math.Bool.{Bool-set}
use Rattle.std.proofs.Math.Nat.{mod-eq_of_lt}
use Rattle.std.proofs.Math.Nat.{div-add-mod'}
use Rattle.std.proofs.lemmas.Bool.{cases_lt, ltb-true}
use Rattle.std.proofs.lemmas.Nat.{div-mul-add, mod-mul-add}
use mathlib.Core.HLevel.{Σ_prop_path}
use Rattle.theory_rings.specs.Ring.{CommRingOn, ZeroTest}
use Rattle.theory_rings.specs.Ops.{Ops}
use Rattle.theory_rings.specs.Sum.{table}
use Rattle.theory_rings.specs.Homomorphism.{IsRingHom}
use Rattle.theory_rings.specs.IntegersMod.{Fin, integers_mod, residue, residue_is_zero, mod_ops}
use Rattle.theory_rings.specs.Polynomial.{coefficient, degree}
use Rattle.theory_rings.specs.Remainder.{Remainder}
use Rattle.theory_rings.proofs.Rings.Embedding.{RingEmbedding, embedded_comm_ring}
use Rattle.theory_rings.proofs.Rings.ZeroTests.{group_set}
use Rattle.theory_rings.proofs.Numbers.IntegersMod.{residue-value, residue_zero_test}
use Rattle.theory_rings.proofs.Polynomials.Remainders.{is_zero_remainder}
use Rattle.theory_spaces.specs.Tuples.{Tuple, IsTuple, is_tuple}
use Rattle.theory_spaces.proofs.Matrices.PairIndex.{pair-lt, row-lt, column-lt}
use Rattle.theory_spaces.proofs.Tuples.Tuples.{at-table, IsTuple-is_tuple, is_tuple-IsTuple, IsTuple-table, IsTuple-ext}
use Rattle.theory_radical.specs.LiftLaws.{IsBijective}
use Rattle.theory_radical.specs.Tower.{TowerElement, TowerMod, double_coefficient}
use Rattle.theory_rings.proofs.Polynomials.RemainderRings.{Remainder-ext, remainder-past, small_remainder}
use Rattle.theory_rings.proofs.Polynomials.RemainderRings.{small_remainder-coefficient, remainders_zero_test}

module _ (q : ℕ) (two_le : 2 ≤ q) (T : TowerMod q two_le) (e c : ℕ) (height : degree T.second_modulus.0 ≡ e)
    (width : degree T.first_modulus.0 ≡ c) where
  abbrev R : CommRingOn (Fin q)
  R = integers_mod q two_le

  abbrev Z : ZeroTest R.zero (residue_is_zero q two_le)
  Z = residue_zero_test q two_le

  abbrev Z1 : ZeroTest T.first.zero (is_zero_remainder R Z T.first_modulus T.first_monic)
  Z1 = remainders_zero_test R Z T.first_modulus T.first_monic T.first_polynomials T.first_polynomials_is T.first
      T.first_is

  abbrev Z2 : ZeroTest T.second.zero (is_zero_remainder T.first Z1 T.second_modulus T.second_monic)
  Z2 = remainders_zero_test T.first Z1 T.second_modulus T.second_monic T.second_polynomials T.second_polynomials_is
      T.second T.second_is

  abbrev N : Ops ℕ
  N = mod_ops q []

  abbrev W : Type 0
  W = Tuple N (e * c)

  is_list : (w : W) → IsTuple N (e * c) w.0
  is_list w = is_tuple-IsTuple N (e * c) w.0 w.1

  -- the coefficient at x^u·t^v
  abbrev pub number : W → ℕ → ℕ → ℕ
  number w u v = get_or w.0 (u * c + v) 0

  entry_lt : (w : W) (k : ℕ) → k < e * c → get_or w.0 k 0 < q
  entry_lt w k l = let h = is_list w in let s = h.right_length in
      ltb-true (get_or w.0 k 0) q (h.of_elements k 0 (omega arith))

  number_lt : (w : W) (u v : ℕ) → u < e → v < c → number w u v < q
  number_lt w u v l k = entry_lt w (u * c + v) (pair-lt e c u v l k)

  row : W → ℕ → Remainder R T.first_modulus
  row w u = small_remainder R Z T.first_modulus T.first_monic (λ v. residue q two_le (number w u v))

  -- the element with these numbers
  pub value : W → TowerElement T
  value w = small_remainder T.first Z1 T.second_modulus T.second_monic (row w)

  coefficient-residue : (w : W) (u v : ℕ) → u < e → v < c
      → double_coefficient T (value w).0 u v ≡ residue q two_le (number w u v)
  unfolding value row
  coefficient-residue w u v l k =
      ap (λ (a : Remainder R T.first_modulus). coefficient R a.0 v)
      (small_remainder-coefficient T.first Z1 T.second_modulus T.second_monic (row w) u (let h = height in omega arith))
      ∙ small_remainder-coefficient R Z T.first_modulus T.first_monic (λ v. residue q two_le (number w u v)) v
      (let h = width in omega arith)

  pub coefficient-value : (w : W) (u v : ℕ) → u < e → v < c → (double_coefficient T (value w).0 u v).0 ≡ number w u v
  coefficient-value w u v l k = ap (λ (a : Fin q). a.0) (coefficient-residue w u v l k)
      ∙ mod-eq_of_lt (number_lt w u v l k)

  abbrev numbers : TowerElement T → ℕ → ℕ
  numbers y k = (double_coefficient T y.0 (k / c) (k % c)).0

  pub list_of : TowerElement T → W
  list_of y = (
    table (e * c) (numbers y),
    IsTuple-is_tuple N (e * c) (table (e * c) (numbers y))
        (IsTuple-table N (e * c) (numbers y) (λ k _. (double_coefficient T y.0 (k / c) (k % c)).1)),
  )

  pub entry-list_of : (y : TowerElement T) (k : ℕ) → k < e * c → get_or (list_of y).0 k 0 ≡ numbers y k
  unfolding list_of
  entry-list_of y k l = at-table N (e * c) (numbers y) k l

  pub number-list_of : (y : TowerElement T) (u v : ℕ) → u < e → v < c
      → number (list_of y) u v ≡ (double_coefficient T y.0 u v).0
  number-list_of y u v l k = entry-list_of y (u * c + v) (pair-lt e c u v l k)
      ∙ ap₂ (λ i j. (double_coefficient T y.0 i j).0) (div-mul-add u c v k) (mod-mul-add u c v k)

  pub value-list_of : (y : TowerElement T) → value (list_of y) ≡ y
  value-list_of y = Remainder-ext T.first Z1 T.second_modulus T.second_monic (value (list_of y)) y (λ u. ⊎_elim
      (λ (l : u < e). Remainder-ext R Z T.first_modulus T.first_monic (coefficient T.first (value (list_of y)).0 u)
      (coefficient T.first y.0 u) (λ v. ⊎_elim
      (λ (k : v < c). coefficient-residue (list_of y) u v l k ∙ ap (residue q two_le) (number-list_of y u v l k)
      ∙ residue-value q two_le (double_coefficient T y.0 u v))
      (λ (k : c ≤ v). let h = width in remainder-past R T.first_modulus T.first_monic
      (coefficient T.first (value (list_of y)).0 u) v (omega arith)
      ∙ sym (remainder-past R T.first_modulus T.first_monic (coefficient T.first y.0 u) v (omega arith)))
      (cases_lt v c)))
      (λ (l : e ≤ u). let h = height in remainder-past T.first T.second_modulus T.second_monic (value (list_of y)) u
      (omega arith)
      ∙ sym (remainder-past T.first T.second_modulus T.second_monic y u (omega arith)))
      (cases_lt u e))

  list_of-value : (w : W) → list_of (value w) ≡ w
  list_of-value w = Σ_prop_path (λ x. Bool-set (is_tuple N (e * c) x) true) {u = list_of (value w)} {v = w}
      (IsTuple-ext N (e * c) (list_of (value w)).0 w.0 (is_list (list_of (value w))) (is_list w) (λ k l.
      entry-list_of (value w) k l ∙ coefficient-value w (k / c) (k % c) (row-lt e c k l) (column-lt e c k l)
      ∙ ap (λ i. get_or w.0 i 0) (div-add-mod' k c)))

  value-injective : (a b : W) → value a ≡ value b → a ≡ b
  value-injective a b h = sym (list_of-value a) ∙ ap list_of h ∙ list_of-value b

  pub value_bijective : IsBijective value
  value_bijective = record { injective = value-injective; surjective = λ y. (list_of y, value-list_of y) }

  embedding : RingEmbedding W T.second.ring
  embedding = record {
    zero = list_of T.second.zero;
    one = list_of T.second.one;
    add = λ a b. list_of (T.second.◌⊕◌ (value a) (value b));
    neg = λ a. list_of (T.second.neg (value a));
    mul = λ a b. list_of (T.second.◌⊗◌ (value a) (value b));
    map = value;
    injective = value-injective;
    map-zero = value-list_of T.second.zero;
    map-one = value-list_of T.second.one;
    map-add = λ a b. value-list_of (T.second.◌⊕◌ (value a) (value b));
    map-neg = λ a. value-list_of (T.second.neg (value a));
    map-mul = λ a b. value-list_of (T.second.◌⊗◌ (value a) (value b));
  }

  -- the ring of the lists
  pub ring_of_lists : CommRingOn W
  ring_of_lists = embedded_comm_ring T.second embedding

  -- its operations are those of T
  pub lists-zero : ring_of_lists.zero ≡ list_of T.second.zero
  unfolding ring_of_lists embedding
  lists-zero = refl

  pub lists-one : ring_of_lists.one ≡ list_of T.second.one
  unfolding ring_of_lists embedding
  lists-one = refl

  pub lists-add : (a b : W) → ring_of_lists.◌⊕◌ a b ≡ list_of (T.second.◌⊕◌ (value a) (value b))
  unfolding ring_of_lists embedding
  lists-add a b = refl

  pub lists-mul : (a b : W) → ring_of_lists.◌⊗◌ a b ≡ list_of (T.second.◌⊗◌ (value a) (value b))
  unfolding ring_of_lists embedding
  lists-mul a b = refl

  pub value_hom : IsRingHom ring_of_lists.ring T.second.ring value
  unfolding ring_of_lists embedding
  value_hom = record {
    map-one = value-list_of T.second.one;
    map-add = λ a b. value-list_of (T.second.◌⊕◌ (value a) (value b));
    map-mul = λ a b. value-list_of (T.second.◌⊗◌ (value a) (value b));
  }

  value-zero : value ring_of_lists.zero ≡ T.second.zero
  unfolding ring_of_lists embedding
  value-zero = value-list_of T.second.zero

  abbrev is_zero_list : W → Bool
  is_zero_list w = is_zero_remainder T.first Z1 T.second_modulus T.second_monic (value w)

  zero_list_test : ZeroTest ring_of_lists.zero is_zero_list
  zero_list_test = record {
    is_zero-sound = λ w h. value-injective w ring_of_lists.zero (Z2.is_zero-sound (value w) h ∙ sym value-zero);
    is_zero-zero = ap (is_zero_remainder T.first Z1 T.second_modulus T.second_monic) value-zero ∙ Z2.is_zero-zero;
  }

  pub lists_set : IsSet W
  lists_set = group_set ring_of_lists.additive zero_list_test

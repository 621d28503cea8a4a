-- Bases in reduced row echelon form: the weights of a combination are its items at the pivots, so that the rows are
-- independent; the pivots are the places where vectors of the span begin, so that the basis is unique.
use Rattle.std.specs.Prelude.{◌≡◌, ◌≢◌, ◌⊎◌, ℕ, zero, suc, ◌+◌, ◌<◌, ◌≤◌, List, [], length, get_or, cond, nat_eq}
use Rattle.std.proofs.Common.{refl, sym, ◌∙◌, ap, subst, arith, inl, inr, ⊎_elim, ext_get_or}
use Rattle.std.proofs.lemmas.Bool.{cases_eq, cases_lt}
use Rattle.theory_rings.specs.Ops.{Ops, IsElem, FieldLaws}
use Rattle.theory_rings.specs.Sum.{at}
use Rattle.theory_rings.proofs.Rings.Elements.{at-elem, sum_of_congr}
use Rattle.theory_spaces.specs.Tuples.{IsTuple}
use Rattle.theory_spaces.proofs.Tuples.Tuples.{IsTuple-ext}
use Rattle.theory_tables.specs.Matrix.{entry, IsMatrix}
use Rattle.theory_tables.specs.Echelon.{IsReducedEchelon}
use Rattle.theory_tables.specs.Subspace.{InSpan, SameSpan, IsReducedBasis, AreIndependent, SameSubspaceSameRows}
use Rattle.theory_tables.specs.Subspace.{ReducedBasisIsIndependent}
use Rattle.spl_matrix.specs.Spanning.{IsLeadingPlace}
use Rattle.theory_tables.proofs.Rows.Terms.{mul-zero, zero-mul, cond_yes, cond_no, cond_either}
use Rattle.theory_tables.proofs.Rows.Sums.{sum_of_zeros, sum_of-delta_mul, entry-elem}
use Rattle.theory_tables.proofs.Rows.Spans.{combined, combined_congr, rows_in, SameSpan_sym}

-- some of n numbers is j, or none is
pub find_place : (n : ℕ) (p : ℕ → ℕ) (j : ℕ) → ((s : ℕ) × (s < n) × (p s ≡ j)) ⊎ ((s : ℕ) → s < n → p s ≢ j)
find_place zero p j = inr (λ s l. absurd (omega arith))
find_place (suc n) p j = ⊎_elim
    (λ (h : (s : ℕ) × (s < n) × (p s ≡ j)). let l = h.1 in let k : h.0 < suc n = omega arith in inl (h.0, k, h.2))
    (λ (h : (s : ℕ) → s < n → p s ≢ j). ⊎_elim
    (λ (e : p n ≡ j). let k : n < suc n = omega arith in inl (n, k, e))
    (λ (d : p n ≢ j). inr
    (λ s l. ⊎_elim (λ (low : s < n). h s low)
    (λ (high : n ≤ s). let q : s ≡ n = omega arith in λ e. d (ap p (sym q) ∙ e)) (cases_lt s n)))
    (cases_eq (p n) j))
    (find_place n p j)

pub cond_flip : {X : Type 0} (i s : ℕ) (x y : X) → cond (nat_eq i s) x y ≡ cond (nat_eq s i) x y
cond_flip i s x y = ⊎_elim
    (λ (e : i ≡ s). cond_yes i s x y e ∙ sym (cond_yes s i x y (sym e)))
    (λ (d : i ≢ s). cond_no i s x y d ∙ sym (cond_no s i x y (λ e. d (sym e))))
    (cases_eq i s)

-- a list of numbers that go up
abbrev GoesUp : List ℕ → Type 0
GoesUp p = (s t : ℕ) → s < t → t < length p → get_or p s 0 < get_or p t 0

-- each of p is one of q
abbrev AreAmong : List ℕ → List ℕ → Type 0
AreAmong p q = (s : ℕ) → s < length p → (t : ℕ) × (t < length q) × (get_or q t 0 ≡ get_or p s 0)

module _ {E : Type 0} (o : Ops E) (L : FieldLaws o) where
  module _ (w : ℕ) (rows : List (List E)) (shape : IsMatrix o w rows) (pivots : List ℕ)
      (each : length pivots ≡ length rows) (form : IsReducedEchelon o (length rows) rows pivots w) where
    -- the weight of a row stands at its pivot
    pub combined-pivot : (c : ℕ → E) → ((i : ℕ) → IsElem o (c i)) → (s : ℕ) → s < length rows
        → combined o L rows c (get_or pivots s 0) ≡ c s
    combined-pivot c c_in s s_in =
        let s_piv : s < length pivots = omega arith in
        let q = get_or pivots s 0 in
        sum_of_congr o (length rows) (λ i. o.mul (c i) (entry o rows i q))
        (λ i. o.mul (cond (nat_eq i s) o.one o.zero) (c i))
        (λ i i_in. ap (o.mul (c i)) (form.unit s i s_piv i_in)
        ∙ L.mul_comm (c i) (cond (nat_eq i s) o.one o.zero) (c_in i)
        (cond_either (IsElem o) (nat_eq i s) o.one o.zero L.one-elem L.zero-elem))
        ∙ sum_of-delta_mul o L (length rows) s c c_in s_in

    pub weights-pivot : (v : List E) (h : InSpan o w rows v) (s : ℕ) → s < length rows
        → at o h.0 s ≡ at o v (get_or pivots s 0)
    weights-pivot v h s s_in =
        let s_piv : s < length pivots = omega arith in
        sym (h.2 (get_or pivots s 0) (form.below s s_piv)
        ∙ combined-pivot (at o h.0) (at-elem o L h.0 h.1.of_elements) s s_in)

    -- a vector of the span by its items at the pivots
    pub expand : (v : List E) → InSpan o w rows v → (j : ℕ) → j < w
        → at o v j ≡ combined o L rows (λ s. at o v (get_or pivots s 0)) j
    expand v h j j_in = h.2 j j_in
        ∙ combined_congr o L rows (at o h.0) (λ s. at o v (get_or pivots s 0)) j (weights-pivot v h)

    pub independent : AreIndependent o w rows
    independent c c_tuple z i i_in =
        let i_piv : i < length pivots = omega arith in
        sym (combined-pivot (at o c) (at-elem o L c c_tuple.of_elements) i i_in)
        ∙ z (get_or pivots i 0) (form.below i i_piv)

    -- a vector of the span begins at a pivot
    pub begins : (v : List E) → IsTuple o w v → InSpan o w rows v → (j : ℕ) → j < w
        → ((l : ℕ) → l < j → at o v l ≡ o.zero) → at o v j ≢ o.zero
        → (s : ℕ) × (s < length pivots) × (get_or pivots s 0 ≡ j)
    begins v tuple h j j_in before nonzero = ⊎_elim
        (λ (x : (s : ℕ) × (s < length pivots) × (get_or pivots s 0 ≡ j)). x)
        (λ (none : (s : ℕ) → s < length pivots → get_or pivots s 0 ≢ j). absurd (nonzero (
        expand v h j j_in
        ∙ sum_of_congr o (length rows) (λ s. o.mul (at o v (get_or pivots s 0)) (entry o rows s j)) (λ _. o.zero)
        (λ s s_in.
        let s_piv : s < length pivots = omega arith in
        ⊎_elim
        (λ (low : get_or pivots s 0 < j). ap (λ x. o.mul x (entry o rows s j)) (before (get_or pivots s 0) low)
        ∙ zero-mul o L (entry o rows s j) (entry-elem o L w rows shape s j))
        (λ (high : j ≤ get_or pivots s 0).
        let d = none s s_piv in
        let above : j < get_or pivots s 0 = omega arith in
        ap (o.mul (at o v (get_or pivots s 0))) (form.left s j s_piv above)
        ∙ mul-zero o L (at o v (get_or pivots s 0)) (at-elem o L v tuple.of_elements (get_or pivots s 0)))
        (cases_lt (get_or pivots s 0) j))
        ∙ sum_of_zeros o L (length rows))))
        (find_place (length pivots) (λ s. get_or pivots s 0) j)

    pivot-nonzero : (s : ℕ) → s < length pivots → entry o rows s (get_or pivots s 0) ≢ o.zero
    pivot-nonzero s s_piv e =
        let s_in : s < length rows = omega arith in
        L.one-nonzero (sym (form.unit s s s_piv s_in ∙ cond_yes s s o.one o.zero refl) ∙ e)

  -- the pivots of a subspace are among those of a basis of the same subspace
  pub pivots_among : (w : ℕ) (a b : List (List E)) (x : IsReducedBasis o w a) (y : IsReducedBasis o w b)
      → SameSpan o w a b → AreAmong x.pivots y.pivots
  pivots_among w a b x y same s s_piv =
      let ex = x.each in
      let s_in : s < length a = omega arith in
      begins w b y.shape y.pivots y.each y.reduced (get_or a s []) (x.shape s [] s_in)
      (rows_in o L w a b x.shape same s s_in) (get_or x.pivots s 0) (x.reduced.below s s_piv)
      (λ l l_low. x.reduced.left s l s_piv l_low) (pivot-nonzero w a x.shape x.pivots x.each x.reduced s s_piv)

-- where two lists that go up agree below s, the item of the second at s is no greater, if the first is among the second
at_most : (p q : List ℕ) → GoesUp p → GoesUp q → AreAmong p q → (s : ℕ) → s < length p → s < length q
    → ((t : ℕ) → t < s → t < length p → t < length q → get_or p t 0 ≡ get_or q t 0) → get_or q s 0 ≤ get_or p s 0
at_most p q up uq pq s sp sq before =
    let x = pq s sp in
    let t = x.0 in
    let t_in = x.1 in
    let e = x.2 in
    elim (cases_lt t s) [
      | inl low ↦
          let t_in' : t < length p = omega arith in
          let same = before t low t_in' t_in in
          let less = up t s low sp in
          absurd (omega arith)
      | inr high ↦ elim (cases_eq t s) [
        | inl f ↦ let g = ap (λ (k : ℕ). get_or q k 0) f in omega arith
        | inr d ↦ let above : s < t = omega arith in let less = uq s t above t_in in omega arith
      ]
    ]

-- of two lists that go up, each among the other, the items below k are the same
agree : (p q : List ℕ) → GoesUp p → GoesUp q → AreAmong p q → AreAmong q p → (k s : ℕ) → s < k → s < length p
    → s < length q → get_or p s 0 ≡ get_or q s 0
agree p q up uq pq qp zero s l sp sq = absurd (omega arith)
agree p q up uq pq qp (suc k) s l sp sq = go (λ t low tp tq. agree p q up uq pq qp k t (omega arith) tp tq)
  where
    go : ((t : ℕ) → t < s → t < length p → t < length q → get_or p t 0 ≡ get_or q t 0) → get_or p s 0 ≡ get_or q s 0
    go before =
        let one_way = at_most p q up uq pq s sp sq before in
        let other_way = at_most q p uq up qp s sq sp (λ t low tq tp. sym (before t low tp tq)) in
        omega arith

-- the second is no longer
no_longer : (p q : List ℕ) → GoesUp p → GoesUp q → AreAmong p q → AreAmong q p → length q ≤ length p
no_longer p q up uq pq qp = elim (cases_lt (length p) (length q)) [
  | inl long ↦
      let x = qp (length p) long in
      let t = x.0 in
      let t_in = x.1 in
      let e = x.2 in
      let t_in' : t < length q = omega arith in
      let near : t < t + 1 = omega arith in
      let same = agree p q up uq pq qp (t + 1) t near t_in t_in' in
      let less = uq t (length p) t_in long in
      absurd (omega arith)
  | inr short ↦ short
]

same_length : (p q : List ℕ) → GoesUp p → GoesUp q → AreAmong p q → AreAmong q p → length p ≡ length q
same_length p q up uq pq qp =
    let one_way = no_longer p q up uq pq qp in
    let other_way = no_longer q p uq up qp pq in
    omega arith

pub same_pivots : (p q : List ℕ) → GoesUp p → GoesUp q → AreAmong p q → AreAmong q p → p ≡ q
same_pivots p q up uq pq qp = let e = same_length p q up uq pq qp in
    ext_get_or 0 p q e (λ i l. agree p q up uq pq qp (suc i) i (omega arith) l (omega arith))

module _ {E : Type 0} (o : Ops E) (L : FieldLaws o) where
  pub same_subspace_same_rows : SameSubspaceSameRows o
  same_subspace_same_rows w a b x y same =
      let back = SameSpan_sym o L w a b same in
      let p : x.pivots ≡ y.pivots =
      same_pivots x.pivots y.pivots x.reduced.order y.reduced.order (pivots_among o L w a b x y same)
      (pivots_among o L w b a y x back) in
      let ex = x.each in
      let ey = y.each in
      let lp = ap length p in
      let long : length a ≡ length b = omega arith in
      ext_get_or [] a b long (λ s s_in.
      let s_in' : s < length b = omega arith in
      let s_piv : s < length y.pivots = omega arith in
      let d : (t i : ℕ) → E = λ t i. cond (nat_eq t i) o.one o.zero in
      IsTuple-ext o w (get_or a s []) (get_or b s []) (x.shape s [] s_in) (y.shape s [] s_in') (λ j j_in.
      expand o L w b y.shape y.pivots y.each y.reduced (get_or a s []) (rows_in o L w a b x.shape same s s_in) j j_in
      ∙ combined_congr o L b (λ t. entry o a s (get_or y.pivots t 0)) (λ t. d t s) j (λ t t_in.
      let t_piv : t < length x.pivots = omega arith in
      ap (λ (ps : List ℕ). entry o a s (get_or ps t 0)) (sym p) ∙ x.reduced.unit t s t_piv s_in
      ∙ cond_flip s t o.one o.zero)
      ∙ sum_of-delta_mul o L (length b) s (λ t. entry o b t j) (λ t. entry-elem o L w b y.shape t j) s_in'))

  pub reduced_basis_is_independent : ReducedBasisIsIndependent o
  reduced_basis_is_independent w rows x = independent o L w rows x.shape x.pivots x.each x.reduced

  -- the places where the rows begin are the pivots
  pub leading_pivots : (w : ℕ) (rows : List (List E)) (x : IsReducedBasis o w rows) (p : List ℕ)
      → length p ≡ length rows
      → ((k : ℕ) → k < length rows → IsLeadingPlace o (get_or rows k []) (get_or p k 0))
      → IsReducedEchelon o (length rows) rows p w
  leading_pivots w rows x p long leads =
      let each = x.each in
      let e : length x.pivots ≡ length p = omega arith in
      let is : x.pivots ≡ p = ext_get_or 0 x.pivots p e (λ k k_piv.
      let k_in : k < length rows = omega arith in
      let lead = leads k k_in in
      let row_long = (x.shape k [] k_in).right_length in
      let q_in = x.reduced.below k k_piv in
      ⊎_elim
      (λ (low : get_or x.pivots k 0 < get_or p k 0). absurd
      (pivot-nonzero o L w rows x.shape x.pivots each x.reduced k k_piv (lead.before (get_or x.pivots k 0) low)))
      (λ (high : get_or p k 0 ≤ get_or x.pivots k 0). ⊎_elim
      (λ (less : get_or p k 0 < get_or x.pivots k 0).
      let here : get_or p k 0 < length (get_or rows k []) = omega arith in
      absurd (lead.nonzero here (x.reduced.left k (get_or p k 0) k_piv less)))
      (λ (other : get_or x.pivots k 0 ≤ get_or p k 0). let same : get_or x.pivots k 0 ≡ get_or p k 0 = omega arith in
      same)
      (cases_lt (get_or p k 0) (get_or x.pivots k 0)))
      (cases_lt (get_or x.pivots k 0) (get_or p k 0))) in
      let P : List ℕ → Type 0 = λ ps. IsReducedEchelon o (length rows) rows ps w in
      subst P is x.reduced

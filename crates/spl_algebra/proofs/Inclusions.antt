-- A subspace in another: its dimension is no greater, and where it is the same, so are the subspaces.
use Rattle.std.specs.Prelude.{◌≡◌, ℕ, zero, suc, ◌+◌, ◌-◌, ◌<◌, ◌≤◌, List, [], length, get_or, cond, nat_eq}
use Rattle.std.proofs.Common.{refl, sym, ◌∙◌, ap, arith, inl, inr, ext_get_or}
use Rattle.std.proofs.lemmas.Bool.{cases_eq, cases_lt}
use Rattle.theory_rings.specs.Ops.{Ops, FieldLaws}
use Rattle.theory_spaces.proofs.Tuples.Tuples.{IsTuple-ext}
use Rattle.theory_tables.specs.Matrix.{entry}
use Rattle.theory_tables.specs.Subspace.{IsReducedBasis}
use Rattle.theory_tables.proofs.Rows.Terms.{cond_yes}
use Rattle.theory_tables.proofs.Rows.Sums.{sum_of-delta_mul, entry-elem}
use Rattle.theory_tables.proofs.Rows.Spans.{combined_congr}
use Rattle.spl_matrix.proofs.ReducedBases.{cond_flip, begins, expand}
use Rattle.spl_algebra.specs.Multiples.{RowsIn}

-- a list of numbers that go up
abbrev GoesUp : List ℕ → Type 0
GoesUp p = (s t : ℕ) → s < t → t < length p → get_or p s 0 < get_or p t 0

-- each of p is one of q
abbrev AreAmong : List ℕ → List ℕ → Type 0
AreAmong p q = (s : ℕ) → s < length p → (t : ℕ) × (t < length q) × (get_or q t 0 ≡ get_or p s 0)

-- a smaller item of a list that goes up comes before
comes_before : (q : List ℕ) → GoesUp q → (s t : ℕ) → s < length q → get_or q s 0 < get_or q t 0 → s < t
comes_before q up s t s_in l = elim (cases_lt s t) [
  | inl low ↦ low
  | inr high ↦ elim (cases_eq s t) [
    | inl e ↦ let same = ap (λ (k : ℕ). get_or q k 0) e in absurd (omega arith)
    | inr d ↦ let less : t < s = omega arith in let above = up t s less s_in in absurd (omega arith)
  ]
]

-- the item of p at s stands in q no earlier
no_earlier : (p q : List ℕ) → GoesUp p → GoesUp q → AreAmong p q → (s t : ℕ) → s < length p
    → get_or q t 0 ≡ get_or p s 0 → s ≤ t
no_earlier p q up uq among zero t s_in e = omega arith
no_earlier p q up uq among (suc s) t s_in e =
    let s_in' : s < length p = omega arith in
    let x = among s s_in' in
    let x_in = x.1 in
    let x_is = x.2 in
    let near : s < suc s = omega arith in
    let less = up s (suc s) near s_in in
    let low = no_earlier p q up uq among s x.0 s_in' x_is in
    let step = comes_before q uq x.0 t x_in (omega arith) in
    omega arith

-- and where p is as long as q, no later; d items of p come after it
no_later : (p q : List ℕ) → GoesUp p → GoesUp q → AreAmong p q → length p ≡ length q → (d s t : ℕ)
    → s + d + 1 ≡ length p → t < length q → get_or q t 0 ≡ get_or p s 0 → t ≤ s
no_later p q up uq among long zero s t last t_in e = omega arith
no_later p q up uq among long (suc d) s t last t_in e =
    let next_in : suc s < length p = omega arith in
    let x = among (suc s) next_in in
    let x_in = x.1 in
    let x_is = x.2 in
    let near : s < suc s = omega arith in
    let less = up s (suc s) near next_in in
    let high = no_later p q up uq among long d (suc s) x.0 (omega arith) x_in x_is in
    let step = comes_before q uq t x.0 t_in (omega arith) in
    omega arith

no_longer : (p q : List ℕ) → GoesUp p → GoesUp q → AreAmong p q → (n : ℕ) → n ≡ length p → n ≤ length q
no_longer p q up uq among zero e = omega arith
no_longer p q up uq among (suc s) e =
    let s_in : s < length p = omega arith in
    let x = among s s_in in
    let x_in = x.1 in
    let low = no_earlier p q up uq among s x.0 s_in x.2 in
    omega arith

same_items : (p q : List ℕ) → GoesUp p → GoesUp q → AreAmong p q → length p ≡ length q → (s d : ℕ)
    → s + d + 1 ≡ length p → get_or q s 0 ≡ get_or p s 0
same_items p q up uq among long s d last =
    let s_in : s < length p = omega arith in
    let x = among s s_in in
    let low = no_earlier p q up uq among s x.0 s_in x.2 in
    let high = no_later p q up uq among long d s x.0 last x.1 x.2 in
    let is : s ≡ x.0 = omega arith in
    ap (λ (k : ℕ). get_or q k 0) is ∙ x.2

-- numbers below w that go up are no more than w
at_least : (p : List ℕ) → GoesUp p → (s : ℕ) → s < length p → s ≤ get_or p s 0
at_least p up zero s_in = omega arith
at_least p up (suc s) s_in =
    let s_in' : s < length p = omega arith in
    let near : s < suc s = omega arith in
    let less = up s (suc s) near s_in in
    let low = at_least p up s s_in' in
    omega arith

few : (p : List ℕ) (w : ℕ) → GoesUp p → ((s : ℕ) → s < length p → get_or p s 0 < w) → (n : ℕ) → n ≡ length p → n ≤ w
few p w up below zero e = omega arith
few p w up below (suc s) e =
    let s_in : s < length p = omega arith in
    let low = at_least p up s s_in in
    let high = below s s_in in
    omega arith

module _ {E : Type 0} (o : Ops E) (L : FieldLaws o) (w : ℕ) where
  -- the dimension is no greater than the length of the vectors
  pub dimension-le : (a : List (List E)) → IsReducedBasis o w a → length a ≤ w
  dimension-le a x = let each = x.each in few x.pivots w x.reduced.order x.reduced.below (length a) (sym each)

  module _ (a b : List (List E)) (x : IsReducedBasis o w a) (y : IsReducedBasis o w b) (inside : RowsIn o w a b) where
    among : AreAmong x.pivots y.pivots
    among s s_piv =
        let each = x.each in
        let s_in : s < length a = omega arith in
        begins o L w b y.shape y.pivots y.each y.reduced (get_or a s []) (x.shape s [] s_in) (inside s s_in)
        (get_or x.pivots s 0) (x.reduced.below s s_piv)
        (λ l l_low. x.reduced.left s l s_piv l_low)
        (λ e. L.one-nonzero (sym (x.reduced.unit s s s_piv s_in ∙ cond_yes s s o.one o.zero refl) ∙ e))

    -- the dimension of the one is no greater than that of the other
    pub dimension_mono : length a ≤ length b
    dimension_mono =
        let ex = x.each in
        let ey = y.each in
        let h = no_longer x.pivots y.pivots x.reduced.order y.reduced.order among (length x.pivots) refl in
        omega arith

    -- where it is the same, so are the bases
    pub same_of_dimension : length a ≡ length b → a ≡ b
    same_of_dimension long =
        let ex = x.each in
        let ey = y.each in
        let piv : length x.pivots ≡ length y.pivots = omega arith in
        ext_get_or [] a b long (λ s s_in.
        let s_in' : s < length b = omega arith in
        let d : (t i : ℕ) → E = λ t i. cond (nat_eq t i) o.one o.zero in
        IsTuple-ext o w (get_or a s []) (get_or b s []) (x.shape s [] s_in) (y.shape s [] s_in') (λ j j_in.
        expand o L w b y.shape y.pivots y.each y.reduced (get_or a s []) (inside s s_in) j j_in
        ∙ combined_congr o L b (λ t. entry o a s (get_or y.pivots t 0)) (λ t. d t s) j (λ t t_in.
        let t_piv : t < length x.pivots = omega arith in
        ap (λ (k : ℕ). entry o a s k)
        (same_items x.pivots y.pivots x.reduced.order y.reduced.order among piv t (length x.pivots - t - 1)
        (omega arith))
        ∙ x.reduced.unit t s t_piv s_in ∙ cond_flip s t o.one o.zero)
        ∙ sum_of-delta_mul o L (length b) s (λ t. entry o b t j) (λ t. entry-elem o L w b y.shape t j) s_in'))

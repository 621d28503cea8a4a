-- A factor that is put in its place.
use Rattle.std.specs.Prelude.{◌≡◌, ◌≢◌, ℕ, zero, suc, ◌<◌, ◌≤◌, List, [], ◌∷◌, length, get_or, insert}
use Rattle.std.specs.Cmp.{IsTotalOrder}
use Rattle.std.specs.Ordering.{ordering_reverse}
use Rattle.std.specs.declared.cmp.Ordering.{Ordering}
use Rattle.std.specs.declared.cmp.Ordering.TheVariants.{Less, Equal, Greater}
use Rattle.std.proofs.Common.{refl, sym, ◌∙◌, ap, subst, arith}
use Rattle.theory_rings.specs.Ring.{FieldOn, CommRingOn}
use Rattle.theory_rings.specs.Ops.{Ops}
use Rattle.theory_rings.specs.Elements.{Elem}
use Rattle.theory_rings.specs.Power.{power}
use Rattle.theory_rings.specs.Polynomial.{Poly}
use Rattle.theory_rings.proofs.Rings.Solver.{◌⊠◌, ring3}
use Rattle.theory_rings.proofs.Polynomials.Monic.{divides_trans}
use Rattle.spl_field.specs.SmallField.{small_ops}
use Rattle.spl_field.specs.declared.small.SmallField.{SmallField}
use Rattle.spl_poly.specs.Order.{poly_cmp, IsPolynomialOrder}
use Rattle.spl_factor.specs.Factorisation.{Powers, PrecedesAll, IsFactor, AreFactors}
use Rattle.spl_factor.specs.Steps.{field, ring, poly, IsMonicList, DividesList, product_of_powers, NoneDivides}
use Rattle.spl_factor.specs.Steps.{IsWork, IsNext}

module _ (f : SmallField) (order : IsPolynomialOrder poly_cmp) where
  abbrev o : Ops ℕ
  o = small_ops f

  abbrev F : FieldOn (Elem (small_ops f))
  F = field f

  abbrev P : CommRingOn (Poly (field f).cring)
  P = ring f

  abbrev T : IsTotalOrder poly_cmp
  T = order.total

  before_trans : (a b : List ℕ) (xs : Powers) → poly_cmp a b ≡ Less → PrecedesAll b xs → PrecedesAll a xs
  before_trans a b [] h k = tt
  before_trans a b (y ∷ ys) h k = (T.trans a b y.0 h k.0, before_trans a b ys h k.1)

  -- what is neither before p nor p comes after it
  after : (a p : List ℕ) → poly_cmp a p ≢ Less → a ≢ p → poly_cmp p a ≡ Less
  after a p h n = go (poly_cmp a p) refl
    where
      go : (r : Ordering) → poly_cmp a p ≡ r → poly_cmp p a ≡ Less
      go Less e = absurd (h e)
      go Equal e = absurd (n (order.equal a p e))
      go Greater e = T.antisymm p a ∙ ap ordering_reverse e

  none_of_divisor : (a b : List ℕ) (xs : Powers) → NoneDivides f a xs → DividesList f b a → NoneDivides f b xs
  none_of_divisor a b [] h d = tt
  none_of_divisor a b (y ∷ ys) h d =
      (λ e. h.0 (divides_trans F (poly f y.0) (poly f b) (poly f a) e d), none_of_divisor a b ys h.1 d)

  module _ (p : List ℕ) (e : ℕ) where
    -- p is none of them
    IsAbsent : Powers → Type 0
    IsAbsent [] = Unit {0}
    IsAbsent (y ∷ ys) = (y.0 ≢ p) × IsAbsent ys

    absent_of_none : (a : List ℕ) (xs : Powers) → NoneDivides f a xs → DividesList f p a → IsAbsent xs
    unfolding IsAbsent
    absent_of_none a [] h d = tt
    absent_of_none a (y ∷ ys) h d =
        (λ s. h.0 (subst (λ z. DividesList f z a) (sym s) d), absent_of_none a ys h.1 d)

    insert_before : (a : List ℕ) (xs : Powers) (k : ℕ) → k ≤ length xs → PrecedesAll a xs → poly_cmp a p ≡ Less
        → PrecedesAll a (insert xs k (p, e))
    insert_before a [] zero l h c = (c, tt)
    insert_before a (y ∷ ys) zero l h c = (c, h)
    insert_before a [] (suc k) l h c = absurd (omega arith)
    insert_before a (y ∷ ys) (suc k) l h c = (h.0, insert_before a ys k (omega arith) h.1 c)

    insert_factors : (xs : Powers) (k : ℕ) → k ≤ length xs
        → ((i : ℕ) (d : List ℕ × ℕ) → i < k → poly_cmp (get_or xs i d).0 p ≡ Less)
        → ((d : List ℕ × ℕ) → k < length xs → poly_cmp (get_or xs k d).0 p ≢ Less)
        → IsAbsent xs → IsFactor o (p, e) → AreFactors o xs → AreFactors o (insert xs k (p, e))
    unfolding IsAbsent
    insert_factors [] zero l before next absent h t = (h, tt, tt)
    insert_factors (y ∷ ys) zero l before next absent h t =
        let first : poly_cmp p y.0 ≡ Less = after y.0 p (next y (omega arith)) absent.0 in
        (h, (first, before_trans p y.0 ys first t.1), t)
    insert_factors [] (suc k) l before next absent h t = absurd (omega arith)
    insert_factors (y ∷ ys) (suc k) l before next absent h t = (
      t.0,
      insert_before y.0 ys k (omega arith) t.1 (before 0 y (omega arith)),
      insert_factors ys k (omega arith) (λ i d s. before (suc i) d (omega arith)) (λ d s. next d (omega arith)) absent.1
          h t.2,
    )

    insert_product : (xs : Powers) (k : ℕ) → k ≤ length xs
        → product_of_powers f (insert xs k (p, e)) ≡ P.◌⊗◌ (power P.ring (poly f p) e) (product_of_powers f xs)
    insert_product [] zero l = refl
    insert_product (y ∷ ys) zero l = refl
    insert_product [] (suc k) l = absurd (omega arith)
    insert_product (y ∷ ys) (suc k) l =
        ap (P.◌⊗◌ (power P.ring (poly f y.0) y.1)) (insert_product ys k (omega arith))
        ∙ ring3 P (λ y p s. (y ⊠ (p ⊠ s), p ⊠ (y ⊠ s))) refl (power P.ring (poly f y.0) y.1)
        (power P.ring (poly f p) e) (product_of_powers f ys)

    insert_none : (a : List ℕ) (xs : Powers) (k : ℕ) → k ≤ length xs → NoneDivides f a xs → (DividesList f p a → ⊥)
        → NoneDivides f a (insert xs k (p, e))
    insert_none a [] zero l h n = (n, tt)
    insert_none a (y ∷ ys) zero l h n = (n, h)
    insert_none a [] (suc k) l h n = absurd (omega arith)
    insert_none a (y ∷ ys) (suc k) l h n = (h.0, insert_none a ys k (omega arith) h.1 n)

    module _ (rest : List ℕ) (list : Powers) (left : List ℕ) (work : IsWork f rest list) (monic : IsMonicList f left)
        (whole : poly f rest ≡ P.◌⊗◌ (power P.ring (poly f p) e) (poly f left)) where
      left_divides : DividesList f left rest
      left_divides = (power P.ring (poly f p) e, whole)

      -- where p divides it
      divides_rest : 1 ≤ e → DividesList f p rest
      divides_rest l = go e whole l
        where
          go : (n : ℕ) → poly f rest ≡ P.◌⊗◌ (power P.ring (poly f p) n) (poly f left) → 1 ≤ n → DividesList f p rest
          go zero w l = absurd (omega arith)
          go (suc n) w l = (
            P.◌⊗◌ (power P.ring (poly f p) n) (poly f left),
            w ∙ ring3 P (λ p s r. (p ⊠ s ⊠ r, s ⊠ r ⊠ p)) refl (poly f p) (power P.ring (poly f p) n) (poly f left),
          )

      -- p does not divide it: it stays
      pub next_unchanged : e ≡ 0 → IsNext f rest list left list
      next_unchanged z =
          let same : poly f rest ≡ poly f left =
          whole ∙ ap (λ n. P.◌⊗◌ (power P.ring (poly f p) n) (poly f left)) z ∙ P.one-mul (poly f left) in
          record {
            work = record {
              monic = monic;
              factors = work.factors;
              apart = none_of_divisor rest left list work.apart left_divides;
            };
            whole = ap (P.◌⊗◌ (product_of_powers f list)) (sym same);
            divides = left_divides;
          }

      pub divides_left : e ≡ 0 → DividesList f p rest → DividesList f p left
      divides_left z d =
          let same : poly f rest ≡ poly f left =
          whole ∙ ap (λ n. P.◌⊗◌ (power P.ring (poly f p) n) (poly f left)) z ∙ P.one-mul (poly f left) in
          (d.0, sym same ∙ d.1)

      -- it does: it is put in its place
      pub next_inserted : (k : ℕ) → 1 ≤ e → IsFactor o (p, e) → (DividesList f p left → ⊥) → k ≤ length list
          → ((i : ℕ) (d : List ℕ × ℕ) → i < k → poly_cmp (get_or list i d).0 p ≡ Less)
          → ((d : List ℕ × ℕ) → k < length list → poly_cmp (get_or list k d).0 p ≢ Less)
          → IsNext f rest list left (insert list k (p, e))
      next_inserted k one h no_more l before next = record {
        work = record {
          monic = monic;
          factors = insert_factors list k l before next (absent_of_none rest list work.apart (divides_rest one)) h
              work.factors;
          apart = insert_none left list k l (none_of_divisor rest left list work.apart left_divides) no_more;
        };
        whole = ap (λ s. P.◌⊗◌ s (poly f left)) (insert_product list k l)
            ∙ ring3 P (λ p s r. (p ⊠ s ⊠ r, s ⊠ (p ⊠ r))) refl (power P.ring (poly f p) e)
            (product_of_powers f list) (poly f left)
            ∙ ap (P.◌⊗◌ (product_of_powers f list)) (sym whole);
        divides = left_divides;
      }

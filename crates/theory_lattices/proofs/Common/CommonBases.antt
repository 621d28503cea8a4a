-- Reduced rows over a basis of the infinite lattice are a common basis; in the intersection the weights are polynomials
-- of bounded degree.
use Rattle.std.specs.Prelude.{◌≡◌, ℕ, ℤ, pos, ◌+ℤ◌, ◌-ℤ◌, neg_ℤ}
use Rattle.std.proofs.Common.{sym, ◌∙◌, subst, arith, inl, inr}
use Rattle.std.proofs.lemmas.Int.{ints}
use Rattle.theory_rings.specs.Ring.{FieldOn}
use Rattle.theory_spaces.specs.Module.{ModuleOn}
use Rattle.theory_spaces.specs.Linear.{comb, InSpan, Independent, Coords}
use Rattle.theory_spaces.specs.Lattice.{LatticeOver}
use Rattle.theory_spaces.proofs.Linear.Modules.{comb-comb, comb_injective}
use Rattle.theory_spaces.proofs.Linear.Spaces.{full_span}
use Rattle.theory_lattices.specs.Degree.{DegreeOn, DegreeBelow}
use Rattle.theory_lattices.specs.ReducedRows.{Reduced, row_sum}
use Rattle.theory_lattices.specs.CommonBasis.{InInfinite, InBoth, CommonBasis}
use Rattle.theory_lattices.proofs.Rows.PredictableDegrees.{weights_below, only_zero, sum_below}

module _ {K V : Type 0} (F : FieldOn K) (W : DegreeOn F.ring) (M : ModuleOn F.ring V) (P : K → Type 0) (n : ℕ) where
  -- in the intersection the weights are polynomials of degree at most a i
  pub in_both : (finite infinite : V → Type 0) (b : ℕ → V) (a : ℕ → ℤ) → CommonBasis F W M P n finite infinite b a
      → (x : V) → finite x → infinite x → InBoth F W M P n b a x
  in_both finite infinite b a B x f g =
      let u = B.finite_in x f in
      let w = B.infinite_in x g in
      let same = comb_injective M n b B.free w.weights u.weights (sym w.combines ∙ u.combines) in
      record {
        weights = u.weights;
        passes = λ i l. (
          u.passes i l,
          (let Q : K → Type 0 = λ c. DegreeBelow W (a i +ℤ pos 1) c in subst Q (same i l) (w.passes i l)),
        );
        combines = u.combines;
      }

  pub both_in : (finite infinite : V → Type 0) (b : ℕ → V) (a : ℕ → ℤ) → CommonBasis F W M P n finite infinite b a
      → (x : V) → InBoth F W M P n b a x → finite x × infinite x
  both_in finite infinite b a B x w = (
    B.finite_back x (record { weights = w.weights; passes = λ i l. (w.passes i l).0; combines = w.combines }),
    B.infinite_back x (record { weights = w.weights; passes = λ i l. (w.passes i l).1; combines = w.combines }),
  )

  module _ (C : Coords M n) (e : ℕ → V) (e_free : Independent M n e) (e_spans : (x : V) → InSpan M n e x)
      (rows : ℕ → ℕ → K) (red : Reduced W n n rows) where
    abbrev pub b : ℕ → V
    b i = comb M n (rows i) e

    in_coordinates : (c : ℕ → K) → comb M n c b ≡ comb M n (row_sum F.ring n c rows) e
    in_coordinates c = comb-comb M n n c rows e

    b_free : Independent M n b
    b_free = record {
      only_zero = λ c q.
          only_zero W n n rows red c
          (λ j l. e_free.only_zero (row_sum F.ring n c rows) (sym (in_coordinates c) ∙ q) j l);
    }

    -- rows that lead apart, over a basis of the infinite lattice, are a common basis of their own span and of it
    pub common_basis : CommonBasis F W M P n (LatticeOver M P n b) (InInfinite F W M P n e) b
        (λ i. neg_ℤ (red.degree i))
    common_basis = record {
      free = b_free;
      finite_in = λ x h. h;
      finite_back = λ x h. h;
      infinite_in = λ x h.
          let s = full_span F M n C n e b e_spans b_free x in
          let same = comb_injective M n e e_free h.weights (row_sum F.ring n s.weights rows)
          (sym h.combines ∙ s.combines ∙ in_coordinates s.weights) in
          record {
            weights = s.weights;
            passes = λ i l. shifted (s.weights i) (red.degree i) (weights_below W n n rows red s.weights (pos 0)
                (λ j g. let Q : K → Type 0 = λ c. DegreeBelow W (pos 1) c in subst Q (same j g) (h.passes j g)) i l);
            combines = s.combines;
          };
      infinite_back = λ x h. record {
        weights = row_sum F.ring n h.weights rows;
        passes = λ j g. sum_below W n n rows red h.weights (pos 0)
            (λ i l. unshifted (h.weights i) (red.degree i) (h.passes i l)) j g;
        combines = h.combines ∙ in_coordinates h.weights;
      };
    }
      where
        shifted : (c : K) (d : ℤ) → DegreeBelow W ((pos 0 -ℤ d) +ℤ pos 1) c → DegreeBelow W (neg_ℤ d +ℤ pos 1) c
        shifted c d (inl z) = inl z
        shifted c d (inr l) = inr (omega (arith, ints))

        unshifted : (c : K) (d : ℤ) → DegreeBelow W (neg_ℤ d +ℤ pos 1) c → DegreeBelow W ((pos 0 -ℤ d) +ℤ pos 1) c
        unshifted c d (inl z) = inl z
        unshifted c d (inr l) = inr (omega (arith, ints))

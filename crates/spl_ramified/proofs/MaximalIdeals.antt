-- Whether rows span a maximal ideal of an algebra: whether they are fewer than its dimension, and the quotient by them
-- is simple. (Pierce, Associative Algebras, chapter 3.)
use Rattle.std.specs.Prelude.{◌↔◌, ◌<◌, ◌≤◌, List, length}
use Rattle.std.proofs.Common.{⊎_elim, arith}
use Rattle.std.proofs.lemmas.Bool.{cases_lt}
use Rattle.theory_rings.specs.Ops.{Ops, FieldLaws}
use Rattle.theory_tables.specs.Subspace.{IsReducedBasis}
use Rattle.theory_tables.specs.Structure.{Structure}
use Rattle.theory_tables.specs.Algebras.{SpansIdeal, SpansAll}
use Rattle.theory_tables.specs.Quotient.{IsQuotient}
use Rattle.theory_growth.proofs.Quotients.{ideals_by_quotients}
use Rattle.spl_blocks.specs.Blocks.{IsUnital, IsSimple, SpansMaximalIdeal}
use Rattle.spl_blocks.proofs.SplitLists.{spans_all, all_spanned, maximal_proper}

module _ {E : Type 0} (o : Ops E) (L : FieldLaws o) (A : Structure E) (u : IsUnital o A) (rows : List (List E))
    (I : SpansIdeal o A rows) where
  -- rows as many as the dimension span everything, and no maximal ideal
  pub not_maximal : IsReducedBasis o A.dim rows → A.dim ≤ length rows → SpansMaximalIdeal o A rows → ⊥
  not_maximal basis l x = maximal_proper o L A u rows x (spans_all o L A u rows basis l)

  -- fewer do not
  pub proper : length rows < A.dim → SpansAll o A rows → ⊥
  proper l h = let g = all_spanned o L A u rows I.shape h in omega (arith, l, g)

  module _ (B : Structure E) (project lifts : List (List E)) (q : IsQuotient o A rows B project lifts) where
    -- the quotient is not 0
    quotient_positive : length rows < A.dim → 1 ≤ B.dim
    quotient_positive l = ⊎_elim
        (λ (none : B.dim < 1). absurd (proper l (λ v t. (q.kernel v t).1
        (λ i i_in. absurd (omega (arith, none, i_in))))))
        (λ (some : 1 ≤ B.dim). some)
        (cases_lt B.dim 1)

    -- the rows span a maximal ideal just where it is simple
    pub maximal_where_simple : length rows < A.dim → IsSimple o B ↔ SpansMaximalIdeal o A rows
    maximal_where_simple l =
        let one = u.identity in
        let w = ideals_by_quotients o L A u.over u.associative one.one one.is_one rows I B project lifts q in (
          λ h. record { shape = I.shape; maximal = w.1 (h, quotient_positive l) },
          λ x. (w.0 x.maximal).0,
        )

-- An algebra has no nilpotent ideal but 0 exactly where its radical is 0. (Pierce, Associative Algebras, chapter 4.)
use Rattle.std.specs.Prelude.{◌≡◌, ◌↔◌, ℕ, ◌<◌, List, [], length, get_or, IsTrue, nat_eq}
use Rattle.std.proofs.Common.{sym, ◌∙◌, ap, arith, ⊎_elim, eq-zero-or-pos}
use Rattle.std.proofs.lemmas.Bool.{eqb-true, eq-eqb}
use Rattle.theory_rings.specs.Ops.{Ops, FieldLaws}
use Rattle.theory_rings.specs.Sum.{at, sum_of}
use Rattle.theory_spaces.specs.Tuples.{IsTuple, tuple_zero}
use Rattle.theory_spaces.proofs.Tuples.Tuples.{at-table, IsTuple-table, IsTuple-ext}
use Rattle.theory_tables.specs.Matrix.{entry}
use Rattle.theory_tables.specs.Subspace.{InSpan, IsReducedBasis}
use Rattle.theory_tables.specs.Structure.{Structure}
use Rattle.theory_tables.specs.Algebras.{SpansIdeal}
use Rattle.theory_tables.proofs.Rows.Spans.{InSpan-member}
use Rattle.theory_tables.proofs.Algebras.Powers.{nilpotent_by_powers}
use Rattle.theory_chains.specs.Radical.{SpansRadical}
use Rattle.spl_blocks.specs.Blocks.{IsUnital, HasNoNilpotentIdeal}

module _ {E : Type 0} (o : Ops E) (L : FieldLaws o) where
  -- a combination of no rows is 0
  zero_of_none : (w : ℕ) (rows : List (List E)) → length rows ≡ 0 → (v : List E) → IsTuple o w v
      → InSpan o w rows v → v ≡ tuple_zero o w
  zero_of_none w rows none v tuple s =
      IsTuple-ext o w v (tuple_zero o w) tuple (IsTuple-table o w (λ _. o.zero) (λ _ _. L.zero-elem)) (λ j j_in.
      s.2 j j_in ∙ ap (λ n. sum_of o n (λ i. o.mul (at o s.0 i) (entry o rows i j))) none
      ∙ sym (at-table o w (λ _. o.zero) j j_in))

  -- a basis in reduced row echelon form whose rows are 0 has none
  none_of_zero : (w : ℕ) (rows : List (List E)) → IsReducedBasis o w rows
      → ((r : ℕ) → r < length rows → get_or rows r [] ≡ tuple_zero o w) → length rows ≡ 0
  none_of_zero w rows x zeros = ⊎_elim
      (λ (z : length rows ≡ 0). z)
      (λ (some : 0 < length rows).
      let first : 0 < length x.pivots = let e = x.each in omega arith in
      let j = get_or x.pivots 0 0 in
      absurd (L.one-nonzero (sym (x.reduced.unit 0 0 first some) ∙ ap (λ v. at o v j) (zeros 0 some)
      ∙ at-table o w (λ _. o.zero) j (x.reduced.below 0 first))))
      (eq-zero-or-pos (length rows))

  module _ (A : Structure E) (unital : IsUnital o A) (radical : List (List E)) (basis : IsReducedBasis o A.dim radical)
      (S : SpansRadical o A radical) where
    pub nothing_nilpotent : length radical ≡ 0 → HasNoNilpotentIdeal o A
    nothing_nilpotent none one is_one rows shape nil r r_in =
        let J : SpansIdeal o A rows = record { shape = shape; ideal = nil.ideal } in
        let p = nilpotent_by_powers o L A unital.over unital.associative one is_one rows J in
        let v = get_or rows r [] in
        let t = shape r [] r_in in
        let s = S.largest rows J (p.nilpotent.0 nil) v (t, InSpan-member o L A.dim rows shape r r_in) in
        zero_of_none A.dim radical none v t s.1

    pub radical_is_zero : HasNoNilpotentIdeal o A → length radical ≡ 0
    radical_is_zero h =
        let I = unital.identity in
        let p = nilpotent_by_powers o L A unital.over unital.associative I.one I.is_one radical S.ideal in
        none_of_zero A.dim radical basis (h I.one I.is_one radical S.ideal.shape (p.nilpotent.1 S.nilpotent))

    pub semisimple_by_radical : (d : ℕ) → d ≡ length radical → IsTrue (nat_eq d 0) ↔ HasNoNilpotentIdeal o A
    semisimple_by_radical d e = (
      λ t. nothing_nilpotent (sym e ∙ eqb-true d 0 t),
      λ h. eq-eqb d 0 (e ∙ radical_is_zero h),
    )

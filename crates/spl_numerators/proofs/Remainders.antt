-- The steps by which a list of residues grows.
use Rattle.std.specs.Prelude.{◌≡◌, ◌+◌, ◌<◌, ◌++◌, ◌∷◌, ℕ, List, [], length, get_or}
use Rattle.std.proofs.Common.{sym, ◌∙◌, ap, subst, arith, below_more, length-append}
use Rattle.std.proofs.lemmas.List.{get_or_push}
use Rattle.std.proofs.Math.ListN.{get_or-append}
use Rattle.theory_rings.specs.Ops.{IsElem}
use Rattle.theory_rings.specs.Sum.{at}
use Rattle.theory_remainders.specs.RemainderLaws.{IsRemainderOf}
use Rattle.theory_tables.proofs.Rows.Sums.{All_step}
use Rattle.spl_field.specs.SmallField.{small_ops}
use Rattle.spl_residue.specs.declared.field.ResidueField.{ResidueField}
use Rattle.spl_residue.specs.Residue.{field_of, polynomial_of, residue_ops}
use Rattle.spl_numerators.specs.Residues.{AreRemainders}

module _ (k : ResidueField) (entries : List (List ℕ)) where
  pub no_remainders : (ds : List (List ℕ)) → ds ≡ [] → AreRemainders k entries 0 ds
  no_remainders ds e =
      let l : length ds ≡ 0 = ap length e in
      record {
        tuple = record { right_length = l; of_elements = λ i d h. absurd (omega arith) };
        each = λ p h. absurd (omega arith);
      }

  -- one more
  pub more_remainders : (n : ℕ) (before after : List (List ℕ)) (x : List ℕ) → AreRemainders k entries n before
      → after ≡ before ++ x ∷ [] → IsElem (residue_ops k) x
      → IsRemainderOf (small_ops (field_of k)) (at (small_ops (field_of k)) (get_or entries n [])) (polynomial_of k) x
      → AreRemainders k entries (n + 1) after
  more_remainders n before after x h e hx v =
      let t = h.tuple in
      let long = t.right_length in
      let P : ℕ → List ℕ → Type 0 = λ p y.
      IsRemainderOf (small_ops (field_of k)) (at (small_ops (field_of k)) (get_or entries p [])) (polynomial_of k) y in
      let old : (p : ℕ) → p < n → get_or after p [] ≡ get_or before p [] = λ p l.
      ap (λ xs. get_or xs p []) e ∙ get_or-append before (x ∷ []) [] p (omega arith) in
      let last : get_or after n [] ≡ x = ap (λ xs. get_or xs n []) e ∙ get_or_push before x [] n (omega arith) in
      record {
        tuple = record {
          right_length = ap length e ∙ length-append before (x ∷ []) ∙ omega arith;
          of_elements = All_step (IsElem (residue_ops k)) before after x t.of_elements hx e;
        };
        each = below_more (λ p. P p (get_or after p [])) n (λ p l. subst (P p) (sym (old p l)) (h.each p l))
            (subst (P n) (sym last) v);
      }

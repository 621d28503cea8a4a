-- The algebra of a table is a space by the entries of the tuples.
use Rattle.std.specs.Prelude.{ℕ, List}
use Rattle.std.proofs.Common.{◌∙◌, ap}
use Rattle.theory_rings.specs.Ring.{FieldOn}
use Rattle.theory_rings.specs.Ops.{Ops, FieldLaws}
use Rattle.theory_rings.specs.Elements.{Elem, Elem-path, elements}
use Rattle.theory_rings.specs.Sum.{at}
use Rattle.theory_spaces.specs.Module.{AlgebraOn, module_of}
use Rattle.theory_spaces.specs.Space.{SpaceOn}
use Rattle.theory_spaces.specs.Tuples.{Tuple, IsTableAlgebra}
use Rattle.theory_spaces.proofs.Tuples.Tuples.{at-table, entry, make, entry-make, Tuple-ext}

module _ {E : Type 0} (o : Ops E) (L : FieldLaws o) (n : ℕ) (cs : List E)
    (A : AlgebraOn (elements o L).ring (Tuple o n)) (T : IsTableAlgebra o L n cs A) where
  abbrev K : FieldOn (Elem o)
  K = elements o L

  pub table_space : SpaceOn (module_of A) n
  table_space = record {
    coord = entry o L n;
    make = make o L n;
    coord-make = entry-make o L n;
    ext = Tuple-ext o L n;
    coord-zero = λ i l. Elem-path o (entry o L n A.zero i) K.zero
        (ap (λ xs. at o xs i) T.zero-is ∙ at-table o n (λ k. o.zero) i l);
    coord-add = λ x y i l. Elem-path o (entry o L n (A.◌⊕◌ x y) i) (K.◌⊕◌ (entry o L n x i) (entry o L n y i))
        (ap (λ xs. at o xs i) (T.add-is x y) ∙ at-table o n (λ k. o.add (at o x.0 k) (at o y.0 k)) i l);
    coord-scale = λ c x i l. Elem-path o (entry o L n (A.◌•◌ c x) i) (K.◌⊗◌ c (entry o L n x i))
        (ap (λ xs. at o xs i) (T.scale-is c x) ∙ at-table o n (λ k. o.mul c.0 (at o x.0 k)) i l);
  }

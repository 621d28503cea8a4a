-- The quotient of an associative algebra with identity by an ideal is one too. (Pierce, Associative Algebras, chapter 1.)
use Rattle.std.specs.Prelude.{List}
use Rattle.theory_rings.specs.Ops.{Ops, FieldLaws}
use Rattle.theory_tables.specs.Matrix.{image}
use Rattle.theory_tables.specs.Structure.{Structure}
use Rattle.theory_tables.specs.Quotient.{IsQuotient}
use Rattle.theory_tables.proofs.Algebras.Quotients.{quotient_keeps}
use Rattle.spl_blocks.specs.Blocks.{IsUnital}

pub quotient_unital : {E : Type 0} (o : Ops E) (L : FieldLaws o) (A : Structure E) (u : IsUnital o A)
    (rows : List (List E)) (B : Structure E) (project lifts : List (List E)) → IsQuotient o A rows B project lifts
    → IsUnital o B
quotient_unital o L A u rows B project lifts q =
    let keeps = quotient_keeps o L A u.over rows B project lifts q in
    let one = u.identity in
    record {
      over = q.over;
      associative = keeps.associative u.associative;
      identity = record {
        one = image o B.dim A.dim project one.one;
        is_one = keeps.identity one.one one.is_one;
      };
    }

use Rattle.std.proofs.Common.{◌≡◌, ◌<◌, ◌∷◌, [], ℕ, length}
use Rattle.theory_rings.specs.Ops.{IsElem}
use Rattle.theory_rings.specs.Sum.{at}
use Rattle.std.specs.List.{All}
use Rattle.spl_poly.specs.Operations.{without_zeros}
use Rattle.spl_residue.specs.Residue.{residue_ops}
use Rattle.spl_blocks.specs.Classes.{IsClassOf}
use Rattle.spl_blocks.proofs.ideals.constants_of.Given as goal

abbrev pub invariant-loop-c : goal.invariant-loop-c
invariant-loop-c l = record {
  elems : All (IsElem (residue_ops l.k)) l.constants;
  long : length l.constants ≡ l.c;
  each : (c : ℕ) → c < l.c → IsClassOf l.k (without_zeros (c ∷ [])) (at (residue_ops l.k) l.constants c);
}

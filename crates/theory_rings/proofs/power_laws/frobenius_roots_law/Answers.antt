use Rattle.std.proofs.Common.{sym, ◌∙◌}
use Rattle.theory_rings.proofs.FiniteFields.FrobeniusRoots.{frobenius_root-exists, frobenius_root-unique}
use Rattle.theory_rings.proofs.power_laws.frobenius_roots_law.Goals as goal

pub returns : goal.returns
returns c o L q is_elem-lt p prime char a l =
    let r = frobenius_root-exists o L q is_elem-lt p prime char a l in (
      r.0,
      record {
        below = r.1;
        root = r.2;
        unique = λ s h e. frobenius_root-unique o L q is_elem-lt p prime char s r.0 h r.1 (e ∙ sym r.2);
      },
    )

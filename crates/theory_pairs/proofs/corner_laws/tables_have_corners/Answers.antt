use Rattle.theory_pairs.proofs.TableCorners as corners
use Rattle.theory_pairs.proofs.corner_laws.tables_have_corners.Goals as goal

pub returns : goal.returns
returns g c = record { corner = λ o L. corners.tables_have_corners o L }

use Rattle.std.proofs.Common.{ℕ, List, [], ◌∷◌, ◌∙◌, ap, get_or}
use Rattle.spl_poly.proofs.Trimming.{get_or-without_zeros}
use Rattle.spl_residue.proofs.irreducible.minus_variable.Goals as goal

pub returns-clause-value : goal.returns-clause-value
returns-clause-value c = λ k.
    ap (λ (l : List ℕ). get_or l k 0) c.in_ok-from_slice.ensures.value
    ∙ get_or-without_zeros (0 ∷ c.negative.result ∷ []) k
    ∙ ap (λ x. get_or (0 ∷ x ∷ []) k 0) c.negative.ensures.same

-- Fractions over a field are those over an equal one.
use Rattle.std.proofs.Common.{◌≡◌, ◌↔◌, ℕ, List, get_or, sym, subst}
use Rattle.std.specs.List.{All}
use Rattle.theory_rings.specs.Ops.{Ops, IsElem}
use Rattle.theory_fractions.specs.Fraction.{Pair, IsLowestTerms}

pub elements_over : (o o' : Ops ℕ) (K K' : Ops (Pair ℕ)) → o' ≡ o
    → ((u v : List ℕ) → IsElem K (u, v) ↔ IsLowestTerms o u v)
    → ((u v : List ℕ) → IsElem K' (u, v) ↔ IsLowestTerms o' u v)
    → (constants : List (Pair ℕ)) → All (IsElem K) constants → All (IsElem K') constants
elements_over o o' K K' same here there constants each k d below =
    let w = get_or constants k d in
    (there w.0 w.1).1 (subst (λ (x : Ops ℕ). IsLowestTerms x w.0 w.1) (sym same) ((here w.0 w.1).0 (each k d below)))

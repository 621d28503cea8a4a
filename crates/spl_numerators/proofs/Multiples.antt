-- The steps by which a list of multiples grows.
use Rattle.std.specs.Prelude.{◌≡◌, ℕ, ◌+◌, ◌<◌, List, [], ◌∷◌, ◌++◌, length, get_or}
use Rattle.std.proofs.Common.{sym, ◌∙◌, ap, subst, arith, below_more, length-append}
use Rattle.std.proofs.lemmas.List.{get_or_push}
use Rattle.std.proofs.Math.ListN.{get_or-append}
use Rattle.theory_rings.specs.Ops.{Ops, FieldLaws}
use Rattle.theory_fractions.specs.PolynomialLists.{IsPolynomialList}
use Rattle.theory_fractions.specs.Fraction.{Pair}
use Rattle.theory_fractions.specs.FractionOps.{fraction_ops}
use Rattle.theory_fractions.specs.CommonDenominator.{as_fraction}
use Rattle.spl_numerators.specs.Numerators.{HasMultiples}

module _ {E : Type 0} (o : Ops E) (L : FieldLaws o) where
  abbrev K : Ops (Pair E)
  K = fraction_ops o L

  pub no_multiples : (c : List E) (list : List (Pair E)) (entries : List (List E)) → entries ≡ []
      → HasMultiples o L c list 0 entries
  no_multiples c list entries e = record {
    count = ap length e;
    polynomials = λ p l. absurd (omega arith);
    multiple = λ p l. absurd (omega arith);
  }

  -- one more
  pub more_multiples : (c : List E) (list : List (Pair E)) (n : ℕ) (before after : List (List E)) (p : List E)
      → HasMultiples o L c list n before → after ≡ before ++ p ∷ [] → IsPolynomialList o p
      → as_fraction o p ≡ K.mul (as_fraction o c) (get_or list n K.zero)
      → HasMultiples o L c list (n + 1) after
  more_multiples c list n before after p h e hp v = record {
    count = ap length e ∙ length-append before (p ∷ []) ∙ omega (arith, h.count);
    polynomials = below_more (λ q. IsPolynomialList o (get_or after q [])) n
        (λ q l. subst (IsPolynomialList o) (sym (old q l)) (h.polynomials q l))
        (subst (IsPolynomialList o) (sym last) hp);
    multiple = below_more (λ q. as_fraction o (get_or after q []) ≡ K.mul (as_fraction o c) (get_or list q K.zero)) n
        (λ q l. ap (as_fraction o) (old q l) ∙ h.multiple q l)
        (ap (as_fraction o) last ∙ v);
  }
    where
      old : (q : ℕ) → q < n → get_or after q [] ≡ get_or before q []
      old q l = ap (λ xs. get_or xs q []) e ∙ get_or-append before (p ∷ []) [] q (omega (arith, h.count))

      last : get_or after n [] ≡ p
      last = ap (λ xs. get_or xs n []) e ∙ get_or_push before p [] n (omega (arith, h.count))

-- The monic generator of the ideal of two polynomials is a common divisor.
use Rattle.std.specs.Prelude.{◌≡◌, List, [], ◌∷◌, ◌++◌, get_or, All}
use Rattle.std.proofs.Common.{◌∙◌, ap, ap₂, arith, subst, lit<}
use Rattle.std.proofs.lemmas.List.Elements.{All-get_or}
use Rattle.theory_rings.specs.Ops.{Ops, FieldLaws}
use Rattle.theory_rings.specs.Sum.{at}
use Rattle.theory_rings.specs.Polynomial.{convolution_of}
use Rattle.theory_fractions.specs.PolynomialLists.{IsOver}
use Rattle.theory_fractions.specs.CommonDivisor.{IsCommonDivisor}
use Rattle.theory_fractions.proofs.Coefficients.{convolution_of-elem}
use Rattle.spl_lattice.specs.Ideal.{IsGenerator}

-- two items that were pushed
pub two_pushed : {X : Type 0} (none one two : List X) (a a' b b' : X) → none ≡ [] → a' ≡ a → one ≡ none ++ a' ∷ []
    → b' ≡ b → two ≡ one ++ b' ∷ []
    → two ≡ a ∷ b ∷ []
two_pushed none one two a a' b b' e ea e1 eb e2 = e2
    ∙ ap₂ (λ xs y. xs ++ y ∷ []) (e1 ∙ ap₂ (λ xs y. xs ++ y ∷ []) e ea) eb

module _ {E : Type 0} (o : Ops E) (L : FieldLaws o) where
  -- the generator of the ideal of two
  pub common_divisor_of_generator : (list multipliers : List (List E)) (a b g : List E) → list ≡ a ∷ b ∷ []
      → IsOver o a → IsOver o b
      → IsGenerator o list multipliers g → All (IsOver o) multipliers → IsCommonDivisor o a b g
  common_divisor_of_generator list multipliers a b g e ha hb d all = go (subst (λ l. IsGenerator o l multipliers g) e d)
    where
      go : IsGenerator o (a ∷ b ∷ []) multipliers g → IsCommonDivisor o a b g
      go h =
          let s : List E = get_or multipliers 0 [] in
          let t : List E = get_or multipliers 1 [] in
          let hs : IsOver o s = All-get_or (IsOver o) multipliers 0 [] (omega (arith, h.count)) all in
          let ht : IsOver o t = All-get_or (IsOver o) multipliers 1 [] (omega (arith, h.count)) all in
          record {
            left = h.divides 0 (lit< tt);
            right = h.divides 1 (lit< tt);
            s = s;
            t = t;
            s_over = hs;
            t_over = ht;
            combination = λ k. h.combination k ∙ ap (λ x. o.add x (convolution_of o (at o t) (at o b) k))
                (L.zero-add (convolution_of o (at o s) (at o a) k) (convolution_of-elem o L s a hs ha k));
          }

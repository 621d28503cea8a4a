-- What a test of 0 decides.
use Rattle.std.specs.Prelude.{◌≡◌, ◌≢◌, Bool, true, false, ◌⊎◌}
use Rattle.std.proofs.Common.{refl, sym, ◌∙◌, ap, inl, inr}
use Rattle.std.proofs.Math.Bool.{true≢false}
use Rattle.std.proofs.lemmas.Bool.{false_from_ne_true}
use mathlib.Core.HLevel.{Discrete, hedberg}
use Rattle.theory_rings.specs.Ring.{AddCommGroupOn, ZeroTest}
use Rattle.theory_rings.proofs.Rings.RingLaws.{add-zero, add-neg}

module _ {X : Type 0} {nought : X} {is_zero : X → Bool} (Z : ZeroTest nought is_zero) where
  -- what fails the test is not 0
  pub is_zero-complete : (a : X) → is_zero a ≡ false → a ≢ nought
  is_zero-complete a f e = true≢false (sym Z.is_zero-zero ∙ ap is_zero (sym e) ∙ f)

  -- and what is not 0 fails it
  pub is_zero-false : (a : X) → a ≢ nought → is_zero a ≡ false
  is_zero-false a n = false_from_ne_true (is_zero a) (λ t. n (Z.is_zero-sound a t))

  pub eq_zero_or : (a : X) → (a ≡ nought) ⊎ (a ≢ nought)
  eq_zero_or a = go (is_zero a) refl
    where
      go : (b : Bool) → is_zero a ≡ b → (a ≡ nought) ⊎ (a ≢ nought)
      go true e = inl (Z.is_zero-sound a e)
      go false e = inr (is_zero-complete a e)

module _ {V : Type 0} (G : AddCommGroupOn V) where
  infixl 65 ◌⊕◌
  open G use {zero, ◌⊕◌, neg}

  pub eq_of_sub_eq_zero : (a b : V) → a ⊕ neg b ≡ zero → a ≡ b
  eq_of_sub_eq_zero a b e =
      sym (add-zero G.monoid a) ∙ ap (λ x. a ⊕ x) (sym (G.neg-add b)) ∙ sym (G.add_assoc a (neg b) b)
      ∙ ap (λ x. x ⊕ b) e ∙ G.zero-add b

  pub sub_eq_zero_of_eq : (a b : V) → a ≡ b → a ⊕ neg b ≡ zero
  sub_eq_zero_of_eq a b e = ap (λ x. x ⊕ neg b) e ∙ add-neg G b

  -- a group with a test of 0 has decidable equality, and is a set
  pub group_discrete : {is_zero : V → Bool} → ZeroTest zero is_zero → Discrete V
  group_discrete {is_zero} Z a b = go (eq_zero_or Z (a ⊕ neg b))
    where
      go : (a ⊕ neg b ≡ zero) ⊎ (a ⊕ neg b ≢ zero) → Dec (a ≡ b)
      go (inl e) = yes (eq_of_sub_eq_zero a b e)
      go (inr n) = no (λ e. n (sub_eq_zero_of_eq a b e))

  pub group_set : {is_zero : V → Bool} → ZeroTest zero is_zero → IsSet V
  group_set Z = hedberg (group_discrete Z)

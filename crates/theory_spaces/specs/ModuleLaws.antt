-- What follows from the laws of a module for 0 and for negatives.
use Rattle.std.specs.Prelude.{◌≡◌}
use Rattle.std.proofs.Common.{◌∙◌, ap}
use Rattle.theory_rings.specs.Ring.{RingOn}
use Rattle.theory_rings.proofs.Rings.RingLaws.{additive-zero, additive-neg}
use Rattle.theory_spaces.specs.Module.{ModuleOn}

module _ {K V : Type 0} {R : RingOn K} (M : ModuleOn R V) where
  infixl 70 ◌•◌
  open M use {additive, ◌•◌, neg}

  pub scale-zero : (a : K) → a • M.zero ≡ M.zero
  scale-zero a = additive-zero additive additive (λ x. a • x) (M.scale-add a)

  pub zero-scale : (x : V) → R.zero • x ≡ M.zero
  zero-scale x = additive-zero R.additive additive (λ a. a • x) (λ a b. M.add-scale a b x)

  pub scale-neg : (a : K) (x : V) → a • neg x ≡ neg (a • x)
  scale-neg a x = additive-neg additive additive (λ y. a • y) (M.scale-add a) x

  pub neg-scale : (a : K) (x : V) → R.neg a • x ≡ neg (a • x)
  neg-scale a x = additive-neg R.additive additive (λ b. b • x) (λ a b. M.add-scale a b x) a

  pub neg_one-scale : (x : V) → R.neg R.one • x ≡ neg x
  neg_one-scale x = neg-scale R.one x ∙ ap neg (M.one-scale x)

-- What a map of two vectors to a scalar makes orthogonal, by the zeros and a one alone: orthogonal sets,
-- nondegenerate maps, dual vectors. Bilinear forms and the trace form of an algebra are cases of it. (Jacobson, Basic
-- Algebra I, chapter 6.)
use Rattle.std.specs.Prelude.{◌≡◌, ℕ, ◌<◌, cond, eqb}

module _ {K V : Type 0} (nought : K) (f : V → V → K) where
  -- x is orthogonal to all of S
  abbrev pub Orthogonal : (V → Type 0) → V → Type 0
  Orthogonal S x = (y : V) → S y → f x y ≡ nought

  -- x is orthogonal to everything
  abbrev pub InRadical : V → Type 0
  InRadical x = (y : V) → f x y ≡ nought

  -- 0 alone is orthogonal to everything
  pub record IsNondegenerate (zero : V) : Type 0 where
    pub only_zero : (x : V) → InRadical x → x ≡ zero

  -- f (b i) (d i) is 1, and f (b i) (d j) is 0 for j other than i
  pub record AreDual (unit : K) (n : ℕ) (b d : ℕ → V) : Type 0 where
    pub pairing : (i j : ℕ) → i < n → j < n → f (b i) (d j) ≡ cond (eqb i j) unit nought

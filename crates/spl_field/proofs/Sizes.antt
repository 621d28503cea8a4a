-- The number of elements, as a loop over the digits computes it.
use Rattle.std.specs.Prelude.{◌≡◌, ℕ, suc, ◌*◌, ◌^◌, ◌<◌, ◌≤◌, List, length, get_or}
use Rattle.std.proofs.Common.{sym, ◌∙◌, ap, arith}
use Rattle.std.proofs.Math.Nat.{pow-suc}
use Rattle.std.proofs.lemmas.List.Elements.{All-from_get_or}
use Rattle.spl_field.specs.FieldByDigits.{FitsField}
use Rattle.spl_field.proofs.DigitLoops.{pow_le, number_lt}

module _ (p : ℕ) (m : List ℕ) where
  -- there are too many elements where the first digits make too many
  pub not_fits_of_size : (k size : ℕ) → k < length m → size ≡ p ^ k → 256 < size * p → FitsField p m → ⊥
  not_fits_of_size k size l e h fits =
      let g = pow_le p m fits (suc k) l in
      let s : p ^ suc k ≡ size * p = pow-suc p k ∙ ap (λ n. n * p) (sym e) in
      omega arith

  pub not_fits_of_number : (k : ℕ) → k < length m → p ≤ get_or m k 0 → FitsField p m → ⊥
  not_fits_of_number k l h fits = let g = number_lt p m fits k l in omega arith

  pub fits_of_loop : (k size : ℕ) → 2 ≤ p → 0 < length m → length m ≤ k → k ≤ length m → size ≡ p ^ k → size ≤ 256
      → ((i : ℕ) → i < k → get_or m i 0 < p) → FitsField p m × (size ≡ p ^ length m)
  fits_of_loop k size least some l l' e most below =
      let same : k ≡ length m = omega arith in
      let power : size ≡ p ^ length m = e ∙ ap (λ n. p ^ n) same in (
        record {
          least = least;
          some_number = some;
          most = omega arith;
          below = All-from_get_or (λ n. n < p) m 0 (λ i h. below i (omega arith));
        },
        power,
      )

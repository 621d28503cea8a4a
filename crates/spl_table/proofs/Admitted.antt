-- Numbers that fit a field are small.
use Rattle.std.proofs.Common.{◌≡◌, ◌⊎◌, ℕ, ◌^◌, ◌&&◌, ◌<◌, ◌≤◌, Bool, true, false, List, [], ◌∷◌, ◌++◌, length, get_or}
use Rattle.std.proofs.Common.{⊎_elim, refl, ap, ◌∙◌, subst, inl, inr, arith, lit<, length-append}
use Rattle.std.proofs.Math.Nat.{pow-le-pow_left, pow-le-pow_right}
use Rattle.std.proofs.lemmas.List.{get_or_at, get_or_append_left}
use Rattle.theory_rings.proofs.Numbers.Digits.{le_pow_self}
use Rattle.spl_field.specs.FieldByDigits.{FitsField}
use Rattle.spl_table.specs.Reading.{AreBytes}

pub characteristic_most : (p : ℕ) (m : List ℕ) → FitsField p m → p ≤ 256
characteristic_most p m fits = omega (arith, le_pow_self p (length m) fits.some_number, fits.most)

pub modulus_most : (p : ℕ) (m : List ℕ) (k : ℕ) → FitsField p m → k < length m → get_or m k 0 < 256
modulus_most p m k fits within = omega (arith, characteristic_most p m fits, fits.below k 0 within)

-- some number is above 255
pub high_number : (p : ℕ) (m numbers : List ℕ) → numbers ≡ m → (k : ℕ) × (k < length numbers)
    × (256 ≤ get_or numbers k 0) → FitsField p m → ⊥
high_number p m numbers same high fits =
    let here : (k : ℕ) × (k < length m)
    × (256 ≤ get_or m k 0) = subst (λ l. (k : ℕ) × (k < length l) × (256 ≤ get_or l k 0)) same high in
    omega (arith, modulus_most p m here.0 fits here.1, here.2)

-- nine digits are too many
few_numbers : (p : ℕ) (m : List ℕ) → 8 < length m → FitsField p m → ⊥
few_numbers p m long fits =
    let more : 2 ^ length m ≤ p ^ length m = pow-le-pow_left fits.least (length m) in
    let nine : 2 ^ 9 ≤ 2 ^ length m = pow-le-pow_right {n = 2} (lit< tt) {i = 9} {j = length m} (omega (arith, long)) in
    omega (arith, more, nine, fits.most)

pub too_much : (m bytes : List ℕ) → AreBytes m false bytes → (p : ℕ) → FitsField p m → ⊥
too_much m bytes (inl long) p fits = few_numbers p m long fits
too_much m bytes (inr high) p fits = high_number p m m refl high fits

-- one number more
pub AreBytes-push : (small pushed : Bool) (m bytes new : List ℕ) (n : ℕ) → AreBytes m small bytes
    → (pushed ≡ true → new ≡ bytes ++ n ∷ []) → (pushed ≡ false → (8 ≤ length bytes) ⊎ (256 ≤ n))
    → AreBytes (m ++ n ∷ []) (small && pushed) new
AreBytes-push true true m bytes new n are push left = push refl ∙ ap (λ l. l ++ n ∷ []) are
AreBytes-push true false m bytes new n are push left = ⊎_elim
    (λ (full : 8 ≤ length bytes). inl (omega (arith, full, ap length are, length-append m (n ∷ []))))
    (λ (high : 256 ≤ n). inr (
      length m,
      omega (arith, length-append m (n ∷ [])),
      rw (get_or_at m n [] 0 (length m) refl) high,
    ))
    (left refl)
AreBytes-push false pushed m bytes new n (inl long) push left =
    inl (omega (arith, long, length-append m (n ∷ [])))
AreBytes-push false pushed m bytes new n (inr high) push left = inr (
  high.0,
  omega (arith, high.1, length-append m (n ∷ [])),
  rw (get_or_append_left m (n ∷ []) 0 high.0 high.1) high.2,
)

-- A prime that doesn't divide the degree doesn't divide its square, the dimension.
use Rattle.std.specs.Prelude.{◌≢◌, ℕ, ◌*◌, ◌%◌}
use Rattle.std.specs.Int.{◌∣◌}
use Rattle.std.proofs.Common.{⊎_elim}
use Rattle.std.proofs.Math.Nat.{dvd_of_mod-eq-zero, mod-eq-zero_of_dvd}
use Rattle.theory_rings.proofs.Numbers.Primes.{IsPrime-dvd-mul}
use Rattle.spl_field.specs.SmallField.{characteristic}
use Rattle.spl_field.specs.declared.small.SmallField.{SmallField}
use Rattle.spl_centre.proofs.Characteristic.{IsPrime-characteristic}

pub square_apart : (f : SmallField) (n : ℕ) → n % characteristic f ≢ 0 → n * n % characteristic f ≢ 0
square_apart f n apart e =
    let p = characteristic f in
    let no : p ∣ n → ⊥ = λ d. apart (mod-eq-zero_of_dvd p d) in
    ⊎_elim no no (IsPrime-dvd-mul p (IsPrime-characteristic f) n n (dvd_of_mod-eq-zero p e))

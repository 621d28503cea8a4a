-- The numbers of a small field are admitted.
use Rattle.std.proofs.Common.{◌≡◌, ℕ, ◌^◌, ◌<◌, ◌≤◌, length, slice_index, sym, subst}
use Rattle.theory_rings.specs.FieldByDigits.{IsProductByDigits}
use Rattle.spl_field.specs.FieldByDigits.{FitsField, IsAdmitted}
use Rattle.spl_field.specs.TableField.{product_of_merely}
use Rattle.spl_field.specs.SmallField.{characteristic, modulus_of}
use Rattle.spl_field.specs.declared.small.SmallField.{SmallField}

pub fields_are_admitted : (f : SmallField) → IsAdmitted (characteristic f) (modulus_of f)
fields_are_admitted f = record {
  fits = record {
    least = f.least;
    some_number = f.some_number;
    most = subst (λ n. n ≤ 256) f.power f.most;
    below = f.numbers_below;
  };
  invertible = λ a positive below.
      let inside : a < f.size = subst (λ n. a < n) (sym f.power) below in
      let b = slice_index f.inverses.items a in (
        b,
        record {
          element = subst (λ n. b < n) f.power (f.inverses_below a inside);
          product_one = product_of_merely f.p f.least f.modulus.items a b 1 (f.inverses_are a positive inside);
        },
      );
}

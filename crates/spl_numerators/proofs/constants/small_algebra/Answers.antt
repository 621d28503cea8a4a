use Rattle.std.proofs.Common.{refl, ℕ, List, length, ◌∙◌, subst}
use Rattle.theory_fractions.specs.Fraction.{Pair}
use Rattle.spl_field.specs.SmallField.{small_ops, small_laws}
use Rattle.spl_numerators.specs.Constants.{AreConstantFractions}
use Rattle.spl_numerators.proofs.ConstantFractions.{extension_of}
use Rattle.spl_numerators.proofs.constants.small_algebra.Goals as goal

pub returns-in_ok-new-in-Some : goal.returns-in_ok-new-in-Some
returns-in_ok-new-in-Some c =
    let o = small_ops c.args.f.now in
    let A = c.args.a.now in
    let made = c.in_ok-new-in-Some in
    let P : List (Pair ℕ) → Type 0 = λ list. AreConstantFractions o list (length list) c.in-Some.items in
    extension_of o (small_laws c.args.f.now) A c.requires c.in-Some.items (length A.constants) refl
    (subst P c.constants.ensures.value (rw c.in-Some.is at c.in_ok-items.ensures)) made.field-0
    (made.ensures.dim ∙ c.dim.ensures.dim) made.ensures.constants

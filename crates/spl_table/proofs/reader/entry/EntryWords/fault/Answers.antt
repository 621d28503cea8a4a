use Rattle.std.proofs.Common.{◌<◌, ◌≤◌, refl, subst}
use Rattle.spl_table.specs.TableText.{IsOverZero, HasSmallDegrees}
use Rattle.spl_text.specs.FractionWords.{text_of}
use Rattle.spl_table.specs.Reading.{entry_of, head_of}
use Rattle.spl_table.proofs.Places.{after_previous, not_after_previous}
use Rattle.spl_table.proofs.reader.entry.EntryWords.fault.Goals as goal

pub returns-then-place-next : goal.returns-then-place-next
returns-then-place-next c =
    let h = head_of c.args.f.now c.args.n in
    let e = entry_of c.args.self.now in
    let range = c.if-not-is_in_range.ensures.0 refl in
    λ previous is. (
      range,
      not_after_previous h c.args.next previous e is range
          (subst (λ p. p < c.args.next) c.place.ensures.place c.if-place-next.true),
    )

pub returns-then-is_over_zero : goal.returns-then-is_over_zero
returns-then-is_over_zero c =
    let h = head_of c.args.f.now c.args.n in
    let e = entry_of c.args.self.now in
    let range = c.if-not-is_in_range.ensures.0 refl in
    λ previous is. (
      range,
      after_previous h c.args.next previous e is range
          (subst (λ p. c.args.next ≤ p) c.place.ensures.place c.if-place-next.false),
      c.if-is_over_zero.ensures.0 refl,
    )

pub returns-then-not-has_small_degrees : goal.returns-then-not-has_small_degrees
returns-then-not-has_small_degrees c =
    let h = head_of c.args.f.now c.args.n in
    let e = entry_of c.args.self.now in
    let range = c.if-not-is_in_range.ensures.0 refl in
    let zero : IsOverZero (text_of c.args.self.now.value)
    → ⊥ = λ z. let same = c.if-is_over_zero.ensures.1 z in absurd cc in
    let degrees : HasSmallDegrees (text_of c.args.self.now.value)
    → ⊥ = λ z. let same = c.if-not-has_small_degrees.ensures.1 z in absurd cc in
    λ previous is. (
      range,
      after_previous h c.args.next previous e is range
          (subst (λ p. c.args.next ≤ p) c.place.ensures.place c.if-place-next.false),
      zero,
      degrees,
    )

pub returns : goal.returns
returns c =
    let h = head_of c.args.f.now c.args.n in
    let e = entry_of c.args.self.now in
    let range = c.if-not-is_in_range.ensures.0 refl in
    let zero : IsOverZero (text_of c.args.self.now.value)
    → ⊥ = λ z. let same = c.if-is_over_zero.ensures.1 z in absurd cc in
    λ previous is. record {
      form = c.requires.form;
      range = range;
      order = after_previous h c.args.next previous e is range
          (subst (λ p. c.args.next ≤ p) c.place.ensures.place c.if-place-next.false);
      denominator = zero;
      degrees = c.if-not-has_small_degrees.ensures.0 refl;
    }

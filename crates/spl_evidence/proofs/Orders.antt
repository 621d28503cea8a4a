-- What is said of the first two numbers of a line is said of the line.
use Rattle.std.proofs.Common.{◌≡◌, ◌↔◌, ℕ, ◌*◌, ◌≤◌, Bool, List, [], ◌∷◌, length, get_or, sym}
use Rattle.std.proofs.Common.{ap, subst, ◌∙◌, arith}
use Rattle.std.specs.Prelude.{IsTrue}
use Rattle.std.specs.List.{AllByRecursion}
use Rattle.spl_text.specs.Text.{FractionText}
use Rattle.spl_evidence.specs.Line.{Line, number_count, HasForm}
use Rattle.spl_evidence.specs.Refusal.{greatest, NumbersAreInOrder, IsInRange}
use Rattle.spl_evidence.specs.Reading.{IsLineOf}
use Rattle.spl_evidence.specs.declared.word.Word.{Word}
use Rattle.spl_evidence.specs.declared.word.Word.TheVariants.{Triple, NoIdentity, Central, Ideal, Split, Left, Right}
use Rattle.spl_evidence.specs.declared.word.Word.TheVariants.{Tuple, Map, Unit as UnitTuple, End}
use Rattle.spl_evidence.specs.declared.word.Word.TheVariants.{Ramified, RamifiedInfinity, Order, Radical}
use Rattle.spl_evidence.specs.declared.word.Before.{Before}
use Rattle.spl_evidence.specs.declared.line.LineWords.{LineWords}

module _ (n : ℕ) (b : Before) (ns : List ℕ) (ts : List FractionText) where
  abbrev pub Short : Word → Type 0
  Short w = NumbersAreInOrder n b (record { word = w; numbers = get_or ns 0 0 ∷ get_or ns 1 0 ∷ []; fractions = [] })

  abbrev pub Whole : Word → Type 0
  Whole w = NumbersAreInOrder n b (record { word = w; numbers = ns; fractions = ts })

  same_order : (w : Word) → Short w ↔ Whole w
  same_order Triple = (λ h. h, λ h. h)
  same_order NoIdentity = (λ h. h, λ h. h)
  same_order Central = (λ h. h, λ h. h)
  same_order Ideal = (λ h. h, λ h. h)
  same_order Split = (λ h. h, λ h. h)
  same_order Left = (λ h. h, λ h. h)
  same_order Right = (λ h. h, λ h. h)
  same_order Tuple = (λ h. h, λ h. h)
  same_order Map = (λ h. h, λ h. h)
  same_order UnitTuple = (λ h. h, λ h. h)
  same_order End = (λ h. h, λ h. h)
  same_order Ramified = (λ h. h, λ h. h)
  same_order RamifiedInfinity = (λ h. h, λ h. h)
  same_order Order = (λ h. h, λ h. h)
  same_order Radical = (λ h. h, λ h. h)

first_low : (ns : List ℕ) (bound : ℕ) → length ns ≡ 2 → AllByRecursion (λ i. (1 ≤ i) × (i ≤ bound)) ns
    → 1 ≤ get_or ns 0 0
first_low [] bound many each = absurd (omega arith)
first_low (i ∷ ns) bound many each = each.0.0

pub order_of : (n q : ℕ) (b : Before) (l : Line) (x : LineWords) (r : Bool) (ns : List ℕ) (first second : ℕ)
    → IsLineOf q l x → HasForm (n * n) l → IsInRange q n l → ns ≡ x.numbers → first ≡ get_or ns 0 0
    → second ≡ get_or ns 1 0
    → ((x.word ≡ UnitTuple → 1 ≤ first) → (IsTrue r ↔ NumbersAreInOrder n b
    (record { word = x.word; numbers = first ∷ second ∷ []; fractions = [] })))
    → (IsTrue r ↔ NumbersAreInOrder n b l)
order_of n q b l x r ns first second w form range same p s told =
    let e : ns ≡ l.numbers = same ∙ w.numbers in
    let f1 : first ≡ get_or l.numbers 0 0 = p ∙ ap (λ k. get_or k 0 0) e in
    let f2 : second ≡ get_or l.numbers 1 0 = s ∙ ap (λ k. get_or k 1 0) e in
    let low : x.word ≡ UnitTuple → 1 ≤ first = λ u. subst (λ i. 1 ≤ i) (sym f1)
    (first_low l.numbers (greatest n l.word) (form.number_count ∙ ap number_count (sym w.word ∙ u)) range.numbers) in
    let by_first : IsTrue r ↔ NumbersAreInOrder n b
    (record { word = x.word; numbers = get_or l.numbers 0 0 ∷ second ∷ []; fractions = [] }) =
    subst (λ i. IsTrue r ↔ NumbersAreInOrder n b (record { word = x.word; numbers = i ∷ second ∷ []; fractions = [] }))
    f1 (told low) in
    let by_second : IsTrue r ↔ Short n b l.numbers l.fractions x.word =
    subst (λ i. IsTrue r ↔ NumbersAreInOrder n b
    (record { word = x.word; numbers = get_or l.numbers 0 0 ∷ i ∷ []; fractions = [] })) f2 by_first in
    let moved : IsTrue r ↔ Short n b l.numbers l.fractions l.word =
    subst (λ v. IsTrue r ↔ Short n b l.numbers l.fractions v) w.word by_second in
    let back = same_order n b l.numbers l.fractions l.word in
    (λ t. back.0 (moved.0 t), λ h. moved.1 (back.1 h))

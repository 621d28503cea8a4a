-- A line that was read is the line of its text, and a line that is refused is the fault of the text.
use Rattle.std.proofs.Common.{◌≡◌, ◌≢◌, ◌↔◌, ℕ, ◌*◌, Bool, false, List, ◌++◌, Option, refl, sym, ap, subst, ◌∙◌}
use Rattle.std.specs.Prelude.{Contains, IsTrue}
use Rattle.spl_field.specs.SmallField.{size_of}
use Rattle.spl_field.specs.declared.small.SmallField.{SmallField}
use Rattle.spl_text.specs.Text.{line, Lacks}
use Rattle.spl_evidence.specs.Line.{Line, HasForm, line_text}
use Rattle.spl_evidence.specs.Refusal.{due_words, IsDue, IsInRange, IsInOrder, LineFault}
use Rattle.spl_evidence.specs.Reading.{IsLineOf, IsReadAt}
use Rattle.spl_evidence.specs.declared.word.Word.{Word}
use Rattle.spl_evidence.specs.declared.word.Before.{Before}
use Rattle.spl_evidence.specs.declared.line.LineWords.{LineWords}
use Rattle.spl_evidence.specs.declared.refusal.EvidenceKind.TheVariants.{EvForm, EvRange, EvOrder}

pub not_false : (b : Bool) → b ≡ false → IsTrue b → ⊥
not_false b e t = let both = sym t ∙ e in absurd cc

module _ (f : SmallField) (n : ℕ) (before : Option Before) (text : List ℕ) (words : List Word) (q : ℕ)
    (are : words ≡ due_words (n * n) before) (size : q ≡ size_of f) (one_line : Lacks 10 text)
    (some : (word : Word) × IsDue (n * n) before word) where
  pub form_fault : ((l : Line) → Contains words l.word → HasForm (n * n) l → text ≢ line_text l) → (after : List ℕ)
      → LineFault f n before (line text ++ after) EvForm
  form_fault none after = record {
    word = some.0;
    due = some.1;
    text = text;
    after = after;
    one_line = one_line;
    next = refl;
    no_line = λ l form due. none l (subst (λ ws. Contains ws l.word) (sym are) due) form;
  }

  module _ (w : LineWords) (found : (l : Line) × Contains words l.word × HasForm (n * n) l × (text ≡ line_text l)
      × IsLineOf q l w) where
    abbrev l : Line
    l = found.0

    due : IsDue (n * n) before l.word
    due = subst (λ ws. Contains ws l.word) are found.1

    of_line : IsLineOf (size_of f) l w
    of_line = subst (λ k. IsLineOf k l w) size found.4

    next : (after : List ℕ) → line text ++ after ≡ line (line_text l) ++ after
    next after = ap (λ t. line t ++ after) found.3

    module _ (inside : Bool) (tells : (k : ℕ) (l : Line) → IsLineOf k l w → (IsTrue inside ↔ IsInRange k n l)) where
      pub range_fault : inside ≡ false → (after : List ℕ) → LineFault f n before (line text ++ after) EvRange
      range_fault fails after = record {
        at = l;
        after = after;
        form = found.2;
        due = due;
        next = next after;
        fault = λ r. not_false inside fails ((tells (size_of f) l of_line).1 r);
      }

      range : IsTrue inside → IsInRange (size_of f) n l
      range holds = (tells (size_of f) l of_line).0 holds

      module _ (holds : IsTrue inside) (ordered : Bool) (says : (k : ℕ) (l : Line) → IsLineOf k l w → HasForm (n * n) l
          → IsInRange k n l → (IsTrue ordered ↔ IsInOrder n before l)) where
        pub order_fault : ordered ≡ false → (after : List ℕ) → LineFault f n before (line text ++ after) EvOrder
        order_fault fails after = record {
          at = l;
          after = after;
          form = found.2;
          due = due;
          next = next after;
          fault = (
            range holds,
            λ o. not_false ordered fails ((says (size_of f) l of_line found.2 (range holds)).1 o),
          );
        }

        pub line_read : IsTrue ordered → IsReadAt f n before text w
        line_read good = record {
          line = l;
          form = found.2;
          due = due;
          range = range holds;
          order = (says (size_of f) l of_line found.2 (range holds)).0 good;
          spelled = found.3;
          words = of_line;
        }

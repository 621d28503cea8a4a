-- What is refused over a small field is refused over each with as many elements whose fractions have the same
-- operations.
use Rattle.std.proofs.Common.{◌≡◌, ℕ, ◌+◌, List, [], ◌∷◌, Option, None, refl, sym, subst}
use Rattle.std.specs.List.{AllByRecursion}
use Rattle.theory_rings.specs.Ops.{Ops, IsElem}
use Rattle.theory_fractions.specs.Fraction.{Pair}
use Rattle.spl_field.specs.SmallField.{size_of}
use Rattle.spl_field.specs.declared.small.SmallField.{SmallField}
use Rattle.spl_fraction.specs.CanonicalWords.{words_of}
use Rattle.spl_fraction.specs.FractionsOver.{fractions_over}
use Rattle.spl_evidence.specs.Line.{Line}
use Rattle.spl_evidence.specs.Refusal.{IsInRange, IsInOrder, HasTerms, IsRight, AreRight, behind, behind_all, LineFault}
use Rattle.spl_evidence.specs.Refusal.{IsLineWith, IsFaultBehind, IsFaultOfLines, IsFirstFault, IsRefusal}
use Rattle.spl_evidence.specs.declared.word.Before.{Before}
use Rattle.spl_evidence.specs.declared.refusal.EvidenceRefusal.{EvidenceRefusal}
use Rattle.spl_evidence.specs.declared.refusal.EvidenceKind.{EvidenceKind}
use Rattle.spl_evidence.specs.declared.refusal.EvidenceKind.TheVariants.{EvHeader, EvNoEnd, EvForm, EvRange, EvOrder}
use Rattle.spl_evidence.specs.declared.refusal.EvidenceKind.TheVariants.{EvTerms, EvAfterEnd}

has_terms : (f g : SmallField) → fractions_over f ≡ fractions_over g → (l : Line) → HasTerms f l → HasTerms g l
has_terms f g same l h = record {
  canonical =
      subst (λ (K : Ops (Pair ℕ)). AllByRecursion (λ t. (x : Pair ℕ) × IsElem K x × (t ≡ words_of x)) l.fractions) same
      h.canonical;
  allowed = h.allowed;
}

module _ (f g : SmallField) (n : ℕ) (size : size_of f ≡ size_of g) (same : fractions_over f ≡ fractions_over g) where
  in_range : (l : Line) → IsInRange (size_of f) n l → IsInRange (size_of g) n l
  in_range l = subst (λ q. IsInRange q n l) size

  out_of_range : (l : Line) → (IsInRange (size_of f) n l → ⊥) → IsInRange (size_of g) n l → ⊥
  out_of_range l = subst (λ q. IsInRange q n l → ⊥) size

  right_line : (before : Option Before) (l : Line) → IsRight f n before l → IsRight g n before l
  right_line before l h = record {
    form = h.form;
    due = h.due;
    range = in_range l h.range;
    order = h.order;
    terms = has_terms f g same l h.terms;
  }

  right_lines : (before : Option Before) (ls : List Line) → AreRight f n before ls → AreRight g n before ls
  right_lines before [] h = tt
  right_lines before (l ∷ ls) h = (right_line before l h.0, right_lines (behind before l) ls h.1)

  line_with : (P Q : Line → Type 0) → ((l : Line) → P l → Q l) → (before : Option Before) (rest : List ℕ)
      → IsLineWith f n P before rest → IsLineWith g n Q before rest
  line_with P Q there before rest h = record {
    at = h.at;
    after = h.after;
    form = h.form;
    due = h.due;
    next = h.next;
    fault = there h.at h.fault;
  }

  same_behind : (before : Option Before) (ls : List Line) → behind_all f n before ls ≡ behind_all g n before ls
  same_behind before [] = refl
  same_behind before (l ∷ ls) = same_behind (behind before l) ls

  line_fault : (before : Option Before) (rest : List ℕ) (kind : EvidenceKind) → LineFault f n before rest kind
      → LineFault g n before rest kind
  line_fault before rest EvHeader h = h
  line_fault before rest EvNoEnd h = record { word = h.word; due = h.due; unfinished = h.unfinished }
  line_fault before rest EvForm h = record {
    word = h.word;
    due = h.due;
    text = h.text;
    after = h.after;
    one_line = h.one_line;
    next = h.next;
    no_line = h.no_line;
  }
  line_fault before rest EvRange h =
      line_with (λ l. IsInRange (size_of f) n l → ⊥) (λ l. IsInRange (size_of g) n l → ⊥) out_of_range before rest h
  line_fault before rest EvOrder h =
      line_with (λ l. IsInRange (size_of f) n l × (IsInOrder n before l → ⊥))
      (λ l. IsInRange (size_of g) n l × (IsInOrder n before l → ⊥)) (λ l x. (in_range l x.0, x.1)) before rest h
  line_fault before rest EvTerms h =
      line_with (λ l. IsInRange (size_of f) n l × IsInOrder n before l × (HasTerms f l → ⊥))
      (λ l. IsInRange (size_of g) n l × IsInOrder n before l × (HasTerms g l → ⊥))
      (λ l x. (in_range l x.0, x.1, λ terms. x.2 (has_terms g f (sym same) l terms))) before rest h
  line_fault before rest EvAfterEnd h = record { nothing = h.nothing; some = h.some }

  fault_behind : (before : Option Before) (first : ℕ) (bytes : List ℕ) (at : ℕ) (kind : EvidenceKind)
      → IsFaultBehind f n before first bytes at kind → IsFaultBehind g n before first bytes at kind
  fault_behind before first bytes at kind h = record {
    lines = h.lines;
    rest = h.rest;
    right = right_lines before h.lines h.right;
    spelled = h.spelled;
    at_line = h.at_line;
    fault = subst (λ b. LineFault g n b h.rest kind) (same_behind before h.lines)
        (line_fault (behind_all f n before h.lines) h.rest kind h.fault);
  }

  of_lines : (first : ℕ) (bytes : List ℕ) (at : ℕ) (kind : EvidenceKind) → IsFaultOfLines f n first bytes at kind
      → IsFaultOfLines g n first bytes at kind
  of_lines first bytes at kind h = record {
    rest = h.rest;
    spelled = h.spelled;
    fault = fault_behind None (first + 1) h.rest at kind h.fault;
  }

  first_fault : (first : ℕ) (bytes : List ℕ) (at : ℕ) (kind : EvidenceKind) → IsFirstFault f n first bytes at kind
      → IsFirstFault g n first bytes at kind
  first_fault first bytes at EvHeader h = record { at_line = h.at_line; lacks = h.lacks }
  first_fault first bytes at EvNoEnd h = of_lines first bytes at EvNoEnd h
  first_fault first bytes at EvForm h = of_lines first bytes at EvForm h
  first_fault first bytes at EvRange h = of_lines first bytes at EvRange h
  first_fault first bytes at EvOrder h = of_lines first bytes at EvOrder h
  first_fault first bytes at EvTerms h = of_lines first bytes at EvTerms h
  first_fault first bytes at EvAfterEnd h = of_lines first bytes at EvAfterEnd h

  pub refusal_same : (first : ℕ) (bytes : List ℕ) (r : EvidenceRefusal) → IsRefusal f n first bytes r
      → IsRefusal g n first bytes r
  refusal_same first bytes r h = first_fault first bytes r.line r.kind h

-- A reader goes from right lines to right lines, and a fault behind them is one of the whole.
use Rattle.std.proofs.Common.{◌≡◌, ℕ, ◌+◌, List, [], ◌∷◌, ◌++◌, Option, Some, None, refl, sym, ap, ap₂}
use Rattle.std.proofs.Common.{subst, ◌∙◌, arith, append_assoc, append-nil}
use Rattle.std.specs.Prelude.{Result, Ok, Err, IfErr}
use Rattle.std.proofs.lemmas.List.{length-append}
use Rattle.spl_field.specs.declared.small.SmallField.{SmallField}
use Rattle.spl_text.specs.Text.{line, FractionText}
use Rattle.spl_evidence.specs.Line.{Line, line_text, lines_text}
use Rattle.spl_evidence.specs.Refusal.{behind, HasTerms, AreRight, behind_all, LineFault}
use Rattle.spl_evidence.specs.Reading.{IfRefused, IsReadAt, Reads, IsFaultFrom}
use Rattle.spl_evidence.specs.declared.word.Word.{Word}
use Rattle.spl_evidence.specs.declared.word.Before.{Before}
use Rattle.spl_evidence.specs.declared.line.LineWords.{LineWords}
use Rattle.spl_evidence.specs.declared.reader.Reader.{Reader}
use Rattle.spl_evidence.specs.declared.refusal.EvidenceKind.{EvidenceKind}
use Rattle.spl_evidence.specs.declared.refusal.EvidenceKind.TheVariants.{EvTerms}
use Rattle.spl_evidence.specs.declared.refusal.EvidenceFault.{EvidenceFault}
use Rattle.spl_evidence.specs.declared.refusal.EvidenceFault.TheVariants.{Refused, Memory}
use Rattle.spl_evidence.proofs.Spellings.{lines_text-append}

pub IfRefused-weaker : (P Q : ℕ → EvidenceKind → Type 0) → ((at : ℕ) (kind : EvidenceKind) → P at kind → Q at kind)
    → (e : EvidenceFault) → IfRefused e P → IfRefused e Q
IfRefused-weaker P Q weaker (Refused r) h = weaker r.line r.kind h
IfRefused-weaker P Q weaker Memory h = tt

-- what stands before a line is told by words and numbers alone
same_behind : (before : Option Before) (w : Word) (ns : List ℕ) (ts : List FractionText)
    → behind before (record { word = w; numbers = ns; fractions = [] })
    ≡ behind before (record { word = w; numbers = ns; fractions = ts })
same_behind None w ns ts = refl
same_behind (Some b) w ns ts = refl

behind_words : (before : Option Before) (w : Word) (ns : List ℕ) (l : Line) → w ≡ l.word → ns ≡ l.numbers
    → behind before (record { word = w; numbers = ns; fractions = [] }) ≡ behind before l
behind_words before w ns l e d =
    ap₂ (λ x y. behind before (record { word = x; numbers = y; fractions = [] })) e d
    ∙ same_behind before l.word l.numbers l.fractions

module _ (f : SmallField) (n : ℕ) where
  AreRight-append : (before : Option Before) (xs ys : List Line) → AreRight f n before xs
      → AreRight f n (behind_all f n before xs) ys → AreRight f n before (xs ++ ys)
  AreRight-append before [] ys p q = q
  AreRight-append before (x ∷ xs) ys p q = (p.0, AreRight-append (behind before x) xs ys p.1 q)

  behind_all-append : (before : Option Before) (xs ys : List Line)
      → behind_all f n before (xs ++ ys) ≡ behind_all f n (behind_all f n before xs) ys
  behind_all-append before [] ys = refl
  behind_all-append before (x ∷ xs) ys = behind_all-append (behind before x) xs ys

  pub spelled-append : (a b c : List ℕ) (xs ys : List Line) → a ≡ lines_text xs ++ b → b ≡ lines_text ys ++ c
      → a ≡ lines_text (xs ++ ys) ++ c
  spelled-append a b c xs ys p q =
      p ∙ ap (λ t. lines_text xs ++ t) q ∙ sym (append_assoc (lines_text xs) (lines_text ys) c)
      ∙ ap (λ t. t ++ c) (sym (lines_text-append xs ys))

  pub Reads-none : (a : Reader) → Reads f n a [] a
  Reads-none a = record { right = tt; spelled = refl; number = omega arith; before = refl }

  pub Reads-append : (a b c : Reader) (xs ys : List Line) → Reads f n a xs b → Reads f n b ys c
      → Reads f n a (xs ++ ys) c
  Reads-append a b c xs ys p q = record {
    right = AreRight-append a.before xs ys p.right (subst (λ z. AreRight f n z ys) p.before q.right);
    spelled = spelled-append a.rest.now b.rest.now c.rest.now xs ys p.spelled q.spelled;
    number = omega (arith, p.number, q.number, length-append xs ys);
    before = q.before ∙ ap (λ z. behind_all f n z ys) p.before ∙ sym (behind_all-append a.before xs ys);
  }

  pub fault_behind : (a b : Reader) (xs : List Line) → Reads f n a xs b → (at : ℕ) (kind : EvidenceKind)
      → IsFaultFrom f n b at kind → IsFaultFrom f n a at kind
  fault_behind a b xs p at kind w = record {
    lines = xs ++ w.lines;
    rest = w.rest;
    right = AreRight-append a.before xs w.lines p.right (subst (λ z. AreRight f n z w.lines) p.before w.right);
    spelled = spelled-append a.rest.now b.rest.now w.rest xs w.lines p.spelled w.spelled;
    at_line = omega (arith, w.at_line, p.number, length-append xs w.lines);
    fault = subst (λ z. LineFault f n z w.rest kind)
        (ap (λ z. behind_all f n z w.lines) p.before ∙ sym (behind_all-append a.before xs w.lines)) w.fault;
  }

  -- the same of an error that is handed on
  pub refused_behind : (a b : Reader) (xs : List Line) → Reads f n a xs b → (e : EvidenceFault)
      → IfRefused e (IsFaultFrom f n b) → IfRefused e (IsFaultFrom f n a)
  refused_behind a b xs p e h =
      IfRefused-weaker (IsFaultFrom f n b) (IsFaultFrom f n a) (fault_behind a b xs p) e h

  pub err_behind : {T : Type 0} (a b : Reader) (xs : List Line) → Reads f n a xs b → (r : Result T EvidenceFault)
      → IfErr r (λ e. IfRefused e (IsFaultFrom f n b)) → IfErr r (λ e. IfRefused e (IsFaultFrom f n a))
  err_behind a b xs p (Ok x) h = tt
  err_behind a b xs p (Err e) h = refused_behind a b xs p e h

  pub fault_here : (a : Reader) (at : ℕ) (kind : EvidenceKind) → at ≡ a.number
      → LineFault f n a.before a.rest.now kind → IsFaultFrom f n a at kind
  fault_here a at kind same fault = record {
    lines = [];
    rest = a.rest.now;
    right = tt;
    spelled = refl;
    at_line = omega (arith, same);
    fault = fault;
  }

  -- the same of an error at a line that was cut off
  pub refused_here : (a : Reader) (text after : List ℕ) → a.rest.now ≡ text ++ 10 ∷ after → (e : EvidenceFault)
      → IfRefused e (λ at kind. (at ≡ a.number) × LineFault f n a.before (line text ++ after) kind)
      → IfRefused e (IsFaultFrom f n a)
  refused_here a text after cut e h =
      IfRefused-weaker (λ at kind. (at ≡ a.number) × LineFault f n a.before (line text ++ after) kind)
      (IsFaultFrom f n a) (λ at kind w. fault_here a at kind w.0
      (subst (λ t. LineFault f n a.before t kind) (append_assoc text (10 ∷ []) after ∙ sym cut) w.1)) e h

  -- ---- a line that is right but for its terms

  module _ (old : Reader) (w : LineWords) (text after : List ℕ) (read : IsReadAt f n old.before text w)
      (cut : old.rest.now ≡ line text ++ after) where
    next : old.rest.now ≡ line (line_text read.line) ++ after
    next = cut ∙ ap (λ t. line t ++ after) read.spelled

    pub terms_fault : (number : ℕ) → number ≡ old.number → (HasTerms f read.line → ⊥)
        → IsFaultFrom f n old number EvTerms
    terms_fault number same none = fault_here old number EvTerms same record {
      at = read.line;
      after = after;
      form = read.form;
      due = read.due;
      next = next;
      fault = (read.range, read.order, none);
    }

    pub passed : (new : Reader) → new.rest.now ≡ after → new.number ≡ old.number + 1
        → new.before ≡ behind old.before (record { word = w.word; numbers = w.numbers; fractions = [] })
        → HasTerms f read.line → Reads f n old (read.line ∷ []) new
    passed new rest number before terms = record {
      right = (
        record { form = read.form; due = read.due; range = read.range; order = read.order; terms = terms },
        tt,
      );
      spelled = next ∙ ap₂ (λ s t. s ++ t) (sym (append-nil (line (line_text read.line)))) (sym rest);
      number = number;
      before = before ∙ behind_words old.before w.word w.numbers read.line read.words.word read.words.numbers;
    }

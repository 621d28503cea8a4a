-- The lines behind the line of a kind, and all lines, once they are read.
use Rattle.std.proofs.Common.{◌≡◌, ◌≢◌, ◌⊎◌, ℕ, zero, suc, ◌-◌, ◌*◌, ◌<◌, ◌≤◌, List, [], ◌∷◌, ◌++◌, length}
use Rattle.std.proofs.Common.{get_or, Option, None, refl, sym, ap, ap₂, subst, ◌∙◌, inl, inr, arith, append-nil}
use Rattle.std.specs.Prelude.{Contains}
use Rattle.std.specs.List.{AllByRecursion}
use Rattle.std.proofs.lemmas.List.{length-append}
use Rattle.theory_rings.specs.Ops.{Ops}
use Rattle.theory_fractions.specs.Fraction.{Pair}
use Rattle.theory_tables.specs.Claims.{TripleFits}
use Rattle.spl_field.specs.declared.small.SmallField.{SmallField}
use Rattle.spl_fraction.specs.FractionsOver.{fractions_over}
use Rattle.spl_text.specs.Text.{line}
use Rattle.spl_evidence.specs.Line.{Line, lines_text, line_text, number_count, fraction_count}
use Rattle.spl_evidence.specs.Evidence.{Fits, body_lines, end_line, lines_of}
use Rattle.spl_evidence.specs.Refusal.{greatest, due_words, IsDue, IsRight}
use Rattle.spl_evidence.specs.Reading.{Reads, IsBehindKind}
use Rattle.spl_evidence.specs.declared.evidence.Evidence.{Evidence}
use Rattle.spl_evidence.specs.declared.word.Word.{Word}
use Rattle.spl_evidence.specs.declared.word.Word.TheVariants.{Triple, NoIdentity, Central, Ideal, Split}
use Rattle.spl_evidence.specs.declared.word.Word.TheVariants.{Ramified, RamifiedInfinity}
use Rattle.spl_evidence.specs.declared.word.Before.{Before}
use Rattle.spl_evidence.specs.declared.reader.Reader.{Reader}
use Rattle.spl_evidence.proofs.Readers.Passing.{spelled-append}
use Rattle.spl_evidence.proofs.Readers.LineSteps.{no_items, line_is, one_item}
use Rattle.spl_evidence.proofs.Readers.Standing.{line_right}

module _ (f : SmallField) (n : ℕ) where
  abbrev K : Ops (Pair ℕ)
  K = fractions_over f

  pub rest_read : (a b : Reader) (xs ys : List Line) → Reads f n a xs b → b.rest.now ≡ lines_text ys
      → a.rest.now ≡ lines_text (xs ++ ys)
  rest_read a b xs ys p e =
      spelled-append f n a.rest.now b.rest.now [] xs ys p.spelled (e ∙ sym (append-nil (lines_text ys)))
      ∙ append-nil (lines_text (xs ++ ys))

  -- the text goes on behind a line
  pub shorter : (a b : Reader) (l : Line) → Reads f n a (l ∷ []) b → length b.rest.now < length a.rest.now
  shorter a b l p =
      let t = line_text l in
      omega (
        arith,
        ap length p.spelled,
        length-append (line t ++ []) b.rest.now,
        length-append (line t) [],
        length-append t (10 ∷ []),
      )

  -- the evidence of all lines behind the first
  pub whole_read : (a b : Reader) (l first : Line) → Reads f n a (l ∷ []) b → l ≡ first → (e : Evidence)
      → IsBehindKind f n first b.rest.now e → Fits K n e × (a.rest.now ≡ lines_text (lines_of n e))
  whole_read a b l first p same e h =
      let rest = body_lines n e ++ end_line ∷ [] in (
        h.fits,
        rest_read a b (l ∷ []) rest p h.spelled ∙ ap (λ k. lines_text (k ∷ rest)) (same ∙ sym h.kind),
      )

-- ---- the words of kinds

abbrev pub IsKind : Word → Type 0
IsKind w =
    (w ≡ Triple) ⊎ ((w ≡ NoIdentity) ⊎ ((w ≡ Central) ⊎ ((w ≡ Ideal) ⊎ ((w ≡ Split) ⊎ ((w ≡ Ramified)
    ⊎ (w ≡ RamifiedInfinity))))))

pub kind_due : (m : ℕ) (before : Option Before) (w : Word) → before ≡ None → IsDue m before w → IsKind w
kind_due m before w start due = at h.0 h.1 h.2
  where
    h : Contains (Triple ∷ NoIdentity ∷ Central ∷ Ideal ∷ Split ∷ Ramified ∷ RamifiedInfinity ∷ []) w
    h = subst (λ z. Contains (due_words m z) w) start due

    at : (i : ℕ) → i < 7
        → get_or (Triple ∷ NoIdentity ∷ Central ∷ Ideal ∷ Split ∷ Ramified ∷ RamifiedInfinity ∷ []) i w ≡ w → IsKind w
    at zero below e = inl (sym e)
    at (suc zero) below e = inr (inl (sym e))
    at (suc (suc zero)) below e = inr (inr (inl (sym e)))
    at (suc (suc (suc zero))) below e = inr (inr (inr (inl (sym e))))
    at (suc (suc (suc (suc zero)))) below e = inr (inr (inr (inr (inl (sym e)))))
    at (suc (suc (suc (suc (suc zero))))) below e = inr (inr (inr (inr (inr (inl (sym e))))))
    at (suc (suc (suc (suc (suc (suc zero)))))) below e = inr (inr (inr (inr (inr (inr (sym e))))))
    at (suc (suc (suc (suc (suc (suc (suc i))))))) below e = absurd (omega arith)

pub some_kind : (m : ℕ) (before : Option Before) → before ≡ None → IsDue m before Split
some_kind m before start = subst (λ z. IsDue m z Split) (sym start) (4, omega arith, refl)

pub split_kind : (w : Word) → IsKind w → w ≢ Triple → w ≢ NoIdentity → w ≢ Central → w ≢ Ideal → w ≢ Ramified
    → w ≢ RamifiedInfinity → w ≡ Split
split_kind w (inl e) a b c d g h = absurd (a e)
split_kind w (inr (inl e)) a b c d g h = absurd (b e)
split_kind w (inr (inr (inl e))) a b c d g h = absurd (c e)
split_kind w (inr (inr (inr (inl e)))) a b c d g h = absurd (d e)
split_kind w (inr (inr (inr (inr (inl e))))) a b c d g h = e
split_kind w (inr (inr (inr (inr (inr (inl e)))))) a b c d g h = absurd (g e)
split_kind w (inr (inr (inr (inr (inr (inr e)))))) a b c d g h = absurd (h e)

-- no fraction follows the word of another kind than a finite place
pub no_fraction_behind : (m : ℕ) (w : Word) → IsKind w → w ≢ Ramified → fraction_count m w ≡ 0
no_fraction_behind m w (inl e) other = ap (fraction_count m) e
no_fraction_behind m w (inr (inl e)) other = ap (fraction_count m) e
no_fraction_behind m w (inr (inr (inl e))) other = ap (fraction_count m) e
no_fraction_behind m w (inr (inr (inr (inl e)))) other = ap (fraction_count m) e
no_fraction_behind m w (inr (inr (inr (inr (inl e))))) other = ap (fraction_count m) e
no_fraction_behind m w (inr (inr (inr (inr (inr (inl e)))))) other = absurd (other e)
no_fraction_behind m w (inr (inr (inr (inr (inr (inr e)))))) other = ap (fraction_count m) e

three_items : (ns : List ℕ) → length ns ≡ 3 → ns ≡ get_or ns 0 0 ∷ get_or ns 1 0 ∷ get_or ns 2 0 ∷ []
three_items [] e = absurd (omega arith)
three_items (a ∷ []) e = absurd (omega arith)
three_items (a ∷ b ∷ []) e = absurd (omega arith)
three_items (a ∷ b ∷ d ∷ []) e = refl
three_items (a ∷ b ∷ d ∷ k ∷ ns) e = absurd (omega arith)

-- ---- the line of a kind that was read

module _ (f : SmallField) (n : ℕ) (a b : Reader) (l : Line) (p : Reads f n a (l ∷ []) b) (none : l.fractions ≡ [])
    (w : Word) (ns : List ℕ) (word : w ≡ l.word) (numbers : ns ≡ l.numbers) where
  right : IsRight f n a.before l
  right = line_right f n a b l p

  -- one without numbers
  pub plain_kind : (v : Word) → w ≡ v → number_count v ≡ 0 → l ≡ record { word = v; numbers = []; fractions = [] }
  plain_kind v is count =
      line_is l v [] [] (sym word ∙ is)
      (no_items l.numbers (right.form.number_count ∙ ap number_count (sym word ∙ is) ∙ count)) none

  pub triple_kind : w ≡ Triple → (i j k : ℕ) → i ≡ get_or ns 0 0 → j ≡ get_or ns 1 0 → k ≡ get_or ns 2 0
      → (l ≡ record { word = Triple; numbers = i ∷ j ∷ k ∷ []; fractions = [] }) × TripleFits (n * n) i j k
  triple_kind is i j k ei ej ek =
      let v : l.word ≡ Triple = sym word ∙ is in
      let items : l.numbers ≡ i ∷ j ∷ k ∷ [] =
      sym numbers ∙ three_items ns (ap length numbers ∙ right.form.number_count ∙ ap number_count v)
      ∙ ap (λ x. x ∷ get_or ns 1 0 ∷ get_or ns 2 0 ∷ []) (sym ei)
      ∙ ap₂ (λ y z. i ∷ y ∷ z ∷ []) (sym ej) (sym ek) in
      let range : AllByRecursion (λ x. (1 ≤ x) × (x ≤ greatest n Triple)) (i ∷ j ∷ k ∷ []) =
      subst (λ u. AllByRecursion (λ x. (1 ≤ x) × (x ≤ greatest n u)) (i ∷ j ∷ k ∷ [])) v
      (subst (AllByRecursion (λ x. (1 ≤ x) × (x ≤ greatest n l.word))) items right.range.numbers) in
      (line_is l Triple (i ∷ j ∷ k ∷ []) [] v items none, (range.0, range.1.0, range.1.1.0))

  pub ideal_kind : w ≡ Ideal → (d : ℕ) → d ≡ get_or ns 0 0
      → (l ≡ record { word = Ideal; numbers = d ∷ []; fractions = [] }) × (1 ≤ d) × (d ≤ n * n - 1)
  ideal_kind is d e =
      let v : l.word ≡ Ideal = sym word ∙ is in
      let items : l.numbers ≡ d ∷ [] =
      sym numbers ∙ one_item ns (ap length numbers ∙ right.form.number_count ∙ ap number_count v)
      ∙ ap (λ x. x ∷ []) (sym e) in
      let range : AllByRecursion (λ x. (1 ≤ x) × (x ≤ greatest n Ideal)) (d ∷ []) =
      subst (λ u. AllByRecursion (λ x. (1 ≤ x) × (x ≤ greatest n u)) (d ∷ [])) v
      (subst (AllByRecursion (λ x. (1 ≤ x) × (x ≤ greatest n l.word))) items right.range.numbers) in
      (line_is l Ideal (d ∷ []) [] v items none, range.0.0, range.0.1)

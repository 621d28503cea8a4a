-- How fractions, rows, matrices and unit tuples are spelled one after the other.
use Rattle.std.proofs.Common.{◌≡◌, ℕ, suc, ◌+◌, ◌/◌, ◌%◌, ◌<◌, List, [], ◌∷◌, ◌++◌, length, take, get_or, map}
use Rattle.std.proofs.Common.{refl, sym, ap, ap₂, ◌∙◌, arith, append_assoc, append-nil}
use Rattle.std.specs.Prelude.{codes}
use Rattle.std.specs.List.{flat_map}
use Rattle.std.proofs.Math.Seq.{take-suc, take-length}
use Rattle.std.proofs.lemmas.List.{length-take, map-append}
use Rattle.std.proofs.lemmas.List.Concat.{flat_map-append}
use Rattle.std.proofs.lemmas.List.Folds.{flat_map-map}
use Rattle.theory_fractions.specs.Fraction.{Pair}
use Rattle.spl_text.specs.Text.{line, fraction_text, coefficients_text}
use Rattle.spl_fraction.specs.CanonicalWords.{words_of}
use Rattle.spl_fraction.specs.declared.place.Place.{Place}
use Rattle.spl_fraction.specs.declared.place.Place.TheVariants.{Finite}
use Rattle.spl_fraction.proofs.CanonicalTexts.{text_words}
use Rattle.spl_evidence.specs.Line.{Line, fractions_text, line_text, lines_text}
use Rattle.spl_evidence.specs.Evidence.{fractions_line, place_line}
use Rattle.spl_evidence.specs.Evidence.{tuple_line, multiplier_line, map_line, map_lines, unit_line, unit_lines}
use Rattle.spl_evidence.specs.Evidence.{kind_line, body_lines, end_line, first_line, evidence_text}
use Rattle.spl_evidence.specs.declared.evidence.Evidence.{Evidence}
use Rattle.spl_evidence.specs.declared.evidence.Evidence.TheVariants.{NoIdentity, Ideal, Split, Ramified}
use Rattle.spl_evidence.specs.declared.word.Word.TheVariants.{Left, Right, Order, Radical}

pub fractions_spelled : (a : List (Pair ℕ))
    → flat_map (λ x. codes " " ++ fraction_text (words_of x)) a ≡ fractions_text (map words_of a)
fractions_spelled a = sym (flat_map-map (λ t. codes " " ++ fraction_text t) words_of a)

pub rows_spelled : (rows : List (List (Pair ℕ)))
    → flat_map (λ row. fractions_text (map words_of row)) rows ≡ fractions_text
    (map words_of (flat_map (λ row. row) rows))
rows_spelled [] = refl
rows_spelled (row ∷ rows) =
    let flat = flat_map (λ r. r) rows in
    ap (λ t. fractions_text (map words_of row) ++ t) (rows_spelled rows)
    ∙ sym (flat_map-append (λ t. codes " " ++ fraction_text t) (map words_of row) (map words_of flat))
    ∙ ap fractions_text (sym (map-append words_of row flat))

pub lines_text-append : (ls ks : List Line) → lines_text (ls ++ ks) ≡ lines_text ls ++ lines_text ks
lines_text-append ls ks = flat_map-append (λ l. line (line_text l)) ls ks

pub map_lines-push : (count : ℕ) (xs : List (List (List (Pair ℕ)))) (x : List (List (Pair ℕ)))
    → map_lines count (xs ++ x ∷ []) ≡ map_lines count xs ++ map_line (count + length xs + 1) x ∷ []
map_lines-push count [] x = let e : count + 1 ≡ count + 0 + 1 = omega arith in ap (λ i. map_line i x ∷ []) e
map_lines-push count (y ∷ xs) x =
    let e : suc count + length xs + 1 ≡ count + suc (length xs) + 1 = omega arith in
    ap (λ t. map_line (count + 1) y ∷ t)
    (map_lines-push (suc count) xs x ∙ ap (λ i. map_lines (suc count) xs ++ map_line i x ∷ []) e)

pub unit_lines-push : (n place : ℕ) (xs : List (List (Pair ℕ))) (x : List (Pair ℕ))
    → unit_lines n place (xs ++ x ∷ []) ≡ unit_lines n place xs
    ++ unit_line ((place + length xs) / n + 1) ((place + length xs) % n + 1) x ∷ []
unit_lines-push n place [] x = let e : place ≡ place + 0 = omega arith in
    ap (λ i. unit_line (i / n + 1) (i % n + 1) x ∷ []) e
unit_lines-push n place (y ∷ xs) x =
    let e : suc place + length xs ≡ place + suc (length xs) = omega arith in
    ap (λ t. unit_line (place / n + 1) (place % n + 1) y ∷ t)
    (unit_lines-push n (suc place) xs x
    ∙ ap (λ i. unit_lines n (suc place) xs ++ unit_line (i / n + 1) (i % n + 1) x ∷ []) e)

-- one line more behind a text
pub one_more : (old : List ℕ) (ls : List Line) (l : Line)
    → (old ++ lines_text ls) ++ line (line_text l) ≡ old ++ lines_text (ls ++ l ∷ [])
one_more old ls l =
    append_assoc old (lines_text ls) (line (line_text l))
    ∙ ap (λ t. old ++ t) (sym (lines_text-append ls (l ∷ [])
    ∙ ap (λ t. lines_text ls ++ t) (append-nil (line (line_text l)))))

-- a loop over a list has written all of it
pub all_written : {X : Type 0} (g : X → List ℕ) (old new : List ℕ) (xs : List X) (i : ℕ) (whole : List ℕ)
    → i ≡ length xs → new ≡ old ++ flat_map g (take i xs) → flat_map g xs ≡ whole → new ≡ old ++ whole
all_written g old new xs i whole at e same =
    e ∙ ap (λ k. old ++ flat_map g (take k xs)) at ∙ ap (λ t. old ++ flat_map g t) (take-length xs)
    ∙ ap (λ t. old ++ t) same

pub map_written : (old out new : List ℕ) (maps : List (List (List (Pair ℕ)))) (i : ℕ) (x : List (List (Pair ℕ)))
    → i < length maps → out ≡ old ++ lines_text (map_lines 0 (take i maps)) → get_or maps i x ≡ x
    → new ≡ out ++ line (line_text (map_line (i + 1) x)) → new ≡ old ++ lines_text (map_lines 0 (take (suc i) maps))
map_written old out new maps i x below before read e =
    let count : 0 + length (take i maps) + 1 ≡ i + 1 = omega (arith, length-take i maps) in
    e ∙ ap (λ t. t ++ line (line_text (map_line (i + 1) x))) before
    ∙ one_more old (map_lines 0 (take i maps)) (map_line (i + 1) x)
    ∙ ap (λ ls. old ++ lines_text ls) (ap (λ k. map_lines 0 (take i maps) ++ map_line k x ∷ []) (sym count)
    ∙ sym (map_lines-push 0 (take i maps) x)
    ∙ ap (λ xs. map_lines 0 xs) (ap (λ y. take i maps ++ y ∷ []) (sym read) ∙ sym (take-suc maps i x below)))

pub unit_written : (n : ℕ) (old out new : List ℕ) (units : List (List (Pair ℕ))) (i : ℕ) (x : List (Pair ℕ))
    → i < length units → out ≡ old ++ lines_text (unit_lines n 0 (take i units)) → get_or units i x ≡ x
    → new ≡ out ++ line (line_text (unit_line (i / n + 1) (i % n + 1) x))
    → new ≡ old ++ lines_text (unit_lines n 0 (take (suc i) units))
unit_written n old out new units i x below before read e =
    let place : 0 + length (take i units) ≡ i = omega (arith, length-take i units) in
    e ∙ ap (λ t. t ++ line (line_text (unit_line (i / n + 1) (i % n + 1) x))) before
    ∙ one_more old (unit_lines n 0 (take i units)) (unit_line (i / n + 1) (i % n + 1) x)
    ∙ ap (λ ls. old ++ lines_text ls)
    (ap (λ k. unit_lines n 0 (take i units) ++ unit_line (k / n + 1) (k % n + 1) x ∷ []) (sym place)
    ∙ sym (unit_lines-push n 0 (take i units) x)
    ∙ ap (λ xs. unit_lines n 0 xs) (ap (λ y. take i units ++ y ∷ []) (sym read) ∙ sym (take-suc units i x below)))

-- ---- the lines of a kind and those behind it

pub sides_spelled : (l r : List (ℕ × ℕ × Pair ℕ))
    → lines_text (kind_line (NoIdentity l r) ∷ body_lines 0 (NoIdentity l r)) ≡ line (codes "noidentity")
    ++ (flat_map (λ item. line (line_text (multiplier_line Left item))) l
    ++ flat_map (λ item. line (line_text (multiplier_line Right item))) r)
sides_spelled l r =
    ap (λ t. line (codes "noidentity") ++ t)
    (lines_text-append (map (multiplier_line Left) l) (map (multiplier_line Right) r)
    ∙ ap₂ (λ s t. s ++ t) (flat_map-map (λ k. line (line_text k)) (multiplier_line Left) l)
    (flat_map-map (λ k. line (line_text k)) (multiplier_line Right) r))

pub ideal_spelled : (ts : List (List (Pair ℕ)))
    → lines_text (kind_line (Ideal ts) ∷ body_lines 0 (Ideal ts)) ≡ line (line_text (kind_line (Ideal ts)))
    ++ flat_map (λ a. line (line_text (tuple_line a))) ts
ideal_spelled ts =
    ap (λ t. line (line_text (kind_line (Ideal ts))) ++ t) (flat_map-map (λ k. line (line_text k)) tuple_line ts)

pub ramified_spelled : (place : Place) (os rs : List (List (Pair ℕ)))
    → lines_text (kind_line (Ramified place os rs) ∷ body_lines 0 (Ramified place os rs))
    ≡ line (line_text (place_line place)) ++ (flat_map (λ a. line (line_text (fractions_line Order a))) os
    ++ flat_map (λ a. line (line_text (fractions_line Radical a))) rs)
ramified_spelled place os rs =
    ap (λ t. line (line_text (place_line place)) ++ t)
    (lines_text-append (map (fractions_line Order) os) (map (fractions_line Radical) rs)
    ∙ ap₂ (λ s t. s ++ t) (flat_map-map (λ k. line (line_text k)) (fractions_line Order) os)
    (flat_map-map (λ k. line (line_text k)) (fractions_line Radical) rs))

pub place_spelled : (p : List ℕ)
    → line (line_text (place_line (Finite p))) ≡ codes "ramified " ++ (coefficients_text p ++ codes "\n")
place_spelled p =
    let text : fraction_text (words_of (p, 1 ∷ [])) ≡ coefficients_text p =
    sym (text_words (p, 1 ∷ [])) ∙ append-nil (coefficients_text p) in
    let whole : fraction_text (words_of (p, 1 ∷ [])) ++ [] ≡ coefficients_text p =
    append-nil (fraction_text (words_of (p, 1 ∷ []))) ∙ text in
    ap (λ t. codes "ramified " ++ (t ++ 10 ∷ [])) whole

pub split_spelled : (n : ℕ) (maps : List (List (List (Pair ℕ)))) (units : List (List (Pair ℕ)))
    → lines_text (kind_line (Split maps units) ∷ body_lines n (Split maps units)) ≡ line (codes "split")
    ++ (lines_text (map_lines 0 maps) ++ lines_text (unit_lines n 0 units))
split_spelled n maps units =
    ap (λ t. line (codes "split") ++ t) (lines_text-append (map_lines 0 maps) (unit_lines n 0 units))

pub evidence_spelled : (n : ℕ) (e : Evidence)
    → (first_line ++ lines_text (kind_line e ∷ body_lines n e)) ++ line (codes "end") ≡ evidence_text n e
evidence_spelled n e =
    append_assoc first_line (lines_text (kind_line e ∷ body_lines n e)) (line (codes "end"))
    ∙ ap (λ t. first_line ++ t) (sym (lines_text-append (kind_line e ∷ body_lines n e) (end_line ∷ [])))

-- ---- pieces behind one another

pub two_pieces : (old first new a b : List ℕ) → first ≡ old ++ a → new ≡ first ++ b → new ≡ old ++ (a ++ b)
two_pieces old first new a b p q = q ∙ ap (λ t. t ++ b) p ∙ append_assoc old a b

pub three_pieces : (old first second new a b d : List ℕ) → first ≡ old ++ a → second ≡ first ++ b → new ≡ second ++ d
    → new ≡ old ++ (a ++ (b ++ d))
three_pieces old first second new a b d p q r =
    r ∙ ap (λ t. t ++ d) (two_pieces old first second a b p q) ∙ append_assoc old (a ++ b) d
    ∙ ap (λ t. old ++ t) (append_assoc a b d)

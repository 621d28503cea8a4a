-- All lines of evidence that fits are right, and nothing is due behind them.
use Rattle.std.proofs.Common.{◌≡◌, ℕ, suc, ◌+◌, ◌*◌, ◌<◌, ◌≤◌, List, [], ◌∷◌, ◌++◌}
use Rattle.std.proofs.Common.{length, map, Some, None, refl, sym, subst, arith, append_assoc}
use Rattle.std.specs.List.{All}
use Rattle.std.proofs.lemmas.List.Elements.{All-nil, All-cons, All-from_get_or}
use Rattle.theory_rings.specs.Ops.{Ops, IsElem}
use Rattle.theory_fractions.specs.Fraction.{Pair}
use Rattle.theory_tables.specs.Split.{IsSquare}
use Rattle.spl_field.specs.declared.small.SmallField.{SmallField}
use Rattle.spl_text.specs.Text.{IsNumber}
use Rattle.spl_fraction.specs.FractionsOver.{fractions_over}
use Rattle.spl_evidence.specs.Line.{number_count, fraction_count, HasLists}
use Rattle.spl_evidence.specs.Evidence.{Fits, tuple_line, multiplier_line, map_lines}
use Rattle.spl_evidence.specs.Evidence.{unit_lines, kind_line, end_line, lines_of, fractions_line, place_line}
use Rattle.spl_evidence.specs.Evidence.{PlaceFits}
use Rattle.spl_evidence.specs.Refusal.{up_to, end_at, due_at_place, due_words, IsDue, IsAllowed, IsRight}
use Rattle.spl_evidence.specs.declared.evidence.Evidence.{Evidence}
use Rattle.spl_evidence.specs.declared.evidence.Evidence.TheVariants.{Triple, NoIdentity, Central, Ideal, Split}
use Rattle.spl_evidence.specs.declared.evidence.Evidence.TheVariants.{Ramified}
use Rattle.spl_evidence.specs.declared.word.Word.{Word}
use Rattle.spl_evidence.specs.declared.word.Word.TheVariants.{Triple as TripleWord, NoIdentity as NoIdentityWord}
use Rattle.spl_evidence.specs.declared.word.Word.TheVariants.{Central as CentralWord, Ideal as IdealWord}
use Rattle.spl_evidence.specs.declared.word.Word.TheVariants.{Split as SplitWord, Left, Right, Order}
use Rattle.spl_evidence.specs.declared.word.Word.TheVariants.{Ramified as RamifiedWord, RamifiedInfinity, Radical, End}
use Rattle.spl_fraction.specs.declared.place.Place.TheVariants.{Finite, Infinity}
use Rattle.theory_tables.specs.Matrix.{IsMatrix}
use Rattle.std.specs.Prelude.{Contains}
use Rattle.spl_evidence.proofs.RightLines.DueWords.{due_more, due_next, due_end, not_past, not_behind_end}
use Rattle.spl_evidence.proofs.RightLines.ElementWords.{word_forms, word_ranges, word_terms, monic_numbers}
use Rattle.spl_evidence.proofs.RightLines.TupleLines.{number, whole-cons, end_right, IsWhole, IsTupleWord, at}
use Rattle.spl_evidence.proofs.RightLines.TupleLines.{rows_whole, tuples_whole}
use Rattle.spl_evidence.proofs.RightLines.MultiplierLines.{at_side, sides_whole}
use Rattle.spl_evidence.proofs.RightLines.MatrixLines.{at_split, maps_whole, units_whole}

module _ (f : SmallField) where
  abbrev K : Ops (Pair ℕ)
  K = fractions_over f

  module _ (n : ℕ) (few : IsNumber (n * n)) where
    pub triple_right : (i j k : ℕ) → (1 ≤ i) × (i ≤ n * n) → (1 ≤ j) × (j ≤ n * n) → (1 ≤ k) × (k ≤ n * n)
        → IsRight f n None (kind_line (Triple i j k))
    triple_right i j k hi hj hk = record {
      form = record {
        number_count = refl;
        numbers = (number f n few i hi.1, (number f n few j hj.1, (number f n few k hk.1, tt)));
        fraction_count = refl;
        fractions = tt;
        lists = tt;
      };
      due = (0, omega arith, refl);
      range = record { numbers = (hi, (hj, (hk, tt))); elements = tt };
      order = tt;
      terms = record { canonical = tt; allowed = tt };
    }

    pub ideal_right : (ts : List (List (Pair ℕ))) → 1 ≤ length ts → length ts < n * n
        → IsRight f n None (kind_line (Ideal ts))
    ideal_right ts some fewer = record {
      form = record {
        number_count = refl;
        numbers = (number f n few (length ts) (omega arith), tt);
        fraction_count = refl;
        fractions = tt;
        lists = tt;
      };
      due = (3, omega arith, refl);
      range = record { numbers = ((some, omega arith), tt); elements = tt };
      order = tt;
      terms = record { canonical = tt; allowed = tt };
    }

    -- the line of a kind without numbers
    pub plain_right : (w : Word) → IsDue (n * n) None w → number_count w ≡ 0 → fraction_count (n * n) w ≡ 0
        → HasLists w [] → IsAllowed w [] → IsRight f n None (record { word = w; numbers = []; fractions = [] })
    plain_right w due no_number no_fraction lists allowed = record {
      form = record {
        number_count = sym no_number;
        numbers = tt;
        fraction_count = sym no_fraction;
        fractions = tt;
        lists = lists;
      };
      due = due;
      range = record { numbers = tt; elements = tt };
      order = tt;
      terms = record { canonical = tt; allowed = allowed };
    }

    -- the line of a finite place
    place_right : (p : List ℕ) → PlaceFits K (Finite p) → IsRight f n None (place_line (Finite p))
    place_right p h =
        let elems : All (IsElem K) ((p, 1 ∷ []) ∷ []) = All-cons (IsElem K) (p, 1 ∷ []) [] h.0 (All-nil (IsElem K)) in
        record {
          form = record {
            number_count = refl;
            numbers = tt;
            fraction_count = refl;
            fractions = word_forms f ((p, 1 ∷ []) ∷ []) elems;
            lists = (refl, tt);
          };
          due = (5, omega arith, refl);
          range = record { numbers = tt; elements = word_ranges f ((p, 1 ∷ []) ∷ []) elems };
          order = tt;
          terms = record {
            canonical = word_terms f ((p, 1 ∷ []) ∷ []) elems;
            allowed = (monic_numbers p h.1, tt);
          };
        }

    -- the lines behind that of a place
    order_word : IsTupleWord f n few Order
    order_word = record {
      takes = record { count = refl; allowed = λ ts. tt };
      no_numbers = refl;
      lists = λ ts. tt;
      order = λ b ts. tt;
    }

    radical_word : IsTupleWord f n few Radical
    radical_word = record {
      takes = record { count = refl; allowed = λ ts. tt };
      no_numbers = refl;
      lists = λ ts. tt;
      order = λ b ts. tt;
    }

    place_rows_whole : (kind : Word) → ((count : ℕ) (last : Word) (j k : ℕ)
        → due_words (n * n) (Some (at f n few kind 0 count last j k)) ≡ due_at_place (n * n) count)
        → (order radical : List (List (Pair ℕ))) → length order ≡ n * n → IsMatrix K (n * n) order
        → length radical ≡ n * n → IsMatrix K (n * n) radical
        → IsWhole f n few (Some (at f n few kind 0 0 kind 0 0))
        (map (fractions_line Order) order ++ (map (fractions_line Radical) radical ++ end_line ∷ []))
    place_rows_whole kind are order radical many h count g =
        let m = n * n in
        rows_whole f n few kind 0 Order order_word 0 m kind 0 0 order
        (map (fractions_line Radical) radical ++ end_line ∷ []) (omega (arith, many))
        (λ i v a b low high. rw (are i v a b) (due_more i m Order (up_to i (m + m) Radical (end_at i (m + m))) high))
        (λ v a b. rows_whole f n few kind 0 Radical radical_word m (m + m) v a b radical (end_line ∷ [])
        (omega (arith, count))
        (λ i v a b low high. rw (are i v a b)
        (due_next i m Order Radical (up_to i (m + m) Radical (end_at i (m + m))) low
        (due_more i (m + m) Radical (end_at i (m + m)) high)))
        (λ v a b. whole-cons f n few (Some (at f n few kind 0 (m + m) v a b)) end_line []
        (end_right f n few (at f n few kind 0 (m + m) v a b) (rw (are (m + m) v a b)
        (due_next (m + m) m Order End (up_to (m + m) (m + m) Radical (end_at (m + m) (m + m))) (omega arith)
        (due_next (m + m) (m + m) Radical End (end_at (m + m) (m + m)) (omega arith)
        (due_end (m + m) (m + m) refl))))) (
          tt,
          λ w due.
              let i = suc (m + m) in
              not_past i m Order w (up_to i (m + m) Radical (end_at i (m + m))) (omega arith)
              (not_past i (m + m) Radical w (end_at i (m + m)) (omega arith)
              (not_behind_end i (m + m) w (λ e. omega arith)))
              (subst (λ ws. Contains ws w) (are i End 0 0) due),
        )) g) h

    pub lines_whole : (e : Evidence) → Fits K n e → IsWhole f n few None (lines_of n e)
    unfolding at_side at_split
    lines_whole (Triple i j k) h =
        whole-cons f n few None (kind_line (Triple i j k)) (end_line ∷ []) (triple_right i j k h.0 h.1 h.2)
        (tuples_whole f n few TripleWord 0 (λ count last j k. refl) 0 TripleWord 0 0 [] refl
        (λ k d below. absurd (omega arith)))
    lines_whole (NoIdentity left right) h =
        let ls = map (multiplier_line Left) left in
        let rs = map (multiplier_line Right) right in
        whole-cons f n few None (kind_line (NoIdentity left right)) ((ls ++ rs) ++ end_line ∷ [])
        (plain_right NoIdentityWord (1, omega arith, refl) refl refl tt tt)
        (subst (IsWhole f n few (Some (at_side f n few 0 NoIdentityWord 0 0)))
        (sym (append_assoc ls rs (end_line ∷ [])))
        (sides_whole f n few left right h.0 h.1))
    lines_whole (Central a) h =
        whole-cons f n few None (kind_line (Central a)) (tuple_line a ∷ end_line ∷ [])
        (plain_right CentralWord (2, omega arith, refl) refl refl tt tt)
        (tuples_whole f n few CentralWord 1 (λ count last j k. refl) 0 CentralWord 0 0 (a ∷ []) refl
        (λ k d below. let first : k ≡ 0 = omega arith in rw first h))
    lines_whole (Ideal ts) h =
        whole-cons f n few None (kind_line (Ideal ts)) (map tuple_line ts ++ end_line ∷ []) (ideal_right ts h.0 h.1)
        (tuples_whole f n few IdealWord (length ts) (λ count last j k. refl) 0 IdealWord 0 0 ts (omega arith) h.2)
    lines_whole (Ramified (Finite p) order radical) h =
        let os = map (fractions_line Order) order in
        let rs = map (fractions_line Radical) radical in
        whole-cons f n few None (place_line (Finite p)) ((os ++ rs) ++ end_line ∷ []) (place_right p h.place_fits)
        (subst (IsWhole f n few (Some (at f n few RamifiedWord 0 0 RamifiedWord 0 0)))
        (sym (append_assoc os rs (end_line ∷ [])))
        (place_rows_whole RamifiedWord (λ count last j k. refl) order radical h.order_count h.order_tuples
        h.radical_count h.radical_tuples))
    lines_whole (Ramified Infinity order radical) h =
        let os = map (fractions_line Order) order in
        let rs = map (fractions_line Radical) radical in
        whole-cons f n few None (place_line Infinity) ((os ++ rs) ++ end_line ∷ [])
        (plain_right RamifiedInfinity (6, omega arith, refl) refl refl tt tt)
        (subst (IsWhole f n few (Some (at f n few RamifiedInfinity 0 0 RamifiedInfinity 0 0)))
        (sym (append_assoc os rs (end_line ∷ [])))
        (place_rows_whole RamifiedInfinity (λ count last j k. refl) order radical h.order_count h.order_tuples
        h.radical_count h.radical_tuples))
    lines_whole (Split maps units) h =
        let ms = map_lines 0 maps in
        let us = unit_lines n 0 units in
        let squares : All (IsSquare K n) maps = All-from_get_or (IsSquare K n) maps []
        (λ k below. h.square k (omega (arith, h.map_count))) in
        whole-cons f n few None (kind_line (Split maps units)) ((ms ++ us) ++ end_line ∷ [])
        (plain_right SplitWord (4, omega arith, refl) refl refl tt tt)
        (subst (IsWhole f n few (Some (at_split f n few 0 SplitWord 0 0))) (sym (append_assoc ms us (end_line ∷ [])))
        (maps_whole f n few 0 SplitWord 0 0 maps (us ++ end_line ∷ []) (omega (arith, h.map_count)) squares
        (λ last j k. subst (λ c. IsWhole f n few (Some (at_split f n few c last j k)) (us ++ end_line ∷ [])) (all_of n)
        (units_whole f n few 0 last j k units (omega (arith, h.unit_count)) h.tuples))))
      where
        all_of : (h : ℕ) → h * h + 0 ≡ h * h
        all_of h = omega arith

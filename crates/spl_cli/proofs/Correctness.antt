-- What a run of `decide` or `check` on a told input comes to, and what a run over streams that don't fail.
use Rattle.std.specs.Prelude.{◌≡◌, ◌⊎◌, ℕ, ◌+◌, ◌<◌, ◌≤◌, Bool, IsTrue, List, [], ◌∷◌, ◌++◌, length, take, codes}
use Rattle.std.specs.Prelude.{Option, Some, None, IfSome, refl}
use Rattle.std.proofs.Common.{inl, inr, ⊎_elim, sym, ◌∙◌, ap, subst, arith, length-append}
use Rattle.std.proofs.lemmas.Bool.{cases_lt}
use Rattle.std.proofs.lemmas.List.{length-take-le}
use Rattle.std.specs.Io.KnownBytes.{Appends}
use Rattle.theory_rings.specs.Ops.{Ops}
use Rattle.theory_fractions.specs.Fraction.{Pair}
use Rattle.theory_tables.specs.Structure.{Structure}
use Rattle.theory_tables.specs.Algebras.{IsCentralSimple}
use Rattle.spl_field.specs.declared.small.SmallField.{SmallField}
use Rattle.spl_fraction.specs.FractionsOver.{fractions_over}
use Rattle.spl_outside.specs.Faults.{Rose}
use Rattle.spl_outside.specs.Prefix.{AppendsPart}
use Rattle.spl_outside.specs.Room.{HasRoom}
use Rattle.spl_table.specs.Refusal.{whole, IsRefusal}
use Rattle.spl_table.proofs.OneRefusal.{refusal_unique}
use Rattle.spl_table.proofs.TextLaws.{table_unique, no_table_fault}
use Rattle.spl_table.proofs.Agreement.Tables.{tables_agree}
use Rattle.spl_table.specs.TableText.{TableText, line_of_end}
use Rattle.spl_table.specs.Table.{field_of, degree_of, algebra_of, ops_of, IsTableOf}
use Rattle.spl_table.specs.declared.table.Table.{Table}
use Rattle.spl_table.specs.declared.refusal.Refusal.{Refusal}
use Rattle.spl_table.specs.declared.refusal.Kind.TheVariants.{TooLong}
use Rattle.spl_evidence.specs.Claim.{Claim}
use Rattle.spl_evidence.specs.declared.evidence.Evidence.{Evidence}
use Rattle.spl_evidence.specs.declared.evidence.Evidence.TheVariants.{Triple, NoIdentity, Central, Ideal, Split, Ramified}
use Rattle.spl_evidence.specs.Shown.{IsNoMatrixAlgebra}
use Rattle.spl_engine.specs.Kind.{IsEvidence}
use Rattle.spl_check.specs.Verdict.{FailsFirst, conditions}
use Rattle.spl_cli.specs.declared.status.Status.{Status}
use Rattle.spl_cli.specs.declared.status.Status.TheVariants.{Done, No, Usage, Refused, ReadFault, WriteFault, Memory}
use Rattle.spl_cli.specs.declared.words.Form.{Form}
use Rattle.spl_cli.specs.declared.words.Form.TheVariants.{Decide, Check}
use Rattle.spl_cli.specs.Forms.{form_of}
use Rattle.spl_cli.specs.Report.{Report, refusal_text, evidence_refusal_text, no_text, Stands, IsDecided, IsUndecided}
use Rattle.spl_cli.specs.Report.{IsRefused, IsTableAndEvidence, SaysYes, SaysNo, IsCheckRefused}
use Rattle.spl_cli.specs.Report.{IsDone, IsNo, IsRefusedBy}
use Rattle.spl_cli.specs.Run.{IsAnswer}
use Rattle.spl_cli.specs.Finish.{source_state, sink_state}
use Rattle.spl_cli.specs.Correct.{RunsWell, DecidesInput, ChecksInput, RunComesTo, OneReport, RunDecides, RunChecks}
use Rattle.spl_cli.specs.Correct.{RunIsQuiet, IsOfPlace, IsOpen}
use Rattle.spl_cli.proofs.SameAnswers.{claim_over, fails_over, fails_claim, yes_or_no, one_condition, read_or_refused}
use Rattle.spl_cli.proofs.SameAnswers.{one_check_refusal}

-- known bytes that grew, where both are told
grown : (before : List ℕ) (old new : Option (List ℕ)) (bytes : List ℕ) → old ≡ Some before → Appends old new bytes
    → new ≡ Some (before ++ bytes)
grown before None new bytes e a = absurd (cc)
grown before (Some xs) None bytes e a = absurd a
grown before (Some xs) (Some ys) bytes e a = let same : xs ≡ before = cc in ap Some (a ∙ ap (λ l. l ++ bytes) same)

-- the input of the report is the one that was told
told_input : (left : Option (List ℕ)) (input other : List ℕ) → left ≡ Some input
    → IfSome left (λ bytes. bytes ≡ other) → other ≡ input
told_input None input other e t = absurd (cc)
told_input (Some xs) input other e t = let same : xs ≡ input = cc in sym t ∙ same

-- evidence that is no ramified place shows that the algebra is no matrix algebra
place_or_none : (f : SmallField) (A : Structure (Pair ℕ)) (n : ℕ) (e : Evidence) → IsEvidence f A n e
    → IsOfPlace e ⊎ IsNoMatrixAlgebra (fractions_over f) A
place_or_none f A n (Triple i j k) h = inr h.shows
place_or_none f A n (NoIdentity left right) h = inr h.shows
place_or_none f A n (Central tuple) h = inr h.shows
place_or_none f A n (Ideal tuples) h = inr h.shows
place_or_none f A n (Split maps units) h = absurd h.kind
place_or_none f A n (Ramified place order radical) h = inl tt

-- an input is not both decided and undecided, but perhaps by a ramified place: its tables have the same algebra
exclusive : (input bytes : List ℕ) (refusal : Refusal) (d : IsDecided input bytes) → IsUndecided input refusal
    → (let s = d.shows in IsOfPlace s.evidence)
exclusive input bytes refusal d u =
    let a = u.stands in
    let b = d.stands in
    let same = (table_unique whole input b.text a.text [] [] b.is_text a.is_text).0 in
    let right = let is = a.is_text in is.well_formed in
    let agree = tables_agree a.text right u.table d.table a.is_table
    (subst (λ (t : TableText). IsTableOf t d.table) same b.is_table) in
    let shows = d.shows in
    let orders = u.unimodular in
    let none = orders.no_fault in
    ⊎_elim (λ (p : IsOfPlace shows.evidence). p)
    (λ (excluded : IsNoMatrixAlgebra (ops_of d.table) (algebra_of d.table)). absurd (excluded.not_central_simple
    (subst (IsCentralSimple (ops_of d.table)) agree.algebra
    (subst (λ (o : Ops (Pair ℕ)). IsCentralSimple o (algebra_of u.table)) agree.operations none.central_simple))))
    (place_or_none (field_of d.table) (algebra_of d.table) (degree_of d.table) shows.evidence shows.holds)

-- a text with a refusal is not one of a table
no_table : (input : List ℕ) (refusal : Refusal) (table : Table) → IsRefusal whole input refusal → Stands input table
    → ⊥
no_table input refusal table cause t = no_table_fault whole input t.text [] t.is_text refusal cause

-- a report of `decide` is one of its form
decide_form : (P : Form → Type 0) (form : Form) → form_of (codes "decide" ∷ []) ≡ Some form → P form → P Decide
decide_form P Decide e h = h
decide_form P Check e h = absurd (cc)

check_form : (P : Form → Type 0) (form : Form) → form_of (codes "check" ∷ []) ≡ Some form → P form → P Check
check_form P Decide e h = absurd (cc)
check_form P Check e h = h

-- what a report of `decide` says of its input
decides_done : (input bytes : List ℕ) → IsDecided input bytes → DecidesInput input bytes Done
decides_done input bytes d = record {
  refused = λ f refusal. absurd (no_table input f d.table refusal d.stands);
  decided = λ t text. inl (refl, d);
  excluded = λ f u other e. exclusive input other f e u;
}

decides_refused : (input bytes : List ℕ) → IsRefused input bytes → DecidesInput input bytes Refused
decides_refused input bytes d = ⊎_elim
    (λ (cause : IsRefusal whole input d.refusal). record {
      refused = λ f refusal. (refl, d.report ∙ ap refusal_text (refusal_unique input whole d.refusal f cause refusal));
      decided = λ t text. absurd (no_table_fault whole input t [] text d.refusal cause);
      excluded = λ f u other e. exclusive input other f e u;
    })
    (λ (undecided : IsUndecided input d.refusal). record {
      refused = λ f refusal. absurd (no_table input f undecided.table refusal undecided.stands);
      decided = λ t text. inr (
        refl,
        record { refusal = d.refusal; undecided = undecided; report = d.report },
      );
      excluded = λ f u other e. exclusive input other f e u;
    })
    d.cause

decides : (input bytes : List ℕ) (status : Status) → Report (codes "decide" ∷ []) input status bytes
    → DecidesInput input bytes status
decides input bytes Usage r = absurd (let e = r.0 in cc)
decides input bytes Done r =
    decides_done input bytes (decide_form (λ form. IsDone form input bytes) r.0 r.1 r.2)
decides input bytes Refused r =
    decides_refused input bytes (decide_form (λ form. IsRefusedBy form input bytes) r.0 r.1 r.2)
decides input bytes No r = absurd (decide_form (λ form. IsNo form input bytes) r.0 r.1 r.2)
decides input bytes ReadFault r = absurd r
decides input bytes WriteFault r = absurd r
decides input bytes Memory r = absurd r

-- what a report of `check` says of its input
checks_done : (input bytes : List ℕ) → SaysYes input bytes → ChecksInput input bytes Done
checks_done input bytes y = record {
  long = λ long. absurd (refused (inl (record { long = long; report = refl })));
  table = λ within r cause. absurd (refused (inr (inl (record {
    within = within;
    refusal = r;
    cause = cause;
    report = refl;
  }))));
  evidence = λ t s r cause. absurd (refused (inr (inr (record {
    table = t;
    stands = s;
    refusal = r;
    cause = cause;
    report = refl;
  }))));
  done = λ t e read. (λ _. claim t e read, λ _. refl);
  yes = λ t e read is. y.report;
  fails = λ t e read. (λ is. absurd (cc), λ not. absurd (not (claim t e read)));
  no = λ t e read c fails. absurd (fails_claim input t e read c fails (claim t e read));
}
  where
    refused : {other : List ℕ} → IsCheckRefused input other → ⊥
    refused {other} r = read_or_refused input other y.table y.evidence y.read r

    claim : (t : Table) (e : Evidence) → IsTableAndEvidence input t e
        → Claim (field_of t) (algebra_of t) (degree_of t) e
    claim t e read = claim_over input y.table t y.evidence e y.read read y.claim

checks_no : (input bytes : List ℕ) → SaysNo input bytes → ChecksInput input bytes No
checks_no input bytes n = record {
  long = λ long. absurd (refused (inl (record { long = long; report = refl })));
  table = λ within r cause. absurd (refused (inr (inl (record {
    within = within;
    refusal = r;
    cause = cause;
    report = refl;
  }))));
  evidence = λ t s r cause. absurd (refused (inr (inr (record {
    table = t;
    stands = s;
    refusal = r;
    cause = cause;
    report = refl;
  }))));
  done = λ t e read. (
    λ is. absurd (cc),
    λ claim. absurd (fails_claim input t e read n.condition (over t e read) claim),
  );
  yes = λ t e read is. absurd (cc);
  fails = λ t e read. (λ is. fails_claim input t e read n.condition (over t e read), λ not. refl);
  no = λ t e read c fails. one_condition input bytes (no_text c) n (record {
    table = t;
    evidence = e;
    read = read;
    condition = c;
    fails = fails;
    report = refl;
  });
}
  where
    refused : {other : List ℕ} → IsCheckRefused input other → ⊥
    refused {other} r = read_or_refused input other n.table n.evidence n.read r

    over : (t : Table) (e : Evidence) → IsTableAndEvidence input t e
        → FailsFirst (conditions (field_of t) (algebra_of t) (degree_of t) e) n.condition
    over t e read = fails_over input n.table t n.evidence e n.read read n.condition n.fails

checks_refused : (input bytes : List ℕ) → IsCheckRefused input bytes → ChecksInput input bytes Refused
checks_refused input bytes r = record {
  long = λ long. (
    refl,
    one_check_refusal input bytes (refusal_text (record { line = 0; kind = TooLong })) r
        (inl (record { long = long; report = refl })),
  );
  table = λ within f cause. (
    refl,
    one_check_refusal input bytes (refusal_text f) r
        (inr (inl (record { within = within; refusal = f; cause = cause; report = refl }))),
  );
  evidence = λ t s f cause. (
    refl,
    one_check_refusal input bytes (evidence_refusal_text f) r
        (inr (inr (record { table = t; stands = s; refusal = f; cause = cause; report = refl }))),
  );
  done = λ t e read. absurd (read_or_refused input bytes t e read r);
  yes = λ t e read. absurd (read_or_refused input bytes t e read r);
  fails = λ t e read. absurd (read_or_refused input bytes t e read r);
  no = λ t e read. absurd (read_or_refused input bytes t e read r);
}

checks : (input bytes : List ℕ) (status : Status) → Report (codes "check" ∷ []) input status bytes
    → ChecksInput input bytes status
checks input bytes Usage r = absurd (let e = r.0 in cc)
checks input bytes Done r = checks_done input bytes (check_form (λ form. IsDone form input bytes) r.0 r.1 r.2)
checks input bytes No r = checks_no input bytes (check_form (λ form. IsNo form input bytes) r.0 r.1 r.2)
checks input bytes Refused r =
    checks_refused input bytes (check_form (λ form. IsRefusedBy form input bytes) r.0 r.1 r.2)
checks input bytes ReadFault r = absurd r
checks input bytes WriteFault r = absurd r
checks input bytes Memory r = absurd r

-- ---- one report

-- a decided input is not refused, but perhaps as undecided
done_or_refused : (input bytes bytes' : List ℕ) → IsDecided input bytes → IsRefused input bytes' → IsOpen input
done_or_refused input bytes bytes' d r = ⊎_elim
    (λ (cause : IsRefusal whole input r.refusal). absurd (no_table input r.refusal d.table cause d.stands))
    (λ (u : IsUndecided input r.refusal). record {
      bytes = bytes;
      decided = d;
      refusal = r.refusal;
      undecided = u;
    })
    r.cause

-- two undecided tables have one line of `end`
one_line : (input : List ℕ) (f g : Refusal) → IsUndecided input f → IsUndecided input g → f ≡ g
one_line input f g u v =
    let a = u.stands in
    let b = v.stands in
    let same = (table_unique whole input a.text b.text [] [] a.is_text b.is_text).0 in
    let line : f.line ≡ g.line = u.line ∙ ap line_of_end same ∙ sym v.line in
    let kind : f.kind ≡ g.kind = u.kind ∙ sym v.kind in
    λ i. record { line = line i; kind = kind i }

one_refusal : (input bytes bytes' : List ℕ) → IsRefused input bytes → IsRefused input bytes' → bytes ≡ bytes'
one_refusal input bytes bytes' r s = r.report ∙ ap refusal_text (go r.cause s.cause) ∙ sym s.report
  where
    go : IsRefusal whole input r.refusal ⊎ IsUndecided input r.refusal
        → IsRefusal whole input s.refusal ⊎ IsUndecided input s.refusal → r.refusal ≡ s.refusal
    go (inl a) (inl b) = refusal_unique input whole r.refusal s.refusal a b
    go (inl a) (inr b) = absurd (no_table input r.refusal b.table a b.stands)
    go (inr a) (inl b) = absurd (no_table input s.refusal a.table b a.stands)
    go (inr a) (inr b) = one_line input r.refusal s.refusal a b

-- words have one form
same_form : (words : List (List ℕ)) (f g : Form) → form_of words ≡ Some f → form_of words ≡ Some g → f ≡ g
same_form words f g e h = let both = sym e ∙ h in cc

no_form : (words : List (List ℕ)) (f : Form) → form_of words ≡ None → form_of words ≡ Some f → ⊥
no_form words f e h = let both = sym e ∙ h in absurd (cc)

-- of one form: an input is not both done and refused, nor both done and told no, and no report but that of evidence
-- differs
form_done_no : (input bytes bytes' : List ℕ) (f : Form) → IsDone f input bytes → IsNo f input bytes' → ⊥
form_done_no input bytes bytes' Decide d n = n
form_done_no input bytes bytes' Check d n = yes_or_no input bytes bytes' d n

form_done_refused : (input bytes bytes' : List ℕ) (f : Form) → IsDone f input bytes → IsRefusedBy f input bytes'
    → (f ≡ Decide) × IsOpen input
form_done_refused input bytes bytes' Decide d r = (refl, done_or_refused input bytes bytes' d r)
form_done_refused input bytes bytes' Check d r = absurd (read_or_refused input bytes' d.table d.evidence d.read r)

-- the words are those of `decide`, and its input is open
open_words : (words : List (List ℕ)) (input : List ℕ) (f : Form) → form_of words ≡ Some f
    → (f ≡ Decide) × IsOpen input → (form_of words ≡ Some Decide) × IsOpen input
open_words words input f form h = (form ∙ ap Some h.0, h.1)

form_no_refused : (input bytes bytes' : List ℕ) (f : Form) → IsNo f input bytes → IsRefusedBy f input bytes' → ⊥
form_no_refused input bytes bytes' Decide d r = d
form_no_refused input bytes bytes' Check d r = read_or_refused input bytes' d.table d.evidence d.read r

form_done : (input bytes bytes' : List ℕ) (f : Form) → (f ≡ Decide → ⊥) → IsDone f input bytes → IsDone f input bytes'
    → bytes ≡ bytes'
form_done input bytes bytes' Decide other d e = absurd (other refl)
form_done input bytes bytes' Check other d e = d.report ∙ sym e.report

form_no : (input bytes bytes' : List ℕ) (f : Form) → IsNo f input bytes → IsNo f input bytes' → bytes ≡ bytes'
form_no input bytes bytes' Decide d e = absurd d
form_no input bytes bytes' Check d e = one_condition input bytes bytes' d e

form_refused : (input bytes bytes' : List ℕ) (f : Form) → IsRefusedBy f input bytes → IsRefusedBy f input bytes'
    → bytes ≡ bytes'
form_refused input bytes bytes' Decide d e = one_refusal input bytes bytes' d e
form_refused input bytes bytes' Check d e = one_check_refusal input bytes bytes' d e

pub one_report : OneReport
one_report words input Usage Usage bytes bytes' r s = inr (refl, λ _. r.1 ∙ sym s.1)
one_report words input Usage Done bytes bytes' r s = absurd (no_form words s.0 r.0 s.1)
one_report words input Usage No bytes bytes' r s = absurd (no_form words s.0 r.0 s.1)
one_report words input Usage Refused bytes bytes' r s = absurd (no_form words s.0 r.0 s.1)
one_report words input Done Usage bytes bytes' r s = absurd (no_form words r.0 s.0 r.1)
one_report words input No Usage bytes bytes' r s = absurd (no_form words r.0 s.0 r.1)
one_report words input Refused Usage bytes bytes' r s = absurd (no_form words r.0 s.0 r.1)
one_report words input Done Done bytes bytes' r s = inr (
  refl,
  λ other. form_done input bytes bytes' r.0
      (λ is. other (refl, subst (λ f. form_of words ≡ Some f) is r.1)) r.2
      (subst (λ f. IsDone f input bytes') (same_form words s.0 r.0 s.1 r.1) s.2),
)
one_report words input Done No bytes bytes' r s =
    absurd (form_done_no input bytes bytes' r.0 r.2
    (subst (λ f. IsNo f input bytes') (same_form words s.0 r.0 s.1 r.1) s.2))
one_report words input Done Refused bytes bytes' r s =
    inl (open_words words input r.0 r.1 (form_done_refused input bytes bytes' r.0 r.2
    (subst (λ f. IsRefusedBy f input bytes') (same_form words s.0 r.0 s.1 r.1) s.2)))
one_report words input No Done bytes bytes' r s =
    absurd (form_done_no input bytes' bytes s.0 s.2
    (subst (λ f. IsNo f input bytes) (same_form words r.0 s.0 r.1 s.1) r.2))
one_report words input No No bytes bytes' r s = inr (
  refl,
  λ _. form_no input bytes bytes' r.0 r.2 (subst (λ f. IsNo f input bytes') (same_form words s.0 r.0 s.1 r.1) s.2),
)
one_report words input No Refused bytes bytes' r s =
    absurd (form_no_refused input bytes bytes' r.0 r.2
    (subst (λ f. IsRefusedBy f input bytes') (same_form words s.0 r.0 s.1 r.1) s.2))
one_report words input Refused Done bytes bytes' r s =
    inl (open_words words input s.0 s.1 (form_done_refused input bytes' bytes s.0 s.2
    (subst (λ f. IsRefusedBy f input bytes) (same_form words r.0 s.0 r.1 s.1) r.2)))
one_report words input Refused No bytes bytes' r s =
    absurd (form_no_refused input bytes' bytes s.0 s.2
    (subst (λ f. IsRefusedBy f input bytes) (same_form words r.0 s.0 r.1 s.1) r.2))
one_report words input Refused Refused bytes bytes' r s = inr (
  refl,
  λ _. form_refused input bytes bytes' r.0 r.2
      (subst (λ f. IsRefusedBy f input bytes') (same_form words s.0 r.0 s.1 r.1) s.2),
)
one_report words input ReadFault status' bytes bytes' r s = absurd r
one_report words input WriteFault status' bytes bytes' r s = absurd r
one_report words input Memory status' bytes bytes' r s = absurd r
one_report words input Usage ReadFault bytes bytes' r s = absurd s
one_report words input Usage WriteFault bytes bytes' r s = absurd s
one_report words input Usage Memory bytes bytes' r s = absurd s
one_report words input Done ReadFault bytes bytes' r s = absurd s
one_report words input Done WriteFault bytes bytes' r s = absurd s
one_report words input Done Memory bytes bytes' r s = absurd s
one_report words input No ReadFault bytes bytes' r s = absurd s
one_report words input No WriteFault bytes bytes' r s = absurd s
one_report words input No Memory bytes bytes' r s = absurd s
one_report words input Refused ReadFault bytes bytes' r s = absurd s
one_report words input Refused WriteFault bytes bytes' r s = absurd s
one_report words input Refused Memory bytes bytes' r s = absurd s

-- a status is one with which a report is written, or a fault or want of memory
answer : (status : Status) → RunsWell status → IsAnswer status
answer Done w = inl refl
answer No w = inr (inl refl)
answer Usage w = inr (inr (inl refl))
answer Refused w = inr (inr (inr refl))
answer ReadFault w = absurd (w.read refl)
answer WriteFault w = absurd (w.written refl)
answer Memory w = absurd (w.memory refl)

comes_to : (words : List (List ℕ)) (Says : List ℕ → List ℕ → Status → Type 0)
    → ((input bytes : List ℕ) (status : Status) → Report words input status bytes → Says input bytes status)
    → RunComesTo words Says
comes_to words Says says source source' sink sink' status input before run told written well =
    let w = run.report (answer status well) in
    let same : w.input ≡ input = told_input source.left input w.input told w.told in (
      w.bytes,
      grown before sink.written sink'.written w.bytes written w.written,
      says input w.bytes status (subst (λ (i : List ℕ). Report words i status w.bytes) same w.report),
    )

pub run_decides : RunDecides
run_decides = comes_to (codes "decide" ∷ []) DecidesInput decides

pub run_checks : RunChecks
run_checks = comes_to (codes "check" ∷ []) ChecksInput checks

-- a count that is 0 at the end didn't rise
not_risen : (before after : ℕ) → Rose before after → after ≡ 0 → ⊥
not_risen before after rose zero =
    ⊎_elim (λ (more : before < after). omega (arith, more, zero)) (λ last. cc (sym zero ∙ last)) rose

-- where a whole text has room, there is some left after a proper prefix of it
room_left : (before bytes : List ℕ) (room : ℕ) (old new : Option (List ℕ)) (steady : Option ℕ) → old ≡ Some before
    → steady ≡ Some room → length before + length bytes ≤ room → AppendsPart old new bytes → HasRoom new steady
room_left before bytes room old new steady told stated fits part =
    let written : List ℕ = before ++ take part.0 bytes in
    let size : length (take part.0 bytes) ≡ part.0 = length-take-le part.0 bytes (omega (arith, part.1)) in
    let short : length written < room = omega (arith, length-append before (take part.0 bytes), size, part.1, fits) in
    subst (λ w. HasRoom w steady) (sym (grown before old new (take part.0 bytes) told part.2))
    (subst (λ r. HasRoom (Some written) r) (sym stated) short)

pub run_is_quiet : {S K : Type 0} (left : S → Option (List ℕ)) (reads : S → ℕ) (calm : S → Bool)
    (text : K → Option (List ℕ)) (writes : K → ℕ) (room : K → Option ℕ)
    → ((s : S) → IsTrue (calm s) → reads s ≡ 0) → ((s : K) → HasRoom (text s) (room s) → writes s ≡ 0)
    → RunIsQuiet (source_state left reads calm) (sink_state text writes room)
run_is_quiet left reads calm text writes room no_read no_write words source source' sink sink' status run = record {
  read = λ steady fault.
      let s = run.source_stands in
      not_risen (reads source) (reads source') (run.read_fault fault)
      (no_read source' (subst IsTrue (sym s.steady) steady));
  written = λ before size told steady fault. let s = run.sink_stands in let p = run.part fault in record {
    input = p.input;
    told = p.told;
    status = p.status;
    bytes = p.bytes;
    report = p.report;
    long = ⊎_elim
        (λ (long : size < length before + length p.bytes). long)
        (λ (fits : length before + length p.bytes ≤ size).
        absurd (not_risen (writes sink) (writes sink') (run.write_fault fault) (no_write sink'
        (room_left before p.bytes size (text sink) (text sink') (room sink') told (s.steady ∙ steady) fits p.written))))
        (cases_lt size (length before + length p.bytes));
  };
}

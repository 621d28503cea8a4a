-- What `decide` and `check` answer to an input.
use Rattle.std.specs.Prelude.{◌≡◌, ℕ, ◌+◌, ◌≤◌, List, ◌++◌, length, drop, codes, Some}
use Rattle.std.proofs.Common.{inl, inr, sym, ◌∙◌, ap, subst}
use Rattle.std.proofs.Math.Seq.{drop-append_seam}
use Rattle.spl_table.specs.Front.{IsFrontOf}
use Rattle.spl_table.specs.TableText.{spelling, line_of_end}
use Rattle.spl_table.specs.Table.{field_of, degree_of, algebra_of, ops_of}
use Rattle.spl_table.specs.Refusal.{whole, front, front_limit, IsTableText, IsRefusal}
use Rattle.spl_table.specs.declared.reader.Front.{Front}
use Rattle.spl_table.specs.declared.table.Table.{Table}
use Rattle.spl_table.specs.declared.refusal.Refusal.{Refusal}
use Rattle.spl_table.specs.declared.refusal.Kind.TheVariants.{NotBuilt}
use Rattle.spl_fraction.specs.Fractions.{field_of as base_of}
use Rattle.spl_fraction.specs.FractionsOver.{fractions_over}
use Rattle.spl_fraction.specs.declared.field.Fractions.{Fractions}
use Rattle.spl_evidence.specs.Claim.{Claim}
use Rattle.spl_evidence.specs.Evidence.{Fits, IsEvidenceText}
use Rattle.spl_evidence.specs.Refusal.{IsRefusal as IsRefusalOfEvidence}
use Rattle.spl_evidence.specs.declared.refusal.EvidenceRefusal.{EvidenceRefusal}
use Rattle.spl_check.specs.Verdict.{FailsFirst, conditions}
use Rattle.spl_evidence.specs.declared.evidence.Evidence.{Evidence}
use Rattle.spl_evidence.proofs.Fits.{fits_of_claim}
use Rattle.spl_engine.specs.Kind.{IsEvidence, HasUnimodularOrders}
use Rattle.spl_cli.specs.declared.status.Status.{Status}
use Rattle.spl_cli.specs.declared.status.Status.TheVariants.{Done, No, Refused}
use Rattle.spl_cli.specs.declared.words.Form.TheVariants.{Decide, Check}
use Rattle.spl_cli.specs.Forms.{form_of}
use Rattle.spl_cli.specs.Report.{refusal_text, evidence_refusal_text, no_text, Stands, ShowsEvidence, StandsInFront}
use Rattle.spl_cli.specs.Report.{IsTableAndEvidence, IsCheckRefused}
use Rattle.spl_cli.specs.Run.{SinkState}
use Rattle.spl_cli.specs.Finish.{Finishes, Answers}

module _ (words : List (List ℕ)) (input : List ℕ) (sink sink' : SinkState) (status : Status)
    (form : form_of words ≡ Some Decide) (front : Front) (read : IsFrontOf whole input front) (bytes : List ℕ) where
  abbrev stands : Stands input front.table
  stands =
      let is = read.is_text in
      record {
        text = read.text;
        is_text = subst (λ (r : List ℕ). IsTableText whole input read.text r) is.follows is;
        is_table = read.is_table;
      }

  -- a table without a fault is refused at its last line
  pub Answers-undecided : (refusal : Refusal) → HasUnimodularOrders (field_of front.table) (algebra_of front.table)
      → refusal.line ≡ front.lines → refusal.kind ≡ NotBuilt → bytes ≡ refusal_text refusal
      → Finishes Refused bytes sink sink' status → Answers words input sink sink' status
  Answers-undecided refusal unimodular line kind report finishes = record {
    ends = inr (
      Refused,
      bytes,
      (
        Decide,
        form,
        record {
          refusal = refusal;
          cause = inr (record {
            table = front.table;
            stands = stands;
            unimodular = unimodular;
            line = line ∙ read.lines;
            kind = kind;
          });
          report = report;
        },
      ),
      finishes,
    );
    stands = finishes.stands;
  }

  -- evidence is written
  pub Answers-found : ShowsEvidence front.table bytes → Finishes Done bytes sink sink' status
      → Answers words input sink sink' status
  Answers-found shows finishes = record {
    ends = inr (
      Done,
      bytes,
      (
        Decide,
        form,
        record { table = front.table; stands = stands; shows = shows },
      ),
      finishes,
    );
    stands = finishes.stands;
  }

-- a text with a fault is refused
pub Answers-refused : (words : List (List ℕ)) (input : List ℕ) (sink sink' : SinkState) (status : Status)
    → form_of words ≡ Some Decide → (bytes : List ℕ) (refusal : Refusal)
    → IsRefusal whole input refusal → bytes ≡ refusal_text refusal → Finishes Refused bytes sink sink' status
    → Answers words input sink sink' status
Answers-refused words input sink sink' status form bytes refusal cause report finishes = record {
  ends = inr (
    Refused,
    bytes,
    (Decide, form, record { refusal = refusal; cause = inl cause; report = report }),
    finishes,
  );
  stands = finishes.stands;
}

-- ---- `check`

module _ (input : List ℕ) (read : Front) (within : length input ≤ front_limit) (is_front : IsFrontOf front input read)
  where
    abbrev stands_in_front : StandsInFront input read.table
    stands_in_front = record {
      within = within;
      text = is_front.text;
      rest = is_front.rest;
      is_text = is_front.is_text;
      is_table = is_front.is_table;
    }

    -- the text behind that of the table
    rest_is : drop read.used input ≡ is_front.rest
    rest_is =
        let is = is_front.is_text in
        ap (drop read.used) is.spelled ∙ ap (λ n. drop n (spelling is_front.text ++ is_front.rest)) is_front.used
        ∙ drop-append_seam (spelling is_front.text) is_front.rest

    read_both : (e : Evidence) (text : List ℕ) → text ≡ drop read.used input
        → IsEvidenceText (ops_of read.table) (degree_of read.table) text e → IsTableAndEvidence input read.table e
    read_both e text behind is = record {
      stands = stands_in_front;
      is_evidence =
          subst (λ (t : List ℕ). IsEvidenceText (ops_of read.table) (degree_of read.table) t e) (behind ∙ rest_is) is;
    }

    -- evidence with a fault
    pub evidence_refused : (refusal : EvidenceRefusal) (bytes text : List ℕ) (at : ℕ) → text ≡ drop read.used input
        → at ≡ read.lines + 1
        → IsRefusalOfEvidence (field_of read.table) (degree_of read.table) at text refusal
        → bytes ≡ evidence_refusal_text refusal → IsCheckRefused input bytes
    evidence_refused refusal bytes text at behind at_line cause report = inr (inr (record {
      table = read.table;
      stands = stands_in_front;
      refusal = refusal;
      cause =
          subst (λ (t : List ℕ). IsRefusalOfEvidence (field_of read.table) (degree_of read.table)
          (line_of_end is_front.text + 1) t refusal) (behind ∙ rest_is)
          (subst (λ n. IsRefusalOfEvidence (field_of read.table) (degree_of read.table) n text refusal)
          (at_line ∙ ap (λ n. n + 1) is_front.lines) cause);
      report = report;
    }))

module _ (words : List (List ℕ)) (input : List ℕ) (sink sink' : SinkState) (status : Status)
    (form : form_of words ≡ Some Check) (bytes : List ℕ) where
  pub Answers-check-refused : IsCheckRefused input bytes → Finishes Refused bytes sink sink' status
      → Answers words input sink sink' status
  Answers-check-refused refused finishes = record {
    ends = inr (Refused, bytes, (Check, form, refused), finishes);
    stands = finishes.stands;
  }

  module _ (read : Front) (within : length input ≤ front_limit) (is_front : IsFrontOf front input read)
      (e : Evidence) (text : List ℕ) (behind : text ≡ drop read.used input)
      (is_evidence : IsEvidenceText (ops_of read.table) (degree_of read.table) text e) where
    -- `yes`
    pub Answers-yes : Claim (field_of read.table) (algebra_of read.table) (degree_of read.table) e
        → bytes ≡ codes "yes\n" → Finishes Done bytes sink sink' status → Answers words input sink sink' status
    Answers-yes claim report finishes = record {
      ends = inr (
        Done,
        bytes,
        (
          Check,
          form,
          record {
            table = read.table;
            evidence = e;
            read = read_both input read within is_front e text behind is_evidence;
            claim = claim;
            report = report;
          },
        ),
        finishes,
      );
      stands = finishes.stands;
    }

    -- `no C`
    pub Answers-no : (condition : ℕ)
        → FailsFirst (conditions (field_of read.table) (algebra_of read.table) (degree_of read.table) e) condition
        → bytes ≡ no_text condition → Finishes No bytes sink sink' status → Answers words input sink sink' status
    Answers-no condition fails report finishes = record {
      ends = inr (
        No,
        bytes,
        (
          Check,
          form,
          record {
            table = read.table;
            evidence = e;
            read = read_both input read within is_front e text behind is_evidence;
            condition = condition;
            fails = fails;
            report = report;
          },
        ),
        finishes,
      );
      stands = finishes.stands;
    }

-- ---- evidence that is written

-- evidence that was written by the fractions f and the degree n of the table
module _ (table : Table) (f : Fractions) (n : ℕ) (same_field : f ≡ table.fractions) (same_degree : n ≡ table.degree)
    (e : Evidence)
    (holds : IsEvidence (field_of table) (algebra_of table) (degree_of table) e) where
  -- it fits, as its claim holds
  pub fits_of_evidence : Fits (fractions_over (base_of f)) n e
  fits_of_evidence =
      let Q : Fractions → Type 0 = λ k. Fits (fractions_over (base_of k)) n e in
      let P : ℕ → Type 0 = λ m. Fits (ops_of table) m e in
      subst Q (sym same_field) (subst P (sym same_degree)
      (fits_of_claim (field_of table) (algebra_of table) (degree_of table) e table.dim holds.claim))

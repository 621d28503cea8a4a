-- A run, put together from its parts.
use Rattle.std.specs.Prelude.{◌≡◌, ◌≢◌, ◌⊎◌, ℕ, ◌+◌, ◌<◌, ◌≤◌, refl, option_and_then}
use Rattle.std.specs.Prelude.{List, [], ◌++◌, length, drop, Option, None, Some, is_some, IfSome}
use Rattle.std.proofs.Common.{inl, inr, ⊎_elim, sym, ◌∙◌, ap, subst, arith, append-nil}
use Rattle.std.proofs.lemmas.Bool.{cases_lt}
use Rattle.std.proofs.Math.Seq.{drop-append_seam}
use Rattle.std.proofs.Math.ListN.{drop_of_length-le}
use Rattle.std.specs.Option.{option_map}
use Rattle.std.specs.Io.KnownBytes.{Appends, Consumes, IsAtEnd}
use Rattle.spl_outside.specs.Faults.{Rose}
use Rattle.spl_outside.specs.Prefix.{AppendsPart, ConsumesAtMost}
use Rattle.spl_cli.specs.declared.status.Status.{Status}
use Rattle.spl_cli.specs.declared.status.Status.TheVariants.{Done, No, Usage, Refused, ReadFault, WriteFault, Memory}
use Rattle.spl_cli.specs.declared.words.Form.{Form}
use Rattle.spl_cli.specs.Forms.{form_of, limit_of_form, limit_of, usage_text}
use Rattle.spl_cli.specs.Report.{Report}
use Rattle.spl_cli.specs.Run.{SourceState, SinkState, SourceStands, SinkStands, IsAnswer, Reads, ReadsUpTo, IsRun}
use Rattle.spl_cli.specs.Finish.{Finishes, Answers}
use Rattle.spl_cli.proofs.LongInputs.{Report-append, Done-short}

pub SinkStands-refl : (sink : SinkState) → SinkStands sink sink
SinkStands-refl sink = record { faults = omega arith; told = refl; steady = refl }

pub SourceStands-refl : (source : SourceState) → SourceStands source source
SourceStands-refl source = record { faults = omega arith; told = refl; steady = refl }

-- what was read of the source, up to its end or one byte past the limit
pub record Taken (limit : ℕ) (source source' : SourceState) (read : List ℕ) : Type 0 where
  pub taken : Consumes source.left source'.left read
  pub most : length read ≤ limit + 1
  pub whole : length read ≤ limit → IsAtEnd source'.left
  pub no_fault : source'.faults ≡ source.faults
  pub stands : SourceStands source source'

pub record Whole (words : List (List ℕ)) (left : Option (List ℕ)) (answer : Status) (bytes : List ℕ) : Type 0 where
  pub input : List ℕ
  pub told : IfSome left (λ all. all ≡ input)
  pub report : Report words input answer bytes

-- the report on what was read is one on the whole input
whole_report : (words : List (List ℕ)) (limit : ℕ) → limit_of words ≡ Some limit → (left left' : Option (List ℕ))
    (read : List ℕ) (answer : Status) (bytes : List ℕ) → Consumes left left' read
    → (length read ≤ limit → IsAtEnd left') → Report words read answer bytes → Whole words left answer bytes
whole_report words limit limited None left' read answer bytes t w r = record { input = read; told = tt; report = r }
whole_report words limit limited (Some xs) None read answer bytes t w r = absurd t
whole_report words limit limited (Some xs) (Some ys) read answer bytes t w r = ⊎_elim
    (λ (long : limit < length read). record {
      input = xs;
      told = refl;
      report =
          let P : List ℕ → Type 0 = λ zs. Report words zs answer bytes in
          subst P (sym t) (Report-append words limit limited read ys answer bytes long r);
    })
    (λ (short : length read ≤ limit). record {
      input = xs;
      told = refl;
      report =
          let P : List ℕ → Type 0 = λ zs. Report words zs answer bytes in
          let e : xs ≡ read = t ∙ ap (λ zs. read ++ zs) (w short) ∙ append-nil read in subst P (sym e) r;
    })
    (cases_lt limit (length read))

-- how the source is left
left_after : (limit : ℕ) (left left' : Option (List ℕ)) (read : List ℕ) → Consumes left left' read
    → length read ≤ limit + 1 → (length read ≤ limit → IsAtEnd left') → is_some left' ≡ is_some left
    → left' ≡ option_map (drop (limit + 1)) left
left_after limit None None read t m w told = refl
left_after limit None (Some ys) read t m w told = absurd (cc)
left_after limit (Some xs) None read t m w told = absurd t
left_after limit (Some xs) (Some ys) read t m w told = ap Some (⊎_elim
    (λ (long : limit < length read).
    let e : limit + 1 ≡ length read = omega arith in
    sym (ap (drop (limit + 1)) t ∙ ap (λ n. drop n (read ++ ys)) e ∙ drop-append_seam read ys))
    (λ (short : length read ≤ limit).
    let e : ys ≡ [] = w short in
    let f : xs ≡ read = t ∙ ap (λ zs. read ++ zs) e ∙ append-nil read in
    let g : length xs ≤ limit + 1 = omega (arith, ap length f) in
    e ∙ sym (drop_of_length-le xs g))
    (cases_lt limit (length read)))

-- an input that a source may have had
told_or_nothing : Option (List ℕ) → List ℕ
told_or_nothing None = []
told_or_nothing (Some xs) = xs

told_is : (left : Option (List ℕ)) → IfSome left (λ all. all ≡ told_or_nothing left)
unfolding told_or_nothing
told_is None = tt
told_is (Some xs) = refl

answer-or-write_fault : (status : Status) → IsAnswer status → status ≡ WriteFault → ⊥
answer-or-write_fault status a e =
    elim a [ inl x ↦ cc | inr y ↦ elim y [ inl x ↦ cc | inr z ↦ elim z [ inl x ↦ cc | inr x ↦ cc ] ] ]

fault-or-write_fault : (status : Status) → (status ≡ ReadFault) ⊎ (status ≡ Memory) → status ≡ WriteFault → ⊥
fault-or-write_fault status which e = ⊎_elim (λ (x : status ≡ ReadFault). cc) (λ (x : status ≡ Memory). cc) which

done-answers : (status : Status) → (status ≡ Done) ⊎ (status ≡ No) → IsAnswer status
done-answers status e = ⊎_elim (λ (x : status ≡ Done). inl x) (λ (x : status ≡ No). inr (inl x)) e

answer-or-fault : (status : Status) → IsAnswer status → (status ≡ ReadFault) ⊎ (status ≡ Memory) → ⊥
answer-or-fault status a e = ⊎_elim
    (λ (r : status ≡ ReadFault).
    elim a [ inl x ↦ cc | inr y ↦ elim y [ inl x ↦ cc | inr z ↦ elim z [ inl x ↦ cc | inr x ↦ cc ] ] ])
    (λ (r : status ≡ Memory).
    elim a [ inl x ↦ cc | inr y ↦ elim y [ inl x ↦ cc | inr z ↦ elim z [ inl x ↦ cc | inr x ↦ cc ] ] ])
    e

-- words of a form read up to its limit
pub limit_of-form : (words : List (List ℕ)) (form : Form) (limit : ℕ) → form_of words ≡ Some form
    → limit_of_form form ≡ Some limit → limit_of words ≡ Some limit
limit_of-form words form limit is limited = ap (option_and_then limit_of_form) is ∙ limited

reads_nothing : (words : List (List ℕ)) (source : SourceState) (status : Status) → form_of words ≡ None
    → status ≢ ReadFault → Reads (limit_of words) source source status
reads_nothing words source status none other =
    let P : Option ℕ → Type 0 = λ limit. Reads limit source source status in
    subst P (sym (ap (option_and_then limit_of_form) none)) (refl, other)

-- a form is none
not_none : (o : Option Form) (form : Form) → o ≡ Some form → o ≡ None → ⊥
not_none o form is none = let e = sym is ∙ none in cc

-- words of no form
pub IsRun-usage : (words : List (List ℕ)) (source : SourceState) (sink sink' : SinkState) (status : Status)
    → form_of words ≡ None → Finishes Usage usage_text sink sink' status → IsRun words source source sink sink' status
IsRun-usage words source sink sink' status none f = ⊎_elim
    (λ (w : (status ≡ Usage) × Appends sink.written sink'.written usage_text × (sink'.faults ≡ sink.faults)). record {
      report = λ _. record {
        input = told_or_nothing source.left;
        told = told_is source.left;
        bytes = usage_text;
        report =
            let P : Status → Type 0 = λ s. Report words (told_or_nothing source.left) s usage_text in
            subst P (sym w.0) (none, refl);
        written = w.1;
      };
      part = λ e. absurd (let q = w.0 in cc);
      nothing = λ e. absurd (⊎_elim
          (λ (x : status ≡ ReadFault). let q = w.0 in cc)
          (λ (x : status ≡ Memory). let q = w.0 in cc)
          e);
      no_form = λ _. inl w.0;
      read_fault = λ e. absurd (let q = w.0 in cc);
      write_fault = λ e. absurd (let q = w.0 in cc);
      no_read_fault = λ _. refl;
      no_write_fault = λ _. w.2;
      reads = reads_nothing words source status none (λ e. let q = w.0 in cc);
      source_stands = SourceStands-refl source;
      sink_stands = f.stands;
    })
    (λ (w : (status ≡ WriteFault) × AppendsPart sink.written sink'.written usage_text × Rose sink.faults sink'.faults).
    record {
      report = λ a. absurd (answer-or-write_fault status a w.0);
      part = λ _. record {
        input = told_or_nothing source.left;
        told = told_is source.left;
        status = Usage;
        bytes = usage_text;
        report = (none, refl);
        written = w.1;
      };
      nothing = λ e. absurd (⊎_elim
          (λ (x : status ≡ ReadFault). let q = w.0 in cc)
          (λ (x : status ≡ Memory). let q = w.0 in cc)
          e);
      no_form = λ _. inr w.0;
      read_fault = λ e. absurd (let q = w.0 in cc);
      write_fault = λ _. w.2;
      no_read_fault = λ _. refl;
      no_write_fault = λ other. absurd (other w.0);
      reads = reads_nothing words source status none (λ e. let q = w.0 in cc);
      source_stands = SourceStands-refl source;
      sink_stands = f.stands;
    })
    f.ends

-- no report goes with a fault or with want of memory
not_reported : (words : List (List ℕ)) (input : List ℕ) (answer : Status) (bytes : List ℕ)
    → Report words input answer bytes
    → (answer ≡ ReadFault) ⊎ ((answer ≡ WriteFault) ⊎ (answer ≡ Memory)) → ⊥
not_reported words input Done bytes r e = elim e [ inl x ↦ cc | inr y ↦ elim y [ inl x ↦ cc | inr x ↦ cc ] ]
not_reported words input No bytes r e = elim e [ inl x ↦ cc | inr y ↦ elim y [ inl x ↦ cc | inr x ↦ cc ] ]
not_reported words input Usage bytes r e = elim e [ inl x ↦ cc | inr y ↦ elim y [ inl x ↦ cc | inr x ↦ cc ] ]
not_reported words input Refused bytes r e = elim e [ inl x ↦ cc | inr y ↦ elim y [ inl x ↦ cc | inr x ↦ cc ] ]
not_reported words input ReadFault bytes r e = r
not_reported words input WriteFault bytes r e = r
not_reported words input Memory bytes r e = r

module _ (words : List (List ℕ)) (form : Form) (is : form_of words ≡ Some form) (limit : ℕ)
    (limited : limit_of words ≡ Some limit) where
  reads_up_to : (source source' : SourceState) (status : Status) → ReadsUpTo limit source source' status
      → Reads (limit_of words) source source' status
  reads_up_to source source' status r =
      let P : Option ℕ → Type 0 = λ l. Reads l source source' status in subst P (sym limited) r

  -- a run that ends with nothing written: a fault of reading, or want of memory
  pub IsRun-silent : (source source' : SourceState) (sink : SinkState) (status : Status)
      → (status ≡ ReadFault) ⊎ (status ≡ Memory) → (status ≡ ReadFault → Rose source.faults source'.faults)
      → (status ≢ ReadFault → source'.faults ≡ source.faults) → ConsumesAtMost (limit + 1) source.left source'.left
      → SourceStands source source' → IsRun words source source' sink sink status
  IsRun-silent source source' sink status which rose no_fault bounded stands = record {
    report = λ a. absurd (answer-or-fault status a which);
    part = λ e. absurd (fault-or-write_fault status which e);
    nothing = λ _. refl;
    no_form = λ none. absurd (not_none (form_of words) form is none);
    read_fault = rose;
    write_fault = λ e. absurd (fault-or-write_fault status which e);
    no_read_fault = no_fault;
    no_write_fault = λ _. refl;
    reads = reads_up_to source source' status (record {
      bounded = bounded;
      taken = λ e. absurd (⊎_elim
          (λ a. answer-or-fault status a which)
          (λ (w : status ≡ WriteFault). fault-or-write_fault status which w)
          e);
      to_the_end = λ e. absurd (answer-or-fault status (done-answers status e) which);
    });
    source_stands = stands;
    sink_stands = SinkStands-refl sink;
  }

  -- a run that has read its input and answers it
  pub IsRun-answered : (source source' : SourceState) (sink sink' : SinkState) (status : Status) (read : List ℕ)
      → Taken limit source source' read → Answers words read sink sink' status
      → IsRun words source source' sink sink' status
  IsRun-answered source source' sink sink' status read t a = ⊎_elim
      (λ (m : (status ≡ Memory) × (sink' ≡ sink)). silent m.0 m.1)
      (λ (w : (answer : Status) × (bytes : List ℕ) × Report words read answer bytes
      × Finishes answer bytes sink sink' status).
      answered w.0 w.1 w.2 w.3)
      a.ends
    where
      bounded : ConsumesAtMost (limit + 1) source.left source'.left
      bounded = (read, t.most, t.taken)

      silent : status ≡ Memory → sink' ≡ sink → IsRun words source source' sink sink' status
      silent e same =
          let P : SinkState → Type 0 = λ s. IsRun words source source' sink s status in
          subst P (sym same) (IsRun-silent source source' sink status (inr e) (λ r. absurd (cc)) (λ _. t.no_fault)
          bounded t.stands)

      left_is : source'.left ≡ option_map (drop (limit + 1)) source.left
      left_is = let s = t.stands in left_after limit source.left source'.left read t.taken t.most t.whole s.told

      whole : (answer : Status) (bytes : List ℕ) → Report words read answer bytes
          → Whole words source.left answer bytes
      whole answer bytes r =
          whole_report words limit limited source.left source'.left read answer bytes t.taken t.whole r

      answered : (answer : Status) (bytes : List ℕ) → Report words read answer bytes
          → Finishes answer bytes sink sink' status
          → IsRun words source source' sink sink' status
      answered answer bytes r f = ⊎_elim
          (λ (g : (status ≡ answer) × Appends sink.written sink'.written bytes × (sink'.faults ≡ sink.faults)).
          let x = whole answer bytes r in
          record {
            report = λ _. record {
              input = x.input;
              told = x.told;
              bytes = bytes;
              report = (let P : Status → Type 0 = λ s. Report words x.input s bytes in subst P (sym g.0) x.report);
              written = g.1;
            };
            part = λ e. absurd (not_reported words read answer bytes r (inr (inl (sym g.0 ∙ e))));
            nothing = λ e. absurd (not_reported words read answer bytes r (⊎_elim
                (λ (y : status ≡ ReadFault). inl (sym g.0 ∙ y))
                (λ (y : status ≡ Memory). inr (inr (sym g.0 ∙ y)))
                e));
            no_form = λ none. absurd (not_none (form_of words) form is none);
            read_fault = λ e. absurd (not_reported words read answer bytes r (inl (sym g.0 ∙ e)));
            write_fault = λ e. absurd (not_reported words read answer bytes r (inr (inl (sym g.0 ∙ e))));
            no_read_fault = λ _. t.no_fault;
            no_write_fault = λ _. g.2;
            reads = reads_up_to source source' status (record {
              bounded = bounded;
              taken = λ _. left_is;
              to_the_end = λ e. t.whole (Done-short words limit limited read answer bytes r (⊎_elim
                  (λ (y : status ≡ Done). inl (sym g.0 ∙ y))
                  (λ (y : status ≡ No). inr (sym g.0 ∙ y))
                  e));
            });
            source_stands = t.stands;
            sink_stands = a.stands;
          })
          (λ (g : (status ≡ WriteFault) × AppendsPart sink.written sink'.written bytes
          × Rose sink.faults sink'.faults).
          let x = whole answer bytes r in
          record {
            report = λ b. absurd (answer-or-write_fault status b g.0);
            part = λ _. record {
              input = x.input;
              told = x.told;
              status = answer;
              bytes = bytes;
              report = x.report;
              written = g.1;
            };
            nothing = λ e. absurd (fault-or-write_fault status e g.0);
            no_form = λ none. absurd (not_none (form_of words) form is none);
            read_fault = λ e. absurd (fault-or-write_fault status (inl e) g.0);
            write_fault = λ _. g.2;
            no_read_fault = λ _. t.no_fault;
            no_write_fault = λ other. absurd (other g.0);
            reads = reads_up_to source source' status (record {
              bounded = bounded;
              taken = λ _. left_is;
              to_the_end = λ e. absurd (answer-or-write_fault status (done-answers status e) g.0);
            });
            source_stands = t.stands;
            sink_stands = a.stands;
          })
          f.ends

-- From the faults of single lines to those of a text.
use Rattle.std.proofs.Common.{◌≡◌, ◌≢◌, ℕ, ◌+◌, ◌*◌, ◌-◌, ◌%◌, ◌<◌, ◌≤◌, List, [], ◌∷◌, ◌++◌, length}
use Rattle.std.proofs.Common.{None, refl, sym, ap, subst}
use Rattle.std.proofs.Common.{◌∙◌, inl, inr, append_assoc, length-append, arith}
use Rattle.std.specs.Prelude.{Result, Ok, Err, IfOk, IfErr}
use Rattle.std.proofs.lemmas.Result.{IfErr-at_err}
use Rattle.std.specs.List.{flat_map}
use Rattle.theory_rings.specs.Ops.{Ops}
use Rattle.spl_field.specs.FieldByDigits.{IsAdmitted}
use Rattle.spl_text.specs.Text.{Lacks, IsText, line}
use Rattle.spl_text.proofs.Words.{not_within, split_unique}
use Rattle.spl_field.specs.SmallField.{characteristic, modulus_of, small_ops}
use Rattle.spl_field.specs.declared.small.SmallField.{SmallField}
use Rattle.theory_tables.specs.Structure.{Structure}
use Rattle.theory_fractions.specs.Fraction.{Pair}
use Rattle.spl_fraction.specs.Fractions.{field_of as base_of}
use Rattle.spl_fraction.specs.declared.field.Fractions.{Fractions}
use Rattle.spl_table.specs.TableText.{Entry, Head, first_line, field_line, degree_line, head_lines, entry_line}
use Rattle.spl_table.specs.TableText.{TableText, end_line, lines_before_end, spelling, line_of_end, IsRightHead}
use Rattle.spl_table.specs.TableText.{IsWellFormed}
use Rattle.spl_table.specs.Refusal.{Extent, whole, front, Begins, HasField, LacksLine, LineFault, last_of, IsAfterEnd}
use Rattle.spl_table.specs.Refusal.{IsFaultOfLines, IsFirstFault, IsRefusal, IsNoTextAt, IsWithinLimit, table_limit}
use Rattle.spl_table.specs.Refusal.{IsTableText, IsRightToField}
use Rattle.spl_table.specs.Front.{IsFrontOf}
use Rattle.spl_table.specs.Table.{fractions_of, degree_of, algebra_of, AreConstants, IsTableOf}
use Rattle.spl_table.specs.declared.table.Table.{Table}
use Rattle.spl_table.specs.declared.reader.Front.{Front}
use Rattle.spl_table.specs.Reading.{IfRefused, head_of, field_text, degree_text, IsFieldFault, IsDegreeFault}
use Rattle.spl_table.specs.Reading.{IsFaultAfter, AreEntries}
use Rattle.spl_table.specs.declared.refusal.Kind.{Kind}
use Rattle.spl_table.specs.declared.refusal.Kind.TheVariants.{TooLong, NotText, Header, FieldSize, FieldLaw, Degree}
use Rattle.spl_table.specs.declared.refusal.Kind.TheVariants.{Characteristic, EntryForm, EntryRange, EntryOrder}
use Rattle.spl_table.specs.declared.refusal.Kind.TheVariants.{ZeroDenominator, PolyDegree, NoEnd, AfterEnd, NotBuilt}
use Rattle.spl_table.specs.declared.refusal.Refusal.{Refusal}
use Rattle.spl_table.specs.declared.refusal.TableFault.{TableFault}
use Rattle.spl_table.specs.declared.refusal.TableFault.TheVariants.{Refused, Memory}
use Rattle.spl_table.proofs.Spellings.{Lacks-field, Lacks-degree}
use Rattle.spl_table.proofs.TextLaws.{fits_number, fits_numbers}

-- a line in front of others
cut_line : (text rest : List ℕ) → line text ++ rest ≡ text ++ 10 ∷ rest
cut_line text rest = append_assoc text (10 ∷ []) rest

module _ (x : Extent) (bytes rest : List ℕ) (first : bytes ≡ first_line ++ rest) where
  -- ---- the second line

  pub no_second : Lacks 10 rest → LacksLine bytes 2
  no_second lacks = inr (inl (
    refl,
    record {
      rest = rest;
      spelled = first;
      lacks = λ p m after is are e.
          not_within 10 rest (field_text p m) after (e ∙ cut_line (field_text p m) after) lacks;
    },
  ))

  module _ (second rest' : List ℕ) (one_line : Lacks 10 second) (cut : rest ≡ second ++ 10 ∷ rest') where
    spelled_field : (p : ℕ) (m : List ℕ) → second ≡ field_text p m → bytes ≡ first_line ++ field_line p m ++ rest'
    spelled_field p m spelled =
        first ∙ ap (λ t. first_line ++ t)
        (cut ∙ ap (λ t. t ++ 10 ∷ rest') spelled ∙ sym (cut_line (field_text p m) rest'))
        ∙ sym (append_assoc first_line (field_line p m) rest')

    -- the line says a field
    pub has_admitted : (p : ℕ) (m : List ℕ) → second ≡ field_text p m → IsAdmitted p m
        → (p : ℕ) × (m : List ℕ) × HasField bytes p m × IsAdmitted p m
    has_admitted p m spelled admitted = (
      p,
      m,
      record {
        rest = rest';
        characteristic = fits_number p m admitted.fits;
        modulus = fits_numbers p m admitted.fits;
        spelled = spelled_field p m spelled;
      },
      admitted,
    )

    pub second_fault : (kind : Kind) → IsFieldFault second kind → IsFaultOfLines x bytes 2 kind
    second_fault Header none = inr (inl (
      refl,
      record {
        rest = rest;
        spelled = first;
        lacks = λ p m after is are e.
            none p m is are (split_unique 10 second (field_text p m) rest' after one_line (Lacks-field p m is are)
            (sym cut ∙ e ∙ cut_line (field_text p m) after)).0;
      },
    ))
    second_fault FieldSize w = (
      refl,
      (
        w.p,
        w.m,
        record {
          rest = rest';
          characteristic = w.characteristic;
          modulus = w.modulus;
          spelled =
              spelled_field w.p w.m w.spelled;
        },
        w.fault,
      ),
    )
    second_fault (FieldLaw element) w = (
      refl,
      (
        w.p,
        w.m,
        record {
          rest = rest';
          characteristic = w.characteristic;
          modulus = w.modulus;
          spelled =
              spelled_field w.p w.m w.spelled;
        },
        w.fault,
      ),
    )
    second_fault TooLong w = absurd w.fault
    second_fault NotText w = absurd w.fault
    second_fault Degree w = absurd w.fault
    second_fault Characteristic w = absurd w.fault
    second_fault EntryForm w = absurd w.fault
    second_fault EntryRange w = absurd w.fault
    second_fault EntryOrder w = absurd w.fault
    second_fault ZeroDenominator w = absurd w.fault
    second_fault PolyDegree w = absurd w.fault
    second_fault NoEnd w = absurd w.fault
    second_fault AfterEnd w = absurd w.fault
    second_fault NotBuilt w = absurd w.fault

    pub second_refused : (e : TableFault) → IfRefused e (λ at kind. (at ≡ 2) × IsFieldFault second kind)
        → IfRefused e (IsFaultOfLines x bytes)
    second_refused (Refused refusal) w =
        subst (λ at. IsFaultOfLines x bytes at refusal.kind) (sym w.0) (second_fault refusal.kind w.1)
    second_refused Memory w = tt

    -- ---- the third line

    module _ (p : ℕ) (m : List ℕ) (field : second ≡ field_text p m) (admitted : IsAdmitted p m) where
      pub no_third_line : Lacks 10 rest' → LacksLine bytes 3
      no_third_line lacks = inr (inr (
        refl,
        record {
          p = p;
          m = m;
          rest = rest';
          admitted = admitted;
          spelled = spelled_field p m field;
          lacks = λ n after is e. not_within 10 rest' (degree_text n) after (e ∙ cut_line (degree_text n) after) lacks;
        },
      ))

      module _ (third rest'' : List ℕ) (third_line : Lacks 10 third) (third_cut : rest' ≡ third ++ 10 ∷ rest'') where
        head : ℕ → Head
        head n = record { characteristic = p; modulus = m; degree = n }

        pub spelled_head : (n : ℕ) → third ≡ degree_text n
            → bytes ≡ head_lines (record { characteristic = p; modulus = m; degree = n }) ++ rest''
        spelled_head n spelled =
            spelled_field p m field
            ∙ ap (λ t. first_line ++ field_line p m ++ t)
            (third_cut ∙ ap (λ t. t ++ 10 ∷ rest'') spelled ∙ sym (cut_line (degree_text n) rest''))
            ∙ sym (append_assoc (first_line ++ field_line p m) (degree_line n) rest'')

        pub third_fault : (kind : Kind) → IsDegreeFault p third kind → IsFaultOfLines x bytes 3 kind
        third_fault Header none = inr (inr (
          refl,
          record {
            p = p;
            m = m;
            rest = rest';
            admitted = admitted;
            spelled = spelled_field p m field;
            lacks = λ n after is e.
                none n is (split_unique 10 third (degree_text n) rest'' after third_line (Lacks-degree n is)
                (sym third_cut ∙ e ∙ cut_line (degree_text n) after)).0;
          },
        ))
        third_fault Degree w = (
          refl,
          (
            record { characteristic = p; modulus = m; degree = w.n },
            record {
              rest = rest'';
              admitted = admitted;
              degree = w.number;
              spelled =
                  spelled_head w.n w.spelled;
            },
            w.fault,
          ),
        )
        third_fault Characteristic w = (
          refl,
          (
            record { characteristic = p; modulus = m; degree = w.n },
            record {
              rest = rest'';
              admitted = admitted;
              degree = w.number;
              spelled =
                  spelled_head w.n w.spelled;
            },
            w.fault.0,
            w.fault.1,
            w.fault.2,
          ),
        )
        third_fault TooLong w = absurd w.fault
        third_fault NotText w = absurd w.fault
        third_fault FieldSize w = absurd w.fault
        third_fault (FieldLaw element) w = absurd w.fault
        third_fault EntryForm w = absurd w.fault
        third_fault EntryRange w = absurd w.fault
        third_fault EntryOrder w = absurd w.fault
        third_fault ZeroDenominator w = absurd w.fault
        third_fault PolyDegree w = absurd w.fault
        third_fault NoEnd w = absurd w.fault
        third_fault AfterEnd w = absurd w.fault
        third_fault NotBuilt w = absurd w.fault

        pub third_refused : (e : TableFault) → IfRefused e (λ at kind. (at ≡ 3) × IsDegreeFault p third kind)
            → IfRefused e (IsFaultOfLines x bytes)
        third_refused (Refused refusal) w =
            subst (λ at. IsFaultOfLines x bytes at refusal.kind) (sym w.0) (third_fault refusal.kind w.1)
        third_refused Memory w = tt

-- ---- the lines of the entries

module _ (x : Extent) (bytes rest : List ℕ) (h : Head) (right : IsRightHead h)
    (spelled : bytes ≡ head_lines h ++ rest) where
  pub entries_fault : (at : ℕ) (kind : Kind) → IsFaultAfter h rest at kind → IsFaultOfLines x bytes at kind
  entries_fault at kind w = go kind w.fault
    where
      begins : Begins bytes h w.entries w.rest
      begins = record {
        head = right;
        entries = w.right;
        spelled = spelled ∙ ap (λ t. head_lines h ++ t) w.spelled
            ∙ sym (append_assoc (head_lines h) (flat_map entry_line w.entries) w.rest);
      }

      go : (kind' : Kind) → LineFault h (last_of None w.entries) w.rest kind' → IsFaultOfLines x bytes at kind'
      go EntryForm f = record {
        head = h;
        entries = w.entries;
        rest = w.rest;
        begins = begins;
        at_line =
            w.at_line;
        fault = f;
      }
      go EntryRange f = record {
        head = h;
        entries = w.entries;
        rest = w.rest;
        begins = begins;
        at_line =
            w.at_line;
        fault = f;
      }
      go EntryOrder f = record {
        head = h;
        entries = w.entries;
        rest = w.rest;
        begins = begins;
        at_line =
            w.at_line;
        fault = f;
      }
      go ZeroDenominator f =
          record { head = h; entries = w.entries; rest = w.rest; begins = begins; at_line = w.at_line; fault = f }
      go PolyDegree f = record {
        head = h;
        entries = w.entries;
        rest = w.rest;
        begins = begins;
        at_line =
            w.at_line;
        fault = f;
      }
      go NoEnd f = record {
        head = h;
        entries = w.entries;
        rest = w.rest;
        begins = begins;
        at_line =
            w.at_line;
        fault = f;
      }
      go TooLong f = absurd f
      go NotText f = absurd f
      go Header f = absurd f
      go FieldSize f = absurd f
      go (FieldLaw element) f = absurd f
      go Degree f = absurd f
      go Characteristic f = absurd f
      go AfterEnd f = absurd f
      go NotBuilt f = absurd f

  pub entries_refused : (e : TableFault) → IfRefused e (IsFaultAfter h rest) → IfRefused e (IsFaultOfLines x bytes)
  entries_refused (Refused refusal) w = entries_fault refusal.line refusal.kind w
  entries_refused Memory w = tt

  module _ (o : Ops ℕ) (after : List ℕ) (number : ℕ) (constants : List (Pair ℕ))
      (read : AreEntries o h rest after number constants) where
    all : bytes ≡ lines_before_end h read.entries ++ (end_line ++ after)
    all = spelled ∙ ap (λ t. head_lines h ++ t) read.spelled
        ∙ sym (append_assoc (head_lines h) (flat_map entry_line read.entries) (end_line ++ after))

    abbrev pub text_read : TableText
    text_read = record { head = h; entries = read.entries }

    spelled_text : bytes ≡ spelling text_read ++ after
    spelled_text = all ∙ sym (append_assoc (lines_before_end h read.entries) end_line after)

    -- what follows is no longer than the whole
    pub size_read : length bytes ≡ length (spelling text_read) + length after
    size_read = ap length spelled_text ∙ length-append (spelling text_read) after

    pub front_read : IsText bytes → (f : Front) → IsTableOf text_read f.table → f.used ≡ length bytes - length after
        → f.lines ≡ number → IsFrontOf front bytes f
    front_read text f is_table used lines = record {
      text = text_read;
      rest = after;
      is_text = record {
        within = tt;
        text = text;
        well_formed = record { head = right; entries = read.right };
        spelled = spelled_text;
        follows = tt;
      };
      is_table = is_table;
      used = omega (arith, used, size_read);
      lines = lines ∙ read.line_number;
    }

-- ---- the whole text

pub right_head : (f : SmallField) (n q : ℕ) → q ≡ characteristic f → IsAdmitted (characteristic f) (modulus_of f)
    → 2 ≤ n → n ≤ 5 → n % q ≢ 0 → IsRightHead (head_of f n)
right_head f n q same admitted low high apart =
    record { admitted = admitted; degree_low = low; degree_high = high; apart = subst (λ p. n % p ≢ 0) same apart }

pub table_read : (table : Table) (k : Fractions) (n : ℕ) (es : List Entry) (constants : List (Pair ℕ))
    → fractions_of table ≡ k → degree_of table ≡ n
    → algebra_of table ≡ record { dim = n * n; constants = constants }
    → AreConstants (small_ops (base_of k)) (n * n) es constants
    → IsTableOf (record { head = head_of (base_of k) n; entries = es }) table
table_read table k n es constants fractions degree algebra are = record {
  characteristic = ap (λ (x : Fractions). characteristic (base_of x)) fractions;
  modulus = ap (λ (x : Fractions). modulus_of (base_of x)) fractions;
  degree = degree;
  dimension = ap (λ (A : Structure (Pair ℕ)). A.dim) algebra;
  constants = subst (λ (x : Fractions).
      AreConstants (small_ops (base_of x)) (algebra_of table).dim es (algebra_of table).constants) (sym fractions)
      (subst (λ (A : Structure (Pair ℕ)). AreConstants (small_ops (base_of k)) A.dim es A.constants) (sym algebra) are);
}

-- of an input within the limit that is text, the first fault of its lines is the first of all
pub is_first_fault : (x : Extent) (bytes : List ℕ) → IsWithinLimit x bytes → IsText bytes → (at : ℕ) (kind : Kind)
    → IsFaultOfLines x bytes at kind → IsFirstFault x bytes at kind
is_first_fault x bytes within text at TooLong w = absurd w.fault
is_first_fault x bytes within text at NotText w = absurd w.fault
is_first_fault x bytes within text at Header w = (within, text, w)
is_first_fault x bytes within text at FieldSize w = (within, text, w)
is_first_fault x bytes within text at (FieldLaw element) w = (within, text, w)
is_first_fault x bytes within text at Degree w = (within, text, w)
is_first_fault x bytes within text at Characteristic w = (within, text, w)
is_first_fault x bytes within text at EntryForm w = (within, text, w)
is_first_fault x bytes within text at EntryRange w = (within, text, w)
is_first_fault x bytes within text at EntryOrder w = (within, text, w)
is_first_fault x bytes within text at ZeroDenominator w = (within, text, w)
is_first_fault x bytes within text at PolyDegree w = (within, text, w)
is_first_fault x bytes within text at NoEnd w = (within, text, w)
is_first_fault x bytes within text at AfterEnd w = (within, text, w)
is_first_fault x bytes within text at NotBuilt w = (within, text, w)

-- of an input that is text, the first fault of its lines is the first of those of the front form
pub refused_lines : {T : Type 0} (bytes : List ℕ) → IsText bytes → (r : Result T TableFault)
    → IfErr r (λ e. IfRefused e (IsFaultOfLines front bytes)) → (refusal : Refusal) → r ≡ Err (Refused refusal)
    → IsRefusal front bytes refusal
refused_lines bytes text r faults refusal is =
    is_first_fault front bytes tt text refusal.line refusal.kind
    (IfErr-at_err (λ e. IfRefused e (IsFaultOfLines front bytes)) is faults)

pub refused_bytes : (bytes : List ℕ) (e : TableFault)
    → IfRefused e (λ at kind. (kind ≡ NotText) × IsNoTextAt bytes at) → (refusal : Refusal) → e ≡ Refused refusal
    → IsRefusal front bytes refusal
refused_bytes bytes e fault refusal is =
    let found = subst (λ (x : TableFault).
    IfRefused x (λ at kind. (kind ≡ NotText) × IsNoTextAt bytes at)) is fault in
    subst (λ (kind : Kind). IsFirstFault front bytes refusal.line kind) (sym found.0) (tt, found.1)

-- ---- from the front form to the whole one

module _ (bytes : List ℕ) (within : length bytes ≤ table_limit) where
  whole_fault : (at : ℕ) (kind : Kind) → IsFirstFault front bytes at kind → IsFirstFault whole bytes at kind
  whole_fault at TooLong w = absurd w.1
  whole_fault at NotText w = (within, w.1)
  whole_fault at Header w = (within, w.1, w.2)
  whole_fault at FieldSize w = (within, w.1, w.2)
  whole_fault at (FieldLaw element) w = (within, w.1, w.2)
  whole_fault at Degree w = (within, w.1, w.2)
  whole_fault at Characteristic w = (within, w.1, w.2)
  whole_fault at EntryForm w = (within, w.1, w.2)
  whole_fault at EntryRange w = (within, w.1, w.2)
  whole_fault at EntryOrder w = (within, w.1, w.2)
  whole_fault at ZeroDenominator w = (within, w.1, w.2)
  whole_fault at PolyDegree w = (within, w.1, w.2)
  whole_fault at NoEnd w = (within, w.1, w.2)
  whole_fault at AfterEnd w = absurd (let f = w.2 in f.fault)
  whole_fault at NotBuilt w = absurd (let f = w.2 in f.fault)

  pub whole_refusal : (r : Refusal) → IsRefusal front bytes r → IsRefusal whole bytes r
  whole_refusal r w = whole_fault r.line r.kind w

  pub whole_right : IsRightToField front bytes → IsRightToField whole bytes
  whole_right w =
      record { within = within; text = w.text; p = w.p; m = w.m; field = w.field; admitted = w.admitted }

  module _ (f : Front) (read : IsFrontOf front bytes f) where
    spelled : bytes ≡ spelling read.text ++ read.rest
    spelled = let is = read.is_text in is.spelled

    size : length bytes ≡ f.used + length read.rest
    size = ap length spelled ∙ length-append (spelling read.text) read.rest
        ∙ ap (λ n. n + length read.rest) (sym read.used)

    -- a byte follows the text
    pub after_end : f.used < length bytes → IsFirstFault whole bytes (f.lines + 1) AfterEnd
    after_end more = go read.rest spelled (omega (arith, size, more))
      where
        is : IsTableText front bytes read.text read.rest
        is = read.is_text

        right : IsWellFormed read.text
        right = is.well_formed

        go : (rest : List ℕ) → bytes ≡ spelling read.text ++ rest → 0 < length rest
            → IsFirstFault whole bytes (f.lines + 1) AfterEnd
        go [] e some = absurd (omega (arith, some))
        go (byte ∷ rest) e some = (
          within,
          is.text,
          record {
            head = (let t = read.text in t.head);
            entries = (let t = read.text in t.entries);
            byte = byte;
            rest = rest;
            begins = record {
              head = right.head;
              entries = right.entries;
              spelled = let t = read.text in
                  e ∙ append_assoc (lines_before_end t.head t.entries) end_line (byte ∷ rest);
            };
            at_line = omega (arith, read.lines);
          },
        )

    -- none does
    pub is_whole : length bytes ≤ f.used → IsFrontOf whole bytes f
    is_whole less = go read.rest spelled (omega (arith, size, less))
      where
        is : IsTableText front bytes read.text read.rest
        is = read.is_text

        go : (rest : List ℕ) → bytes ≡ spelling read.text ++ rest → length rest ≡ 0 → IsFrontOf whole bytes f
        go [] e none = record {
          text = read.text;
          rest = [];
          is_text = record {
            within = within;
            text = is.text;
            well_formed = is.well_formed;
            spelled = e;
            follows = refl;
          };
          is_table = read.is_table;
          used = read.used;
          lines = read.lines;
        }
        go (byte ∷ rest) e none = absurd (omega (arith, none))

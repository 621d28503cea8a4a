-- Each text is that of a table, or has a first fault: what the reader does, without memory.
use Rattle.std.proofs.Common.{◌≡◌, ◌≢◌, ◌⊎◌, ℕ, zero, suc, ◌%◌, ◌<◌, ◌≤◌, List, [], ◌∷◌, ◌++◌, length}
use Rattle.std.proofs.Common.{get_or, None, refl}
use Rattle.std.proofs.Common.{⊎_elim, ◌+◌, sym, ap, ◌∙◌, subst, inl, inr, arith, append_assoc}
use Rattle.std.specs.Prelude.{decimal, codes, take}
use Rattle.std.specs.List.{flat_map}
use Rattle.std.proofs.lemmas.Bool.{cases_lt, cases_eq}
use Rattle.std.proofs.lemmas.List.{append_cancel_left}
use Rattle.spl_field.specs.FieldByDigits.{FitsField, IsAdmitted, IsFirstWithoutInverse}
use Rattle.spl_text.specs.Text.{Lacks, IsNumber, AreNumbers, IsTextByte, IsFirstNoText, newlines, numbers_text}
use Rattle.spl_text.specs.Text.{HasFront}
use Rattle.spl_text.specs.Decided.{SpellsOrNot}
use Rattle.spl_text.proofs.Decisions.{Cut, cut_or_lacks, has_front, HasNumber, has_number, number_decided}
use Rattle.spl_text.proofs.Decisions.{numbers_decided}
use Rattle.spl_table.specs.TableText.{Head, TableText, first_line, entry_line, end_line, head_lines, IsRightHead}
use Rattle.spl_table.specs.TableText.{lines_before_end, spelling, IsWellFormed, AreRightEntries}
use Rattle.spl_table.specs.Refusal.{Extent, whole, front, IsWithinLimit, IsTooLong, MayFollow, IsTableText}
use Rattle.spl_table.specs.Refusal.{IsFaultOfLines, IsRefusal, table_limit}
use Rattle.spl_table.specs.Refusal.{EachIsTextOrRefused, IsOnlyTableText, IsOnlyRefusal}
use Rattle.spl_table.specs.Reading.{field_text, degree_text, IsDegreeFault}
use Rattle.spl_table.specs.declared.refusal.Refusal.{Refusal}
use Rattle.spl_table.specs.declared.refusal.Kind.{Kind}
use Rattle.spl_table.specs.declared.refusal.Kind.TheVariants.{TooLong, NotText, Header, FieldSize, FieldLaw, Degree}
use Rattle.spl_table.specs.declared.refusal.Kind.TheVariants.{Characteristic}
use Rattle.spl_table.specs.declared.refusal.Kind.TheVariants.{AfterEnd}
use Rattle.spl_table.proofs.Spellings.{no_modulus, after_word}
use Rattle.spl_table.proofs.Faults.{no_second, second_fault, no_third_line, third_fault, spelled_head, entries_fault}
use Rattle.spl_table.proofs.Faults.{is_first_fault}
use Rattle.spl_table.proofs.FieldDecisions.{field_decided}
use Rattle.spl_table.proofs.EntryDecisions.{Decided, ReadsToEnd, ReadsToFault, lines_decided}
use Rattle.spl_table.proofs.TextLaws.{table_unique, no_table_fault}
use Rattle.spl_table.proofs.OneRefusal.{refusal_unique}

-- ---- the second line, and the third

-- the line says P and M
record SaysField (text : List ℕ) : Type 0 where
  p : ℕ
  m : List ℕ
  characteristic : IsNumber p
  modulus : AreNumbers m
  spelled : text ≡ field_text p m

field_spelled : (text : List ℕ) → SaysField text ⊎ ((p : ℕ) (m : List ℕ) → IsNumber p → AreNumbers m
    → text ≢ field_text p m)
field_spelled text = go (has_front (codes "field ") text)
  where
    numbers : (rest : List ℕ) → text ≡ codes "field " ++ rest → (n : HasNumber 32 rest)
        → SpellsOrNot AreNumbers numbers_text n.rest
        → SaysField text ⊎ ((p : ℕ) (m : List ℕ) → IsNumber p → AreNumbers m → text ≢ field_text p m)
    numbers rest e n (inl m) = inl (record {
      p = n.number;
      m = m.0;
      characteristic = n.is;
      modulus = m.1;
      spelled = e ∙ ap (λ t. codes "field " ++ t) (n.spelled ∙ ap (λ t. decimal n.number ++ 32 ∷ t) m.2)
          ∙ sym (after_word (codes "field ") (numbers_text m.0) n.number);
    })
    numbers rest e n (inr none) = inr (no_modulus text rest n.rest n.number e n.is n.spelled none)

    number : (rest : List ℕ) → text ≡ codes "field " ++ rest
        → HasNumber 32 rest ⊎ ((n : ℕ) (after : List ℕ) → IsNumber n → rest ≢ decimal n ++ 32 ∷ after)
        → SaysField text ⊎ ((p : ℕ) (m : List ℕ) → IsNumber p → AreNumbers m → text ≢ field_text p m)
    number rest e (inl n) = numbers rest e n (numbers_decided n.rest)
    number rest e (inr none) = inr (λ p m is are s.
        none p (numbers_text m) is (append_cancel_left (codes "field ") rest (decimal p ++ 32 ∷ numbers_text m)
        (sym e ∙ s ∙ after_word (codes "field ") (numbers_text m) p)))

    go : HasFront (codes "field ") text ⊎ ((rest : List ℕ) → text ≢ codes "field " ++ rest)
        → SaysField text ⊎ ((p : ℕ) (m : List ℕ) → IsNumber p → AreNumbers m → text ≢ field_text p m)
    go (inl rest) = number rest.0 rest.1 (has_number 32 rest.0 (omega arith))
    go (inr none) = inr (λ p m is are s. none (decimal p ++ 32 ∷ numbers_text m)
        (s ∙ after_word (codes "field ") (numbers_text m) p))

degree_spelled : (text : List ℕ) → SpellsOrNot IsNumber degree_text text
degree_spelled text = go (has_front (codes "degree ") text)
  where
    number : (rest : List ℕ) → text ≡ codes "degree " ++ rest → SpellsOrNot IsNumber decimal rest
        → SpellsOrNot IsNumber degree_text text
    number rest e (inl n) = inl (n.0, n.1, e ∙ ap (λ t. codes "degree " ++ t) n.2)
    number rest e (inr none) = inr (λ n is s.
        none n is (append_cancel_left (codes "degree ") rest (decimal n) (sym e ∙ s)))

    go : HasFront (codes "degree ") text ⊎ ((rest : List ℕ) → text ≢ codes "degree " ++ rest)
        → SpellsOrNot IsNumber degree_text text
    go (inl rest) = number rest.0 rest.1 (number_decided rest.0)
    go (inr none) = inr (λ n is s. none (decimal n) s)

-- ---- the lines

-- the bytes are the text of a table and the rest, or a first line is at fault
record SaysTable (x : Extent) (bytes : List ℕ) : Type 0 where
  text : TableText
  rest : List ℕ
  well_formed : IsWellFormed text
  spelled : bytes ≡ spelling text ++ rest
  follows : MayFollow x rest

record HasFault (x : Extent) (bytes : List ℕ) : Type 0 where
  at : ℕ
  kind : Kind
  fault : IsFaultOfLines x bytes at kind

module _ (bytes : List ℕ) where
  -- ---- after the third line

  module _ (h : Head) (right : IsRightHead h) (rest : List ℕ) (spelled : bytes ≡ head_lines h ++ rest) where
    to_end : (x : Extent) → ReadsToEnd h None rest → SaysTable x bytes ⊎ HasFault x bytes
    to_end x w = go x w.rest w.right all
      where
        all : bytes ≡ lines_before_end h w.entries ++ (end_line ++ w.rest)
        all = spelled ∙ ap (λ t. head_lines h ++ t) w.spelled
            ∙ sym (append_assoc (head_lines h) (flat_map entry_line w.entries) (end_line ++ w.rest))

        says : (y : Extent) (after : List ℕ) → AreRightEntries h None w.entries
            → bytes ≡ lines_before_end h w.entries ++ (end_line ++ after) → MayFollow y after → SaysTable y bytes
        says y after are e follows = record {
          text = record { head = h; entries = w.entries };
          rest = after;
          well_formed = record { head = right; entries = are };
          spelled = e ∙ sym (append_assoc (lines_before_end h w.entries) end_line after);
          follows = follows;
        }

        go : (y : Extent) (after : List ℕ) → AreRightEntries h None w.entries
            → bytes ≡ lines_before_end h w.entries ++ (end_line ++ after) → SaysTable y bytes ⊎ HasFault y bytes
        go front after are e = inl (says front after are e tt)
        go whole [] are e = inl (says whole [] are e refl)
        go whole (byte ∷ after) are e = inr (record {
          at = 5 + length w.entries;
          kind = AfterEnd;
          fault = record {
            head = h;
            entries = w.entries;
            byte = byte;
            rest = after;
            begins = record { head = right; entries = are; spelled = e };
            at_line = refl;
          };
        })

    entries_read : (x : Extent) → ReadsToEnd h None rest ⊎ ReadsToFault h None rest
        → SaysTable x bytes ⊎ HasFault x bytes
    entries_read x (inl w) = to_end x w
    entries_read x (inr w) = inr (record {
      at = 4 + length w.entries;
      kind = w.kind;
      fault = entries_fault x bytes rest h right spelled (4 + length w.entries) w.kind (record {
        entries = w.entries;
        rest = w.rest;
        right = w.right;
        spelled = w.spelled;
        at_line = refl;
        fault = w.fault;
      });
    })

  -- ---- the first three lines

  module _ (x : Extent) (rest : List ℕ) (first : bytes ≡ first_line ++ rest) where
    module _ (second : Cut 10 rest) (f : SaysField second.left) where
      module _ (admitted : IsAdmitted f.p f.m) (third : Cut 10 second.right) where
        third_at_fault : (kind : Kind) → IsDegreeFault f.p third.left kind → HasFault x bytes
        third_at_fault kind w = record {
          at = 3;
          kind = kind;
          fault = third_fault x bytes rest first second.left second.right second.lacks second.whole f.p f.m f.spelled
              admitted third.left third.right third.lacks third.whole kind w;
        }

        degree_read : (n : ℕ) → IsNumber n → third.left ≡ degree_text n → (n < 2) ⊎ (2 ≤ n) → (5 < n) ⊎ (n ≤ 5)
            → (n % f.p ≡ 0) ⊎ (n % f.p ≢ 0) → SaysTable x bytes ⊎ HasFault x bytes
        degree_read n is e (inl low) high apart = inr (third_at_fault Degree (record {
          n = n;
          number = is;
          spelled = e;
          fault = λ w. omega (arith, low, w.0);
        }))
        degree_read n is e (inr low) (inl high) apart = inr (third_at_fault Degree (record {
          n = n;
          number = is;
          spelled = e;
          fault = λ w. omega (arith, high, w.1);
        }))
        degree_read n is e (inr low) (inr high) (inl divides) = inr (third_at_fault Characteristic (record {
          n = n;
          number = is;
          spelled = e;
          fault = (low, high, divides);
        }))
        degree_read n is e (inr low) (inr high) (inr apart) =
            entries_read (record { characteristic = f.p; modulus = f.m; degree = n })
            (record { admitted = admitted; degree_low = low; degree_high = high; apart = apart }) third.right
            (spelled_head x bytes rest first second.left second.right second.lacks second.whole f.p f.m f.spelled
            admitted third.left third.right third.lacks third.whole n e)
            x (lines_decided (record { characteristic = f.p; modulus = f.m; degree = n }) third.right)

        third_read : SpellsOrNot IsNumber degree_text third.left → SaysTable x bytes ⊎ HasFault x bytes
        third_read (inl n) = degree_read n.0 n.1 n.2 (cases_lt n.0 2) (cases_lt 5 n.0) (cases_eq (n.0 % f.p) 0)
        third_read (inr none) = inr (third_at_fault Header none)

      after_field : IsAdmitted f.p f.m → Cut 10 second.right ⊎ Lacks 10 second.right
          → SaysTable x bytes ⊎ HasFault x bytes
      after_field admitted (inl third) = third_read admitted third (degree_spelled third.left)
      after_field admitted (inr lacks) = inr (record {
        at = 3;
        kind = Header;
        fault = no_third_line x bytes rest first second.left second.right second.lacks second.whole f.p f.m f.spelled
            admitted lacks;
      })

      field_read : IsAdmitted f.p f.m ⊎ (FitsField f.p f.m → ⊥) ⊎ ((a : ℕ) × IsFirstWithoutInverse f.p f.m a)
          → SaysTable x bytes ⊎ HasFault x bytes
      field_read (inl admitted) = after_field admitted (cut_or_lacks 10 second.right)
      field_read (inr (inl size)) = inr (record {
        at = 2;
        kind = FieldSize;
        fault = second_fault x bytes rest first second.left second.right second.lacks second.whole FieldSize (record {
          p = f.p;
          m = f.m;
          characteristic = f.characteristic;
          modulus = f.modulus;
          spelled = f.spelled;
          fault = size;
        });
      })
      field_read (inr (inr law)) = inr (record {
        at = 2;
        kind = FieldLaw law.0;
        fault = second_fault x bytes rest first second.left second.right second.lacks second.whole (FieldLaw law.0)
            (record {
              p = f.p;
              m = f.m;
              characteristic = f.characteristic;
              modulus = f.modulus;
              spelled = f.spelled;
              fault = law.1;
            });
      })

    second_read : (second : Cut 10 rest) → SaysField second.left ⊎ ((p : ℕ) (m : List ℕ) → IsNumber p → AreNumbers m
        → second.left ≢ field_text p m) → SaysTable x bytes ⊎ HasFault x bytes
    second_read second (inl f) = field_read second f (field_decided f.p f.m)
    second_read second (inr none) = inr (record {
      at = 2;
      kind = Header;
      fault = second_fault x bytes rest first second.left second.right second.lacks second.whole Header none;
    })

    after_first : Cut 10 rest ⊎ Lacks 10 rest → SaysTable x bytes ⊎ HasFault x bytes
    after_first (inl second) = second_read second (field_spelled second.left)
    after_first (inr lacks) = inr (record { at = 2; kind = Header; fault = no_second x bytes rest first lacks })

  lines_read : (x : Extent) → HasFront first_line bytes ⊎ ((rest : List ℕ) → bytes ≢ first_line ++ rest)
      → SaysTable x bytes ⊎ HasFault x bytes
  lines_read x (inl rest) = after_first x rest.0 rest.1 (cut_or_lacks 10 rest.0)
  lines_read x (inr none) = inr (record { at = 1; kind = Header; fault = inl (refl, none) })

  -- ---- the bytes, before the lines

  text_byte : (b : ℕ) → Decided (IsTextByte b)
  text_byte b = go (cases_eq b 10) (cases_lt b 32) (cases_lt 126 b)
    where
      go : (b ≡ 10) ⊎ (b ≢ 10) → (b < 32) ⊎ (32 ≤ b) → (126 < b) ⊎ (b ≤ 126) → Decided (IsTextByte b)
      go (inl newline) low high = inl (inr newline)
      go (inr other) (inl low) high = inr (λ w. ⊎_elim
          (λ (v : (32 ≤ b) × (b ≤ 126)). omega (arith, low, v.0)) (λ (e : b ≡ 10). other e) w)
      go (inr other) (inr low) (inl high) = inr (λ w. ⊎_elim
          (λ (v : (32 ≤ b) × (b ≤ 126)). omega (arith, high, v.1)) (λ (e : b ≡ 10). other e) w)
      go (inr other) (inr low) (inr high) = inl (inl (low, high))

  text_below : (n : ℕ) → n ≤ length bytes → ((k : ℕ) → k < n → IsTextByte (get_or bytes k 0))
      ⊎ ((place : ℕ) × IsFirstNoText bytes place)
  text_below zero low = inl (λ k below. absurd (omega arith))
  text_below (suc n) low = go (text_below n (omega (arith, low))) (text_byte (get_or bytes n 0))
    where
      last : ((k : ℕ) → k < n → IsTextByte (get_or bytes k 0)) → IsTextByte (get_or bytes n 0) → (k : ℕ) → k < suc n
          → (k < n) ⊎ (n ≤ k) → IsTextByte (get_or bytes k 0)
      last before here k below (inl lower) = before k lower
      last before here k below (inr same) =
          let at : n ≡ k = omega (arith, below, same) in subst (λ i. IsTextByte (get_or bytes i 0)) at here

      go : ((k : ℕ) → k < n → IsTextByte (get_or bytes k 0)) ⊎ ((place : ℕ) × IsFirstNoText bytes place)
          → Decided (IsTextByte (get_or bytes n 0))
          → ((k : ℕ) → k < suc n → IsTextByte (get_or bytes k 0)) ⊎ ((place : ℕ) × IsFirstNoText bytes place)
      go (inr found) here = inr found
      go (inl before) (inl here) = inl (λ k below. last before here k below (cases_lt k n))
      go (inl before) (inr no_text) =
          inr (n, record { within = omega (arith, low); no_text = no_text; before = before })

  within_limit : (x : Extent) → IsWithinLimit x bytes ⊎ IsTooLong x bytes
  within_limit front = inl tt
  within_limit whole = go (cases_lt table_limit (length bytes))
    where
      go : (table_limit < length bytes) ⊎ (length bytes ≤ table_limit)
          → IsWithinLimit whole bytes ⊎ IsTooLong whole bytes
      go (inl long) = inr long
      go (inr within) = inl within

  -- ---- the whole text

  module _ (x : Extent) where
    table_or_refusal : ((t : TableText) × (rest : List ℕ) × IsTableText x bytes t rest)
        ⊎ ((r : Refusal) × IsRefusal x bytes r)
    table_or_refusal =
        go (within_limit x) (text_below (length bytes) (omega arith)) (lines_read x (has_front first_line bytes))
      where
        go : IsWithinLimit x bytes ⊎ IsTooLong x bytes
            → ((k : ℕ) → k < length bytes → IsTextByte (get_or bytes k 0)) ⊎ ((place : ℕ) × IsFirstNoText bytes place)
            → SaysTable x bytes ⊎ HasFault x bytes
            → ((t : TableText) × (rest : List ℕ) × IsTableText x bytes t rest) ⊎ ((r : Refusal) × IsRefusal x bytes r)
        go (inr long) text lines = inr (record { line = 0; kind = TooLong }, (refl, long))
        go (inl within) (inr found) lines = inr (
          record { line = 1 + newlines (take found.0 bytes); kind = NotText },
          (within, record { place = found.0; first = found.1; at_line = refl }),
        )
        go (inl within) (inl text) (inl says) = inl (
          says.text,
          says.rest,
          record {
            within = within;
            text = text;
            well_formed = says.well_formed;
            spelled = says.spelled;
            follows = says.follows;
          },
        )
        go (inl within) (inl text) (inr f) =
            inr (record { line = f.at; kind = f.kind }, is_first_fault x bytes within text f.at f.kind f.fault)

pub each_text : (x : Extent) → EachIsTextOrRefused x
each_text x bytes = go (table_or_refusal bytes x)
  where
    go : ((t : TableText) × (rest : List ℕ) × IsTableText x bytes t rest) ⊎ ((r : Refusal) × IsRefusal x bytes r)
        → ((t : TableText) × (rest : List ℕ) × IsOnlyTableText x bytes t rest)
        ⊎ ((r : Refusal) × IsOnlyRefusal x bytes r)
    go (inl t) = inl (
      t.0,
      t.1,
      record {
        is_text = t.2;
        only = λ u s is. table_unique x bytes t.0 u t.1 s t.2 is;
        no_refusal = λ r is. no_table_fault x bytes t.0 t.1 t.2 r is;
      },
    )
    go (inr r) = inr (
      r.0,
      record {
        is_refusal = r.1;
        only = λ f is. refusal_unique bytes x r.0 f r.1 is;
        no_table = λ t rest is. no_table_fault x bytes t rest is r.0 r.1;
      },
    )

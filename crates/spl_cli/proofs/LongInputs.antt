-- What an input that is longer than the limit of its form comes to, each longer input comes to.
use Rattle.std.specs.Prelude.{◌≡◌, ◌⊎◌, ℕ, ◌<◌, ◌≤◌, refl, option_and_then}
use Rattle.std.specs.Prelude.{List, ◌++◌, length, Some}
use Rattle.std.proofs.Common.{inl, inr, ⊎_elim, sym, ◌∙◌, ap, subst, arith, length-append}
use Rattle.spl_table.specs.Refusal.{table_limit, front_limit, whole, IsFirstFault, IsRefusal}
use Rattle.spl_table.specs.declared.refusal.Refusal.{Refusal}
use Rattle.spl_table.specs.declared.refusal.Kind.{Kind}
use Rattle.spl_table.specs.declared.refusal.Kind.TheVariants.{TooLong, NotText, Header, FieldSize, FieldLaw, Degree}
use Rattle.spl_table.specs.declared.refusal.Kind.TheVariants.{Characteristic, EntryForm, EntryRange, EntryOrder}
use Rattle.spl_table.specs.declared.refusal.Kind.TheVariants.{ZeroDenominator, PolyDegree, NoEnd, AfterEnd, NotBuilt}
use Rattle.spl_cli.specs.declared.status.Status.{Status}
use Rattle.spl_cli.specs.declared.status.Status.TheVariants.{Done, No, Usage, Refused, ReadFault, WriteFault, Memory}
use Rattle.spl_cli.specs.declared.words.Form.{Form}
use Rattle.spl_cli.specs.declared.words.Form.TheVariants.{Decide, Check}
use Rattle.spl_cli.specs.Forms.{form_of, limit_of_form, limit_of}
use Rattle.spl_cli.specs.Report.{Report, IsUndecided, IsTooLong, IsTableRefused, IsEvidenceRefused}
use Rattle.spl_cli.specs.Report.{IsCheckRefused, IsDone, IsNo, IsRefusedBy}

-- a fault of a table text that is too long is one of each longer text
IsFirstFault-append : (read rest : List ℕ) (line : ℕ) (kind : Kind) → table_limit < length read
    → IsFirstFault whole read line kind → IsFirstFault whole (read ++ rest) line kind
IsFirstFault-append read rest line TooLong long h = (h.0, omega (arith, length-append read rest, h.1))
IsFirstFault-append read rest line NotText long h = absurd (omega (arith, h.0))
IsFirstFault-append read rest line Header long h = absurd (omega (arith, h.0))
IsFirstFault-append read rest line FieldSize long h = absurd (omega (arith, h.0))
IsFirstFault-append read rest line (FieldLaw element) long h = absurd (omega (arith, h.0))
IsFirstFault-append read rest line Degree long h = absurd (omega (arith, h.0))
IsFirstFault-append read rest line Characteristic long h = absurd (omega (arith, h.0))
IsFirstFault-append read rest line EntryForm long h = absurd (omega (arith, h.0))
IsFirstFault-append read rest line EntryRange long h = absurd (omega (arith, h.0))
IsFirstFault-append read rest line EntryOrder long h = absurd (omega (arith, h.0))
IsFirstFault-append read rest line ZeroDenominator long h = absurd (omega (arith, h.0))
IsFirstFault-append read rest line PolyDegree long h = absurd (omega (arith, h.0))
IsFirstFault-append read rest line NoEnd long h = absurd (omega (arith, h.0))
IsFirstFault-append read rest line AfterEnd long h = absurd (omega (arith, h.0))
IsFirstFault-append read rest line NotBuilt long h = absurd (omega (arith, h.0))

cause-append : (read rest : List ℕ) (refusal : Refusal) → table_limit < length read
    → IsRefusal whole read refusal ⊎ IsUndecided read refusal → IsRefusal whole (read ++ rest) refusal
cause-append read rest refusal long h = ⊎_elim
    (λ (r : IsRefusal whole read refusal). IsFirstFault-append read rest refusal.line refusal.kind long r)
    (λ (u : IsUndecided read refusal). let t = u.stands in absurd (omega (arith, long, t.is_text.within)))
    h

module _ (read : List ℕ) (bytes : List ℕ) where
  -- what is done is done on an input that is not too long
  done_short : (form : Form) (limit : ℕ) → limit_of_form form ≡ Some limit → IsDone form read bytes
      → length read ≤ limit
  done_short Decide limit e d =
      let t = d.stands in let is : table_limit ≡ limit = cc in subst (λ n. length read ≤ n) is t.is_text.within
  done_short Check limit e d =
      let t = d.read in let s = t.stands in let is : front_limit ≡ limit = cc in
      subst (λ n. length read ≤ n) is s.within

  no_short : (form : Form) (limit : ℕ) → limit_of_form form ≡ Some limit → IsNo form read bytes → length read ≤ limit
  no_short Decide limit e d = absurd d
  no_short Check limit e d =
      let t = d.read in let s = t.stands in let is : front_limit ≡ limit = cc in
      subst (λ n. length read ≤ n) is s.within

  module _ (rest : List ℕ) where
    check_refused : front_limit < length read → IsCheckRefused read bytes → IsCheckRefused (read ++ rest) bytes
    check_refused long r = ⊎_elim
        (λ (t : IsTooLong read bytes). inl (record {
          long = omega (arith, length-append read rest, t.long);
          report = t.report;
        }))
        (λ (t : IsTableRefused read bytes ⊎ IsEvidenceRefused read bytes). absurd (⊎_elim
        (λ (x : IsTableRefused read bytes). omega (arith, long, x.within))
        (λ (x : IsEvidenceRefused read bytes). let s = x.stands in omega (arith, long, s.within))
        t))
        r

    refused_append : (form : Form) (limit : ℕ) → limit_of_form form ≡ Some limit → limit < length read
        → IsRefusedBy form read bytes → IsRefusedBy form (read ++ rest) bytes
    refused_append Decide limit e long r =
        let is : table_limit ≡ limit = cc in
        record {
          refusal = r.refusal;
          cause = inl (cause-append read rest r.refusal (subst (λ n. n < length read) (sym is) long) r.cause);
          report = r.report;
        }
    refused_append Check limit e long r =
        let is : front_limit ≡ limit = cc in check_refused (subst (λ n. n < length read) (sym is) long) r

module _ (words : List (List ℕ)) (limit : ℕ) (limited : limit_of words ≡ Some limit) where
  -- the limit is that of the form of the report
  of_form : (form : Form) → form_of words ≡ Some form → limit_of_form form ≡ Some limit
  of_form form is = sym (ap (option_and_then limit_of_form) is) ∙ limited

  -- a report that is done or says no is on an input that is not too long
  pub Done-short : (read : List ℕ) (answer : Status) (bytes : List ℕ) → Report words read answer bytes
      → (answer ≡ Done) ⊎ (answer ≡ No) → length read ≤ limit
  Done-short read Done bytes r e = done_short read bytes r.0 limit (of_form r.0 r.1) r.2
  Done-short read No bytes r e = no_short read bytes r.0 limit (of_form r.0 r.1) r.2
  Done-short read Usage bytes r e = absurd (⊎_elim (λ (x : Usage ≡ Done). cc) (λ (x : Usage ≡ No). cc) e)
  Done-short read Refused bytes r e = absurd (⊎_elim (λ (x : Refused ≡ Done). cc) (λ (x : Refused ≡ No). cc) e)
  Done-short read ReadFault bytes r e = absurd r
  Done-short read WriteFault bytes r e = absurd r
  Done-short read Memory bytes r e = absurd r

  -- what an input that is too long comes to, each longer one comes to
  pub Report-append : (read rest : List ℕ) (answer : Status) (bytes : List ℕ) → limit < length read
      → Report words read answer bytes → Report words (read ++ rest) answer bytes
  Report-append read rest Usage bytes long h = h
  Report-append read rest Done bytes long h = absurd (omega (arith, long, Done-short read Done bytes h (inl refl)))
  Report-append read rest No bytes long h = absurd (omega (arith, long, Done-short read No bytes h (inr refl)))
  Report-append read rest Refused bytes long h =
      (h.0, h.1, refused_append read bytes rest h.0 limit (of_form h.0 h.1) long h.2)
  Report-append read rest ReadFault bytes long h = absurd h
  Report-append read rest WriteFault bytes long h = absurd h
  Report-append read rest Memory bytes long h = absurd h

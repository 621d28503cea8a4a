-- The fault of a line that is an entry.
use Rattle.std.proofs.Common.{◌≡◌, ℕ, List, ◌++◌, Option, sym, ap, subst}
use Rattle.spl_text.specs.Text.{line}
use Rattle.spl_table.specs.TableText.{Entry, Head, entry_line, IsEntry, IsRightEntry}
use Rattle.spl_table.specs.Refusal.{LineFault}
use Rattle.spl_table.specs.Reading.{IfRefused, entry_text, head_of, IsPrevious, IsEntryFaultOf}
use Rattle.spl_field.specs.declared.small.SmallField.{SmallField}
use Rattle.spl_table.specs.declared.refusal.TableFault.{TableFault}
use Rattle.spl_table.specs.declared.refusal.Kind.{Kind}
use Rattle.spl_table.specs.declared.refusal.Kind.TheVariants.{TooLong, NotText, Header, FieldSize, FieldLaw, Degree}
use Rattle.spl_table.specs.declared.refusal.Kind.TheVariants.{Characteristic, EntryForm, EntryRange, EntryOrder}
use Rattle.spl_table.specs.declared.refusal.Kind.TheVariants.{ZeroDenominator, PolyDegree, NoEnd, AfterEnd, NotBuilt}

pub fault_of_entry : (h : Head) (previous : Option Entry) (text after : List ℕ) (e : Entry) → IsEntry e
    → text ≡ entry_text e
    → (kind : Kind) → IsEntryFaultOf h previous e kind → LineFault h previous (line text ++ after) kind
fault_of_entry h previous text after e is spelled kind fault = go kind fault
  where
    next : line text ++ after ≡ entry_line e ++ after
    next = ap (λ t. line t ++ after) spelled

    go : (kind : Kind) → IsEntryFaultOf h previous e kind → LineFault h previous (line text ++ after) kind
    go EntryRange w = record { entry = e; after = after; form = is; next = next; fault = w }
    go EntryOrder w = record { entry = e; after = after; form = is; next = next; fault = w }
    go ZeroDenominator w = record { entry = e; after = after; form = is; next = next; fault = w }
    go PolyDegree w = record { entry = e; after = after; form = is; next = next; fault = w }
    go TooLong w = absurd w
    go NotText w = absurd w
    go Header w = absurd w
    go FieldSize w = absurd w
    go (FieldLaw element) w = absurd w
    go Degree w = absurd w
    go Characteristic w = absurd w
    go EntryForm w = absurd w
    go NoEnd w = absurd w
    go AfterEnd w = absurd w
    go NotBuilt w = absurd w

-- what is said of an entry over one field holds over an equal one
module _ (f g : SmallField) (n next count : ℕ) (same : f ≡ g) (full : next ≡ count) (previous : Option Entry)
    (is : IsPrevious (head_of g n) count previous) where
  at_next : IsPrevious (head_of g n) next previous
  at_next = subst (λ m. IsPrevious (head_of g n) m previous) (sym full) is

  pub right_over : (e : Entry)
      → ((p : Option Entry) → IsPrevious (head_of f n) next p → IsRightEntry (head_of f n) p e)
      → IsRightEntry (head_of g n) previous e
  right_over e right =
      let over = subst (λ (x : SmallField). (p : Option Entry) → IsPrevious (head_of x n) next p
      → IsRightEntry (head_of x n) p e) same right in
      over previous at_next

  pub refused_over : (text : List ℕ) (number : ℕ) (e : TableFault)
      → ((p : Option Entry) (after : List ℕ) → IsPrevious (head_of f n) next p
      → IfRefused e (λ at kind. (at ≡ number) × LineFault (head_of f n) p (line text ++ after) kind))
      → (after : List ℕ) → IfRefused e
      (λ at kind. (at ≡ number) × LineFault (head_of g n) previous (line text ++ after) kind)
  refused_over text number e fault after =
      let over = subst (λ (x : SmallField). (p : Option Entry) (after' : List ℕ) → IsPrevious (head_of x n) next p
      → IfRefused e (λ at kind. (at ≡ number) × LineFault (head_of x n) p (line text ++ after') kind)) same fault in
      over previous after at_next

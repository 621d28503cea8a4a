-- The steps of the chain of an algebra over a residue field: its first member, the next one by roots of traces, and its
-- end.
use Rattle.std.specs.Prelude.{◌≡◌, ℕ, suc, ◌*◌, ◌^◌, ◌<◌, ◌≤◌, List, [], length, get_or}
use Rattle.std.proofs.Common.{refl, sym, ◌∙◌, ap, subst, arith}
use Rattle.std.proofs.Math.Nat.{mul-le-mul, pow-suc}
use Rattle.theory_rings.specs.Ops.{Ops, IsElem, FieldLaws}
use Rattle.theory_rings.specs.Elements.{Elem, Elem-path, elements}
use Rattle.theory_rings.specs.Power.{power}
use Rattle.theory_rings.specs.Prime.{IsPrime}
use Rattle.theory_rings.specs.Sum.{sum_of, table, at}
use Rattle.theory_rings.proofs.FiniteFields.ElementsByDigits.{prime_by_digits}
use Rattle.theory_rings.proofs.Numbers.Digits.{le_pow_self}
use Rattle.theory_rings.proofs.Rings.Elements.{at-elem, sum_of-elem, power_of-elements}
use Rattle.theory_rings.proofs.Sums.Lists.{length-table}
use Rattle.theory_spaces.specs.Tuples.{IsTuple}
use Rattle.theory_spaces.proofs.Tuples.TupleProducts.{IsTuple-product, IsTuple-basis}
use Rattle.theory_tables.specs.Matrix.{entry, IsMatrix, width_of}
use Rattle.theory_tables.specs.Structure.{Structure, IsOver, IsAssociative, product_of, basis_of}
use Rattle.theory_tables.specs.Algebras.{IsIdentity, HasIdentity, SpansIdeal}
use Rattle.theory_tables.specs.Subspace.{SpansKernel, SpansMeet}
use Rattle.theory_tables.specs.Traces.{PowerVanishes, trace, trace_matrix}
use Rattle.theory_tables.proofs.Rows.Sums.{entry-elem}
use Rattle.theory_lifts.proofs.ElementLists.{digit_list-down, two_le_power}
use Rattle.theory_chains.specs.Members.{SpansMember, HasRootAt, MembersByRows}
use Rattle.theory_chains.specs.Radical.{SpansRadical}
use Rattle.theory_chains.proofs.Chains.{members_by_rows, member_ideal}
use Rattle.theory_chains.proofs.LiftedRoots.{root_by_lift}
use Rattle.spl_field.specs.SmallField.{small_ops, small_laws, modulus_of}
use Rattle.spl_residue.specs.Residue.{field_of, polynomial_of, residue_ops}
use Rattle.spl_residue.specs.declared.field.ResidueField.{ResidueField}
use Rattle.spl_radical.specs.LiftRing.{lift_ring, lifted, prime_of, size_of, small_by_digits}
use Rattle.spl_radical.specs.TracePower.{lifted_matrix}
use Rattle.spl_radical.specs.Radical.{laws_of, IsTraceRoot, SpansChainMember}

-- the width of a square matrix with a row
pub form_width : {E : Type 0} (o : Ops E) (m : ℕ) (form : List (List E)) → IsMatrix o m form → length form ≡ m → 1 ≤ m
    → width_of form ≡ m
form_width o m form shape long some = (shape 0 [] (omega (arith, long, some))).right_length

-- the matrix of the trace form has as many rows
pub form_height : {E : Type 0} (o : Ops E) (T : Structure E) (form : List (List E)) → form ≡ trace_matrix o T
    → length form ≡ T.dim
form_height o T form e = ap length e ∙ length-table T.dim (λ i. table T.dim (λ j. trace o T
    (product_of o T (basis_of o T i) (basis_of o T j))))

module _ (k : ResidueField) where
  abbrev o : Ops (List ℕ)
  o = residue_ops k

  abbrev L : FieldLaws o
  L = laws_of k

  pub prime : IsPrime (prime_of k)
  prime = let f = field_of k in
      prime_by_digits (prime_of k) f.least (modulus_of f) f.some_number (small_ops f) (small_by_digits f)

  -- ---- sizes

  pub prime_fits : prime_of k ≤ 256
  prime_fits = let f = field_of k in
      let s = f.power in
      let l = f.most in
      let g = le_pow_self (prime_of k) (length (modulus_of f)) f.some_number in
      omega arith

  pub level_fits : (l m : ℕ) → prime_of k ^ l ≤ m → m < 2 ^ 22 → size_of k l ≤ 2 ^ 40
  level_fits l m low small =
      let e = pow-suc (prime_of k) l in
      let h : prime_of k ^ l * prime_of k ≤ m * 256 = mul-le-mul low prime_fits in
      omega arith

  module _ (l : ℕ) where
    -- ---- a lift is one, entry by entry

    down-lifted : (x : List ℕ) → IsElem o x → ((let R = lift_ring k l in R.down (lifted k l x))).0 ≡ x
    down-lifted x h = let f = field_of k in
        ap (λ z. z.0) (digit_list-down (small_ops f) (small_laws f) (polynomial_of k) k.irreducible (prime_of k) f.least
        (modulus_of f) f.some_number (small_by_digits f) (suc l) (two_le_power (prime_of k) l f.least) (x, h))

    module _ (T : Structure (List ℕ)) (over : IsOver o T) (assoc : IsAssociative o T) (one : List (List ℕ))
        (is_one : IsIdentity o T one) where
      abbrev Spans : ℕ → List (List (List ℕ)) → Type 0
      Spans = SpansMember o L T over assoc one is_one (lift_ring k l)

      abbrev laws : MembersByRows o L T over assoc one is_one (lift_ring k l)
      laws = members_by_rows o L T over assoc one is_one prime (lift_ring k l)

      root_of_trace : (i : ℕ) (rows : List (List (List ℕ))) (h : Spans i rows) (w : List (List ℕ))
          → IsTuple o T.dim w → (s : ℕ) → s < length rows
          → IsTraceRoot k l T i (get_or rows s []) (sum_of o T.dim (λ j. o.mul (entry o rows s j) (at o w j)))
          → HasRootAt o L T over assoc one is_one (lift_ring k l) i rows h.shape w s
      root_of_trace i rows h w tuple s ls root =
          let x = get_or rows s [] in
          let x_tuple = h.shape s [] ls in
          let y : Elem o = (
            sum_of o T.dim (λ j. o.mul (entry o rows s j) (at o w j)),
            sum_of-elem o L T.dim (λ j. o.mul (entry o rows s j) (at o w j)) (λ j _. L.mul-elem (entry o rows s j)
                (at o w j) (entry-elem o L T.dim rows h.shape s j) (at-elem o L w tuple.of_elements j)),
          ) in
          root_by_lift o L T over assoc one is_one prime (lift_ring k l) i rows h w s ls (lifted_matrix k l T x)
          (λ a j _ _. down-lifted (at o (product_of o T x (basis_of o T j)) a)
          (at-elem o L (product_of o T x (basis_of o T j)) (IsTuple-product o L T.dim T.constants over.of_elements x
          (basis_of o T j) x_tuple (IsTuple-basis o L T.dim T.constants over.of_elements j)).of_elements a))
          y refl
          (λ q e. let R = lift_ring k l in
          Elem-path o (R.down q) (power (elements o L).ring y (prime_of k ^ i))
          (root q (ap (λ z. z.0) (sym e)) ∙ power_of-elements o L y (prime_of k ^ i)))

    module _ (T : Structure (List ℕ)) where
      abbrev Member : ℕ → List (List (List ℕ)) → Type 0
      Member = SpansChainMember k l T

      pub first_member : (form rows : List (List (List ℕ))) → form ≡ trace_matrix o T → 1 ≤ T.dim
          → IsMatrix o T.dim form → IsMatrix o T.dim rows → SpansKernel o (length form) (width_of form) form rows
          → Member 1 rows
      first_member form rows e some form_shape shape kernel over assoc one is_one =
          let n = form_height o T form e in
          let w = form_width o T.dim form form_shape n some in
          let M : ℕ → ℕ → List (List (List ℕ)) → Type 0 = λ h w f. SpansKernel o h w f rows in
          (let M = laws T over assoc one is_one in M.first) rows shape
          (subst (λ f. M T.dim T.dim f) e (subst (λ x. M T.dim x form) w
          (subst (λ x. M x (width_of form) form) n kernel)))

      pub next_member : (i : ℕ) → i ≤ l → (rows : List (List (List ℕ))) → Member i rows → (w : List (List ℕ))
          → IsTuple o T.dim w
          → ((s : ℕ) → s < length rows → IsTraceRoot k l T i (get_or rows s [])
          (sum_of o T.dim (λ j. o.mul (entry o rows s j) (at o w j))))
          → (form : List (List (List ℕ))) → ((i j : ℕ) → i < T.dim → j < T.dim → entry o form j i
          ≡ sum_of o T.dim (λ k. o.mul (at o w k) (at o (product_of o T (basis_of o T i) (basis_of o T j)) k)))
          → (kernel new : List (List (List ℕ))) → SpansKernel o T.dim T.dim form kernel
          → SpansMeet o T.dim new rows kernel → IsMatrix o T.dim new → Member (suc i) new
      next_member i le rows h w tuple roots form is_form kernel new is_kernel is_meet shape over assoc one is_one =
          let g = h over assoc one is_one in
          (let M = laws T over assoc one is_one in M.next) i (omega (arith, le)) rows g w tuple
          (λ s ls. root_of_trace T over assoc one is_one i rows g w tuple s ls (roots s ls)) form is_form kernel new
          is_kernel is_meet shape

      pub is_ideal : IsOver o T → IsAssociative o T → HasIdentity o T → (i : ℕ) (rows : List (List (List ℕ)))
          → Member i rows → SpansIdeal o T rows
      is_ideal over assoc id i rows h =
          member_ideal o L T over assoc id.one id.is_one prime (lift_ring k l) i rows (h over assoc id.one id.is_one)

      pub nilpotent_is_radical : IsOver o T → IsAssociative o T → HasIdentity o T → (i : ℕ)
          (rows : List (List (List ℕ))) → Member i rows → PowerVanishes o T rows → SpansRadical o T rows
      nilpotent_is_radical over assoc id i rows h p =
          (let M = laws T over assoc id.one id.is_one in M.stop) i rows (h over assoc id.one id.is_one) p

      pub last_is_radical : IsOver o T → IsAssociative o T → HasIdentity o T → T.dim < prime_of k ^ suc l
          → (rows : List (List (List ℕ))) → Member (suc l) rows → SpansRadical o T rows
      last_is_radical over assoc id enough rows h =
          (let M = laws T over assoc id.one id.is_one in M.last) enough rows (h over assoc id.one id.is_one)

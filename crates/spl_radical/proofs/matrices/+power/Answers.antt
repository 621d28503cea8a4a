use Rattle.std.proofs.Common.{length, sym, ◌∙◌, ap, subst}
use Rattle.spl_radical.specs.LiftNumbers.{residues_of, level_of}
use Rattle.spl_radical.specs.LiftMatrices.{IsLiftMatrix}
use Rattle.spl_radical.proofs.LiftMatrices.{shape_read, count_read, copy_shape, first_power_value, square_value}
use Rattle.spl_radical.proofs.LiftMatrices.{even_value, odd_value}
use Rattle.spl_radical.proofs.matrices.+power.Goals as goal

pub returns-then-e-lt2 : goal.returns-then-e-lt2
returns-then-e-lt2 t c =
    let k = residues_of c.args.ring.now in
    let l = level_of c.args.ring.now in
    let a = c.args.a.now in
    let r = c.in_ok-copied.field-0 in
    record {
      shape = copy_shape k l (length a) a r c.in_ok-copied.ensures c.requires.matrix;
      value = first_power_value k l a r c.args.e c.in_ok-copied.ensures c.requires.positive c.if-e-lt2.true;
    }

pub product-requires : goal.product-requires
product-requires t c =
    let k = residues_of c.args.ring.now in
    let l = level_of c.args.ring.now in
    let m = length c.args.a.now in
    let half = c.in_ok-half.half in
    let h = c.in_ok-half.ensures.shape in
    record {
      left = shape_read k l m half c.as_slice.result.now c.as_slice-2.result.now h c.as_slice.ensures
          c.as_slice-2.ensures;
      right = shape_read k l m half c.as_slice-2.result.now c.as_slice-2.result.now h c.as_slice-2.ensures
          c.as_slice-2.ensures;
      count = count_read k l m c.args.n half c.as_slice-2.result.now h c.as_slice-2.ensures c.requires.count;
    }

pub returns-then-e-eq0 : goal.returns-then-e-eq0
returns-then-e-eq0 t c =
    let k = residues_of c.args.ring.now in
    let l = level_of c.args.ring.now in
    let a = c.args.a.now in
    let half = c.in_ok-half.half in
    let square = c.in_ok-square.square in
    let h = c.in_ok-half.ensures.shape in
    record {
      shape = subst (λ n. IsLiftMatrix k l n square) (ap length c.as_slice-2.ensures ∙ h.count)
          c.in_ok-square.ensures.shape;
      value = even_value k l a square c.args.e (square_value k l a half c.as_slice.result.now c.as_slice-2.result.now
          square c.args.e h c.in_ok-half.ensures.value c.as_slice.ensures c.as_slice-2.ensures
          c.in_ok-square.ensures.value) c.if-e-eq0.true;
    }

pub product-requires-2 : goal.product-requires-2
product-requires-2 t c =
    let k = residues_of c.args.ring.now in
    let l = level_of c.args.ring.now in
    let a = c.args.a.now in
    let square = c.in_ok-square.square in
    let h = c.in_ok-half.ensures.shape in
    let s : IsLiftMatrix k l (length a) square = subst (λ n. IsLiftMatrix k l n square)
    (ap length c.as_slice-2.ensures ∙ h.count) c.in_ok-square.ensures.shape in
    record {
      left = subst (λ n. IsLiftMatrix k l n a) (sym (ap length c.as_slice-3.ensures ∙ s.count)) c.requires.matrix;
      right = shape_read k l (length a) square c.as_slice-3.result.now c.as_slice-3.result.now s c.as_slice-3.ensures
          c.as_slice-3.ensures;
      count = count_read k l (length a) c.args.n square c.as_slice-3.result.now s c.as_slice-3.ensures
          c.requires.count;
    }

pub returns : goal.returns
returns t c =
    let k = residues_of c.args.ring.now in
    let l = level_of c.args.ring.now in
    let a = c.args.a.now in
    let half = c.in_ok-half.half in
    let square = c.in_ok-square.square in
    let h = c.in_ok-half.ensures.shape in
    let s : IsLiftMatrix k l (length a) square = subst (λ n. IsLiftMatrix k l n square)
    (ap length c.as_slice-2.ensures ∙ h.count) c.in_ok-square.ensures.shape in
    record {
      shape = subst (λ n. IsLiftMatrix k l n c.in_ok-product.field-0) (ap length c.as_slice-3.ensures ∙ s.count)
          c.in_ok-product.ensures.shape;
      value = odd_value k l a square c.as_slice-3.result.now c.in_ok-product.field-0 c.args.e
          (square_value k l a half c.as_slice.result.now c.as_slice-2.result.now square c.args.e h
          c.in_ok-half.ensures.value c.as_slice.ensures c.as_slice-2.ensures c.in_ok-square.ensures.value) s.count
          c.as_slice-3.ensures c.if-e-eq0.false c.in_ok-product.ensures.value;
    }

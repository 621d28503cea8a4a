use Rattle.std.proofs.Common.{◌≡◌, ◌<◌, ◌≤◌, ◌^◌, suc, sym, ◌∙◌, ap, subst, arith}
use Rattle.theory_tables.specs.Matrix.{IsMatrix}
use Rattle.spl_field.specs.SmallField.{characteristic}
use Rattle.spl_residue.specs.Residue.{residue_ops}
use Rattle.spl_radical.specs.LiftRing.{prime_of}
use Rattle.spl_radical.specs.Radical.{SpansChainMember}
use Rattle.spl_radical.proofs.Levels.{few_of_cube}
use Rattle.spl_radical.proofs.ChainSteps.{first_member, level_fits, form_width, form_height}
use Rattle.spl_radical.proofs.radical.radical.Goals as goal

pub kernel-requires-clause-rows : goal.kernel-requires-clause-rows
kernel-requires-clause-rows c =
    let h = form_height (residue_ops c.args.k.now) c.args.b.now c.in_ok-form.form c.in_ok-form.ensures.value in
    omega (arith, c.dim-m.ensures.dim, c.dim-m.ensures.positive)

pub level_for-l-requires : goal.level_for-l-requires
level_for-l-requires c = record {
  base = omega (arith, c.from.ensures, c.p.ensures.least);
  positive = c.dim-m.ensures.positive;
  small = let h = few_of_cube c.args.b.now.dim c.constants.ensures.fits in omega (arith, c.dim-m.ensures.dim);
}

pub new-requires : goal.new-requires
new-requires c =
    let l = c.level_for-l in
    let k = c.args.k.now in
    let p_is : c.from.result ≡ prime_of k = c.from.ensures ∙ c.p.ensures.p ∙ ap characteristic c.field.ensures in
    let h = few_of_cube c.args.b.now.dim c.constants.ensures.fits in
    level_fits k l.result c.dim-m.result (subst (λ p. p ^ l.result ≤ c.dim-m.result) p_is l.ensures.low)
    (omega (arith, c.dim-m.ensures.dim))

pub last_member-requires : goal.last_member-requires
last_member-requires c =
    let k = c.args.k.now in
    let o = residue_ops k in
    let T = c.args.b.now in
    let l = c.level_for-l in
    let ring = c.in_ok-ring in
    let form = c.in_ok-form in
    let first = c.in_ok-first in
    let p_is : c.from.result ≡ prime_of k = c.from.ensures ∙ c.p.ensures.p ∙ ap characteristic c.field.ensures in
    let some : 1 ≤ T.dim = omega (arith, c.dim-m.ensures.dim, c.dim-m.ensures.positive) in
    let wide = form_width o T.dim form.form form.ensures.shape (form_height o T form.form form.ensures.value) some in
    let width = first.ensures.width ∙ wide in
    record {
      same = ring.ensures.field;
      level = ring.ensures.level;
      over = c.requires.over;
      associative = c.requires.associative;
      identity = c.requires.identity;
      enough = subst (λ m. m < prime_of k ^ suc l.result) c.dim-m.ensures.dim
          (subst (λ p. c.dim-m.result < p ^ suc l.result) p_is l.ensures.high);
      basis = first.ensures.basis;
      width = width;
      member = subst (λ n. SpansChainMember k n T 1 first.first.rows) (sym ring.ensures.level)
          (first_member k l.result T form.form first.first.rows form.ensures.value some form.ensures.shape
          (subst (λ n. IsMatrix o n first.first.rows) width first.ensures.basis.shape) first.ensures.members);
    }

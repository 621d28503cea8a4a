use Rattle.std.proofs.Common.{◌+◌, ◌*◌, ◌^◌, ◌/◌, ◌%◌, ◌<◌, sym, subst, arith}
use Rattle.spl_order.proofs.BlockProducts.{block_fits, first_within, second_within}
use Rattle.spl_order.proofs.coordinates.block_product.Goals as goal

pub overflow_mul-first : goal.overflow_mul-first
overflow_mul-first c =
    let h = first_within c.args.count c.args.h c.args.n c.args.w c.args.p c.requires.place 0 (omega arith) in
    omega arith

pub overflow_mul-second : goal.overflow_mul-second
overflow_mul-second c =
    let h = c.requires.width in
    omega arith

pub overflow_mul-second-2 : goal.overflow_mul-second-2
overflow_mul-second-2 c =
    let h = block_fits c.args.count c.args.h c.args.n c.args.w c.args.p c.requires.place (2 ^ 64) c.requires.b_fits in
    omega arith

pub overflow_mul-second-3 : goal.overflow_mul-second-3
overflow_mul-second-3 c =
    let h = second_within c.args.count c.args.h c.args.n c.args.w c.args.p c.requires.place 0 (omega arith) in
    omega arith

pub overflow_add-second : goal.overflow_add-second
overflow_add-second c =
    let h = second_within c.args.count c.args.h c.args.n c.args.w c.args.p c.requires.place 0 (omega arith) in
    omega arith

pub sum_of_products-requires-clause-first_within : goal.sum_of_products-requires-clause-first_within
sum_of_products-requires-clause-first_within c = λ l l_in.
    subst (λ m. (c.args.p / c.args.w % c.args.h) * c.args.n + l < m) (sym c.requires.a_count)
    (first_within c.args.count c.args.h c.args.n c.args.w c.args.p c.requires.place l l_in)

pub sum_of_products-requires-clause-second_within : goal.sum_of_products-requires-clause-second_within
sum_of_products-requires-clause-second_within c = λ l l_in.
    subst (λ m. (c.args.p / (c.args.h * c.args.w)) * (c.args.n * c.args.w) + c.args.p % c.args.w + l * c.args.w < m)
    (sym c.requires.b_count)
    (second_within c.args.count c.args.h c.args.n c.args.w c.args.p c.requires.place l l_in)

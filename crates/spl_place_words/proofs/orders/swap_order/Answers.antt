use Rattle.spl_place_words.proofs.orders.swap_order.Goals as goal

pub show_tuples-requires : goal.show_tuples-requires
show_tuples-requires c = c.in_ok-swap_order.ensures.basis c.size-n.result c.in_ok-basis.ensures

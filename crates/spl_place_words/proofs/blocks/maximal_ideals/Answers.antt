use Rattle.std.proofs.Common.{All, [], sym, subst}
use Rattle.std.proofs.lemmas.List.Elements.{All-from_get_or}
use Rattle.theory_tables.specs.Subspace.{IsSubspace}
use Rattle.spl_residue.specs.Residue.{residue_ops}
use Rattle.spl_place_words.proofs.blocks.maximal_ideals.Goals as goal

pub show_spaces-requires : goal.show_spaces-requires
show_spaces-requires c =
    let o = residue_ops c.args.k.now in
    let ideals = c.in_ok-ideals in
    subst (All (IsSubspace o)) (sym c.as_slice.ensures)
    (All-from_get_or (IsSubspace o) ideals.ideals (record { width = c.in_ok-b.b.dim; rows = [] })
    ideals.ensures.subspaces)

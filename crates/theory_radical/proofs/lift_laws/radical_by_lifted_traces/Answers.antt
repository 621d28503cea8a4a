use Rattle.theory_radical.proofs.Chain.NextIdeal.{next_functional}
use Rattle.theory_radical.proofs.Lifts.TowerFields.{tower_roots}
use Rattle.theory_radical.proofs.Chain.ChainLaws.{is_radical_chain, tower_lift_ring, is_tower_lift}
use Rattle.theory_radical.proofs.lift_laws.radical_by_lifted_traces.Goals as goal

pub returns : goal.returns
returns g c =
    let a = g.A.TowerAlgebra in
    let L = tower_lift_ring a.p a.n a.prime.two_le a.two_le_pow a.lift a.residue a.reduces a.field a.field_ring in (
      L,
      is_tower_lift a.p a.n a.prime.two_le a.two_le_pow a.lift a.residue a.reduces a.field a.field_ring,
      is_radical_chain a.prime L a.algebra a.dimension a.basis a.Subset,
      λ i l. next_functional a.prime L a.algebra a.dimension a.basis i l
          (tower_roots a.p a.prime.two_le a.residue a.field a.field_ring),
    )

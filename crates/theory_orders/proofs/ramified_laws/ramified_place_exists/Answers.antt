use Rattle.theory_orders.proofs.Splitting.Example.{root_algebra, order_vectors, radical_vectors, ramified_example}
use Rattle.theory_orders.proofs.ramified_laws.ramified_place_exists.Goals as goal

pub returns : goal.returns
returns g c =
    let a = g.P.Place in (
      root_algebra a.field a.valuation a.p a.q a.uniformizer a.strict,
      order_vectors a.field a.valuation a.p a.q a.uniformizer a.strict,
      radical_vectors a.field a.valuation a.p a.q a.uniformizer a.strict,
      ramified_example a.field a.valuation a.p a.q a.uniformizer a.strict,
    )

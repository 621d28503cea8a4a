use Rattle.std.proofs.Common.{refl}
use Rattle.spl_evidence.proofs.body.read_ramified.Goals as goal

pub read_order_and_radical-requires-clause-stands : goal.read_order_and_radical-requires-clause-stands
read_order_and_radical-requires-clause-stands c = (c.args.place, c.requires.stands)

pub returns-clause-ok : goal.returns-clause-ok
returns-clause-ok c =
    let read = c.in_ok-order.ensures.ok in
    record {
      fits = record {
        place_fits = c.requires.fits;
        order_count = read.0;
        order_tuples = read.1;
        radical_count = read.2;
        radical_tuples = read.3;
      };
      kind = refl;
      spelled = read.4;
    }

use Rattle.std.proofs.Common.{refl}
use Rattle.spl_table.specs.Reading.{entry_of, head_of}
use Rattle.spl_table.proofs.EntryFaults.{fault_of_entry}
use Rattle.spl_table.proofs.reader.entry.read_entry.Goals as goal

pub returns-in-Some-fault-clause-fault : goal.returns-in-Some-fault-clause-fault
returns-in-Some-fault-clause-fault c =
    let h = head_of c.args.f.now c.args.n in
    let spelled = rw c.in-Some.is at c.in_ok-entry.ensures in
    λ previous after is.
    rw c.at-in-Some-fault.ensures (
      refl,
      fault_of_entry h previous c.args.text.now after
          (entry_of c.in-Some.entry) spelled.0 spelled.1 c.in-Some-fault.kind (c.in-Some-fault.ensures previous is),
    )

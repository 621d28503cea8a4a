use Rattle.std.proofs.Common.{◌+◌, ◌*◌, refl, arith}
use Rattle.std.proofs.lemmas.Result.{err_from_is_err_and}
use Rattle.spl_fraction.specs.Fractions.{field_of}
use Rattle.spl_evidence.specs.Evidence.{unit_lines}
use Rattle.spl_evidence.specs.declared.word.Word.TheVariants.{Unit as UnitTuple}
use Rattle.spl_evidence.proofs.Readers.Passing.{refused_behind}
use Rattle.spl_evidence.proofs.Readers.Standing.{unit_in_split}
use Rattle.spl_evidence.proofs.Readers.SplitLoops.{square_small, units_room, UnitsRead-push}
use Rattle.spl_evidence.proofs.body.read_units.Goals as goal

pub read_tuple-requires-clause-room : goal.read_tuple-requires-clause-room
read_tuple-requires-clause-room c =
    let l = c.loop in
    let m = square_small c.args.n c.requires.high in
    units_room (field_of c.args.f.now) c.args.n c.args.reader.now l.counter l.units l.reader l.invariant
    (omega (arith, c.requires.number, c.loop-test.true, m)) (omega (arith, c.loop-test.true, m))

pub read_tuple-requires-clause-due : goal.read_tuple-requires-clause-due
read_tuple-requires-clause-due c =
    let l = c.loop in
    let m = c.args.n * c.args.n in (
      UnitTuple,
      unit_in_split m (m + l.counter) l.reader.before l.invariant.stands (omega arith)
          (omega (arith, c.loop-test.true)),
      record { count = refl; allowed = λ ts. tt },
    )

pub returns-in_err-read_tuple-clause-fault : goal.returns-in_err-read_tuple-clause-fault
returns-in_err-read_tuple-clause-fault c =
    let l = c.loop in
    let p = err_from_is_err_and c.from_residual.result c.from_residual.ensures.1 in
    rw (p.1, p.2)
    (refused_behind (field_of c.args.f.now) c.args.n c.args.reader.now l.reader (unit_lines c.args.n 0 l.units)
    l.invariant.reads c.in_err-read_tuple.field-0.0 c.in_err-read_tuple.ensures.fault)

pub loop-preserved : goal.loop-preserved
loop-preserved c =
    let l = c.loop in
    let read = c.in_ok-read_tuple.ensures.ok in
    rw c.in_ok-push.ensures.ok
    (UnitsRead-push (field_of c.args.f.now) c.args.n c.args.reader.now l.counter l.units l.reader
    l.invariant c.loop-test.true c.read_tuple.new.reader c.in_ok-read_tuple.field-0 read.0 read.1)

use Rattle.std.proofs.Common.{map}
use Rattle.std.proofs.lemmas.Result.{err_from_is_err_and}
use Rattle.spl_fraction.specs.Fractions.{field_of}
use Rattle.spl_evidence.specs.Evidence.{fractions_line}
use Rattle.spl_evidence.proofs.Readers.Passing.{refused_behind}
use Rattle.spl_evidence.proofs.Readers.TupleLoop.{TuplesRead-none, TuplesRead-push, tuples_room, tuples_due}
use Rattle.spl_evidence.proofs.body.read_tuples.Goals as goal

pub loop-init : goal.loop-init
loop-init c =
    rw c.new-tuples.ensures
    (TuplesRead-none (field_of c.args.f.now) c.args.n c.args.word c.args.reader.now)

pub read_tuple-requires-clause-room : goal.read_tuple-requires-clause-room
read_tuple-requires-clause-room c =
    let l = c.loop in
    tuples_room (field_of c.args.f.now) c.args.n c.args.word c.requires.no_numbers c.args.reader.now c.args.count
    l.counter l.tuples l.reader l.invariant c.loop-test.true c.requires.room

pub read_tuple-requires-clause-due : goal.read_tuple-requires-clause-due
read_tuple-requires-clause-due c =
    let l = c.loop in (
      c.args.word,
      tuples_due (field_of c.args.f.now) c.args.n c.args.word c.requires.no_numbers c.args.reader.now c.args.count
          l.counter l.tuples l.reader l.invariant c.loop-test.true c.requires.due,
      c.requires.tuple,
    )

pub returns-in_err-read_tuple-clause-fault : goal.returns-in_err-read_tuple-clause-fault
returns-in_err-read_tuple-clause-fault c =
    let l = c.loop in
    let p = err_from_is_err_and c.from_residual.result c.from_residual.ensures.1 in
    rw (p.1, p.2)
    (refused_behind (field_of c.args.f.now) c.args.n c.args.reader.now l.reader
    (map (fractions_line c.args.word) l.tuples) l.invariant.reads c.in_err-read_tuple.field-0.0
    c.in_err-read_tuple.ensures.fault)

pub loop-preserved : goal.loop-preserved
loop-preserved c =
    let l = c.loop in
    let read = c.in_ok-read_tuple.ensures.ok in
    rw c.in_ok-push.ensures.ok
    (TuplesRead-push (field_of c.args.f.now) c.args.n c.args.word c.requires.no_numbers c.args.reader.now c.args.count
    l.counter l.tuples l.reader l.invariant c.loop-test.true c.requires.due c.read_tuple.new.reader
    c.in_ok-read_tuple.field-0 read.0 read.1)

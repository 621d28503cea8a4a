use Rattle.std.proofs.Common.{◌*◌, arith}
use Rattle.std.proofs.lemmas.Result.{err_from_is_err_and}
use Rattle.spl_fraction.specs.Fractions.{field_of}
use Rattle.spl_evidence.specs.Evidence.{map_lines}
use Rattle.spl_evidence.proofs.Readers.Passing.{refused_behind}
use Rattle.spl_evidence.proofs.Readers.Standing.{map_in_split}
use Rattle.spl_evidence.proofs.Readers.SplitLoops.{square_small, maps_room, MapsRead-push}
use Rattle.spl_evidence.proofs.body.read_maps.Goals as goal

pub read_matrix-requires-clause-room : goal.read_matrix-requires-clause-room
read_matrix-requires-clause-room c =
    let l = c.loop in
    maps_room (field_of c.args.f.now) c.args.n c.args.reader.now l.counter l.maps l.reader l.invariant
    (omega (arith, c.requires.number, c.loop-test.true, square_small c.args.n c.requires.high))

pub read_matrix-requires-clause-due : goal.read_matrix-requires-clause-due
read_matrix-requires-clause-due c =
    let l = c.loop in
    map_in_split (c.args.n * c.args.n) l.counter l.reader.before l.invariant.stands c.loop-test.true

pub returns-in_err-read_matrix-clause-fault : goal.returns-in_err-read_matrix-clause-fault
returns-in_err-read_matrix-clause-fault c =
    let l = c.loop in
    let p = err_from_is_err_and c.from_residual.result c.from_residual.ensures.1 in
    rw (p.1, p.2)
    (refused_behind (field_of c.args.f.now) c.args.n c.args.reader.now l.reader (map_lines 0 l.maps)
    l.invariant.reads c.in_err-read_matrix.field-0.0 c.in_err-read_matrix.ensures.fault)

pub loop-preserved : goal.loop-preserved
loop-preserved c =
    let l = c.loop in
    let read = c.in_ok-read_matrix.ensures.ok in
    rw c.in_ok-push.ensures.ok
    (MapsRead-push (field_of c.args.f.now) c.args.n c.args.reader.now l.counter l.maps l.reader
    l.invariant c.loop-test.true c.read_matrix.new.reader c.in_ok-read_matrix.field-0 read.0 read.1)

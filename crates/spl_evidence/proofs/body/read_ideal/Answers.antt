use Rattle.std.proofs.Common.{◌*◌, map, refl, arith}
use Rattle.std.proofs.lemmas.Result.{err_from_is_err_and}
use Rattle.spl_fraction.specs.Fractions.{field_of}
use Rattle.spl_evidence.specs.Evidence.{tuple_line}
use Rattle.spl_evidence.specs.declared.word.Word.TheVariants.{Ideal, Tuple}
use Rattle.spl_evidence.proofs.Readers.Passing.{refused_behind}
use Rattle.spl_evidence.proofs.Readers.Standing.{room_behind, room_for, end_in_ideal, nothing_behind_ideal}
use Rattle.spl_evidence.proofs.Readers.SplitLoops.{square_small}
use Rattle.spl_evidence.proofs.Readers.TupleLoop.{ideal_due, stands_behind_tuples, number_behind_tuples}
use Rattle.spl_evidence.proofs.body.read_ideal.Goals as goal

pub read_tuples-requires-clause-room : goal.read_tuples-requires-clause-room
read_tuples-requires-clause-room c =
    let m = square_small c.args.n c.requires.high in
    room_for c.args.reader.now Ideal c.args.count 0 c.args.count c.requires.stands
    (omega (arith, c.requires.number, c.requires.fewer, m)) (omega (arith, c.requires.fewer, m))

pub read_tuples-requires-clause-tuple : goal.read_tuples-requires-clause-tuple
read_tuples-requires-clause-tuple c = record { count = refl; allowed = λ ts. tt }

pub read_tuples-requires-clause-no_numbers : goal.read_tuples-requires-clause-no_numbers
read_tuples-requires-clause-no_numbers c = refl

pub read_tuples-requires-clause-due : goal.read_tuples-requires-clause-due
read_tuples-requires-clause-due c =
    ideal_due (field_of c.args.f.now) c.args.n c.args.count c.args.reader.now.before c.requires.stands

pub read_end-requires-clause-room : goal.read_end-requires-clause-room
read_end-requires-clause-room c =
    let f = field_of c.args.f.now in
    let n = c.args.n in
    let d = c.args.count in
    let a = c.args.reader.now in
    let b = c.read_tuples.new.reader in
    let xs = c.in_ok-tuples.tuples in
    let read = c.in_ok-tuples.ensures.ok in
    let m = square_small n c.requires.high in
    room_behind b Ideal d d
    (stands_behind_tuples f n Tuple Ideal d 0 d a b xs c.requires.stands read.2 (omega (arith, read.0)))
    (omega (arith, number_behind_tuples f n Tuple d a b xs read.2 read.0, c.requires.number, c.requires.fewer, m))
    (omega (arith, c.requires.fewer, m))

pub read_end-requires-clause-due : goal.read_end-requires-clause-due
read_end-requires-clause-due c =
    let d = c.args.count in
    let read = c.in_ok-tuples.ensures.ok in
    end_in_ideal (c.args.n * c.args.n) d c.read_tuples.new.reader.before
    (stands_behind_tuples (field_of c.args.f.now) c.args.n Tuple Ideal d 0 d c.args.reader.now c.read_tuples.new.reader
    c.in_ok-tuples.tuples c.requires.stands read.2 (omega (arith, read.0)))

pub read_end-requires-clause-nothing : goal.read_end-requires-clause-nothing
read_end-requires-clause-nothing c =
    let d = c.args.count in
    let read = c.in_ok-tuples.ensures.ok in
    nothing_behind_ideal (c.args.n * c.args.n) d c.read_tuples.new.reader.before
    (stands_behind_tuples (field_of c.args.f.now) c.args.n Tuple Ideal d 0 d c.args.reader.now c.read_tuples.new.reader
    c.in_ok-tuples.tuples c.requires.stands read.2 (omega (arith, read.0)))

pub returns-in_err-read_end-clause-fault : goal.returns-in_err-read_end-clause-fault
returns-in_err-read_end-clause-fault c =
    let read = c.in_ok-tuples.ensures.ok in
    let p = err_from_is_err_and c.from_residual-in_err-read_end.result c.from_residual-in_err-read_end.ensures.1 in
    rw (p.1, p.2)
    (refused_behind (field_of c.args.f.now) c.args.n c.args.reader.now c.read_tuples.new.reader
    (map tuple_line c.in_ok-tuples.tuples) read.2 c.in_err-read_end.field-0.0 c.in_err-read_end.ensures.fault)

use Rattle.std.proofs.Common.{◌+◌, ◌*◌, ◌++◌, arith}
use Rattle.std.proofs.lemmas.Result.{err_from_is_err_and}
use Rattle.spl_fraction.specs.Fractions.{field_of}
use Rattle.spl_evidence.specs.Evidence.{map_lines, unit_lines}
use Rattle.spl_evidence.specs.declared.word.Word.TheVariants.{Split}
use Rattle.spl_evidence.proofs.Readers.Passing.{Reads-append, refused_behind}
use Rattle.spl_evidence.proofs.Readers.Standing.{room_behind}
use Rattle.spl_evidence.proofs.Readers.SplitLoops.{square_small, length-maps, length-units}
use Rattle.spl_evidence.proofs.body.read_split.Goals as goal

pub read_units-requires-clause-number : goal.read_units-requires-clause-number
read_units-requires-clause-number c =
    let read = c.in_ok-maps.ensures.ok in
    omega (
      arith,
      c.requires.number,
      read.2.number,
      length-maps 0 c.in_ok-maps.maps,
      read.0,
      square_small c.args.n c.requires.high,
    )

pub returns-in_err-units-clause-fault : goal.returns-in_err-units-clause-fault
returns-in_err-units-clause-fault c =
    let read = c.in_ok-maps.ensures.ok in
    let p = err_from_is_err_and c.from_residual-in_err-units.result c.from_residual-in_err-units.ensures.1 in
    rw (p.1, p.2)
    (refused_behind (field_of c.args.f.now) c.args.n c.args.reader.now c.read_maps.new.reader
    (map_lines 0 c.in_ok-maps.maps) read.2 c.in_err-units.field-0.0 c.in_err-units.ensures.fault)

pub read_end-requires-clause-room : goal.read_end-requires-clause-room
read_end-requires-clause-room c =
    let n = c.args.n in
    let read = c.in_ok-maps.ensures.ok in
    let more = c.in_ok-units.ensures.ok in
    let m = square_small n c.requires.high in
    room_behind c.read_units.new.reader Split 0 (n * n + n * n) more.3
    (omega (
      arith,
      c.requires.number,
      read.2.number,
      length-maps 0 c.in_ok-maps.maps,
      read.0,
      more.2.number,
      length-units n 0 c.in_ok-units.units,
      more.0,
      m,
    )) (omega (arith, m))

pub returns-in_err-read_end-clause-fault : goal.returns-in_err-read_end-clause-fault
returns-in_err-read_end-clause-fault c =
    let f = field_of c.args.f.now in
    let n = c.args.n in
    let read = c.in_ok-maps.ensures.ok in
    let more = c.in_ok-units.ensures.ok in
    let maps = map_lines 0 c.in_ok-maps.maps in
    let units = unit_lines n 0 c.in_ok-units.units in
    let p = err_from_is_err_and c.from_residual-in_err-read_end.result c.from_residual-in_err-read_end.ensures.1 in
    rw (p.1, p.2)
    (refused_behind f n c.args.reader.now c.read_units.new.reader (maps ++ units)
    (Reads-append f n c.args.reader.now c.read_maps.new.reader c.read_units.new.reader maps units read.2 more.2)
    c.in_err-read_end.field-0.0 c.in_err-read_end.ensures.fault)

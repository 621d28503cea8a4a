use Rattle.std.proofs.Common.{◌+◌, ◌*◌, [], ◌∷◌, ◌++◌, map, refl, arith}
use Rattle.std.proofs.lemmas.Result.{err_from_is_err_and}
use Rattle.spl_fraction.specs.Fractions.{field_of}
use Rattle.spl_evidence.specs.Evidence.{fractions_line, place_line, end_line}
use Rattle.spl_evidence.specs.declared.word.Word.TheVariants.{Order, Radical}
use Rattle.spl_evidence.proofs.Readers.Passing.{Reads-append, refused_behind}
use Rattle.spl_evidence.proofs.Readers.Standing.{room_behind, room_for, end_at_place, nothing_behind_place}
use Rattle.spl_evidence.proofs.Readers.SplitLoops.{square_small}
use Rattle.spl_evidence.proofs.Readers.TupleLoop.{order_due, radical_due, stands_behind_tuples, number_behind_tuples}
use Rattle.spl_evidence.proofs.Readers.Kinds.{rest_read}
use Rattle.spl_evidence.proofs.body.read_order_and_radical.Goals as goal

-- ---- the order

pub read_tuples-requires-clause-room : goal.read_tuples-requires-clause-room
read_tuples-requires-clause-room c =
    let m = square_small c.args.n c.requires.high in
    room_for c.args.reader.now (place_line c.requires.stands.0).word 0 0 (c.args.n * c.args.n) c.requires.stands.1
    (omega (arith, c.requires.number, m)) (omega (arith, m))

pub read_tuples-requires-clause-tuple : goal.read_tuples-requires-clause-tuple
read_tuples-requires-clause-tuple c = record { count = refl; allowed = λ ts. tt }

pub read_tuples-requires-clause-no_numbers : goal.read_tuples-requires-clause-no_numbers
read_tuples-requires-clause-no_numbers c = refl

pub read_tuples-requires-clause-due : goal.read_tuples-requires-clause-due
read_tuples-requires-clause-due c =
    order_due (field_of c.args.f.now) c.args.n c.requires.stands.0 c.args.reader.now.before c.requires.stands.1

-- ---- the radical

pub read_tuples-requires-2-clause-room : goal.read_tuples-requires-2-clause-room
read_tuples-requires-2-clause-room c =
    let f = field_of c.args.f.now in
    let n = c.args.n in
    let m = n * n in
    let a = c.args.reader.now in
    let b = c.read_tuples.new.reader in
    let xs = c.in_ok-order.order in
    let read = c.in_ok-order.ensures.ok in
    let kind = (place_line c.requires.stands.0).word in
    let few = square_small n c.requires.high in
    room_for b kind 0 m m
    (stands_behind_tuples f n Order kind 0 0 m a b xs c.requires.stands.1 read.2 (omega (arith, read.0)))
    (omega (arith, number_behind_tuples f n Order m a b xs read.2 read.0, c.requires.number, few)) (omega (arith, few))

pub read_tuples-requires-2-clause-due : goal.read_tuples-requires-2-clause-due
read_tuples-requires-2-clause-due c =
    let f = field_of c.args.f.now in
    let n = c.args.n in
    let a = c.args.reader.now in
    let b = c.read_tuples.new.reader in
    let read = c.in_ok-order.ensures.ok in
    let place = c.requires.stands.0 in
    radical_due f n place b.before
    (stands_behind_tuples f n Order (place_line place).word 0 0 (n * n) a b c.in_ok-order.order c.requires.stands.1
    read.2 (omega (arith, read.0)))

pub returns-in_err-radical-clause-fault : goal.returns-in_err-radical-clause-fault
returns-in_err-radical-clause-fault c =
    let read = c.in_ok-order.ensures.ok in
    let p = err_from_is_err_and c.from_residual-in_err-radical.result c.from_residual-in_err-radical.ensures.1 in
    rw (p.1, p.2)
    (refused_behind (field_of c.args.f.now) c.args.n c.args.reader.now c.read_tuples.new.reader
    (map (fractions_line Order) c.in_ok-order.order) read.2 c.in_err-radical.field-0.0 c.in_err-radical.ensures.fault)

-- ---- the end

pub read_end-requires-clause-room : goal.read_end-requires-clause-room
read_end-requires-clause-room c =
    let f = field_of c.args.f.now in
    let n = c.args.n in
    let m = n * n in
    let a = c.args.reader.now in
    let b = c.read_tuples.new.reader in
    let d = c.read_tuples-2.new.reader in
    let xs = c.in_ok-order.order in
    let ys = c.in_ok-radical.radical in
    let read = c.in_ok-order.ensures.ok in
    let more = c.in_ok-radical.ensures.ok in
    let kind = (place_line c.requires.stands.0).word in
    let few = square_small n c.requires.high in
    room_behind d kind 0 (m + m)
    (stands_behind_tuples f n Radical kind 0 m (m + m) b d ys
    (stands_behind_tuples f n Order kind 0 0 m a b xs c.requires.stands.1 read.2 (omega (arith, read.0))) more.2
    (omega (arith, more.0)))
    (omega (
      arith,
      number_behind_tuples f n Order m a b xs read.2 read.0,
      number_behind_tuples f n Radical m b d ys more.2 more.0,
      c.requires.number,
      few,
    )) (omega (arith, few))

pub read_end-requires-clause-due : goal.read_end-requires-clause-due
read_end-requires-clause-due c =
    let f = field_of c.args.f.now in
    let n = c.args.n in
    let m = n * n in
    let b = c.read_tuples.new.reader in
    let d = c.read_tuples-2.new.reader in
    let read = c.in_ok-order.ensures.ok in
    let more = c.in_ok-radical.ensures.ok in
    let place = c.requires.stands.0 in
    let kind = (place_line place).word in
    end_at_place m place d.before
    (stands_behind_tuples f n Radical kind 0 m (m + m) b d c.in_ok-radical.radical
    (stands_behind_tuples f n Order kind 0 0 m c.args.reader.now b c.in_ok-order.order c.requires.stands.1 read.2
    (omega (arith, read.0))) more.2 (omega (arith, more.0)))

pub read_end-requires-clause-nothing : goal.read_end-requires-clause-nothing
read_end-requires-clause-nothing c =
    let f = field_of c.args.f.now in
    let n = c.args.n in
    let m = n * n in
    let b = c.read_tuples.new.reader in
    let d = c.read_tuples-2.new.reader in
    let read = c.in_ok-order.ensures.ok in
    let more = c.in_ok-radical.ensures.ok in
    let place = c.requires.stands.0 in
    let kind = (place_line place).word in
    nothing_behind_place m place d.before
    (stands_behind_tuples f n Radical kind 0 m (m + m) b d c.in_ok-radical.radical
    (stands_behind_tuples f n Order kind 0 0 m c.args.reader.now b c.in_ok-order.order c.requires.stands.1 read.2
    (omega (arith, read.0))) more.2 (omega (arith, more.0)))

pub returns-in_err-read_end-clause-fault : goal.returns-in_err-read_end-clause-fault
returns-in_err-read_end-clause-fault c =
    let f = field_of c.args.f.now in
    let n = c.args.n in
    let os = map (fractions_line Order) c.in_ok-order.order in
    let rs = map (fractions_line Radical) c.in_ok-radical.radical in
    let read = c.in_ok-order.ensures.ok in
    let more = c.in_ok-radical.ensures.ok in
    let p = err_from_is_err_and c.from_residual-in_err-read_end.result c.from_residual-in_err-read_end.ensures.1 in
    rw (p.1, p.2)
    (refused_behind f n c.args.reader.now c.read_tuples-2.new.reader (os ++ rs)
    (Reads-append f n c.args.reader.now c.read_tuples.new.reader c.read_tuples-2.new.reader os rs read.2 more.2)
    c.in_err-read_end.field-0.0 c.in_err-read_end.ensures.fault)

pub returns-clause-ok : goal.returns-clause-ok
returns-clause-ok c =
    let f = field_of c.args.f.now in
    let n = c.args.n in
    let os = map (fractions_line Order) c.in_ok-order.order in
    let rs = map (fractions_line Radical) c.in_ok-radical.radical in
    let read = c.in_ok-order.ensures.ok in
    let more = c.in_ok-radical.ensures.ok in (
      read.0,
      read.1,
      more.0,
      more.1,
      rest_read f n c.args.reader.now c.read_tuples-2.new.reader (os ++ rs) (end_line ∷ [])
          (Reads-append f n c.args.reader.now c.read_tuples.new.reader c.read_tuples-2.new.reader os rs read.2 more.2)
          c.in_ok-read_end.ensures.ok,
    )

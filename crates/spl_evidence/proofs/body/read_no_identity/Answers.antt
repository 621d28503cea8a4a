use Rattle.std.proofs.Common.{[], ◌∷◌, ◌++◌, refl}
use Rattle.std.proofs.lemmas.Result.{err_from_is_err_and}
use Rattle.spl_fraction.specs.Fractions.{field_of}
use Rattle.spl_evidence.specs.Evidence.{multiplier_line, end_line}
use Rattle.spl_evidence.specs.declared.word.Word.TheVariants.{End}
use Rattle.spl_evidence.proofs.Readers.Passing.{Reads-append, refused_behind}
use Rattle.spl_evidence.proofs.Readers.SideLoop.{side_lines, SidesRead-none, SidesRead-push, sides_room, sides_due}
use Rattle.spl_evidence.proofs.Readers.SideLoop.{end_is_due, nothing_behind_end}
use Rattle.spl_evidence.proofs.Readers.Kinds.{rest_read, shorter}
use Rattle.spl_evidence.proofs.body.read_no_identity.Goals as goal

pub loop-right-init : goal.loop-right-init
loop-right-init c =
    rw (c.new-left.ensures, c.new-right.ensures)
    (SidesRead-none (field_of c.args.f.now) c.args.n c.args.reader.now c.requires.stands)

pub read_side-requires-clause-room : goal.read_side-requires-clause-room
read_side-requires-clause-room c =
    let l = c.loop-right in
    sides_room (field_of c.args.f.now) c.args.n c.args.reader.now l.left l.right l.reader l.invariant c.requires.high
    c.requires.number

pub read_side-requires-clause-some_due : goal.read_side-requires-clause-some_due
read_side-requires-clause-some_due c =
    let l = c.loop-right in
    (End, end_is_due (field_of c.args.f.now) c.args.n c.args.reader.now l.left l.right l.reader l.invariant)

pub read_side-requires-clause-sides : goal.read_side-requires-clause-sides
read_side-requires-clause-sides c =
    let l = c.loop-right in
    sides_due (field_of c.args.f.now) c.args.n c.args.reader.now l.left l.right l.reader l.invariant

pub returns-in_err-side-clause-fault : goal.returns-in_err-side-clause-fault
returns-in_err-side-clause-fault c =
    let l = c.loop-right in
    let p = err_from_is_err_and c.from_residual.result c.from_residual.ensures.1 in
    rw (p.1, p.2)
    (refused_behind (field_of c.args.f.now) c.args.n c.args.reader.now l.reader
    (side_lines (field_of c.args.f.now) c.args.n l.left l.right) l.invariant.reads c.in_err-side.field-0.0
    c.in_err-side.ensures.fault)

pub loop-right-preserved : goal.loop-right-preserved
loop-right-preserved c =
    let l = c.loop-right in
    let x = c.in-Some.item in
    let read = rw c.in-Some.is at c.in_ok-side.ensures.ok in
    SidesRead-push (field_of c.args.f.now) c.args.n c.args.reader.now l.left l.right l.reader l.invariant
    c.read_side.new.reader c.in-Some.side x.0 x.1 x.2 c.push_side.new.left c.push_side.new.right read.0 read.1 read.2
    c.in_ok-push_side.ensures.left c.in_ok-push_side.ensures.right

pub loop-right-smaller : goal.loop-right-smaller
loop-right-smaller c =
    let read = rw c.in-Some.is at c.in_ok-side.ensures.ok in
    shorter (field_of c.args.f.now) c.args.n c.loop-right.reader c.read_side.new.reader
    (multiplier_line c.in-Some.side c.in-Some.item) read.0

pub read_nothing-requires-clause-nothing : goal.read_nothing-requires-clause-nothing
read_nothing-requires-clause-nothing c =
    let l = c.loop-right in
    let ended = rw c.in_default.is at c.in_ok-side.ensures.ok in
    nothing_behind_end (field_of c.args.f.now) c.args.n c.args.reader.now l.left l.right l.reader l.invariant
    c.read_side.new.reader ended

pub returns-in_err-read_nothing-clause-fault : goal.returns-in_err-read_nothing-clause-fault
returns-in_err-read_nothing-clause-fault c =
    let f = field_of c.args.f.now in
    let l = c.loop-right in
    let ended = rw c.in_default.is at c.in_ok-side.ensures.ok in
    let lines = side_lines f c.args.n l.left l.right in
    let p = err_from_is_err_and c.from_residual-in_err-read_nothing.result
    c.from_residual-in_err-read_nothing.ensures.1 in
    rw (p.1, p.2)
    (refused_behind f c.args.n c.args.reader.now c.read_side.new.reader (lines ++ end_line ∷ [])
    (Reads-append f c.args.n c.args.reader.now l.reader c.read_side.new.reader lines (end_line ∷ []) l.invariant.reads
    ended) c.in_err-read_nothing.field-0.0 (c.in_err-read_nothing.ensures.fault f))

pub returns-clause-ok : goal.returns-clause-ok
returns-clause-ok c =
    let f = field_of c.args.f.now in
    let n = c.args.n in
    let l = c.loop-right in
    let ended = rw c.in_default.is at c.in_ok-side.ensures.ok in
    let lines = side_lines f n l.left l.right in
    record {
      fits = (l.invariant.lefts, l.invariant.rights);
      kind = refl;
      spelled = rest_read f n c.args.reader.now l.reader lines (end_line ∷ []) l.invariant.reads
          (rest_read f n l.reader c.read_side.new.reader (end_line ∷ []) [] ended c.in_ok-read_nothing.ensures.ok);
    }

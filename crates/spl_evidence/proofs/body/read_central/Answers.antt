use Rattle.std.proofs.Common.{◌*◌, [], ◌∷◌, ap, refl}
use Rattle.std.proofs.lemmas.Result.{err_from_is_err_and}
use Rattle.spl_fraction.specs.Fractions.{field_of}
use Rattle.spl_evidence.specs.Refusal.{due_words}
use Rattle.spl_evidence.specs.declared.word.Word.TheVariants.{Tuple}
use Rattle.spl_evidence.proofs.Readers.Passing.{refused_behind}
use Rattle.spl_evidence.proofs.body.read_central.Goals as goal

pub read_tuple-requires-clause-due : goal.read_tuple-requires-clause-due
read_tuple-requires-clause-due c = (
  Tuple,
  ap (due_words (c.args.n * c.args.n)) c.requires.stands.is,
  record { count = refl; allowed = λ ts. tt },
)

pub returns-in_err-read_end-clause-fault : goal.returns-in_err-read_end-clause-fault
returns-in_err-read_end-clause-fault c =
    let read = c.in_ok-tuple.ensures.ok.1 in
    let p = err_from_is_err_and c.from_residual-in_err-read_end.result c.from_residual-in_err-read_end.ensures.1 in
    rw (p.1, p.2)
    (refused_behind (field_of c.args.f.now) c.args.n c.args.reader.now c.read_tuple.new.reader (read.0 ∷ []) read.1
    c.in_err-read_end.field-0.0 c.in_err-read_end.ensures.fault)

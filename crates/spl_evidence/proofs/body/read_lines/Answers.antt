use Rattle.std.proofs.Common.{◌≡◌, ◌*◌, [], ◌∷◌, refl, ◌∙◌}
use Rattle.std.proofs.lemmas.Result.{IfOk-weaker}
use Rattle.spl_fraction.specs.Fractions.{field_of}
use Rattle.spl_fraction.specs.FractionsOver.{fractions_over}
use Rattle.spl_evidence.specs.Line.{Line, lines_text}
use Rattle.spl_evidence.specs.Evidence.{Fits, place_line, lines_of}
use Rattle.spl_evidence.specs.Reading.{IsBehindKind}
use Rattle.spl_evidence.specs.declared.word.Word.TheVariants.{Triple, NoIdentity, Central, Ideal, Split}
use Rattle.spl_evidence.proofs.Readers.Passing.{err_behind}
use Rattle.spl_evidence.proofs.Readers.Kinds.{whole_read, kind_due, split_kind, plain_kind, triple_kind}
use Rattle.spl_evidence.proofs.Readers.Kinds.{ideal_kind}
use Rattle.spl_evidence.proofs.body.read_lines.Goals as goal

pub returns-in-Some-clause-ok : goal.returns-in-Some-clause-ok
returns-in-Some-clause-ok c =
    let f = field_of c.args.f.now in
    let n = c.args.n in
    let a = c.args.reader.now in
    let b = c.read_kind.new.reader in
    let r = c.in_ok-line.ensures.ok in
    let place = c.in-Some.place in
    let told = rw c.in-Some.is at r.4 in
    IfOk-weaker c.read_ramified.result (λ e. IsBehindKind f n (place_line place) b.rest.now e)
    (λ e. Fits (fractions_over f) n e × (a.rest.now ≡ lines_text (lines_of n e)))
    (λ e h. whole_read f n a b r.0 (place_line place) r.1 told.1 e h) c.read_ramified.ensures.ok

pub returns-in-Some-clause-fault : goal.returns-in-Some-clause-fault
returns-in-Some-clause-fault c =
    let r = c.in_ok-line.ensures.ok in
    err_behind (field_of c.args.f.now) c.args.n c.args.reader.now c.read_kind.new.reader (r.0 ∷ []) r.1
    c.read_ramified.result c.read_ramified.ensures.fault

pub returns-in-Triple-clause-ok : goal.returns-in-Triple-clause-ok
returns-in-Triple-clause-ok c =
    let f = field_of c.args.f.now in
    let n = c.args.n in
    let a = c.args.reader.now in
    let b = c.read_kind.new.reader in
    let r = c.in_ok-line.ensures.ok in
    let ns = c.as_slice-numbers.result.now in
    let i = c.number_at-i.result in
    let j = c.number_at.result in
    let k = c.number_at-in-Triple.result in
    let none = rw c.in_default.is at r.4 in
    let first : Line = record { word = Triple; numbers = i ∷ j ∷ k ∷ []; fractions = [] } in
    let same : r.0 ≡ first = (triple_kind f n a b r.0 r.1 none.0 c.in_ok-line.line.word ns r.2
    (c.as_slice-numbers.ensures ∙ r.3) c.in-Triple.is i j k c.number_at-i.ensures c.number_at.ensures
    c.number_at-in-Triple.ensures).0 in
    IfOk-weaker c.read_triple.result (λ e. IsBehindKind f n first b.rest.now e)
    (λ e. Fits (fractions_over f) n e × (a.rest.now ≡ lines_text (lines_of n e)))
    (λ e h. whole_read f n a b r.0 first r.1 same e h) c.read_triple.ensures.ok

pub returns-in-Triple-clause-fault : goal.returns-in-Triple-clause-fault
returns-in-Triple-clause-fault c =
    let r = c.in_ok-line.ensures.ok in
    err_behind (field_of c.args.f.now) c.args.n c.args.reader.now c.read_kind.new.reader (r.0 ∷ []) r.1
    c.read_triple.result c.read_triple.ensures.fault

pub returns-in-NoIdentity-clause-ok : goal.returns-in-NoIdentity-clause-ok
returns-in-NoIdentity-clause-ok c =
    let f = field_of c.args.f.now in
    let n = c.args.n in
    let a = c.args.reader.now in
    let b = c.read_kind.new.reader in
    let r = c.in_ok-line.ensures.ok in
    let none = rw c.in_default.is at r.4 in
    let first : Line = record { word = NoIdentity; numbers = []; fractions = [] } in
    let same : r.0 ≡ first = plain_kind f n a b r.0 r.1 none.0 c.in_ok-line.line.word c.in_ok-line.line.numbers r.2 r.3
    NoIdentity c.in-NoIdentity.is refl in
    IfOk-weaker c.read_no_identity.result (λ e. IsBehindKind f n first b.rest.now e)
    (λ e. Fits (fractions_over f) n e × (a.rest.now ≡ lines_text (lines_of n e)))
    (λ e h. whole_read f n a b r.0 first r.1 same e h) c.read_no_identity.ensures.ok

pub returns-in-NoIdentity-clause-fault : goal.returns-in-NoIdentity-clause-fault
returns-in-NoIdentity-clause-fault c =
    let r = c.in_ok-line.ensures.ok in
    err_behind (field_of c.args.f.now) c.args.n c.args.reader.now c.read_kind.new.reader (r.0 ∷ []) r.1
    c.read_no_identity.result c.read_no_identity.ensures.fault

pub returns-in-Central-clause-ok : goal.returns-in-Central-clause-ok
returns-in-Central-clause-ok c =
    let f = field_of c.args.f.now in
    let n = c.args.n in
    let a = c.args.reader.now in
    let b = c.read_kind.new.reader in
    let r = c.in_ok-line.ensures.ok in
    let none = rw c.in_default.is at r.4 in
    let first : Line = record { word = Central; numbers = []; fractions = [] } in
    let same : r.0 ≡ first = plain_kind f n a b r.0 r.1 none.0 c.in_ok-line.line.word c.in_ok-line.line.numbers r.2 r.3
    Central c.in-Central.is refl in
    IfOk-weaker c.read_central.result (λ e. IsBehindKind f n first b.rest.now e)
    (λ e. Fits (fractions_over f) n e × (a.rest.now ≡ lines_text (lines_of n e)))
    (λ e h. whole_read f n a b r.0 first r.1 same e h) c.read_central.ensures.ok

pub returns-in-Central-clause-fault : goal.returns-in-Central-clause-fault
returns-in-Central-clause-fault c =
    let r = c.in_ok-line.ensures.ok in
    err_behind (field_of c.args.f.now) c.args.n c.args.reader.now c.read_kind.new.reader (r.0 ∷ []) r.1
    c.read_central.result c.read_central.ensures.fault

pub returns-in-Ideal-clause-ok : goal.returns-in-Ideal-clause-ok
returns-in-Ideal-clause-ok c =
    let f = field_of c.args.f.now in
    let n = c.args.n in
    let a = c.args.reader.now in
    let b = c.read_kind.new.reader in
    let r = c.in_ok-line.ensures.ok in
    let none = rw c.in_default.is at r.4 in
    let first : Line = record { word = Ideal; numbers = c.number_at-i.result ∷ []; fractions = [] } in
    let same : r.0 ≡ first = (ideal_kind f n a b r.0 r.1 none.0 c.in_ok-line.line.word c.as_slice-numbers.result.now r.2
    (c.as_slice-numbers.ensures ∙ r.3) c.in-Ideal.is c.number_at-i.result c.number_at-i.ensures).0 in
    IfOk-weaker c.read_ideal.result (λ e. IsBehindKind f n first b.rest.now e)
    (λ e. Fits (fractions_over f) n e × (a.rest.now ≡ lines_text (lines_of n e)))
    (λ e h. whole_read f n a b r.0 first r.1 same e h) c.read_ideal.ensures.ok

pub returns-in-Ideal-clause-fault : goal.returns-in-Ideal-clause-fault
returns-in-Ideal-clause-fault c =
    let r = c.in_ok-line.ensures.ok in
    err_behind (field_of c.args.f.now) c.args.n c.args.reader.now c.read_kind.new.reader (r.0 ∷ []) r.1
    c.read_ideal.result c.read_ideal.ensures.fault

pub returns-clause-ok : goal.returns-clause-ok
returns-clause-ok c =
    let f = field_of c.args.f.now in
    let n = c.args.n in
    let a = c.args.reader.now in
    let b = c.read_kind.new.reader in
    let r = c.in_ok-line.ensures.ok in
    let w = c.in_ok-line.line.word in
    let none = rw c.in_default.is at r.4 in
    let is : w ≡ Split = r.2 ∙ split_kind r.0.word
    (kind_due (n * n) a.before r.0.word c.requires.start r.1.right.0.due)
    (λ e. c.in_default-word.not-Triple (r.2 ∙ e)) (λ e. c.in_default-word.not-NoIdentity (r.2 ∙ e))
    (λ e. c.in_default-word.not-Central (r.2 ∙ e)) (λ e. c.in_default-word.not-Ideal (r.2 ∙ e))
    (λ e. none.1 (r.2 ∙ e)) (λ e. none.2 (r.2 ∙ e)) in
    let first : Line = record { word = Split; numbers = []; fractions = [] } in
    let same : r.0 ≡ first = plain_kind f n a b r.0 r.1 none.0 w c.in_ok-line.line.numbers r.2 r.3 Split
    is refl in
    IfOk-weaker c.read_split.result (λ e. IsBehindKind f n first b.rest.now e)
    (λ e. Fits (fractions_over f) n e × (a.rest.now ≡ lines_text (lines_of n e)))
    (λ e h. whole_read f n a b r.0 first r.1 same e h) c.read_split.ensures.ok

pub returns-clause-fault : goal.returns-clause-fault
returns-clause-fault c =
    let r = c.in_ok-line.ensures.ok in
    err_behind (field_of c.args.f.now) c.args.n c.args.reader.now c.read_kind.new.reader (r.0 ∷ []) r.1
    c.read_split.result c.read_split.ensures.fault

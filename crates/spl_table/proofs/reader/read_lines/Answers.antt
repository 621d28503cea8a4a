use Rattle.std.proofs.Common.{◌≡◌, subst, sym, ap, refl, ◌∙◌}
use Rattle.std.proofs.lemmas.Result.{err_from_is_err_and}
use Rattle.spl_field.specs.SmallField.{characteristic, modulus_of, small_ops}
use Rattle.spl_fraction.specs.Fractions.{field_of}
use Rattle.spl_table.specs.Refusal.{front}
use Rattle.spl_table.specs.Reading.{IfRefused, IsDegreeFault, head_of}
use Rattle.spl_table.proofs.Faults.{no_second, second_refused, no_third_line, third_refused, spelled_head, has_admitted}
use Rattle.spl_table.proofs.Faults.{entries_refused, front_read, right_head}
use Rattle.spl_table.proofs.Faults.{table_read}
use Rattle.spl_table.proofs.reader.read_lines.Goals as goal

pub returns-in_default-split_once-clause-fault : goal.returns-in_default-split_once-clause-fault
returns-in_default-split_once-clause-fault c =
    rw c.at-in_default-split_once.ensures
    (no_second front c.args.bytes.now c.in-Some.rest.now c.in-Some.ensures c.in_default-split_once.ensures)

pub returns-in_err-fractions-clause-fault : goal.returns-in_err-fractions-clause-fault
returns-in_err-fractions-clause-fault c =
    let s = c.in-Some-split_once in
    let p = err_from_is_err_and c.from_residual.result c.from_residual.ensures.1 in
    rw (p.1, p.2)
    (second_refused front c.args.bytes.now c.in-Some.rest.now c.in-Some.ensures s.second.now s.rest.now s.ensures.0
    s.ensures.1 c.in_err-fractions.field-0.0 c.in_err-fractions.ensures.fault)

pub returns-in_default-split_once-2-clause-fault : goal.returns-in_default-split_once-2-clause-fault
returns-in_default-split_once-2-clause-fault c =
    let s = c.in-Some-split_once in
    let k = field_of c.in_ok-fractions.fractions in
    rw c.at-in_default-split_once-2.ensures
    (no_third_line front c.args.bytes.now c.in-Some.rest.now c.in-Some.ensures
    s.second.now s.rest.now s.ensures.0 s.ensures.1
    (characteristic k) (modulus_of k)
    c.in_ok-fractions.ensures.spelled c.in_ok-fractions.ensures.admitted c.in_default-split_once-2.ensures)

pub returns-in_err-n-clause-fault : goal.returns-in_err-n-clause-fault
returns-in_err-n-clause-fault c =
    let s = c.in-Some-split_once in
    let t = c.in-Some-split_once-2 in
    let k = field_of c.in_ok-fractions.fractions in
    let same : c.p.result ≡ characteristic k = c.p.ensures.p ∙ ap characteristic c.field.ensures in
    let fault = subst (λ q.
    IfRefused c.in_err-n.field-0.0
    (λ at kind. (at ≡ 3) × IsDegreeFault q t.third.now kind)) same c.in_err-n.ensures.fault in
    let p = err_from_is_err_and c.from_residual-in_err-n.result c.from_residual-in_err-n.ensures.1 in
    rw (p.1, p.2)
    (third_refused front c.args.bytes.now c.in-Some.rest.now c.in-Some.ensures
    s.second.now s.rest.now s.ensures.0 s.ensures.1
    (characteristic k) (modulus_of k)
    c.in_ok-fractions.ensures.spelled c.in_ok-fractions.ensures.admitted t.third.now t.rest.now t.ensures.0 t.ensures.1
    c.in_err-n.field-0.0 fault)

pub returns-in_err-entries-clause-fault : goal.returns-in_err-entries-clause-fault
returns-in_err-entries-clause-fault c =
    let s = c.in-Some-split_once in
    let t = c.in-Some-split_once-2 in
    let k = field_of c.in_ok-fractions.fractions in
    let n = c.in_ok-n in
    let same : c.p.result ≡ characteristic k = c.p.ensures.p ∙ ap characteristic c.field.ensures in
    let right = right_head k n.n c.p.result same c.in_ok-fractions.ensures.admitted n.ensures.low n.ensures.high
    n.ensures.apart in
    let spelled = spelled_head front c.args.bytes.now c.in-Some.rest.now c.in-Some.ensures s.second.now s.rest.now
    s.ensures.0
    s.ensures.1 (characteristic k) (modulus_of k)
    c.in_ok-fractions.ensures.spelled c.in_ok-fractions.ensures.admitted t.third.now t.rest.now t.ensures.0 t.ensures.1
    n.n n.ensures.spelled in
    let p = err_from_is_err_and c.from_residual-in_err-entries.result c.from_residual-in_err-entries.ensures.1 in
    rw (p.1, p.2) (entries_refused front c.args.bytes.now t.rest.now
    (head_of k n.n) right spelled c.in_err-entries.field-0.0 c.in_err-entries.ensures.fault)

pub returns-clause-ok : goal.returns-clause-ok
returns-clause-ok c =
    let s = c.in-Some-split_once in
    let t = c.in-Some-split_once-2 in
    let k = field_of c.in_ok-fractions.fractions in
    let n = c.in_ok-n in
    let same : c.p.result ≡ characteristic k = c.p.ensures.p ∙ ap characteristic c.field.ensures in
    let right = right_head k n.n c.p.result same c.in_ok-fractions.ensures.admitted n.ensures.low n.ensures.high
    n.ensures.apart in
    let spelled = spelled_head front c.args.bytes.now c.in-Some.rest.now c.in-Some.ensures s.second.now s.rest.now
    s.ensures.0
    s.ensures.1 (characteristic k) (modulus_of k)
    c.in_ok-fractions.ensures.spelled c.in_ok-fractions.ensures.admitted t.third.now t.rest.now t.ensures.0 t.ensures.1
    n.n n.ensures.spelled in
    let entries = c.in_ok-entries.entries in
    let read = c.in_ok-entries.ensures.entries in
    let table = c.in_ok-table.ensures in
    front_read front c.args.bytes.now t.rest.now (head_of k n.n) right spelled
    (small_ops k) entries.rest.now entries.number entries.constants read c.requires _
    (table_read c.in_ok-table.table c.in_ok-fractions.fractions n.n read.entries entries.constants table.fractions
    table.degree table.algebra read.values) refl refl

pub returns-in_err-fractions-clause-memory : goal.returns-in_err-fractions-clause-memory
returns-in_err-fractions-clause-memory c =
    let s = c.in-Some-split_once in
    let p = err_from_is_err_and c.from_residual.result c.from_residual.ensures.1 in
    λ e.
    let w = c.in_err-fractions.ensures.memory (cc (p.1, p.2, e)) in
    has_admitted front c.args.bytes.now c.in-Some.rest.now c.in-Some.ensures s.second.now s.rest.now s.ensures.0
    s.ensures.1 w.p w.m w.spelled w.admitted

pub returns-in_err-n-clause-memory : goal.returns-in_err-n-clause-memory
returns-in_err-n-clause-memory c = λ e.
    let s = c.in-Some-split_once in
    let f = c.in_ok-fractions.ensures in
    let k = field_of c.in_ok-fractions.fractions in
    has_admitted front c.args.bytes.now c.in-Some.rest.now c.in-Some.ensures s.second.now s.rest.now s.ensures.0
    s.ensures.1 (characteristic k) (modulus_of k) f.spelled f.admitted

pub returns-in_err-entries-clause-memory : goal.returns-in_err-entries-clause-memory
returns-in_err-entries-clause-memory c = λ e.
    let s = c.in-Some-split_once in
    let f = c.in_ok-fractions.ensures in
    let k = field_of c.in_ok-fractions.fractions in
    has_admitted front c.args.bytes.now c.in-Some.rest.now c.in-Some.ensures s.second.now s.rest.now s.ensures.0
    s.ensures.1 (characteristic k) (modulus_of k) f.spelled f.admitted

pub returns-in_err-table-clause-memory : goal.returns-in_err-table-clause-memory
returns-in_err-table-clause-memory c = λ e.
    let s = c.in-Some-split_once in
    let f = c.in_ok-fractions.ensures in
    let k = field_of c.in_ok-fractions.fractions in
    has_admitted front c.args.bytes.now c.in-Some.rest.now c.in-Some.ensures s.second.now s.rest.now s.ensures.0
    s.ensures.1 (characteristic k) (modulus_of k) f.spelled f.admitted

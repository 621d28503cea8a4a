use Rattle.std.proofs.Common.{◌≡◌, ◌∙◌, sym, arith}
use Rattle.spl_fraction.specs.Fractions.{field_of}
use Rattle.spl_evidence.proofs.CanonicalWords.{TermsSoFar-none}
use Rattle.spl_evidence.proofs.Readers.LineTerms.{RowsSoFar-none, RowsSoFar-push, rows_none, rows_all}
use Rattle.spl_evidence.proofs.terms.matrix_of.Goals as goal

pub loop-init : goal.loop-init
loop-init c =
    let f = field_of c.args.f.now in
    rw c.new-rows.ensures (RowsSoFar-none f c.args.n c.args.text.now (TermsSoFar-none f c.args.text.now))

pub loop-preserved : goal.loop-preserved
loop-preserved c =
    let l = c.loop in
    let w = rw c.in-Some.is at c.in_ok-row.ensures in
    rw c.in_ok-push.ensures.ok
    (RowsSoFar-push (field_of c.args.f.now) c.args.n c.args.text.now l.rest.now l.counter l.rows l.invariant
    c.in-Some.row c.in-Some.after.now w.0 w.1 w.3 c.requires w.2)

pub push-requires : goal.push-requires
push-requires c =
    let w = rw c.in-Some.is at c.in_ok-row.ensures in
    λ k d below. (c.loop.invariant.tuples k d below).right_length ∙ sym w.0

pub returns-in_default : goal.returns-in_default
returns-in_default c =
    let l = c.loop in
    let none = rw c.in_default.is at c.in_ok-row.ensures in
    λ ts same forms e canonical.
    rows_none (field_of c.args.f.now) c.args.n c.args.text.now l.rest.now l.counter l.rows l.invariant none
    c.loop-test.true ts same e canonical

pub returns : goal.returns
returns c =
    let l = c.loop in
    let all : l.counter ≡ c.args.n = omega (arith, c.loop-test.false, l.auto.counter-end) in
    λ ts same forms e.
    rows_all (field_of c.args.f.now) c.args.n c.args.text.now l.rest.now l.counter l.rows l.invariant all ts same forms
    e

use Rattle.theory_tables.specs.Structure.{IsOver}
use Rattle.spl_table.specs.Table.{field_of, degree_of, algebra_of, ops_of}
use Rattle.spl_evidence.proofs.Shown.{claim_shows}
use Rattle.spl_check.proofs.Verdicts.{verdict_claim}
use Rattle.spl_check.proofs.check.check.Goals as goal

pub returns : goal.returns
returns c =
    let t = c.args.table.now in
    let e = c.args.e.now in
    let o = ops_of t in
    let A = algebra_of t in
    let n = degree_of t in
    let over : IsOver o A = record { right_length = t.count; of_elements = t.over } in
    let told = verdict_claim (field_of t) A over n e t.dim c.requires c.in_ok-verdict.verdict c.in_ok-verdict.ensures in
    record {
      verdict = c.in_ok-verdict.ensures;
      claim = told;
      shows = λ yes. claim_shows (field_of t) A over n t.dim e (told.0 yes);
    }

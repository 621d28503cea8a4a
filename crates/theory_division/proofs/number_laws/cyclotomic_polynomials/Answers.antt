use Rattle.theory_division.proofs.CyclotomicValues.{cyclotomic_table, cyclotomic_values}
use Rattle.theory_division.proofs.number_laws.cyclotomic_polynomials.Goals as goal

pub returns-clause-table : goal.returns-clause-table
returns-clause-table c = cyclotomic_table

pub returns-clause-values : goal.returns-clause-values
returns-clause-values c = cyclotomic_values

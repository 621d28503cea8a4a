use Rattle.std.proofs.Common.{refl, subst}
use Rattle.spl_table.specs.Reading.{AreBytes}
use Rattle.spl_table.proofs.Admitted.{too_much}
use Rattle.spl_table.proofs.reader.head.read_field.Goals as goal

pub returns-then-not-words-clause-fault : goal.returns-then-not-words-clause-fault
returns-then-not-words-clause-fault c =
    let w = c.in-Some.ensures in
    let words = c.in-Some.words in
    rw c.at-then-not-words.ensures (
      refl,
      record {
        p = words.characteristic;
        m = w.m;
        characteristic = w.characteristic;
        modulus = w.modulus;
        spelled = w.spelled;
        fault = too_much w.m words.modulus.bytes.items
            (subst (λ small. AreBytes w.m small words.modulus.bytes.items) c.if-not-words.true w.are_bytes)
            words.characteristic;
      },
    )

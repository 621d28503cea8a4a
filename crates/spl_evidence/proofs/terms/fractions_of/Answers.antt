use Rattle.std.proofs.Common.{◌≡◌, ◌∷◌, [], length, refl, arith}
use Rattle.std.proofs.lemmas.List.{length-append}
use Rattle.spl_fraction.specs.Fractions.{field_of}
use Rattle.spl_evidence.proofs.CanonicalWords.{TermsSoFar-none, TermsSoFar-push, terms_no_word, terms_no_fraction}
use Rattle.spl_evidence.proofs.CanonicalWords.{ends_of}
use Rattle.spl_evidence.proofs.terms.fractions_of.Goals as goal

pub loop-init : goal.loop-init
loop-init c = rw c.new-fractions.ensures record {
  so_far = TermsSoFar-none (field_of c.args.f.now) c.args.text.now;
  many = refl;
}

pub loop-preserved : goal.loop-preserved
loop-preserved c =
    let l = c.loop in
    let w = c.in-Some.ensures in
    let x = c.in-Some-2.fraction in
    let is = rw c.in-Some-2.is at c.in_ok-fraction.ensures.value in
    let elem = rw c.in-Some-2.is at c.in_ok-fraction.ensures.elem in
    rw c.in_ok-push.ensures.ok record {
      so_far = TermsSoFar-push (field_of c.args.f.now) c.args.text.now l.rest.now l.fractions l.invariant.so_far
          c.in-Some.word.now c.in-Some.after.now x w.2 w.1 elem is;
      many = omega (arith, length-append l.fractions (x ∷ []), l.invariant.many);
    }

pub returns-in_default : goal.returns-in_default
returns-in_default c =
    let l = c.loop in
    λ ts rest same each ends.
    terms_no_word (field_of c.args.f.now) c.args.text.now l.rest.now l.fractions l.invariant.so_far
    c.in_default.ensures ts rest (omega (arith, l.invariant.many, same, c.loop-test.true)) each ends

pub returns-in_default-2 : goal.returns-in_default-2
returns-in_default-2 c =
    let l = c.loop in
    let w = c.in-Some.ensures in
    λ ts rest same each ends.
    terms_no_fraction (field_of c.args.f.now) c.args.text.now l.rest.now l.fractions l.invariant.so_far
    c.in-Some.word.now c.in-Some.after.now w.0 w.1 w.2 (rw c.in_default-2.is at c.in_ok-fraction.ensures.value) ts rest
    (omega (arith, l.invariant.many, same, c.loop-test.true)) each ends

pub returns : goal.returns
returns c =
    let l = c.loop in
    let w = l.invariant.so_far.words in
    let all : length l.fractions ≡ c.args.count =
    omega (arith, l.invariant.many, c.loop-test.false, l.auto.counter-end) in (
      all,
      l.invariant.so_far.elems,
      ends_of (field_of c.args.f.now) c.args.text.now l.rest.now l.fractions l.invariant.so_far,
      w.spelled,
    )

use Rattle.std.proofs.Common.{◌≡◌, ◌≢◌, ◌<◌, ◌+◌, ◌/◌, ◌%◌, length, sym, ◌∙◌, ap, arith}
use Rattle.std.proofs.lemmas.Bool.{both_ways}
use Rattle.theory_rings.specs.Sum.{at}
use Rattle.spl_algebra.proofs.Terms.{read-at}
use Rattle.spl_algebra.proofs.Multipliers.{lists-more, lists-skip, lists-all}
use Rattle.spl_algebra.proofs.identity.listed.Goals as goal
use Rattle.spl_algebra.proofs.identity.listed.Goals.{then-not-eq+in_ok-item+in_ok-push, else-not-eq}

pub loop-s-preserved : goal.loop-s-preserved
loop-s-preserved g c =
    let o = g.F.Field.ops c.args.f.now in
    let m = c.args.m in
    let items = c.args.items.now in
    let s = c.loop-s.s in
    let below : s < length items = omega arith in
    elim c.if-not-eq.branch [
      | then-not-eq+in_ok-item+in_ok-push w ↦
          let is : c.index-items-s.result ≡ at o items s =
          read-at o items s c.index-items-s.result below c.index-items-s.is in
          let nonzero : at o items s ≢ o.zero = λ z.
          both_ways c.eq.result w.if-not-eq.true (c.eq.ensures.1 (is ∙ z ∙ sym c.in_ok-zero.ensures.value)) in
          let item : w.in_ok-item.item ≡ at o items s = w.in_ok-item.ensures.value
          ∙ read-at o items s w.index-items-s-then-not-eq.result below w.index-items-s-then-not-eq.is in
          rw w.list-is (lists-more o m items s c.loop-s.list w.push.new.self
          (s / m + 1, s % m + 1, w.in_ok-item.item) c.requires.positive nonzero
          (ap (λ x. (s / m + 1, s % m + 1, x)) item) w.in_ok-push.ensures.ok c.loop-s.invariant)
      | else-not-eq w ↦
          let is_zero : at o items s ≡ o.zero =
          sym (read-at o items s c.index-items-s.result below c.index-items-s.is)
          ∙ c.eq.ensures.0 w.if-not-eq.false ∙ c.in_ok-zero.ensures.value in
          rw w.list-is (lists-skip o m items s c.loop-s.list is_zero c.loop-s.invariant)
    ]

pub returns : goal.returns
returns g c =
    let o = g.F.Field.ops c.args.f.now in
    let items = c.args.items.now in
    let done : c.loop-s.s ≡ length items = omega arith in
    lists-all o (g.met.F.Field.laws c.args.f.now) c.args.m items c.loop-s.list c.requires.positive c.requires.items
    (rw done at c.loop-s.invariant)

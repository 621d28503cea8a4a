use Rattle.std.proofs.Common.{◌≡◌, ◌≢◌, ◌<◌, ◌+◌, ℕ, length, sym, ◌∙◌, arith}
use Rattle.std.proofs.lemmas.Bool.{both_ways}
use Rattle.theory_rings.specs.Sum.{at}
use Rattle.theory_tables.proofs.Rows.Sums.{read_at}
use Rattle.spl_algebra.proofs.EntryLists.{lists-more, lists-skip}
use Rattle.spl_algebra.proofs.entries.entries_of_row.Goals as goal
use Rattle.spl_algebra.proofs.entries.entries_of_row.Goals.{then-not-eq+in_ok-item+in_ok-push, else-not-eq}

pub loop-k-preserved : goal.loop-k-preserved
loop-k-preserved g c =
    let o = g.F.Field.ops c.args.f.now in
    let cs = c.args.constants.now in
    let start = c.args.start in
    let row = λ (k : ℕ). at o cs (start + k) in
    let k = c.loop-k.k in
    let below : start + k < length cs = omega arith in
    let is : c.index-constants-start.result ≡ row k =
    read_at o cs (start + k) c.index-constants-start.result below c.index-constants-start.is in
    elim c.if-not-eq.branch [
      | then-not-eq+in_ok-item+in_ok-push w ↦
          let nonzero : row k ≢ o.zero = λ z.
          both_ways c.eq.result w.if-not-eq.true (c.eq.ensures.1 (is ∙ z ∙ sym c.requires.zero)) in
          rw w.list-is (lists-more o.zero row k c.loop-k.list w.push.new.self w.in_ok-item.item nonzero
          (w.in_ok-item.ensures.value ∙ is) w.in_ok-push.ensures.ok c.loop-k.invariant)
      | else-not-eq w ↦
          let is_zero : row k ≡ o.zero = sym is ∙ c.eq.ensures.0 w.if-not-eq.false ∙ c.requires.zero in
          rw w.list-is (lists-skip o.zero row k c.loop-k.list is_zero c.loop-k.invariant)
    ]

pub returns : goal.returns
returns g c =
    let done : c.loop-k.k ≡ c.args.m = omega arith in
    rw done at c.loop-k.invariant

use Rattle.std.proofs.Common.{◌*◌, List, subst, arith}
use Rattle.spl_algebra.specs.Entries.{AreRowEntries}
use Rattle.spl_algebra.proofs.EntryLists.{row_entries-same}
use Rattle.spl_algebra.proofs.algebra.Algebra.new.Goals as goal

pub invariant_of-result : goal.invariant_of-result
invariant_of-result g c =
    let o = g.F.Field.ops c.args.f.now in
    let m = c.args.m in
    let cs = c.args.constants in
    let entries = c.in_ok-entries in (
      c.requires.positive,
      c.requires.over.right_length,
      omega arith,
      entries.ensures.count,
      λ f. row_entries-same o (g.F.Field.ops f) m cs (m * m) entries.entries
          (g.met.F.Field.same_zero c.args.f.now f)
          (subst (λ (xs : List g.row.F-Elem.Denot). AreRowEntries o m xs (m * m) entries.entries) c.as_slice.ensures
          entries.ensures),
    )

use Rattle.std.proofs.Common.{[], get_or}
use Rattle.spl_order.proofs.within_at.are_within_at.Goals as goal

pub returns : goal.returns
returns c =
    let t = c.in_ok-test.ensures in
    let p = c.in_ok-passed.ensures in
    let rows = c.args.rows.now in (
      (λ r i l. (t.tells (get_or rows i []) (c.requires.rows i [] l)).0 (p.0 r i l)),
      (λ h. p.1 (λ i l. (t.tells (get_or rows i []) (c.requires.rows i [] l)).1 (h i l))),
    )

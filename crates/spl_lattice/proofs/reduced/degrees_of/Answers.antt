use Rattle.std.proofs.Common.{sym, ◌∙◌, ap, subst, ◌≡◌, ◌<◌, [], ◌∷◌, ◌++◌, length, get_or, pos, w64}
use Rattle.std.proofs.lemmas.Int.{to_z-of_z}
use Rattle.std.proofs.lemmas.List.{get_or_default}
use Rattle.theory_rings.specs.Polynomial.{degree}
use Rattle.spl_lattice.proofs.RowLattices.{length_of_entry, degrees_pushed}
use Rattle.spl_lattice.proofs.reduced.degrees_of.Goals as goal

pub degree_at-requires : goal.degree_at-requires
degree_at-requires c =
    let i = c.loop-i.i in
    let rows = c.args.rows.now in
    let x = c.index-rows-i in
    let p = get_or c.args.places.now i 0 in
    let e : get_or rows i [] ≡ x.result = sym (x.is ∙ get_or_default rows i x.result [] c.loop-i-test.true) in
    let h = c.requires.leads i c.loop-i-test.true in
    let n : 0 < length (get_or x.result p []) = subst (λ r. 0 < length (get_or r p [])) e h.nonzero in
    record { place = length_of_entry x.result p n; nonzero = n }

pub loop-i-preserved : goal.loop-i-preserved
loop-i-preserved c =
    let i = c.loop-i.i in
    let rows = c.args.rows.now in
    let places = c.args.places.now in
    let x = c.index-rows-i in
    let e : x.result ≡ get_or rows i [] = x.is ∙ get_or_default rows i x.result [] c.loop-i-test.true in
    let inv = c.loop-i.invariant in
    degrees_pushed rows places i c.loop-i.degrees c.push.new.self c.degree_at.result inv.count inv.each
    (c.in_ok-push.ensures.ok ∙ ap (λ d. c.loop-i.degrees ++ d ∷ []) (to_z-of_z w64 c.degree_at.result
    (record { sfits = c.degree_at.type_inv })))
    (c.degree_at.ensures ∙ ap (λ r. pos (degree (get_or r (get_or places i 0) []))) e)

use Rattle.std.proofs.Common.{◌≡◌, ◌∙◌, ap₂, ℕ, List}
use Rattle.theory_rings.specs.Sum.{at}
use Rattle.theory_rings.proofs.Rings.Elements.{at-elem}
use Rattle.spl_field.specs.SmallField.{small_ops}
use Rattle.spl_poly.proofs.poly.Poly.add.Goals as goal

-- the rows are added in the other order
pub returns-in_ok-sum_of_rows-clause-value : goal.returns-in_ok-sum_of_rows-clause-value
returns-in_ok-sum_of_rows-clause-value c =
    let o = small_ops c.args.f.now in
    let a : List ℕ = c.args.self.now in
    let b : List ℕ = c.args.b.now in
    let L = c.know_laws.ensures in
    let ex : c.as_slice-x.result.now ≡ a = c.as_slice-x.ensures ∙ c.self.view_is in
    let ey : c.as_slice-y.result.now ≡ b = c.as_slice-y.ensures ∙ c.b.view_is in
    λ k. c.in_ok-sum_of_rows.ensures.value k ∙ ap₂ (λ (s t : List ℕ). o.add (at o s k) (at o t k)) ey ex
    ∙ L.add_comm (at o b k) (at o a k) (at-elem o L b c.requires.b_over k) (at-elem o L a c.requires.self_over k)

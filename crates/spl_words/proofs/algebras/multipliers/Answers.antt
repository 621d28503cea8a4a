use Rattle.std.proofs.Common.{◌≡◌, ℕ, ◌<◌, List, length, get_or, arith, sym, ◌∙◌, subst}
use Rattle.std.proofs.lemmas.List.{get_or_default}
use Rattle.theory_rings.specs.Ops.{Ops, IsElem}
use Rattle.theory_tables.specs.Claims.{AreMultipliers}
use Rattle.spl_words.proofs.algebras.multipliers.Goals as goal

-- the value of each multiplier is an element
value_elem : {E : Type 0} (o : Ops E) (m : ℕ) (list : List (ℕ × ℕ × E)) (s : ℕ) (x : ℕ × ℕ × E)
    → AreMultipliers o m list
    → s < length list → x ≡ get_or list s x → IsElem o x.2
value_elem {E} o m list s x fit below e = subst (λ (w : ℕ × ℕ × E). IsElem o w.2)
    (sym (e ∙ get_or_default list s x (0, 0, o.zero) below)) (fit.of_field s below)

pub element-requires : goal.element-requires
element-requires g c =
    let below : c.loop-j.j-index < length c.args.list.now = omega arith in
    value_elem (g.F.Field.ops c.args.f.now) c.args.m c.args.list.now c.loop-j.j-index c.loop-j-item.result c.requires
    below c.loop-j-item.is

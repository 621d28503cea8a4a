use Rattle.spl_poly.proofs.poly.Poly.+rest_of_power.Given as goal

abbrev pub decreases-rest_of_power : goal.decreases-rest_of_power
decreases-rest_of_power l = l.exponent

-- Evidence whose claim holds fits.
use Rattle.std.specs.Prelude.{◌≡◌, ℕ, ◌*◌}
use Rattle.std.proofs.Common.{subst}
use Rattle.theory_fractions.specs.Fraction.{Pair}
use Rattle.theory_tables.specs.Structure.{Structure}
use Rattle.theory_tables.specs.Claims.{TripleFits, NoIdentityFits, CentralFits, IdealFits, SplitFits}
use Rattle.spl_field.specs.declared.small.SmallField.{SmallField}
use Rattle.spl_fraction.specs.FractionsOver.{fractions_over}
use Rattle.spl_evidence.specs.declared.evidence.Evidence.{Evidence}
use Rattle.spl_evidence.specs.declared.evidence.Evidence.TheVariants.{Triple, NoIdentity, Central, Ideal, Split, Ramified}
use Rattle.spl_evidence.specs.Evidence.{Fits, RamifiedFits}
use Rattle.spl_evidence.specs.Claim.{Claim}

pub fits_of_claim : (f : SmallField) (A : Structure (Pair ℕ)) (n : ℕ) (e : Evidence) → A.dim ≡ n * n → Claim f A n e
    → Fits (fractions_over f) n e
fits_of_claim f A n (Triple i j k) same c = subst (λ m. TripleFits m i j k) same c.fits
fits_of_claim f A n (NoIdentity left right) same c =
    subst (λ m. NoIdentityFits (fractions_over f) m left right) same c.fits
fits_of_claim f A n (Central tuple) same c = subst (λ m. CentralFits (fractions_over f) m tuple) same c.fits
fits_of_claim f A n (Ideal tuples) same c = subst (λ m. IdealFits (fractions_over f) m tuples) same c.fits
fits_of_claim f A n (Split maps units) same c = subst (λ m. SplitFits (fractions_over f) m n maps units) same c.fits
fits_of_claim f A n (Ramified place order radical) same c =
    subst (λ m. RamifiedFits (fractions_over f) m place order radical) same c.fits

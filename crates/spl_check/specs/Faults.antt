-- The numbers by which the conditions on a ramified place are told.
use Rattle.std.specs.Prelude.{ℕ}
use Rattle.spl_ramified.specs.declared.fault.RamifiedFault.{RamifiedFault}
use Rattle.spl_ramified.specs.declared.fault.RamifiedFault.TheVariants.{NoPlace, NotAssociative, NoIdentity}
use Rattle.spl_ramified.specs.declared.fault.RamifiedFault.TheVariants.{OrderDependent, OrderWithoutIdentity}
use Rattle.spl_ramified.specs.declared.fault.RamifiedFault.TheVariants.{OrderNotClosed, RadicalDependent}
use Rattle.spl_ramified.specs.declared.fault.RamifiedFault.TheVariants.{RadicalOutside, NoIdeal, RadicalWithoutMultiple}
use Rattle.spl_ramified.specs.declared.fault.RamifiedFault.TheVariants.{NotNilpotent, QuotientNotSimple}
use Rattle.spl_ramified.specs.declared.fault.RamifiedFault.TheVariants.{OtherLeftOrder, RadicalIsMultiple}

abbrev pub number_of : RamifiedFault → ℕ
number_of NoPlace = 61
number_of NotAssociative = 62
number_of NoIdentity = 63
number_of OrderDependent = 64
number_of OrderWithoutIdentity = 65
number_of OrderNotClosed = 66
number_of RadicalDependent = 67
number_of RadicalOutside = 68
number_of NoIdeal = 69
number_of RadicalWithoutMultiple = 70
number_of NotNilpotent = 71
number_of QuotientNotSimple = 72
number_of OtherLeftOrder = 73
number_of RadicalIsMultiple = 74

-- Cyclotomic polynomials to the 36-th, at z + 1 in place of z, where neither they nor (z + 1)^m − 1 have negative
-- coefficients: so polynomials are lists of natural numbers here, that of power 0 first. (Lang, Algebra, section VI.3.)
use Rattle.std.specs.Prelude.{◌≡◌, ℕ, zero, suc, ◌+◌, ◌-◌, ◌*◌, ◌%◌, ◌^◌, ◌<◌, ◌≤◌, List, [], ◌∷◌, true, false, eqb}
use Rattle.std.specs.Prelude.{get_or}
use Rattle.std.specs.Int.{◌∣◌}

-- the sum of two polynomials
abbrev pub plus : List ℕ → List ℕ → List ℕ
plus [] b = b
plus (x ∷ a) [] = x ∷ a
plus (x ∷ a) (y ∷ b) = (x + y) ∷ plus a b

-- a multiple
abbrev pub scale : ℕ → List ℕ → List ℕ
scale c [] = []
scale c (x ∷ a) = (c * x) ∷ scale c a

-- the product
abbrev pub times : List ℕ → List ℕ → List ℕ
times [] b = []
times (x ∷ a) b = plus (scale x b) (0 ∷ times a b)

-- the value at z
abbrev pub value : List ℕ → ℕ → ℕ
value [] z = 0
value (x ∷ a) z = x + z * value a z

-- (z + 1)^m
abbrev pub power_of_next : ℕ → List ℕ
power_of_next zero = 1 ∷ []
power_of_next (suc m) = times (1 ∷ 1 ∷ []) (power_of_next m)

-- the polynomial with 0 for its constant coefficient
abbrev pub without_constant : List ℕ → List ℕ
without_constant [] = []
without_constant (x ∷ a) = 0 ∷ a

-- (z + 1)^m − 1
abbrev pub power_less_one : ℕ → List ℕ
power_less_one m = without_constant (power_of_next m)

-- item m is the m-th cyclotomic polynomial at z + 1; item 0 is not used
abbrev pub cyclotomics : List (List ℕ)
cyclotomics =
    []
    ∷ (0 ∷ 1 ∷ [])
    ∷ (2 ∷ 1 ∷ [])
    ∷ (3 ∷ 3 ∷ 1 ∷ [])
    ∷ (2 ∷ 2 ∷ 1 ∷ [])
    ∷ (5 ∷ 10 ∷ 10 ∷ 5 ∷ 1 ∷ [])
    ∷ (1 ∷ 1 ∷ 1 ∷ [])
    ∷ (7 ∷ 21 ∷ 35 ∷ 35 ∷ 21 ∷ 7 ∷ 1 ∷ [])
    ∷ (2 ∷ 4 ∷ 6 ∷ 4 ∷ 1 ∷ [])
    ∷ (3 ∷ 9 ∷ 18 ∷ 21 ∷ 15 ∷ 6 ∷ 1 ∷ [])
    ∷ (1 ∷ 2 ∷ 4 ∷ 3 ∷ 1 ∷ [])
    ∷ (11 ∷ 55 ∷ 165 ∷ 330 ∷ 462 ∷ 462 ∷ 330 ∷ 165 ∷ 55 ∷ 11 ∷ 1 ∷ [])
    ∷ (1 ∷ 2 ∷ 5 ∷ 4 ∷ 1 ∷ [])
    ∷ (13 ∷ 78 ∷ 286 ∷ 715 ∷ 1287 ∷ 1716 ∷ 1716 ∷ 1287 ∷ 715 ∷ 286 ∷ 78 ∷ 13 ∷ 1 ∷ [])
    ∷ (1 ∷ 3 ∷ 9 ∷ 13 ∷ 11 ∷ 5 ∷ 1 ∷ [])
    ∷ (1 ∷ 4 ∷ 14 ∷ 28 ∷ 39 ∷ 36 ∷ 21 ∷ 7 ∷ 1 ∷ [])
    ∷ (2 ∷ 8 ∷ 28 ∷ 56 ∷ 70 ∷ 56 ∷ 28 ∷ 8 ∷ 1 ∷ [])
    ∷ (17 ∷ 136 ∷ 680 ∷ 2380 ∷ 6188 ∷ 12376 ∷ 19448 ∷ 24310 ∷ 24310 ∷ 19448 ∷ 12376 ∷ 6188 ∷ 2380 ∷ 680 ∷ 136 ∷ 17 ∷ 1
    ∷ [])
    ∷ (1 ∷ 3 ∷ 12 ∷ 19 ∷ 15 ∷ 6 ∷ 1 ∷ [])
    ∷ (19 ∷ 171 ∷ 969 ∷ 3876 ∷ 11628 ∷ 27132 ∷ 50388 ∷ 75582 ∷ 92378 ∷ 92378 ∷ 75582 ∷ 50388 ∷ 27132 ∷ 11628 ∷ 3876
    ∷ 969 ∷ 171 ∷ 19 ∷ 1 ∷ [])
    ∷ (1 ∷ 4 ∷ 18 ∷ 40 ∷ 56 ∷ 50 ∷ 27 ∷ 8 ∷ 1 ∷ [])
    ∷ (1 ∷ 6 ∷ 31 ∷ 100 ∷ 235 ∷ 406 ∷ 519 ∷ 490 ∷ 338 ∷ 166 ∷ 55 ∷ 11 ∷ 1 ∷ [])
    ∷ (1 ∷ 5 ∷ 25 ∷ 70 ∷ 130 ∷ 166 ∷ 148 ∷ 91 ∷ 37 ∷ 9 ∷ 1 ∷ [])
    ∷ (23 ∷ 253 ∷ 1771 ∷ 8855 ∷ 33649 ∷ 100947 ∷ 245157 ∷ 490314 ∷ 817190 ∷ 1144066 ∷ 1352078 ∷ 1352078 ∷ 1144066
    ∷ 817190 ∷ 490314 ∷ 245157 ∷ 100947 ∷ 33649 ∷ 8855 ∷ 1771 ∷ 253 ∷ 23 ∷ 1 ∷ [])
    ∷ (1 ∷ 4 ∷ 22 ∷ 52 ∷ 69 ∷ 56 ∷ 28 ∷ 8 ∷ 1 ∷ [])
    ∷ (5 ∷ 50 ∷ 350 ∷ 1725 ∷ 6425 ∷ 18760 ∷ 43975 ∷ 84075 ∷ 132450 ∷ 172975 ∷ 187760 ∷ 169325 ∷ 126425 ∷ 77625 ∷ 38775
    ∷ 15505 ∷ 4845 ∷ 1140 ∷ 190 ∷ 20 ∷ 1 ∷ [])
    ∷ (1 ∷ 6 ∷ 36 ∷ 125 ∷ 295 ∷ 496 ∷ 610 ∷ 553 ∷ 367 ∷ 174 ∷ 56 ∷ 11 ∷ 1 ∷ [])
    ∷ (3 ∷ 27 ∷ 189 ∷ 900 ∷ 3186 ∷ 8694 ∷ 18648 ∷ 31860 ∷ 43767 ∷ 48621 ∷ 43758 ∷ 31824 ∷ 18564 ∷ 8568 ∷ 3060 ∷ 816
    ∷ 153 ∷ 18 ∷ 1 ∷ [])
    ∷ (1 ∷ 6 ∷ 39 ∷ 140 ∷ 341 ∷ 590 ∷ 741 ∷ 680 ∷ 451 ∷ 210 ∷ 65 ∷ 12 ∷ 1 ∷ [])
    ∷ (29 ∷ 406 ∷ 3654 ∷ 23751 ∷ 118755 ∷ 475020 ∷ 1560780 ∷ 4292145 ∷ 10015005 ∷ 20030010 ∷ 34597290 ∷ 51895935
    ∷ 67863915 ∷ 77558760 ∷ 77558760 ∷ 67863915 ∷ 51895935 ∷ 34597290 ∷ 20030010 ∷ 10015005 ∷ 4292145 ∷ 1560780
    ∷ 475020 ∷ 118755 ∷ 23751 ∷ 3654 ∷ 406 ∷ 29 ∷ 1 ∷ [])
    ∷ (1 ∷ 4 ∷ 30 ∷ 76 ∷ 99 ∷ 76 ∷ 35 ∷ 9 ∷ 1 ∷ [])
    ∷ (31 ∷ 465 ∷ 4495 ∷ 31465 ∷ 169911 ∷ 736281 ∷ 2629575 ∷ 7888725 ∷ 20160075 ∷ 44352165 ∷ 84672315 ∷ 141120525
    ∷ 206253075 ∷ 265182525 ∷ 300540195 ∷ 300540195 ∷ 265182525 ∷ 206253075 ∷ 141120525 ∷ 84672315 ∷ 44352165
    ∷ 20160075 ∷ 7888725 ∷ 2629575 ∷ 736281 ∷ 169911 ∷ 31465 ∷ 4495 ∷ 465 ∷ 31 ∷ 1 ∷ [])
    ∷ (2 ∷ 16 ∷ 120 ∷ 560 ∷ 1820 ∷ 4368 ∷ 8008 ∷ 11440 ∷ 12870 ∷ 11440 ∷ 8008 ∷ 4368 ∷ 1820 ∷ 560 ∷ 120 ∷ 16 ∷ 1 ∷ [])
    ∷ (1 ∷ 10 ∷ 85 ∷ 480 ∷ 2040 ∷ 6732 ∷ 17613 ∷ 37101 ∷ 63673 ∷ 89785 ∷ 104543 ∷ 100673 ∷ 80028 ∷ 52221 ∷ 27693 ∷ 11748
    ∷ 3892 ∷ 970 ∷ 171 ∷ 19 ∷ 1 ∷ [])
    ∷ (1 ∷ 8 ∷ 64 ∷ 308 ∷ 1036 ∷ 2576 ∷ 4900 ∷ 7274 ∷ 8518 ∷ 7896 ∷ 5776 ∷ 3300 ∷ 1444 ∷ 468 ∷ 106 ∷ 15 ∷ 1 ∷ [])
    ∷ (1 ∷ 12 ∷ 114 ∷ 748 ∷ 3763 ∷ 14992 ∷ 48522 ∷ 129810 ∷ 290511 ∷ 548404 ∷ 878021 ∷ 1196129 ∷ 1388349 ∷ 1372475
    ∷ 1153195 ∷ 820370 ∷ 491146 ∷ 245311 ∷ 100965 ∷ 33650 ∷ 8855 ∷ 1771 ∷ 253 ∷ 23 ∷ 1 ∷ [])
    ∷ (1 ∷ 6 ∷ 51 ∷ 200 ∷ 480 ∷ 786 ∷ 923 ∷ 792 ∷ 495 ∷ 220 ∷ 66 ∷ 12 ∷ 1 ∷ [])
    ∷ []

abbrev pub cyclotomic : ℕ → List ℕ
cyclotomic m = get_or cyclotomics m []

-- the product of the polynomials d from 1 to k for which d divides m
abbrev pub divisor_product : ℕ → ℕ → List ℕ
divisor_product m zero = 1 ∷ []
divisor_product m (suc k) = elim (eqb (m % suc k) 0) [
  | true ↦ times (cyclotomic (suc k)) (divisor_product m k)
  | false ↦ divisor_product m k
]

-- X^m − 1 is the product of the cyclotomic polynomials at the divisors of m: with m = 1, 2, .. this says which they are
abbrev pub CyclotomicTable : Type 0
CyclotomicTable = (m : ℕ) → 1 ≤ m → m ≤ 36 → divisor_product m m ≡ power_less_one m

-- the value of the m-th at z + 1 is above z, and with q = z + 1 it divides what (q^m − 1) / (q^d − 1) is at each proper
-- divisor d of m
pub record CyclotomicValue (m z : ℕ) : Type 0 where
  pub large : z < value (cyclotomic m) z
  pub divides : (d : ℕ) → 0 < d → d < m → d ∣ m → (suc z ^ d - 1) * value (cyclotomic m) z ∣ suc z ^ m - 1

-- The condition flags, by the manual's tables, in integers: N and Z by the result, V where the signed result does not fit, C where
-- the unsigned one does not. h is half of what the operation's size holds. Assumes nothing.
use Rattle.std.specs.Prelude.{ℕ, ◌+◌, ◌-◌, ◌*◌, ◌/◌, ◌%◌, ◌^◌, Bool, true, false, not, ◌&&◌, ◌||◌, List, [], ◌∷◌, ltb, leb, eqb, get_or, ℤ, pos, negsuc, ◌+ℤ◌, ◌-ℤ◌, ◌*ℤ◌}
use Rattle.std.proofs.Math.IntN.{sub_ℕ}
use Rattle.rules.specs.Number.{modulo}
use Rattle.manual.specs.Manual.{sign_by}
use Rattle.machine.specs.declared.Flags.{Flags}

-- a signed number from -h to h - 1
unfoldable pub fits_in : ℕ → ℤ → Bool
fits_in h (pos n) = ltb n h
fits_in h (negsuc n) = ltb n h

-- X as given, N and Z by the result v, V and C as given
abbrev pub marks : Bool → ℕ → ℕ → Bool → Bool → Flags
marks x h v over carry = record { x = x; n = leb h v; z = eqb v 0; v = over; c = carry }

-- a value that was moved, multiplied or tested: X stays, V and C are 0
abbrev pub moved : Flags → ℕ → ℕ → Flags
moved f h v = marks f.x h v false false

-- d + s; X is C
unfoldable pub added : ℕ → ℕ → ℕ → Flags
added h s d =
    marks (leb (h + h) (d + s)) h ((d + s) % (h + h)) (not (fits_in h (sign_by h d +ℤ sign_by h s))) (leb (h + h) (d + s))

-- d - s, X as given
unfoldable pub compared : Bool → ℕ → ℕ → ℕ → Flags
compared x h s d = marks x h (modulo (h + h) (sub_ℕ d s)) (not (fits_in h (sign_by h d -ℤ sign_by h s))) (ltb d s)

-- d - s; X is C
abbrev pub subtracted : ℕ → ℕ → ℕ → Flags
subtracted h s d = compared (ltb d s) h s d

-- the last bit that goes out of a long v shifted left by k, 1 to 8
abbrev pub last_out : ℕ → ℕ → Bool
last_out k v = eqb (v / 2 ^ (32 - k) % 2) 1

-- a long v shifted left by k: V where v times 2^k does not fit, C and X the last bit out
unfoldable pub shifted : ℕ → ℕ → Flags
shifted k v =
    marks (last_out k v) (2 ^ 31) (v * 2 ^ k % 2 ^ 32) (not (fits_in (2 ^ 31) (sign_by (2 ^ 31) v *ℤ pos (2 ^ k)))) (last_out k v)

-- the sixteen conditions by their four bits, as the manual's table has them: T, F, HI, LS, CC, CS, NE, EQ, VC, VS, PL, MI, GE, LT, GT, LE
abbrev pub conditions : Flags → List Bool
conditions f =
    true ∷ false ∷ (not f.c && not f.z) ∷ (f.c || f.z)
    ∷ not f.c ∷ f.c ∷ not f.z ∷ f.z
    ∷ not f.v ∷ f.v ∷ not f.n ∷ f.n
    ∷ (f.n && f.v || not f.n && not f.v)
    ∷ (f.n && not f.v || not f.n && f.v)
    ∷ (f.n && f.v && not f.z || not f.n && not f.v && not f.z)
    ∷ (f.z || f.n && not f.v || not f.n && f.v) ∷ []

unfoldable pub holds : ℕ → Flags → Bool
holds k f = get_or (conditions f) k false

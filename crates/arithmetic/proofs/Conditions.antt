-- Tests of two signs, as the conditions' table has them. Assumes nothing.
use mathlib.Core.Path.{◌≡◌, refl, sym}
use mathlib.Core.Bool.{Bool, true, false, beq, not, ◌&&◌, ◌||◌, false≢true}

pub same_sign : (n v : Bool) → beq n v ≡ (n && v || not n && not v)
same_sign true true = refl
same_sign true false = refl
same_sign false true = refl
same_sign false false = refl

pub other_sign : (n v : Bool) → not (beq n v) ≡ (n && not v || not n && v)
other_sign true true = refl
other_sign true false = refl
other_sign false true = refl
other_sign false false = refl

pub greater : (n z v : Bool) → not z ≡ true → beq n v ≡ (n && v && not z || not n && not v && not z)
greater n true v e = absurd (false≢true e)
greater true false true e = refl
greater true false false e = refl
greater false false true e = refl
greater false false false e = refl

pub not_greater : (n z v : Bool) → not z ≡ false → not z ≡ (n && v && not z || not n && not v && not z)
not_greater n false v e = absurd (false≢true (sym e))
not_greater true true true e = refl
not_greater true true false e = refl
not_greater false true true e = refl
not_greater false true false e = refl

pub less : (n z v : Bool) → z ≡ false → not (beq n v) ≡ (z || n && not v || not n && v)
less n true v e = absurd (false≢true (sym e))
less n false v e = other_sign n v

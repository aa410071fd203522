-- What a word is, found by its fields: they are taken out, the word is put together again and compared. That it is the inverse
-- of the forms' words is promised (promises/specs/Bench.antt) and not believed. Assumes nothing.
use Rattle.std.specs.Prelude.{ℕ, ◌+◌, ◌*◌, ◌/◌, ◌%◌, cond, List, [], ◌∷◌, eqb, get_or}
use Rattle.machine.specs.Form.{listed}
use Rattle.machine.specs.declared.Form.TheVariants.{Nop, Moveq, MoveWord, Load, Store, Add, Sub, Cmp, Muls, MulsImmediate, Tst, Subq, Asl, Branch}
use Rattle.machine.specs.declared.Decoded.{Decoded}
use Rattle.machine.specs.declared.Decoded.TheVariants.{Is, Halt, Other}

-- the three bits from bit 9 on, and the three lowest
abbrev pub high : ℕ → ℕ
high w = w / 512 % 8

abbrev pub low : ℕ → ℕ
low w = w % 8

-- 1 to 8 from the three bits from bit 9 on: 000 is 8
abbrev pub count : ℕ → ℕ
count w = (high w + 7) % 8 + 1

-- one answer if the word is v, else another
abbrev pub one : ℕ → ℕ → Decoded → Decoded → Decoded
one w v a b = cond (eqb w v) a b

abbrev pub branch : ℕ → Decoded
branch w =
    cond (listed (w / 256 % 16))
    (cond (eqb (w % 256) 0) Other (cond (eqb (w % 256) 255) Other (Is (Branch (w / 256 % 16) (w % 256))))) Other

-- the answer by the highest four bits; $4E72 is the halt
abbrev pub rows : ℕ → List Decoded
rows w =
    Other ∷ Other
    ∷ one w (0x2010 + high w * 512 + low w) (Is (Load (low w) (high w))) (one w (0x2080 + high w * 512 + low w) (Is (Store (low w) (high w))) Other)
    ∷ one w (0x3000 + high w * 512 + low w) (Is (MoveWord (low w) (high w))) Other
    ∷ one w (0x4A80 + low w) (Is (Tst (low w))) (one w 0x4E71 (Is Nop) (one w 0x4E72 Halt Other))
    ∷ one w (0x5180 + high w * 512 + low w) (Is (Subq (count w) (low w))) Other
    ∷ branch w
    ∷ one w (0x7000 + high w * 512 + w % 256) (Is (Moveq (w % 256) (high w))) Other
    ∷ Other
    ∷ one w (0x9040 + high w * 512 + low w) (Is (Sub (low w) (high w))) Other
    ∷ Other
    ∷ one w (0xB040 + high w * 512 + low w) (Is (Cmp (low w) (high w))) Other
    ∷ one w (0xC1C0 + high w * 512 + low w) (Is (Muls (low w) (high w))) (one w (0xC1FC + high w * 512) (Is (MulsImmediate (high w))) Other)
    ∷ one w (0xD040 + high w * 512 + low w) (Is (Add (low w) (high w))) Other
    ∷ one w (0xE180 + high w * 512 + low w) (Is (Asl (count w) (low w))) Other
    ∷ Other ∷ []

unfoldable pub decode_of : ℕ → Decoded
decode_of w = get_or (rows w) (w / 4096) Other

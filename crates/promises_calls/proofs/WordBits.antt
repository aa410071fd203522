-- The fields of a word are its bits. Assumes nothing.
use Prim.Native.Nat.{ℕ, suc, ◌+◌, ◌*◌, ◌/◌, ◌%◌, ◌^◌, ◌<◌, ◌≤◌}
use mathlib.Core.Path.{◌≡◌, refl, sym, ap, ◌∙◌}
use mathlib.Core.List.{List, [], ◌∷◌, ◌++◌}
use native.Mathlib.Omega.{arith}
use Rattle.std.proofs.lemmas.Nat.{div-mul-add, mod-mul-add, pow-add}
use native.Mathlib.Nat.{mul_assoc, add-mul, mul-le-mul_right}
use Rattle.manual.specs.Manual.{Field, join, widths, Fit, layout, operation_word}
use Rattle.promises_calls.specs.WordBits.{StandsAbove, FieldsAreBits}

-- fields after a value: the value times what they span, and their own
spread : (v x y b j : ℕ) → (v * x + b) * y + j ≡ v * (x * y) + (b * y + j)
spread v x y b j = let e = add-mul (v * x) b y in let a = mul_assoc v x y in omega arith

joined_behind : (v : ℕ) (fs : List Field) → join v fs ≡ v * 2 ^ widths fs + join 0 fs
unfolding join widths
joined_behind v [] = omega arith
joined_behind v (f ∷ fs) =
    let z : 0 * 2 ^ f.width + f.bits ≡ f.bits = omega arith in
    let h = joined_behind (v * 2 ^ f.width + f.bits) fs in
    let k = rw z at (joined_behind (0 * 2 ^ f.width + f.bits) fs) in
    h ∙ spread v (2 ^ f.width) (2 ^ widths fs) f.bits (join 0 fs) ∙ rw (pow-add 2 f.width (widths fs), z, k)

-- fields that hold their values come to less than they span
room : (b x y j : ℕ) → b < x → j < y → b * y + j < x * y
room b x y j h k =
    let m : suc b * y ≤ x * y = mul-le-mul_right {m = suc b} {n = x} y (omega arith) in
    let e = add-mul b 1 y in
    omega arith

below : (fs : List Field) → Fit fs → join 0 fs < 2 ^ widths fs
unfolding join widths
below [] h = omega arith
below (f ∷ fs) h =
    let z : 0 * 2 ^ f.width + f.bits ≡ f.bits = omega arith in
    let k = joined_behind f.bits fs in
    let r = room f.bits (2 ^ f.width) (2 ^ widths fs) (join 0 fs) h.0 (below fs h.1) in
    rw (z, k, pow-add 2 f.width (widths fs)) r

joined_both : (v : ℕ) (fs gs : List Field) → join v (fs ++ gs) ≡ join (join v fs) gs
unfolding join
joined_both v [] gs = refl
joined_both v (f ∷ fs) gs = joined_both (v * 2 ^ f.width + f.bits) fs gs

fit_behind : (fs gs : List Field) → Fit (fs ++ gs) → Fit gs
fit_behind [] gs h = h
fit_behind (f ∷ fs) gs h = fit_behind fs gs h.1

stands_above : (front : List Field) (f : Field) (back : List Field) → Fit (front ++ (f ∷ back)) → StandsAbove (join 0 (front ++ (f ∷ back))) f (widths back)
unfolding join
stands_above front f back h =
    let k = fit_behind front (f ∷ back) h in
    let u : join 0 (front ++ (f ∷ back)) ≡ (join 0 front * 2 ^ f.width + f.bits) * 2 ^ widths back + join 0 back =
    joined_both 0 front (f ∷ back) ∙ joined_behind (join 0 front * 2 ^ f.width + f.bits) back in
    let q = ap (λ w. w / 2 ^ widths back) u ∙ div-mul-add (join 0 front * 2 ^ f.width + f.bits) (2 ^ widths back) (join 0 back) (below back k.1) in
    record { bits = ap (λ w. w % 2 ^ f.width) q ∙ mod-mul-add (join 0 front) (2 ^ f.width) f.bits k.0 }

pub fields_are_bits : FieldsAreBits
unfolding FieldsAreBits operation_word
fields_are_bits i y =
    record {
      sixteen = rw (ap (λ n. 2 ^ n) y.sixteen) at (below (layout i) y.fit);
      each = λ front f back e. rw (sym e) at (stands_above front f back (rw e at y.fit));
    }

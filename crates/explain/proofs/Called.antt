-- For callers from C: a verdict is passed on as numbers. Assumes nothing.
use Prim.Native.Nat.{ℕ}
use mathlib.Core.Path.{◌≡◌, refl}
use Rattle.rules.specs.Answer.{Answer, accepted, refused}
use Rattle.requests.specs.Explain.{Verdict as Said}
use Rattle.explain.specs.declared.Verdict.{Verdict}
use Rattle.explain.specs.Verdict.{verdict_of, verdict_number, explained_of}
use Rattle.answer.specs.Told.{told_number}
use Rattle.explain.specs.Called.{Explains, of_line, not_told, told_verdict, refused_place}

pub explains_line : (a : Answer Said) {v : Verdict} {n : ℕ} → accepted v ≡ explained_of a → n ≡ verdict_number v → Explains a 0 n 0
explains_line (accepted u) {v} e f = let w : v ≡ verdict_of u = cc in rw (f, w) (of_line u)
explains_line (refused n p) e f = absurd cc

pub explains_not : (a : Answer Said) {n p : ℕ} → refused n p ≡ explained_of a → Explains a n 255 p
explains_not (accepted u) e = absurd cc
explains_not (refused m q) {n} {p} e = let u : n ≡ m = cc in let v : p ≡ q = cc in rw (u, v) (not_told m q)

-- what `tell` leaves
pub explains_told : (a : Answer Said) (x : Answer Verdict) {n v p : ℕ} → x ≡ explained_of a → n ≡ told_number x → v ≡ told_verdict x → p ≡ refused_place x → Explains a n v p
explains_told a (accepted w) e f g h = rw (f, g, h) (explains_line a e refl)
explains_told a (refused m q) e f g h = rw (f, g, h) (explains_not a e)

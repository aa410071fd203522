-- The answer told: what the call answers by the first pass. Assumes nothing.
use Rattle.std.specs.Prelude.{Option, None, Some, Ok, Err}
use Rattle.std.specs.Option.{option_map, ok_or}
use mathlib.Core.Path.{◌≡◌, refl, sym, ap, ◌∙◌}
use mathlib.Core.Bool.{false≢true}
use Prim.Native.Nat.{ℕ, ◌-◌}
use Rattle.rules.specs.Text.{Text}
use Rattle.rules.specs.Line.{size}
use Rattle.rules.specs.Label.{Label}
use Rattle.rules.specs.Answer.{accepted, refused, and_then}
use Rattle.rules.specs.Assemble.{Pass, pass_at_by}
use Rattle.requests.specs.Nearest.{nearest_in, told_nearest, nearest}
use Rattle.label.specs.Numbers.{numbers_of}
use Rattle.label.specs.declared.Row.{Row}
use Rattle.nearest.proofs.Walk.{nothing, numbered}

-- ---- `ok_or`
module _ {T E : Type 0} where
  pub ok_or_some : (o : Option T) (e : E) {x : T} → ok_or o e ≡ Ok x → Some x ≡ o
  ok_or_some None e p = absurd (false≢true cc)
  ok_or_some (Some y) e p = cc

  pub ok_or_none : (o : Option T) (e : E) {f : E} → ok_or o e ≡ Err f → (None ≡ o) × (f ≡ e)
  ok_or_none None e p = (refl, cc)
  ok_or_none (Some y) e p = absurd (false≢true cc)

module _ (a : ℕ) (o : Option Label) where
  tell_at : (x : Row) → Some x ≡ option_map numbers_of o → accepted (record { start = x.start; length = x.length; distance = a - x.address }) ≡ told_nearest a o
  unfolding told_nearest
  tell_at x e =
      let n = numbered o x e in
      let f = ap (λ (y : Row). accepted (record { start = y.start; length = y.length; distance = a - y.address })) n.numbers in
      rw n.is f

  tell_nothing : None ≡ option_map numbers_of o → refused 12 0 ≡ told_nearest a o
  unfolding told_nearest
  tell_nothing e = rw (nothing o e) refl

module _ (base a : ℕ) {source : Text} {s : Text} (same : s ≡ source) where
  pub call_refused : (n k : ℕ) → refused n k ≡ pass_at_by size base s → refused n k ≡ nearest base source a
  unfolding nearest and_then
  call_refused n k e = rw (← same, ← e) refl

  module _ {p : Pass} (e : accepted p ≡ pass_at_by size base s) where
    call_is : nearest base source a ≡ told_nearest a (nearest_in a p.labels)
    unfolding nearest and_then
    call_is = rw (← same, ← e) refl

    pub call_at : (x : Row) → Some x ≡ option_map numbers_of (nearest_in a p.labels)
        → accepted (record { start = x.start; length = x.length; distance = a - x.address }) ≡ nearest base source a
    call_at x d = tell_at a (nearest_in a p.labels) x d ∙ sym call_is

    pub call_nothing : None ≡ option_map numbers_of (nearest_in a p.labels) → refused 12 0 ≡ nearest base source a
    call_nothing d = tell_nothing a (nearest_in a p.labels) d ∙ sym call_is

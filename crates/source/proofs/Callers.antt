-- For whoever calls `check_source`: what its answer says of every call that begins with these checks. Assumes nothing.
use Rattle.std.specs.Prelude.{Option, None, Some}
use Rattle.std.proofs.Common.{◌≡◌, ℕ, Bool, true, false, refl, ltb, ltb-true, ltb-false, length, arith, ◌∙◌, sym}
use Rattle.rules.specs.Limits.{max_source, max_lines}
use Rattle.rules.specs.Text.{Text, cut_at}
use Rattle.rules.specs.Answer.{Answer, accepted, refused}
use Rattle.rules.specs.Assemble.{first_high, checks}
use Rattle.source.specs.Clear.{Clear}
use Rattle.source.proofs.Checks.{checks_1, checks_2, checks_3, checks_none}

-- a clear source passes on to what comes next
pub checks_clear : (s : Text) → Clear s → {A : Type 0} (a : Answer A) → checks s a ≡ a
checks_clear s c a = checks_none s a c.short c.ascii c.few

same : {A : Type 0} {r p m q : ℕ} → ◌≡◌ {A = Answer ℕ} (refused r p) (refused m q) → ◌≡◌ {A = Answer A} (refused r p) (refused m q)
same {r = r} {p = p} {m = m} {q = q} e = let u : r ≡ m = cc in let v : p ≡ q = cc in rw (u, v)

-- a refused check: every such call is refused so
pub stopped : (s : Text) (n r p : ℕ) → refused r p ≡ checks s (accepted n) → {A : Type 0} (a : Answer A) → refused r p ≡ checks s a
stopped s n r p e a = go (ltb max_source (length s)) refl (first_high 0 s) refl (ltb max_lines (length (cut_at 10 s))) refl
  where
    go : (x : Bool) → ltb max_source (length s) ≡ x → (o : Option ℕ) → first_high 0 s ≡ o → (y : Bool) → ltb max_lines (length (cut_at 10 s)) ≡ y → refused r p ≡ checks s a
    go true q o u y v = let h = ltb-true max_source (length s) q in same (e ∙ checks_1 s (accepted n) h) ∙ sym (checks_1 s a h)
    go false q (Some i) u y v = let h = ltb-false max_source (length s) q in same (e ∙ checks_2 s (accepted n) h i u) ∙ sym (checks_2 s a h i u)
    go false q None u true v =
        let h = ltb-false max_source (length s) q in
        let k = ltb-true max_lines (length (cut_at 10 s)) v in
        same (e ∙ checks_3 s (accepted n) h u k) ∙ sym (checks_3 s a h u k)
    go false q None u false v =
        let h = ltb-false max_source (length s) q in
        let k = ltb-false max_lines (length (cut_at 10 s)) v in
        absurd (let z : refused r p ≡ accepted n = e ∙ checks_none s (accepted n) h u k in let w : ◌≡◌ {A = ℕ} 0 1 = cc in omega arith)

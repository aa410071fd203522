-- The line that is shown is the source's line. Assumes nothing.
use Rattle.std.proofs.Common.{◌≡◌, ℕ, zero, suc, ◌+◌, ◌-◌, ◌<◌, ◌≤◌, Bool, true, false, eqb, ◌||◌, List, [], ◌∷◌, length, take, refl, sym, ap, ◌∙◌, arith, Option, None, Some, inl, inr}
use borrow.Author.Tests.{eqb-false, ne_eqb}
use Rattle.rules.specs.Text.{Text, cut_at, cut_where, on_first, nth}
use Rattle.rules.specs.Line.{SourceLine, numbered, lines_of}
use Rattle.text.specs.Breaks.{breaks}
use Rattle.text.proofs.Breaks.{breaks_here, breaks_later}
use Rattle.text.proofs.Until.{cut_here, cut_later, cut_first}
use Rattle.cli_error.specs.Refusals.{row_of, counted}
use Rattle.cli_error.specs.Shown.{line_index, spoken_index, shown_text}
use Rattle.cli_error.specs.Stated.{In, LineShown, NoLineShown, Holding, OffsetShown}
use Rattle.cli_error.specs.declared.words.Counts.{Counts}
use Rattle.cli_error.specs.declared.words.Counts.TheVariants.{Length, Offset, Count, Line, Index}

-- ---- lines by their number
pub in_numbered : (n st : ℕ) (ls : List Text) (l : SourceLine) → In l (numbered n st ls) → (n ≤ l.number) × (nth (l.number - n) ls ≡ Some l.text)
unfolding In numbered nth
in_numbered n st [] l i = elim i [ ]
in_numbered n st (t ∷ ts) l (inl e) =
    let k : l.number ≡ n = ap (λ (x : SourceLine). x.number) e in
    let z : l.number - n ≡ 0 = omega arith in
    let u : l.text ≡ t = ap (λ (x : SourceLine). x.text) e in
    (omega arith, rw (z, u))
in_numbered n st (t ∷ ts) l (inr i) =
    let h = in_numbered (suc n) (suc (st + length t)) ts l i in
    let z : l.number - n ≡ suc (l.number - suc n) = omega (arith, h.0) in
    (omega (arith, h.0), rw z h.1)

in_nth : (n st k : ℕ) (ls : List Text) (t : Text) → nth k ls ≡ Some t → (l : SourceLine) × In l (numbered n st ls) × (l.number ≡ n + k)
unfolding In numbered nth
in_nth n st k [] t e = let z : None ≡ Some t = e in cc
in_nth n st zero (u ∷ us) t e = (record { number = n; start = st; text = u }, inl refl, omega arith)
in_nth n st (suc k) (u ∷ us) t e =
    let h = in_nth (suc n) (suc (st + length u)) k us t e in
    (h.0, inr h.1, omega (arith, h.2))

-- ---- which lines refusals speak of
code : Option Counts → ℕ
code None = 0
code (Some Length) = 1
code (Some Offset) = 2
code (Some Count) = 3
code (Some Line) = 4
code (Some Index) = 5

no_table : (n : ℕ) → counted n ≡ Some Line → (eqb n 16 || eqb n 17) ≡ false
unfolding counted row_of code
no_table n e =
    rw (
      ne_eqb n 16 (λ z. let f : ◌≡◌ {A = ℕ} 2 4 = rw z at (ap code e) in absurd (omega arith)),
      ne_eqb n 17 (λ z. let f : ◌≡◌ {A = ℕ} 2 4 = rw z at (ap code e) in absurd (omega arith)),
    )

pub line_shown : LineShown
unfolding LineShown lines_of shown_text spoken_index line_index
line_shown s n l e i =
    let h = in_numbered 1 0 (cut_at 10 s) l i in
    let z : eqb l.number 0 ≡ false = ne_eqb l.number 0 (λ q. absurd (omega (arith, h.0))) in
    let k : suc (l.number - 1) ≡ l.number = omega (arith, h.0) in
    rw (no_table n e, e, z, h.1, k)

pub no_line_shown : NoLineShown
unfolding NoLineShown lines_of shown_text spoken_index line_index
no_line_shown s n p e h = go (eqb p 0) refl
  where
    none : (o : Option Text) → nth (p - 1) (cut_at 10 s) ≡ o → (0 < p) → o ≡ None
    none None f q = refl
    none (Some t) f q = let w = in_nth 1 0 (p - 1) (cut_at 10 s) t f in absurd (h w.0 w.1 (omega (arith, w.2)))

    go : (y : Bool) → eqb p 0 ≡ y → shown_text n p s ≡ []
    go true f = rw (no_table n e, e, f)
    go false f =
        let d = eqb-false p 0 f in
        rw (no_table n e, e, f, none (nth (p - 1) (cut_at 10 s)) refl (omega arith))

-- ---- the line of a byte
first_of : (n st : ℕ) (s : Text) → Holding (numbered n st (cut_at 10 s)) n st
unfolding In numbered cut_at
first_of n st s =
    rw (cut_first (eqb 10) s)
    (record { line = record { number = n; start = st; text = _ }; one_of = inl refl; numbered = refl; from = omega arith; to = omega arith })

more_lines : (x : SourceLine) {ls : List SourceLine} {n at : ℕ} → Holding ls n at → Holding (x ∷ ls) n at
unfolding In
more_lines x h = record { line = h.line; one_of = inr h.one_of; numbered = h.numbered; from = h.from; to = h.to }

-- a byte in front of the first text
grown : (n st m b at : ℕ) (ls : List Text) → 0 < length ls → Holding (numbered n (suc st) ls) m at → Holding (numbered n st (on_first b ls)) m at
unfolding In numbered on_first
grown n st m b at [] p h = absurd (omega arith)
grown n st m b at (t ∷ ts) p h = go h.one_of
  where
    go : In h.line (numbered n (suc st) (t ∷ ts)) → Holding (numbered n st (on_first b (t ∷ ts))) m at
    go (inl e) =
        let k : h.line.number ≡ n = ap (λ (x : SourceLine). x.number) e in
        let u : h.line.start ≡ suc st = ap (λ (x : SourceLine). x.start) e in
        let v : h.line.text ≡ t = ap (λ (x : SourceLine). x.text) e in
        record {
          line = record { number = n; start = st; text = b ∷ t };
          one_of = inl refl;
          numbered = sym k ∙ h.numbered;
          from = omega (arith, u, h.from);
          to = omega (arith, u, ap length v, h.to);
        }
    go (inr i) =
        let z : suc (suc st + length t) ≡ suc (st + suc (length t)) = omega arith in
        record { line = h.line; one_of = inr (rw z at i); numbered = h.numbered; from = h.from; to = h.to }

some_cut : (s : Text) → 0 < length (cut_where (eqb 10) s)
some_cut s = rw (cut_first (eqb 10) s) (omega arith)

pub on_line : (s : Text) (n st i : ℕ) → i ≤ length s → Holding (numbered n st (cut_at 10 s)) (n + breaks (take i s)) (st + i)
unfolding In numbered cut_at breaks cut_where
on_line s n st zero h =
    let z : n + 0 ≡ n = omega arith in
    let y : st + 0 ≡ st = omega arith in
    rw (z, y) (first_of n st s)
on_line [] n st (suc i) h = absurd (omega arith)
on_line (b ∷ s) n st (suc i) h = go (eqb 10 b) refl (on_line s (suc n) (suc st) i (omega arith)) (on_line s n (suc st) i (omega arith))
  where
    go : (y : Bool) → eqb 10 b ≡ y → Holding (numbered (suc n) (suc st) (cut_at 10 s)) (suc n + breaks (take i s)) (suc st + i)
        → Holding (numbered n (suc st) (cut_at 10 s)) (n + breaks (take i s)) (suc st + i)
        → Holding (numbered n st (cut_where (eqb 10) (b ∷ s))) (n + breaks (b ∷ take i s)) (st + suc i)
    go true e p q =
        let z : suc n + breaks (take i s) ≡ n + suc (breaks (take i s)) = omega arith in
        let y : suc st + i ≡ st + suc i = omega arith in
        let x : st + 0 ≡ st = omega arith in
        let r : Holding (numbered (suc n) (suc (st + 0)) (cut_where (eqb 10) s)) (suc n + breaks (take i s)) (suc st + i) = rw x p in
        rw (cut_here (eqb 10) b s e, breaks_here b (take i s) e, ← z, ← y)
        (more_lines (record { number = n; start = st; text = [] }) r)
    go false e p q =
        let y : suc st + i ≡ st + suc i = omega arith in
        rw (cut_later (eqb 10) b s e, breaks_later b (take i s) e, ← y) (grown n st (n + breaks (take i s)) b (suc st + i) (cut_where (eqb 10) s) (some_cut s) q)

pub offset_shown : OffsetShown
unfolding OffsetShown lines_of shown_text spoken_index line_index counted row_of
offset_shown s i h =
    let z : 1 + breaks (take i s) ≡ suc (breaks (take i s)) = omega arith in
    let y : 0 + i ≡ i = omega arith in
    let w : Holding (lines_of s) (suc (breaks (take i s))) i = rw (z, y) at (on_line s 1 0 i h) in
    let m = in_numbered 1 0 (cut_at 10 s) w.line w.one_of in
    let k : w.line.number - 1 ≡ breaks (take i s) = omega (arith, w.numbered) in
    (suc (breaks (take i s)), w, rw (rw k at m.1))

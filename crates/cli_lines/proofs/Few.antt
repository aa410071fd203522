-- A line that has a verdict is one of at most 4,096. Assumes nothing.
use Rattle.std.proofs.Common.{ℕ, zero, suc, ◌≡◌, ◌<◌, ◌≤◌, List, [], ◌∷◌, length, refl, arith, ltb-false}
use Rattle.std.specs.Prelude.{Option, None, Some, slice_get}
use Rattle.rules.specs.Text.{Text, cut_at}
use Rattle.rules.specs.Answer.{Answer, accepted, refused, and_then}
use Rattle.rules.specs.Encode.{Mnemonic, mnemonics}
use Rattle.rules.specs.Assemble.{pass_at_by}
use Rattle.requests.specs.Branches.{loaded, names_with, under}
use Rattle.requests.specs.Explain.{explain_by}
use Rattle.requests.specs.Explain.{Verdict as Said}
use Rattle.explain.specs.Verdict.{explained_of}
use Rattle.explain.specs.declared.Verdict.{Verdict}
use Rattle.promises.specs.Explain.{ExplainsExactly}
use Rattle.promises.proofs.Explain.{explains_exactly}
use Rattle.promises.proofs.Accepted.{checks_passed}
use Rattle.cli_lines.specs.Lines.{by_names}

index_below : {A : Type 0} (xs : List A) (j : ℕ) (x : A) → slice_get xs j ≡ Some x → j < length xs
index_below [] j x e = absurd cc
index_below (y ∷ xs) zero x e = omega arith
index_below (y ∷ xs) (suc j) x e = let h = index_below xs j x e in omega arith

line_within : (names : List Mnemonic) (base k : ℕ) (s : Text) (v : Said) → explain_by names base s k ≡ accepted v → k ≤ 4096
unfolding ExplainsExactly pass_at_by
line_within names base k s v e =
    let x = (explains_exactly names base s k v).0 e in
    let h = index_below (cut_at 10 s) x.index x.line x.is in
    let l = ltb-false 4096 (length (cut_at 10 s)) (checks_passed s _ x.pass x.passed).0.lines in
    omega (arith, x.number)

has_verdict : (a : Answer Said) (v : Verdict) → accepted v ≡ explained_of a → (w : Said) × (a ≡ accepted w)
has_verdict (accepted w) v e = (w, refl)
has_verdict (refused n p) v e = absurd cc

pub line_few : (o : Option Text) (base k : ℕ) (s : Text) (v : Verdict) → accepted v ≡ explained_of (by_names o (λ names. explain_by names base s k)) → k ≤ 4096
unfolding by_names under and_then
line_few None base k s v e = let q = has_verdict (explain_by mnemonics base s k) v e in line_within mnemonics base k s q.0 q.1
line_few (Some t) base k s v e = go (loaded t) e
  where
    go : (x : Answer (List Mnemonic)) → accepted v ≡ explained_of (and_then x (λ rs. explain_by (names_with rs) base s k)) → k ≤ 4096
    go (accepted rs) f = let q = has_verdict (explain_by (names_with rs) base s k) v f in line_within (names_with rs) base k s q.0 q.1
    go (refused n p) f = absurd cc

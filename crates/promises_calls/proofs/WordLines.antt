-- A line with a word has it at its own address. Assumes nothing.
use Rattle.std.specs.Prelude.{Some, slice_get}
use Prim.Native.Nat.{ℕ, zero, suc, ◌≤◌, ◌<◌}
use mathlib.Core.Path.{◌≡◌, refl, ap}
use mathlib.Core.Logic.{◌≢◌}
use mathlib.Core.List.{List, [], ◌∷◌}
use native.Mathlib.Omega.{arith}
use lib.ListN.{length, length-drop}
use Rattle.rules.specs.Text.{Text, trim, cut_at}
use Rattle.rules.specs.Line.{Task, end, line_of, lines_of, size}
use Rattle.rules.specs.Encode.{Content, mnemonics, encode}
use Rattle.rules.specs.Answer.{accepted}
use Rattle.rules.specs.Assemble.{Pass, first_pass_by, pass_at_by, pass_at}
use Rattle.requests.specs.Sheet.{Class, class_number}
use Rattle.promises.specs.Refusals.{IsLine, Reached}
use Rattle.promises.specs.Explain.{PutsWords}
use Rattle.promises.specs.Sheet.{Ends, word_line, InClass, read}
use Rattle.promises.proofs.Compared.{clash}
use Rattle.promises.proofs.RefusalsPasses.{reached_once}
use Rattle.promises.proofs.Accepted.{not_refused, checks_passed}
use Rattle.promises.proofs.Asked as Asked
use Rattle.promises.proofs.Asked.{Lined, asks, ends, past_end, past_lines, lined}
use Rattle.promises.proofs.LineVerdicts.{contents}
use Rattle.promises.proofs.LineWords.{words_or_none, line_puts, line_silent}
use Rattle.promises.proofs.SheetLines.{sort_of, Said, said_skip, said_end, said_org, said_label, said_data, said_code, said}
use Rattle.promises_calls.specs.WordLines.{EmitsThere, WordLinesEmitThere}

-- a line that is END begins so
end_begins : (l : Text) → (line_of l).task ≡ end → Ends (trim l)
unfolding sort_of
end_begins l f = go (line_of l).task f (said l)
  where
    go : (k : Task) → k ≡ end → Said (trim l) k → Ends (trim l)
    go k g (said_skip q h) = let u : sort_of end ≡ 0 = rw g at q in clash cc
    go k g (said_end q h) = h
    go k g (said_org q h) = let u : sort_of end ≡ 2 = rw g at q in clash cc
    go k g (said_label q h) = let u : sort_of end ≡ 3 = rw g at q in clash cc
    go k g (said_data q h d) = let u : sort_of end ≡ 4 = rw g at q in clash cc
    go k g (said_code q h d) = let u : sort_of end ≡ 5 = rw g at q in clash cc

index_below : {A : Type 0} (xs : List A) (j : ℕ) (x : A) → slice_get xs j ≡ Some x → j < length xs
index_below [] j x e = clash cc
index_below (y ∷ xs) zero x e = omega arith
index_below (y ∷ xs) (suc j) x e = let h = index_below xs j x e in omega arith

-- a line of that class is read, it and those before it are not END, and it has words somewhere
record Emits (s : Text) (p : Pass) (j : ℕ) : Type 0 where
  no_end : (i : ℕ) (k : Text) → i ≤ j → IsLine s i k → ¬ Ends (trim k)
  line : Text
  is : IsLine s j line
  at : ℕ
  somewhere : PutsWords encode p j at

module _ (s : Text) (p : Pass) (accepts : pass_at 0 s ≡ accepted p) where
  passed : first_pass_by size 0 0 [] (lines_of s) ≡ accepted p
  unfolding pass_at_by
  passed = (not_refused _ 4 0 _ p (checks_passed s _ p accepts).1).1

  emits : {j : ℕ} {c : Class} → InClass s p j c → class_number c ≡ 4 → Emits s p j
  unfolding class_number
  emits (read {l = l} n i (word_line {a = a} k h w)) e = record { no_end = n; line = l; is = i; at = a; somewhere = w }
  emits _ e = clash cc

  there : {j a : ℕ} {ns : List Text} → Emits s p j → (l : Text) → Reached size 0 s j a ns → IsLine s j l → (line_of l).task ≢ end → EmitsThere s p j
  there {j} {a} {ns} m l r e f = go (contents mnemonics p.labels a (line_of l).task) refl
    where
      go : (x : List Content) → contents mnemonics p.labels a (line_of l).task ≡ x → EmitsThere s p j
      go [] g = absurd (words_or_none m.somewhere (line_silent mnemonics p j a (line_of l).task (Asked.put_at_lem size 0 s p passed l r e f) g))
      go (c ∷ cs) g =
          record {
            address = a;
            names = ns;
            reached = r;
            own = λ q. (reached_once size 0 s q r).0;
            puts = line_puts mnemonics p j a (line_of l).task (Asked.put_at_lem size 0 s p passed l r e f) c cs g;
          }

  word_there : (j : ℕ) → Emits s p j → EmitsThere s p j
  word_there j m = go (lined size 0 s j)
    where
      go : Lined size 0 s j → EmitsThere s p j
      go (asks {l = l} r e f) = there m l r e f
      go (ends {l = l} r e f) = absurd (m.no_end j l (omega arith) e (end_begins l f))
      go (past_end {i = i} {l = l} r e f h) = absurd (m.no_end i l (omega arith) e (end_begins l f))
      go (past_lines r e h) = let u = simp length-drop at (ap length e) in absurd (omega (arith, index_below (cut_at 10 s) j m.line m.is))

pub word_lines_emit_there : WordLinesEmitThere
unfolding WordLinesEmitThere class_number
word_lines_emit_there s p e j k = word_there s p e j (emits s p e k refl)

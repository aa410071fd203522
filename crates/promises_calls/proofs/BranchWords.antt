-- A branch's word says its condition and its displacement. Assumes nothing.
use Rattle.std.specs.Prelude.{Some}
use Rattle.rules.specs.Option.{bind}
use Prim.Native.Nat.{ℕ, ◌+◌, ◌*◌, ◌/◌, ◌%◌, ◌<◌}
use mathlib.Core.Path.{◌≡◌, refl, sym, ap, ◌∙◌}
use mathlib.Core.Logic.{◌≢◌}
use mathlib.Core.Bool.{true}
use mathlib.Core.List.{List, [], ◌∷◌, ◌++◌, map}
use native.Mathlib.Omega.{arith}
use lib.IntN.{ℤ}
use Rattle.rules.specs.Text.{Text, bytes, same}
use Rattle.rules.specs.Number.{read, value_of}
use Rattle.rules.specs.Line.{Instruction, end, instruction, line_of, size}
use Rattle.rules.specs.Label.{Table}
use Rattle.rules.specs.Encode.{literal, branch, Mnemonic, branches, other_mnemonics, mnemonics, operation_in, one_or_more, written_signed, displacement, branch_row, encode_operation, encode_by}
use Rattle.rules.specs.Answer.{accepted, and_then}
use Rattle.rules.specs.Assemble.{Encoder, Pass, Place, code_contents_by, code_places_by, second_pass_by, pass_at, assemble_by}
use Rattle.manual.specs.Manual.{InByte, byte, sign_of, Condition, T, CC, CS, NE, EQ, PL, MI, GE, LT, GT, LE}
use Rattle.promises.specs.Refusals.{IsLine, Reached}
use Rattle.promises.specs.Nearest.{FoundIsLast}
use Rattle.promises.specs.Readings.{Signed, Means, MeansWritten}
use Rattle.promises.specs.ListedForms.{Displaced, label, signed_number, marked_zero, words_before, words_after}
use Rattle.promises.specs.ManualWritten.{branch_named}
use Rattle.promises.specs.BranchCalls.{ListsUnder}
use Rattle.promises.proofs.Compared.{clash}
use Rattle.promises.proofs.Records.{found_is_last}
use Rattle.promises.proofs.Readings.{readings_mean}
use Rattle.promises.proofs.ManualLaws.{byte_modulo, bytes_read_back, displaced, displaced_byte}
use Rattle.promises.proofs.ManualLines.{zero_places}
use Rattle.promises.proofs.ManualLists.{cut}
use Rattle.promises.proofs.BranchCalls.{lists_under}
use Rattle.promises_calls.proofs.TableNames.{small, loaded_name}
use Rattle.promises_calls.specs.BranchWords.{BranchWord, Displaces, as_label, signed_operand, own_number, BranchesSay, InUse, BranchesSayBy, BranchesSayUnder}

-- ---- the operand
written : (o : Text) (d : ℤ) → MeansWritten (Means true (Signed 128) 10) o (Some (read d)) → written_signed o ≡ Some d
unfolding written_signed bind value_of
written o d m = rw ((readings_mean.of_branches o (Some (read d))).1 m)

its_displacement : {base : ℕ} {s : Text} {p : Pass} {a : ℕ} {o : Text} {d : ℤ} → pass_at base s ≡ accepted p → Displaces base s a o d → Displaced p.labels a o d
unfolding FoundIsLast
its_displacement {base} {s} {p} {o = o} h (as_label {t} r leads near) =
    label (record { target = t; found = (found_is_last size base s p h o t).1 r; leads = leads; near = near })
its_displacement {base} {s} {p} {o = o} {d} h (signed_operand away m) =
    signed_number (λ y r. away r.target y ((found_is_last size base s p h o r.target).0 r.found) r.leads r.near) (written o d m)

-- ---- the word
abbrev word_of : ℕ → ℤ → ℕ
word_of c d = 0x6000 + 256 * c + byte d

says : (c : ℕ) (d : ℤ) → c < 16 → InByte d → BranchWord c d (word_of c d)
says c d small near =
    let k = bytes_read_back d near in
    let q : word_of c d / 256 ≡ 96 + c = omega (arith, k.0) in
    let u : word_of c d % 256 ≡ byte d = omega (arith, k.0) in
    record { branch = omega (arith, k.0); condition = ap (λ n. n % 16) q ∙ omega arith; reads = ap sign_of u ∙ k.1 }

encoded : (names : List Mnemonic) (ls : Table) (a : ℕ) (i : Instruction) (c : ℕ) (o : Text) (ps : List Text) (d : ℤ) → operation_in names i.mnemonic ≡ Some (branch c)
    → i.operands ≡ o ∷ ps → displacement ls a o ≡ Some d → InByte d → encode_by names ls a i ≡ Some (map literal (word_of c d ∷ []))
unfolding encode_by bind encode_operation one_or_more branch_row
encoded names ls a i c o ps d e f g near = rw (e, f, g, byte_modulo d near)

-- ---- its place
in_place : (e : Encoder) (base : ℕ) (s : Text) (p : Pass) (l : List Place) → pass_at base s ≡ accepted p → assemble_by size e base s ≡ accepted l
    → {j a : ℕ} {ns : List Text} (line : Text) (i : Instruction) → Reached size base s j a ns → IsLine s j line → (line_of line).task ≡ instruction i
    → (ws : List ℕ) → e p.labels a i ≡ Some (map literal ws) → l ≡ words_before e p j ++ (marked_zero a ws ++ words_after e p j)
unfolding assemble_by and_then code_places_by code_contents_by
in_place e base s p l passed made {j} {a} line i r is k ws w =
    let q : accepted (second_pass_by e p) ≡ accepted l = rw passed at made in
    let c : second_pass_by e p ≡ l = cc in
    let go_on : (line_of line).task ≢ end = λ u. let v = sym k ∙ u in clash cc in
    let places : code_places_by e p.labels (record { address = a; task = (line_of line).task }) ≡ marked_zero a ws = rw (k, w, zero_places a ws) in
    sym c ∙ cut size e base s p passed line r is go_on ∙ ap (λ (x : List Place). words_before e p j ++ (x ++ words_after e p j)) places

pub branches_say_by : BranchesSayBy
unfolding BranchesSayBy marked_zero
branches_say_by names base s p l h f j a i c d b n =
    let g = its_displacement h b.displaces in
    let near = displaced_byte g in
    let w = encoded names p.labels a i c b.first b.others d n.named b.operands (displaced g) near in
    record {
      word = word_of c d;
      list = in_place (encode_by names) base s p l h f b.line i b.reached b.is b.asks (word_of c d ∷ []) w;
      says = says c d n.small near;
    }

-- ---- the eleven
eleven : (c : Condition) (i : Instruction) → i.mnemonic ≡ branch_named c → InUse mnemonics (own_number c) i
unfolding operation_in mnemonics other_mnemonics branches same bytes branch_named own_number
eleven T i e = record { named = rw e refl; small = omega arith }
eleven CC i e = record { named = rw e refl; small = omega arith }
eleven CS i e = record { named = rw e refl; small = omega arith }
eleven NE i e = record { named = rw e refl; small = omega arith }
eleven EQ i e = record { named = rw e refl; small = omega arith }
eleven PL i e = record { named = rw e refl; small = omega arith }
eleven MI i e = record { named = rw e refl; small = omega arith }
eleven GE i e = record { named = rw e refl; small = omega arith }
eleven LT i e = record { named = rw e refl; small = omega arith }
eleven GT i e = record { named = rw e refl; small = omega arith }
eleven LE i e = record { named = rw e refl; small = omega arith }

pub branches_say : BranchesSay
unfolding BranchesSay BranchesSayBy
branches_say base s p l h f j a i c d b n =
    branches_say_by mnemonics base s p l h f j a i c d b (rw n.number (eleven n.condition i n.named))

-- ---- under a table
pub branches_say_under : BranchesSayUnder
unfolding BranchesSayUnder BranchesSayBy ListsUnder
branches_say_under t ns x base s p l h f j a i c d b n =
    branches_say_by (other_mnemonics ++ ns) base s p l h (sym (lists_under t ns x base s) ∙ f) j a i c d b
    (record { named = loaded_name t ns x i.mnemonic c n; small = small t ns x i.mnemonic c n })
